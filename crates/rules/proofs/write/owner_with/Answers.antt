-- `rules::write::owner_with` meets its contract: each return is one case of the definition.
use Prim.Native.Nat.{◌+◌}
use borrow.Author.Tests.{lt-ltb, le-ltb}
use Rattle.table.specs.Layout.{max_rules}
use Rattle.rules.specs.Words.{raised, owner_with}
use Rattle.rules.proofs.write.owner_with.Goals as goal

pub returns-then-o-k : goal.returns-then-o-k
unfolding owner_with raised
returns-then-o-k c =
    let a = c.args in
    rw (lt-ltb a.q a.span.n c.if-q-span.true, lt-ltb a.o a.k c.if-o-k.true)

pub returns-then-o-lt-MAX_RULES : goal.returns-then-o-lt-MAX_RULES
unfolding owner_with raised
returns-then-o-lt-MAX_RULES c =
    let a = c.args in
    rw (lt-ltb a.q a.span.n c.if-q-span.true, le-ltb a.o a.k c.if-o-k.false, lt-ltb a.o max_rules c.if-o-lt-MAX_RULES.true)

pub returns-then-q-span : goal.returns-then-q-span
unfolding owner_with raised
returns-then-q-span c =
    let a = c.args in
    rw (lt-ltb a.q a.span.n c.if-q-span.true, le-ltb a.o a.k c.if-o-k.false, le-ltb a.o max_rules c.if-o-lt-MAX_RULES.false)

pub returns-then-q-span-2 : goal.returns-then-q-span-2
unfolding owner_with
returns-then-q-span-2 c =
    let a = c.args in
    rw (le-ltb a.q a.span.n c.if-q-span.false, lt-ltb a.q (a.span.n + a.span.more) c.if-q-span-2.true)

pub returns : goal.returns
unfolding owner_with
returns c =
    let a = c.args in
    rw (le-ltb a.q a.span.n c.if-q-span.false, le-ltb a.q (a.span.n + a.span.more) c.if-q-span-2.false)
