-- `classes::classes::members_at` meets its contract. The invariant: the members from i on, with
-- what was collected, give the class that is asked for. Each turn reads a mark or a member and goes
-- on after it; the measure is what is left of the bytes.
use mathlib.Core.Path.{sym, ap, ◌∙◌}
use mathlib.Core.Bool.{true, false}
use mathlib.Core.List.{List}
use Prim.Native.Nat.{ℕ}
use native.Mathlib.Omega.{arith}
use lib.ListN.{drop}
use Rattle.classes.specs.Class.{members_of}
use Rattle.atoms.proofs.Gaps.{mark-inside}
use Rattle.classes.proofs.Ranges.{members-end, members-mark, members-close, told-refused, told-advances, told-more}
use Rattle.classes.proofs.classes.members_at.Goals as goal

pub loop-i-init : goal.loop-i-init
loop-i-init c =
    let args = c.args in
    let s = args.s.now in
    let at = args.at in
    ap (λ (x : List ℕ). members_of args.caseless args.negated true false x 0 (drop at s) at) c.empty-set.ensures

pub overflow_add-i : goal.overflow_add-i
overflow_add-i c =
    let args = c.args in
    let s = args.s.now in
    let peek = c.peek-d in
    let loop = c.loop-i in
    let mark = rw peek.ensures at (sym c.is_mark.ensures ∙ c.if-is_mark.true) in
    omega (arith, mark-inside s loop.i loop.quoted mark)

pub loop-i-smaller-then-is_mark : goal.loop-i-smaller-then-is_mark
loop-i-smaller-then-is_mark c =
    let args = c.args in
    let s = args.s.now in
    let peek = c.peek-d in
    let loop = c.loop-i in
    let mark = rw peek.ensures at (sym c.is_mark.ensures ∙ c.if-is_mark.true) in
    omega (arith, mark-inside s loop.i loop.quoted mark)

pub loop-i-preserved-then-is_mark : goal.loop-i-preserved-then-is_mark
loop-i-preserved-then-is_mark c =
    let args = c.args in
    let s = args.s.now in
    let peek = c.peek-d in
    let loop = c.loop-i in
    let mark = rw peek.ensures at (sym c.is_mark.ensures ∙ c.if-is_mark.true) in
    rw peek.ensures (sym (members-mark args.caseless args.negated loop.first loop.quoted loop.set s loop.i mark) ∙ loop.invariant)

pub returns-then-c-first : goal.returns-then-c-first
returns-then-c-first c =
    let args = c.args in
    let s = args.s.now in
    let peek = c.peek-d in
    let loop = c.loop-i in
    let mark = rw peek.ensures at (sym c.is_mark.ensures ∙ c.if-is_mark.false) in
    rw c.settle.ensures
    (sym (members-close args.caseless args.negated loop.first loop.quoted loop.set s loop.i
    c.loop-i-test.true mark c.if-c-first.true) ∙ loop.invariant)

pub returns-in-Err : goal.returns-in-Err
returns-in-Err c =
    let loop = c.loop-i in
    let mark = rw c.peek-d.ensures at (sym c.is_mark.ensures ∙ c.if-is_mark.false) in
    sym (told-refused c.args.s.now loop.i c.args.caseless loop.quoted c.member_at-m.result c.member_at-m.ensures c.loop-i-test.true
    c.in-Err.refusal c.in-Err.is c.args.negated loop.first loop.set mark c.if-c-first.false)
    ∙ loop.invariant

pub overflow_add-i-else-is_mark : goal.overflow_add-i-else-is_mark
overflow_add-i-else-is_mark c =
    let loop = c.loop-i in
    let more = told-advances c.args.s.now loop.i c.args.caseless loop.quoted c.member_at-m.result c.member_at-m.ensures c.loop-i-test.true
    c.in-Ok.ends c.in-Ok.is in
    omega (arith, more.1, c.well_formed)

pub loop-i-smaller : goal.loop-i-smaller
loop-i-smaller c =
    let loop = c.loop-i in
    let more = told-advances c.args.s.now loop.i c.args.caseless loop.quoted c.member_at-m.result c.member_at-m.ensures c.loop-i-test.true
    c.in-Ok.ends c.in-Ok.is in
    omega (arith, more.0, more.1)

pub loop-i-preserved : goal.loop-i-preserved
loop-i-preserved c =
    let loop = c.loop-i in
    let mark = rw c.peek-d.ensures at (sym c.is_mark.ensures ∙ c.if-is_mark.false) in
    rw c.join-more.ensures
    (sym (told-more c.args.s.now loop.i c.args.caseless loop.quoted c.member_at-m.result c.member_at-m.ensures c.loop-i-test.true
    c.in-Ok.ends c.in-Ok.is c.args.negated loop.first loop.set mark c.if-c-first.false)
    ∙ loop.invariant)

pub returns : goal.returns
returns c =
    let args = c.args in
    let s = args.s.now in
    let loop = c.loop-i in
    sym (members-end args.caseless args.negated loop.first loop.quoted loop.set s loop.i c.loop-i-test.false)
    ∙ loop.invariant
