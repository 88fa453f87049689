-- `classes::names::name_at` meets its contract: the byte at the place is `^` or not.
use native.Mathlib.Omega.{arith}
use borrow.Author.Tests.{eq-eqb, ne_eqb}
use Rattle.atoms.proofs.Suffixes.{inside}
use Rattle.classes.proofs.Spellings.{name-is}
use Rattle.classes.proofs.names.name_at.Goals as goal

pub overflow_add-at : goal.overflow_add-at
overflow_add-at c =
    let args = c.args in
    let s = args.s.now in
    let at = args.at in
    omega (arith, inside s at (λ z. omega (arith, c.peek.ensures)))

pub name_among-requires : goal.name_among-requires
name_among-requires c =
    let args = c.args in
    let s = args.s.now in
    let at = args.at in
    (omega (arith, inside s at (λ z. omega (arith, c.peek.ensures))), omega arith)

pub returns-then-peek-eq94 : goal.returns-then-peek-eq94
returns-then-peek-eq94 c =
    let args = c.args in
    let s = args.s.now in
    let at = args.at in
    let peek = c.peek in
    rw (name-is args.caseless s at peek.result peek.ensures, eq-eqb _ 94 c.if-peek-eq94.true) c.name_among.ensures

pub name_among-requires-2 : goal.name_among-requires-2
name_among-requires-2 c = (c.requires, omega arith)

pub returns : goal.returns
returns c =
    let args = c.args in
    let s = args.s.now in
    let at = args.at in
    let peek = c.peek in
    rw (name-is args.caseless s at peek.result peek.ensures, ne_eqb _ 94 c.if-peek-eq94.false) c.name_among-2.ensures
