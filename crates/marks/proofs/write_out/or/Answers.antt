-- `or` meets its contract: a new row where both pieces have one.
use mathlib.Core.Path.{refl}
use native.Mathlib.Omega.{arith}
use Rattle.marks.proofs.Made.{rows-some, rows-most, some-both, alt-none, alt-pair}
use Rattle.marks.proofs.write_out.or.Goals as goal

pub returns-then-f-g : goal.returns-then-f-g
returns-then-f-g c =
    (refl, alt-none c.args.f c.args.g c.args.at c.args.out.now c.if-f-g.true)

pub overflow_add-left : goal.overflow_add-left
overflow_add-left c =
    omega (arith, c.requires.rows, rows-most c.args.f.size, c.rows.ensures)

pub overflow_add-right : goal.overflow_add-right
overflow_add-right c =
    omega (arith, c.requires.rows, rows-some c.args.f.size (some-both c.args.f c.args.g c.args.at c.args.out.now c.if-f-g.false).0, rows-some c.args.g.size (some-both c.args.f c.args.g c.args.at c.args.out.now c.if-f-g.false).1, c.rows.ensures, c.rows-2.ensures)

pub overflow_sub-left : goal.overflow_sub-left
overflow_sub-left c =
    omega (arith, rows-some c.args.f.size (some-both c.args.f c.args.g c.args.at c.args.out.now c.if-f-g.false).0, rows-some c.args.g.size (some-both c.args.f c.args.g c.args.at c.args.out.now c.if-f-g.false).1, c.rows.ensures, c.rows-2.ensures)

pub overflow_sub-right : goal.overflow_sub-right
overflow_sub-right c =
    omega (arith, rows-some c.args.f.size (some-both c.args.f c.args.g c.args.at c.args.out.now c.if-f-g.false).0, rows-some c.args.g.size (some-both c.args.f c.args.g c.args.at c.args.out.now c.if-f-g.false).1, c.rows.ensures, c.rows-2.ensures)

pub put-requires : goal.put-requires
put-requires c =
    omega (arith, c.requires.rows, rows-some c.args.f.size (some-both c.args.f c.args.g c.args.at c.args.out.now c.if-f-g.false).0, rows-some c.args.g.size (some-both c.args.f c.args.g c.args.at c.args.out.now c.if-f-g.false).1, c.rows.ensures, c.rows-2.ensures)

pub returns : goal.returns
returns c =
    (refl, alt-pair c.args.f c.args.g c.args.at c.args.out.now c.if-f-g.false c.rows.ensures c.rows-2.ensures c.put.ensures)
