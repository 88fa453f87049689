-- `then` meets its contract: a door is narrowed where one piece takes no byte, else a new row.
use mathlib.Core.Path.{refl}
use native.Mathlib.Omega.{arith}
use Rattle.marks.proofs.Made.{rows-some, some-second, seq-none, seq-front, seq-back, seq-pair}
use Rattle.marks.proofs.write_out.then.Goals as goal

pub returns-then-f-g : goal.returns-then-f-g
returns-then-f-g c =
    (refl, seq-none c.args.f c.args.g c.args.at c.args.out.now c.if-f-g.true)

pub overflow_add-at : goal.overflow_add-at
overflow_add-at c =
    omega (arith, c.requires.rows, rows-some c.args.g.size (some-second c.args.f c.args.g c.args.at c.args.out.now c.if-f-g.false c.if-f-eq0.true), c.rows.ensures)

pub overflow_sub-at : goal.overflow_sub-at
overflow_sub-at c =
    omega (arith, rows-some c.args.g.size (some-second c.args.f c.args.g c.args.at c.args.out.now c.if-f-g.false c.if-f-eq0.true), c.rows.ensures)

pub narrow-requires : goal.narrow-requires
narrow-requires c =
    (omega (arith, c.requires.rows, rows-some c.args.g.size (some-second c.args.f c.args.g c.args.at c.args.out.now c.if-f-g.false c.if-f-eq0.true), c.rows.ensures), omega arith)

pub returns-then-f-eq0 : goal.returns-then-f-eq0
returns-then-f-eq0 c =
    (refl, seq-front c.args.f c.args.g c.args.at c.args.out.now c.if-f-g.false c.if-f-eq0.true c.rows.ensures c.narrow.ensures)

pub overflow_add-at-then-g-eq0 : goal.overflow_add-at-then-g-eq0
overflow_add-at-then-g-eq0 c =
    omega (arith, c.requires.rows, rows-some c.args.f.size c.if-f-eq0.false, c.rows-then-g-eq0.ensures)

pub overflow_sub-at-then-g-eq0 : goal.overflow_sub-at-then-g-eq0
overflow_sub-at-then-g-eq0 c =
    omega (arith, rows-some c.args.f.size c.if-f-eq0.false, c.rows-then-g-eq0.ensures)

pub narrow-requires-then-g-eq0 : goal.narrow-requires-then-g-eq0
narrow-requires-then-g-eq0 c =
    (omega (arith, c.requires.rows, rows-some c.args.f.size c.if-f-eq0.false, c.rows-then-g-eq0.ensures), omega arith)

pub returns-then-g-eq0 : goal.returns-then-g-eq0
returns-then-g-eq0 c =
    (refl, seq-back c.args.f c.args.g c.args.at c.args.out.now c.if-f-eq0.false c.if-g-eq0.true c.rows-then-g-eq0.ensures c.narrow-then-g-eq0.ensures)

pub overflow_add-left : goal.overflow_add-left
overflow_add-left c =
    omega (arith, c.requires.rows, rows-some c.args.f.size c.if-f-eq0.false, c.rows-2.ensures)

pub overflow_add-right : goal.overflow_add-right
overflow_add-right c =
    omega (arith, c.requires.rows, rows-some c.args.f.size c.if-f-eq0.false, rows-some c.args.g.size c.if-g-eq0.false, c.rows-2.ensures, c.rows-3.ensures)

pub overflow_sub-left : goal.overflow_sub-left
overflow_sub-left c =
    omega (arith, rows-some c.args.f.size c.if-f-eq0.false, rows-some c.args.g.size c.if-g-eq0.false, c.rows-2.ensures, c.rows-3.ensures)

pub overflow_sub-right : goal.overflow_sub-right
overflow_sub-right c =
    omega (arith, rows-some c.args.f.size c.if-f-eq0.false, rows-some c.args.g.size c.if-g-eq0.false, c.rows-2.ensures, c.rows-3.ensures)

pub put-requires : goal.put-requires
put-requires c =
    omega (arith, c.requires.rows, rows-some c.args.f.size c.if-f-eq0.false, rows-some c.args.g.size c.if-g-eq0.false, c.rows-2.ensures, c.rows-3.ensures)

pub returns : goal.returns
returns c =
    (refl, seq-pair c.args.f c.args.g c.args.at c.args.out.now c.if-f-eq0.false c.if-g-eq0.false c.rows-2.ensures c.rows-3.ensures c.put.ensures)
