-- `lines::decimal_of` meets its contract: it calls itself with a smaller number, whose digits leave
-- room for one more.
use native.Mathlib.Omega.{arith}
use Rattle.lines.proofs.Decimals.{written_one, room-left, written-more}
use Rattle.lines.proofs.+decimal_of.Goals as goal

pub returns-then-n-lt10 : goal.returns-then-n-lt10
returns-then-n-lt10 t c = written_one c.args.n c.digit.result c.if-n-lt10.true c.digit.ensures

pub bounds-digits-last : goal.bounds-digits-last
bounds-digits-last t c = room-left c.args.n c.if-n-lt10.false (omega arith) c.decimal_of-front.result c.decimal_of-front.ensures

pub overflow_add-size : goal.overflow_add-size
overflow_add-size t c =
    omega (arith, room-left c.args.n c.if-n-lt10.false (omega arith) c.decimal_of-front.result c.decimal_of-front.ensures)

pub returns : goal.returns
returns t c =
    written-more c.args.n c.if-n-lt10.false (omega arith) c.decimal_of-front.result c.decimal_of-front.ensures
    c.digit-2.result c.digit-2.ensures
