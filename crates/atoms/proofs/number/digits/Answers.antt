-- `atoms::number::digits` meets its contract. The invariant: the bytes before the place are digits,
-- and make the value, cut to the cap.
use Rattle.std.proofs.Common.{◌∙◌, arith, sym}
use Rattle.atoms.proofs.Digits.{read_more, read_done, read-all}
use Rattle.atoms.proofs.number.digits.Goals as goal

pub returns-in_default : goal.returns-in_default
returns-in_default c =
    let loop = c.loop-size in
    read_done c.args.base c.args.s.now c.requires.1 loop.size loop.value loop.invariant (sym c.in_default.ensures)

pub loop-size-preserved : goal.loop-size-preserved
loop-size-preserved c =
    let loop = c.loop-size in
    read_more c.args.base c.args.s.now c.requires.1 loop.size loop.value loop.invariant
    c.in-Some.digit c.min.result c.requires.0 (sym c.in-Some.ensures)
    (c.min.ensures ∙ rw c.unwrap_or.ensures (omega arith))

pub returns : goal.returns
returns c =
    let loop = c.loop-size in
    read-all c.args.base c.args.s.now c.requires.1 loop.size loop.value loop.invariant (omega arith)
