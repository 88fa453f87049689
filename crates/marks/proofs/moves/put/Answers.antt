-- `put` meets its contract: past the end nothing is written.
use mathlib.Core.Path.{sym}
use native.Mathlib.Omega.{arith}
use lib.Seq.{set_out}
use Rattle.marks.proofs.moves.put.Goals as goal

pub returns-else-k-s : goal.returns-else-k-s
returns-else-k-s c =
    let c-if1 = c.if-k-s in
    sym (set_out c.args.s.now c.args.k c.args.v (omega (arith, c-if1.false)))
