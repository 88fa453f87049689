-- `rows::put` meets its contract: four stores one after the other.
use Prim.Native.Nat.{◌*◌}
use lib.ListN.{get_or}
use Rattle.automaton.proofs.Words.{four-to}
use Rattle.automaton.proofs.rows.put.Goals as goal

pub returns : goal.returns
returns c =
    let s = c.args.s in
    four-to c.args.rows.now (c.args.p * 4) (get_or s 0 0) (get_or s 1 0) (get_or s 2 0) (get_or s 3 0)
