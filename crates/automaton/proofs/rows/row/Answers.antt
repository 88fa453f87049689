-- `rows::row` meets its contract: four words read one by one.
use mathlib.Core.Path.{sym}
use Prim.Native.Nat.{◌*◌}
use Rattle.automaton.proofs.Words.{four-from}
use Rattle.automaton.proofs.rows.row.Goals as goal

pub returns : goal.returns
returns c =
    sym (four-from c.args.rows.now (c.args.p * 4))
