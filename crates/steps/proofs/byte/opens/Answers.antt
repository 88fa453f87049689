-- `steps::byte::opens` meets its contract: each byte has its word.
use mathlib.Core.Path.{ap, ◌∙◌}
use mathlib.Core.Bool.{not}
use Prim.Native.Nat.{ℕ}
use native.Mathlib.Omega.{arith}
use lib.Dec.{eqb}
use Rattle.steps.proofs.Steps.{opens-word}
use Rattle.steps.proofs.byte.opens.Goals as goal

pub returns : goal.returns
returns c =
    let a = c.args in
    ap (λ (x : ℕ). not (eqb x 0)) c.word.ensures ∙ opens-word a.words.now a.byte (omega arith)
