-- `entered` meets its contract: through the front, or round.
use mathlib.Core.Path.{ap₂, ◌∙◌}
use Prim.Native.Nat.{ℕ, min}
use Rattle.marks.proofs.Passes.{through}
use Rattle.marks.proofs.moves.entered.Goals as goal

pub returns : goal.returns
returns c =
    let a = c.args in
    let front = through a.parts.now a.j 5 a.g c.word.ensures c.has.ensures c.word-2.ensures c.only-come.ensures in
    let round = through a.parts.now a.j 7 a.g c.word-3.ensures c.has-2.ensures c.word-4.ensures c.only.ensures in
    c.least.ensures ∙ ap₂ (λ (x y : ℕ). min x y) front round
