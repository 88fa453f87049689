-- `steps::line::line_walk` meets its contract: each turn joins the rows of the positions of one
-- word of the live set.
use mathlib.Core.Path.{◌≡◌, ap, ◌∙◌}
use mathlib.Core.List.{List}
use Prim.Native.Nat.{ℕ, ◌+◌, ◌*◌, ◌<◌}
use native.Mathlib.Omega.{arith}
use lib.Count.{ones}
use lib.ListN.{get_or}
use Rattle.sets.specs.Set.{has}
use Rattle.sets.proofs.Laws.{Words}
use Rattle.steps.specs.Invariants.{joined}
use Rattle.steps.proofs.Bounds.{words-good}
use Rattle.steps.proofs.Steps.{reached}
use Rattle.steps.proofs.Walked.{walked-word, reached-none}
use Rattle.steps.proofs.line.line_walk.Goals as goal

-- one word more
turn : (t : List ℕ) (rows : ℕ) (live set : List ℕ) (from : List ℕ) (i : ℕ) → Words live → i < 4 → set ≡ reached t rows live (has from) (i * 64)
    → (next : List ℕ) → next ≡ joined t rows (get_or live i 0) (i * 64) set (ones (get_or live i 0)) → next ≡ reached t rows live (has from) ((i + 1) * 64)
turn t rows live set from i own h e next f =
    let end : i * 64 + 64 ≡ (i + 1) * 64 = omega arith in
    f ∙ ap (λ (s : List ℕ). joined t rows (get_or live i 0) (i * 64) s (ones (get_or live i 0))) e
    ∙ walked-word t rows live (has from) i (own.small i h) ∙ ap (reached t rows live (has from)) end

pub loop-i-init : goal.loop-i-init
loop-i-init c =
    let a = c.args in
    reached-none a.words.now a.rows a.live a.from (words-good a.from _ c.well_formed.1.0)

pub loop-i-preserved : goal.loop-i-preserved
loop-i-preserved c =
    let l = c.loop-i in
    let a = c.args in
    turn a.words.now a.rows a.live l.set a.from l.i (words-good a.live _ c.well_formed.0) (omega arith) l.invariant c.walk_word-walked.result.set c.walk_word-walked.ensures.1

pub returns : goal.returns
returns c =
    let a = c.args in
    let e : c.loop-i.i * 64 ≡ 256 = omega arith in
    c.loop-i.invariant ∙ ap (reached a.words.now a.rows a.live (has a.from)) e
