-- `read_at` meets its contract: it hands the bytes from the place on to `read_all`, and past the
-- end there are none.
use mathlib.Core.Path.{◌≡◌, sym, ap, ◌∙◌}
use mathlib.Core.List.{List}
use mathlib.Core.Logic.{⊎_elim}
use Prim.Native.Nat.{ℕ, min, ◌≤◌}
use native.Mathlib.Omega.{arith}
use borrow.Author.Rules.{part_to_end}
use lib.ListN.{length, drop, drop_of_length-le}
use Rattle.pattern.specs.Read.{limited_read, options_of, answer_of}
use Rattle.pattern.proofs.Base.{by-lt}
use Rattle.pattern.proofs.read_at.Goals as goal

-- past the end nothing follows
clamped : (s : List ℕ) (at : ℕ) → drop (min at (length s)) s ≡ drop at s
clamped s at =
    ⊎_elim (λ h. let e : min at (length s) ≡ at = omega arith in ap (λ (i : ℕ). drop i s) e)
    (λ h. let e : length s ≤ min at (length s) = omega arith in drop_of_length-le s e ∙ sym (drop_of_length-le s h)) (by-lt at (length s))

pub returns : goal.returns
returns c =
    let x = c.args in
    c.read_all.ensures
    ∙ ap (λ (l : List ℕ). answer_of (limited_read l (options_of x.flags)))
    (part_to_end x.s.now c.min.result ∙ ap (λ (i : ℕ). drop i x.s.now) c.min.ensures ∙ clamped x.s.now x.at)
