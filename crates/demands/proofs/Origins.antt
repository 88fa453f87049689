-- Where an accepted rule comes from: an addition of the list, which some table accepts and which
-- gives this rule. Assumes nothing.
use mathlib.Core.Path.{◌≡◌, refl, sym, ap, ◌∙◌}
use mathlib.Core.Logic.{◌⊎◌, inl, inr}
use mathlib.Core.Bool.{Bool, true, false, cond}
use mathlib.Core.List.Memᴰ
use mathlib.Core.List.{List, [], ◌∷◌, Memᴰ}
use lib.Dec.{eqb}
use borrow.Author.Tests.{eqb-true}
use Rattle.pattern.specs.Walk.{Read, tree, refused}
use Rattle.rules.specs.Add.{Addition, reading_of}
use Rattle.rules.specs.Additions.{Accepted, next_answer, with_new, after_next, accepted_after, accepted_of}
use Rattle.rules.proofs.Additions.{Accepts, accepts}

-- an addition that some table accepts, and the rule that it gives
abbrev pub Gives : Addition → Accepted → Type 0
Gives a r = (rs : List Accepted) × Accepts rs a × (with_new [] a (reading_of a) ≡ r ∷ [])

-- a rule of the list was there before, or the addition gave it
next : (r : Accepted) (rs : List Accepted) (a : Addition) → Memᴰ r (after_next rs a) → Memᴰ r rs ⊎ Gives a r
unfolding after_next with_new
next r rs a m = go (eqb (next_answer rs a).number 0) refl m
  where
    new : Accepts rs a → (d : Read) → reading_of a ≡ d → Memᴰ r (with_new rs a d) → Memᴰ r rs ⊎ Gives a r
    new h (refused number place) e n = inl n
    new h (tree x) e n = elim (Memᴰ.append_cases rs n) [
      | inl k ↦ inl k
      | inr k ↦ inr (rs, h, ap (with_new [] a) e ∙ ap (λ (s : Accepted). s ∷ []) (sym (only k)))
    ]
      where
        only : Memᴰ r (accepted_of a x ∷ []) → r ≡ accepted_of a x
        only k = elim (Memᴰ.cases_cons k) [ inl q ↦ q | inr q ↦ absurd (Memᴰ.not-nil q) ]

    go : (b : Bool) → eqb (next_answer rs a).number 0 ≡ b → Memᴰ r (cond b (with_new rs a (reading_of a)) rs) → Memᴰ r rs ⊎ Gives a r
    go false e n = inl n
    go true e n = new ((accepts rs a).0 (eqb-true (next_answer rs a).number 0 e)) (reading_of a) refl n

pub came : (r : Accepted) (l : List Addition) (rs : List Accepted) → Memᴰ r (accepted_after rs l)
    → Memᴰ r rs ⊎ ((a : Addition) × Memᴰ a l × Gives a r)
unfolding accepted_after
came r [] rs m = inl m
came r (a ∷ l) rs m = later (came r l (after_next rs a) m)
  where
    later : Memᴰ r (after_next rs a) ⊎ ((b : Addition) × Memᴰ b l × Gives b r)
        → Memᴰ r rs ⊎ ((b : Addition) × Memᴰ b (a ∷ l) × Gives b r)
    later (inr (b, n, g)) = inr (b, Memᴰ.tail n, g)
    later (inl n) = elim (next r rs a n) [ inl k ↦ inl k | inr g ↦ inr (a, Memᴰ.head refl, g) ]
