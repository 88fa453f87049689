-- The Bool functions of the automaton are its relations; and the list of items gives each position
-- its byte set. Assumes nothing.
use mathlib.Core.Path.{◌≡◌, refl, sym, subst, subst₂, ap, ◌∙◌}
use mathlib.Core.Logic.{◌⊎◌, ◌↔◌}
use mathlib.Core.Bool.{Bool, ◌&&◌, ◌||◌}
use mathlib.Core.List.{List, ◌++◌, append_assoc}
use Prim.Native.Nat.{ℕ, ◌+◌}
use lib.Dec.{T}
use lib.ListN.{length, get_or, length-append}
use lib.Seq.{get_or-append_seam}
use Rattle.meaning.specs.Form.{Form, eps, take, check, seq, alt, plus, opt, positions}
use Rattle.meaning.specs.Automaton.{null, first, last, follow, items}
use Rattle.meaning.proofs.Relations.{Null, First, Last, Follow, Takes}
use Rattle.meaning.proofs.Logic.{eq-T, iff-both, iff-either}

module _ {C A : Type 0} (w : A → Bool) where
  pub null-T : (f : Form C A) → T (null w f) ↔ Null w f
  unfolding null Null
  null-T eps = (λ h. tt, λ h. tt)
  null-T (take c) = (λ h. h, λ h. h)
  null-T (check a) = (λ h. h, λ h. h)
  null-T (seq f g) = iff-both (null w f) (null w g) (null-T f) (null-T g)
  null-T (alt f g) = iff-either (null w f) (null w g) (null-T f) (null-T g)
  null-T (plus f) = null-T f
  null-T (opt f) = (λ h. tt, λ h. tt)

  pub first-T : (f : Form C A) (b q : ℕ) → T (first w f b q) ↔ First w f b q
  unfolding first First
  first-T eps b q = (λ h. h, λ h. h)
  first-T (take c) b q = eq-T q b
  first-T (check a) b q = (λ h. h, λ h. h)
  first-T (seq f g) b q = iff-either (first w f b q) (null w f && first w g (b + positions f) q) (first-T f b q)
      (iff-both (null w f) (first w g (b + positions f) q) (null-T f) (first-T g (b + positions f) q))
  first-T (alt f g) b q = iff-either (first w f b q) (first w g (b + positions f) q) (first-T f b q) (first-T g (b + positions f) q)
  first-T (plus f) b q = first-T f b q
  first-T (opt f) b q = first-T f b q

  pub last-T : (f : Form C A) (b q : ℕ) → T (last w f b q) ↔ Last w f b q
  unfolding last Last
  last-T eps b q = (λ h. h, λ h. h)
  last-T (take c) b q = eq-T q b
  last-T (check a) b q = (λ h. h, λ h. h)
  last-T (seq f g) b q = iff-either (last w f b q && null w g) (last w g (b + positions f) q)
      (iff-both (last w f b q) (null w g) (last-T f b q) (null-T g)) (last-T g (b + positions f) q)
  last-T (alt f g) b q = iff-either (last w f b q) (last w g (b + positions f) q) (last-T f b q) (last-T g (b + positions f) q)
  last-T (plus f) b q = last-T f b q
  last-T (opt f) b q = last-T f b q

  pub follow-T : (f : Form C A) (b p q : ℕ) → T (follow w f b p q) ↔ Follow w f b p q
  unfolding follow Follow
  follow-T eps b p q = (λ h. h, λ h. h)
  follow-T (take c) b p q = (λ h. h, λ h. h)
  follow-T (check a) b p q = (λ h. h, λ h. h)
  follow-T (seq f g) b p q =
      let k : ℕ = b + positions f in
      three (follow w f b p q) (follow w g k p q) (last w f b p && first w g k q) (follow-T f b p q) (follow-T g k p q)
      (iff-both (last w f b p) (first w g k q) (last-T f b p) (first-T g k q))
    where
      three : {X Y Z : Type 0} (a b c : Bool) → T a ↔ X → T b ↔ Y → T c ↔ Z → T (a || (b || c)) ↔ (X ⊎ Y ⊎ Z)
      three a b c p q r = iff-either a (b || c) p (iff-either b c q r)
  follow-T (alt f g) b p q = iff-either (follow w f b p q) (follow w g (b + positions f) p q) (follow-T f b p q) (follow-T g (b + positions f) p q)
  follow-T (plus f) b p q = iff-either (follow w f b p q) (last w f b p && first w f b q) (follow-T f b p q)
      (iff-both (last w f b p) (first w f b q) (last-T f b p) (first-T f b q))
  follow-T (opt f) b p q = follow-T f b p q

-- The byte sets of the positions, as they stand in a longer list.
module _ {C A : Type 0} where
  pub items-length : (f : Form C A) → length (items f) ≡ positions f
  unfolding items positions
  items-length eps = refl
  items-length (take c) = refl
  items-length (check a) = refl
  items-length (seq f g) = length-append (items f) (items g) ∙ cc (items-length f, items-length g)
  items-length (alt f g) = length-append (items f) (items g) ∙ cc (items-length f, items-length g)
  items-length (plus f) = items-length f
  items-length (opt f) = items-length f

  two : (d : C) (f g : Form C A) (pre post : List C)
      → ((x y : List C) → Takes (λ q. get_or (x ++ (items f ++ y)) q d) f (length x)) → ((x y : List C) → Takes (λ q. get_or (x ++ (items g ++ y)) q d) g (length x))
      → Takes (λ q. get_or (pre ++ ((items f ++ items g) ++ post)) q d) f (length pre)
      × Takes (λ q. get_or (pre ++ ((items f ++ items g) ++ post)) q d) g (length pre + positions f)
  two d f g pre post a b =
      let e1 : pre ++ ((items f ++ items g) ++ post) ≡ pre ++ (items f ++ (items g ++ post)) = ap (λ (l : List C). pre ++ l) (append_assoc (items f) (items g) post) in
      let e2 : pre ++ (items f ++ (items g ++ post)) ≡ (pre ++ items f) ++ (items g ++ post) = sym (append_assoc pre (items f) (items g ++ post)) in
      let n : length (pre ++ items f) ≡ length pre + positions f = length-append pre (items f) ∙ ap (λ (k : ℕ). length pre + k) (items-length f) in (
        subst (λ (l : List C). Takes (λ q. get_or l q d) f (length pre)) (sym e1) (a pre (items g ++ post)),
        subst₂ (λ (l : List C) (k : ℕ). Takes (λ q. get_or l q d) g k) (sym (e1 ∙ e2)) n (b (pre ++ items f) post),
      )

  pub items-agree : (d : C) (f : Form C A) (pre post : List C) → Takes (λ q. get_or (pre ++ (items f ++ post)) q d) f (length pre)
  unfolding items Takes positions
  items-agree d eps pre post = tt
  items-agree d (take c) pre post = get_or-append_seam pre c post d
  items-agree d (check a) pre post = tt
  items-agree d (seq f g) pre post = two d f g pre post (λ x y. items-agree d f x y) (λ x y. items-agree d g x y)
  items-agree d (alt f g) pre post = two d f g pre post (λ x y. items-agree d f x y) (λ x y. items-agree d g x y)
  items-agree d (plus f) pre post = items-agree d f pre post
  items-agree d (opt f) pre post = items-agree d f pre post
