-- Sides and assertions are few, so a statement about all of them is one test, which is computed.
use mathlib.Core.Path.{◌≡◌, refl, sym, ap, ◌∙◌}
use mathlib.Core.Bool.{Bool, true, false, true≢false, not, ◌&&◌}
use mathlib.Core.List.{List, [], ◌∷◌, Memᴰ}
use Rattle.kinds.specs.declared.Side.{Side}
use Rattle.kinds.specs.declared.Side.TheVariants.{Other, Word, Newline}
use Rattle.meaning.specs.Rule.{Assertion, at_start, at_end, at_last_line, line_start, line_end, word_edge, no_word_edge}

module _ {A : Type 0} (f : A → Bool) where
  abbrev all : List A → Bool
  all [] = true
  all (x ∷ l) = f x && all l

  all-at : (l : List A) → all l ≡ true → (x : A) → Memᴰ x l → f x ≡ true
  all-at [] t x m = elim m [ ]
  all-at (y ∷ l) t x (Memᴰ.head e) = ap f e ∙ first (f y) t
    where
      first : (a : Bool) → (a && all l) ≡ true → a ≡ true
      first true t = refl
      first false t = t
  all-at (y ∷ l) t x (Memᴰ.tail m) = all-at l (rest (f y) t) x m
    where
      rest : (a : Bool) → (a && all l) ≡ true → all l ≡ true
      rest true t = t
      rest false t = absurd (true≢false (sym t))

-- ---- every side

abbrev sides : List Side
sides = Other ∷ Word ∷ Newline ∷ []

abbrev pub every_side : (Side → Bool) → Bool
every_side f = all f sides

pub at_side : (f : Side → Bool) → every_side f ≡ true → (s : Side) → f s ≡ true
at_side f t Other = all-at f sides t Other (Memᴰ.head refl)
at_side f t Word = all-at f sides t Word (Memᴰ.tail (Memᴰ.head refl))
at_side f t Newline = all-at f sides t Newline (Memᴰ.tail (Memᴰ.tail (Memᴰ.head refl)))

-- ---- every assertion: two worlds in which the same hold

abbrev same : Bool → Bool → Bool
same true b = b
same false b = not b

same-is : (a b : Bool) → same a b ≡ true → a ≡ b
same-is true b t = sym t
same-is false true t = absurd (true≢false (sym t))
same-is false false t = refl

abbrev assertions : List Assertion
assertions = at_start ∷ at_end ∷ at_last_line ∷ line_start ∷ line_end ∷ word_edge ∷ no_word_edge ∷ []

in-assertions : (a : Assertion) → Memᴰ a assertions
in-assertions at_start = Memᴰ.head refl
in-assertions at_end = Memᴰ.tail (Memᴰ.head refl)
in-assertions at_last_line = Memᴰ.tail (Memᴰ.tail (Memᴰ.head refl))
in-assertions line_start = Memᴰ.tail (Memᴰ.tail (Memᴰ.tail (Memᴰ.head refl)))
in-assertions line_end = Memᴰ.tail (Memᴰ.tail (Memᴰ.tail (Memᴰ.tail (Memᴰ.head refl))))
in-assertions word_edge = Memᴰ.tail (Memᴰ.tail (Memᴰ.tail (Memᴰ.tail (Memᴰ.tail (Memᴰ.head refl)))))
in-assertions no_word_edge = Memᴰ.tail (Memᴰ.tail (Memᴰ.tail (Memᴰ.tail (Memᴰ.tail (Memᴰ.tail (Memᴰ.head refl))))))

module _ (v w : Assertion → Bool) where
  abbrev pub agree : Bool
  agree = all (λ a. same (v a) (w a)) assertions

  pub agreed : agree ≡ true → (a : Assertion) → v a ≡ w a
  agreed t a = same-is (v a) (w a) (all-at (λ a. same (v a) (w a)) assertions t a (in-assertions a))
