-- The lowest number among the rows of the table that hold of one token. The lower of two such
-- numbers is that of the rows of both, since each row's number is below those after it. Assumes
-- nothing.
use mathlib.Core.Path.{◌≡◌, refl, ap, ◌∙◌}
use mathlib.Core.Bool.{Bool, true, false, cond, ◌||◌, or-false}
use Prim.Native.Nat.{ℕ, ◌≤◌, ◌<◌, min}
use native.Mathlib.Omega.{arith}
use borrow.Author.Tests.{eqb-false, ne_eqb}
use lib.Dec.{eqb}
use Rattle.atoms.specs.Fault.{lower}
use Rattle.pattern.proofs.Base.{either, split, true-not-false}

-- the rows 6, 7, 9, 10, 11, 14 and 23, which are those of a token: the number of the first that
-- holds, 0 where none does
abbrev pub lowest : (r6 r7 r9 r10 r11 r14 r23 : Bool) → ℕ
lowest r6 r7 r9 r10 r11 r14 r23 = cond r6 6 (cond r7 7 (cond r9 9 (cond r10 10 (cond r11 11 (cond r14 14 (cond r23 23 0))))))

-- ---- the lower of two

Above : ℕ → ℕ → Type 0
Above k r = (r ≡ 0 → ⊥) → k < r

above-none : (k : ℕ) → Above k 0
unfolding Above
above-none k h = absurd (h refl)

above-row : (k j r : ℕ) (b : Bool) → k < j → Above k r → Above k (cond b j r)
unfolding Above
above-row k j r true l h n = l
above-row k j r false l h n = h n

merge : (k r s : ℕ) (a b : Bool) → 0 < k → Above k r → Above k s → lower (cond a k r) (cond b k s) ≡ cond (a || b) k (lower r s)
unfolding lower Above
merge k r s true true z h i = let e : min k k ≡ k = omega arith in rw (ne_eqb k 0 (λ y. omega arith), e)
merge k r s true false z h i =
    rw (ne_eqb k 0 (λ y. omega arith))
    (split (eqb s 0) (λ e. rw e) (λ e. let l : k < s = i (eqb-false s 0 e) in let m : min k s ≡ k = omega arith in rw (e, m)))
merge k r s false true z h i =
    rw (ne_eqb k 0 (λ y. omega arith))
    (split (eqb r 0) (λ e. rw e) (λ e. let l : k < r = h (eqb-false r 0 e) in let m : min r k ≡ k = omega arith in rw (e, m)))
merge k r s false false z h i = refl

module _ (a b c d e f g : Bool) where
  above23 : Above 14 (cond g 23 0)
  above23 = above-row 14 23 _ g (omega arith) (above-none 14)

  above14 : Above 11 (cond f 14 (cond g 23 0))
  above14 = above-row 11 14 _ f (omega arith) (above-row 11 23 _ g (omega arith) (above-none 11))

  above11 : Above 10 (cond e 11 (cond f 14 (cond g 23 0)))
  above11 = above-row 10 11 _ e (omega arith) (above-row 10 14 _ f (omega arith) (above-row 10 23 _ g (omega arith) (above-none 10)))

  above10 : Above 9 (cond d 10 (cond e 11 (cond f 14 (cond g 23 0))))
  above10 = above-row 9 10 _ d (omega arith) (above-row 9 11 _ e (omega arith) (above-row 9 14 _ f (omega arith) (above-row 9 23 _ g (omega arith) (above-none 9))))

  above9 : Above 7 (cond c 9 (cond d 10 (cond e 11 (cond f 14 (cond g 23 0)))))
  above9 = above-row 7 9 _ c (omega arith) (above-row 7 10 _ d (omega arith) (above-row 7 11 _ e (omega arith) (above-row 7 14 _ f (omega arith) (above-row 7 23 _ g (omega arith) (above-none 7)))))

  above7 : Above 6 (cond b 7 (cond c 9 (cond d 10 (cond e 11 (cond f 14 (cond g 23 0))))))
  above7 = above-row 6 7 _ b (omega arith) (above-row 6 9 _ c (omega arith) (above-row 6 10 _ d (omega arith) (above-row 6 11 _ e (omega arith) (above-row 6 14 _ f (omega arith) (above-row 6 23 _ g (omega arith) (above-none 6))))))

pub both : (a b c d e f g u v w x y z q : Bool)
    → lower (lowest a b c d e f g) (lowest u v w x y z q) ≡ lowest (a || u) (b || v) (c || w) (d || x) (e || y) (f || z) (g || q)
unfolding lower
both a b c d e f g u v w x y z q =
    merge 6 _ _ a u (omega arith) (above7 a b c d e f g) (above7 u v w x y z q)
    ∙ ap (cond (a || u) 6)
    (merge 7 _ _ b v (omega arith) (above9 a b c d e f g) (above9 u v w x y z q)
    ∙ ap (cond (b || v) 7)
    (merge 9 _ _ c w (omega arith) (above10 a b c d e f g) (above10 u v w x y z q)
    ∙ ap (cond (c || w) 9)
    (merge 10 _ _ d x (omega arith) (above11 a b c d e f g) (above11 u v w x y z q)
    ∙ ap (cond (d || x) 10)
    (merge 11 _ _ e y (omega arith) (above14 a b c d e f g) (above14 u v w x y z q)
    ∙ ap (cond (e || y) 11)
    (merge 14 _ _ f z (omega arith) (above23 a b c d e f g) (above23 u v w x y z q)
    ∙ ap (cond (f || z) 14) (merge 23 0 0 g q (omega arith) (above-none 23) (above-none 23)))))))

-- row 23 comes after the others
pub last_row : (a b c d e f r : Bool) → lower (lowest a b c d e f false) (cond r 23 0) ≡ lowest a b c d e f r
unfolding lower
last_row a b c d e f r =
    both a b c d e f false false false false false false false r
    ∙ rw (or-false a, or-false b, or-false c, or-false d, or-false e, or-false f)

-- ---- the number is that of a row, and of the lowest

-- a claim of the lowest number, by the row that has it
pub by_row : (G : ℕ → Type 0) (a b c d e f g : Bool)
    → (a ≡ true → G 6) → (b ≡ true → G 7) → (c ≡ true → G 9) → (d ≡ true → G 10) → (e ≡ true → G 11) → (f ≡ true → G 14) → (g ≡ true → G 23) → G 0
    → G (lowest a b c d e f g)
by_row G a b c d e f g ga gb gc gd ge gf gg g0 =
    either G a ga
    (λ x. either G b gb (λ x. either G c gc (λ x. either G d gd (λ x. either G e ge (λ x. either G f gf (λ x. either G g gg (λ x. g0)))))))

-- a fault, and its number is at most n
pub record AtMost (n fault : ℕ) : Type 0 where
  pub some : 0 < fault
  pub most : fault ≤ n

here : (k r : ℕ) (b : Bool) → 0 < k → b ≡ true → AtMost k (cond b k r)
here k r true z e = record { some = z; most = omega arith }
here k r false z e = true-not-false false e refl

after : (n k r : ℕ) (b : Bool) → 0 < k → k ≤ n → AtMost n r → AtMost n (cond b k r)
after n k r true z l h = record { some = z; most = l }
after n k r false z l h = h

module _ (a b c d e f g : Bool) where
  pub most6 : a ≡ true → AtMost 6 (lowest a b c d e f g)
  most6 h = here 6 _ a (omega arith) h

  pub most7 : b ≡ true → AtMost 7 (lowest a b c d e f g)
  most7 h = after 7 6 _ a (omega arith) (omega arith) (here 7 _ b (omega arith) h)

  pub most9 : c ≡ true → AtMost 9 (lowest a b c d e f g)
  most9 h = after 9 6 _ a (omega arith) (omega arith) (after 9 7 _ b (omega arith) (omega arith) (here 9 _ c (omega arith) h))

  pub most10 : d ≡ true → AtMost 10 (lowest a b c d e f g)
  most10 h = after 10 6 _ a (omega arith) (omega arith) (after 10 7 _ b (omega arith) (omega arith) (after 10 9 _ c (omega arith) (omega arith) (here 10 _ d (omega arith) h)))

  pub most11 : e ≡ true → AtMost 11 (lowest a b c d e f g)
  most11 h = after 11 6 _ a (omega arith) (omega arith) (after 11 7 _ b (omega arith) (omega arith) (after 11 9 _ c (omega arith) (omega arith) (after 11 10 _ d (omega arith) (omega arith) (here 11 _ e (omega arith) h))))

  pub most14 : f ≡ true → AtMost 14 (lowest a b c d e f g)
  most14 h = after 14 6 _ a (omega arith) (omega arith) (after 14 7 _ b (omega arith) (omega arith) (after 14 9 _ c (omega arith) (omega arith) (after 14 10 _ d (omega arith) (omega arith) (after 14 11 _ e (omega arith) (omega arith) (here 14 _ f (omega arith) h)))))

  pub most23 : g ≡ true → AtMost 23 (lowest a b c d e f g)
  most23 h = after 23 6 _ a (omega arith) (omega arith) (after 23 7 _ b (omega arith) (omega arith) (after 23 9 _ c (omega arith) (omega arith) (after 23 10 _ d (omega arith) (omega arith) (after 23 11 _ e (omega arith) (omega arith) (after 23 14 _ f (omega arith) (omega arith) (here 23 _ g (omega arith) h))))))
