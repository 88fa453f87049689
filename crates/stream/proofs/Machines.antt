-- Some bytes of a block, over any machine, one more at a time. The reports and the cost only grow,
-- so `fits_by` is the one number of bytes that fit and can be paid for while one more would not.
-- What the parts of a block give is joined in `two-parts`; and two machines that agree give the
-- same.
use mathlib.Core.Path.{◌≡◌, refl, sym, ap, ap₂, ◌∙◌, subst}
use mathlib.Core.Bool.{Bool, true, false, true≢false, cond, ◌&&◌, and-false, and-eq-true_iff}
use mathlib.Core.Logic.{inl, inr, ⊎_elim}
use mathlib.Core.List.{List, ◌++◌, append-nil, append_assoc}
use Prim.Native.Nat.{ℕ, zero, suc, ◌+◌, ◌-◌, ◌<◌, ◌≤◌, zero-le}
use native.Mathlib.Nat.{add-zero, add-suc, add_assoc, eq-or-lt_of_le, le_refl}
use native.Mathlib.Decide.{le_ind, dec_lt}
use native.Mathlib.Numerals.{add-one}
use native.Mathlib.Omega.{arith}
use lib.Dec.{leb}
use lib.ListN.{length, get_or, drop, length-append, get_or-append}
use lib.Seq.{get_or-drop, drop-append_seam}
use borrow.Author.Tests.{le-leb, lt-leb, leb-true}
use Rattle.stream.specs.Byte.{Machine, after, reports_by, cost_by, within_by, fits_by}
use Rattle.stream.specs.Invariants.{Over}

module _ {S R : Type 0} (m : Machine S R) (s : S) (block : List ℕ) where
  pub after_more : (k : ℕ) → after m s block (k + 1) ≡ m.next (after m s block k) (get_or block k 0)
  unfolding after
  after_more k = ap (after m s block) (add-one k)

  pub reports-more : (k : ℕ) → reports_by m s block (k + 1) ≡ reports_by m s block k ++ m.reports (after m s block k) (get_or block k 0)
  unfolding reports_by
  reports-more k = ap (reports_by m s block) (add-one k)

  pub cost-more : (k : ℕ) → cost_by m s block (k + 1) ≡ cost_by m s block k + m.cost (after m s block k)
  unfolding cost_by
  cost-more k = ap (cost_by m s block) (add-one k)

  pub reports-none : length (reports_by m s block 0) ≡ 0
  unfolding reports_by
  reports-none = refl

  pub cost-none : cost_by m s block 0 ≡ 0
  unfolding cost_by
  cost-none = refl

  pub reports-grow : (j k : ℕ) → j ≤ k → length (reports_by m s block j) ≤ length (reports_by m s block k)
  reports-grow j k h =
      le_ind (λ (n : ℕ). length (reports_by m s block j) ≤ length (reports_by m s block n)) (le_refl (length (reports_by m s block j)))
      (λ n l e. omega (arith, more n)) k h
    where
      more : (n : ℕ) → length (reports_by m s block n) ≤ length (reports_by m s block (suc n))
      more n =
          omega (
            arith,
            ap (λ (i : ℕ). length (reports_by m s block i)) (add-one n),
            ap length (reports-more n),
            length-append (reports_by m s block n) (m.reports (after m s block n) (get_or block n 0)),
          )

  pub cost-grow : (j k : ℕ) → j ≤ k → cost_by m s block j ≤ cost_by m s block k
  cost-grow j k h =
      le_ind (λ (n : ℕ). cost_by m s block j ≤ cost_by m s block n) (le_refl (cost_by m s block j))
      (λ n l e. omega (arith, ap (cost_by m s block) (add-one n), cost-more n)) k h

  -- ---- how many bytes fit

  module _ (allowance room : ℕ) where
    within_both : (k : ℕ) → within_by m s allowance block room k ≡ true → (length (reports_by m s block k) ≤ room) × (cost_by m s block k ≤ allowance)
    within_both k e =
        let c = (and-eq-true_iff (leb (length (reports_by m s block k)) room) (leb (cost_by m s block k) allowance)).0 e in
        (leb-true (length (reports_by m s block k)) room c.0, leb-true (cost_by m s block k) allowance c.1)

    within-is : (k : ℕ) → length (reports_by m s block k) ≤ room → cost_by m s block k ≤ allowance → within_by m s allowance block room k ≡ true
    within-is k f c = ap₂ (λ (x y : Bool). x && y) (le-leb (length (reports_by m s block k)) room f) (le-leb (cost_by m s block k) allowance c)

    over-more : (j k : ℕ) → j ≤ k → Over m s allowance block room j → Over m s allowance block room k
    over-more j k l (inl h) = inl (omega (arith, reports-grow j k l))
    over-more j k l (inr h) = inr (omega (arith, cost-grow j k l))

    over-not : (k : ℕ) → Over m s allowance block room k → within_by m s allowance block room k ≡ false
    over-not k (inl h) = ap (λ (x : Bool). x && leb (cost_by m s block k) allowance) (lt-leb (length (reports_by m s block k)) room h)
    over-not k (inr h) = ap (λ (y : Bool). leb (length (reports_by m s block k)) room && y) (lt-leb (cost_by m s block k) allowance h) ∙ and-false (leb (length (reports_by m s block k)) room)

    not-over : (k : ℕ) → within_by m s allowance block room k ≡ false → Over m s allowance block room k
    not-over k e = go (dec_lt room (length (reports_by m s block k))) (dec_lt allowance (cost_by m s block k))
      where
        go : Dec (room < length (reports_by m s block k)) → Dec (allowance < cost_by m s block k) → Over m s allowance block room k
        go (yes h) d = inl h
        go (no h) (yes l) = inr l
        go (no h) (no l) = absurd (true≢false (sym (within-is k (omega arith) (omega arith)) ∙ e))

    pub fits_le : (k : ℕ) → fits_by m s allowance block room k ≤ k
    unfolding fits_by
    fits_le zero = zero-le
    fits_le (suc k) = go (within_by m s allowance block room (suc k)) (fits_le k)
      where
        go : (b : Bool) → fits_by m s allowance block room k ≤ k → cond b (suc k) (fits_by m s allowance block room k) ≤ suc k
        go true h = le_refl (suc k)
        go false h = omega arith

    pub fits-within : (k : ℕ) → (length (reports_by m s block (fits_by m s allowance block room k)) ≤ room) × (cost_by m s block (fits_by m s allowance block room k) ≤ allowance)
    unfolding fits_by
    fits-within zero = (omega (arith, reports-none), omega (arith, cost-none))
    fits-within (suc k) = go (within_by m s allowance block room (suc k)) refl (fits-within k)
      where
        go : (b : Bool) → within_by m s allowance block room (suc k) ≡ b
            → (length (reports_by m s block (fits_by m s allowance block room k)) ≤ room) × (cost_by m s block (fits_by m s allowance block room k) ≤ allowance)
            → (length (reports_by m s block (cond b (suc k) (fits_by m s allowance block room k))) ≤ room) × (cost_by m s block (cond b (suc k) (fits_by m s allowance block room k)) ≤ allowance)
        go true e h = within_both (suc k) e
        go false e h = h

    -- one more would not fit
    pub fits-over : (k : ℕ) → fits_by m s allowance block room k < k → Over m s allowance block room (fits_by m s allowance block room k + 1)
    unfolding fits_by
    fits-over zero h = absurd (omega arith)
    fits-over (suc k) h = go (within_by m s allowance block room (suc k)) refl (fits-over k) h
      where
        go : (b : Bool) → within_by m s allowance block room (suc k) ≡ b
            → (fits_by m s allowance block room k < k → Over m s allowance block room (fits_by m s allowance block room k + 1))
            → cond b (suc k) (fits_by m s allowance block room k) < suc k → Over m s allowance block room (cond b (suc k) (fits_by m s allowance block room k) + 1)
        go true e ih l = absurd (omega arith)
        go false e ih l =
            ⊎_elim (λ q. subst (λ (n : ℕ). Over m s allowance block room n) (sym (add-one k) ∙ ap (λ (n : ℕ). n + 1) (sym q)) (not-over (suc k) e)) ih (eq-or-lt_of_le (fits_le k))

    -- a number of bytes that passes, while one more would not
    pub fits-is : (at k : ℕ) → at ≤ k → length (reports_by m s block at) ≤ room → cost_by m s block at ≤ allowance → (at < k → Over m s allowance block room (at + 1)) → fits_by m s allowance block room k ≡ at
    unfolding fits_by
    fits-is at zero h f c n = omega arith
    fits-is at (suc k) h f c n = ⊎_elim last (before (λ l. fits-is at k (omega arith) f c (λ m. n (omega arith)))) (eq-or-lt_of_le h)
      where
        last : at ≡ suc k → cond (within_by m s allowance block room (suc k)) (suc k) (fits_by m s allowance block room k) ≡ at
        last e =
            ap (λ (b : Bool). cond b (suc k) (fits_by m s allowance block room k))
            (subst (λ (i : ℕ). within_by m s allowance block room i ≡ true) e (within-is at f c)) ∙ sym e

        before : (at < suc k → fits_by m s allowance block room k ≡ at) → at < suc k → cond (within_by m s allowance block room (suc k)) (suc k) (fits_by m s allowance block room k) ≡ at
        before ih l =
            ap (λ (b : Bool). cond b (suc k) (fits_by m s allowance block room k)) (over-not (suc k) (over-more (at + 1) (suc k) (omega arith) (n l)))
            ∙ ih l

    -- no fewer than any number of bytes that passes
    pub fits-most : (at k : ℕ) → at ≤ k → length (reports_by m s block at) ≤ room → cost_by m s block at ≤ allowance → at ≤ fits_by m s allowance block room k
    unfolding fits_by
    fits-most at zero h f c = h
    fits-most at (suc k) h f c = go (within_by m s allowance block room (suc k)) refl (λ l. fits-most at k l f c)
      where
        go : (b : Bool) → within_by m s allowance block room (suc k) ≡ b → (at ≤ k → at ≤ fits_by m s allowance block room k) → at ≤ cond b (suc k) (fits_by m s allowance block room k)
        go true e ih = h
        go false e ih =
            ⊎_elim (λ q. absurd (true≢false (sym (subst (λ (i : ℕ). within_by m s allowance block room i ≡ true) q (within-is at f c)) ∙ e)))
            (λ l. ih (omega arith)) (eq-or-lt_of_le h)

  -- more allowance takes no fewer bytes
  pub fits-further : (a b : ℕ) → a ≤ b → (room k : ℕ) → fits_by m s a block room k ≤ fits_by m s b block room k
  fits-further a b l room k =
      let h = fits-within a room k in
      fits-most b room (fits_by m s a block room k) k (fits_le a room k) h.0 (omega (arith, h.1))

-- ---- a block in two parts

module _ {S R : Type 0} (m : Machine S R) (s : S) (block : List ℕ) (j : ℕ) where
  abbrev z : S
  z = after m s block j

  abbrev rest : List ℕ
  rest = drop j block

  pub after-later : (k : ℕ) → after m s block (j + k) ≡ after m z rest k
  unfolding after
  after-later zero = ap (after m s block) (add-zero j)
  after-later (suc k) = ap (after m s block) (add-suc j k) ∙ ap₂ m.next (after-later k) (sym (get_or-drop j block k 0))

  pub reports-later : (k : ℕ) → reports_by m s block (j + k) ≡ reports_by m s block j ++ reports_by m z rest k
  unfolding reports_by
  reports-later zero = ap (reports_by m s block) (add-zero j) ∙ sym (append-nil (reports_by m s block j))
  reports-later (suc k) =
      ap (reports_by m s block) (add-suc j k) ∙ ap₂ (λ (x y : List R). x ++ y) (reports-later k) (ap₂ m.reports (after-later k) (sym (get_or-drop j block k 0)))
      ∙ append_assoc (reports_by m s block j) (reports_by m z rest k) (m.reports (after m z rest k) (get_or rest k 0))

  pub cost-later : (k : ℕ) → cost_by m s block (j + k) ≡ cost_by m s block j + cost_by m z rest k
  unfolding cost_by
  cost-later zero = ap (cost_by m s block) (add-zero j) ∙ sym (add-zero (cost_by m s block j))
  cost-later (suc k) =
      ap (cost_by m s block) (add-suc j k) ∙ ap₂ (λ (x y : ℕ). x + y) (cost-later k) (ap m.cost (after-later k))
      ∙ add_assoc (cost_by m s block j) (cost_by m z rest k) (m.cost (after m z rest k))

  -- as many as fit after the first j, with what those leave
  pub fits-later : (allowance room left free n : ℕ) → left + cost_by m s block j ≡ allowance → free + length (reports_by m s block j) ≡ room → j ≤ n
      → fits_by m s allowance block room n ≡ j + fits_by m z left rest free (n - j)
  fits-later allowance room left free n l f h =
      let k : ℕ = fits_by m z left rest free (n - j) in
      let most = fits_le m z rest left free (n - j) in
      let both = fits-within m z rest left free (n - j) in
      fits-is m s block allowance room (j + k) n (omega (arith, most))
      (omega (arith, both.0, ap length (reports-later k), length-append (reports_by m s block j) (reports_by m z rest k)))
      (omega (arith, both.1, cost-later k)) (λ g. over k (fits-over m z rest left free (n - j) (omega arith)))
    where
      over : (k : ℕ) → Over m z left rest free (k + 1) → Over m s allowance block room (j + k + 1)
      over k (inl g) =
          let e : j + k + 1 ≡ j + (k + 1) = omega arith in
          inl (omega (arith, ap (λ (i : ℕ). length (reports_by m s block i)) e, ap length (reports-later (k + 1)), length-append (reports_by m s block j) (reports_by m z rest (k + 1))))
      over k (inr g) =
          let e : j + k + 1 ≡ j + (k + 1) = omega arith in
          inr (omega (arith, ap (cost_by m s block) e, cost-later (k + 1)))

-- bytes past those that are taken do not count
module _ {S R : Type 0} (m : Machine S R) (s : S) (a b : List ℕ) where
  pub after_front : (k : ℕ) → k ≤ length a → after m s (a ++ b) k ≡ after m s a k
  unfolding after
  after_front zero h = refl
  after_front (suc k) h = ap₂ m.next (after_front k (omega arith)) (get_or-append a b 0 k h)

  pub reports-front : (k : ℕ) → k ≤ length a → reports_by m s (a ++ b) k ≡ reports_by m s a k
  unfolding reports_by
  reports-front zero h = refl
  reports-front (suc k) h =
      ap₂ (λ (x y : List R). x ++ y) (reports-front k (omega arith)) (ap₂ m.reports (after_front k (omega arith)) (get_or-append a b 0 k h))

-- a block in two parts, one after the other, gives the reports and the state of the whole
pub record TwoParts {S R : Type 0} (m : Machine S R) (s : S) (a b : List ℕ) : Type 0 where
  pub state : after m s (a ++ b) (length (a ++ b)) ≡ after m (after m s a (length a)) b (length b)
  pub reports : reports_by m s (a ++ b) (length (a ++ b)) ≡ reports_by m s a (length a) ++ reports_by m (after m s a (length a)) b (length b)

pub two-parts : {S R : Type 0} (m : Machine S R) (s : S) (a b : List ℕ) → TwoParts m s a b
two-parts {S} {R} m s a b =
    record {
      state =
          ap (after m s (a ++ b)) whole ∙ after-later m s (a ++ b) (length a) (length b)
          ∙ ap₂ (λ (z : S) (l : List ℕ). after m z l (length b)) middle rest;
      reports =
          ap (reports_by m s (a ++ b)) whole ∙ reports-later m s (a ++ b) (length a) (length b)
          ∙ ap₂ (λ (x y : List R). x ++ y) (reports-front m s a b (length a) (le_refl (length a))) (ap₂ (λ (z : S) (l : List ℕ). reports_by m z l (length b)) middle rest);
    }
  where
    whole : length (a ++ b) ≡ length a + length b
    whole = length-append a b

    middle : after m s (a ++ b) (length a) ≡ after m s a (length a)
    middle = after_front m s a b (length a) (le_refl (length a))

    rest : drop (length a) (a ++ b) ≡ b
    rest = drop-append_seam a b

-- ---- two machines that agree, on the states of the first that keep P and on the bytes that Q has

pub record Agree {S T R : Type 0} (m : Machine S R) (n : Machine T R) (out : S → T) (P : S → Type 0) (Q : ℕ → Type 0) : Type 0 where
  pub keeps : (s : S) (x : ℕ) → Q x → P s → P (m.next s x)
  pub next_is : (s : S) (x : ℕ) → Q x → P s → out (m.next s x) ≡ n.next (out s) x
  pub reports_are : (s : S) (x : ℕ) → Q x → P s → m.reports s x ≡ n.reports (out s) x
  pub cost_is : (s : S) → P s → m.cost s ≡ n.cost (out s)

module _ {S T R : Type 0} {m : Machine S R} {n : Machine T R} {out : S → T} {P : S → Type 0} {Q : ℕ → Type 0} (agree : Agree m n out P Q) (s : S) (h : P s) (block : List ℕ)
    (bytes : (k : ℕ) → k < length block → Q (get_or block k 0)) where
  pub kept : (k : ℕ) → k ≤ length block → P (after m s block k)
  unfolding after
  kept zero l = h
  kept (suc k) l = agree.keeps (after m s block k) (get_or block k 0) (bytes k l) (kept k (omega arith))

  pub same_after : (k : ℕ) → k ≤ length block → out (after m s block k) ≡ after n (out s) block k
  unfolding after
  same_after zero l = refl
  same_after (suc k) l =
      agree.next_is (after m s block k) (get_or block k 0) (bytes k l) (kept k (omega arith)) ∙ ap (λ (z : T). n.next z (get_or block k 0)) (same_after k (omega arith))

  pub same-reports : (k : ℕ) → k ≤ length block → reports_by m s block k ≡ reports_by n (out s) block k
  unfolding reports_by
  same-reports zero l = refl
  same-reports (suc k) l =
      ap₂ (λ (x y : List R). x ++ y) (same-reports k (omega arith))
      (agree.reports_are (after m s block k) (get_or block k 0) (bytes k l) (kept k (omega arith)) ∙ ap (λ (z : T). n.reports z (get_or block k 0)) (same_after k (omega arith)))

  pub same-cost : (k : ℕ) → k ≤ length block → cost_by m s block k ≡ cost_by n (out s) block k
  unfolding cost_by
  same-cost zero l = refl
  same-cost (suc k) l =
      ap₂ (λ (x y : ℕ). x + y) (same-cost k (omega arith)) (agree.cost_is (after m s block k) (kept k (omega arith)) ∙ ap n.cost (same_after k (omega arith)))

  pub same-fits : (allowance room k : ℕ) → k ≤ length block → fits_by m s allowance block room k ≡ fits_by n (out s) allowance block room k
  unfolding fits_by
  same-fits allowance room zero l = refl
  same-fits allowance room (suc k) l =
      ap₂ (λ (b : Bool) (j : ℕ). cond b (suc k) j)
      (ap₂ (λ (r : List R) (u : ℕ). leb (length r) room && leb u allowance) (same-reports (suc k) l) (same-cost (suc k) l)) (same-fits allowance room k (omega arith))

  pub same_over : (allowance room k : ℕ) → k ≤ length block → Over m s allowance block room k → Over n (out s) allowance block room k
  same_over allowance room k l (inl g) = inl (omega (arith, ap length (same-reports k l)))
  same_over allowance room k l (inr g) = inr (omega (arith, same-cost k l))
