-- The ordered list, kept to the id of one rule, is the ordered list of that rule alone: whether an
-- entry is owed looks at one rule, ids tell the rules apart, and a rising list stays so when
-- entries are left out. Assumes nothing.
use mathlib.Core.Path.{◌≡◌, refl, sym, subst, ap, ◌∙◌}
use mathlib.Core.Logic.{◌⊎◌, inl, inr, ◌↔◌}
use mathlib.Core.Bool.{Bool, true, false, true≢false, cond}
use mathlib.Core.List.Memᴰ
use mathlib.Core.List.{List, [], ◌∷◌, map, Memᴰ}
use Prim.Native.Nat.{ℕ}
use lib.Dec.{eqb}
use borrow.Author.Tests.{eqb-true, eq-eqb}
use Rattle.meaning.specs.Rule.{Rule}
use Rattle.meaning.specs.Ordered.{Entry, entry, Rising, Owed, IsList, Report, report, of_id, Ordered}
use Rattle.meaning.proofs.OneList.{Distinct}

-- the entries of one id
of : ℕ → Entry → Bool
of i (entry m e j s) = eqb j i

unfoldable kept : ℕ → List Entry → List Entry
kept i [] = []
kept i (x ∷ l) = cond (of i x) (x ∷ kept i l) (kept i l)

-- an entry is kept if it was there and has the id
module _ (i : ℕ) where
  kept_there : (x : Entry) (l : List Entry) → Memᴰ x (kept i l) → Memᴰ x l × (of i x ≡ true)
  unfolding kept
  kept_there x [] m = absurd (Memᴰ.not-nil m)
  kept_there x (y ∷ l) m = go (kept_there x l) (of i y) refl m
    where
      go : (Memᴰ x (kept i l) → Memᴰ x l × (of i x ≡ true)) → (b : Bool) → of i y ≡ b → Memᴰ x (cond b (y ∷ kept i l) (kept i l))
          → Memᴰ x (y ∷ l) × (of i x ≡ true)
      go ih true e n = here ih e (Memᴰ.cases_cons n)
        where
          here : (Memᴰ x (kept i l) → Memᴰ x l × (of i x ≡ true)) → of i y ≡ true → (x ≡ y) ⊎ Memᴰ x (kept i l) → Memᴰ x (y ∷ l) × (of i x ≡ true)
          here ih e (inl h) = (Memᴰ.head h, ap (of i) h ∙ e)
          here ih e (inr h) = (Memᴰ.tail (ih h).0, (ih h).1)
      go ih false e n = (Memᴰ.tail (ih n).0, (ih n).1)

  there-kept : (x : Entry) (l : List Entry) → Memᴰ x l → of i x ≡ true → Memᴰ x (kept i l)
  unfolding kept
  there-kept x [] m e = absurd (Memᴰ.not-nil m)
  there-kept x (y ∷ l) m e = go (λ n. there-kept x l n e) (of i y) refl (Memᴰ.cases_cons m)
    where
      go : (Memᴰ x l → Memᴰ x (kept i l)) → (b : Bool) → of i y ≡ b → (x ≡ y) ⊎ Memᴰ x l → Memᴰ x (cond b (y ∷ kept i l) (kept i l))
      go ih true d (inl h) = Memᴰ.head h
      go ih true d (inr h) = Memᴰ.tail (ih h)
      go ih false d (inl h) = absurd (true≢false (sym e ∙ ap (of i) h ∙ d))
      go ih false d (inr h) = ih h

  kept-rising : (l : List Entry) → Rising l → Rising (kept i l)
  unfolding kept Rising
  kept-rising [] h = h
  kept-rising (x ∷ l) h = go (kept-rising l h.1) (of i x)
    where
      go : Rising (kept i l) → (b : Bool) → Rising (cond b (x ∷ kept i l) (kept i l))
      go ih true = (λ y m. h.0 y (kept_there y l m).0, ih)
      go ih false = ih

  kept-reports : (l : List Entry) → map report (kept i l) ≡ of_id i (map report l)
  unfolding kept of_id of
  kept-reports [] = refl
  kept-reports (entry m e j s ∷ l) = go (kept-reports l) (eqb j i)
    where
      go : map report (kept i l) ≡ of_id i (map report l) → (b : Bool)
          → map report (cond b (entry m e j s ∷ kept i l) (kept i l)) ≡ cond b ((j, e, s) ∷ of_id i (map report l)) (of_id i (map report l))
      go ih true = ap (λ (u : List Report). (j, e, s) ∷ u) ih
      go ih false = ih

module _ (rules : List Rule) (apart : Distinct rules) (r : Rule) (there : Memᴰ r rules) (bytes : List ℕ) where
  alone-list : (l : List Entry) → IsList rules bytes l → IsList (r ∷ []) bytes (kept r.id l)
  unfolding of
  alone-list l h = record { rising = kept-rising r.id l h.rising; exactly = exactly }
    where
      only : (s : Rule) → Memᴰ s (r ∷ []) → s ≡ r
      only s m = go (Memᴰ.cases_cons m)
        where
          go : (s ≡ r) ⊎ Memᴰ s [] → s ≡ r
          go (inl e) = e
          go (inr n) = absurd (Memᴰ.not-nil n)

      exactly : (x : Entry) → Memᴰ x (kept r.id l) ↔ Owed (r ∷ []) bytes x
      exactly (entry m e i u) = (
        λ k.
            let t = kept_there r.id (entry m e i u) l k in
            let o = (h.exactly (entry m e i u)).0 t.0 in
            let same : o.0 ≡ r = apart o.0 r o.1 there (o.2 ∙ eqb-true i r.id t.1) in
            (o.0, Memᴰ.head same, o.2, o.3, o.4),
        λ o.
            let same : o.0 ≡ r = only o.0 o.1 in
            there-kept r.id (entry m e i u) l
            ((h.exactly (entry m e i u)).1 (o.0, subst (λ (s : Rule). Memᴰ s rules) (sym same) there, o.2, o.3, o.4))
            (eq-eqb i r.id (sym o.2 ∙ ap (λ (s : Rule). s.id) same)),
      )

  -- the reports alone
  pub alone : (reports : List Report) → Ordered rules bytes reports → Ordered (r ∷ []) bytes (of_id r.id reports)
  alone reports h = record {
    list = kept r.id h.list;
    is_list = alone-list h.list h.is_list;
    given = kept-reports r.id h.list ∙ ap (of_id r.id) h.given;
  }
