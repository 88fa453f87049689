-- A decided property of entries whose moment, offset, id and start are bounded, with one start at
-- most for each of the others, has a rising list of exactly the entries that have it: ids within an
-- offset, offsets within a moment, moments in turn, each level by one lemma over a key. Assumes
-- nothing.
use mathlib.Core.Path.{◌≡◌, refl, sym, subst, ap, ◌∙◌}
use mathlib.Core.Logic.{◌⊎◌, inl, inr, ◌↔◌}
use mathlib.Core.List.Memᴰ
use mathlib.Core.List.{List, [], ◌∷◌, ◌++◌, Memᴰ}
use Prim.Native.Nat.{ℕ, zero, suc, ◌<◌}
use native.Mathlib.Omega.{arith}
use native.Mathlib.Decide.{dec_lt}
use Rattle.meaning.specs.Ordered.{Entry, entry, Before, Rising}
use Rattle.meaning.proofs.Logic.{dec_some}

pub record Lists (Q : Entry → Type 0) (l : List Entry) : Type 0 where
  pub rising : Rising l
  pub exactly : (x : Entry) → Memᴰ x l ↔ Q x

abbrev pub Listed : (Entry → Type 0) → Type 0
Listed Q = (l : List Entry) × Lists Q l

pub append-rising : (a b : List Entry) → Rising a → Rising b → ((x y : Entry) → Memᴰ x a → Memᴰ y b → Before x y) → Rising (a ++ b)
unfolding Rising
append-rising [] b ha hb h = hb
append-rising (x ∷ a) b ha hb h = (
  λ y m. elim (Memᴰ.append_cases a m) [ inl k ↦ ha.0 y k | inr k ↦ h x y (Memᴰ.head refl) k ],
  append-rising a b ha.1 hb (λ u v m k. h u v (Memᴰ.tail m) k),
)

-- first the entries that have P, then those that have Q
join : (P Q : Entry → Type 0) → ((x y : Entry) → P x → Q y → Before x y) → Listed P → Listed Q → Listed (λ x. P x ⊎ Q x)
join P Q lt a b = (
  a.0 ++ b.0,
  record {
    rising = append-rising a.0 b.0 a.1.rising b.1.rising (λ x y m k. lt x y ((a.1.exactly x).0 m) ((b.1.exactly y).0 k));
    exactly = λ x. (
      λ m. elim (Memᴰ.append_cases a.0 m) [ inl k ↦ inl ((a.1.exactly x).0 k) | inr k ↦ inr ((b.1.exactly x).0 k) ],
      λ h. elim h [
        | inl p ↦ Memᴰ.append_left b.0 ((a.1.exactly x).1 p)
        | inr q ↦ Memᴰ.append_right a.0 ((b.1.exactly x).1 q)
      ],
    );
  },
)

same-as : (P Q : Entry → Type 0) → ((x : Entry) → P x ↔ Q x) → Listed P → Listed Q
same-as P Q iff a = (
  a.0,
  record {
    rising = a.1.rising;
    exactly = λ x. (λ m. (iff x).0 ((a.1.exactly x).0 m), λ q. (a.1.exactly x).1 ((iff x).1 q));
  },
)

empty-list : (P : Entry → Type 0) → ((x : Entry) → ¬ P x) → Listed P
unfolding Rising
empty-list P none = ([], record { rising = tt; exactly = λ x. (λ m. absurd (Memᴰ.not-nil m), λ p. absurd (none x p)) })

-- one level: entries whose key is below n, key by key; a smaller key stands before a larger
module _ (key : Entry → ℕ) (P : Entry → Type 0) (order : (x y : Entry) → P x → P y → key x < key y → Before x y)
    (at : (k : ℕ) → Listed (λ x. P x × (key x ≡ k))) where
  by_key : (n : ℕ) → Listed (λ x. P x × (key x < n))
  by_key zero = empty-list (λ x. P x × (key x < 0)) (λ x h. omega (arith, h.1))
  by_key (suc n) =
      same-as (λ x. (P x × (key x < n)) ⊎ (P x × (key x ≡ n))) (λ x. P x × (key x < suc n))
      (λ x. (
        λ h. elim h [ inl p ↦ (p.0, omega (arith, p.1)) | inr p ↦ (p.0, omega (arith, p.1)) ],
        λ h. elim (dec_lt (key x) n) [ yes lt ↦ inl (h.0, lt) | no ge ↦ inr (h.0, omega (arith, h.1)) ],
      ))
      (join (λ x. P x × (key x < n)) (λ x. P x × (key x ≡ n))
      (λ x y p q. order x y p.0 q.0 (omega (arith, p.1, q.1))) (by_key n) (at n))

abbrev pub moment : Entry → ℕ
moment (entry m e i s) = m

abbrev pub offset : Entry → ℕ
offset (entry m e i s) = e

abbrev pub id : Entry → ℕ
id (entry m e i s) = i

abbrev pub start : Entry → ℕ
start (entry m e i s) = s

module _ (P : Entry → Type 0) (dec : (x : Entry) → Dec (P x)) (n : ℕ) (bound : (x : Entry) → P x → (moment x < n) × (offset x < n) × (id x < n) × (start x < n))
    (one : (m e i s u : ℕ) → P (entry m e i s) → P (entry m e i u) → s ≡ u) where
  abbrev At : ℕ → ℕ → ℕ → Entry → Type 0
  At m e i x = ((P x × (moment x ≡ m)) × (offset x ≡ e)) × (id x ≡ i)

  only : (m e i : ℕ) (x : Entry) → moment x ≡ m → offset x ≡ e → id x ≡ i → x ≡ entry m e i (start x)
  only m e i (entry a b c d) p q r = cc

  cell : (m e i : ℕ) → Listed (At m e i)
  unfolding Rising
  cell m e i = go (dec_some (λ s. P (entry m e i s)) n (λ s lt. dec (entry m e i s)))
    where
      here : (x : Entry) → At m e i x → P (entry m e i (start x))
      here x h = subst P (only m e i x h.0.0.1 h.0.1 h.1) h.0.0.0

      go : Dec ((s : ℕ) × (s < n) × P (entry m e i s)) → Listed (At m e i)
      go (yes p) = (
        entry m e i p.0 ∷ [],
        record {
          rising = (λ y k. absurd (Memᴰ.not-nil k), tt);
          exactly = λ x. (
            λ k. elim (Memᴰ.cases_cons k) [
              | inl q ↦ subst (At m e i) (sym q) (((p.2, refl), refl), refl)
              | inr k ↦ absurd (Memᴰ.not-nil k)
            ],
            λ h. Memᴰ.head (only m e i x h.0.0.1 h.0.1 h.1 ∙ ap (entry m e i) (one m e i (start x) p.0 (here x h) p.2)),
          );
        },
      )
      go (no p) = empty-list (At m e i) (λ x h. p (start x, (bound x h.0.0.0).3, here x h))

  row : (m e : ℕ) → Listed (λ x. ((P x × (moment x ≡ m)) × (offset x ≡ e)) × (id x < n))
  row m e = by_key id (λ x. (P x × (moment x ≡ m)) × (offset x ≡ e)) (λ x y p q lt. order x y p.0.1 q.0.1 p.1 q.1 lt) (cell m e) n
    where
      order : (x y : Entry) → moment x ≡ m → moment y ≡ m → offset x ≡ e → offset y ≡ e → id x < id y → Before x y
      order (entry a b c d) (entry a' b' c' d') p q r s lt = inr (p ∙ sym q, inr (r ∙ sym s, lt))

  column : (m : ℕ) → Listed (λ x. (P x × (moment x ≡ m)) × (offset x < n))
  column m =
      by_key offset (λ x. P x × (moment x ≡ m)) (λ x y p q lt. order x y p.1 q.1 lt)
      (λ e. same-as (λ x. ((P x × (moment x ≡ m)) × (offset x ≡ e)) × (id x < n)) (λ x. (P x × (moment x ≡ m)) × (offset x ≡ e))
      (λ x. (λ h. h.0, λ h. (h, (bound x h.0.0).2))) (row m e)) n
    where
      order : (x y : Entry) → moment x ≡ m → moment y ≡ m → offset x < offset y → Before x y
      order (entry a b c d) (entry a' b' c' d') p q lt = inr (p ∙ sym q, inl lt)

  pub all : Listed P
  all =
      same-as (λ x. P x × (moment x < n)) P (λ x. (λ h. h.0, λ h. (h, (bound x h).0)))
      (by_key moment P (λ x y p q lt. order x y lt)
      (λ m. same-as (λ x. (P x × (moment x ≡ m)) × (offset x < n)) (λ x. P x × (moment x ≡ m))
      (λ x. (λ h. h.0, λ h. (h, (bound x h.0).1))) (column m)) n)
    where
      order : (x y : Entry) → moment x < moment y → Before x y
      order (entry a b c d) (entry a' b' c' d') lt = inl lt
