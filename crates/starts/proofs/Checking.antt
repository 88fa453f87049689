-- The tests of the starts. Sixty-four at a time: where all are 0 they are in order, and else each
-- is asked. A set's 256 are the four times 64 of its words.
use mathlib.Core.Path.{◌≡◌, refl, sym, ap, ap₂, ◌∙◌}
use mathlib.Core.Bool.{Bool, true, false, cond, not, ◌&&◌, ◌||◌}
use mathlib.Core.List.{List}
use mathlib.Core.Logic.{◌⊎◌, inl, inr}
use Prim.Native.Nat.{ℕ, zero, suc, ◌+◌, ◌*◌, ◌/◌, ◌%◌, ◌<◌}
use native.Mathlib.Nat.{add-zero, add-suc, zero-add}
use native.Mathlib.Decide.{dec_lt}
use native.Mathlib.Numerals.{add-one}
use native.Mathlib.Omega.{arith}
use lib.Bits.{bit_or, or_add_and, and_le_l, and_le_r}
use lib.Dec.{eqb, ltb}
use lib.ListN.{get_or}
use borrow.Author.Tests.{lt-ltb}
use Rattle.sets.specs.Set.{on, has, any}
use Rattle.sets.proofs.Bits.{on-zero}
use Rattle.sets.proofs.Laws.{any-ext, any-never}
use Rattle.table.specs.Layout.{max_rules, max_positions}
use Rattle.starts.specs.Order.{start_ok, starts_ok}
use Rattle.starts.specs.Invariants.{NoneIn, starts_in}

-- ---- the digits of some starts

module _ (starts : List ℕ) (base : ℕ) where
  pub none-start : (digits : ℕ) → NoneIn starts base 0 digits
  none-start digits e k h = absurd (omega arith)

  pub none_more : (n digits : ℕ) → NoneIn starts base n digits → NoneIn starts base (n + 1) (bit_or digits (get_or starts (base + n) 0))
  none_more n digits h e k l =
      let x : ℕ = get_or starts (base + n) 0 in
      let sum = or_add_and digits x in
      let left = and_le_l digits x in
      let right = and_le_r digits x in
      go x (omega arith) (omega arith) (dec_lt k n)
    where
      go : (x : ℕ) → digits ≡ 0 → get_or starts (base + n) 0 ≡ 0 → Dec (k < n) → get_or starts (base + k) 0 ≡ 0
      go x d z (yes m) = h d k m
      go x d z (no m) = let same : base + k ≡ base + n = omega arith in ap (λ (i : ℕ). get_or starts i 0) same ∙ z

  -- ---- they are in order

  module _ (there : ℕ → Bool) (taken : ℕ) where
    pub order-start : true ≡ starts_in starts base 0 there taken
    unfolding starts_in any
    order-start = refl

    pub order-more : (n : ℕ) (ok one : Bool) → ok ≡ starts_in starts base n there taken → one ≡ start_ok (there n) taken (get_or starts (base + n) 0)
        → (ok && one) ≡ starts_in starts base (n + 1) there taken
    unfolding starts_in any
    order-more n ok one all is =
        ap₂ (λ (a b : Bool). a && b) all is
        ∙ apart (any n (λ k. not (start_ok (there k) taken (get_or starts (base + k) 0)))) (start_ok (there n) taken (get_or starts (base + n) 0))
        ∙ ap (λ (m : ℕ). not (any m (λ k. not (start_ok (there k) taken (get_or starts (base + k) 0))))) (sym (add-one n))
      where
        apart : (a b : Bool) → (not a && b) ≡ not (a || not b)
        apart true b = refl
        apart false true = refl
        apart false false = refl

  -- where all are 0
  pub order-none : (there taken digits : ℕ) → NoneIn starts base 64 digits → digits ≡ 0 → (there ≡ 0) ⊎ (0 < taken) → true ≡ starts_in starts base 64 (on there) taken
  unfolding starts_in
  order-none there taken digits h e why =
      sym (ap not (any-never 64 (λ k. not (start_ok (on there k) taken (get_or starts (base + k) 0)))
      (λ k l. ap (λ (x : ℕ). not (start_ok (on there k) taken x)) (h e k l) ∙ ap not (go k why))))
    where
      either : (b : Bool) → cond b true true ≡ true
      either true = refl
      either false = refl

      go : (k : ℕ) → (there ≡ 0) ⊎ (0 < taken) → start_ok (on there k) taken 0 ≡ true
      go k (inl z) = ap (λ (x : ℕ). cond (on x k) (ltb 0 taken) (eqb 0 0)) z ∙ ap (λ (b : Bool). cond b (ltb 0 taken) true) (on-zero k)
      go k (inr z) = ap (λ (b : Bool). cond (on there k) b true) (lt-ltb 0 taken z) ∙ either (on there k)

-- ---- the words of a set

-- a test of m + n numbers is that of the first m and of the n after them
any-add : (m n : ℕ) (f : ℕ → Bool) → any (m + n) f ≡ (any m f || any n (λ k. f (m + k)))
unfolding any
any-add m zero f = ap (λ (k : ℕ). any k f) (add-zero m) ∙ sym (or_no (any m f))
  where
    or_no : (b : Bool) → (b || false) ≡ b
    or_no true = refl
    or_no false = refl
any-add m (suc n) f =
    ap (λ (k : ℕ). any k f) (add-suc m n) ∙ ap (λ (b : Bool). b || f (m + n)) (any-add m n f)
    ∙ or-join (any m f) (any n (λ k. f (m + k))) (f (m + n))
  where
    or-join : (a b c : Bool) → ((a || b) || c) ≡ (a || (b || c))
    or-join true b c = refl
    or-join false b c = refl

pub rules-order : (pairs : List ℕ) (pending taken : ℕ) → starts_in pairs 0 64 (on pending) taken ≡ starts_ok max_rules (on pending) taken pairs
unfolding starts_in starts_ok
rules-order pairs pending taken =
    ap not (any-ext 64 (λ k. not (start_ok (on pending k) taken (get_or pairs (0 + k) 0))) (λ k. not (start_ok (on pending k) taken (get_or pairs k 0)))
    (λ k l. ap (λ (i : ℕ). not (start_ok (on pending k) taken (get_or pairs i 0))) (zero-add k)))

module _ (starts set : List ℕ) (taken : ℕ) where
  abbrev bad : ℕ → Bool
  bad q = not (start_ok (has set q) taken (get_or starts q 0))

  part : (i : ℕ) → i < 4 → any 64 (λ k. not (start_ok (on (get_or set i 0) k) taken (get_or starts (i * 64 + k) 0))) ≡ any 64 (λ k. bad (i * 64 + k))
  unfolding has
  part i h =
      any-ext 64 (λ k. not (start_ok (on (get_or set i 0) k) taken (get_or starts (i * 64 + k) 0))) (λ k. bad (i * 64 + k))
      (λ k l.
      let word : i ≡ (i * 64 + k) / 64 = omega arith in
      let digit : k ≡ (i * 64 + k) % 64 = omega arith in
      ap₂ (λ (m n : ℕ). not (start_ok (on (get_or set m 0) n) taken (get_or starts (i * 64 + k) 0))) word digit)

  front : any 64 (λ k. bad (0 * 64 + k)) ≡ any 64 bad
  front = any-ext 64 (λ k. bad (0 * 64 + k)) bad (λ k l. ap bad (zero-add k))

  pub set-order : (a b c d : Bool) → a ≡ starts_in starts 0 64 (on (get_or set 0 0)) taken → b ≡ starts_in starts 64 64 (on (get_or set 1 0)) taken
      → c ≡ starts_in starts 128 64 (on (get_or set 2 0)) taken → d ≡ starts_in starts 192 64 (on (get_or set 3 0)) taken
      → (a && (b && (c && d))) ≡ starts_ok max_positions (has set) taken starts
  unfolding starts_in starts_ok
  set-order a b c d ea eb ec ed =
      (λ i. (ea ∙ ap not (part 0 (omega arith) ∙ front)) i && ((eb ∙ ap not (part 1 (omega arith))) i && ((ec ∙ ap not (part 2 (omega arith))) i && (ed ∙ ap not (part 3 (omega arith))) i)))
      ∙ apart (any 64 bad) (any 64 (λ k. bad (64 + k))) (any 64 (λ k. bad (128 + k))) (any 64 (λ k. bad (192 + k)))
      ∙ sym (ap not (any-add 192 64 bad ∙ ap (λ (x : Bool). x || any 64 (λ k. bad (192 + k)))
      (any-add 128 64 bad ∙ ap (λ (x : Bool). x || any 64 (λ k. bad (128 + k))) (any-add 64 64 bad))))
    where
      apart : (x y z u : Bool) → (not x && (not y && (not z && not u))) ≡ not (((x || y) || z) || u)
      apart true y z u = refl
      apart false true z u = refl
      apart false false true u = refl
      apart false false false u = refl
