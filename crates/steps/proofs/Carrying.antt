-- The walks that carry starts. What the turns still to come make of the starts so far is what all
-- turns make of the first ones: each turn takes the lowest digit that is left out of the word and
-- does its work. So a loop needs no count of turns. Assumes nothing.
use mathlib.Core.Path.{◌≡◌, refl, sym, ap, ap₂, subst, ◌∙◌}
use mathlib.Core.Logic.{◌⊎◌, inl, inr}
use mathlib.Core.Bool.{Bool, true, false, true≢false, cond, ◌&&◌, ◌||◌, and_assoc}
use mathlib.Core.List.{List}
use Prim.Native.Nat.{ℕ, zero, suc, ◌+◌, ◌-◌, ◌*◌, ◌/◌, ◌%◌, ◌^◌, ◌≤◌, ◌<◌, min}
use native.Mathlib.Omega.{arith}
use native.Mathlib.Decide.{ℕ_discrete, dec_lt}
use lib.Bits.{bit_and, and_le_r}
use lib.Count.{count_trailing_zeros}
use lib.Dec.{eqb, ltb}
use lib.ListN.{length, get_or, set, replicate, length-set}
use lib.Seq.{ext_get_or, get_or-set_same, get_or-set_other}
use borrow.Author.Tests.{eq-eqb, ne_eqb, lt-ltb, le-ltb, lt-leb, le-leb}
use native.Mathlib.Nat.{zero-add}
use Rattle.kinds.specs.declared.Side.{Side}
use Rattle.std.proofs.Common.{Some}
use Rattle.sets.specs.Set.{on, has, set_of, smallest, intersection_of}
use Rattle.sets.specs.Walk.{GivesLowest}
use Rattle.sets.proofs.Laws.{has-set_of, has-intersection, below_next}
use Rattle.sets.proofs.Bits.{on-zero, zeros-off, zeros-on, clear-low, cleared-on, cleared-off}
use Rattle.sets.proofs.Smallest.{smallest-under, smallest-at, smallest-is}
use Rattle.table.specs.Layout.{table_words, max_rules, max_positions, owner_at, row_has}
use Rattle.table.specs.Gaps.{gap_of}
use Rattle.table.specs.Automaton.{Automaton, automaton, last}
use Rattle.table.proofs.GapBounds.{gap_of-follow}
use Rattle.steps.specs.Step.{list_from, list_on, start_after, stepped_starts, start_at}
use Rattle.steps.proofs.Bounds.{follow_rows}
use Rattle.steps.proofs.Steps.{follow-row}
use Rattle.steps.specs.Invariants.{chosen_of, in_word, Changed, Put, Followed, least_owned}

-- ---- a turn over the digits of a word

module _ (w : ℕ) (fits : w < 2 ^ 64) (some : ¬ (w ≡ 0)) where
  abbrev z : ℕ
  z = count_trailing_zeros 64 w

  positive : 0 < w
  positive = omega arith

  pub digit : z < 64
  digit = (zeros-on 64 w fits positive).0

  pub falls : bit_and w (w - 1) < w
  falls = omega (arith, and_le_r w (w - 1))

  pub fits-still : bit_and w (w - 1) < 2 ^ 64
  fits-still = omega (arith, falls)

  pub on-turn : (k : ℕ) → on w k ≡ (eqb k z || on (bit_and w (w - 1)) k)
  on-turn k = go (dec_lt k z) (ℕ_discrete k z)
    where
      cleared : (j : ℕ) → on (bit_and w (w - 1)) j ≡ on (w / 2 ^ suc (count_trailing_zeros 64 w) * 2 ^ suc (count_trailing_zeros 64 w)) j
      cleared j = ap (λ (x : ℕ). on x j) (clear-low 64 w fits positive)

      go : Dec (k < z) → Dec (k ≡ z) → on w k ≡ (eqb k z || on (bit_and w (w - 1)) k)
      go (yes l) d =
          zeros-off 64 w k l
          ∙ sym (ap₂ (λ (a b : Bool). a || b) (ne_eqb k z (λ e. omega arith)) (cleared k ∙ cleared-off (w / 2 ^ suc z) (suc z) k (omega arith)))
      go (no l) (yes e) = ap (on w) e ∙ (zeros-on 64 w fits positive).1 ∙ sym (ap (λ (a : Bool). a || on (bit_and w (w - 1)) k) (eq-eqb k z e))
      go (no l) (no e) =
          let at : suc z + (k - suc z) ≡ k = omega arith in
          sym (ap₂ (λ (a b : Bool). a || b) (ne_eqb k z e) (cleared k ∙ ap (on (w / 2 ^ suc z * 2 ^ suc z)) (sym at) ∙ cleared-on w (suc z) (k - suc z) ∙ ap (on w) at))

  module _ (i : ℕ) where
    abbrev at : ℕ
    at = i * 64 + z

    at-word : (i * 64 + z) / 64 ≡ i
    at-word = omega (arith, digit)

    at-digit : (i * 64 + z) % 64 ≡ z
    at-digit = omega (arith, digit)

    -- the digit that the turn asks is in the word
    pub asked_in : in_word w i (i * 64 + z) ≡ true
    asked_in = ap₂ (λ (a b : Bool). a && b) (eq-eqb ((i * 64 + z) / 64) i at-word) (ap (on w) at-digit ∙ (zeros-on 64 w fits positive).1)

    -- every other is in what is left exactly if it is in the word
    pub others-left : (q : ℕ) → ¬ (q ≡ i * 64 + z) → in_word w i q ≡ in_word (bit_and w (w - 1)) i q
    others-left q ne = go (ℕ_discrete (q / 64) i)
      where
        go : Dec (q / 64 ≡ i) → in_word w i q ≡ in_word (bit_and w (w - 1)) i q
        go (yes e) =
            ap (λ (b : Bool). eqb (q / 64) i && b)
            (on-turn (q % 64) ∙ ap (λ (b : Bool). b || on (bit_and w (w - 1)) (q % 64)) (ne_eqb (q % 64) z (λ d. ne (omega (arith, e, d)))))
        go (no e) = ap (λ (b : Bool). b && on w (q % 64)) (ne_eqb (q / 64) i e) ∙ sym (ap (λ (b : Bool). b && on (bit_and w (w - 1)) (q % 64)) (ne_eqb (q / 64) i e))

-- A turn as the iterator over the digits tells of it: a digit is left, and what holds of the lowest
-- digit and of the word without it holds of what the turn gives.
pub some_left : {w k v : ℕ} → GivesLowest w (Some k) v → ¬ (w ≡ 0)
some_left g e = omega (arith, g.0, e)

pub taken : {w k v : ℕ} → GivesLowest w (Some k) v → (P : ℕ → ℕ → Type 0) → P (count_trailing_zeros 64 w) (bit_and w (w - 1)) → P k v
taken {w} {k} {v} g P p = subst (λ (j : ℕ). P j v) (sym g.3) (subst (P (count_trailing_zeros 64 w)) (sym g.4) p)

-- the place of a digit
place_inside : (i n : ℕ) → i < 4 → n < 64 → i * 64 + n < 256
place_inside i n li ln = omega arith

-- no digit is left
pub none_left : (i q : ℕ) → in_word 0 i q ≡ false
none_left i q = ap (λ (b : Bool). eqb (q / 64) i && b) (on-zero (q % 64)) ∙ and_no (eqb (q / 64) i)
  where
    and_no : (b : Bool) → (b && false) ≡ false
    and_no true = refl
    and_no false = refl

-- of two starts the smaller
pub smaller : (old new : ℕ) → min old new ≡ chosen_of true old new
smaller old new = go (dec_lt old new)
  where
    go : Dec (old < new) → min old new ≡ cond (true && ltb old new) old new
    go (yes l) = rw (lt-ltb old new l) (omega arith)
    go (no l) = rw (le-ltb old new (omega arith)) (omega arith)

-- ---- putting a start in

abbrev put_at : (word i : ℕ) → (keep : Bool) → (start q x : ℕ) → ℕ
put_at word i keep start q x = cond (in_word word i q) (chosen_of keep x start) x

twice : (keep : Bool) (x v : ℕ) → chosen_of keep (chosen_of keep x v) v ≡ chosen_of keep x v
twice false x v = refl
twice true x v = go (ltb x v) refl
  where
    go : (b : Bool) → ltb x v ≡ b → cond (true && ltb (cond (true && b) x v) v) (cond (true && b) x v) v ≡ cond (true && b) x v
    go true e = ap (λ (c : Bool). cond (true && c) x v) e
    go false e = go' (ltb v v)
      where
        go' : (c : Bool) → cond (true && c) v v ≡ v
        go' true = refl
        go' false = refl

-- what is left to do makes the same of the starts so far as all makes of the first ones
pub record PutLeft (word₀ i : ℕ) (keep : Bool) (start : ℕ) (old : List ℕ) (word : ℕ) (new : List ℕ) : Type 0 where
  pub small : word < 2 ^ 64
  pub as_long : length new ≡ length old
  pub same : length old ≡ max_positions → (q : ℕ) → q < max_positions → put_at word₀ i keep start q (get_or old q 0) ≡ put_at word i keep start q (get_or new q 0)

pub put-none : (word i : ℕ) (keep : Bool) (start : ℕ) (old : List ℕ) → word < 2 ^ 64 → PutLeft word i keep start old word old
put-none word i keep start old fits = record { small = fits; as_long = refl; same = λ full q lt. refl }

put-lowest : (word₀ i : ℕ) (keep : Bool) (start : ℕ) (old : List ℕ) (word : ℕ) (new : List ℕ) → PutLeft word₀ i keep start old word new → ¬ (word ≡ 0) → i < 4 → (v : ℕ)
    → v ≡ chosen_of keep (get_or new (i * 64 + count_trailing_zeros 64 word) 0) start
    → PutLeft word₀ i keep start old (bit_and word (word - 1)) (set new (i * 64 + count_trailing_zeros 64 word) v)
put-lowest word₀ i keep start old word new h some li v is = record {
  small = fits-still word h.small some;
  as_long = length-set new p v ∙ h.as_long;
  same = λ full q lt. h.same full q lt ∙ go full q (ℕ_discrete q p);
}
  where
    p : ℕ
    p = i * 64 + count_trailing_zeros 64 word

    go : length old ≡ max_positions → (q : ℕ) → Dec (q ≡ i * 64 + count_trailing_zeros 64 word)
        → put_at word i keep start q (get_or new q 0)
        ≡ put_at (bit_and word (word - 1)) i keep start q (get_or (set new (i * 64 + count_trailing_zeros 64 word) v) q 0)
    go full q (yes e) =
        let at : ℕ = i * 64 + count_trailing_zeros 64 word in
        let inside : at < length new = omega (arith, h.as_long, full, digit word h.small some) in
        ap (λ (k : ℕ). put_at word i keep start k (get_or new k 0)) e
        ∙ ap (λ (b : Bool). cond b (chosen_of keep (get_or new at 0) start) (get_or new at 0)) (asked_in word h.small some i)
        ∙ sym is ∙ either (in_word (bit_and word (word - 1)) i at) v (ap (λ (x : ℕ). chosen_of keep x start) is ∙ twice keep (get_or new at 0) start ∙ sym is)
        ∙ ap (put_at (bit_and word (word - 1)) i keep start at) (sym (get_or-set_same new at v 0 inside))
        ∙ ap (λ (k : ℕ). put_at (bit_and word (word - 1)) i keep start k (get_or (set new at v) k 0)) (sym e)
      where
        either : (b : Bool) (v : ℕ) → chosen_of keep v start ≡ v → v ≡ cond b (chosen_of keep v start) v
        either true v e = sym e
        either false v e = refl
    go full q (no ne) =
        let at : ℕ = i * 64 + count_trailing_zeros 64 word in
        ap₂ (λ (b : Bool) (x : ℕ). cond b (chosen_of keep x start) x) (others-left word h.small some i q ne) (sym (get_or-set_other new at q v 0 ne))

pub put-turn : (word₀ i : ℕ) (keep : Bool) (start : ℕ) (old : List ℕ) {word k rest : ℕ} (new : List ℕ) → PutLeft word₀ i keep start old word new → GivesLowest word (Some k) rest → i < 4 → (v : ℕ)
    → v ≡ chosen_of keep (get_or new (i * 64 + k) 0) start → PutLeft word₀ i keep start old rest (set new (i * 64 + k) v)
put-turn word₀ i keep start old {word} new h g li v =
    taken g (λ k rest. v ≡ chosen_of keep (get_or new (i * 64 + k) 0) start → PutLeft word₀ i keep start old rest (set new (i * 64 + k) v))
    (put-lowest word₀ i keep start old word new h (some_left g) li v)

pub put_all : (word₀ i : ℕ) (keep : Bool) (start : ℕ) (old : List ℕ) (word : ℕ) (new : List ℕ) → PutLeft word₀ i keep start old word new → word ≡ 0
    → Put (in_word word₀ i) keep start old new
put_all word₀ i keep start old word new h e = record {
  as_long = h.as_long;
  each = λ full q lt. sym (h.same full q lt ∙ ap (λ (b : Bool). cond b (chosen_of keep (get_or new q 0) start) (get_or new q 0)) (ap (λ (x : ℕ). in_word x i q) e ∙ none_left i q));
}

-- for the positions of one set, then for those of another
put-join : (f g : ℕ → Bool) (keep : Bool) (start : ℕ) (a b c : List ℕ) → Put f keep start a b → Put g keep start b c → Put (λ q. f q || g q) keep start a c
put-join f g keep start a b c h k = record {
  as_long = k.as_long ∙ h.as_long;
  each = λ full q lt.
      k.each (h.as_long ∙ full) q lt ∙ ap (λ (x : ℕ). cond (g q) (chosen_of keep x start) x) (h.each full q lt)
      ∙ both (f q) (g q) (get_or a q 0);
}
  where
    both : (x y : Bool) (v : ℕ) → cond y (chosen_of keep (cond x (chosen_of keep v start) v) start) (cond x (chosen_of keep v start) v) ≡ cond (x || y) (chosen_of keep v start) v
    both true true v = twice keep v start
    both true false v = refl
    both false true v = refl
    both false false v = refl

-- ---- the words of a set, one after the other

-- q is a member that stands in one of the first i words
abbrev pub in_words : (set : List ℕ) (i q : ℕ) → Bool
in_words set i q = ltb (q / 64) i && has set q

pub words-none : (set : List ℕ) (q : ℕ) → in_words set 0 q ≡ false
words-none set q = ap (λ (b : Bool). b && has set q) (le-ltb (q / 64) 0 (omega arith))

pub words-more : (set : List ℕ) (i q : ℕ) → (in_words set i q || in_word (get_or set i 0) i q) ≡ in_words set (i + 1) q
unfolding has
words-more set i q = go (ℕ_discrete (q / 64) i) ∙ sym (ap (λ (b : Bool). b && on (get_or set (q / 64) 0) (q % 64)) (below_next (q / 64) i))
  where
    go : Dec (q / 64 ≡ i)
        → (ltb (q / 64) i && on (get_or set (q / 64) 0) (q % 64) || eqb (q / 64) i && on (get_or set i 0) (q % 64))
        ≡ ((ltb (q / 64) i || eqb (q / 64) i) && on (get_or set (q / 64) 0) (q % 64))
    go (yes e) =
        ap (λ (j : ℕ). ltb (q / 64) i && on (get_or set (q / 64) 0) (q % 64) || eqb (q / 64) i && on (get_or set j 0) (q % 64)) (sym e)
        ∙ spread (ltb (q / 64) i) (eqb (q / 64) i) (on (get_or set (q / 64) 0) (q % 64))
      where
        spread : (x y z : Bool) → (x && z || y && z) ≡ ((x || y) && z)
        spread true y true = refl
        spread true true false = refl
        spread true false false = refl
        spread false y z = refl
    go (no e) =
        ap (λ (b : Bool). ltb (q / 64) i && on (get_or set (q / 64) 0) (q % 64) || b && on (get_or set i 0) (q % 64)) (ne_eqb (q / 64) i e)
        ∙ or_no (ltb (q / 64) i && on (get_or set (q / 64) 0) (q % 64))
        ∙ sym (ap (λ (b : Bool). b && on (get_or set (q / 64) 0) (q % 64)) (ap (λ (b : Bool). ltb (q / 64) i || b) (ne_eqb (q / 64) i e) ∙ or_no (ltb (q / 64) i)))
      where
        or_no : (b : Bool) → (b || false) ≡ b
        or_no true = refl
        or_no false = refl

pub words-all : (set : List ℕ) (i q : ℕ) → i ≡ 4 → q < max_positions → in_words set i q ≡ has set q
words-all set i q all lt = ap (λ (b : Bool). b && has set q) (lt-ltb (q / 64) i (omega arith))

-- what two descriptions of a change agree on
pub changed-ext : (f g : ℕ → ℕ → ℕ) {a b : List ℕ} → ((q x : ℕ) → q < max_positions → f q x ≡ g q x) → Changed f a b → Changed g a b
changed-ext f g {a} same h = record { as_long = h.as_long; each = λ full q lt. h.each full q lt ∙ same q (get_or a q 0) lt }

pub changed-none : (f : ℕ → ℕ → ℕ) (a : List ℕ) → ((q x : ℕ) → f q x ≡ x) → Changed f a a
changed-none f a same = record { as_long = refl; each = λ full q lt. sym (same q (get_or a q 0)) }

module _ (set : List ℕ) (keep : Bool) (start : ℕ) where
  abbrev put_in : (ℕ → Bool) → (q x : ℕ) → ℕ
  put_in test q x = cond (test q) (chosen_of keep x start) x

  pub put-first : (a : List ℕ) → Put (in_words set 0) keep start a a
  put-first a = changed-none (put_in (in_words set 0)) a (λ q x. ap (λ (b : Bool). cond b (chosen_of keep x start) x) (words-none set q))

  pub put-next : (i : ℕ) {a b c : List ℕ} → Put (in_words set i) keep start a b → Put (in_word (get_or set i 0) i) keep start b c → Put (in_words set (i + 1)) keep start a c
  put-next i {a} {b} {c} h k =
      changed-ext (put_in (λ q. in_words set i q || in_word (get_or set i 0) i q)) (put_in (in_words set (i + 1)))
      (λ q x lt. ap (λ (t : Bool). cond t (chosen_of keep x start) x) (words-more set i q))
      (put-join (in_words set i) (in_word (get_or set i 0) i) keep start a b c h k)

  pub put-last : (i : ℕ) → i ≡ 4 → {a b : List ℕ} → Put (in_words set i) keep start a b → Put (has set) keep start a b
  put-last i all = changed-ext (put_in (in_words set i)) (put_in (has set)) (λ q x lt. ap (λ (t : Bool). cond t (chosen_of keep x start) x) (words-all set i q all lt))

-- ---- the smallest, part by part

below_both : (m n : ℕ) → m ≤ n → n ≤ m → m ≡ n
below_both m n a b = omega arith

smallest-none : (g : ℕ → ℕ) (n x : ℕ) → smallest n (λ p. false) g x ≡ x
unfolding smallest
smallest-none g zero x = refl
smallest-none g (suc n) x = smallest-none g n x

module _ (n : ℕ) (g : ℕ → ℕ) where
  -- all at once, or those of one test and then those of another
  smallest-both : (f h both : ℕ → Bool) (x : ℕ) → ((p : ℕ) → p < n → both p ≡ (f p || h p)) → smallest n h g (smallest n f g x) ≡ smallest n both g x
  smallest-both f h both x is = below_both (smallest n h g (smallest n f g x)) (smallest n both g x) down up
    where
      split : (a b : Bool) → (a || b) ≡ true → (a ≡ true) ⊎ (b ≡ true)
      split true b e = inl refl
      split false b e = inr e

      or_right : (a : Bool) → (a || true) ≡ true
      or_right true = refl
      or_right false = refl

      first-le : smallest n h g (smallest n f g x) ≤ smallest n f g x
      first-le = smallest-under h g (smallest n f g x) n

      down : smallest n h g (smallest n f g x) ≤ smallest n both g x
      down = go (smallest-is both g x n)
        where
          go : (smallest n both g x ≡ x) ⊎ ((k : ℕ) × (k < n) × (both k ≡ true) × (smallest n both g x ≡ g k)) → smallest n h g (smallest n f g x) ≤ smallest n both g x
          go (inl e) = omega (arith, first-le, smallest-under f g x n, e)
          go (inr k) = elim (split (f k.0) (h k.0) (sym (is k.0 k.1) ∙ k.2)) [
            | inl a ↦ omega (arith, first-le, smallest-at f g x n k.0 k.1 a, k.3)
            | inr b ↦ omega (arith, smallest-at h g (smallest n f g x) n k.0 k.1 b, k.3)
          ]

      up : smallest n both g x ≤ smallest n h g (smallest n f g x)
      up = go (smallest-is h g (smallest n f g x) n)
        where
          low : (smallest n f g x ≡ x) ⊎ ((k : ℕ) × (k < n) × (f k ≡ true) × (smallest n f g x ≡ g k)) → smallest n both g x ≤ smallest n f g x
          low (inl e) = omega (arith, smallest-under both g x n, e)
          low (inr k) = omega (arith, smallest-at both g x n k.0 k.1 (is k.0 k.1 ∙ ap (λ (b : Bool). b || h k.0) k.2), k.3)

          go : (smallest n h g (smallest n f g x) ≡ smallest n f g x) ⊎ ((k : ℕ) × (k < n) × (h k ≡ true) × (smallest n h g (smallest n f g x) ≡ g k))
              → smallest n both g x ≤ smallest n h g (smallest n f g x)
          go (inl e) = omega (arith, low (smallest-is f g x n), e)
          go (inr k) = omega (arith, smallest-at both g x n k.0 k.1 (is k.0 k.1 ∙ ap (λ (b : Bool). f k.0 || b) k.2 ∙ or_right (f k.0)), k.3)

  -- two tests that agree below n
  smallest-ext : (f h : ℕ → Bool) (x : ℕ) → ((p : ℕ) → p < n → f p ≡ h p) → smallest n f g x ≡ smallest n h g x
  smallest-ext f h x e =
      below_both (smallest n f g x) (smallest n h g x) (le f h (λ p lt. e p lt)) (le h f (λ p lt. sym (e p lt)))
    where
      le : (f h : ℕ → Bool) → ((p : ℕ) → p < n → f p ≡ h p) → smallest n f g x ≤ smallest n h g x
      le f h e = go (smallest-is h g x n)
        where
          go : (smallest n h g x ≡ x) ⊎ ((k : ℕ) × (k < n) × (h k ≡ true) × (smallest n h g x ≡ g k)) → smallest n f g x ≤ smallest n h g x
          go (inl q) = omega (arith, smallest-under f g x n, q)
          go (inr k) = omega (arith, smallest-at f g x n k.0 k.1 (e k.0 k.1 ∙ k.2), k.3)

  -- one of the numbers taken in first: b says whether it is one
  smallest-pick : (f h : ℕ → Bool) (b : Bool) (p x : ℕ) → p < n → ((k : ℕ) → k < n → ¬ (k ≡ p) → f k ≡ h k) → f p ≡ b → (h p ≡ true → b ≡ true)
      → smallest n f g x ≡ smallest n h g (cond b (chosen_of true x (g p)) x)
  smallest-pick f h b p x lp others is from =
      below_both (smallest n f g x) (smallest n h g (cond b (chosen_of true x (g p)) x)) (down (smallest-is h g (cond b (chosen_of true x (g p)) x) n)) (up (smallest-is f g x n))
    where
      chosen-le : (c : Bool) → ltb x (g p) ≡ c → (cond (true && c) x (g p) ≤ x) × (cond (true && c) x (g p) ≤ g p)
      chosen-le true e = (omega arith, less (dec_lt x (g p)))
        where
          less : Dec (x < g p) → x ≤ g p
          less (yes l) = omega arith
          less (no l) = absurd (true≢false (sym e ∙ le-ltb x (g p) (omega arith)))
      chosen-le false e = (more (dec_lt x (g p)), omega arith)
        where
          more : Dec (x < g p) → g p ≤ x
          more (yes l) = absurd (true≢false (sym (lt-ltb x (g p) l) ∙ e))
          more (no l) = omega arith

      chosen_is : (c : Bool) → (cond (true && c) x (g p) ≡ x) ⊎ (cond (true && c) x (g p) ≡ g p)
      chosen_is true = inl refl
      chosen_is false = inr refl

      low : (b : Bool) → f p ≡ b → smallest n f g x ≤ cond b (chosen_of true x (g p)) x
      low true e = elim (chosen_is (ltb x (g p))) [
        | inl q ↦ omega (arith, q, smallest-under f g x n)
        | inr q ↦ omega (arith, q, smallest-at f g x n p lp e)
      ]
      low false e = smallest-under f g x n

      down : (smallest n h g (cond b (chosen_of true x (g p)) x) ≡ cond b (chosen_of true x (g p)) x)
          ⊎ ((k : ℕ) × (k < n) × (h k ≡ true) × (smallest n h g (cond b (chosen_of true x (g p)) x) ≡ g k))
          → smallest n f g x ≤ smallest n h g (cond b (chosen_of true x (g p)) x)
      down (inl e) = omega (arith, low b is, e)
      down (inr k) = elim (ℕ_discrete k.0 p) [
        | yes q ↦ omega (arith, k.3, ap g q, smallest-at f g x n p lp (is ∙ from (ap h (sym q) ∙ k.2)))
        | no q ↦ omega (arith, k.3, smallest-at f g x n k.0 k.1 (others k.0 k.1 q ∙ k.2))
      ]

      under : (b : Bool) → (cond b (chosen_of true x (g p)) x ≤ x) × (b ≡ true → cond b (chosen_of true x (g p)) x ≤ g p)
      under true = ((chosen-le (ltb x (g p)) refl).0, λ e. (chosen-le (ltb x (g p)) refl).1)
      under false = (omega arith, λ e. absurd (true≢false (sym e)))

      up : (smallest n f g x ≡ x) ⊎ ((k : ℕ) × (k < n) × (f k ≡ true) × (smallest n f g x ≡ g k)) → smallest n h g (cond b (chosen_of true x (g p)) x) ≤ smallest n f g x
      up (inl e) = omega (arith, e, smallest-under h g (cond b (chosen_of true x (g p)) x) n, (under b).0)
      up (inr k) = elim (ℕ_discrete k.0 p) [
        | yes q ↦ omega (arith, k.3, ap g q, smallest-under h g (cond b (chosen_of true x (g p)) x) n, (under b).1 (sym is ∙ ap f (sym q) ∙ k.2))
        | no q ↦ omega (arith, k.3, smallest-at h g (cond b (chosen_of true x (g p)) x) n k.0 k.1 (sym (others k.0 k.1 q) ∙ k.2))
      ]

-- ---- carrying the starts of a word's positions

module _ (next from : List ℕ) (rows : ℕ) (t : List ℕ) where
  abbrev follow_at : (test : ℕ → Bool) → (q x : ℕ) → ℕ
  follow_at test q x = cond (has next q) (smallest max_positions (λ p. test p && row_has t (rows + p * 4) q) (λ p. get_or from p 0) x) x

  pub record FollowLeft (word₀ i : ℕ) (old : List ℕ) (word : ℕ) (new : List ℕ) : Type 0 where
    pub small : word < 2 ^ 64
    pub as_long : length new ≡ length old
    pub same : length old ≡ max_positions → (q : ℕ) → q < max_positions → follow_at (in_word word₀ i) q (get_or old q 0) ≡ follow_at (in_word word i) q (get_or new q 0)

  pub follow-none : (word i : ℕ) (old : List ℕ) → word < 2 ^ 64 → FollowLeft word i old word old
  follow-none word i old fits = record { small = fits; as_long = refl; same = λ full q lt. refl }

  follow-lowest : (word₀ i : ℕ) (old : List ℕ) (word : ℕ) (new : List ℕ) → FollowLeft word₀ i old word new → ¬ (word ≡ 0) → i < 4 → (to new' : List ℕ)
      → to ≡ intersection_of (set_of (row_has t (rows + (i * 64 + count_trailing_zeros 64 word) * 4))) next
      → Put (has to) true (get_or from (i * 64 + count_trailing_zeros 64 word) 0) new new' → FollowLeft word₀ i old (bit_and word (word - 1)) new'
  follow-lowest word₀ i old word new h some li to new' is put = record {
    small = fits-still word h.small some;
    as_long = put.as_long ∙ h.as_long;
    same = λ full q lt. h.same full q lt ∙ go full q lt (has next q) refl;
  }
    where
      at : ℕ
      at = i * 64 + count_trailing_zeros 64 word

      inside : i * 64 + count_trailing_zeros 64 word < 256
      inside = place_inside i (count_trailing_zeros 64 word) li (digit word h.small some)

      member : (q : ℕ) → q < max_positions → has to q ≡ (row_has t (rows + (i * 64 + count_trailing_zeros 64 word) * 4) q && has next q)
      member q lt =
          ap (λ (s : List ℕ). has s q) is ∙ has-intersection (set_of (row_has t (rows + (i * 64 + count_trailing_zeros 64 word) * 4))) next q lt
          ∙ ap (λ (b : Bool). b && has next q) (has-set_of (row_has t (rows + (i * 64 + count_trailing_zeros 64 word) * 4)) q lt)

      and_yes : (b : Bool) → (b && true) ≡ b
      and_yes true = refl
      and_yes false = refl

      and_no : (b : Bool) → (b && false) ≡ false
      and_no true = refl
      and_no false = refl

      second : (a b : Bool) → (a && b) ≡ true → b ≡ true
      second true b e = e
      second false b e = absurd (true≢false (sym e))

      go : length old ≡ max_positions → (q : ℕ) → q < max_positions → (b : Bool) → has next q ≡ b
          → follow_at (in_word word i) q (get_or new q 0) ≡ follow_at (in_word (bit_and word (word - 1)) i) q (get_or new' q 0)
      go full q lt true e =
          let p : ℕ = i * 64 + count_trailing_zeros 64 word in
          let x : ℕ = get_or new q 0 in
          let row : ℕ → Bool = λ k. row_has t (rows + k * 4) q in
          let entry : get_or new' q 0 ≡ cond (row p) (chosen_of true x (get_or from p 0)) x =
          put.each (h.as_long ∙ full) q lt
          ∙ ap (λ (b : Bool). cond b (chosen_of true x (get_or from p 0)) x) (member q lt ∙ ap (λ (b : Bool). row p && b) e ∙ and_yes (row p)) in
          ap (λ (b : Bool). cond b (smallest max_positions (λ k. in_word word i k && row_has t (rows + k * 4) q) (λ k. get_or from k 0) x) x) e
          ∙ smallest-pick max_positions (λ k. get_or from k 0) (λ k. in_word word i k && row_has t (rows + k * 4) q) (λ k. in_word (bit_and word (word - 1)) i k && row_has t (rows + k * 4) q)
          (row p) p x inside
          (λ k l ne. ap (λ (b : Bool). b && row_has t (rows + k * 4) q) (others-left word h.small some i k ne))
          (ap (λ (b : Bool). b && row_has t (rows + p * 4) q) (asked_in word h.small some i))
          (second (in_word (bit_and word (word - 1)) i p) (row p))
          ∙ ap (smallest max_positions (λ k. in_word (bit_and word (word - 1)) i k && row_has t (rows + k * 4) q) (λ k. get_or from k 0)) (sym entry)
          ∙ sym (ap (λ (b : Bool). cond b (smallest max_positions (λ k. in_word (bit_and word (word - 1)) i k && row_has t (rows + k * 4) q) (λ k. get_or from k 0) (get_or new' q 0)) (get_or new' q 0)) e)
      go full q lt false e =
          let p : ℕ = i * 64 + count_trailing_zeros 64 word in
          let x : ℕ = get_or new q 0 in
          let entry : get_or new' q 0 ≡ x =
          put.each (h.as_long ∙ full) q lt
          ∙ ap (λ (b : Bool). cond b (chosen_of true x (get_or from p 0)) x) (member q lt ∙ ap (λ (b : Bool). row_has t (rows + p * 4) q && b) e ∙ and_no (row_has t (rows + p * 4) q)) in
          ap (λ (b : Bool). cond b (smallest max_positions (λ k. in_word word i k && row_has t (rows + k * 4) q) (λ k. get_or from k 0) x) x) e
          ∙ sym entry
          ∙ sym (ap (λ (b : Bool). cond b (smallest max_positions (λ k. in_word (bit_and word (word - 1)) i k && row_has t (rows + k * 4) q) (λ k. get_or from k 0) (get_or new' q 0)) (get_or new' q 0)) e)

  pub follow-turn : (word₀ i : ℕ) (old : List ℕ) {word k rest : ℕ} (new : List ℕ) → FollowLeft word₀ i old word new → GivesLowest word (Some k) rest → i < 4 → (to new' : List ℕ)
      → to ≡ intersection_of (set_of (row_has t (rows + (i * 64 + k) * 4))) next → Put (has to) true (get_or from (i * 64 + k) 0) new new' → FollowLeft word₀ i old rest new'
  follow-turn word₀ i old {word} new h g li to new' =
      taken g (λ k rest. to ≡ intersection_of (set_of (row_has t (rows + (i * 64 + k) * 4))) next → Put (has to) true (get_or from (i * 64 + k) 0) new new' → FollowLeft word₀ i old rest new')
      (follow-lowest word₀ i old word new h (some_left g) li to new')

  pub follow-all : (word₀ i : ℕ) (old : List ℕ) (word : ℕ) (new : List ℕ) → FollowLeft word₀ i old word new → word ≡ 0 → Followed (in_word word₀ i) next from rows t old new
  follow-all word₀ i old word new h e = record {
    as_long = h.as_long;
    each = λ full q lt. sym (h.same full q lt ∙ rest q (get_or new q 0));
  }
    where
      none : (q p : ℕ) → (in_word word i p && row_has t (rows + p * 4) q) ≡ false
      none q p = ap (λ (b : Bool). b && row_has t (rows + p * 4) q) (ap (λ (x : ℕ). in_word x i p) e ∙ none_left i p)

      rest : (q x : ℕ) → follow_at (in_word word i) q x ≡ x
      rest q x =
          ap (λ (y : ℕ). cond (has next q) y x)
          (smallest-ext max_positions (λ p. get_or from p 0) (λ p. in_word word i p && row_has t (rows + p * 4) q) (λ p. false) x (λ p lt. none q p) ∙ smallest-none (λ p. get_or from p 0) max_positions x)
          ∙ alike (has next q) x
        where
          alike : (b : Bool) (x : ℕ) → cond b x x ≡ x
          alike true x = refl
          alike false x = refl

  follow-join : (f g : ℕ → Bool) (a b c : List ℕ) → Followed f next from rows t a b → Followed g next from rows t b c → Followed (λ p. f p || g p) next from rows t a c
  follow-join f g a b c h k = record {
    as_long = k.as_long ∙ h.as_long;
    each = λ full q lt.
        k.each (h.as_long ∙ full) q lt ∙ ap (follow_at g q) (h.each full q lt) ∙ both q (has next q) (get_or a q 0);
  }
    where
      spread : (x y z : Bool) → ((x || y) && z) ≡ (x && z || y && z)
      spread true y true = refl
      spread true true false = refl
      spread true false false = refl
      spread false y z = refl

      both : (q : ℕ) (n : Bool) (x : ℕ)
          → cond n (smallest max_positions (λ p. g p && row_has t (rows + p * 4) q) (λ p. get_or from p 0) (cond n (smallest max_positions (λ p. f p && row_has t (rows + p * 4) q) (λ p. get_or from p 0) x) x)) (cond n (smallest max_positions (λ p. f p && row_has t (rows + p * 4) q) (λ p. get_or from p 0) x) x)
          ≡ cond n (smallest max_positions (λ p. (f p || g p) && row_has t (rows + p * 4) q) (λ p. get_or from p 0) x) x
      both q true x =
          smallest-both max_positions (λ p. get_or from p 0) (λ p. f p && row_has t (rows + p * 4) q) (λ p. g p && row_has t (rows + p * 4) q)
          (λ p. (f p || g p) && row_has t (rows + p * 4) q) x (λ p lt. spread (f p) (g p) (row_has t (rows + p * 4) q))
      both q false x = refl

  module _ (live : List ℕ) where
    follow-same : (f g : ℕ → Bool) {a b : List ℕ} → ((p : ℕ) → p < max_positions → f p ≡ g p) → Followed f next from rows t a b → Followed g next from rows t a b
    follow-same f g same =
        changed-ext (follow_at f) (follow_at g)
        (λ q x lt. ap (λ (y : ℕ). cond (has next q) y x)
        (smallest-ext max_positions (λ p. get_or from p 0) (λ p. f p && row_has t (rows + p * 4) q) (λ p. g p && row_has t (rows + p * 4) q) x
        (λ p l. ap (λ (b : Bool). b && row_has t (rows + p * 4) q) (same p l))))

    pub follow-first : (a : List ℕ) → Followed (in_words live 0) next from rows t a a
    follow-first a = follow-same (λ p. false) (in_words live 0) (λ p l. sym (words-none live p)) (changed-none (follow_at (λ p. false)) a (λ q x. none q x (has next q)))
      where
        none : (q x : ℕ) (b : Bool) → cond b (smallest max_positions (λ p. false && row_has t (rows + p * 4) q) (λ p. get_or from p 0) x) x ≡ x
        none q x true = smallest-none (λ p. get_or from p 0) max_positions x
        none q x false = refl

    pub follow-next : (i : ℕ) {a b c : List ℕ} → Followed (in_words live i) next from rows t a b → Followed (in_word (get_or live i 0) i) next from rows t b c
        → Followed (in_words live (i + 1)) next from rows t a c
    follow-next i {a} {b} {c} h k =
        follow-same (λ p. in_words live i p || in_word (get_or live i 0) i p) (in_words live (i + 1)) (λ p l. words-more live i p)
        (follow-join (in_words live i) (in_word (get_or live i 0) i) a b c h k)

    pub follow-last : (i : ℕ) → i ≡ 4 → {a b : List ℕ} → Followed (in_words live i) next from rows t a b → Followed (has live) next from rows t a b
    follow-last i all = follow-same (in_words live i) (has live) (λ p l. words-all live i p all l)

-- ---- the whole step

pub list_length : (i n : ℕ) (f : ℕ → ℕ) → length (list_from i n f) ≡ n
unfolding list_from
list_length i zero f = refl
list_length i (suc n) f = ap suc (list_length (suc i) n f)

pub list_at : (i n : ℕ) (f : ℕ → ℕ) (q : ℕ) → q < n → get_or (list_from i n f) q 0 ≡ f (i + q)
unfolding list_from
list_at i zero f q lt = absurd (omega arith)
list_at i (suc n) f zero lt = let e : i ≡ i + 0 = omega arith in ap f e
list_at i (suc n) f (suc q) lt = let e : suc i + q ≡ i + suc q = omega arith in list_at (suc i) n f q (omega arith) ∙ ap f e

-- a list by its numbers
pub list-is : (n : ℕ) (l : List ℕ) (f : ℕ → ℕ) → length l ≡ n → ((q : ℕ) → q < n → get_or l q 0 ≡ f q) → l ≡ list_from 0 n f
list-is n l f full each =
    ext_get_or 0 l (list_from 0 n f) (full ∙ sym (list_length 0 n f))
    (λ q lt. let l : q < n = subst (λ (m : ℕ). q < m) full lt in each q l ∙ sym (list_at 0 n f q l ∙ ap f (zero-add q)))

-- one of the starts after a byte
pub stepped-at : (w : Automaton) (line : Bool) (before after : Side) (live starts next : List ℕ) (taken q : ℕ) → q < max_positions
    → get_or (stepped_starts w line before after live starts next taken) q 0 ≡ cond (has next q) (start_after w line before after live starts taken q) 0
unfolding stepped_starts
stepped-at w line before after live starts next taken q lt =
    list_at 0 max_positions (λ q. cond (has next q) (start_after w line before after live starts taken q) 0) q lt
    ∙ ap (λ (q : ℕ). cond (has next q) (start_after w line before after live starts taken q) 0) (zero-add q)

abbrev start_of : (t : List ℕ) (line : Bool) (before after : Side) (live starts next : List ℕ) (taken q : ℕ) → ℕ
start_of t line before after live starts next taken q =
    cond (has next q) (smallest max_positions (λ p. has live p && (automaton t).follow (gap_of line before after) p q) (λ p. get_or starts p 0) taken) 0

pub carried : (t : List ℕ) (line : Bool) (before after : Side) (live starts next : List ℕ) (taken : ℕ) (zeros a new : List ℕ) (rows : ℕ) → rows ≡ follow_rows (gap_of line before after)
    → length zeros ≡ 256 → ((q : ℕ) → q < 256 → get_or zeros q 0 ≡ 0) → Put (has next) false taken zeros a → Followed (has live) next starts rows t a new
    → new ≡ stepped_starts (automaton t) line before after live starts next taken
unfolding stepped_starts start_after
carried t line before after live starts next taken zeros a new rows er full none put follow =
    ext_get_or 0 new (list_from 0 max_positions (start_of t line before after live starts next taken))
    (long ∙ sym (list_length 0 max_positions (start_of t line before after live starts next taken))) (λ q lt. at q (subst (λ (n : ℕ). q < n) long lt))
  where
    long : length new ≡ 256
    long = follow.as_long ∙ put.as_long ∙ full

    at : (q : ℕ) → q < 256 → get_or new q 0 ≡ get_or (list_from 0 max_positions (start_of t line before after live starts next taken)) q 0
    at q lt =
        follow.each (put.as_long ∙ full) q lt
        ∙ ap (λ (x : ℕ). cond (has next q) (smallest max_positions (λ p. has live p && row_has t (rows + p * 4) q) (λ p. get_or starts p 0) x) x)
        (put.each full q lt ∙ ap (λ (x : ℕ). cond (has next q) taken x) (none q lt))
        ∙ same (has next q)
        ∙ ap (λ (y : ℕ). cond (has next q) y 0)
        (smallest-ext max_positions (λ p. get_or starts p 0) (λ p. has live p && row_has t (rows + p * 4) q) (λ p. has live p && (automaton t).follow (gap_of line before after) p q) taken
        (λ p l. ap (λ (b : Bool). has live p && b)
        (ap (λ (r : ℕ). row_has t (r + p * 4) q) er ∙ follow-row t (gap_of line before after) p q (gap_of-follow line before after) l)))
        ∙ sym (list_at 0 max_positions (start_of t line before after live starts next taken) q lt ∙ ap (start_of t line before after live starts next taken) (zero-add q))
      where
        same : (b : Bool)
            → cond b (smallest max_positions (λ p. has live p && row_has t (rows + p * 4) q) (λ p. get_or starts p 0) (cond b taken 0)) (cond b taken 0)
            ≡ cond b (smallest max_positions (λ p. has live p && row_has t (rows + p * 4) q) (λ p. get_or starts p 0) taken) 0
        same true = refl
        same false = refl

-- 256 zeros
pub zeros-length : (n : ℕ) → length {A = ℕ} (replicate n 0) ≡ n
zeros-length zero = refl
zeros-length (suc n) = ap suc (zeros-length n)

pub zeros-at : (n q : ℕ) → ◌≡◌ {A = ℕ} (get_or (replicate n 0) q 0) 0
zeros-at zero q = refl
zeros-at (suc n) zero = refl
zeros-at (suc n) (suc q) = zeros-at n q

pub list_on_lem : (t : List ℕ) (n : ℕ) (s : List ℕ) → table_words ≤ length t → s ≡ list_on t n s
unfolding list_on
list_on_lem t n s h = ap (λ (b : Bool). cond b s (list_from 0 n (λ q. 0))) (sym (le-leb table_words (length t) h))

pub list-off : (t : List ℕ) (n : ℕ) (s zeros : List ℕ) → length t < table_words → length zeros ≡ n → ((q : ℕ) → q < n → get_or zeros q 0 ≡ 0) → zeros ≡ list_on t n s
unfolding list_on
list-off t n s zeros h full none =
    list-is n zeros (λ q. 0) full none
    ∙ ap (λ (b : Bool). cond b s (list_from 0 n (λ q. 0))) (sym (lt-leb table_words (length t) h))

-- ---- the smallest start of a rule's positions

module _ (t : List ℕ) (a : ℕ) (starts : List ℕ) where
  abbrev owned : ℕ → Bool
  owned p = eqb (get_or t (owner_at p) 0) a

  pub record LeastLeft (word₀ i least₀ word least : ℕ) : Type 0 where
    pub small : word < 2 ^ 64
    pub same : least_owned t (in_word word₀ i) a starts least₀ ≡ least_owned t (in_word word i) a starts least

  pub least-none : (word i least : ℕ) → word < 2 ^ 64 → LeastLeft word i least word least
  least-none word i least fits = record { small = fits; same = refl }

  least-lowest : (word₀ i least₀ word least : ℕ) → LeastLeft word₀ i least₀ word least → ¬ (word ≡ 0) → i < 4 → (v : ℕ)
      → v ≡ cond (owned (i * 64 + count_trailing_zeros 64 word)) (chosen_of true least (get_or starts (i * 64 + count_trailing_zeros 64 word) 0)) least
      → LeastLeft word₀ i least₀ (bit_and word (word - 1)) v
  unfolding least_owned
  least-lowest word₀ i least₀ word least h some li v is = record {
    small = fits-still word h.small some;
    same =
        h.same
        ∙ smallest-pick max_positions (λ p. get_or starts p 0) (λ p. in_word word i p && owned p) (λ p. in_word (bit_and word (word - 1)) i p && owned p)
        (owned (i * 64 + count_trailing_zeros 64 word)) (i * 64 + count_trailing_zeros 64 word) least
        (place_inside i (count_trailing_zeros 64 word) li (digit word h.small some))
        (λ p lt ne. ap (λ (b : Bool). b && owned p) (others-left word h.small some i p ne))
        (ap (λ (b : Bool). b && owned (i * 64 + count_trailing_zeros 64 word)) (asked_in word h.small some i))
        (second (in_word (bit_and word (word - 1)) i (i * 64 + count_trailing_zeros 64 word)) (owned (i * 64 + count_trailing_zeros 64 word)))
        ∙ ap (smallest max_positions (λ p. in_word (bit_and word (word - 1)) i p && owned p) (λ p. get_or starts p 0)) (sym is);
  }
    where
      second : (x y : Bool) → (x && y) ≡ true → y ≡ true
      second true y e = e
      second false y e = absurd (true≢false (sym e))

  pub least-turn : (word₀ i least₀ : ℕ) {word k rest : ℕ} (least : ℕ) → LeastLeft word₀ i least₀ word least → GivesLowest word (Some k) rest → i < 4 → (v : ℕ)
      → v ≡ cond (owned (i * 64 + k)) (min least (get_or starts (i * 64 + k) 0)) least → LeastLeft word₀ i least₀ rest v
  least-turn word₀ i least₀ {word} least h g li v =
      taken g (λ k rest. v ≡ cond (owned (i * 64 + k)) (min least (get_or starts (i * 64 + k) 0)) least → LeastLeft word₀ i least₀ rest v)
      (λ is. least-lowest word₀ i least₀ word least h (some_left g) li v
      (is ∙ ap (λ (x : ℕ). cond (owned (i * 64 + count_trailing_zeros 64 word)) x least) (smaller least (get_or starts (i * 64 + count_trailing_zeros 64 word) 0))))

  pub least-all : (word₀ i least₀ word least : ℕ) → LeastLeft word₀ i least₀ word least → word ≡ 0 → least ≡ least_owned t (in_word word₀ i) a starts least₀
  unfolding least_owned
  least-all word₀ i least₀ word least h e =
      sym (h.same
      ∙ smallest-ext max_positions (λ p. get_or starts p 0) (λ p. in_word word i p && owned p) (λ p. false) least
      (λ p lt. ap (λ (b : Bool). b && owned p) (ap (λ (x : ℕ). in_word x i p) e ∙ none_left i p))
      ∙ smallest-none (λ p. get_or starts p 0) max_positions least)

  module _ (set : List ℕ) (d : ℕ) where
    pub least-first : least_owned t (in_words set 0) a starts d ≡ d
    unfolding least_owned
    least-first =
        smallest-ext max_positions (λ p. get_or starts p 0) (λ p. in_words set 0 p && owned p) (λ p. false) d (λ p lt. ap (λ (b : Bool). b && owned p) (words-none set p))
        ∙ smallest-none (λ p. get_or starts p 0) max_positions d

    pub least-next : (i : ℕ) {x y : ℕ} → x ≡ least_owned t (in_words set i) a starts d → y ≡ least_owned t (in_word (get_or set i 0) i) a starts x
        → y ≡ least_owned t (in_words set (i + 1)) a starts d
    unfolding least_owned
    least-next i {x} {y} h k =
        k ∙ ap (smallest max_positions (λ p. in_word (get_or set i 0) i p && owned p) (λ p. get_or starts p 0)) h
        ∙ smallest-both max_positions (λ p. get_or starts p 0) (λ p. in_words set i p && owned p) (λ p. in_word (get_or set i 0) i p && owned p) (λ p. in_words set (i + 1) p && owned p) d
        (λ p lt. ap (λ (b : Bool). b && owned p) (sym (words-more set i p)) ∙ spread (in_words set i p) (in_word (get_or set i 0) i p) (owned p))
      where
        spread : (x y z : Bool) → ((x || y) && z) ≡ (x && z || y && z)
        spread true y true = refl
        spread true true false = refl
        spread true false false = refl
        spread false y z = refl

    pub least-last : (i : ℕ) → i ≡ 4 → {x : ℕ} → x ≡ least_owned t (in_words set i) a starts d → x ≡ least_owned t (has set) a starts d
    unfolding least_owned
    least-last i all h =
        h ∙ smallest-ext max_positions (λ p. get_or starts p 0) (λ p. in_words set i p && owned p) (λ p. has set p && owned p) d
        (λ p lt. ap (λ (b : Bool). b && owned p) (words-all set i p all lt))

-- of the positions that can end a match at a gap
pub least-ending : (t : List ℕ) (gap : ℕ) (set row found starts : List ℕ) (a d : ℕ) → row ≡ set_of ((automaton t).ending gap) → found ≡ intersection_of set row
    → least_owned t (has found) a starts d ≡ start_at (automaton t) gap set starts d a
unfolding least_owned start_at automaton
least-ending t gap set row found starts a d row_is is =
    smallest-ext max_positions (λ p. get_or starts p 0) (λ p. has found p && eqb (get_or t (owner_at p) 0) a) (λ p. has set p && last (automaton t) gap a p) d
    (λ p lt. ap₂ (λ (b : Bool) (n : ℕ). b && eqb n a)
    (ap (λ (s : List ℕ). has s p) (is ∙ ap (intersection_of set) row_is) ∙ has-intersection set (set_of ((automaton t).ending gap)) p lt
    ∙ ap (λ (b : Bool). has set p && b) (has-set_of ((automaton t).ending gap) p lt))
    (sym (ap (λ (b : Bool). cond b (get_or t (owner_at p) 0) 0) (lt-ltb p max_positions lt)))
    ∙ and_assoc (has set p) ((automaton t).ending gap p) (eqb ((automaton t).owner p) a))

-- ---- the starts of some rules

-- the rules of the word that are left are still to be given theirs; the others have it
module _ (give : ℕ → ℕ) where
  abbrev given_to : (word a : ℕ) → ℕ
  given_to word a = cond (on word a) (give a) 0

  pub record RulesLeft (rules word : ℕ) (new : List ℕ) : Type 0 where
    pub small : word < 2 ^ 64
    pub as_long : length new ≡ max_rules
    pub among : (a : ℕ) → a < max_rules → on word a ≡ true → on rules a ≡ true
    pub done : (a : ℕ) → a < max_rules → on word a ≡ false → get_or new a 0 ≡ given_to rules a

  pub rules-none-yet : (rules : ℕ) (zeros : List ℕ) → rules < 2 ^ 64 → length zeros ≡ max_rules → ((a : ℕ) → a < max_rules → get_or zeros a 0 ≡ 0) → RulesLeft rules rules zeros
  rules-none-yet rules zeros fits full none = record {
    small = fits;
    as_long = full;
    among = λ a lt e. e;
    done = λ a lt e. none a lt ∙ sym (ap (λ (b : Bool). cond b (give a) 0) e);
  }

  rules-lowest : (rules word : ℕ) (new : List ℕ) → RulesLeft rules word new → ¬ (word ≡ 0) → (v : ℕ)
      → v ≡ give (count_trailing_zeros 64 word)
      → RulesLeft rules (bit_and word (word - 1)) (set new (count_trailing_zeros 64 word) v)
  rules-lowest rules word new h some v is = record {
    small = fits-still word h.small some;
    as_long = length-set new (count_trailing_zeros 64 word) v ∙ h.as_long;
    among = λ a lt e. h.among a lt (on-turn word h.small some a ∙ ap (λ (b : Bool). eqb a (count_trailing_zeros 64 word) || b) e ∙ or_right (eqb a (count_trailing_zeros 64 word)));
    done = λ a lt e. go a lt e (ℕ_discrete a (count_trailing_zeros 64 word));
  }
    where
      or_right : (b : Bool) → (b || true) ≡ true
      or_right true = refl
      or_right false = refl

      or_no : (b : Bool) → (b || false) ≡ b
      or_no true = refl
      or_no false = refl

      go : (a : ℕ) → a < max_rules → on (bit_and word (word - 1)) a ≡ false → Dec (a ≡ count_trailing_zeros 64 word)
          → get_or (set new (count_trailing_zeros 64 word) v) a 0 ≡ given_to rules a
      go a lt e (yes q) =
          let z : ℕ = count_trailing_zeros 64 word in
          ap (λ (k : ℕ). get_or (set new z v) k 0) q
          ∙ get_or-set_same new z v 0 (omega (arith, h.as_long, digit word h.small some)) ∙ is
          ∙ sym (ap (given_to rules) q
          ∙ ap (λ (b : Bool). cond b (give z) 0)
          (h.among z (digit word h.small some) (zeros-on 64 word h.small (omega arith)).1))
      go a lt e (no q) =
          get_or-set_other new (count_trailing_zeros 64 word) a v 0 q
          ∙ h.done a lt (on-turn word h.small some a ∙ ap₂ (λ (x y : Bool). x || y) (ne_eqb a (count_trailing_zeros 64 word) q) e)

  pub rules-turn : (rules : ℕ) {word k rest : ℕ} (new : List ℕ) → RulesLeft rules word new → GivesLowest word (Some k) rest → (v : ℕ) → v ≡ give k → RulesLeft rules rest (set new k v)
  rules-turn rules {word} new h g v =
      taken g (λ k rest. v ≡ give k → RulesLeft rules rest (set new k v)) (rules-lowest rules word new h (some_left g) v)

  pub rules-all : (rules word : ℕ) (new : List ℕ) → RulesLeft rules word new → word ≡ 0 → (f : ℕ → ℕ) → ((a : ℕ) → give a ≡ f a)
      → new ≡ list_from 0 max_rules (λ a. cond (on rules a) (f a) 0)
  rules-all rules word new h e f same =
      list-is max_rules new (λ a. cond (on rules a) (f a) 0) h.as_long
      (λ a lt. h.done a lt (ap (λ (x : ℕ). on x a) e ∙ on-zero a) ∙ ap (λ (x : ℕ). cond (on rules a) x 0) (same a))
