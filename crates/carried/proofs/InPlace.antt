-- Starts in place. Copying is a walk as putting is (`Carrying`): what the turns still to come make
-- of the starts so far is what all turns make of the first ones. Then the starts of the live
-- positions become what a byte makes of them. Assumes nothing.
use mathlib.Core.Path.{◌≡◌, refl, sym, ap, ap₂, subst, ◌∙◌}
use mathlib.Core.Bool.{Bool, true, false, cond, ◌||◌}
use mathlib.Core.List.{List}
use Prim.Native.Nat.{ℕ, ◌+◌, ◌-◌, ◌*◌, ◌^◌, ◌<◌, ◌≤◌}
use native.Mathlib.Omega.{arith}
use native.Mathlib.Decide.{ℕ_discrete}
use lib.Bits.{bit_and}
use lib.Count.{count_trailing_zeros}
use lib.ListN.{length, get_or, set, length-set}
use lib.Seq.{ext_get_or, get_or-set_same, get_or-set_other}
use Rattle.kinds.specs.declared.Side.{Side}
use Rattle.std.proofs.Common.{Some}
use Rattle.sets.specs.Set.{has}
use Rattle.sets.specs.Walk.{GivesLowest}
use Rattle.table.specs.Layout.{table_words, max_positions}
use Rattle.table.specs.Gaps.{gap_of}
use Rattle.table.specs.Automaton.{automaton}
use Rattle.steps.specs.Step.{list_from, start_after, stepped_starts, OnlyIn, StartsInPlace}
use Rattle.steps.specs.Invariants.{chosen_of, in_word, Put, Followed, Copied}
use Rattle.steps.proofs.Bounds.{follow_rows}
use Rattle.steps.proofs.Carrying.{some_left, taken, digit, fits-still, asked_in, others-left, none_left, in_words, words-none, words-more, words-all, changed-ext, changed-none, list_length, list_at, list-is, list_on_lem, list-off, stepped-at, carried}

-- ---- copying starts

abbrev copy_at : (word i : ℕ) → (from : List ℕ) → (q x : ℕ) → ℕ
copy_at word i from q x = cond (in_word word i q) (get_or from q 0) x

pub record CopyLeft (word₀ i : ℕ) (from old : List ℕ) (word : ℕ) (new : List ℕ) : Type 0 where
  pub small : word < 2 ^ 64
  pub as_long : length new ≡ length old
  pub same : length old ≡ max_positions → (q : ℕ) → q < max_positions → copy_at word₀ i from q (get_or old q 0) ≡ copy_at word i from q (get_or new q 0)

pub copy-none : (word i : ℕ) (from old : List ℕ) → word < 2 ^ 64 → CopyLeft word i from old word old
copy-none word i from old fits = record { small = fits; as_long = refl; same = λ full q lt. refl }

copy-lowest : (word₀ i : ℕ) (from old : List ℕ) (word : ℕ) (new : List ℕ) → CopyLeft word₀ i from old word new → ¬ (word ≡ 0) → i < 4
    → CopyLeft word₀ i from old (bit_and word (word - 1)) (set new (i * 64 + count_trailing_zeros 64 word) (get_or from (i * 64 + count_trailing_zeros 64 word) 0))
copy-lowest word₀ i from old word new h some li = record {
  small = fits-still word h.small some;
  as_long = length-set new (i * 64 + count_trailing_zeros 64 word) (get_or from (i * 64 + count_trailing_zeros 64 word) 0) ∙ h.as_long;
  same = λ full q lt. h.same full q lt ∙ go full q (ℕ_discrete q (i * 64 + count_trailing_zeros 64 word));
}
  where
    alike : (b : Bool) (x : ℕ) → x ≡ cond b x x
    alike true x = refl
    alike false x = refl

    go : length old ≡ max_positions → (q : ℕ) → Dec (q ≡ i * 64 + count_trailing_zeros 64 word)
        → copy_at word i from q (get_or new q 0)
        ≡ copy_at (bit_and word (word - 1)) i from q (get_or (set new (i * 64 + count_trailing_zeros 64 word) (get_or from (i * 64 + count_trailing_zeros 64 word) 0)) q 0)
    go full q (yes e) =
        let at : ℕ = i * 64 + count_trailing_zeros 64 word in
        let inside : at < length new = omega (arith, h.as_long, full, digit word h.small some) in
        ap (λ (k : ℕ). copy_at word i from k (get_or new k 0)) e
        ∙ ap (λ (b : Bool). cond b (get_or from at 0) (get_or new at 0)) (asked_in word h.small some i)
        ∙ alike (in_word (bit_and word (word - 1)) i at) (get_or from at 0)
        ∙ ap (copy_at (bit_and word (word - 1)) i from at) (sym (get_or-set_same new at (get_or from at 0) 0 inside))
        ∙ ap (λ (k : ℕ). copy_at (bit_and word (word - 1)) i from k (get_or (set new at (get_or from at 0)) k 0)) (sym e)
    go full q (no ne) =
        let at : ℕ = i * 64 + count_trailing_zeros 64 word in
        ap₂ (λ (b : Bool) (x : ℕ). cond b (get_or from q 0) x) (others-left word h.small some i q ne) (sym (get_or-set_other new at q (get_or from at 0) 0 ne))

pub copy-turn : (word₀ i : ℕ) (from old : List ℕ) {word k rest : ℕ} (new : List ℕ) → CopyLeft word₀ i from old word new → GivesLowest word (Some k) rest → i < 4
    → CopyLeft word₀ i from old rest (set new (i * 64 + k) (get_or from (i * 64 + k) 0))
copy-turn word₀ i from old {word} new h g li =
    taken g (λ k rest. CopyLeft word₀ i from old rest (set new (i * 64 + k) (get_or from (i * 64 + k) 0))) (copy-lowest word₀ i from old word new h (some_left g) li)

pub copy-all : (word₀ i : ℕ) (from old : List ℕ) (word : ℕ) (new : List ℕ) → CopyLeft word₀ i from old word new → word ≡ 0
    → Copied (in_word word₀ i) from old new
copy-all word₀ i from old word new h e = record {
  as_long = h.as_long;
  each = λ full q lt. sym (h.same full q lt ∙ ap (λ (b : Bool). cond b (get_or from q 0) (get_or new q 0)) (ap (λ (x : ℕ). in_word x i q) e ∙ none_left i q));
}

copy-join : (f g : ℕ → Bool) (from a b c : List ℕ) → Copied f from a b → Copied g from b c → Copied (λ q. f q || g q) from a c
copy-join f g from a b c h k = record {
  as_long = k.as_long ∙ h.as_long;
  each = λ full q lt.
      k.each (h.as_long ∙ full) q lt ∙ ap (λ (x : ℕ). cond (g q) (get_or from q 0) x) (h.each full q lt)
      ∙ both (f q) (g q) (get_or from q 0) (get_or a q 0);
}
  where
    both : (x y : Bool) (v u : ℕ) → cond y v (cond x v u) ≡ cond (x || y) v u
    both true true v u = refl
    both true false v u = refl
    both false true v u = refl
    both false false v u = refl

module _ (set from : List ℕ) where
  abbrev copied_in : (ℕ → Bool) → (q x : ℕ) → ℕ
  copied_in test q x = cond (test q) (get_or from q 0) x

  pub copy-first : (a : List ℕ) → Copied (in_words set 0) from a a
  copy-first a = changed-none (copied_in (in_words set 0)) a (λ q x. ap (λ (b : Bool). cond b (get_or from q 0) x) (words-none set q))

  pub copy-next : (i : ℕ) {a b c : List ℕ} → Copied (in_words set i) from a b → Copied (in_word (get_or set i 0) i) from b c → Copied (in_words set (i + 1)) from a c
  copy-next i {a} {b} {c} h k =
      changed-ext (copied_in (λ q. in_words set i q || in_word (get_or set i 0) i q)) (copied_in (in_words set (i + 1)))
      (λ q x lt. ap (λ (t : Bool). cond t (get_or from q 0) x) (words-more set i q))
      (copy-join (in_words set i) (in_word (get_or set i 0) i) from a b c h k)

  pub copy-last : (i : ℕ) → i ≡ 4 → {a b : List ℕ} → Copied (in_words set i) from a b → Copied (has set) from a b
  copy-last i all = changed-ext (copied_in (in_words set i)) (copied_in (has set)) (λ q x lt. ap (λ (t : Bool). cond t (get_or from q 0) x) (words-all set i q all lt))

-- ---- starts in place

-- where only positions of a set had a start and theirs are cleared, none has one
cleared : (live starts new : List ℕ) → OnlyIn live starts → Put (has live) false 0 starts new → (q : ℕ) → q < max_positions → get_or new q 0 ≡ 0
cleared live starts new only put q lt = put.each only.as_long q lt ∙ go (has live q) refl
  where
    go : (b : Bool) → has live q ≡ b → cond b (chosen_of false (get_or starts q 0) 0) (get_or starts q 0) ≡ 0
    go true e = refl
    go false e = only.none q lt e

-- of words too few they are all cleared
pub in-place-off : (t : List ℕ) (before after : Side) (live keeping next : List ℕ) (taken : ℕ) (starts spare new : List ℕ)
    → length t < table_words → Put (has live) false 0 starts new → StartsInPlace t before after live keeping next taken starts spare new spare
in-place-off t before after live keeping next taken starts spare new few put = record {
  starts_are = λ none only.
      list-off t max_positions (stepped_starts (automaton t) false before after keeping starts next taken) new few (put.as_long ∙ only.as_long) (cleared live starts new only put);
  spare_is = λ none. refl;
}

-- the new ones are put together in the spare list, the old ones cleared, the new ones copied, and
-- the spare list cleared
pub in_place : (t : List ℕ) (before after : Side) (live keeping next : List ℕ) (taken : ℕ) (starts spare a b c d e : List ℕ) (rows : ℕ)
    → rows ≡ follow_rows (gap_of false before after) → table_words ≤ length t
    → Put (has next) false taken spare a → Followed (has keeping) next starts rows t a b → Put (has live) false 0 starts c → Copied (has next) b c d
    → Put (has next) false 0 b e → StartsInPlace t before after live keeping next taken starts spare d e
in_place t before after live keeping next taken starts spare a b c d e rows er enough put follow clear copied again = record {
  starts_are = λ none only. moved none only ∙ list_on_lem t max_positions stepped enough;
  spare_is = λ none.
      list-is max_positions e (λ q. 0) (again.as_long ∙ follow.as_long ∙ put.as_long ∙ long none)
      (λ q lt. again.each (follow.as_long ∙ put.as_long ∙ long none) q lt
      ∙ ap (λ (x : ℕ). cond (has next q) 0 x) (at none q lt) ∙ off (has next q) (start_after (automaton t) false before after keeping starts taken q)) ∙ sym none;
}
  where
    stepped : List ℕ
    stepped = stepped_starts (automaton t) false before after keeping starts next taken

    long : spare ≡ list_from 0 max_positions (λ q. 0) → length spare ≡ max_positions
    long none = ap length none ∙ list_length 0 max_positions (λ q. 0)

    new_is : spare ≡ list_from 0 max_positions (λ q. 0) → b ≡ stepped_starts (automaton t) false before after keeping starts next taken
    new_is none =
        carried t false before after keeping starts next taken spare a b rows er (long none)
        (λ q lt. ap (λ (l : List ℕ). get_or l q 0) none ∙ list_at 0 max_positions (λ q. 0) q lt) put follow

    at : spare ≡ list_from 0 max_positions (λ q. 0) → (q : ℕ) → q < max_positions → get_or b q 0 ≡ cond (has next q) (start_after (automaton t) false before after keeping starts taken q) 0
    at none q lt = ap (λ (l : List ℕ). get_or l q 0) (new_is none) ∙ stepped-at (automaton t) false before after keeping starts next taken q lt

    off : (b : Bool) (x : ℕ) → cond b 0 (cond b x 0) ≡ 0
    off true x = refl
    off false x = refl

    twice-on : (b : Bool) (x : ℕ) → cond b (cond b x 0) 0 ≡ cond b x 0
    twice-on true x = refl
    twice-on false x = refl

    moved : spare ≡ list_from 0 max_positions (λ q. 0) → OnlyIn live starts → d ≡ stepped_starts (automaton t) false before after keeping starts next taken
    moved none only =
        ext_get_or 0 d b (copied.as_long ∙ clear.as_long ∙ only.as_long ∙ sym (follow.as_long ∙ put.as_long ∙ long none))
        (λ q less. each q (subst (λ (n : ℕ). q < n) (copied.as_long ∙ clear.as_long ∙ only.as_long) less)) ∙ new_is none
      where
        each : (q : ℕ) → q < max_positions → get_or d q 0 ≡ get_or b q 0
        each q lt =
            copied.each (clear.as_long ∙ only.as_long) q lt
            ∙ ap₂ (λ (x y : ℕ). cond (has next q) x y) (at none q lt) (cleared live starts c only clear q lt)
            ∙ twice-on (has next q) (start_after (automaton t) false before after keeping starts taken q) ∙ sym (at none q lt)
