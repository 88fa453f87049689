-- The positions that are long enough, word by word. Assumes nothing.
use mathlib.Core.Path.{◌≡◌, refl, sym, ap, ap₂, ◌∙◌}
use mathlib.Core.Bool.{Bool, true, false, not, ◌&&◌, ◌||◌, and-true}
use mathlib.Core.List.{List}
use Prim.Native.Nat.{ℕ, ◌+◌, ◌*◌, ◌/◌, ◌%◌, ◌<◌}
use native.Mathlib.Omega.{arith}
use lib.Dec.{eqb, leb}
use lib.ListN.{get_or}
use borrow.Author.Tests.{ne_eqb}
use Rattle.sets.specs.Set.{on, has, any, empty_set}
use Rattle.sets.proofs.Bits.{on-word_of, word_of-lt}
use Rattle.sets.proofs.Laws.{Words, has-at, four_of, four_of-set_of, has-set_of, has-empty, set_of-has, set_of-ext, any_none, any-never}
use Rattle.table.specs.Layout.{max_positions, keepers_at, lengths_of, shortest_at, row_has}
use Rattle.table.specs.Automaton.{Automaton, automaton}
use Rattle.table.proofs.Rows.{row-member}
use Rattle.lengths.specs.Long.{long_in}
use Rattle.lengths.specs.Invariants.{long_at, long_word}

-- a member of a set in a list is a digit of one of its words
row_at : (t : List ℕ) (at i k : ℕ) → i < 4 → k < 64 → row_has t at (i * 64 + k) ≡ on (get_or t (at + i) 0) k
row_at t at i k l h =
    let word : (i * 64 + k) / 64 ≡ i = omega arith in
    let digit : (i * 64 + k) % 64 ≡ k = omega arith in
    row-member t at (i * 64 + k) (omega arith) ∙ ap₂ (λ (j d : ℕ). on (get_or t (at + j) 0) d) word digit

-- one that keeps no start passes
pub stays-if : (keeping : ℕ) (f : ℕ → Bool) (k : ℕ) → on keeping k ≡ false → (not (on keeping k) || f k) ≡ true
stays-if keeping f k e = ap (λ (b : Bool). not b || f k) e

pub asked-if : (keeping : ℕ) (f : ℕ → Bool) (k : ℕ) → on keeping k ≡ true → (not (on keeping k) || f k) ≡ f k
asked-if keeping f k e = ap (λ (b : Bool). not b || f k) e

module _ (t set starts : List ℕ) (end : ℕ) where
  -- where no rule has a smallest length all are long enough
  pub all-long : Words set → lengths_of t ≡ 0 → set ≡ long_in (automaton t) set starts end
  unfolding long_in automaton
  all-long four none =
      sym (set_of-has set four)
      ∙ set_of-ext (has set) (λ q. has set q && (automaton t).long q (get_or starts q 0) end)
      (λ q l. sym (ap (λ (n : ℕ). has set q && ((eqb n 0 || not (row_has t keepers_at q)) || leb (get_or starts q 0 + get_or t (shortest_at q) 0) end)) none ∙ and-true (has set q)))

  -- and otherwise they are found word by word
  pub long-words : ¬ (lengths_of t ≡ 0)
      → four_of (λ i. long_word t starts end (get_or set i 0) (get_or t (keepers_at + i) 0) i) ≡ long_in (automaton t) set starts end
  unfolding long_in automaton long_word
  long-words some =
      four_of-set_of (λ i. long_word t starts end (get_or set i 0) (get_or t (keepers_at + i) 0) i) (λ q. has set q && (automaton t).long q (get_or starts q 0) end)
      (λ i l. word_of-lt 64 (λ k. on (get_or set i 0) k && (not (on (get_or t (keepers_at + i) 0) k) || long_at t starts end (i * 64 + k))))
      (λ i k l h.
      on-word_of 64 (λ k. on (get_or set i 0) k && (not (on (get_or t (keepers_at + i) 0) k) || long_at t starts end (i * 64 + k))) k h
      ∙ ap₂ (λ (b c : Bool). b && (c || long_at t starts end (i * 64 + k))) (sym (has-at set i k h))
      (ap not (sym (row_at t keepers_at i k l h)) ∙ ap (λ (b : Bool). b || not (row_has t keepers_at (i * 64 + k))) (sym (ne_eqb (lengths_of t) 0 some))))

-- ---- of any automaton

module _ (w : Automaton) (set starts : List ℕ) (end : ℕ) where
  pub has-long : (q : ℕ) → q < max_positions → has (long_in w set starts end) q ≡ (has set q && w.long q (get_or starts q 0) end)
  unfolding long_in
  has-long q l = has-set_of (λ q. has set q && w.long q (get_or starts q 0) end) q l

  -- a set that does not meet another does not meet it with those that are long enough
  pub long-meets : (other : List ℕ) → any max_positions (λ q. has set q && has other q) ≡ false
      → any max_positions (λ q. has (long_in w set starts end) q && has other q) ≡ false
  long-meets other none =
      any-never max_positions (λ q. has (long_in w set starts end) q && has other q)
      (λ q l. ap (λ (b : Bool). b && has other q) (has-long q l) ∙ shut (has set q) (w.long q (get_or starts q 0) end) (has other q) (any_none max_positions (λ q. has set q && has other q) none q l))
    where
      shut : (a b c : Bool) → (a && c) ≡ false → ((a && b) && c) ≡ false
      shut true true c e = e
      shut true false c e = refl
      shut false b c e = refl

  -- where each of its members is long enough, all are
  pub long-all : Words set → ((q : ℕ) → q < max_positions → has set q ≡ true → w.long q (get_or starts q 0) end ≡ true) → long_in w set starts end ≡ set
  unfolding long_in
  long-all four each =
      set_of-ext (λ q. has set q && w.long q (get_or starts q 0) end) (has set) (λ q l. go q l (has set q) refl) ∙ set_of-has set four
    where
      go : (q : ℕ) → q < max_positions → (b : Bool) → has set q ≡ b → (b && w.long q (get_or starts q 0) end) ≡ b
      go q l true e = each q l e
      go q l false e = refl

-- none of no positions
pub long-none : (w : Automaton) (starts : List ℕ) (end : ℕ) → long_in w empty_set starts end ≡ empty_set
unfolding long_in empty_set
long-none w starts end = set_of-ext (λ q. has empty_set q && w.long q (get_or starts q 0) end) (λ q. false) (λ q l. ap (λ (b : Bool). b && w.long q (get_or starts q 0) end) (has-empty q l))
