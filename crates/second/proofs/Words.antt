-- The words of a list of entries, read back.
use mathlib.Core.Path.{◌≡◌, refl, ap, ap₂, ◌∙◌}
use mathlib.Core.Bool.{Bool, cond}
use mathlib.Core.List.{List, [], ◌∷◌}
use Prim.Native.Nat.{ℕ, ◌+◌, ◌-◌, ◌*◌, ◌/◌, ◌%◌, ◌<◌, ◌≤◌, zero-le}
use native.Mathlib.Omega.{arith}
use lib.Dec.{ltb}
use lib.ListN.{length, get_or}
use borrow.Author.Tests.{lt-ltb, le-ltb}
use Rattle.sets.specs.Set.{size_of}
use Rattle.kinds.specs.declared.Side.{Side}
use Rattle.kinds.specs.Side.{side_word, side_in}
use Rattle.kinds.proofs.Sides.{side-read}
use Rattle.kinds.specs.declared.Side.TheVariants.{Other, Word, Newline}
use Rattle.table.specs.Automaton.{Automaton}
use Rattle.table.specs.Invariants.{over}
use Rattle.table.proofs.Over.{Written, over-in}
use Rattle.second.specs.Layout.{second_words, second_format, max_entries, second_rules, second_positions, entries_of, resting_at, record_at, entry_live, entry_held, entry_pending, entry_last, entry_own, entry_late, entry_busy, row_at, no_entry, target_word, words_at}
use Rattle.second.specs.declared.Key.{Key}
use Rattle.second.specs.Entries.{key_at, own_of, late_of, entry_record, target_of, resting_word, header_word, records_word, rows_word, second_word}

-- what was written, read back
pub written_in : {lo hi : ℕ} {g : ℕ → ℕ} {t s : List ℕ} → Written lo hi g t s → (w : ℕ) → lo ≤ w → w < hi → w < length t → get_or s w 0 ≡ g w
written_in {lo} {hi} {g} {t} r w a b h = ap (λ (l : List ℕ). get_or l w 0) r.is ∙ over-in lo hi g t w a b h

-- word j of an entry's record
pub second-record : (w : Automaton) (es : List Key) → length es ≤ max_entries → (e : ℕ) → e < length es → (j i : ℕ) → j < 16 → i ≡ 16 + e * 16 + j
    → second_word w es i ≡ get_or (entry_record w es e) j 0
unfolding second_word records_word
second-record w es few e h j i l at =
    let row : (i - 16) / 16 ≡ e = omega arith in
    let place : (i - 16) % 16 ≡ j = omega arith in
    ap (λ (b : Bool). cond b (header_word w es i) (cond (ltb i 4096) (records_word w es i) (rows_word w es i))) (le-ltb i 16 (omega arith))
    ∙ ap (λ (b : Bool). cond b (records_word w es i) (rows_word w es i)) (lt-ltb i 4096 (omega arith))
    ∙ ap₂ (λ (m n : ℕ). cond (ltb m (length es)) (get_or (entry_record w es m) n 0) 0) row place
    ∙ ap (λ (b : Bool). cond b (get_or (entry_record w es e) j 0) 0) (lt-ltb e (length es) h)

-- An entry's words, where the words from 16 on and below k are those of the list.
module _ (w : Automaton) (es : List Key) (b : List ℕ) (k : ℕ) (word : (i : ℕ) → 16 ≤ i → i < k → get_or b i 0 ≡ second_word w es i) (few : length es ≤ max_entries) (e : ℕ) (h : e < length es)
    (below : record_at e + 16 ≤ k) where
  entry-word : (j i : ℕ) → j < 16 → i ≡ 16 + e * 16 + j → get_or b i 0 ≡ get_or (entry_record w es e) j 0
  entry-word j i l at = word i (omega arith) (omega arith) ∙ second-record w es few e h j i l at

  pub live-words-in : entry_live b e ≡ words_at (key_at w es e).live 0
  unfolding entry_record
  live-words-in = λ i. entry-word 0 (record_at e) (omega arith) (omega arith) i ∷ entry-word 1 (record_at e + 1) (omega arith) refl i ∷ entry-word 2 (record_at e + 2) (omega arith) refl i ∷ entry-word 3 (record_at e + 3) (omega arith) refl i ∷ []

  pub held-words-in : entry_held b e ≡ words_at (key_at w es e).held 0
  unfolding entry_record
  held-words-in =
      λ i. entry-word 4 (record_at e + 4) (omega arith) refl i ∷ entry-word 5 (record_at e + 4 + 1) (omega arith) (omega arith) i ∷ entry-word 6 (record_at e + 4 + 2) (omega arith) (omega arith) i
      ∷ entry-word 7 (record_at e + 4 + 3) (omega arith) (omega arith) i ∷ []

  pub pending-word-in : entry_pending b e ≡ (key_at w es e).pending
  unfolding entry_record
  pending-word-in = entry-word 8 (record_at e + 8) (omega arith) refl

  pub last-side-in : entry_last b e ≡ (key_at w es e).last
  unfolding entry_record
  last-side-in = ap side_in (entry-word 9 (record_at e + 9) (omega arith) refl) ∙ side-read (key_at w es e).last

  pub own-word-in : entry_own b e ≡ own_of w (key_at w es e)
  unfolding entry_record
  own-word-in = entry-word 10 (record_at e + 10) (omega arith) refl

  pub late-word-in : (side : Side) → entry_late b e side ≡ late_of w (key_at w es e) side
  unfolding entry_record side_word
  late-word-in Other = entry-word 11 (record_at e + 11 + 0) (omega arith) (omega arith)
  late-word-in Word = entry-word 12 (record_at e + 11 + 1) (omega arith) (omega arith)
  late-word-in Newline = entry-word 13 (record_at e + 11 + 2) (omega arith) (omega arith)

  pub busy-word-in : entry_busy b e ≡ size_of (key_at w es e).live
  unfolding entry_record
  busy-word-in = entry-word 14 (record_at e + 14) (omega arith) refl

module _ (w : Automaton) (es : List Key) (c : List ℕ) (long : second_words ≤ length c) (few : length es ≤ max_entries) where
  abbrev pub laid : List ℕ
  laid = over 0 second_words (second_word w es) c

  word : (i : ℕ) → i < second_words → get_or laid i 0 ≡ second_word w es i
  word i h = over-in 0 second_words (second_word w es) c i zero-le h (omega arith)

  pub format-is : get_or laid 0 0 ≡ second_format
  unfolding second_word header_word
  format-is = word 0 (omega arith)

  pub rules-is : second_rules laid ≡ w.rules
  unfolding second_word header_word
  rules-is = word 1 (omega arith)

  pub positions_is : second_positions laid ≡ w.positions
  unfolding second_word header_word
  positions_is = word 2 (omega arith)

  pub entries-is : entries_of laid ≡ length es
  unfolding second_word header_word
  entries-is = word 3 (omega arith)

  pub resting-word : (side : Side) → get_or laid (resting_at side) 0 ≡ resting_word w es side
  unfolding second_word header_word side_word
  resting-word Other = word 4 (omega arith)
  resting-word Word = word 5 (omega arith)
  resting-word Newline = word 6 (omega arith)

  module _ (e : ℕ) (h : e < length es) where
    all_words : (i : ℕ) → 16 ≤ i → i < second_words → get_or laid i 0 ≡ second_word w es i
    all_words i l g = word i g

    below : record_at e + 16 ≤ second_words
    below = omega arith

    pub live_words : entry_live laid e ≡ words_at (key_at w es e).live 0
    live_words = live-words-in w es laid second_words all_words few e h below

    pub held-words : entry_held laid e ≡ words_at (key_at w es e).held 0
    held-words = held-words-in w es laid second_words all_words few e h below

    pub pending-word : entry_pending laid e ≡ (key_at w es e).pending
    pending-word = pending-word-in w es laid second_words all_words few e h below

    pub last-side : entry_last laid e ≡ (key_at w es e).last
    last-side = last-side-in w es laid second_words all_words few e h below

    pub own-word : entry_own laid e ≡ own_of w (key_at w es e)
    own-word = own-word-in w es laid second_words all_words few e h below

    pub late-word : (side : Side) → entry_late laid e side ≡ late_of w (key_at w es e) side
    late-word side = late-word-in w es laid second_words all_words few e h below side

    pub busy-word : entry_busy laid e ≡ size_of (key_at w es e).live
    busy-word = busy-word-in w es laid second_words all_words few e h below

    -- the word of a byte
    pub target_is : (x : ℕ) → x < 256 → target_word laid e x ≡ target_of w es e x
    unfolding second_word rows_word target_word
    target_is x l =
        let row : (row_at e + x - 4096) / 256 ≡ e = omega arith in
        let place : (row_at e + x - 4096) % 256 ≡ x = omega arith in
        ap (λ (b : Bool). cond b (get_or laid (row_at e + x) 0) no_entry) (lt-ltb x 256 l)
        ∙ word (row_at e + x) (omega arith)
        ∙ ap (λ (b : Bool). cond b (header_word w es (row_at e + x)) (cond (ltb (row_at e + x) 4096) (records_word w es (row_at e + x)) (rows_word w es (row_at e + x)))) (le-ltb (row_at e + x) 16 (omega arith))
        ∙ ap (λ (b : Bool). cond b (records_word w es (row_at e + x)) (rows_word w es (row_at e + x))) (le-ltb (row_at e + x) 4096 (omega arith))
        ∙ ap₂ (λ (m n : ℕ). cond (ltb m (length es)) (target_of w es m n) 0) row place
        ∙ ap (λ (b : Bool). cond b (target_of w es e x) 0) (lt-ltb e (length es) h)
