-- The blocks of a table by their bytes: byte k of the part before the CRC (`front-is`), what the
-- writes of a block make (`written-image`), and what the words read make (`read-words`). A range of
-- written elements stands between what was before and behind it (`over-between`).
use mathlib.Core.Path.{◌≡◌, refl, sym, ap, ap₂, ◌∙◌}
use mathlib.Core.List.{List, ◌++◌, append-nil}
use Prim.Native.Nat.{ℕ, zero, suc, ◌+◌, ◌-◌, ◌*◌, ◌/◌, ◌%◌, ◌≤◌, ◌<◌}
use native.Mathlib.Nat.{zero-add}
use native.Mathlib.Decide.{dec_lt}
use native.Mathlib.Omega.{arith}
use borrow.Author.Tests.{lt-ltb, le-ltb}
use lib.ListN.{length, get_or, take, drop, replicate, length-append, length-drop, length-replicate, get_or-replicate, drop_of_length-le, get_or-append}
use lib.Seq.{get_or-take, get_or-drop, take_at, length-take-le}
use Rattle.table.specs.Layout.{table_words}
use Rattle.table.proofs.Over.{over, over-is}
use Rattle.card.specs.Bytes.{list_of, byte_of, bytes_of, number_at}
use Rattle.card.specs.Crc.{crc32}
use Rattle.card.specs.Block.{block_bytes, payload_at, payload_bytes, payload_words, crc_at, blocks, first_word, words_in, used_in, word_bytes, front_of, image_of}
use Rattle.card.specs.Calls.{with_block}
use Rattle.card.specs.Invariants.{front_byte, front_put, crc_put, payload_put}
use Rattle.card.proofs.Numbers.{length-list_of, get_d-list_of, list_of-ext, list_of-is, get_d_past, length-bytes_of, get_d-bytes_of}

-- ---- how much a block holds

pub words-most : (i : ℕ) → words_in i ≤ payload_words
unfolding words_in
words-most i = omega arith

pub words-within : (i : ℕ) → i < blocks → first_word i + words_in i ≤ table_words
unfolding words_in
words-within i h = omega arith

-- the whole of a part that is no more than what is left, and 63 where more is left
pub words_left : (i : ℕ) → table_words - first_word i < payload_words → table_words - first_word i ≡ words_in i
unfolding words_in
words_left i h = omega arith

pub words-full : (i : ℕ) → payload_words ≤ table_words - first_word i → payload_words ≡ words_in i
unfolding words_in
words-full i h = omega arith

-- ---- a range of written elements

-- three parts, told by their elements
over-parts : (lo n : ℕ) (g : ℕ → ℕ) (t p m d : List ℕ) → length p ≡ lo → length m ≡ n → lo + n + length d ≡ length t
    → ((w : ℕ) → w < lo → get_or p w 0 ≡ get_or t w 0)
    → ((k : ℕ) → k < n → get_or m k 0 ≡ g (lo + k))
    → ((k : ℕ) → get_or d k 0 ≡ get_or t (lo + n + k) 0)
    → p ++ (m ++ d) ≡ over lo (lo + n) g t
over-parts lo n g t p m d lp lm ld before between behind =
    over-is lo (lo + n) g t (p ++ (m ++ d)) (rw (length-append, length-append) (omega arith))
    (λ w a b l.
    let e : w ≡ lo + (w - lo) = omega arith in
    ap (λ (k : ℕ). get_or (p ++ (m ++ d)) k 0) e ∙ get_d_past p (m ++ d) lo (w - lo) lp
    ∙ get_or-append m d 0 (w - lo) (omega arith) ∙ between (w - lo) (omega arith) ∙ ap g (sym e))
    (λ w a. get_or-append p (m ++ d) 0 w (omega arith) ∙ before w a)
    (λ w a.
    let e : w ≡ lo + (n + (w - (lo + n))) = omega arith in
    let f : lo + n + (w - (lo + n)) ≡ w = omega arith in
    ap (λ (k : ℕ). get_or (p ++ (m ++ d)) k 0) e ∙ get_d_past p (m ++ d) lo (n + (w - (lo + n))) lp
    ∙ get_d_past m d n (w - (lo + n)) lm ∙ behind (w - (lo + n)) ∙ ap (λ (k : ℕ). get_or t k 0) f)

pub over-between : (lo n : ℕ) (g : ℕ → ℕ) (t : List ℕ) → lo + n ≤ length t → over lo (lo + n) g t ≡ take lo t ++ (list_of n (λ k. g (lo + k)) ++ drop (lo + n) t)
over-between lo n g t h =
    sym (over-parts lo n g t (take lo t) (list_of n (λ k. g (lo + k))) (drop (lo + n) t)
    (length-take-le lo t (omega arith)) (length-list_of n (λ k. g (lo + k))) (omega (arith, length-drop (lo + n) t))
    (λ w l. get_or-take lo t w 0 l) (λ k l. get_d-list_of n (λ k. g (lo + k)) k l) (λ k. get_or-drop (lo + n) t k 0))

-- ---- the bytes before the CRC, as the code tells them apart

module _ (t : List ℕ) (i k : ℕ) where
  pub front-number : k < 2 → byte_of i k ≡ front_byte t i k
  unfolding front_byte
  front-number h = rw (lt-ltb k 2 h)

  pub front-used : 2 ≤ k → k < payload_at → byte_of (used_in i) (k - 2) ≡ front_byte t i k
  unfolding front_byte
  front-used h l = rw (le-ltb k 2 h, lt-ltb k payload_at l)

  pub front-word : payload_at ≤ k → k - payload_at < used_in i
      → byte_of (get_or t (first_word i + (k - payload_at) / 8) 0) ((k - payload_at) % 8) ≡ front_byte t i k
  unfolding front_byte
  front-word h l =
      let two : 2 ≤ k = omega arith in
      rw (le-ltb k 2 two, le-ltb k payload_at h, lt-ltb (k - payload_at) (used_in i) l)

  pub front-filler : payload_at ≤ k → used_in i ≤ k - payload_at → 0 ≡ front_byte t i k
  unfolding front_byte
  front-filler h l =
      let two : 2 ≤ k = omega arith in
      rw (le-ltb k 2 two, le-ltb k payload_at h, le-ltb (k - payload_at) (used_in i) l)

-- ---- the same as one list

pub length-word_bytes : (t : List ℕ) (w n : ℕ) → length (word_bytes t w n) ≡ n * 8
unfolding word_bytes
length-word_bytes t w zero = refl
length-word_bytes t w (suc n) = rw (length-append) (omega (arith, length-bytes_of 8 (get_or t w 0), length-word_bytes t (suc w) n))

pub get_d-word_bytes : (t : List ℕ) (n w k : ℕ) → k < n * 8 → get_or (word_bytes t w n) k 0 ≡ byte_of (get_or t (w + k / 8) 0) (k % 8)
unfolding word_bytes
get_d-word_bytes t zero w k h = absurd (omega arith)
get_d-word_bytes t (suc n) w k h = go (dec_lt k 8) (λ l. get_d-word_bytes t n (suc w) (k - 8) l)
  where
    x : ℕ
    x = get_or t w 0

    rest : List ℕ
    rest = word_bytes t (suc w) n

    go : Dec (k < 8) → (k - 8 < n * 8 → get_or rest (k - 8) 0 ≡ byte_of (get_or t (suc w + (k - 8) / 8) 0) ((k - 8) % 8))
        → get_or (bytes_of 8 x ++ rest) k 0 ≡ byte_of (get_or t (w + k / 8) 0) (k % 8)
    go (yes l) ih =
        let e : w ≡ w + k / 8 = omega arith in
        let f : k ≡ k % 8 = omega arith in
        get_or-append (bytes_of 8 x) rest 0 k (omega (arith, length-bytes_of 8 x)) ∙ get_d-bytes_of 8 x k l
        ∙ ap₂ (λ (v j : ℕ). byte_of (get_or t v 0) j) e f
    go (no l) ih =
        let e : k ≡ 8 + (k - 8) = omega arith in
        let f : suc w + (k - 8) / 8 ≡ w + k / 8 = omega arith in
        let g : (k - 8) % 8 ≡ k % 8 = omega arith in
        ap (λ (j : ℕ). get_or (bytes_of 8 x ++ rest) j 0) e ∙ get_d_past (bytes_of 8 x) rest 8 (k - 8) (length-bytes_of 8 x)
        ∙ ih (omega arith) ∙ ap₂ (λ (v j : ℕ). byte_of (get_or t v 0) j) f g

module _ (t : List ℕ) (i : ℕ) where
  number_part : List ℕ
  number_part = bytes_of 2 i

  used_part : List ℕ
  used_part = bytes_of 2 (used_in i)

  word_part : List ℕ
  word_part = word_bytes t (first_word i) (words_in i)

  zero_part : List ℕ
  zero_part = replicate (payload_bytes - used_in i) 0

  pub length_front : length (front_of t i) ≡ crc_at
  unfolding front_of
  length_front =
      rw (length-append, length-append, length-append)
      (omega (arith, length-bytes_of 2 i, length-bytes_of 2 (used_in i), length-word_bytes t (first_word i) (words_in i), length-replicate (payload_bytes - used_in i) (zero), words-most i))

  pub front_at : (k : ℕ) → k < crc_at → get_or (front_of t i) k 0 ≡ front_byte t i k
  unfolding front_of number_part used_part word_part zero_part
  front_at k h = go (dec_lt k 2) (dec_lt k payload_at) (dec_lt (k - payload_at) (used_in i))
    where
      go : Dec (k < 2) → Dec (k < payload_at) → Dec (k - payload_at < used_in i) → get_or (number_part ++ (used_part ++ (word_part ++ zero_part))) k 0 ≡ front_byte t i k
      go (yes l) q r =
          get_or-append number_part (used_part ++ (word_part ++ zero_part)) 0 k (omega (arith, length-bytes_of 2 i)) ∙ get_d-bytes_of 2 i k l ∙ front-number t i k l
      go (no l) (yes q) r =
          let e : k ≡ 2 + (k - 2) = omega arith in
          ap (λ (j : ℕ). get_or (number_part ++ (used_part ++ (word_part ++ zero_part))) j 0) e ∙ get_d_past number_part (used_part ++ (word_part ++ zero_part)) 2 (k - 2) (length-bytes_of 2 i)
          ∙ get_or-append used_part (word_part ++ zero_part) 0 (k - 2) (omega (arith, length-bytes_of 2 (used_in i))) ∙ get_d-bytes_of 2 (used_in i) (k - 2) (omega arith)
          ∙ front-used t i k (omega arith) q
      go (no l) (no q) r =
          let e : k ≡ 2 + (2 + (k - payload_at)) = omega arith in
          ap (λ (j : ℕ). get_or (number_part ++ (used_part ++ (word_part ++ zero_part))) j 0) e ∙ get_d_past number_part (used_part ++ (word_part ++ zero_part)) 2 (2 + (k - payload_at)) (length-bytes_of 2 i)
          ∙ get_d_past used_part (word_part ++ zero_part) 2 (k - payload_at) (length-bytes_of 2 (used_in i)) ∙ payload (omega arith) r
        where
          payload : payload_at ≤ k → Dec (k - payload_at < used_in i) → get_or (word_part ++ zero_part) (k - payload_at) 0 ≡ front_byte t i k
          payload p (yes r) =
              get_or-append word_part zero_part 0 (k - payload_at) (omega (arith, length-word_bytes t (first_word i) (words_in i)))
              ∙ get_d-word_bytes t (words_in i) (first_word i) (k - payload_at) r ∙ front-word t i k p r
          payload p (no r) =
              let e : k - payload_at ≡ used_in i + (k - payload_at - used_in i) = omega arith in
              ap (λ (j : ℕ). get_or (word_part ++ zero_part) j 0) e
              ∙ get_d_past word_part zero_part (used_in i) (k - payload_at - used_in i) (length-word_bytes t (first_word i) (words_in i))
              ∙ get_or-replicate (payload_bytes - used_in i) (k - payload_at - used_in i) 0 0 (omega arith) ∙ front-filler t i k p (omega arith)

  pub front-is : front_of t i ≡ list_of crc_at (front_byte t i)
  front-is = list_of-is crc_at (front_byte t i) (front_of t i) length_front front_at

  -- ---- what the writes make

  -- the whole block, when the block lent has its length
  pub written-image : (s : List ℕ) → length s ≡ block_bytes → crc_put (front_put t i s) ≡ image_of t i
  unfolding image_of bytes_of
  written-image s l =
      ap crc_put front ∙ over-between crc_at 4 (λ k. byte_of (crc32 (take crc_at block)) (k - crc_at)) block (omega (arith, long))
      ∙ ap₂ ◌++◌ begins
      (ap₂ ◌++◌
      (ap (λ (c : ℕ). list_of 4 (λ k. byte_of c (crc_at + k - crc_at))) (ap crc32 begins) ∙ list_of-ext 4 (λ k. byte_of sum (crc_at + k - crc_at)) (byte_of sum) (λ k h. near k))
      (drop_of_length-le block {i = block_bytes} (omega (arith, long)))
      ∙ append-nil (list_of 4 (byte_of sum)))
    where
      block : List ℕ
      block = front_of t i ++ drop crc_at s

      sum : ℕ
      sum = crc32 (front_of t i)

      front : front_put t i s ≡ block
      front =
          over-between 0 crc_at (front_byte t i) s (omega arith)
          ∙ ap (λ (f : List ℕ). f ++ drop crc_at s)
          (list_of-ext crc_at (λ k. front_byte t i (0 + k)) (front_byte t i) (λ k h. ap (front_byte t i) (zero-add k)) ∙ sym front-is)

      long : length block ≡ block_bytes
      long = rw (length-append) (omega (arith, length_front, length-drop crc_at s))

      begins : take crc_at block ≡ front_of t i
      begins = take_at (front_of t i) (drop crc_at s) crc_at length_front

      near : (k : ℕ) → byte_of sum (crc_at + k - crc_at) ≡ byte_of sum k
      near k = let e : crc_at + k - crc_at ≡ k = omega arith in ap (byte_of sum) e

-- the words with those of a block
pub read-words : (u : List ℕ) (i : ℕ) (b : List ℕ) → table_words ≤ length u → i < blocks → payload_put u i b ≡ with_block u i b
unfolding with_block
read-words u i b l h =
    over-between (first_word i) (words_in i) (λ w. number_at b (payload_at + (w - first_word i) * 8) 8) u (omega (arith, words-within i h))
    ∙ ap (λ (m : List ℕ). take (first_word i) u ++ (m ++ drop (first_word i + words_in i) u))
    (list_of-ext (words_in i) (λ j. number_at b (payload_at + (first_word i + j - first_word i) * 8) 8) (λ j. number_at b (payload_at + j * 8) 8) (λ j m. near j))
  where
    near : (j : ℕ) → number_at b (payload_at + (first_word i + j - first_word i) * 8) 8 ≡ number_at b (payload_at + j * 8) 8
    near j = let e : first_word i + j - first_word i ≡ j = omega arith in ap (λ (k : ℕ). number_at b (payload_at + k * 8) 8) e
