-- A table's block passes the test of a block (`image-passes`), byte by byte, and what reading it
-- leaves is what the table has (`image-read`); a block that passes has the bytes of the words that
-- it leaves (`accepted-image`). Both go by the bytes of each part: number, used count, words,
-- filler, CRC.
use mathlib.Core.Path.{◌≡◌, sym, ap, ap₂, ◌∙◌, subst}
use mathlib.Core.Bool.{Bool, true, false, cond}
use mathlib.Core.List.{List, ◌++◌}
use Prim.Native.Nat.{ℕ, ◌+◌, ◌-◌, ◌*◌, ◌/◌, ◌%◌, ◌≤◌, ◌<◌}
use native.Mathlib.Decide.{dec_lt}
use native.Mathlib.Omega.{arith}
use borrow.Author.Tests.{eq-eqb, eqb-true}
use lib.Dec.{ltb, lit<}
use lib.ListN.{length, get_or, take, drop, length-append, length-drop, take-append-drop, get_or-append, get_or-eq_default}
use lib.Seq.{get_or-take, get_or-drop, take_at, length-take-le}
use Rattle.table.specs.Layout.{table_words}
use Rattle.table.proofs.Test.{all-at, at_all}
use Rattle.table.proofs.Over.{over, over-in, over-ext}
use Rattle.card.specs.Bytes.{byte_of, bytes_of, number_at}
use Rattle.card.specs.Crc.{crc32}
use Rattle.card.specs.Block.{block_bytes, payload_at, payload_bytes, crc_at, blocks, first_word, words_in, used_in, front_of, image_of}
use Rattle.card.specs.Calls.{with_block}
use Rattle.card.specs.Theorems.{AreWords}
use Rattle.card.specs.Invariants.{front_byte}
use Rattle.card.proofs.Checksum.{AreBytes, limit, crc-small, bytes_take}
use Rattle.card.proofs.Numbers.{list_of-is, get_d_past, length-bytes_of, get_d-bytes_of, byte_small, number_of, byte-number}
use Rattle.card.proofs.Images.{words-most, words-within, length_front, front_at, front-is, front-number, front-used, front-word, front-filler, read-words}
use Rattle.card.proofs.Blocks.{blank, Passes}

-- ---- the bytes of an image

module _ (t : List ℕ) (i : ℕ) where
  sum : ℕ
  sum = crc32 (front_of t i)

  pub length-image : length (image_of t i) ≡ block_bytes
  unfolding image_of
  length-image = rw (length-append) (omega (arith, length_front t i, length-bytes_of 4 (crc32 (front_of t i))))

  pub image-front : (k : ℕ) → k < crc_at → get_or (image_of t i) k 0 ≡ front_byte t i k
  unfolding image_of
  image-front k h =
      get_or-append (front_of t i) (bytes_of 4 (crc32 (front_of t i))) 0 k (omega (arith, length_front t i)) ∙ front_at t i k h

  pub image-begins : take crc_at (image_of t i) ≡ front_of t i
  unfolding image_of
  image-begins = take_at (front_of t i) (bytes_of 4 (crc32 (front_of t i))) crc_at (length_front t i)

  image-crc : (j : ℕ) → j < 4 → get_or (image_of t i) (crc_at + j) 0 ≡ byte_of sum j
  unfolding image_of sum
  image-crc j h =
      get_d_past (front_of t i) (bytes_of 4 (crc32 (front_of t i))) crc_at j (length_front t i) ∙ get_d-bytes_of 4 (crc32 (front_of t i)) j h

  -- they are bytes
  front-small : (k : ℕ) → front_byte t i k < 256
  unfolding front_byte
  front-small k = go (ltb k 2) (ltb k payload_at) (ltb (k - payload_at) (used_in i))
    where
      go : (p q r : Bool) → cond p (byte_of i k) (cond q (byte_of (used_in i) (k - 2)) (cond r (byte_of (get_or t (first_word i + (k - payload_at) / 8) 0) ((k - payload_at) % 8)) 0)) < 256
      go true q r = byte_small i k
      go false true r = byte_small (used_in i) (k - 2)
      go false false true = byte_small (get_or t (first_word i + (k - payload_at) / 8) 0) ((k - payload_at) % 8)
      go false false false = lit< tt

  pub image-bytes : AreBytes (image_of t i)
  image-bytes k = go (dec_lt k crc_at) (dec_lt k block_bytes)
    where
      go : Dec (k < crc_at) → Dec (k < block_bytes) → get_or (image_of t i) k 0 < 256
      go (yes l) q = rw (image-front k l) (front-small k)
      go (no l) (yes q) =
          let e : k ≡ crc_at + (k - crc_at) = omega arith in
          subst (λ (x : ℕ). x < 256) (sym (ap (λ (j : ℕ). get_or (image_of t i) j 0) e ∙ image-crc (k - crc_at) (omega arith))) (byte_small sum (k - crc_at))
      go (no l) (no q) = rw (get_or-eq_default (image_of t i) 0 {n = k} (omega (arith, length-image))) (lit< tt)

  pub image-sum : number_at (image_of t i) crc_at 4 ≡ crc32 (take crc_at (image_of t i))
  unfolding sum
  image-sum =
      number_of (image_of t i) 4 crc_at sum (subst (λ (s : List ℕ). crc32 s < limit) image-begins (crc-small (take crc_at (image_of t i)) (bytes_take crc_at (image_of t i) image-bytes)))
      image-crc
      ∙ ap crc32 (sym image-begins)

  -- ---- it passes

  pub image-passes : i < blocks → Passes i (image_of t i)
  image-passes h =
      record {
        long = length-image;
        within = h;
        number =
            number_of (image_of t i) 2 0 i (omega arith)
            (λ j l.
            let e : 0 + j ≡ j = omega arith in
            ap (λ (k : ℕ). get_or (image_of t i) k 0) e ∙ image-front j (omega arith) ∙ sym (front-number t i j l));
        used =
            number_of (image_of t i) 2 2 (used_in i) (omega (arith, words-most i))
            (λ j l.
            let e : 2 + j - 2 ≡ j = omega arith in
            image-front (2 + j) (omega arith) ∙ sym (front-used t i (2 + j) (omega arith) (omega arith)) ∙ ap (byte_of (used_in i)) e);
        filler =
            at_all (blank i (image_of t i)) (payload_bytes - used_in i)
            (λ k l. eq-eqb (get_or (image_of t i) (payload_at + used_in i + k) 0) 0
            (image-front (payload_at + used_in i + k) (omega arith) ∙ sym (front-filler t i (payload_at + used_in i + k) (omega arith) (omega arith))));
        sum = image-sum;
      }

  -- ---- and its words are those of the table

  pub image-word : AreWords t → (j : ℕ) → j < words_in i → number_at (image_of t i) (payload_at + j * 8) 8 ≡ get_or t (first_word i + j) 0
  image-word small j h =
      number_of (image_of t i) 8 (payload_at + j * 8) (get_or t (first_word i + j) 0) (small (first_word i + j))
      (λ m l.
      let k : ℕ = payload_at + j * 8 + m in
      let e : (k - payload_at) / 8 ≡ j = omega arith in
      let f : (k - payload_at) % 8 ≡ m = omega arith in
      image-front k (omega (arith, words-most i)) ∙ sym (front-word t i k (omega arith) (omega arith))
      ∙ ap₂ (λ (v n : ℕ). byte_of (get_or t (first_word i + v) 0) n) e f)

-- what reading leaves, word by word
pub image-read : (t u : List ℕ) (i : ℕ) → AreWords t → table_words ≤ length u → i < blocks
    → with_block u i (image_of t i) ≡ over (first_word i) (first_word i + words_in i) (λ w. get_or t w 0) u
image-read t u i small l h =
    sym (read-words u i (image_of t i) l h)
    ∙ over-ext (first_word i) (first_word i + words_in i) (λ w. number_at (image_of t i) (payload_at + (w - first_word i) * 8) 8) (λ w. get_or t w 0) u
    (λ w a b m.
    let e : first_word i + (w - first_word i) ≡ w = omega arith in
    image-word t i small (w - first_word i) (omega arith) ∙ ap (λ (k : ℕ). get_or t k 0) e)

-- ---- the other way round

module _ (u b : List ℕ) (i : ℕ) (bytes : AreBytes b) (long : table_words ≤ length u) (p : Passes i b) where
  left : List ℕ
  left = with_block u i b

  left_word : (j : ℕ) → j < words_in i → get_or left (first_word i + j) 0 ≡ number_at b (payload_at + j * 8) 8
  unfolding left
  left_word j h =
      let e : first_word i + j - first_word i ≡ j = omega arith in
      ap (λ (v : List ℕ). get_or v (first_word i + j) 0) (sym (read-words u i b long p.within))
      ∙ over-in (first_word i) (first_word i + words_in i) (λ w. number_at b (payload_at + (w - first_word i) * 8) 8) u (first_word i + j)
      (omega arith) (omega arith) (omega (arith, words-within i p.within))
      ∙ ap (λ (k : ℕ). number_at b (payload_at + k * 8) 8) e

  -- byte k is what the words left have there
  byte_left : (k : ℕ) → k < crc_at → get_or b k 0 ≡ front_byte left i k
  byte_left k h = go (dec_lt k 2) (dec_lt k payload_at) (dec_lt (k - payload_at) (used_in i))
    where
      go : Dec (k < 2) → Dec (k < payload_at) → Dec (k - payload_at < used_in i) → get_or b k 0 ≡ front_byte left i k
      go (yes l) q r =
          let e : k ≡ 0 + k = omega arith in
          ap (λ (j : ℕ). get_or b j 0) e ∙ sym (byte-number b bytes 2 0 k l) ∙ ap (λ (x : ℕ). byte_of x k) p.number ∙ front-number left i k l
      go (no l) (yes q) r =
          let e : k ≡ 2 + (k - 2) = omega arith in
          ap (λ (j : ℕ). get_or b j 0) e ∙ sym (byte-number b bytes 2 2 (k - 2) (omega arith)) ∙ ap (λ (x : ℕ). byte_of x (k - 2)) p.used
          ∙ front-used left i k (omega arith) q
      go (no l) (no q) (yes r) =
          let j : ℕ = (k - payload_at) / 8 in
          let m : ℕ = (k - payload_at) % 8 in
          let e : k ≡ payload_at + j * 8 + m = omega arith in
          ap (λ (n : ℕ). get_or b n 0) e ∙ sym (byte-number b bytes 8 (payload_at + j * 8) m (omega arith))
          ∙ ap (λ (x : ℕ). byte_of x m) (sym (left_word j (omega arith))) ∙ front-word left i k (omega arith) r
      go (no l) (no q) (no r) =
          let e : k ≡ payload_at + used_in i + (k - payload_at - used_in i) = omega arith in
          ap (λ (n : ℕ). get_or b n 0) e
          ∙ eqb-true (get_or b (payload_at + used_in i + (k - payload_at - used_in i)) 0) 0 (all-at (blank i b) (payload_bytes - used_in i) p.filler (k - payload_at - used_in i) (omega arith))
          ∙ front-filler left i k (omega arith) (omega arith)

  front-left : take crc_at b ≡ front_of left i
  front-left =
      list_of-is crc_at (front_byte left i) (take crc_at b) (length-take-le crc_at b (omega (arith, p.long)))
      (λ k h. get_or-take crc_at b k 0 h ∙ byte_left k h)
      ∙ sym (front-is left i)

  crc-left : drop crc_at b ≡ bytes_of 4 (crc32 (take crc_at b))
  unfolding bytes_of
  crc-left =
      list_of-is 4 (byte_of (crc32 (take crc_at b))) (drop crc_at b) (omega (arith, length-drop crc_at b, p.long))
      (λ k h. get_or-drop crc_at b k 0 ∙ sym (byte-number b bytes 4 crc_at k h) ∙ ap (λ (x : ℕ). byte_of x k) p.sum)

  pub accepted-image : b ≡ image_of (with_block u i b) i
  unfolding image_of left
  accepted-image =
      sym (take-append-drop crc_at b)
      ∙ ap₂ ◌++◌ front-left (crc-left ∙ ap (λ (s : List ℕ). bytes_of 4 (crc32 s)) front-left)
