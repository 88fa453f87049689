-- The statements of specs/Theorems.antt, proved.
use mathlib.Core.Path.{◌≡◌, refl, sym, ap, ◌∙◌, subst}
use mathlib.Core.Bool.{Bool, true, false, cond}
use mathlib.Core.List.Memᴰ
use mathlib.Core.List.{List, [], ◌∷◌, ◌++◌, Memᴰ}
use mathlib.Core.Logic.{inl, inr}
use Prim.Native.Nat.{ℕ, ◌+◌, ◌-◌, ◌*◌, ◌/◌, ◌%◌, ◌≤◌, ◌<◌}
use native.Mathlib.Decide.{dec_lt}
use native.Mathlib.Omega.{arith}
use borrow.Author.Tests.{le-ltb, eqb-true}
use lib.Dec.{ltb}
use lib.ListN.{length, get_or, set, take, drop, length-take, length-drop}
use lib.Seq.{get_or-take, get_or-drop, get_or-set_same, get_or-set_other, take-set-le, take-set-lt, length-take-le, ext_get_or}
use Rattle.table.specs.Layout.{table_words}
use Rattle.table.specs.Table.{is_table}
use Rattle.table.proofs.Test.{all-at}
use Rattle.table.proofs.Over.{over, over-is, over-in, over_below, over-above, length_over, drop-over}
use Rattle.table.proofs.Local.{is_table-local, same_word}
use Rattle.card.specs.Bytes.{byte_of, number_at}
use Rattle.card.specs.Crc.{crc32}
use Rattle.card.specs.Block.{payload_at, payload_bytes, payload_words, crc_at, blocks, first_word, words_in, used_in, front_of, image_of}
use Rattle.card.specs.Calls.{answer, fits, write_answer, written_block, is_block, read_answer, read_words}
use Rattle.card.specs.Invariants.{front_byte}
use Rattle.card.specs.Theorems.{AreWords, Counts, Written, ReadBack, read_all, ReadBackAll, OneImage, OneTable, WrongPart, ChangedByte, WriteKept, ReadKept, WriteLocal, ReadLocal}
use Rattle.card.proofs.Checksum.{AreBytes, crc-told, bytes_take}
use Rattle.card.proofs.Numbers.{list_of-is, list_of-ext, number_same, byte-number}
use Rattle.card.proofs.Images.{words-within, over-between, front-is, read-words}
use Rattle.card.proofs.Blocks.{blank, passes, accepted, refused}
use Rattle.card.proofs.Answers.{fits_both, write-no-table, write-no-block, write_done, read-no-words, read-no-block, read_done}
use Rattle.card.proofs.Accepted.{length-image, image-bytes, image-sum, image-passes, image-word, image-read, accepted-image}

-- ---- how many blocks there are, and what they hold

pub counts : Counts
unfolding words_in
counts = (refl, refl, λ i h. omega arith)

-- ---- the ways through a call

-- a call of the reader that was accepted had the words and a block; any other keeps the words
data Way (u : List ℕ) (i : ℕ) (b : List ℕ) : Type 0 where
  done : table_words ≤ length u → is_block i b ≡ true → Way u i b
  kept : (read_answer u i b ≡ answer 0 0 → ⊥) → read_words u i b ≡ u → Way u i b

number-apart : (m n : ℕ) (p q : ℕ) → (m ≡ n → ⊥) → answer m p ≡ answer n q → ⊥
number-apart m n p q d e = d (ap (λ (s : _). s.number) e)

way : (u : List ℕ) (i : ℕ) (b : List ℕ) → Way u i b
way u i b = go (dec_lt (length u) table_words) (is_block i b) refl
  where
    go : Dec (length u < table_words) → (t : Bool) → is_block i b ≡ t → Way u i b
    go (yes h) t e =
        let r = read-no-words u i b h in
        kept (λ a. number-apart 1 0 0 0 (λ z. omega arith) (r.0 ∙ a)) (sym r.1)
    go (no h) true e = done (omega arith) e
    go (no h) false e =
        let r = read-no-block u i b (omega arith) e in
        kept (λ a. number-apart 27 0 i 0 (λ z. omega arith) (r.0 ∙ a)) (sym r.1)

-- ---- writing, and refusals

pub written : Written
written t is i h b long = let r = write_done t i b is (fits_both i b long h) in (sym r.0, sym r.1)

pub write_kept : WriteKept
write_kept t i b n = go (is_table t) refl (fits i b) refl
  where
    go : (p : Bool) → is_table t ≡ p → (q : Bool) → fits i b ≡ q → written_block t i b ≡ b
    go false e q f = sym (write-no-table t i b e).1
    go true e false f = sym (write-no-block t i b e f).1
    go true e true f = absurd (n (sym (write_done t i b e f).0))

pub read_kept : ReadKept
read_kept u i b n = go (way u i b)
  where
    go : Way u i b → read_words u i b ≡ u
    go (done l e) = absurd (n (sym (read_done u i b l e).0))
    go (kept m e) = e

-- ---- one block read back

-- the words afterwards: those of the block are the table's
read-over : (t u : List ℕ) (i : ℕ) → AreWords t → table_words ≤ length u → i < blocks
    → read_words u i (image_of t i) ≡ over (first_word i) (first_word i + words_in i) (λ w. get_or t w 0) u
read-over t u i small l h = sym (read_done u i (image_of t i) l (accepted i (image_of t i) (image-passes t i h))).1 ∙ image-read t u i small l h

pub read_back : ReadBack
read_back t u small lt lu i h = (
  sym (read_done u i (image_of t i) lu (accepted i (image_of t i) (image-passes t i h))).0,
  read-over t u i small lu h
      ∙ over-between (first_word i) (words_in i) (λ w. get_or t w 0) u (omega (arith, words-within i h))
      ∙ ap (λ (m : List ℕ). take (first_word i) u ++ (m ++ drop (first_word i + words_in i) u))
      (sym (list_of-is (words_in i) (λ j. get_or t (first_word i + j) 0) (take (words_in i) (drop (first_word i) t))
      (length-take-le (words_in i) (drop (first_word i) t) (omega (arith, length-drop (first_word i) t, words-within i h)))
      (λ j m. get_or-take (words_in i) (drop (first_word i) t) j 0 m ∙ get_or-drop (first_word i) t j 0))),
)

-- ---- all blocks, in any order

module _ (t : List ℕ) (small : AreWords t) where
  -- one block more, whatever its number
  after : List ℕ → ℕ → List ℕ
  after u i = read_words u i (image_of t i)

  -- a number past the last is refused
  past : (u : List ℕ) (i : ℕ) → table_words ≤ length u → blocks ≤ i → after u i ≡ u
  unfolding after
  past u i l h = sym (read-no-block u i (image_of t i) l (refused i (image_of t i) (λ p. omega (arith, p.within, h)))).1

  length-after : (u : List ℕ) (i : ℕ) → table_words ≤ length u → length (after u i) ≡ length u
  unfolding after
  length-after u i l = go (dec_lt i blocks)
    where
      go : Dec (i < blocks) → length (after u i) ≡ length u
      go (yes h) = ap length (read-over t u i small l h) ∙ length_over (first_word i) (first_word i + words_in i) (λ w. get_or t w 0) u
      go (no h) = ap length (past u i l (omega arith))

  -- a word inside the block is the table's, any other as it was
  inside : (u : List ℕ) (i w : ℕ) → table_words ≤ length u → w < table_words → w / payload_words ≡ i → get_or (after u i) w 0 ≡ get_or t w 0
  unfolding after words_in
  inside u i w l h e =
      let there : i < blocks = omega arith in
      ap (λ (v : List ℕ). get_or v w 0) (read-over t u i small l there)
      ∙ over-in (first_word i) (first_word i + words_in i) (λ w. get_or t w 0) u w (omega arith) (omega arith) (omega arith)

  outside : (u : List ℕ) (i w : ℕ) → table_words ≤ length u → table_words ≤ w → get_or (after u i) w 0 ≡ get_or u w 0
  unfolding after
  outside u i w l h = go (dec_lt i blocks)
    where
      go : Dec (i < blocks) → get_or (after u i) w 0 ≡ get_or u w 0
      go (yes p) =
          ap (λ (v : List ℕ). get_or v w 0) (read-over t u i small l p)
          ∙ over-above (first_word i) (first_word i + words_in i) (λ w. get_or t w 0) u w (omega (arith, words-within i p))
      go (no p) = ap (λ (v : List ℕ). get_or v w 0) (past u i l (omega arith))

  -- a word that is the table's stays so
  stays : (u : List ℕ) (i w : ℕ) → table_words ≤ length u → w < table_words → get_or u w 0 ≡ get_or t w 0 → get_or (after u i) w 0 ≡ get_or t w 0
  unfolding after
  stays u i w l h e = go (dec_lt i blocks) (dec_lt w (first_word i)) (dec_lt w (first_word i + words_in i))
    where
      go : Dec (i < blocks) → Dec (w < first_word i) → Dec (w < first_word i + words_in i) → get_or (after u i) w 0 ≡ get_or t w 0
      go (no p) q r = ap (λ (v : List ℕ). get_or v w 0) (past u i l (omega arith)) ∙ e
      go (yes p) (yes q) r =
          ap (λ (v : List ℕ). get_or v w 0) (read-over t u i small l p) ∙ over_below (first_word i) (first_word i + words_in i) (λ w. get_or t w 0) u w q ∙ e
      go (yes p) (no q) (yes r) =
          ap (λ (v : List ℕ). get_or v w 0) (read-over t u i small l p)
          ∙ over-in (first_word i) (first_word i + words_in i) (λ w. get_or t w 0) u w (omega arith) r (omega arith)
      go (yes p) (no q) (no r) =
          ap (λ (v : List ℕ). get_or v w 0) (read-over t u i small l p)
          ∙ over-above (first_word i) (first_word i + words_in i) (λ w. get_or t w 0) u w (omega arith) ∙ e

  all-long : (order u : List ℕ) → table_words ≤ length u → length (read_all t u order) ≡ length u
  unfolding read_all after
  all-long [] u l = refl
  all-long (i ∷ order) u l = all-long order (read_words u i (image_of t i)) (omega (arith, length-after u i l)) ∙ length-after u i l

  all-beyond : (order u : List ℕ) → table_words ≤ length u → (w : ℕ) → table_words ≤ w → get_or (read_all t u order) w 0 ≡ get_or u w 0
  unfolding read_all after
  all-beyond [] u l w h = refl
  all-beyond (i ∷ order) u l w h = all-beyond order (read_words u i (image_of t i)) (omega (arith, length-after u i l)) w h ∙ outside u i w l h

  all_stay : (order u : List ℕ) → table_words ≤ length u → (w : ℕ) → w < table_words → get_or u w 0 ≡ get_or t w 0 → get_or (read_all t u order) w 0 ≡ get_or t w 0
  unfolding read_all after
  all_stay [] u l w h e = e
  all_stay (i ∷ order) u l w h e = all_stay order (read_words u i (image_of t i)) (omega (arith, length-after u i l)) w h (stays u i w l h e)

  all_read : (order u : List ℕ) → table_words ≤ length u → (w : ℕ) → w < table_words → Memᴰ (w / payload_words) order → get_or (read_all t u order) w 0 ≡ get_or t w 0
  unfolding read_all after
  all_read [] u l w h m = absurd (Memᴰ.not-nil m)
  all_read (i ∷ order) u l w h m =
      elim (Memᴰ.cases_cons m) [
        | inl e ↦ all_stay order (read_words u i (image_of t i)) (omega (arith, length-after u i l)) w h (inside u i w l h e)
        | inr n ↦ all_read order (read_words u i (image_of t i)) (omega (arith, length-after u i l)) w h n
      ]

pub read-back-all : ReadBackAll
read-back-all t u order small lt lu each =
    over-is 0 table_words (λ w. get_or t w 0) u (read_all t u order) (all-long t small order u lu)
    (λ w a b l. all_read t small order u lu w b (each (w / payload_words) (omega arith)))
    (λ w a. absurd (omega arith))
    (λ w a. all-beyond t small order u lu w a)
    ∙ over-between 0 table_words (λ w. get_or t w 0) u (omega arith)
    ∙ ap (λ (m : List ℕ). m ++ drop table_words u)
    (sym (list_of-is table_words (λ k. get_or t (0 + k) 0) (take table_words t) (length-take-le table_words t lt)
    (λ k h.
    let e : k ≡ 0 + k = omega arith in
    get_or-take table_words t k 0 h ∙ ap (λ (j : ℕ). get_or t j 0) e)))

-- ---- one image

pub one-image : OneImage
one-image u b bytes i a = go (way u i b)
  where
    go : Way u i b → b ≡ image_of (read_words u i b) i
    go (kept n e) = absurd (n a)
    go (done l e) = accepted-image u b i bytes l (passes i b e) ∙ ap (λ (v : List ℕ). image_of v i) (read_done u i b l e).1

-- word w stands in block w / 63
pub one_table : OneTable
unfolding words_in
one_table t s st ss lt ls same =
    ext_get_or 0 (take table_words t) (take table_words s) (length-take-le table_words t lt ∙ sym (length-take-le table_words s ls))
    (λ w l.
    let h : w < table_words = omega (arith, length-take table_words t) in
    get_or-take table_words t w 0 h ∙ word w h ∙ sym (get_or-take table_words s w 0 h))
  where
    word : (w : ℕ) → w < table_words → get_or t w 0 ≡ get_or s w 0
    word w h =
        let i : ℕ = w / payload_words in
        let j : ℕ = w % payload_words in
        let e : first_word i + j ≡ w = omega arith in
        ap (λ (v : ℕ). get_or t v 0) (sym e) ∙ sym (image-word t i st j (omega arith))
        ∙ ap (λ (b : List ℕ). number_at b (payload_at + j * 8) 8) (same i (omega arith))
        ∙ image-word s i ss j (omega arith) ∙ ap (λ (v : ℕ). get_or s v 0) e

-- ---- a wrong part, and one changed byte

pub wrong-part : WrongPart
wrong-part u i b l (inl d) = sym (read-no-block u i b l (refused i b (λ p. d p.number))).0
wrong-part u i b l (inr (inl d)) = sym (read-no-block u i b l (refused i b (λ p. d p.used))).0
wrong-part u i b l (inr (inr d)) =
    sym (read-no-block u i b l
    (refused i b (λ p. d.2 (eqb-true (get_or b (payload_at + used_in i + d.0) 0) 0 (all-at (blank i b) (payload_bytes - used_in i) p.filler d.0 d.1))))).0

pub changed-byte : ChangedByte
changed-byte t u l i k b h m small other = sym (read-no-block u i (set s k b) l (refused i (set s k b) (λ p. go p.sum (dec_lt k crc_at)))).0
  where
    s : List ℕ
    s = image_of t i

    bytes : AreBytes (set s k b)
    bytes j = pick (dec_lt j k) (dec_lt k j)
      where
        pick : Dec (j < k) → Dec (k < j) → get_or (set s k b) j 0 < 256
        pick (yes a) q = subst (λ (x : ℕ). x < 256) (sym (get_or-set_other s k j b 0 (λ e. omega arith))) (image-bytes t i j)
        pick (no a) (yes c) = subst (λ (x : ℕ). x < 256) (sym (get_or-set_other s k j b 0 (λ e. omega arith))) (image-bytes t i j)
        pick (no a) (no c) =
            let e : k ≡ j = omega arith in
            subst (λ (x : ℕ). x < 256) (sym (ap (λ (n : ℕ). get_or (set s k b) n 0) (sym e) ∙ get_or-set_same s k b 0 (omega (arith, length-image t i)))) small

    go : number_at (set s k b) crc_at 4 ≡ crc32 (take crc_at (set s k b)) → Dec (k < crc_at) → ⊥
    -- before the CRC: the stored one is as it was, so the CRCs of both are equal, and so are the
    -- bytes
    go e (yes a) =
        let same : number_at (set s k b) crc_at 4 ≡ number_at s crc_at 4 =
        number_same (set s k b) s 4 crc_at (λ j n. get_or-set_other s k (crc_at + j) b 0 (λ z. omega arith)) in
        other
        (crc-told (take crc_at s) k b (bytes_take crc_at s (image-bytes t i)) (omega (arith, length-take crc_at s, length-image t i)) small
        (ap crc32 (sym (take-set-lt crc_at s k b a)) ∙ sym e ∙ same ∙ image-sum t i)
        ∙ get_or-take crc_at s k 0 a)
    -- in the CRC: what it is over is as it was, so it is the same number, and its bytes are the
    -- same
    go e (no a) =
        let same : number_at (set s k b) crc_at 4 ≡ number_at s crc_at 4 =
        e ∙ ap crc32 (take-set-le crc_at s k b (omega arith)) ∙ sym (image-sum t i) in
        let at : crc_at + (k - crc_at) ≡ k = omega arith in
        other
        (sym (get_or-set_same s k b 0 (omega (arith, length-image t i)))
        ∙ ap (λ (n : ℕ). get_or (set s k b) n 0) (sym at)
        ∙ sym (byte-number (set s k b) bytes 4 crc_at (k - crc_at) (omega arith))
        ∙ ap (λ (x : ℕ). byte_of x (k - crc_at)) same
        ∙ byte-number s (image-bytes t i) 4 crc_at (k - crc_at) (omega arith)
        ∙ ap (λ (n : ℕ). get_or s n 0) at)

-- ---- only the first words count

front-local : (t s : List ℕ) → take table_words t ≡ take table_words s → (i k : ℕ) → front_byte t i k ≡ front_byte s i k
unfolding front_byte words_in
front-local t s same i k = go (dec_lt (k - payload_at) (used_in i))
  where
    w : ℕ
    w = first_word i + (k - payload_at) / 8

    go : Dec (k - payload_at < used_in i) → front_byte t i k ≡ front_byte s i k
    go (yes l) =
        ap (λ (x : ℕ). cond (ltb k 2) (byte_of i k) (cond (ltb k payload_at) (byte_of (used_in i) (k - 2)) (cond (ltb (k - payload_at) (used_in i)) (byte_of x ((k - payload_at) % 8)) 0)))
        (same_word t s same w (omega arith))
    go (no l) = let past : used_in i ≤ k - payload_at = omega arith in rw (le-ltb (k - payload_at) (used_in i) past)

image-local : (t s : List ℕ) → take table_words t ≡ take table_words s → (i : ℕ) → image_of t i ≡ image_of s i
unfolding image_of
image-local t s same i = rw (front)
  where
    front : front_of t i ≡ front_of s i
    front = front-is t i ∙ list_of-ext crc_at (front_byte t i) (front_byte s i) (λ k h. front-local t s same i k) ∙ sym (front-is s i)

pub write-local : WriteLocal
unfolding write_answer written_block
write-local t s same i b = (rw (is_table-local t s same), rw (is_table-local t s same, image-local t s same i))

pub read-local : ReadLocal
read-local u i b = go (way u i b)
  where
    go : Way u i b → drop table_words (read_words u i b) ≡ drop table_words u
    go (kept n e) = ap (drop table_words) e
    go (done l e) =
        ap (drop table_words) (sym (read_done u i b l e).1 ∙ sym (read-words u i b l (passes i b e).within))
        ∙ drop-over table_words (first_word i) (first_word i + words_in i) _ u (words-within i (passes i b e).within)
