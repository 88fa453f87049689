-- The two calls by their tests: for each way through them, the answer and what is lent afterwards.
use mathlib.Core.Path.{◌≡◌, ap, ap₂, ◌∙◌}
use mathlib.Core.Bool.{Bool, true, false, ◌&&◌, and-false}
use mathlib.Core.List.{List}
use Prim.Native.Nat.{ℕ, ◌≤◌, ◌<◌}
use borrow.Author.Tests.{lt-ltb, le-ltb, eq-eqb, ne_eqb}
use lib.Dec.{eqb, ltb}
use lib.ListN.{length}
use Rattle.table.specs.Layout.{table_words}
use Rattle.table.specs.Table.{is_table}
use Rattle.card.specs.Block.{block_bytes, blocks, image_of}
use Rattle.card.specs.Calls.{answer, fits, write_answer, written_block, is_block, read_answer, with_block, read_words}

-- ---- whether a block and its number fit

pub fits_both : (i : ℕ) (b : List ℕ) → length b ≡ block_bytes → i < blocks → fits i b ≡ true
unfolding fits
fits_both i b l h = ap₂ (λ (x y : Bool). x && y) (eq-eqb (length b) block_bytes l) (lt-ltb i blocks h)

pub fits-not-long : (i : ℕ) (b : List ℕ) → (length b ≡ block_bytes → ⊥) → fits i b ≡ false
unfolding fits
fits-not-long i b l = ap (λ (x : Bool). x && ltb i blocks) (ne_eqb (length b) block_bytes l)

pub fits-not-there : (i : ℕ) (b : List ℕ) → blocks ≤ i → fits i b ≡ false
unfolding fits
fits-not-there i b h = ap (λ (x : Bool). eqb (length b) block_bytes && x) (le-ltb i blocks h) ∙ and-false (eqb (length b) block_bytes)

-- ---- writing

module _ (t : List ℕ) (i : ℕ) (b : List ℕ) where
  pub write-no-table : is_table t ≡ false → (answer 1 0 ≡ write_answer t i b) × (b ≡ written_block t i b)
  unfolding write_answer written_block
  write-no-table e = (rw e, rw e)

  pub write-no-block : is_table t ≡ true → fits i b ≡ false → (answer 27 i ≡ write_answer t i b) × (b ≡ written_block t i b)
  unfolding write_answer written_block
  write-no-block e f = (rw (e, f), rw (e, f))

  pub write_done : is_table t ≡ true → fits i b ≡ true → (answer 0 0 ≡ write_answer t i b) × (image_of t i ≡ written_block t i b)
  unfolding write_answer written_block
  write_done e f = (rw (e, f), rw (e, f))

-- ---- reading

module _ (u : List ℕ) (i : ℕ) (b : List ℕ) where
  pub read-no-words : length u < table_words → (answer 1 0 ≡ read_answer u i b) × (u ≡ read_words u i b)
  unfolding read_answer read_words
  read-no-words h = (rw (lt-ltb (length u) table_words h), rw (lt-ltb (length u) table_words h))

  pub read-no-block : table_words ≤ length u → is_block i b ≡ false → (answer 27 i ≡ read_answer u i b) × (u ≡ read_words u i b)
  unfolding read_answer read_words
  read-no-block h e = (rw (le-ltb (length u) table_words h, e), rw (le-ltb (length u) table_words h, e))

  pub read_done : table_words ≤ length u → is_block i b ≡ true → (answer 0 0 ≡ read_answer u i b) × (with_block u i b ≡ read_words u i b)
  unfolding read_answer read_words
  read_done h e = (rw (le-ltb (length u) table_words h, e), rw (le-ltb (length u) table_words h, e))
