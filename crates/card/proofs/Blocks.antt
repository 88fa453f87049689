-- What the test of a block gives, and the other way round. `is_block` is a chain of tests, so bytes
-- pass exactly where each link holds (`Passes`): a call that refuses shows that one link fails
-- (`refused`), and a proof about an accepted block takes the facts from `passes`.
use mathlib.Core.Path.{◌≡◌, refl, ◌∙◌}
use mathlib.Core.Bool.{Bool, true, false, ◌&&◌, and-eq-true_iff}
use mathlib.Core.List.{List}
use Prim.Native.Nat.{ℕ, ◌+◌, ◌-◌, ◌<◌}
use borrow.Author.Tests.{lt-ltb, eq-eqb, ltb-true, eqb-true}
use lib.Dec.{eqb, ltb}
use lib.ListN.{length, get_or, take}
use Rattle.table.specs.Table.{all}
use Rattle.card.specs.Bytes.{number_at}
use Rattle.card.specs.Crc.{crc32}
use Rattle.card.specs.Block.{block_bytes, payload_at, payload_bytes, crc_at, blocks, used_in}
use Rattle.card.specs.Calls.{fits, is_block}

-- byte k of the filler is zero
abbrev pub blank : (i : ℕ) → List ℕ → ℕ → Bool
blank i b k = eqb (get_or b (payload_at + used_in i + k) 0) 0

pub record Passes (i : ℕ) (b : List ℕ) : Type 0 where
  pub long : length b ≡ block_bytes
  pub within : i < blocks
  pub number : number_at b 0 2 ≡ i
  pub used : number_at b 2 2 ≡ used_in i
  pub filler : all (payload_bytes - used_in i) (blank i b) ≡ true
  pub sum : number_at b crc_at 4 ≡ crc32 (take crc_at b)

pub passes : (i : ℕ) (b : List ℕ) → is_block i b ≡ true → Passes i b
unfolding is_block fits
passes i b e =
    let p = (and-eq-true_iff (eqb (length b) block_bytes && ltb i blocks) _).0 e in
    let f = (and-eq-true_iff (eqb (length b) block_bytes) (ltb i blocks)).0 p.0 in
    let q = (and-eq-true_iff (eqb (number_at b 0 2) i) _).0 p.1 in
    let r = (and-eq-true_iff (eqb (number_at b 2 2) (used_in i)) _).0 q.1 in
    let s = (and-eq-true_iff (all (payload_bytes - used_in i) (blank i b)) _).0 r.1 in
    record {
      long = eqb-true (length b) block_bytes f.0;
      within = ltb-true i blocks f.1;
      number = eqb-true (number_at b 0 2) i q.0;
      used = eqb-true (number_at b 2 2) (used_in i) r.0;
      filler = s.0;
      sum = eqb-true (number_at b crc_at 4) (crc32 (take crc_at b)) s.1;
    }

-- with all else in order, the CRC decides
pub by-sum : (i : ℕ) (b : List ℕ) → length b ≡ block_bytes → i < blocks → number_at b 0 2 ≡ i → number_at b 2 2 ≡ used_in i
    → all (payload_bytes - used_in i) (blank i b) ≡ true → is_block i b ≡ eqb (number_at b crc_at 4) (crc32 (take crc_at b))
unfolding is_block fits
by-sum i b l w n u f =
    rw (eq-eqb (length b) block_bytes l, lt-ltb i blocks w, eq-eqb (number_at b 0 2) i n, eq-eqb (number_at b 2 2) (used_in i) u, f)

pub accepted : (i : ℕ) (b : List ℕ) → Passes i b → is_block i b ≡ true
accepted i b p =
    by-sum i b p.long p.within p.number p.used p.filler ∙ eq-eqb (number_at b crc_at 4) (crc32 (take crc_at b)) p.sum

pub refused : (i : ℕ) (b : List ℕ) → (Passes i b → ⊥) → is_block i b ≡ false
refused i b h = go (is_block i b) refl
  where
    go : (t : Bool) → is_block i b ≡ t → is_block i b ≡ false
    go true e = absurd (h (passes i b e))
    go false e = e
