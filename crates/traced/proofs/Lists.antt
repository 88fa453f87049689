-- The four lent lists: each law of one list, a column of what the reports give it, said of all.
use mathlib.Core.Path.{◌≡◌, refl, sym, ap, ap₂, ◌∙◌}
use mathlib.Core.List.{List, [], ◌∷◌, ◌++◌}
use Prim.Native.Nat.{ℕ, ◌+◌, ◌-◌, ◌<◌, ◌≤◌, min, zero-le}
use native.Mathlib.Omega.{arith}
use lib.ListN.{length, drop, set, length-take, length-drop, length-append}
use Rattle.stream.proofs.Lists.{column-long, column-at-long, column-none, column-front, column-more, column-part, column-store}
use Rattle.traced.specs.Byte.{Report}
use Rattle.traced.specs.Calls.{Lists, lists, space, in_stream, from_offset, written}
use Rattle.stream.specs.Invariants.{part_at}
use Rattle.traced.specs.Invariants.{written_at, free, back, AsLong, Filled}

-- a part's length, and the least of two that lose the same
part-long : {A : Type 0} (n : ℕ) (x : List A) → length (part_at n x) ≡ length x - n
part-long n x = omega (arith, length-take (length x - n) (drop n x), length-drop n x)

min-less : (n a b : ℕ) → min (a - n) (b - n) ≡ min a b - n
min-less n a b = omega arith

back-again : (n m : ℕ) → n ≤ m → n + (m - n) ≡ m
back-again n m h = omega arith

module _ (first : ℕ) (l : Lists) where
  written-long : (new : List Report) → length new ≤ space l → AsLong (written first new l) l
  unfolding written
  written-long new h =
      record {
        ids = column-long (λ (r : Report). r.pair.id) new l.ids (omega arith);
        offsets = column-long (λ (r : Report). r.pair.end) new l.offsets (omega arith);
        starts = column-long (λ (r : Report). in_stream r.start) new l.starts (omega arith);
        relatives = column-long (λ (r : Report). from_offset first r.start) new l.relatives (omega arith);
      }

  written-at-long : (n : ℕ) (new : List Report) → n + length new ≤ space l → AsLong (written_at first n new l) l
  unfolding written_at
  written-at-long n new h =
      record {
        ids = column-at-long (λ (r : Report). r.pair.id) n new l.ids (omega arith);
        offsets = column-at-long (λ (r : Report). r.pair.end) n new l.offsets (omega arith);
        starts = column-at-long (λ (r : Report). in_stream r.start) n new l.starts (omega arith);
        relatives = column-at-long (λ (r : Report). from_offset first r.start) n new l.relatives (omega arith);
      }

  pub written_none : written first [] l ≡ l
  unfolding written
  written_none = refl

  pub written-at-none : (n : ℕ) → written_at first n [] l ≡ l
  unfolding written_at
  written-at-none n =
      λ i. lists (column-none (λ (r : Report). r.pair.id) n l.ids i) (column-none (λ (r : Report). r.pair.end) n l.offsets i)
      (column-none (λ (r : Report). in_stream r.start) n l.starts i) (column-none (λ (r : Report). from_offset first r.start) n l.relatives i)

  pub written-front : (new : List Report) → written_at first 0 new l ≡ written first new l
  unfolding written written_at
  written-front new =
      λ i. lists (column-front (λ (r : Report). r.pair.id) new l.ids i) (column-front (λ (r : Report). r.pair.end) new l.offsets i)
      (column-front (λ (r : Report). in_stream r.start) new l.starts i) (column-front (λ (r : Report). from_offset first r.start) new l.relatives i)

  pub written-more : (n : ℕ) (old new : List Report) → n ≡ length old → written_at first n new (written first old l) ≡ written first (old ++ new) l
  unfolding written written_at
  written-more n old new e =
      λ i. lists (column-more (λ (r : Report). r.pair.id) n old new l.ids e i) (column-more (λ (r : Report). r.pair.end) n old new l.offsets e i)
      (column-more (λ (r : Report). in_stream r.start) n old new l.starts e i) (column-more (λ (r : Report). from_offset first r.start) n old new l.relatives e i)

  pub written-part : (n : ℕ) (new : List Report) (last : Lists) → n ≤ space l → last ≡ written first new (free n l) → back n l last ≡ written_at first n new l
  unfolding written written_at
  written-part n new last h e =
      λ i. lists (column-part (λ (r : Report). r.pair.id) n new l.ids last.ids (omega arith) (ap (λ (y : Lists). y.ids) e) i)
      (column-part (λ (r : Report). r.pair.end) n new l.offsets last.offsets (omega arith) (ap (λ (y : Lists). y.offsets) e) i)
      (column-part (λ (r : Report). in_stream r.start) n new l.starts last.starts (omega arith) (ap (λ (y : Lists). y.starts) e) i)
      (column-part (λ (r : Report). from_offset first r.start) n new l.relatives last.relatives (omega arith) (ap (λ (y : Lists). y.relatives) e) i)

  -- a report stored in each
  pub written-store : (n m : ℕ) (new : List Report) (r : Report) → m ≡ n + length new → m < space l
      → lists (set (written_at first n new l).ids m r.pair.id) (set (written_at first n new l).offsets m r.pair.end)
      (set (written_at first n new l).starts m (in_stream r.start)) (set (written_at first n new l).relatives m (from_offset first r.start))
      ≡ written_at first n (new ++ r ∷ []) l
  unfolding written_at
  written-store n m new r e h =
      λ i. lists (column-store (λ (r : Report). r.pair.id) n m new r l.ids e (omega arith) i) (column-store (λ (r : Report). r.pair.end) n m new r l.offsets e (omega arith) i)
      (column-store (λ (r : Report). in_stream r.start) n m new r l.starts e (omega arith) i)
      (column-store (λ (r : Report). from_offset first r.start) n m new r l.relatives e (omega arith) i)

  -- what is free of them
  pub free-space : (n : ℕ) → n ≤ space l → n + space (free n l) ≡ space l
  free-space n h =
      let one : ℕ = min (length l.ids) (length l.offsets) in
      let two : ℕ = min (length l.starts) (length l.relatives) in
      let less : space (free n l) ≡ min (one - n) (two - n) =
      ap₂ min
      (ap₂ min (part-long n l.ids) (part-long n l.offsets) ∙ min-less n (length l.ids) (length l.offsets))
      (ap₂ min (part-long n l.starts) (part-long n l.relatives) ∙ min-less n (length l.starts) (length l.relatives)) in
      ap (λ (m : ℕ). n + m) (less ∙ min-less n one two) ∙ back-again n (min one two) h

-- lists that are equal to others of a length
long_as : {l k m : Lists} → l ≡ k → AsLong k m → AsLong l m
long_as e h = record {
  ids = ap (λ (y : Lists). length y.ids) e ∙ h.ids;
  offsets = ap (λ (y : Lists). length y.offsets) e ∙ h.offsets;
  starts = ap (λ (y : Lists). length y.starts) e ∙ h.starts;
  relatives = ap (λ (y : Lists). length y.relatives) e ∙ h.relatives;
}

pub long-space : {l m : Lists} → AsLong l m → space l ≡ space m
long-space h = omega (arith, h.ids, h.offsets, h.starts, h.relatives)

pub long-written : {l l₀ : Lists} (first n : ℕ) (new : List Report) → l ≡ written_at first n new l₀ → n + length new ≤ space l₀ → AsLong l l₀
long-written {l} {l₀} first n new e h = long_as e (written-at-long first l₀ n new h)

-- ---- the reports so far

pub filled-start : (first : ℕ) (l : Lists) → Filled first [] l 0 l
filled-start first l = record { count_is = refl; room = zero-le; lists_are = sym (written_none first l) }

module _ {first : ℕ} {new : List Report} {l₀ l : Lists} {count : ℕ} (h : Filled first new l₀ count l) where
  pub filled-long : AsLong l l₀
  filled-long = long_as h.lists_are (written-long first l₀ new (omega (arith, h.count_is, h.room)))

  pub filled-space : space l ≡ space l₀
  filled-space = long-space filled-long

  pub filled-inside : count ≤ space l
  filled-inside = omega (arith, h.room, filled-space)

  -- more of them
  pub filled_more : (more : List Report) (l' : Lists) → l' ≡ written_at first count more l → count + length more ≤ space l → Filled first (new ++ more) l₀ (count + length more) l'
  filled_more more l' e r =
      record {
        count_is = ap (λ (n : ℕ). n + length more) h.count_is ∙ sym (length-append new more);
        room = omega (arith, filled-space);
        lists_are = e ∙ ap (written_at first count more) h.lists_are ∙ written-more first l₀ count new more h.count_is;
      }

-- the same reports
pub filled-same : {first : ℕ} {new new' : List Report} {l₀ l : Lists} {count : ℕ} → new ≡ new' → Filled first new l₀ count l → Filled first new' l₀ count l
filled-same {first} {l₀ = l₀} e h = record { count_is = h.count_is ∙ ap length e; room = h.room; lists_are = h.lists_are ∙ ap (λ (r : List Report). written first r l₀) e }

-- a place inside all of them is inside each, also once they are written
module _ {l l₀ : Lists} (long : AsLong l l₀) {n : ℕ} (h : n < space l₀) where
  pub place-ids : n < length l.ids
  place-ids = omega (arith, long.ids)

  pub place-offsets : n < length l.offsets
  place-offsets = omega (arith, long.offsets)

  pub place-starts : n < length l.starts
  place-starts = omega (arith, long.starts)

  pub place-relatives : n < length l.relatives
  place-relatives = omega (arith, long.relatives)

module _ (l : Lists) {n : ℕ} (h : n < space l) where
  pub room-ids : n < length l.ids
  room-ids = omega arith

  pub room-offsets : n < length l.offsets
  room-offsets = omega arith

  pub room-starts : n < length l.starts
  room-starts = omega arith

  pub room-relatives : n < length l.relatives
  room-relatives = omega arith

-- as many places as all of them have, each has
module _ (l : Lists) {n : ℕ} (h : n ≤ space l) where
  pub enough-ids : n ≤ length l.ids
  enough-ids = omega arith

  pub enough-offsets : n ≤ length l.offsets
  enough-offsets = omega arith

  pub enough-starts : n ≤ length l.starts
  enough-starts = omega arith

  pub enough-relatives : n ≤ length l.relatives
  enough-relatives = omega arith
