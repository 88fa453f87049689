-- The lent lists. Each law is said of one list, a column of what the reports give it, and then of
-- all of them: a further list is a line more in each.
use mathlib.Core.Path.{◌≡◌, refl, sym, ap, ap₂, ◌∙◌}
use mathlib.Core.List.{List, [], ◌∷◌, ◌++◌, map, append-nil, append_assoc}
use Prim.Native.Nat.{ℕ, suc, ◌+◌, ◌-◌, ◌<◌, ◌≤◌, zero-le}
use native.Mathlib.Nat.{add-zero}
use native.Mathlib.Omega.{arith}
use lib.ListN.{length, take, drop, set, get_or, length-take, length-drop, length-append, length-map, drop_of_length-le, take-append-drop}
use lib.Seq.{drop-cons, drop-drop, drop_at, set_at, take_at, take_all}
use borrow.Rule.Slice.PartMut.{put_mid}
use Rattle.stream.specs.Byte.{Report}
use Rattle.stream.specs.Calls.{Lists, lists, space, column, written}
use Rattle.stream.specs.Invariants.{column_at, written_at, part_at, free, back, AsLong, Filled}

-- ---- one list

module _ {R A : Type 0} (f : R → A) where
  map-join : (a b : List R) → map f (a ++ b) ≡ map f a ++ map f b
  map-join [] b = refl
  map-join (x ∷ a) b = ap (λ (l : List A). f x ∷ l) (map-join a b)

  pub column-long : (new : List R) (x : List A) → length new ≤ length x → length (column f new x) ≡ length x
  column-long new x h = omega (arith, length-append (map f new) (drop (length new) x), length-map new f, length-drop (length new) x)

  pub column-at-long : (n : ℕ) (new : List R) (x : List A) → n + length new ≤ length x → length (column_at f n new x) ≡ length x
  column-at-long n new x h =
      omega (
        arith,
        length-append (take n x) (map f new ++ drop (n + length new) x),
        length-take n x,
        length-append (map f new) (drop (n + length new) x),
        length-map new f,
        length-drop (n + length new) x,
      )

  pub column-none : (n : ℕ) (x : List A) → column_at f n [] x ≡ x
  column-none n x = ap (λ (k : ℕ). take n x ++ drop k x) (add-zero n) ∙ take-append-drop n x

  -- from place 0 on
  pub column-front : (new : List R) (x : List A) → column_at f 0 new x ≡ column f new x
  column-front new x = let e : 0 + length new ≡ length new = omega arith in ap (λ (k : ℕ). map f new ++ drop k x) e

  -- behind what is there
  pub column-more : (n : ℕ) (old new : List R) (x : List A) → n ≡ length old → column_at f n new (column f old x) ≡ column f (old ++ new) x
  column-more n old new x e =
      let long : length (map f old) ≡ n = length-map old f ∙ sym e in
      let rest : drop (n + length new) (column f old x) ≡ drop (length (old ++ new)) x =
      sym (drop-drop (length new) n (column f old x)) ∙ ap (drop (length new)) (drop_at (map f old) (drop (length old) x) n long)
      ∙ drop-drop (length new) (length old) x ∙ ap (λ (k : ℕ). drop k x) (sym (length-append old new)) in
      ap₂ (λ (p q : List A). p ++ (map f new ++ q)) (take_at (map f old) (drop (length old) x) n long) rest
      ∙ sym (append_assoc (map f old) (map f new) (drop (length (old ++ new)) x))
      ∙ ap (λ (p : List A). p ++ drop (length (old ++ new)) x) (sym (map-join old new))

  -- in a part that was lent
  pub column-part : (n : ℕ) (new : List R) (x last : List A) → n ≤ length x → last ≡ column f new (part_at n x) → put_mid n (length x - n) x last ≡ column_at f n new x
  column-part n new x last h e =
      let all : part_at n x ≡ drop n x = take_all (length x - n) (drop n x) (omega (arith, length-drop n x)) in
      let none : drop (length x - n) (drop n x) ≡ [] = drop_of_length-le (drop n x) {i = length x - n} (omega (arith, length-drop n x)) in
      ap (λ (q : List A). take n x ++ q)
      (ap₂ (λ (p q : List A). p ++ q) (e ∙ ap (λ (l : List A). map f new ++ drop (length new) l) all ∙ ap (λ (l : List A). map f new ++ l) (drop-drop (length new) n x)) none
      ∙ append-nil (map f new ++ drop (n + length new) x))

  -- one more
  pub column-store : (n m : ℕ) (new : List R) (r : R) (x : List A) → m ≡ n + length new → m < length x → set (column_at f n new x) m (f r) ≡ column_at f n (new ++ r ∷ []) x
  column-store n m new r x e h =
      let p : List A = take n x ++ map f new in
      let long : length p ≡ m = omega (arith, length-append (take n x) (map f new), length-take n x, length-map new f) in
      let next : n + length (new ++ r ∷ []) ≡ suc m = omega (arith, length-append new (r ∷ [])) in
      ap (λ (k : ℕ). set (take n x ++ (map f new ++ drop k x)) m (f r)) (sym e)
      ∙ ap (λ (l : List A). set l m (f r)) (sym (append_assoc (take n x) (map f new) (drop m x)))
      ∙ ap (λ (l : List A). set (p ++ l) m (f r)) (drop-cons x m (f r) h)
      ∙ set_at p (get_or x m (f r)) (drop (suc m) x) (f r) m long
      ∙ append_assoc (take n x) (map f new) (f r ∷ drop (suc m) x)
      ∙ ap (λ (q : List A). take n x ++ q)
      (sym (append_assoc (map f new) (f r ∷ []) (drop (suc m) x)) ∙ ap₂ (λ (a : List A) (k : ℕ). a ++ drop k x) (sym (map-join new (r ∷ []))) (sym next))

-- ---- all of them

module _ (l : Lists) where
  written-long : (new : List Report) → length new ≤ space l → AsLong (written new l) l
  unfolding written
  written-long new h =
      record { ids = column-long (λ r. r.id) new l.ids (omega arith); offsets = column-long (λ r. r.end) new l.offsets (omega arith) }

  written-at-long : (n : ℕ) (new : List Report) → n + length new ≤ space l → AsLong (written_at n new l) l
  unfolding written_at
  written-at-long n new h =
      record { ids = column-at-long (λ r. r.id) n new l.ids (omega arith); offsets = column-at-long (λ r. r.end) n new l.offsets (omega arith) }

  pub written_none : written [] l ≡ l
  unfolding written
  written_none = refl

  pub written-at-none : (n : ℕ) → written_at n [] l ≡ l
  unfolding written_at
  written-at-none n = λ i. lists (column-none (λ (r : Report). r.id) n l.ids i) (column-none (λ (r : Report). r.end) n l.offsets i)

  pub written-front : (new : List Report) → written_at 0 new l ≡ written new l
  unfolding written written_at
  written-front new = λ i. lists (column-front (λ r. r.id) new l.ids i) (column-front (λ r. r.end) new l.offsets i)

  pub written-more : (n : ℕ) (old new : List Report) → n ≡ length old → written_at n new (written old l) ≡ written (old ++ new) l
  unfolding written written_at
  written-more n old new e =
      λ i. lists (column-more (λ r. r.id) n old new l.ids e i) (column-more (λ r. r.end) n old new l.offsets e i)

  pub written-part : (n : ℕ) (new : List Report) (last : Lists) → n ≤ space l → last ≡ written new (free n l) → back n l last ≡ written_at n new l
  unfolding written written_at
  written-part n new last h e =
      λ i. lists (column-part (λ r. r.id) n new l.ids last.ids (omega arith) (ap (λ (y : Lists). y.ids) e) i)
      (column-part (λ r. r.end) n new l.offsets last.offsets (omega arith) (ap (λ (y : Lists). y.offsets) e) i)

  -- a report stored in each
  pub written-store : (n m : ℕ) (new : List Report) (r : Report) → m ≡ n + length new → m < space l
      → lists (set (written_at n new l).ids m r.id) (set (written_at n new l).offsets m r.end) ≡ written_at n (new ++ r ∷ []) l
  unfolding written_at
  written-store n m new r e h =
      λ i. lists (column-store (λ r. r.id) n m new r l.ids e (omega arith) i) (column-store (λ r. r.end) n m new r l.offsets e (omega arith) i)

  -- what is free of them
  pub free-space : (n : ℕ) → n ≤ space l → n + space (free n l) ≡ space l
  free-space n h =
      omega (
        arith,
        length-take (length l.ids - n) (drop n l.ids),
        length-drop n l.ids,
        length-take (length l.offsets - n) (drop n l.offsets),
        length-drop n l.offsets,
      )

-- lists that are equal to others of a length
long_as : {l k m : Lists} → l ≡ k → AsLong k m → AsLong l m
long_as e h = record { ids = ap (λ (y : Lists). length y.ids) e ∙ h.ids; offsets = ap (λ (y : Lists). length y.offsets) e ∙ h.offsets }

pub long-space : {l m : Lists} → AsLong l m → space l ≡ space m
long-space h = omega (arith, h.ids, h.offsets)

pub long-written : {l l₀ : Lists} (n : ℕ) (new : List Report) → l ≡ written_at n new l₀ → n + length new ≤ space l₀ → AsLong l l₀
long-written {l} {l₀} n new e h = long_as e (written-at-long l₀ n new h)

-- ---- the reports so far

pub filled-start : (l : Lists) → Filled [] l 0 l
filled-start l = record { count_is = refl; room = zero-le; lists_are = sym (written_none l) }

module _ {new : List Report} {l₀ l : Lists} {count : ℕ} (h : Filled new l₀ count l) where
  pub filled-long : AsLong l l₀
  filled-long = long_as h.lists_are (written-long l₀ new (omega (arith, h.count_is, h.room)))

  pub filled-space : space l ≡ space l₀
  filled-space = long-space filled-long

  pub filled-inside : count ≤ space l
  filled-inside = omega (arith, h.room, filled-space)

  -- more of them
  pub filled_more : (more : List Report) (l' : Lists) → l' ≡ written_at count more l → count + length more ≤ space l → Filled (new ++ more) l₀ (count + length more) l'
  filled_more more l' e r =
      record {
        count_is = ap (λ (n : ℕ). n + length more) h.count_is ∙ sym (length-append new more);
        room = omega (arith, filled-space);
        lists_are = e ∙ ap (written_at count more) h.lists_are ∙ written-more l₀ count new more h.count_is;
      }

  -- those of what came back
  pub filled-part : (more : List Report) (count' : ℕ) (last : Lists) → Filled more (free count l) count' last → Filled (new ++ more) l₀ (count + count') (back count l last)
  filled-part more count' last g =
      let n : count + length more ≡ count + count' = ap (λ (k : ℕ). count + k) (sym g.count_is) in
      let r : count + length more ≤ space l = omega (arith, g.room, g.count_is, free-space l count filled-inside) in
      let f = filled_more more (back count l last) (written-part l count more last filled-inside g.lists_are) r in
      record { count_is = sym n ∙ f.count_is; room = omega (arith, f.room); lists_are = f.lists_are }

-- the same reports
pub filled-same : {new new' : List Report} {l₀ l : Lists} {count : ℕ} → new ≡ new' → Filled new l₀ count l → Filled new' l₀ count l
filled-same {l₀ = l₀} e h = record { count_is = h.count_is ∙ ap length e; room = h.room; lists_are = h.lists_are ∙ ap (λ (r : List Report). written r l₀) e }

-- a place inside all of them is inside each, also once they are written
module _ {l l₀ : Lists} (long : AsLong l l₀) {n : ℕ} (h : n < space l₀) where
  pub place-ids : n < length l.ids
  place-ids = omega (arith, long.ids)

  pub place-offsets : n < length l.offsets
  place-offsets = omega (arith, long.offsets)
