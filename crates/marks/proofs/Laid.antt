-- Parts in rows: a part depends on its own rows alone, and a new word in its last row gives it
-- other doors. Assumes nothing.
use mathlib.Core.Path.{◌≡◌, refl, ap, ap₂, ◌∙◌}
use mathlib.Core.Logic.{◌⊎◌, inl, inr}
use mathlib.Core.List.{List, [], ◌∷◌}
use Prim.Native.Nat.{ℕ, zero, suc, ◌+◌, ◌*◌, ◌≤◌, ◌<◌}
use native.Mathlib.Omega.{arith}
use lib.Bits.{bit_and, bit_or}
use lib.ListN.{length, get_or, set, length-set}
use lib.Seq.{sets, length-sets, get_or-set_same, get_or-set_other}
use Rattle.marks.specs.Parts.{all, Doors, Part, one, then, or, doors_of, size_of, last_of}
use Rattle.marks.specs.Invariants.{at, Row, Laid, narrowed, widened, placed}
use Rattle.marks.proofs.Doors.{with_doors, shut-front, shut-back, open-round}

-- ---- a run of stores, read again

pub sets-out : (vs l : List ℕ) (i k : ℕ) → (k < i) ⊎ (i + length vs ≤ k) → get_or (sets l i vs) k 0 ≡ get_or l k 0
sets-out [] l i k h = refl
sets-out (v ∷ vs) l i k (inl h) =
    sets-out vs (set l i v) (suc i) k (inl (omega arith)) ∙ get_or-set_other l i k v 0 (λ e. omega arith)
sets-out (v ∷ vs) l i k (inr h) =
    sets-out vs (set l i v) (suc i) k (inr (omega arith)) ∙ get_or-set_other l i k v 0 (λ e. omega arith)

sets-in : (vs l : List ℕ) (i j : ℕ) → j < length vs → i + length vs ≤ length l → get_or (sets l i vs) (i + j) 0 ≡ get_or vs j 0
sets-in [] l i j h m = absurd (omega arith)
sets-in (v ∷ vs) l i zero h m =
    let e : i + 0 ≡ i = omega arith in
    ap (λ (k : ℕ). get_or (sets (set l i v) (suc i) vs) k 0) e
    ∙ sets-out vs (set l i v) (suc i) i (inl (omega arith)) ∙ get_or-set_same l i v 0 (omega arith)
sets-in (v ∷ vs) l i (suc j) h m =
    let e : i + suc j ≡ suc i + j = omega arith in
    ap (λ (k : ℕ). get_or (sets (set l i v) (suc i) vs) k 0) e
    ∙ sets-in vs (set l i v) (suc i) j (omega arith) (omega (arith, length-set l i v))

-- ---- rows

module _ {ps qs : List ℕ} {j : ℕ} (same : (i : ℕ) → i < 8 → at qs j i ≡ at ps j i) where
  row_same : {what x y : ℕ} {d : Doors} → Row ps j what x y d → Row qs j what x y d
  row_same r = record {
    is = same 0 (omega arith) ∙ r.is;
    first = same 1 (omega arith) ∙ r.first;
    second = same 2 (omega arith) ∙ r.second;
    front = same 5 (omega arith) ∙ r.front;
    back = same 6 (omega arith) ∙ r.back;
    round = same 7 (omega arith) ∙ r.round;
  }

-- the same words in the rows of a part
abbrev pub Same : (ps qs : List ℕ) (n : ℕ) → Part → Type 0
Same ps qs n p = (q : ℕ) → n * 8 ≤ q → q < (n + suc (last_of p)) * 8 → get_or qs q 0 ≡ get_or ps q 0

pub laid_same : (p : Part) (ps qs : List ℕ) (n b : ℕ) → Same ps qs n p → Laid ps n b p → Laid qs n b p
unfolding Laid last_of
laid_same (one d k) ps qs n b s l = row_same (λ i h. s _ (omega arith) (omega arith)) l
laid_same (then d u v x y) ps qs n b s l = (
  row_same (λ i h. s _ (omega arith) (omega arith)) l.0,
  s _ (omega arith) (omega arith) ∙ l.1,
  s _ (omega arith) (omega arith) ∙ l.2,
  laid_same x ps qs n b (λ q g h. s q g (omega arith)) l.3,
  laid_same y ps qs (n + suc (last_of x)) (b + size_of x) (λ q g h. s q (omega arith) (omega arith)) l.4,
)
laid_same (or d x y) ps qs n b s l = (
  row_same (λ i h. s _ (omega arith) (omega arith)) l.0,
  s _ (omega arith) (omega arith) ∙ l.1,
  s _ (omega arith) (omega arith) ∙ l.2,
  laid_same x ps qs n b (λ q g h. s q g (omega arith)) l.3,
  laid_same y ps qs (n + suc (last_of x)) (b + size_of x) (λ q g h. s q (omega arith) (omega arith)) l.4,
)

-- ---- doors

pub front_at : (p : Part) (ps : List ℕ) (n b : ℕ) → Laid ps n b p → at ps (n + last_of p) 5 ≡ (doors_of p).front
unfolding Laid last_of
front_at (one d k) ps n b l = let e : n + 0 ≡ n = omega arith in ap (λ (j : ℕ). at ps j 5) e ∙ l.front
front_at (then d u v x y) ps n b l = l.0.front
front_at (or d x y) ps n b l = l.0.front

pub back_at : (p : Part) (ps : List ℕ) (n b : ℕ) → Laid ps n b p → at ps (n + last_of p) 6 ≡ (doors_of p).back
unfolding Laid last_of
back_at (one d k) ps n b l = let e : n + 0 ≡ n = omega arith in ap (λ (j : ℕ). at ps j 6) e ∙ l.back
back_at (then d u v x y) ps n b l = l.0.back
back_at (or d x y) ps n b l = l.0.back

pub round-at : (p : Part) (ps : List ℕ) (n b : ℕ) → Laid ps n b p → at ps (n + last_of p) 7 ≡ (doors_of p).round
unfolding Laid last_of
round-at (one d k) ps n b l = let e : n + 0 ≡ n = omega arith in ap (λ (j : ℕ). at ps j 7) e ∙ l.round
round-at (then d u v x y) ps n b l = l.0.round
round-at (or d x y) ps n b l = l.0.round

-- the same words but for the doors of the last row
abbrev But : (ps qs : List ℕ) (n : ℕ) → Part → Type 0
But ps qs n p = (q : ℕ) → n * 8 ≤ q → q < (n + last_of p) * 8 + 5 → get_or qs q 0 ≡ get_or ps q 0

with_row : {ps qs : List ℕ} {j what x y : ℕ} {d e : Doors} → Row ps j what x y d → ((i : ℕ) → i < 5 → at qs j i ≡ at ps j i)
    → at qs j 5 ≡ e.front → at qs j 6 ≡ e.back → at qs j 7 ≡ e.round → Row qs j what x y e
with_row r s f b o = record {
  is = s 0 (omega arith) ∙ r.is;
  first = s 1 (omega arith) ∙ r.first;
  second = s 2 (omega arith) ∙ r.second;
  front = f;
  back = b;
  round = o;
}

laid-with : (p : Part) (ps qs : List ℕ) (n b : ℕ) (e : Doors) → But ps qs n p → Laid ps n b p
    → at qs (n + last_of p) 5 ≡ e.front → at qs (n + last_of p) 6 ≡ e.back → at qs (n + last_of p) 7 ≡ e.round → Laid qs n b (with_doors p e)
unfolding Laid last_of
laid-with (one d k) ps qs n b e s l f g o =
    let z : n + 0 ≡ n = omega arith in
    with_row l (λ i h. s _ (omega arith) (omega arith)) (rw z at f) (rw z at g) (rw z at o)
laid-with (then d u v x y) ps qs n b e s l f k o = (
  with_row l.0 (λ i h. s _ (omega arith) (omega arith)) f k o,
  s _ (omega arith) (omega arith) ∙ l.1,
  s _ (omega arith) (omega arith) ∙ l.2,
  laid_same x ps qs n b (λ q g h. s q g (omega arith)) l.3,
  laid_same y ps qs (n + suc (last_of x)) (b + size_of x) (λ q g h. s q (omega arith) (omega arith)) l.4,
)
laid-with (or d x y) ps qs n b e s l f k o = (
  with_row l.0 (λ i h. s _ (omega arith) (omega arith)) f k o,
  s _ (omega arith) (omega arith) ∙ l.1,
  s _ (omega arith) (omega arith) ∙ l.2,
  laid_same x ps qs n b (λ q g h. s q g (omega arith)) l.3,
  laid_same y ps qs (n + suc (last_of x)) (b + size_of x) (λ q g h. s q (omega arith) (omega arith)) l.4,
)

module _ (p : Part) (ps : List ℕ) (n b : ℕ) (l : Laid ps n b p) (room : (n + last_of p) * 8 + 7 < length ps) where
  abbrev j : ℕ
  j = n + last_of p

  other : (i v q : ℕ) → (q ≡ j * 8 + i → ⊥) → get_or (set ps (j * 8 + i) v) q 0 ≡ get_or ps q 0
  other i v q h = get_or-set_other ps (j * 8 + i) q v 0 h

  here : (i v : ℕ) → i < 8 → get_or (set ps (j * 8 + i) v) (j * 8 + i) 0 ≡ v
  here i v h = get_or-set_same ps (j * 8 + i) v 0 (omega arith)

  pub laid-front : (m : ℕ) → Laid (narrowed ps j 5 m) n b (with_doors p (shut-front p m))
  laid-front m =
      laid-with p ps (narrowed ps j 5 m) n b (shut-front p m) (λ q g h. other 5 _ q (λ e. omega arith)) l
      (here 5 _ (omega arith) ∙ ap (λ (v : ℕ). bit_and v m) (front_at p ps n b l))
      (other 5 _ (j * 8 + 6) (λ e. omega arith) ∙ back_at p ps n b l)
      (other 5 _ (j * 8 + 7) (λ e. omega arith) ∙ round-at p ps n b l)

  pub laid-back : (m : ℕ) → Laid (narrowed ps j 6 m) n b (with_doors p (shut-back p m))
  laid-back m =
      laid-with p ps (narrowed ps j 6 m) n b (shut-back p m) (λ q g h. other 6 _ q (λ e. omega arith)) l
      (other 6 _ (j * 8 + 5) (λ e. omega arith) ∙ front_at p ps n b l)
      (here 6 _ (omega arith) ∙ ap (λ (v : ℕ). bit_and v m) (back_at p ps n b l))
      (other 6 _ (j * 8 + 7) (λ e. omega arith) ∙ round-at p ps n b l)

  pub laid-round : Laid (widened ps j) n b (with_doors p (open-round p))
  laid-round =
      laid-with p ps (widened ps j) n b (open-round p) (λ q g h. other 7 _ q (λ e. omega arith)) l
      (other 7 _ (j * 8 + 5) (λ e. omega arith) ∙ front_at p ps n b l)
      (other 7 _ (j * 8 + 6) (λ e. omega arith) ∙ back_at p ps n b l)
      (here 7 _ (omega arith) ∙ ap₂ bit_or (round-at p ps n b l) (ap₂ bit_and (front_at p ps n b l) (back_at p ps n b l)))

-- ---- a new row

module _ (ps : List ℕ) (j what x y left right : ℕ) (room : j * 8 + 8 ≤ length ps) where
  abbrev row : List ℕ
  row = what ∷ x ∷ y ∷ left ∷ right ∷ all ∷ all ∷ 0 ∷ []

  pub placed-in : (i : ℕ) → i < 8 → at (placed ps j what x y left right) j i ≡ get_or row i 0
  placed-in i h = sets-in row ps (j * 8) i h room

  pub placed-out : (q : ℕ) → (q < j * 8) ⊎ (j * 8 + 8 ≤ q) → get_or (placed ps j what x y left right) q 0 ≡ get_or ps q 0
  placed-out q h = sets-out row ps (j * 8) q h

  pub placed_row : Row (placed ps j what x y left right) j what x y (record { front = all; back = all; round = 0 })
  placed_row = record {
    is = placed-in 0 (omega arith);
    first = placed-in 1 (omega arith);
    second = placed-in 2 (omega arith);
    front = placed-in 5 (omega arith);
    back = placed-in 6 (omega arith);
    round = placed-in 7 (omega arith);
  }

  pub placed-length : length (placed ps j what x y left right) ≡ length ps
  placed-length = length-sets ps (j * 8) row
