-- The allowance of a scan: what is used is bounded, and more allowance carries the same lists
-- further, since the reports of fewer bytes are the first of those of more. It is said of any kind
-- of stream whose scans write what a machine reports. Assumes nothing.
use mathlib.Core.Path.{◌≡◌, sym, ap, ap₂, ◌∙◌}
use mathlib.Core.List.{List, ◌++◌, map, map-append, append_assoc}
use Prim.Native.Nat.{ℕ, ◌+◌, ◌-◌, ◌*◌, ◌≤◌}
use native.Mathlib.Decide.{ℕ_discrete}
use native.Mathlib.Omega.{arith}
use lib.ListN.{length, take, drop, length-map}
use lib.Seq.{take_at}
use Rattle.stream.specs.Byte.{Machine, after, reports_by, cost_by, fits_by}
use Rattle.stream.specs.Calls.{column}
use Rattle.stream.proofs.Machines.{reports-grow, cost-grow, fits-within, fits-further, reports-later}
use Rattle.demands.specs.Kinds.{Kind}
use Rattle.demands.specs.Demands.{Used, Further, MoreAllowance}

-- what an accepted scan takes, uses and writes, and a refused one; the number does not depend on
-- the allowance
pub record Writes {S L C R : Type 0} (k : Kind S L C) (t : List ℕ) (m : Machine S R) (write : S → List R → L → L) : Type 0 where
  pub takes : (s : S) (c : C) → (k.scan t s c).number ≡ 0 → (k.scan t s c).taken ≡ fits_by m s (k.allowance c) (k.block c) (k.space (k.slots c)) (length (k.block c))
  pub uses : (s : S) (c : C) → (k.scan t s c).number ≡ 0 → (k.scan t s c).used ≡ cost_by m s (k.block c) (k.scan t s c).taken
  pub counts : (s : S) (c : C) → (k.scan t s c).number ≡ 0 → (k.scan t s c).count ≡ length (reports_by m s (k.block c) (k.scan t s c).taken)
  pub writes : (s : S) (c : C) → (k.scan t s c).number ≡ 0 → (k.scan t s c).lists ≡ write s (reports_by m s (k.block c) (k.scan t s c).taken) (k.slots c)
  pub refused : (s : S) (c : C) → ¬ ((k.scan t s c).number ≡ 0) → ((k.scan t s c).taken ≡ 0) × ((k.scan t s c).used ≡ 0) × ((k.scan t s c).count ≡ 0)
  pub costs : (s : S) (block : List ℕ) (n : ℕ) → (n ≤ cost_by m s block n) × (cost_by m s block n ≤ 257 * n)
  -- a list that goes on behind a part of it has the same front
  pub fronts : (s : S) (part rest : List R) (l : L) → k.front (length part) (write s part l) ≡ k.front (length part) (write s (part ++ rest) l)
  pub no_front : (l j : L) → k.front 0 l ≡ k.front 0 j
  pub same_number : (s : S) (c : C) (n : ℕ) → (k.scan t s (k.allow n c)).number ≡ (k.scan t s c).number
  pub same_block : (c : C) (n : ℕ) → k.block (k.allow n c) ≡ k.block c
  pub same_slots : (c : C) (n : ℕ) → k.slots (k.allow n c) ≡ k.slots c
  pub new_allowance : (c : C) (n : ℕ) → k.allowance (k.allow n c) ≡ n

pub column-front : {R A : Type 0} (f : R → A) (part rest : List R) (old : List A) → take (length part) (column f part old) ≡ take (length part) (column f (part ++ rest) old)
column-front {R} {A} f part rest old =
    let long : length (map f part) ≡ length part = length-map part f in
    take_at (map f part) (drop (length part) old) (length part) long
    ∙ sym (ap (take (length part)) (ap (λ (l : List A). l ++ drop (length (part ++ rest)) old) (map-append f part rest) ∙ append_assoc (map f part) (map f rest) (drop (length (part ++ rest)) old))
    ∙ take_at (map f part) (map f rest ++ drop (length (part ++ rest)) old) (length part) long)

module _ {S L C R : Type 0} (k : Kind S L C) (m : List ℕ → Machine S R) (write : S → List R → L → L) (w : (t : List ℕ) → Writes k t (m t) write) where
  pub used : Used k
  used t s c = go (ℕ_discrete (k.scan t s c).number 0)
    where
      go : Dec ((k.scan t s c).number ≡ 0) → ((k.scan t s c).used ≤ k.allowance c) × ((k.scan t s c).taken ≤ (k.scan t s c).used) × ((k.scan t s c).used ≤ 257 * (k.scan t s c).taken)
      go (yes ok) =
          let n : ℕ = (k.scan t s c).taken in
          let within = fits-within (m t) s (k.block c) (k.allowance c) (k.space (k.slots c)) (length (k.block c)) in
          let e : (k.scan t s c).used ≡ cost_by (m t) s (k.block c) n = (w t).uses s c ok in
          let at : cost_by (m t) s (k.block c) n ≡ cost_by (m t) s (k.block c) (fits_by (m t) s (k.allowance c) (k.block c) (k.space (k.slots c)) (length (k.block c))) =
          ap (cost_by (m t) s (k.block c)) ((w t).takes s c ok) in
          (omega (arith, e, at, within.1), omega (arith, e, ((w t).costs s (k.block c) n).0), omega (arith, e, ((w t).costs s (k.block c) n).1))
      go (no bad) = let r = (w t).refused s c bad in (omega (arith, r.1), omega (arith, r.0), omega (arith, r.1))

  pub more_allowance : MoreAllowance k
  more_allowance t s c more le = go (ℕ_discrete (k.scan t s c).number 0)
    where
      d : C
      d = k.allow more c

      same : (k.scan t s (k.allow more c)).number ≡ (k.scan t s c).number
      same = (w t).same_number s c more

      go : Dec ((k.scan t s c).number ≡ 0) → Further k t s c (k.allow more c)
      go (yes ok) =
          let v = w t in
          let e : C = k.allow more c in
          let ok-e : (k.scan t s e).number ≡ 0 = same ∙ ok in
          let block : List ℕ = k.block c in
          let room : ℕ = k.space (k.slots c) in
          let i : ℕ = (k.scan t s c).taken in
          let j : ℕ = (k.scan t s e).taken in
          let j-is : (k.scan t s e).taken ≡ fits_by (m t) s more (k.block c) (k.space (k.slots c)) (length (k.block c)) =
          v.takes s e ok-e
          ∙ ap₂ (λ (b : List ℕ) (l : L). fits_by (m t) s (k.allowance e) b (k.space l) (length b)) (v.same_block c more) (v.same_slots c more)
          ∙ ap (λ (n : ℕ). fits_by (m t) s n block room (length block)) (v.new_allowance c more) in
          let fewer : i ≤ j = omega (arith, v.takes s c ok, j-is, fits-further (m t) s block (k.allowance c) more le room (length block)) in
          let rest : i + (j - i) ≡ j = omega arith in
          let fewer-reports : List R = reports_by (m t) s block i in
          let all : reports_by (m t) s block i ++ reports_by (m t) (after (m t) s block i) (drop i block) (j - i) ≡ reports_by (m t) s block j =
          sym (reports-later (m t) s block i (j - i)) ∙ ap (reports_by (m t) s block) rest in
          let used-e : (k.scan t s e).used ≡ cost_by (m t) s block j = v.uses s e ok-e ∙ ap (λ (b : List ℕ). cost_by (m t) s b j) (v.same_block c more) in
          let count-e : (k.scan t s e).count ≡ length (reports_by (m t) s block j) = v.counts s e ok-e ∙ ap (λ (b : List ℕ). length (reports_by (m t) s b j)) (v.same_block c more) in
          let lists-e : (k.scan t s e).lists ≡ write s (reports_by (m t) s block j) (k.slots c) =
          v.writes s e ok-e ∙ ap₂ (λ (b : List ℕ) (l : L). write s (reports_by (m t) s b j) l) (v.same_block c more) (v.same_slots c more) in
          record {
            number = sym same;
            taken = fewer;
            used = omega (arith, v.uses s c ok, used-e, cost-grow (m t) s block i j fewer);
            count = omega (arith, v.counts s c ok, count-e, reports-grow (m t) s block i j fewer);
            lists_same = ap₂ k.front (v.counts s c ok) (v.writes s c ok)
                ∙ v.fronts s fewer-reports (reports_by (m t) (after (m t) s block i) (drop i block) (j - i)) (k.slots c)
                ∙ ap (λ (l : List R). k.front (length fewer-reports) (write s l (k.slots c))) all
                ∙ sym (ap₂ k.front (v.counts s c ok) lists-e);
          }
      go (no bad) =
          let v = w t in
          let e : C = k.allow more c in
          let r = v.refused s c bad in
          let r-e = v.refused s e (λ ok. bad (sym same ∙ ok)) in
          record {
            number = sym same;
            taken = omega (arith, r.0);
            used = omega (arith, r.1);
            count = omega (arith, r.2);
            lists_same = ap (λ (n : ℕ). k.front n (k.scan t s c).lists) r.2 ∙ v.no_front (k.scan t s c).lists (k.scan t s e).lists ∙ sym (ap (λ (n : ℕ). k.front n (k.scan t s e).lists) r.2);
          }
