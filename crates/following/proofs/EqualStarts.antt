-- The same on a stream with starts: a scan that is given a built second table gives what a scan
-- without one gives.
use mathlib.Core.Path.{◌≡◌, refl, sym, ap, ap₂, ◌∙◌}
use mathlib.Core.Bool.{Bool, true, false, cond, not, ◌||◌, or-true}
use mathlib.Core.List.{List}
use Prim.Native.Nat.{ℕ, ◌+◌, ◌≤◌}
use native.Mathlib.Nat.{le_refl}
use native.Mathlib.Omega.{arith}
use lib.Dec.{eqb, leb, ltb}
use lib.ListN.{length, get_or}
use borrow.Author.Tests.{ltb-false}
use Rattle.table.specs.Layout.{lengths_of, shortest_at}
use Rattle.table.specs.Table.{is_table}
use Rattle.table.specs.Automaton.{Automaton, automaton}
use Rattle.stream.specs.Byte.{after, reports_by, cost_by}
use Rattle.stream.proofs.Machines.{fits_le, same_after, same-reports, same-cost, same-fits}
use Rattle.traced.specs.declared.Traced.{Traced}
use Rattle.traced.specs.Byte.{Report, traced}
use Rattle.traced.specs.Calls.{Call, space, written, scan_number, call_number, taken_by, scanned, scanned_lists}
use Rattle.second.specs.Layout.{second_words}
use Rattle.second.specs.Second.{is_second, build_number, second, built}
use Rattle.following.specs.Starts.{Placed, looked_up, following, follow_number, followed_number, follow_takes, followed, followed_lists}
use Rattle.following.proofs.Following.{stood}
use Rattle.following.proofs.Starting.{RightToo, Kept, agree}
use Rattle.following.proofs.Built.{few_rules, second-passes, second-right}

-- a position that keeps no start is always long enough
free : (t : List ℕ) (q start end : ℕ) → (automaton t).keeps q ≡ false → (automaton t).long q start end ≡ true
unfolding automaton
free t q start end e =
    ap (λ (b : Bool). (eqb (lengths_of t) 0 || not b) || leb (start + get_or t (shortest_at q) 0) end) e
    ∙ ap (λ (b : Bool). b || leb (start + get_or t (shortest_at q) 0) end) (or-true (eqb (lengths_of t) 0))

module _ (t c : List ℕ) (few : (automaton t).rules ≤ 64) (right : RightToo (automaton t) c) (passes : is_second t c ≡ true) (z : Traced) (a : Call) where
  abbrev w : Automaton
  w = automaton t

  abbrev u : Placed
  u = looked_up c z

  abbrev block : List ℕ
  block = a.block

  kept : Kept w c few (free t) right u
  kept = stood w c right.right z.stream

  number_same : followed_number t c z a ≡ call_number t z a
  unfolding follow_number scan_number
  number_same = ap (λ (b : Bool). cond (is_table t) (cond b (call_number t z a) 29) 1) passes ∙ go (is_table t) refl
    where
      go : (b : Bool) → is_table t ≡ b → cond b (call_number t z a) 1 ≡ call_number t z a
      go true e = refl
      go false e = sym (rw e)

  takes_same : follow_takes t c z a ≡ taken_by t z a
  unfolding follow_takes taken_by
  takes_same = same-fits (agree w c few (free t) right) u kept block (λ k b. tt) a.allowance (space a.slots) (length block) (le_refl (length block))

  no_more : taken_by t z a ≤ length block
  unfolding taken_by
  no_more = fits_le (traced w) z block a.allowance (space a.slots) (length block)

  reports-same : reports_by (following w c) u block (follow_takes t c z a) ≡ reports_by (traced w) z block (taken_by t z a)
  reports-same = ap (reports_by (following w c) u block) takes_same ∙ same-reports (agree w c few (free t) right) u kept block (λ k b. tt) (taken_by t z a) no_more

  equal-answer : followed t c z a ≡ scanned t z a
  unfolding followed scanned
  equal-answer =
      λ i.
      cond (eqb (number_same i) 0)
      (record {
        number = 0;
        taken = takes_same i;
        reports = length (reports-same i);
        used = (ap (cost_by (following w c) u block) takes_same ∙ same-cost (agree w c few (free t) right) u kept block (λ k b. tt) (taken_by t z a) no_more) i;
        traced = (ap (λ (n : ℕ). (after (following w c) u block n).traced) takes_same ∙ same_after (agree w c few (free t) right) u kept block (λ k b. tt) (taken_by t z a) no_more) i;
      })
      (record { number = number_same i; taken = 0; reports = 0; used = 0; traced = z })

  equal-lists : followed_lists t c z a ≡ scanned_lists t z a
  unfolding followed_lists scanned_lists
  equal-lists = ap₂ (λ (n : ℕ) (r : List Report). cond (eqb n 0) (written z.stream.taken r a.slots) a.slots) number_same reports-same

-- numbers, bytes taken, lists, busy figure and units used, and the state that later calls are given
pub record Equal (t c : List ℕ) (z : Traced) (a : Call) : Type 0 where
  pub answer : followed t c z a ≡ scanned t z a
  pub lists_are : followed_lists t c z a ≡ scanned_lists t z a

pub built-equal : (t c : List ℕ) → build_number t c ≡ 0 → (z : Traced) (a : Call) → Equal t (built t c) z a
unfolding built build_number
built-equal t c e z a = go (is_table t) refl (ltb (length c) second_words) refl e
  where
    go : (p : Bool) → is_table t ≡ p → (q : Bool) → ltb (length c) second_words ≡ q → ◌≡◌ {A = ℕ} (cond p (cond q 29 0) 1) 0
        → Equal t (cond (eqb (cond p (cond q 29 0) 1) 0) (second t c) c) z a
    go true p false q r =
        let long = ltb-false (length c) second_words q in
        record {
          answer = equal-answer t (second t c) (few_rules t c p long) (second-right t c p long) (second-passes t c p long) z a;
          lists_are = equal-lists t (second t c) (few_rules t c p long) (second-right t c p long) (second-passes t c p long) z a;
        }
    go true p true q r = absurd (omega arith)
    go false p q r y = absurd (omega arith)
