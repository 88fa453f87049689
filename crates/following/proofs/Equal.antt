-- A scan that is given a built second table gives what a scan without one gives.
use mathlib.Core.Path.{◌≡◌, refl, sym, ap, ap₂, ◌∙◌}
use mathlib.Core.Bool.{Bool, true, false, cond}
use mathlib.Core.List.{List}
use Prim.Native.Nat.{ℕ, ◌≤◌}
use native.Mathlib.Nat.{le_refl}
use native.Mathlib.Omega.{arith}
use lib.Dec.{eqb, ltb}
use lib.ListN.{length}
use borrow.Author.Tests.{ltb-false}
use Rattle.table.specs.Table.{is_table}
use Rattle.table.specs.Automaton.{Automaton, automaton}
use Rattle.stream.specs.declared.Stream.{Stream}
use Rattle.stream.specs.Byte.{Report, after, reports_by, cost_by, plain, reports_of}
use Rattle.stream.specs.Calls.{Call, space, written, scan_number, call_number, taken_by, scanned, scanned_lists}
use Rattle.stream.proofs.Machines.{fits_le, same_after, same-reports, same-cost, same-fits}
use Rattle.second.specs.Layout.{second_words}
use Rattle.second.specs.Second.{is_second, build_number, second, built}
use Rattle.following.specs.Follow.{Placed, looked_up, following}
use Rattle.following.specs.Calls.{follow_number, followed_number, follow_takes, followed, followed_lists}
use Rattle.following.proofs.Following.{Right, Kept, stood, agree}
use Rattle.following.proofs.Built.{second-passes, second-right}

module _ (t c : List ℕ) (right : Right (automaton t) c) (passes : is_second t c ≡ true) (s : Stream) (a : Call) where
  abbrev w : Automaton
  w = automaton t

  abbrev z : Placed
  z = looked_up c s

  abbrev block : List ℕ
  block = a.block

  kept : Kept w c right z
  kept = stood w c right s

  number_same : followed_number t c s a ≡ call_number t s a
  unfolding follow_number scan_number
  number_same = ap (λ (b : Bool). cond (is_table t) (cond b (call_number t s a) 29) 1) passes ∙ go (is_table t) refl
    where
      go : (b : Bool) → is_table t ≡ b → cond b (call_number t s a) 1 ≡ call_number t s a
      go true e = refl
      go false e = sym (rw e)

  takes_same : follow_takes t c s a ≡ taken_by t s a
  unfolding follow_takes taken_by
  takes_same = same-fits (agree w c right) z kept block (λ k b. tt) a.allowance (space a.slots) (length block) (le_refl (length block))

  few : taken_by t s a ≤ length block
  unfolding taken_by
  few = fits_le (plain w) s block a.allowance (space a.slots) (length block)

  reports-same : reports_by (following w c) z block (follow_takes t c s a) ≡ reports_of w s block (taken_by t s a)
  reports-same = ap (reports_by (following w c) z block) takes_same ∙ same-reports (agree w c right) z kept block (λ k b. tt) (taken_by t s a) few

  pub equal-answer : followed t c s a ≡ scanned t s a
  unfolding followed scanned
  equal-answer =
      λ i.
      cond (eqb (number_same i) 0)
      (record {
        number = 0;
        taken = takes_same i;
        reports = length (reports-same i);
        used = (ap (cost_by (following w c) z block) takes_same ∙ same-cost (agree w c right) z kept block (λ k b. tt) (taken_by t s a) few) i;
        stream = (ap (λ (n : ℕ). (after (following w c) z block n).stream) takes_same ∙ same_after (agree w c right) z kept block (λ k b. tt) (taken_by t s a) few) i;
      })
      (record { number = number_same i; taken = 0; reports = 0; used = 0; stream = s })

  pub equal-lists : followed_lists t c s a ≡ scanned_lists t s a
  unfolding followed_lists scanned_lists
  equal-lists = ap₂ (λ (n : ℕ) (r : List Report). cond (eqb n 0) (written r a.slots) a.slots) number_same reports-same

-- "For a second table built from the rule table in hand, numbers, bytes taken, lists, busy figure
-- and units used must be equal on every input, in this and every later call": the answer, in it the
-- state that later calls are given, and the lists.
pub record Equal (t c : List ℕ) (s : Stream) (a : Call) : Type 0 where
  pub answer : followed t c s a ≡ scanned t s a
  pub lists_are : followed_lists t c s a ≡ scanned_lists t s a

pub built-equal : (t c : List ℕ) → build_number t c ≡ 0 → (s : Stream) (a : Call) → Equal t (built t c) s a
unfolding built build_number
built-equal t c e s a = go (is_table t) refl (ltb (length c) second_words) refl e
  where
    go : (p : Bool) → is_table t ≡ p → (q : Bool) → ltb (length c) second_words ≡ q → ◌≡◌ {A = ℕ} (cond p (cond q 29 0) 1) 0
        → Equal t (cond (eqb (cond p (cond q 29 0) 1) 0) (second t c) c) s a
    go true p false q z =
        let long = ltb-false (length c) second_words q in
        record {
          answer = equal-answer t (second t c) (second-right t c p long).right (second-passes t c p long) s a;
          lists_are = equal-lists t (second t c) (second-right t c p long).right (second-passes t c p long) s a;
        }
    go true p true q z = absurd (omega arith)
    go false p q r z = absurd (omega arith)
