-- Runs of reports with starts. They are written as those of a stream are, from the lowest digit on:
-- what is left to report loses its first report, and the word that digit.
use mathlib.Core.Path.{◌≡◌, sym, ap, ap₂, subst, ◌∙◌}
use mathlib.Core.Bool.{Bool, true, false, true≢false, not, ◌&&◌, and-true}
use mathlib.Core.List.{List, [], ◌∷◌, ◌++◌, append-nil, append_assoc}
use Prim.Native.Nat.{ℕ, suc, ◌+◌, ◌-◌, ◌^◌, ◌<◌, ◌≤◌}
use native.Mathlib.Nat.{add-zero, lt_of_le_of_lt}
use native.Mathlib.Decide.{dec_lt}
use native.Mathlib.Omega.{arith}
use lib.Bits.{bit_and, and_le_l}
use lib.ListN.{length, set, length-append}
use Rattle.std.specs.Prelude.{Some}
use Rattle.sets.specs.Set.{on}
use Rattle.sets.specs.Walk.{GivesLowest}
use Rattle.sets.proofs.Bits.{on-zero}
use Rattle.table.specs.Automaton.{Automaton}
use Rattle.table.proofs.Members.{on-places-past, on-without}
use Rattle.steps.specs.Step.{rules_where}
use Rattle.stream.specs.Byte.{due, run_reports, run_marks, two_reports, two_marks}
use Rattle.stream.proofs.Runs.{run_none, run-same, reports_in, lowest, without, lowest-on, lowest-first, without-same, without-less}
use Rattle.stream.proofs.TwoRuns.{two-count}
use Rattle.traced.specs.Byte.{Report}
use Rattle.traced.specs.Calls.{Lists, lists, space, in_stream, from_offset}
use Rattle.traced.specs.Invariants.{written_at, AsLong, Wrote, WroteTwo}
use Rattle.traced.proofs.Lists.{written-at-none, written-store, written-front, written-more, long-written, long-space}

-- what holds of the lists, which were l₀, while the rules of the word `left` are still to report
pub record Writing (w : Automaton) (ending marks : ℕ) (give : ℕ → Report) (first from : ℕ)
    (l₀ l : Lists) (left n : ℕ) : Type 0 where
  pub small : left < 2 ^ 64
  pub ruled : (a : ℕ) → w.rules ≤ a → a < 64 → on left a ≡ false
  pub done : List Report
  pub all : done ++ reports_in left give w.rules ≡ run_reports (on ending) marks give w.rules
  pub next_is : n ≡ from + length done
  pub lists_are : l ≡ written_at first from done l₀

-- what a turn needs: the rule is one of the table's, and there is a place for its report
pub record Turn (w : Automaton) (l₀ : Lists) (a n : ℕ) : Type 0 where
  pub ruled : a < w.rules
  pub room : n < space l₀

pub writing_start : (w : Automaton) (ending marks : ℕ) (give : ℕ → Report) (first from : ℕ) (l₀ : Lists)
    → ending < 2 ^ 64 → marks < 2 ^ 64 → ending ≡ rules_where w (on ending) → w.rules ≤ 64
    → {left : ℕ} → left ≡ bit_and ending (2 ^ 64 - 1 - marks) → Writing w ending marks give first from l₀ l₀ left from
writing_start w ending marks give first from l₀ h l is few e =
    subst (λ (x : ℕ). Writing w ending marks give first from l₀ l₀ x from) (sym e)
    (record {
      small = lt_of_le_of_lt (and_le_l ending (2 ^ 64 - 1 - marks)) h;
      ruled = λ a m k.
          on-without ending marks a l k
          ∙ ap (λ (b : Bool). b && not (on marks a))
          (ap (λ (x : ℕ). on x a) is ∙ on-places-past (on ending) w.rules a m k);
      done = [];
      all =
          run-same (on (bit_and ending (2 ^ 64 - 1 - marks))) (on ending) 0 marks give w.rules
          (λ a m. ap₂ (λ (x y : Bool). x && not y)
          (on-without ending marks a l (omega arith)) (on-zero a)
          ∙ and-true (due (on ending) marks a));
      next_is = sym (add-zero from);
      lists_are = sym (written-at-none first l₀ from);
    })

module _ {w : Automaton} {ending marks : ℕ} {give : ℕ → Report} {first from : ℕ} {l₀ l : Lists}
    {left n : ℕ} (h : Writing w ending marks give first from l₀ l left n)
    (room : from + length (run_reports (on ending) marks give w.rules) ≤ space l₀) where
  parts : length h.done + length (reports_in left give w.rules)
      ≡ length (run_reports (on ending) marks give w.rules)
  parts = sym (length-append h.done (reports_in left give w.rules)) ∙ ap length h.all

  enough : from + length h.done ≤ space l₀
  enough = behind from (length h.done) (length (reports_in left give w.rules)) (length (run_reports (on ending) marks give w.rules)) (space l₀) parts room
    where
      behind : (f a b c s : ℕ) → a + b ≡ c → f + c ≤ s → f + a ≤ s
      behind f a b c s e h = omega arith

  pub writing-long : AsLong l l₀
  writing-long = long-written first from h.done h.lists_are enough

  -- the next digit of the walk
  module _ {a v : ℕ} (g : GivesLowest left (Some a) v) where
    some : ¬ (left ≡ 0)
    some e = omega (arith, g.0, e)

    low : on left (lowest left) ≡ true
    low = (lowest-on left h.small some).1

    ruled : lowest left < w.rules
    ruled = go (dec_lt (lowest left) w.rules)
      where
        go : Dec (lowest left < w.rules) → lowest left < w.rules
        go (yes m) = m
        go (no m) = absurd (true≢false (sym low ∙ h.ruled (lowest left) (omega arith) (omega (arith, g.2, g.3))))

    head : reports_in left give w.rules
        ≡ give (lowest left) ∷ reports_in (without left) give w.rules
    head = lowest-first left h.small some give w.rules ruled

    pub writing-turn : Turn w l₀ a n
    writing-turn =
        record {
          ruled = omega (arith, ruled, g.3);
          room =
              inside n from (length h.done) (length (reports_in left give w.rules)) (length (reports_in (without left) give w.rules))
              (length (run_reports (on ending) marks give w.rules)) (space l₀) parts (ap length head) h.next_is room;
        }
      where
        inside : (n f a b d c s : ℕ) → a + b ≡ c → b ≡ suc d → n ≡ f + a → f + c ≤ s → n < s
        inside n f a b d c s e q m h = omega arith

    -- its report is stored, and its digit cleared
    pub writing-again : {l' : Lists}
        → l' ≡ lists (set l.ids n (give a).pair.id) (set l.offsets n (give a).pair.end)
        (set l.starts n (in_stream (give a).start)) (set l.relatives n (from_offset first (give a).start))
        → Writing w ending marks give first from l₀ l' v (n + 1)
    writing-again {l'} e =
        let r : Report = give (lowest left) in
        subst (λ (x : ℕ). Writing w ending marks give first from l₀ l' x (n + 1)) (sym g.4)
        (record {
          small = omega (arith, without-less left h.small some, h.small);
          ruled = λ a m k.
              sym (without-same left h.small some a (omega (arith, ruled))) ∙ h.ruled a m k;
          done = h.done ++ r ∷ [];
          all =
              append_assoc h.done (r ∷ []) (reports_in (without left) give w.rules)
              ∙ ap (λ (x : List Report). h.done ++ x) (sym head) ∙ h.all;
          next_is = omega (arith, h.next_is, length-append h.done (r ∷ []));
          lists_are =
              e
              ∙ ap (λ (k : ℕ). lists (set l.ids n (give k).pair.id) (set l.offsets n (give k).pair.end) (set l.starts n (in_stream (give k).start)) (set l.relatives n (from_offset first (give k).start))) g.3
              ∙ ap (λ (x : Lists). lists (set x.ids n r.pair.id) (set x.offsets n r.pair.end) (set x.starts n (in_stream r.start)) (set x.relatives n (from_offset first r.start)))
              h.lists_are
              ∙ written-store first l₀ from n h.done r h.next_is writing-turn.room;
        })

  -- once nothing is left
  pub writing-done : left ≡ 0 → {marks' : ℕ} → marks' ≡ run_marks w (on ending) marks
      → Wrote w (on ending) marks give first from l₀ n marks' l
  writing-done e m =
      let none : reports_in left give w.rules ≡ [] =
      run_none (on left) 0 give w.rules (λ a k. ap (λ (x : ℕ). on x a) e ∙ on-zero a) in
      let whole : h.done ≡ run_reports (on ending) marks give w.rules =
      sym (append-nil h.done) ∙ ap (λ (x : List Report). h.done ++ x) (sym none) ∙ h.all in
      record {
        next_is = h.next_is ∙ ap (λ (x : List Report). from + length x) whole;
        marks_are = m;
        lists_are = h.lists_are ∙ ap (λ (x : List Report). written_at first from x l₀) whole;
      }

-- ---- the second run is written behind the first

pub first-room : (w : Automaton) (one two : ℕ → Bool) (marks : ℕ) (give more : ℕ → Report) (l : Lists)
    → length (two_reports w one two marks give more) ≤ space l
    → 0 + length (run_reports one marks give w.rules) ≤ space l
first-room w one two marks give more l room =
    less (length (run_reports one marks give w.rules)) (length (run_reports two (run_marks w one marks) more w.rules))
    (length (two_reports w one two marks give more)) (space l) (two-count w one two marks give more) room
  where
    less : (a b c s : ℕ) → c ≡ a + b → c ≤ s → 0 + a ≤ s
    less a b c s e h = omega arith

module _ {w : Automaton} {one : ℕ → Bool} {marks next marks₁ : ℕ} {give : ℕ → Report} {first : ℕ} {l l₁ : Lists}
    (wrote : Wrote w one marks give first 0 l next marks₁ l₁) (two : ℕ → Bool) (more : ℕ → Report)
    (room : length (two_reports w one two marks give more) ≤ space l) where
  second_run : run_reports two marks₁ more w.rules
      ≡ run_reports two (run_marks w one marks) more w.rules
  second_run = ap (λ (m : ℕ). run_reports two m more w.rules) wrote.marks_are

  -- and what it leaves is room for the second
  pub second-room : next + length (run_reports two marks₁ more w.rules) ≤ space l₁
  second-room =
      fit next (length (run_reports one marks give w.rules)) (length (run_reports two marks₁ more w.rules)) (length (run_reports two (run_marks w one marks) more w.rules))
      (length (two_reports w one two marks give more)) (space l) (space l₁) wrote.next_is (ap length second_run) (two-count w one two marks give more)
      (long-space (long-written first 0 (run_reports one marks give w.rules) wrote.lists_are (first-room w one two marks give more l room))) room
    where
      fit : (n a b d c s s' : ℕ) → n ≡ 0 + a → b ≡ d → c ≡ a + d → s' ≡ s → c ≤ s → n + b ≤ s'
      fit n a b d c s s' e f g q h = omega arith

  pub wrote-two : {reports marks₂ : ℕ} {l₂ : Lists}
      → Wrote w two marks₁ more first next l₁ reports marks₂ l₂
      → WroteTwo w one two marks give more first l reports marks₂ l₂
  unfolding two_reports two_marks
  wrote-two then =
      let I : List Report = run_reports one marks give w.rules in
      let J : List Report = run_reports two (run_marks w one marks) more w.rules in
      let n : next ≡ length I = omega (arith, wrote.next_is) in
      record {
        reports_are =
            then.next_is ∙ ap₂ (λ (x y : ℕ). x + y) n (ap length second_run)
            ∙ sym (length-append I J);
        marks_are = then.marks_are ∙ ap (run_marks w two) wrote.marks_are;
        lists_are =
            then.lists_are
            ∙ ap₂ (λ (d : List Report) (x : Lists). written_at first next d x) second_run
            (wrote.lists_are ∙ written-front first l I)
            ∙ written-more first l next I J n;
      }
