-- Two runs of reports, one after the other: those of a byte, and those of a closing. The marks are
-- brought up to date between them, so what holds of each run holds of both in turn. A byte's are
-- delivered in one of three ways, each with its law: no rule ends, the reports do not fit, they are
-- written.
use mathlib.Core.Path.{◌≡◌, refl, sym, ap, ap₂, ◌∙◌}
use mathlib.Core.Bool.{Bool, true, false, cond, not, ◌&&◌}
use mathlib.Core.List.{List, [], ◌++◌}
use Prim.Native.Nat.{ℕ, ◌+◌, ◌-◌, ◌*◌, ◌^◌, ◌<◌, ◌≤◌}
use native.Mathlib.Omega.{arith}
use lib.Bits.{bit_and, bit_or}
use lib.Dec.{ltb}
use lib.ListN.{length, length-append}
use borrow.Author.Tests.{lt-ltb, le-ltb}
use Rattle.sets.specs.Set.{on, count}
use Rattle.table.specs.Automaton.{Automaton, single}
use Rattle.steps.specs.Step.{rules_where}
use Rattle.table.proofs.Members.{on-places}
use Rattle.stream.specs.declared.Stream.{Stream}
use Rattle.stream.specs.Byte.{Report, given, run_reports, run_marks, two_reports, two_marks, held_test, end_test, close_reports}
use Rattle.stream.specs.Calls.{Lists, space, written}
use Rattle.stream.specs.Invariants.{written_at, Wrote, WroteTwo, Delivered, Ended}
use Rattle.stream.proofs.Lists.{written_none, written-front, written-more, long-written, long-space}
use Rattle.stream.proofs.Runs.{run-few, run-ext, marks-ext, run_none, marks-none, marks_small, marks-words, due-count}

-- ---- how many reports there are

module _ {R : Type 0} (w : Automaton) (one two : ℕ → Bool) (marks : ℕ) (first second : ℕ → R) where
  pub two-count : length (two_reports w one two marks first second)
      ≡ length (run_reports one marks first w.rules) + length (run_reports two (run_marks w one marks) second w.rules)
  unfolding two_reports
  two-count = length-append (run_reports one marks first w.rules) (run_reports two (run_marks w one marks) second w.rules)

  -- at most two of a rule
  pub two-few : length (two_reports w one two marks first second) ≤ 2 * w.rules
  two-few = omega (arith, two-count, run-few one marks first w.rules, run-few two (run_marks w one marks) second w.rules)

-- ---- runs look at the rules of the table alone

module _ (w : Automaton) (f f' g g' : ℕ → Bool) (marks : ℕ) (one : (a : ℕ) → a < w.rules → f a ≡ f' a) (two : (a : ℕ) → a < w.rules → g a ≡ g' a) where
  pub two-ext : {R : Type 0} (first second : ℕ → R) → two_reports w f g marks first second ≡ two_reports w f' g' marks first second
  unfolding two_reports
  two-ext {R} first second =
      ap₂ (λ (x y : List R). x ++ y) (run-ext f f' marks first w.rules one)
      (run-ext g g' (run_marks w f marks) second w.rules two ∙ ap (λ (m : ℕ). run_reports g' m second w.rules) (marks-ext w f f' marks one))

  pub two-marks-ext : two_marks w f g marks ≡ two_marks w f' g' marks
  unfolding two_marks
  two-marks-ext = marks-ext w g g' (run_marks w f marks) two ∙ ap (run_marks w g') (marks-ext w f f' marks one)

-- ---- runs in which no rule ends

module _ (w : Automaton) (f g : ℕ → Bool) (marks : ℕ) (one : (a : ℕ) → a < w.rules → f a ≡ false) (two : (a : ℕ) → a < w.rules → g a ≡ false) where
  pub two_none : {R : Type 0} (first second : ℕ → R) → two_reports w f g marks first second ≡ []
  unfolding two_reports
  two_none {R} first second = ap₂ (λ (x y : List R). x ++ y) (run_none f marks first w.rules one) (run_none g (run_marks w f marks) second w.rules two)

  pub two-marks-none : marks < 2 ^ 64 → two_marks w f g marks ≡ marks
  unfolding two_marks
  two-marks-none h = marks-none w g (run_marks w f marks) (marks_small w f marks) two ∙ marks-none w f marks h one

pub two-marks-small : (w : Automaton) (f g : ℕ → Bool) (marks : ℕ) → two_marks w f g marks < 2 ^ 64
unfolding two_marks
two-marks-small w f g marks = marks_small w g (run_marks w f marks)

-- ---- the second run is written behind the first

-- room for both is room for the first
pub first-room : (w : Automaton) (one two : ℕ → Bool) (marks : ℕ) (first second : ℕ → Report)
    (l : Lists)
    → length (two_reports w one two marks first second) ≤ space l
    → 0 + length (run_reports one marks first w.rules) ≤ space l
first-room w one two marks first second l room =
    omega (arith, two-count w one two marks first second)

module _ {w : Automaton} {one : ℕ → Bool} {marks next marks₁ : ℕ} {first : ℕ → Report}
    {l l₁ : Lists}
    (wrote : Wrote w one marks first 0 l next marks₁ l₁) (two : ℕ → Bool) (second : ℕ → Report)
    (room : length (two_reports w one two marks first second) ≤ space l) where
  second_run : run_reports two marks₁ second w.rules
      ≡ run_reports two (run_marks w one marks) second w.rules
  second_run = ap (λ (m : ℕ). run_reports two m second w.rules) wrote.marks_are

  -- and what it leaves is room for the second
  pub second-room : next + length (run_reports two marks₁ second w.rules) ≤ space l₁
  second-room =
      omega (
        arith,
        wrote.next_is,
        ap length second_run,
        two-count w one two marks first second,
        long-space (long-written 0 (run_reports one marks first w.rules) wrote.lists_are
            (first-room w one two marks first second l room)),
      )

  pub wrote-two : {reports marks₂ : ℕ} {l₂ : Lists}
      → Wrote w two marks₁ second next l₁ reports marks₂ l₂
      → WroteTwo w one two marks first second l reports marks₂ l₂
  unfolding two_reports two_marks
  wrote-two more =
      let I : List Report = run_reports one marks first w.rules in
      let J : List Report = run_reports two (run_marks w one marks) second w.rules in
      let n : next ≡ length I = omega (arith, wrote.next_is) in
      record {
        reports_are =
            more.next_is ∙ ap₂ (λ (x y : ℕ). x + y) n (ap length second_run)
            ∙ sym (length-append I J);
        marks_are = more.marks_are ∙ ap (run_marks w two) wrote.marks_are;
        lists_are =
            more.lists_are
            ∙ ap₂ (λ (d : List Report) (x : Lists). written_at next d x) second_run
            (wrote.lists_are ∙ written-front l I)
            ∙ written-more l next I J n;
      }

-- ---- both runs of a byte

module _ (w : Automaton) (marks : ℕ) (first second : ℕ → Report) (l : Lists) where
  -- no rule ends
  pub delivered-quiet : (f g : ℕ → Bool) → ((a : ℕ) → a < w.rules → f a ≡ false)
      → ((a : ℕ) → a < w.rules → g a ≡ false) → marks < 2 ^ 64
      → Delivered w f g marks first second l false 0 marks l
  delivered-quiet f g one two small =
      let new : List Report = two_reports w f g marks first second in
      let e : new ≡ [] = two_none w f g marks one two first second in
      record {
        full_if = sym (le-ltb (space l) (length new) (omega (arith, ap length e)));
        reports_are = sym (ap length e);
        marks_are = sym (two-marks-none w f g marks one two small);
        lists_are = sym (ap (λ (r : List Report). written r l) e ∙ written_none l);
      }

  -- by other tests, which the rules pass alike
  pub delivered-ext : (f f' g g' : ℕ → Bool) → ((a : ℕ) → a < w.rules → f a ≡ f' a)
      → ((a : ℕ) → a < w.rules → g a ≡ g' a) → (full : Bool) (reports marks' : ℕ) (l' : Lists)
      → Delivered w f g marks first second l full reports marks' l'
      → Delivered w f' g' marks first second l full reports marks' l'
  delivered-ext f f' g g' one two full reports marks' l' d =
      let same : two_reports w f g marks first second ≡ two_reports w f' g' marks first second =
      two-ext w f f' g g' marks one two first second in
      record {
        full_if = d.full_if ∙ ap (λ (r : List Report). ltb (space l) (length r)) same;
        reports_are = d.reports_are ∙ ap (λ (r : List Report). length (cond full [] r)) same;
        marks_are = d.marks_are ∙ ap (cond full marks) (two-marks-ext w f f' g g' marks one two);
        lists_are = d.lists_are ∙ ap (λ (r : List Report). written (cond full [] r) l) same;
      }

-- how many of each are due, the marks between the runs: as many as the runs have reports
pub due-two : {R : Type 0} (w : Automaton) (late own marks : ℕ) (first second : ℕ → R)
    → marks < 2 ^ 64 → w.rules ≤ 64
    → late ≡ rules_where w (on late) → own ≡ rules_where w (on own)
    → (singles : ℕ) → singles ≡ rules_where w (single w) → {due₁ due₂ : ℕ}
    → due₁ ≡ count 64 (λ a. on late a && not (on marks a))
    → due₂ ≡ count 64 (λ a. on own a && not (on (bit_or marks (bit_and late singles)) a))
    → due₁ + due₂ ≡ length (two_reports w (on late) (on own) marks first second)
due-two w late own marks first second small few late_is own_is singles singles-are one two =
    let between : bit_or marks (bit_and late singles) ≡ run_marks w (on late) marks =
    ap (λ (x : ℕ). bit_or marks (bit_and late x)) singles-are ∙ marks-words w late marks small in
    ap₂ (λ (x y : ℕ). x + y) (one ∙ due-count w late marks first late_is few)
    (two ∙ due-count w own (bit_or marks (bit_and late singles)) second own_is few
    ∙ ap (λ (m : ℕ). length (run_reports (on own) m second w.rules)) between)
    ∙ sym (two-count w (on late) (on own) marks first second)

module _ {w : Automaton} {one two : ℕ → Bool} {marks : ℕ} {first second : ℕ → Report}
    {l : Lists} where
  -- their reports do not all fit
  pub delivered-full : space l < length (two_reports w one two marks first second)
      → Delivered w one two marks first second l true 0 marks l
  delivered-full h =
      record {
        full_if = sym (lt-ltb (space l) (length (two_reports w one two marks first second)) h);
        reports_are = refl;
        marks_are = refl;
        lists_are = sym (written_none l);
      }

  -- they do, and are written
  pub delivered-runs : {reports marks' : ℕ} {l' : Lists}
      → length (two_reports w one two marks first second) ≤ space l
      → WroteTwo w one two marks first second l reports marks' l'
      → Delivered w one two marks first second l false reports marks' l'
  delivered-runs h wrote =
      record {
        full_if = sym (le-ltb (space l) (length (two_reports w one two marks first second)) h);
        reports_are = wrote.reports_are;
        marks_are = wrote.marks_are;
        lists_are = wrote.lists_are;
      }

-- ---- both runs of a closing

pub ended : {w : Automaton} {s : Stream} {l l' : Lists} {d kept found reports marks' : ℕ}
    → w.rules ≤ 64 → d ≡ s.taken - 1 → kept ≡ rules_where w (held_test w s) → found ≡ rules_where w (end_test w s)
    → WroteTwo w (on kept) (on found) s.reported (given w d) (given w s.taken) l
    reports marks' l'
    → Ended w s l reports l'
unfolding close_reports
ended {w} {s} {l} {d = d} {kept = kept} {found = found} few before held is wrote =
    let same : two_reports w (on kept) (on found) s.reported (given w d) (given w s.taken) ≡ close_reports w s =
    ap (λ (n : ℕ). two_reports w (on kept) (on found) s.reported (given w n) (given w s.taken)) before
    ∙ two-ext w (on kept) (held_test w s) (on found) (end_test w s) s.reported (λ a h. ap (λ (x : ℕ). on x a) held ∙ on-places (held_test w s) w.rules a h few)
    (λ a h. ap (λ (x : ℕ). on x a) is ∙ on-places (end_test w s) w.rules a h few) (given w (s.taken - 1)) (given w s.taken) in
    record { reports_are = wrote.reports_are ∙ ap length same; lists_are = wrote.lists_are ∙ ap (λ (r : List Report). written r l) same }
