-- The reports of one byte. The words of the rules that end say what the tests say, and the start
-- for each place is that of the definition wherever a rule reports.
use mathlib.Core.Path.{◌≡◌, refl, sym, ap, ap₂, subst, ◌∙◌}
use mathlib.Core.Bool.{Bool, true, false, cond, not, ◌&&◌, and-eq-true_iff}
use mathlib.Core.List.{List, [], ◌∷◌, ◌++◌}
use Prim.Native.Nat.{ℕ, zero, suc, ◌+◌, ◌^◌, ◌<◌, ◌≤◌}
use native.Mathlib.Nat.{add-zero, lt_of_le_of_lt}
use native.Mathlib.Omega.{arith}
use lib.Bits.{bit_and, bit_or}
use lib.ListN.{length}
use Rattle.sets.specs.Set.{on, has, count}
use Rattle.sets.proofs.Bits.{on_and, on-zero}
use Rattle.sets.proofs.Smallest.{smallest-under}
use Rattle.table.specs.Layout.{max_rules, max_positions}
use Rattle.table.specs.Automaton.{Automaton, single, last}
use Rattle.table.proofs.Members.{on-places}
use Rattle.steps.specs.Step.{rules_where, start_at}
use Rattle.stream.specs.declared.Stream.{Stream}
use Rattle.stream.specs.Byte.{given as stream-given}
use Rattle.stream.specs.Byte.{due, run_reports, run_marks, two_reports, two_marks}
use Rattle.stream.proofs.TwoRuns.{two-ext, two-marks-ext, due-two}
use Rattle.stream.proofs.Runs.{alone, run_none, marks-none}
use Rattle.traced.specs.declared.Starts.{Starts}
use Rattle.traced.specs.declared.Traced.{Traced}
use Rattle.traced.specs.Byte.{Start, Report, from, none, given, late_long, own_long, stream_next, late_start, own_start, next_starts, byte_reports}
use Rattle.traced.specs.Calls.{Lists, space, written}
use Rattle.traced.specs.Invariants.{at, zeros, written_at, Small, RuleStarts, Wrote, Carried, Gone}
use Rattle.traced.proofs.Lists.{written-at-none}
use Rattle.traced.proofs.Runs.{first-room, second-room, wrote-two}

-- ---- what a run gives counts only where a rule is due

run-give : {R : Type 0} (test : ℕ → Bool) (marks : ℕ) (give give' : ℕ → R) (n : ℕ) → ((a : ℕ) → a < n → test a ≡ true → give a ≡ give' a)
    → run_reports test marks give n ≡ run_reports test marks give' n
unfolding run_reports
run-give test marks give give' zero e = refl
run-give {R} test marks give give' (suc n) e =
    ap₂ (λ (x y : List R). x ++ y) (run-give test marks give give' n (λ a h. e a (omega arith))) (go (due test marks n) refl)
  where
    go : (b : Bool) → due test marks n ≡ b → cond b (give n ∷ []) [] ≡ cond b (give' n ∷ []) []
    go true d = ap (λ (r : R). r ∷ []) (e n (omega arith) ((and-eq-true_iff (test n) (not (on marks n))).0 d).0)
    go false d = refl

pub two-give : {R : Type 0} (w : Automaton) (one two : ℕ → Bool) (marks : ℕ) (first first' second second' : ℕ → R)
    → ((a : ℕ) → a < w.rules → one a ≡ true → first a ≡ first' a) → ((a : ℕ) → a < w.rules → two a ≡ true → second a ≡ second' a)
    → two_reports w one two marks first second ≡ two_reports w one two marks first' second'
unfolding two_reports
two-give {R} w one two marks first first' second second' e f =
    ap₂ (λ (x y : List R). x ++ y) (run-give one marks first first' w.rules e) (run-give two (run_marks w one marks) second second' w.rules f)

-- ---- starts by place

-- a start is no larger than the offset that it was looked for from
pub start_under : (w : Automaton) (gap : ℕ) (set starts : List ℕ) (d a : ℕ) → start_at w gap set starts d a ≤ d
unfolding start_at
start_under w gap set starts d a = smallest-under (λ p. has set p && last w gap a p) (λ p. at starts p) d max_positions

pub starts-small : {rules : ℕ} {give : ℕ → ℕ} {froms : List ℕ} (d : ℕ) → RuleStarts rules give froms → ((a : ℕ) → give a ≤ d) → d < 2 ^ 63 → Small froms
starts-small {rules} {give} {froms} d h under small a lt = subst (λ (n : ℕ). n < 2 ^ 63) (sym (h.each a lt)) (go (on rules a))
  where
    go : (b : Bool) → cond b (give a) 0 < 2 ^ 63
    go true = lt_of_le_of_lt (under a) small
    go false = omega arith

module _ (w : Automaton) (few : w.rules ≤ 64) (leftmost : ℕ) (flags : leftmost ≡ rules_where w w.leftmost) where
  pub give-same : (word : ℕ) (give : ℕ → ℕ) (froms : List ℕ) → RuleStarts (bit_and word leftmost) give froms → (end a : ℕ) → a < w.rules → on word a ≡ true
      → given w end (at froms) a ≡ given w end give a
  give-same word give froms h end a lt e =
      ap (λ (s : Start). record { pair = stream-given w end a; start = s }) (go (w.leftmost a) refl)
    where
      go : (b : Bool) → w.leftmost a ≡ b → cond b (from (at froms a)) none ≡ cond b (from (give a)) none
      go true f =
          ap from (h.each a (omega arith)
          ∙ ap (λ (d : Bool). cond d (give a) 0)
          (on_and word leftmost a ∙ ap₂ (λ (x y : Bool). x && y) e (ap (λ (x : ℕ). on x a) flags ∙ on-places w.leftmost w.rules a lt few ∙ f)))
      go false f = refl

-- ---- both runs of a byte

-- the words of the rules that end
module _ (w : Automaton) (few : w.rules ≤ 64) (z : Traced) (x late own : ℕ)
    (late_is : late ≡ rules_where w (late_long w z.stream z.starts.live x)) (own_is : own ≡ rules_where w (own_long w z.stream z.starts.live x)) where
  abbrev s : Stream
  s = z.stream

  -- the tests of the two runs
  abbrev one : ℕ → Bool
  one = late_long w s z.starts.live x

  abbrev two : ℕ → Bool
  two = own_long w s z.starts.live x

  late-at : (a : ℕ) → a < w.rules → on late a ≡ one a
  late-at a h = ap (λ (n : ℕ). on n a) late_is ∙ on-places one w.rules a h few

  own_at : (a : ℕ) → a < w.rules → on own a ≡ two a
  own_at a h = ap (λ (n : ℕ). on n a) own_is ∙ on-places two w.rules a h few

  pub late-alone : late ≡ rules_where w (on late)
  late-alone = alone w one late_is

  pub own_alone : own ≡ rules_where w (on own)
  own_alone = alone w two own_is

  -- the reports by the words
  pub reports-by : two_reports w (on late) (on own) s.reported (given w s.taken (late_start w z x)) (given w (suc s.taken) (own_start w z x)) ≡ byte_reports w z x
  unfolding byte_reports
  reports-by =
      two-ext w (on late) one (on own) two s.reported late-at own_at
      (given w s.taken (late_start w z x)) (given w (suc s.taken) (own_start w z x))

  pub marks-by : two_marks w (on late) (on own) s.reported ≡ (stream_next w s z.starts.live x).reported
  unfolding stream_next
  marks-by = two-marks-ext w (on late) one (on own) two s.reported late-at own_at

  -- as many are due as there are reports
  pub due-is : s.reported < 2 ^ 64 → (singles : ℕ) → singles ≡ rules_where w (single w) → {due₁ due₂ : ℕ}
      → due₁ ≡ count 64 (λ a. on late a && not (on s.reported a))
      → due₂ ≡ count 64 (λ a. on own a && not (on (bit_or s.reported (bit_and late singles)) a))
      → due₁ + due₂ ≡ length (byte_reports w z x)
  due-is small singles is one two =
      due-two w late own s.reported (given w s.taken (late_start w z x)) (given w (suc s.taken) (own_start w z x)) small few late-alone own_alone singles is one two
      ∙ ap length reports-by

  -- both runs are written, and the starts carried along
  module _ {first : ℕ} {l l₁ : Lists} {next marks₁ : ℕ} (fit : length (byte_reports w z x) ≤ space l)
      (wrote : Wrote w (on late) s.reported (given w s.taken (late_start w z x)) first 0 l next marks₁ l₁) where
    room : length (two_reports w (on late) (on own) s.reported (given w s.taken (late_start w z x)) (given w (suc s.taken) (own_start w z x))) ≤ space l
    room = subst (λ (n : ℕ). n ≤ space l) (sym (ap length reports-by)) fit

    -- the first leaves room for the second
    pub own_room : next + length (run_reports (on own) marks₁ (given w (suc s.taken) (own_start w z x)) w.rules) ≤ space l₁
    own_room = second-room wrote (on own) (given w (suc s.taken) (own_start w z x)) room

    pub gone : {reports marks : ℕ} {l' : Lists} {some waits : Bool} {k : Starts}
        → Wrote w (on own) marks₁ (given w (suc s.taken) (own_start w z x)) first next l₁ reports marks l'
        → Carried w z x some waits k → Gone w z x first l reports marks some waits k l'
    gone then h =
        let both = wrote-two wrote (on own) (given w (suc s.taken) (own_start w z x)) room then in
        record {
          reports_are = both.reports_are ∙ ap length reports-by;
          marks_are = both.marks_are ∙ marks-by;
          starts_are = h.starts_are;
          lists_are = both.lists_are ∙ ap (λ (r : List Report). written first r l) reports-by;
          live_none = h.live_none;
          wait_none = h.wait_none;
        }

  -- there is room for the first
  pub late-room : (l : Lists) → length (byte_reports w z x) ≤ space l
      → 0 + length (run_reports (on late) s.reported (given w s.taken (late_start w z x)) w.rules) ≤ space l
  late-room l fit =
      first-room w (on late) (on own) s.reported (given w s.taken (late_start w z x)) (given w (suc s.taken) (own_start w z x)) l
      (subst (λ (n : ℕ). n ≤ space l) (sym (ap length reports-by)) fit)

-- no rule is in the word of a run: nothing is written
pub wrote_none : {w : Automaton} {word marks : ℕ} {give : ℕ → Report} {first n : ℕ} {l : Lists} → word ≡ 0 → marks < 2 ^ 64 → Wrote w (on word) marks give first n l n marks l
wrote_none {w} {word} {marks} {give} {first} {n} {l} e small =
    let off : (a : ℕ) → a < w.rules → on word a ≡ false = λ a h. ap (λ (m : ℕ). on m a) e ∙ on-zero a in
    let none : run_reports (on word) marks give w.rules ≡ [] = run_none (on word) marks give w.rules off in
    record {
      next_is = sym (add-zero n) ∙ ap (λ (r : List Report). n + length r) (sym none);
      marks_are = sym (marks-none w (on word) marks small off);
      lists_are = sym (ap (λ (r : List Report). written_at first n r l) none ∙ written-at-none first l n);
    }

-- a run is written with the starts that were worked out for it
module _ (w : Automaton) (few : w.rules ≤ 64) (leftmost : ℕ) (flags : leftmost ≡ rules_where w w.leftmost) (word marks end : ℕ) (give : ℕ → ℕ) (froms : List ℕ)
    (h : RuleStarts (bit_and word leftmost) give froms) where
  run_by : run_reports (on word) marks (given w end (at froms)) w.rules ≡ run_reports (on word) marks (given w end give) w.rules
  run_by = run-give (on word) marks (given w end (at froms)) (given w end give) w.rules (give-same w few leftmost flags word give froms h end)

  pub run_room : (n m : ℕ) → n + length (run_reports (on word) marks (given w end give) w.rules) ≤ m → n + length (run_reports (on word) marks (given w end (at froms)) w.rules) ≤ m
  run_room n m = subst (λ (r : List Report). n + length r ≤ m) (sym run_by)

  pub wrote_by : {first n next marks' : ℕ} {l l' : Lists} → Wrote w (on word) marks (given w end (at froms)) first n l next marks' l'
      → Wrote w (on word) marks (given w end give) first n l next marks' l'
  wrote_by {first} {n} {l = l} wrote = record {
    next_is = wrote.next_is ∙ ap (λ (r : List Report). n + length r) run_by;
    marks_are = wrote.marks_are;
    lists_are = wrote.lists_are ∙ ap (λ (r : List Report). written_at first n r l) run_by;
  }

-- all starts at once
pub carried : {w : Automaton} {z : Traced} {x : ℕ} {some waits : Bool} {k : Starts} → k ≡ next_starts w z x
    → (some ≡ false → k.live ≡ zeros max_positions)
    → (waits ≡ false → (k.held ≡ zeros max_positions) × (k.pairs ≡ zeros max_rules)) → Carried w z x some waits k
carried e f g = record { starts_are = e; live_none = f; wait_none = g }
