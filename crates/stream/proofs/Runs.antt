-- A run of reports. How many there are is the number of set digits of the rules that end without
-- those marked. A run's reports and marks look at the rules of the table alone. They are written
-- from the lowest digit on: what is left to report loses its first report, and the word that digit.
use mathlib.Core.Path.{◌≡◌, refl, sym, ap, ap₂, subst, ◌∙◌}
use mathlib.Core.Bool.{Bool, true, false, true≢false, cond, not, ◌||◌, ◌&&◌, or-false, and-false, and-true, and_comm, and_assoc}
use mathlib.Core.List.{List, [], ◌∷◌, ◌++◌, append-nil, append_assoc}
use Prim.Native.Nat.{ℕ, zero, suc, ◌+◌, ◌-◌, ◌*◌, ◌/◌, ◌^◌, ◌<◌, ◌≤◌}
use native.Mathlib.Decide.{le_ind, dec_lt}
use native.Mathlib.Omega.{arith}
use lib.Bits.{bit_and, bit_or, or_lt, and_le_l, and_le_r}
use native.Mathlib.Nat.{add-zero, lt_of_le_of_lt, le_of_lt}
use lib.Count.{ones, count_trailing_zeros}
use lib.Dec.{ltb}
use lib.ListN.{length, set, length-append}
use mir.Syntax.{w64}
use mir.Val.{Fits}
use Rattle.std.specs.Prelude.{Some}
use Rattle.sets.specs.Set.{on, as_one, count}
use Rattle.sets.specs.Walk.{GivesLowest}
use Rattle.sets.proofs.Bits.{on_or, on_and, on-zero, on-word_of, word_of-ext, word_of-lt, ones-count, count-ext, count-le, zeros-on, zeros-off, clear-low, cleared-on, cleared-off}
use Rattle.table.specs.Automaton.{Automaton, single}
use Rattle.table.proofs.Rows.{under}
use Rattle.steps.specs.Step.{rules_where}
use Rattle.table.proofs.Members.{word-is, on-places-past, on-without, count-below}
use Rattle.stream.specs.Byte.{Report, due, run_reports, run_marks}
use Rattle.stream.specs.Calls.{Lists, lists, space}
use Rattle.stream.specs.Invariants.{written_at, AsLong, Wrote}
use Rattle.stream.proofs.Bounds as bounds
use Rattle.stream.proofs.Lists.{written-at-none, written-store, long-written}

-- ---- the reports

module _ {R : Type 0} (test : ℕ → Bool) (marks : ℕ) (give : ℕ → R) where
  -- as many as there are rules due
  pub run-count : (n : ℕ) → length (run_reports test marks give n) ≡ count n (due test marks)
  unfolding run_reports count
  run-count zero = refl
  run-count (suc n) =
      length-append (run_reports test marks give n) (cond (due test marks n) (give n ∷ []) [])
      ∙ ap₂ (λ (x y : ℕ). x + y) (run-count n) (one (due test marks n))
    where
      one : (b : Bool) → length (cond b (give n ∷ []) []) ≡ as_one b
      one true = refl
      one false = refl

  pub run-few : (n : ℕ) → length (run_reports test marks give n) ≤ n
  run-few n = omega (arith, run-count n, count-le n (due test marks))

  -- a run in which no rule ends
  pub run_none : (n : ℕ) → ((a : ℕ) → a < n → test a ≡ false) → run_reports test marks give n ≡ []
  unfolding run_reports
  run_none zero e = refl
  run_none (suc n) e =
      ap₂ (λ (l : List R) (b : Bool). l ++ cond (b && not (on marks n)) (give n ∷ []) []) (run_none n (λ a h. e a (omega arith))) (e n (omega arith))

-- ---- a run looks at the rules of the table alone

pub run-same : {R : Type 0} (f g : ℕ → Bool) (m m' : ℕ) (give : ℕ → R) (n : ℕ)
    → ((a : ℕ) → a < n → due f m a ≡ due g m' a) → run_reports f m give n ≡ run_reports g m' give n
unfolding run_reports
run-same f g m m' give zero e = refl
run-same {R} f g m m' give (suc n) e =
    ap₂ (λ (l : List R) (b : Bool). l ++ cond b (give n ∷ []) [])
    (run-same f g m m' give n (λ a h. e a (omega arith))) (e n (omega arith))

pub run-ext : {R : Type 0} (f g : ℕ → Bool) (marks : ℕ) (give : ℕ → R) (n : ℕ)
    → ((a : ℕ) → a < n → f a ≡ g a) → run_reports f marks give n ≡ run_reports g marks give n
run-ext f g marks give n e =
    run-same f g marks marks give n (λ a h. ap (λ (b : Bool). b && not (on marks a)) (e a h))

pub marks-ext : (w : Automaton) (f g : ℕ → Bool) (marks : ℕ) → ((a : ℕ) → a < w.rules → f a ≡ g a) → run_marks w f marks ≡ run_marks w g marks
unfolding run_marks
marks-ext w f g marks e =
    word_of-ext 64 (λ a. on marks a || (ltb a w.rules && (single w a && f a))) (λ a. on marks a || (ltb a w.rules && (single w a && g a)))
    (λ a h. ap (λ (b : Bool). on marks a || b) (under w.rules a (λ b. b && (single w a && f a)) (λ b. b && (single w a && g a)) (λ l. ap (λ (b : Bool). single w a && b) (e a l)) refl))

pub marks-none : (w : Automaton) (f : ℕ → Bool) (marks : ℕ) → marks < 2 ^ 64 → ((a : ℕ) → a < w.rules → f a ≡ false) → run_marks w f marks ≡ marks
unfolding run_marks
marks-none w f marks h e =
    sym (word-is marks (λ a. on marks a || (ltb a w.rules && (single w a && f a))) h
    (λ a l. sym (ap (λ (b : Bool). on marks a || b) (under w.rules a (λ b. b && (single w a && f a)) (λ b. false) (λ m. ap (λ (b : Bool). single w a && b) (e a m) ∙ and-false (single w a)) refl) ∙ or-false (on marks a))))

pub marks_small : (w : Automaton) (f : ℕ → Bool) (marks : ℕ) → run_marks w f marks < 2 ^ 64
unfolding run_marks
marks_small w f marks = word_of-lt 64 (λ a. on marks a || (ltb a w.rules && (single w a && f a)))

-- ---- in words

-- the marks gain the single-match rules that end
pub marks-words : (w : Automaton) (ending marks : ℕ) → marks < 2 ^ 64 → bit_or marks (bit_and ending (rules_where w (single w))) ≡ run_marks w (on ending) marks
unfolding run_marks
marks-words w ending marks h =
    word-is (bit_or marks (bit_and ending singles)) (λ a. on marks a || (ltb a w.rules && (single w a && on ending a)))
    (or_lt 64 marks (bit_and ending singles) h (lt_of_le_of_lt (and_le_r ending singles) (word_of-lt 64 (λ a. ltb a w.rules && single w a))))
    (λ a l. on_or marks (bit_and ending singles) a
    ∙ ap (λ (b : Bool). on marks a || b)
    (on_and ending singles a ∙ ap (λ (b : Bool). on ending a && b) (on-word_of 64 (λ a. ltb a w.rules && single w a) a l)
    ∙ and_comm (on ending a) (ltb a w.rules && single w a) ∙ and_assoc (ltb a w.rules) (single w a) (on ending a)))
  where
    singles : ℕ
    singles = rules_where w (single w)

-- the rules that end and have no mark are counted by their digits
pub due-ones : (ending marks : ℕ) → ending < 2 ^ 64 → marks < 2 ^ 64 → ones (bit_and ending (2 ^ 64 - 1 - marks)) ≡ count 64 (λ a. on ending a && not (on marks a))
due-ones ending marks h l =
    ones-count 64 (bit_and ending (2 ^ 64 - 1 - marks)) (lt_of_le_of_lt (and_le_l ending (2 ^ 64 - 1 - marks)) h)
    ∙ count-ext 64 (on (bit_and ending (2 ^ 64 - 1 - marks))) (λ a. on ending a && not (on marks a)) (λ a m. on-without ending marks a l m)

-- and are as many as the run has reports, where no digit is past the rules
pub due-count : {R : Type 0} (w : Automaton) (ending marks : ℕ) (give : ℕ → R) → ending ≡ rules_where w (on ending) → w.rules ≤ 64
    → count 64 (λ a. on ending a && not (on marks a)) ≡ length (run_reports (on ending) marks give w.rules)
due-count w ending marks give is h =
    count-below w.rules 64 (λ a. on ending a && not (on marks a)) h
    (λ a l m. ap (λ (b : Bool). b && not (on marks a)) (ap (λ (x : ℕ). on x a) is ∙ on-places-past (on ending) w.rules a l m))
    ∙ sym (run-count (on ending) marks give w.rules)

-- as in the word of the rules that pass a test
pub rules-alone : (w : Automaton) (f : ℕ → Bool) → rules_where w f ≡ rules_where w (on (rules_where w f))
rules-alone w f =
    word_of-ext 64 (λ a. ltb a w.rules && f a) (λ a. ltb a w.rules && on (rules_where w f) a)
    (λ a h. twice (ltb a w.rules) (f a) ∙ ap (λ (b : Bool). ltb a w.rules && b) (sym (on-word_of 64 (λ a. ltb a w.rules && f a) a h)))
  where
    twice : (a b : Bool) → (a && b) ≡ (a && (a && b))
    twice true b = refl
    twice false b = refl

pub alone : (w : Automaton) (f : ℕ → Bool) {word : ℕ}
    → word ≡ rules_where w f → word ≡ rules_where w (on word)
alone w f e = e ∙ rules-alone w f ∙ ap (λ (x : ℕ). rules_where w (on x)) (sym e)

-- none pass a test that fails of each
pub rules-none : (w : Automaton) (f : ℕ → Bool) → ((a : ℕ) → a < w.rules → f a ≡ false) → 0 ≡ rules_where w f
rules-none w f e =
    word-is 0 (λ a. ltb a w.rules && f a) (omega arith) (λ a h. on-zero a ∙ sym (under w.rules a (λ b. b && f a) (λ b. false) (e a) refl))

-- ---- the lowest digit of a word, and the word without it

abbrev pub lowest : ℕ → ℕ
lowest word = count_trailing_zeros 64 word

abbrev pub without : ℕ → ℕ
without word = bit_and word (word - 1)

-- what the rules of a word report
abbrev pub reports_in : {R : Type 0} → ℕ → (ℕ → R) → ℕ → List R
reports_in word = run_reports (on word) 0

module _ (word : ℕ) (small : word < 2 ^ 64) (some : ¬ (word ≡ 0)) where
  pub lowest-on : (lowest word < 64) × (on word (lowest word) ≡ true)
  lowest-on = zeros-on 64 word small (omega arith)

  without_is : without word ≡ word / 2 ^ suc (lowest word) * 2 ^ suc (lowest word)
  without_is = clear-low 64 word small (omega arith)

  without-off : (k : ℕ) → k ≤ lowest word → on (without word) k ≡ false
  without-off k h =
      ap (λ (x : ℕ). on x k) without_is
      ∙ cleared-off (word / 2 ^ suc (lowest word)) (suc (lowest word)) k (omega arith)

  pub without-same : (k : ℕ) → lowest word < k → on word k ≡ on (without word) k
  without-same k h =
      let at : suc (lowest word) + (k - suc (lowest word)) ≡ k = omega arith in
      ap (on word) (sym at) ∙ sym (cleared-on word (suc (lowest word)) (k - suc (lowest word)))
      ∙ sym (ap₂ on without_is (sym at))

  pub without-less : without word < word
  without-less = omega (arith, and_le_r word (word - 1))

  -- its rule reports first
  pub lowest-first : {R : Type 0} (give : ℕ → R) (n : ℕ) → lowest word < n
      → reports_in word give n ≡ give (lowest word) ∷ reports_in (without word) give n
  unfolding run_reports
  lowest-first {R} give =
      le_ind First
      (ap₂ (λ (l : List R) (b : Bool). l ++ cond b (give (lowest word) ∷ []) [])
      (run_none (on word) 0 give (lowest word) (zeros-off 64 word))
      (ap₂ (λ (x y : Bool). x && not y) lowest-on.1 (on-zero (lowest word)))
      ∙ ap (λ (l : List R). give (lowest word) ∷ l)
      (sym (run_none (on (without word)) 0 give (suc (lowest word))
      (λ k l. without-off k (omega arith)))))
      (λ m l e. ap₂ (λ (r : List R) (b : Bool). r ++ cond (b && not (on 0 m)) (give m ∷ []) [])
      e (without-same m l))
    where
      First : ℕ → Type 0
      First m = reports_in word give m ≡ give (lowest word) ∷ reports_in (without word) give m

-- ---- the writer's loop

-- What holds of the lists, which were l₀, while the rules of the word `left` are still to report:
-- the reports before theirs are written from place `from` on, and the next one's place is n.
pub record Writing (w : Automaton) (ending marks : ℕ) (give : ℕ → Report) (from : ℕ)
    (l₀ l : Lists) (left n : ℕ) : Type 0 where
  pub small : left < 2 ^ 64
  pub ruled : (a : ℕ) → w.rules ≤ a → a < 64 → on left a ≡ false
  pub done : List Report
  pub all : done ++ reports_in left give w.rules ≡ run_reports (on ending) marks give w.rules
  pub next_is : n ≡ from + length done
  pub lists_are : l ≡ written_at from done l₀

-- what a turn needs: the rule is one of the table's, and there is a place for its report
pub record Turn (w : Automaton) (l₀ : Lists) (a n : ℕ) : Type 0 where
  pub ruled : a < w.rules
  pub room : n < space l₀
  pub ids_fit : length l₀.ids * 4 < 2 ^ 63 → Fits w64 (n * 4)
  pub offsets_fit : length l₀.offsets * 8 < 2 ^ 63 → Fits w64 (n * 8)
  pub next_fits : length l₀.ids * 4 < 2 ^ 63 → Fits w64 (n + 1)

pub writing_start : (w : Automaton) (ending marks : ℕ) (give : ℕ → Report) (from : ℕ) (l₀ : Lists)
    → ending < 2 ^ 64 → marks < 2 ^ 64 → ending ≡ rules_where w (on ending) → w.rules ≤ 64
    → {left : ℕ} → left ≡ bit_and ending (2 ^ 64 - 1 - marks) → Writing w ending marks give from l₀ l₀ left from
writing_start w ending marks give from l₀ h l is few e =
    subst (λ (x : ℕ). Writing w ending marks give from l₀ l₀ x from) (sym e)
    (record {
      small = lt_of_le_of_lt (and_le_l ending (2 ^ 64 - 1 - marks)) h;
      ruled = λ a m k.
          on-without ending marks a l k
          ∙ ap (λ (b : Bool). b && not (on marks a))
          (ap (λ (x : ℕ). on x a) is ∙ on-places-past (on ending) w.rules a m k);
      done = [];
      all =
          run-same (on (bit_and ending (2 ^ 64 - 1 - marks))) (on ending) 0 marks give w.rules
          (λ a m. ap₂ (λ (x y : Bool). x && not y)
          (on-without ending marks a l (omega arith)) (on-zero a)
          ∙ and-true (due (on ending) marks a));
      next_is = sym (add-zero from);
      lists_are = sym (written-at-none l₀ from);
    })

module _ {w : Automaton} {ending marks : ℕ} {give : ℕ → Report} {from : ℕ} {l₀ l : Lists}
    {left n : ℕ} (h : Writing w ending marks give from l₀ l left n)
    (room : from + length (run_reports (on ending) marks give w.rules) ≤ space l₀) where
  parts : length h.done + length (reports_in left give w.rules)
      ≡ length (run_reports (on ending) marks give w.rules)
  parts = sym (length-append h.done (reports_in left give w.rules)) ∙ ap length h.all

  pub writing-long : AsLong l l₀
  writing-long = long-written from h.done h.lists_are (omega (arith, parts))

  -- the next digit of the walk
  module _ {a v : ℕ} (g : GivesLowest left (Some a) v) where
    some : ¬ (left ≡ 0)
    some e = omega (arith, g.0, e)

    low : on left (lowest left) ≡ true
    low = (lowest-on left h.small some).1

    ruled : lowest left < w.rules
    ruled = go (dec_lt (lowest left) w.rules)
      where
        go : Dec (lowest left < w.rules) → lowest left < w.rules
        go (yes m) = m
        go (no m) =
            absurd (true≢false (sym low ∙ h.ruled (lowest left) (omega arith) (omega (arith, g.2, g.3))))

    first : reports_in left give w.rules
        ≡ give (lowest left) ∷ reports_in (without left) give w.rules
    first = lowest-first left h.small some give w.rules ruled

    pub writing-turn : Turn w l₀ a n
    writing-turn =
        let i : ℕ = length l₀.ids in
        let o : ℕ = length l₀.offsets in
        let here : n < space l₀ = omega (arith, parts, h.next_is, ap length first) in
        record {
          ruled = omega (arith, ruled, g.3);
          room = here;
          ids_fit = bounds.ids_fit n i o (le_of_lt here);
          offsets_fit = bounds.offsets_fit n i o (le_of_lt here);
          next_fits = bounds.next_fits n i o here;
        }

    -- its report is stored, and its digit cleared
    pub writing-again : {l' : Lists}
        → l' ≡ lists (set l.ids n (give a).id) (set l.offsets n (give a).end)
        → Writing w ending marks give from l₀ l' v (n + 1)
    writing-again {l'} e =
        let r : Report = give (lowest left) in
        subst (λ (x : ℕ). Writing w ending marks give from l₀ l' x (n + 1)) (sym g.4)
        (record {
          small = omega (arith, without-less left h.small some, h.small);
          ruled = λ a m k.
              sym (without-same left h.small some a (omega (arith, ruled))) ∙ h.ruled a m k;
          done = h.done ++ r ∷ [];
          all =
              append_assoc h.done (r ∷ []) (reports_in (without left) give w.rules)
              ∙ ap (λ (x : List Report). h.done ++ x) (sym first) ∙ h.all;
          next_is = omega (arith, h.next_is, length-append h.done (r ∷ []));
          lists_are =
              e
              ∙ ap (λ (k : ℕ). lists (set l.ids n (give k).id) (set l.offsets n (give k).end)) g.3
              ∙ ap (λ (x : Lists). lists (set x.ids n r.id) (set x.offsets n r.end))
              h.lists_are
              ∙ written-store l₀ from n h.done r h.next_is writing-turn.room;
        })

  -- once nothing is left
  pub writing-done : left ≡ 0 → {marks' : ℕ} → marks' ≡ run_marks w (on ending) marks
      → Wrote w (on ending) marks give from l₀ n marks' l
  writing-done e m =
      let none : reports_in left give w.rules ≡ [] =
      run_none (on left) 0 give w.rules (λ a k. ap (λ (x : ℕ). on x a) e ∙ on-zero a) in
      let whole : h.done ≡ run_reports (on ending) marks give w.rules =
      sym (append-nil h.done) ∙ ap (λ (x : List Report). h.done ++ x) (sym none) ∙ h.all in
      record {
        next_is = h.next_is ∙ ap (λ (x : List Report). from + length x) whole;
        marks_are = m;
        lists_are = h.lists_are ∙ ap (λ (x : List Report). written_at from x l₀) whole;
      }
