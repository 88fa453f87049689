-- On a table in which no rule needs a start, a stream with starts is a stream and zeros: after each
-- byte its starts are 0, and every report has none.
use mathlib.Core.Path.{◌≡◌, refl, sym, ap, ap₂, ◌∙◌}
use mathlib.Core.Bool.{Bool, true, false, true≢false, cond, not, ◌&&◌, ◌||◌, and-true, and-false}
use mathlib.Core.List.{List, ◌++◌, map}
use Prim.Native.Nat.{ℕ, zero, suc, ◌-◌, ◌<◌, ◌≤◌}
use native.Mathlib.Omega.{arith}
use lib.Dec.{eqb, leb, ltb}
use lib.ListN.{length, get_or, length-map}
use native.Mathlib.Decide.{dec_lt}
use borrow.Author.Tests.{lt-ltb, le-leb, not-true}
use Rattle.sets.specs.Set.{on, has, any, empty_set, union_of, is_empty}
use Rattle.sets.proofs.Laws.{has-set_of, has-empty, has-union, has-intersection, any-ext, any_none, any-never}
use Rattle.sets.proofs.Bits.{word_of-ext}
use Rattle.kinds.specs.declared.Side.TheVariants.{Newline}
use Rattle.kinds.specs.declared.Side.{Side}
use Rattle.kinds.specs.Side.{side_of}
use Rattle.table.specs.Layout.{max_rules, max_positions}
use Rattle.table.specs.Gaps.{between, before_last, unsettled, at_the_end, first_gap, gap_of}
use Rattle.table.specs.Automaton.{Automaton, starts, last}
use Rattle.steps.specs.Step.{keepers_of, ends, ends_newly, lates_of, late_in, stepped, start_at}
use Rattle.lengths.specs.Long.{long_in}
use Rattle.lengths.proofs.Long.{has-long}
use Rattle.stream.specs.declared.Stream.{Stream}
use Rattle.stream.specs.Valid.{needs_starts, live_inside, held_inside}
use Rattle.stream.proofs.Accepting.{Fitting}
use Rattle.stream.proofs.TwoRuns.{two-ext, two-marks-ext}
use Rattle.stream.proofs.Results.{inside-next}
use Rattle.stream.specs.Byte as stream
use Rattle.stream.specs.Byte.{fits as fits-of}
use Rattle.stream.specs.Byte.{after, reports_by, fits_by, byte_state, run_reports, run_marks, two_reports, next_live, next_held, next_pending, late_test, own_test, held_test, end_test, state_after, reports_of}
use Rattle.traced.specs.declared.Traced.{Traced}
use Rattle.traced.specs.Byte.{Report, none, from, given, keeping, counted, live_next, late_long, own_long, pending_long, end_long, stream_next, late_start, own_start, end_start, next_starts, next_state, byte_reports, close_reports, traced}
use Rattle.traced.specs.Calls.{no_starts}
use Rattle.traced.proofs.Carrying.{stepped-none, list_ext, pending-ruled}
use Rattle.traced.proofs.Delivering.{two-give}
use Rattle.traced.proofs.Same.{map-join, run-map, cost-after}

-- a report without a start
abbrev pub plainly : stream.Report → Report
plainly p = record { pair = p; start = none }

two-map : {A B : Type 0} (w : Automaton) (f : A → B) (one two : ℕ → Bool) (marks : ℕ) (first second : ℕ → A)
    → map f (two_reports w one two marks first second) ≡ two_reports w one two marks (λ a. f (first a)) (λ a. f (second a))
unfolding two_reports
two-map {B = B} w f one two marks first second =
    map-join f (run_reports one marks first w.rules) (run_reports two (run_marks w one marks) second w.rules)
    ∙ ap₂ (λ (a b : List B). a ++ b) (run-map f one marks first w.rules) (run-map f two (run_marks w one marks) second w.rules)

-- two sets with the same members end the same rules
pub record SameSet (set other : List ℕ) : Type 0 where
  pub each : (q : ℕ) → q < max_positions → has set q ≡ has other q

ends-ext : (w : Automaton) (gap a : ℕ) {set other : List ℕ} → SameSet set other → ends w gap set a ≡ ends w gap other a
unfolding ends
ends-ext w gap a {set} {other} e =
    any-ext max_positions (λ p. has set p && last w gap a p) (λ p. has other p && last w gap a p) (λ p l. ap (λ (b : Bool). b && last w gap a p) (e.each p l))

newly-ext : (w : Automaton) (gap less a : ℕ) {set other live alive : List ℕ} → SameSet set other → SameSet live alive
    → ends_newly w gap set less live a ≡ ends_newly w gap other less alive a
unfolding ends_newly
newly-ext w gap less a e f = ap₂ (λ (b c : Bool). b && not c) (ends-ext w gap a e) (ends-ext w less a f)

late-ext : (w : Automaton) {set other : List ℕ} → SameSet set other → SameSet (late_in w set) (late_in w other)
late-ext w {set} {other} e = record {
  each = λ q l. has-intersection set (lates_of w) q l ∙ ap (λ (b : Bool). b && has (lates_of w) q) (e.each q l) ∙ sym (has-intersection other (lates_of w) q l);
}

union-ext : {a b c d : List ℕ} → SameSet a b → SameSet c d → SameSet (union_of a c) (union_of b d)
union-ext {a} {b} {c} {d} e f = record { each = λ q l. has-union a c q l ∙ ap₂ (λ (x y : Bool). x || y) (e.each q l) (f.each q l) ∙ sym (has-union b d q l) }

-- every member of a set is a position
abbrev Inside : Automaton → List ℕ → Type 0
Inside w set = (q : ℕ) → q < max_positions → has set q ≡ true → q < w.positions

inside-if : (w : Automaton) (set : List ℕ) → not (any max_positions (λ q. has set q && leb w.positions q)) ≡ true → Inside w set
inside-if w set e q l h = go (dec_lt q w.positions)
  where
    go : Dec (q < w.positions) → q < w.positions
    go (yes lt) = lt
    go (no ge) =
        absurd (true≢false (sym (ap₂ (λ (b c : Bool). b && c) h (le-leb w.positions q (omega arith)))
        ∙ any_none max_positions (λ q. has set q && leb w.positions q) (not-true (any max_positions (λ q. has set q && leb w.positions q)) e) q l))

fit-live : (w : Automaton) (s : Stream) → Fitting w s → Inside w s.live
unfolding live_inside
fit-live w s fits = inside-if w s.live fits.live

fit-held : (w : Automaton) (s : Stream) → Fitting w s → Inside w s.held
unfolding held_inside
fit-held w s fits = inside-if w s.held fits.held

step-inside : (w : Automaton) (s : Stream) (x : ℕ) → Inside w (next_live w s x)
unfolding live_inside
step-inside w s x = inside-if w (next_live w s x) (inside-next w (λ a. false) (λ a. false) s s x)

neither : (a b : Bool) → (a || b) ≡ false → (a ≡ false) × (b ≡ false)
neither true b e = absurd (true≢false e)
neither false b e = (refl, e)

module _ (w : Automaton) (needs : needs_starts w ≡ false) where
  no-keeper : (q : ℕ) → q < max_positions → (w.keeps q && ltb q w.positions) ≡ false
  unfolding needs_starts
  no-keeper = any_none max_positions (λ q. w.keeps q && ltb q w.positions) (neither (any max_positions (λ q. w.keeps q && ltb q w.positions)) _ needs).0

  no_flag : (a : ℕ) → a < max_rules → (ltb a w.rules && w.leftmost a) ≡ false
  unfolding needs_starts
  no_flag = any_none max_rules (λ a. ltb a w.rules && w.leftmost a) (neither (any max_positions (λ q. w.keeps q && ltb q w.positions)) _ needs).1

  -- no position of the table that is reached keeps a start
  module _ (line : Bool) (before after : Side) (live : List ℕ) (taken x : ℕ) where
    rest : ℕ → Bool
    rest q = w.takes x q && (starts w (first_gap line taken before after) x q || any max_positions (λ p. has live p && w.follow (gap_of line before after) p q))

    apart : (p r k : Bool) → (k && p) ≡ false → ((p && r) && k) ≡ false
    apart true true true e = e
    apart true true false e = refl
    apart true false k e = refl
    apart false r k e = refl

    reached-none : is_empty (keeping w (stepped w line before after w.positions live taken x)) ≡ true
    unfolding is_empty keepers_of stepped rest
    reached-none =
        ap (λ (b : Bool). not b)
        (any-never max_positions (has (keeping w (stepped w line before after w.positions live taken x)))
        (λ q lt. has-intersection (stepped w line before after w.positions live taken x) (keepers_of w) q lt
        ∙ ap₂ (λ (a b : Bool). a && b) (has-set_of (λ q. ltb q w.positions && rest q) q lt) (has-set_of w.keeps q lt)
        ∙ apart (ltb q w.positions) (rest q) (w.keeps q) (no-keeper q lt)))

  empty-none : is_empty (keeping w empty_set) ≡ true
  unfolding is_empty
  empty-none =
      ap (λ (b : Bool). not b)
      (any-never max_positions (has (keeping w empty_set))
      (λ q lt. has-intersection empty_set (keepers_of w) q lt ∙ ap (λ (b : Bool). b && has (keepers_of w) q) (has-empty q lt)))

  held_none : (s : Stream) (x : ℕ) → is_empty (keeping w (next_held w s x)) ≡ true
  unfolding next_held
  held_none s x = go (eqb x 10)
    where
      go : (b : Bool) → is_empty (keeping w (cond b (stepped w true s.last (side_of x) w.positions s.live s.taken x) empty_set)) ≡ true
      go true = reached-none true s.last (side_of x) s.live s.taken x
      go false = empty-none

  -- after a byte there are no starts
  pub starts_none : (z : Traced) (x : ℕ) → next_starts w z x ≡ no_starts
  unfolding next_starts
  starts_none z x =
      let s : Stream = z.stream in
      let l : List ℕ = z.starts.live in
      λ i. record {
        live = stepped-none w false s.last (side_of x) (keeping w s.live) l (keeping w (next_live w s x)) s.taken (reached-none false s.last (side_of x) s.live s.taken x) i;
        held = stepped-none w true s.last (side_of x) (keeping w s.live) l (keeping w (next_held w s x)) s.taken (held_none s x) i;
        pairs =
            list_ext max_rules (λ a. cond (on (pending_long w s l x) a && w.leftmost a) (start_at w (before_last s.last) s.live l s.taken a) 0) (λ a. 0)
            (λ a lt. ap (λ (b : Bool). cond b (start_at w (before_last s.last) s.live l s.taken a) 0)
            (sym (pending-ruled w (counted w s l) x a lt) ∙ ap (λ (b : Bool). on (pending_long w s l x) a && b) (no_flag a lt) ∙ and-false (on (pending_long w s l x) a))) i;
      }

  -- a position of the table is always long enough, so the tests are a stream's
  module _ (free : (q start end : ℕ) → w.keeps q ≡ false → w.long q start end ≡ true) where
    all-count : (set starts : List ℕ) (end : ℕ) → Inside w set → SameSet (long_in w set starts end) set
    all-count set starts end inside = record { each = λ q l. has-long w set starts end q l ∙ go q l (has set q) refl }
      where
        go : (q : ℕ) → q < max_positions → (b : Bool) → has set q ≡ b → (b && w.long q (get_or starts q 0) end) ≡ b
        go q l true e = free q (get_or starts q 0) end (sym (and-true (w.keeps q)) ∙ ap (λ (b : Bool). w.keeps q && b) (sym (lt-ltb q w.positions (inside q l e))) ∙ no-keeper q l)
        go q l false e = refl

    module _ (s : Stream) (live : List ℕ) (inside : Inside w s.live) where
      counts : SameSet (counted w s live).live s.live
      counts = all-count s.live live s.taken inside

      late-same : (x a : ℕ) → late_long w s live x a ≡ late_test w s x a
      late-same x a = ap (λ (b : Bool). b && w.inside a s.taken) (newly-ext w (between s.last (side_of x)) unsettled a (late-ext w counts) counts)

      pending-same : (x : ℕ) → pending_long w s live x ≡ next_pending w s x
      unfolding next_pending
      pending-same x =
          ap (λ (n : ℕ). cond (eqb x 10 && ltb 0 s.taken) n 0)
          (word_of-ext 64 (λ a. ltb a w.rules && ends_newly w (before_last s.last) (counted w s live).live (between s.last Newline) (counted w s live).live a)
          (λ a. ltb a w.rules && ends_newly w (before_last s.last) s.live (between s.last Newline) s.live a)
          (λ a l. ap (λ (b : Bool). ltb a w.rules && b) (newly-ext w (before_last s.last) (between s.last Newline) a counts counts)))

      own_same : (x a : ℕ) → own_long w s live x a ≡ own_test w s x a
      own_same x a = ap (λ (b : Bool). b && w.inside a (suc s.taken)) (ends-ext w unsettled a (all-count (next_live w s x) (live_next w s live x) (suc s.taken) (step-inside w s x)))

      -- so is the state after a byte
      stream-same : (x : ℕ) → stream_next w s live x ≡ byte_state w s x
      unfolding stream_next byte_state
      stream-same x = λ i. record {
        live = next_live w s x;
        held = next_held w s x;
        reported = two-marks-ext w (late_long w s live x) (late_test w s x) (own_long w s live x) (own_test w s x) s.reported (λ a l. late-same x a) (λ a l. own_same x a) i;
        pending = pending-same x i;
        last = side_of x;
        taken = suc s.taken;
        rules = s.rules;
        positions = s.positions;
        closed = s.closed;
      }

    end_same : (z : Traced) → Inside w z.stream.live → Inside w z.stream.held → (a : ℕ) → end_long w z a ≡ end_test w z.stream a
    end_same z live held a =
        let s : Stream = z.stream in
        let one = all-count s.live z.starts.live s.taken live in
        let two = all-count s.held z.starts.held s.taken held in
        ap (λ (b : Bool). b && w.inside a s.taken) (newly-ext w (at_the_end s.last) unsettled a (union-ext one two) one)

    -- and no report has a start
    module _ (few : w.rules ≤ max_rules) where
      plain-given : (end : ℕ) (f : ℕ → ℕ) (a : ℕ) → a < w.rules → given w end f a ≡ plainly (stream.given w end a)
      plain-given end f a lt =
          ap (λ (b : Bool). record { pair = stream.given w end a; start = cond b (from (f a)) none })
          (sym (ap (λ (b : Bool). b && w.leftmost a) (lt-ltb a w.rules lt)) ∙ no_flag a (omega arith))

      byte-plain : (z : Traced) (x : ℕ) → Inside w z.stream.live → byte_reports w z x ≡ map plainly (stream.byte_reports w z.stream x)
      unfolding byte_reports stream.byte_reports
      byte-plain z x inside =
          let s : Stream = z.stream in
          let live : List ℕ = z.starts.live in
          two-ext w (late_long w s live x) (late_test w s x) (own_long w s live x) (own_test w s x) s.reported (λ a l. late-same s live inside x a) (λ a l. own_same s live inside x a)
          (given w s.taken (late_start w z x)) (given w (suc s.taken) (own_start w z x))
          ∙ two-give w (late_test w s x) (own_test w s x) s.reported (given w s.taken (late_start w z x)) (λ a. plainly (stream.given w s.taken a))
          (given w (suc s.taken) (own_start w z x)) (λ a. plainly (stream.given w (suc s.taken) a))
          (λ a l e. plain-given s.taken (late_start w z x) a l) (λ a l e. plain-given (suc s.taken) (own_start w z x) a l)
          ∙ sym (two-map w plainly (late_test w s x) (own_test w s x) s.reported (stream.given w s.taken) (stream.given w (suc s.taken)))

      pub close-plain : (z : Traced) → Fitting w z.stream → close_reports w z ≡ map plainly (stream.close_reports w z.stream)
      unfolding close_reports stream.close_reports
      close-plain z fits =
          let s : Stream = z.stream in
          two-ext w (held_test w s) (held_test w s) (end_long w z) (end_test w s) s.reported (λ a l. refl)
          (λ a l. end_same z (fit-live w s fits) (fit-held w s fits) a) (given w (s.taken - 1) (λ a. get_or z.starts.pairs a 0)) (given w s.taken (end_start w z))
          ∙ two-give w (held_test w s) (end_test w s) s.reported (given w (s.taken - 1) (λ a. get_or z.starts.pairs a 0)) (λ a. plainly (stream.given w (s.taken - 1) a))
          (given w s.taken (end_start w z)) (λ a. plainly (stream.given w s.taken a))
          (λ a l e. plain-given (s.taken - 1) (λ a. get_or z.starts.pairs a 0) a l) (λ a l e. plain-given s.taken (end_start w z) a l)
          ∙ sym (two-map w plainly (held_test w s) (end_test w s) s.reported (stream.given w (s.taken - 1)) (stream.given w s.taken))

      -- some bytes
      module _ (s : Stream) (block : List ℕ) (fits : Fitting w s) where
        abbrev z : Traced
        z = record { stream = s; starts = no_starts }

        live-after : (k : ℕ) → Inside w (state_after w s block k).live
        unfolding after byte_state
        live-after zero = fit-live w s fits
        live-after (suc k) = step-inside w (state_after w s block k) (get_or block k 0)

        pub state-plain : (k : ℕ) → after (traced w) z block k ≡ record { stream = state_after w s block k; starts = no_starts }
        unfolding after next_state
        state-plain zero = refl
        state-plain (suc k) =
            ap (λ (u : Traced). next_state w u (get_or block k 0)) (state-plain k)
            ∙ (λ i. record { stream = stream-same (state_after w s block k) no_starts.live (live-after k) (get_or block k 0) i; starts = starts_none (record { stream = state_after w s block k; starts = no_starts }) (get_or block k 0) i })

        pub reports-plain : (k : ℕ) → reports_by (traced w) z block k ≡ map plainly (reports_of w s block k)
        unfolding reports_by
        reports-plain zero = refl
        reports-plain (suc k) =
            ap₂ (λ (a b : List Report). a ++ b) (reports-plain k)
            (ap (λ (u : Traced). byte_reports w u (get_or block k 0)) (state-plain k)
            ∙ byte-plain (record { stream = state_after w s block k; starts = no_starts }) (get_or block k 0) (live-after k))
            ∙ sym (map-join plainly (reports_of w s block k) (stream.byte_reports w (state_after w s block k) (get_or block k 0)))

        -- as many bytes are taken
        pub fits-plain : (allowance room k : ℕ) → fits_by (traced w) z allowance block room k ≡ fits-of w s allowance block room k
        unfolding fits_by
        fits-plain allowance room zero = refl
        fits-plain allowance room (suc k) =
            ap₂ (λ (b : Bool) (j : ℕ). cond b (suc k) j)
            (ap₂ (λ (n c : ℕ). leb n room && leb c allowance) (ap length (reports-plain (suc k)) ∙ length-map (reports_of w s block (suc k)) plainly) (cost-after w z block (suc k)))
            (fits-plain allowance room k)
