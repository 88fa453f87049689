-- Bytes that are passed over. Nothing is live before them, and no match can begin with them: so
-- each brings no report, costs a unit and leaves nothing live, and no start of a live position.
-- What waits for the stream's end is asked of the last of them alone, which is no newline.
use mathlib.Core.Path.{◌≡◌, refl, sym, ap, ap₂, subst, ◌∙◌}
use mathlib.Core.Bool.{Bool, true, false, cond, not, ◌&&◌}
use mathlib.Core.Logic.{inl, inr}
use mathlib.Core.List.{List, [], ◌++◌, append-nil}
use Prim.Native.Nat.{ℕ, zero, suc, ◌+◌, ◌-◌, ◌^◌, ◌<◌, ◌≤◌, min}
use native.Mathlib.Nat.{add-zero, add-suc}
use native.Mathlib.Numerals.{add-one}
use native.Mathlib.Decide.{dec_lt}
use native.Mathlib.Omega.{arith}
use lib.Dec.{ltb}
use lib.ListN.{length, get_or}
use borrow.Author.Tests.{ne_eqb, lt-ltb, le-ltb}
use Rattle.sets.specs.Set.{on, has, empty_set, is_empty}
use Rattle.sets.proofs.Laws.{has-empty, has-intersection, any-never}
use Rattle.sets.proofs.Bits.{on-zero}
use Rattle.kinds.specs.Side.{side_of}
use Rattle.table.specs.Layout.{max_rules, max_positions}
use Rattle.table.specs.Gaps.{between, before_last, unsettled}
use Rattle.table.specs.Automaton.{Automaton}
use Rattle.steps.specs.Step.{keepers_of, ends, ends_newly, late_in, start_at}
use Rattle.steps.proofs.Steps.{next-quiet}
use Rattle.lengths.specs.Long.{long_in}
use Rattle.lengths.proofs.Long.{long-none}
use Rattle.stream.specs.declared.Stream.{Stream}
use Rattle.stream.specs.Byte.{after, reports_by, cost_by, next_live, next_held, next_pending, busy_of}
use Rattle.stream.proofs.Machines.{after_more, reports-more, cost-more}
use Rattle.stream.proofs.Quiet.{ends-empty, late-empty, size-empty}
use Rattle.stream.proofs.TwoRuns.{two_none, two-marks-none}
use Rattle.quiet.specs.Pass.{Quietly, PassEnd}
use Rattle.traced.specs.declared.Starts.{Starts}
use Rattle.traced.specs.declared.Traced.{Traced}
use Rattle.traced.specs.declared.scan.Turn.{Turn}
use Rattle.traced.specs.Byte.{Report, given, keeping, live_next, late_long, own_long, pending_long, stream_next, late_start, own_start, next_starts, next_state, byte_reports, traced}
use Rattle.traced.specs.Calls.{Lists, no_starts}
use Rattle.traced.specs.Invariants.{zeros, pass_to, Passes, Passed, Running}
use Rattle.traced.proofs.Carrying.{stepped-none, list_ext}
use Rattle.traced.proofs.Lists.{filled-same}

-- ---- one byte

module _ (w : Automaton) where
  none_kept : is_empty (keeping w empty_set) ≡ true
  unfolding is_empty
  none_kept =
      ap (λ (b : Bool). not b)
      (any-never max_positions (has (keeping w empty_set))
      (λ q lt. has-intersection empty_set (keepers_of w) q lt ∙ ap (λ (b : Bool). b && has (keepers_of w) q) (has-empty q lt)))

  module _ (u : Traced) (x : ℕ) (live : u.stream.live ≡ empty_set) (begun : 0 < u.stream.taken) (unopened : w.opens x ≡ false) (small : u.stream.reported < 2 ^ 64) where
    abbrev s : Stream
    s = u.stream

    live-still : next_live w s x ≡ empty_set
    live-still =
        ap (λ (l : List ℕ). next_live w (record { live = l; held = s.held; reported = s.reported; pending = s.pending; last = s.last; taken = s.taken; rules = s.rules; positions = s.positions; closed = s.closed }) x) live
        ∙ next-quiet w s.last (side_of x) w.positions s.taken x begun unopened

    -- none of no positions counts
    none-long : (set starts : List ℕ) (end : ℕ) → set ≡ empty_set → long_in w set starts end ≡ empty_set
    none-long set starts end e = ap (λ (l : List ℕ). long_in w l starts end) e ∙ long-none w starts end

    none-late : (a : ℕ) → a < w.rules → late_long w s u.starts.live x a ≡ false
    none-late a h =
        ap (λ (b : Bool). b && w.inside a s.taken)
        (ap (λ (l : List ℕ). ends_newly w (between s.last (side_of x)) (late_in w l) unsettled l a) (none-long s.live u.starts.live s.taken live)
        ∙ late-empty w (between s.last (side_of x)) unsettled a)

    none-own : (a : ℕ) → a < w.rules → own_long w s u.starts.live x a ≡ false
    none-own a h =
        ap (λ (b : Bool). b && w.inside a (suc s.taken))
        (ap (λ (l : List ℕ). ends w unsettled l a) (none-long (next_live w s x) (live_next w s u.starts.live x) (suc s.taken) live-still) ∙ ends-empty w unsettled a)

    no-reports : byte_reports w u x ≡ []
    unfolding byte_reports
    no-reports =
        two_none w (late_long w s u.starts.live x) (own_long w s u.starts.live x) s.reported none-late none-own (given w s.taken (late_start w u x)) (given w (suc s.taken) (own_start w u x))

    same-marks : (stream_next w s u.starts.live x).reported ≡ s.reported
    unfolding stream_next
    same-marks = two-marks-none w (late_long w s u.starts.live x) (own_long w s u.starts.live x) s.reported none-late none-own small

    one_unit : suc (busy_of s) ≡ 1
    one_unit = ap (λ (n : ℕ). suc n) (ap (λ (l : List ℕ). busy_of (record { live = l; held = s.held; reported = s.reported; pending = s.pending; last = s.last; taken = s.taken; rules = s.rules; positions = s.positions; closed = s.closed })) live ∙ size-empty)

    no-live-starts : (next_starts w u x).live ≡ zeros max_positions
    unfolding next_starts
    no-live-starts =
        stepped-none w false s.last (side_of x) (keeping w s.live) u.starts.live (keeping w (next_live w s x)) s.taken
        (ap (λ (l : List ℕ). is_empty (keeping w l)) live-still ∙ none_kept)

    -- a byte that is no newline leaves nothing that waits
    module _ (other : ¬ (x ≡ 10)) where
      none-held : next_held w s x ≡ empty_set
      unfolding next_held
      none-held = rw (ne_eqb x 10 other)

      none-pending : pending_long w s u.starts.live x ≡ 0
      unfolding next_pending
      none-pending = rw (ne_eqb x 10 other)

      state-after : next_state w u x
          ≡ record {
            stream = record {
              live = empty_set;
              held = empty_set;
              reported = s.reported;
              pending = 0;
              last = side_of x;
              taken = suc s.taken;
              rules = s.rules;
              positions = s.positions;
              closed = s.closed;
            };
            starts = no_starts;
          }
      unfolding next_state stream_next next_starts
      state-after = λ i. record {
        stream = record {
          live = live-still i;
          held = none-held i;
          reported = same-marks i;
          pending = none-pending i;
          last = side_of x;
          taken = suc s.taken;
          rules = s.rules;
          positions = s.positions;
          closed = s.closed;
        };
        starts = record {
          live = no-live-starts i;
          held = stepped-none w true s.last (side_of x) (keeping w s.live) u.starts.live (keeping w (next_held w s x)) s.taken
              (ap (λ (l : List ℕ). is_empty (keeping w l)) none-held ∙ none_kept) i;
          pairs =
              list_ext max_rules (λ a. cond (on (pending_long w s u.starts.live x) a && w.leftmost a) (start_at w (before_last s.last) s.live u.starts.live s.taken a) 0) (λ a. 0)
              (λ a lt. ap (λ (b : Bool). cond (b && w.leftmost a) (start_at w (before_last s.last) s.live u.starts.live s.taken a) 0)
              (ap (λ (n : ℕ). on n a) none-pending ∙ on-zero a)) i;
        };
      }

-- ---- some bytes

-- what counts of a state after n bytes that are passed over
pub record Still (u u' : Traced) (n : ℕ) : Type 0 where
  pub live_is : u'.stream.live ≡ empty_set
  pub marks_are : u'.stream.reported ≡ u.stream.reported
  pub taken_is : u'.stream.taken ≡ u.stream.taken + n
  pub rules_are : u'.stream.rules ≡ u.stream.rules
  pub positions_are : u'.stream.positions ≡ u.stream.positions
  pub closed_is : u'.stream.closed ≡ u.stream.closed

module _ (w : Automaton) (z : Traced) (block : List ℕ) (at : ℕ) where
  abbrev from : Traced
  from = after (traced w) z block at

  module _ (live : from.stream.live ≡ empty_set) (begun : 0 < from.stream.taken) (small : from.stream.reported < 2 ^ 64) where
    module _ (n : ℕ) (none : (j : ℕ) → at ≤ j → j < at + suc n → w.opens (get_or block j 0) ≡ false) (h : Still from (after (traced w) z block (at + n)) n) where
      abbrev here : Traced
      here = after (traced w) z block (at + n)

      abbrev x : ℕ
      x = get_or block (at + n) 0

      quiet : w.opens (get_or block (at + n) 0) ≡ false
      quiet = none (at + n) (omega arith) (omega arith)

      later : 0 < here.stream.taken
      later = omega (arith, h.taken_is)

      fits : here.stream.reported < 2 ^ 64
      fits = subst (λ (m : ℕ). m < 2 ^ 64) (sym h.marks_are) small

      still-next : Still from (after (traced w) z block (at + suc n)) (suc n)
      unfolding next_state stream_next
      still-next =
          let one : after (traced w) z block (at + suc n) ≡ next_state w here x =
          ap (after (traced w) z block) (add-suc at n ∙ sym (add-one (at + n))) ∙ after_more (traced w) z block (at + n) in
          subst (λ (v : Traced). Still from v (suc n)) (sym one)
          (record {
            live_is = live-still w here x h.live_is later quiet fits;
            marks_are = same-marks w here x h.live_is later quiet fits ∙ h.marks_are;
            taken_is = ap suc h.taken_is ∙ sym (add-suc from.stream.taken n);
            rules_are = h.rules_are;
            positions_are = h.positions_are;
            closed_is = h.closed_is;
          })

      reports-next : reports_by (traced w) z block (at + suc n) ≡ reports_by (traced w) z block (at + n)
      reports-next =
          ap (reports_by (traced w) z block) (add-suc at n ∙ sym (add-one (at + n))) ∙ reports-more (traced w) z block (at + n)
          ∙ ap (λ (r : List Report). reports_by (traced w) z block (at + n) ++ r) (no-reports w here x h.live_is later quiet fits)
          ∙ append-nil (reports_by (traced w) z block (at + n))

      cost-next : cost_by (traced w) z block (at + suc n) ≡ cost_by (traced w) z block (at + n) + 1
      cost-next =
          ap (cost_by (traced w) z block) (add-suc at n ∙ sym (add-one (at + n))) ∙ cost-more (traced w) z block (at + n)
          ∙ ap (λ (c : ℕ). cost_by (traced w) z block (at + n) + c) (one_unit w here x h.live_is later quiet fits)

    -- n bytes
    still : (n : ℕ) → ((j : ℕ) → at ≤ j → j < at + n → w.opens (get_or block j 0) ≡ false) → Still from (after (traced w) z block (at + n)) n
    still zero none =
        subst (λ (m : ℕ). Still from (after (traced w) z block m) 0) (sym (add-zero at))
        (record { live_is = live; marks_are = refl; taken_is = sym (add-zero from.stream.taken); rules_are = refl; positions_are = refl; closed_is = refl })
    still (suc n) none = still-next n none (still n (λ j f g. none j f (omega arith)))

    reports-still : (n : ℕ) → ((j : ℕ) → at ≤ j → j < at + n → w.opens (get_or block j 0) ≡ false)
        → reports_by (traced w) z block (at + n) ≡ reports_by (traced w) z block at
    reports-still zero none = ap (reports_by (traced w) z block) (add-zero at)
    reports-still (suc n) none =
        let less : (j : ℕ) → at ≤ j → j < at + n → w.opens (get_or block j 0) ≡ false = λ j f g. none j f (omega arith) in
        reports-next n none (still n less) ∙ reports-still n less

    cost-still : (n : ℕ) → ((j : ℕ) → at ≤ j → j < at + n → w.opens (get_or block j 0) ≡ false)
        → cost_by (traced w) z block (at + n) ≡ cost_by (traced w) z block at + n
    cost-still zero none = ap (cost_by (traced w) z block) (add-zero at) ∙ sym (add-zero (cost_by (traced w) z block at))
    cost-still (suc n) none =
        let less : (j : ℕ) → at ≤ j → j < at + n → w.opens (get_or block j 0) ≡ false = λ j f g. none j f (omega arith) in
        cost-next n none (still n less) ∙ ap (λ (c : ℕ). c + 1) (cost-still n less) ∙ more (cost_by (traced w) z block at) n
      where
        more : (c n : ℕ) → c + n + 1 ≡ c + suc n
        more c n = omega arith

    -- the last of them is no newline
    state-still : (n : ℕ) → ((j : ℕ) → at ≤ j → j < at + suc n → w.opens (get_or block j 0) ≡ false) → ¬ (get_or block (at + n) 0 ≡ 10)
        → after (traced w) z block (at + suc n)
        ≡ record {
          stream = record {
            live = empty_set;
            held = empty_set;
            reported = from.stream.reported;
            pending = 0;
            last = side_of (get_or block (at + n) 0);
            taken = from.stream.taken + suc n;
            rules = from.stream.rules;
            positions = from.stream.positions;
            closed = from.stream.closed;
          };
          starts = no_starts;
        }
    state-still n none other =
        let h = still n (λ j f g. none j f (omega arith)) in
        ap (after (traced w) z block) (add-suc at n ∙ sym (add-one (at + n))) ∙ after_more (traced w) z block (at + n)
        ∙ state-after w (here n none h) (x n none h) h.live_is (later n none h) (quiet n none h) (fits n none h) other
        ∙ (λ i. record {
          stream = record {
            live = empty_set;
            held = empty_set;
            reported = h.marks_are i;
            pending = 0;
            last = side_of (get_or block (at + n) 0);
            taken = (ap suc h.taken_is ∙ sym (add-suc from.stream.taken n)) i;
            rules = h.rules_are i;
            positions = h.positions_are i;
            closed = h.closed_is i;
          };
          starts = no_starts;
        })

-- ---- the loop

pub passed : {w : Automaton} {block : List ℕ} {y : Turn} {to : ℕ} (quiet : Bool) → (quiet ≡ true → Quietly y.some y.waits y.stream.live y.stream.taken)
    → PassEnd w quiet block y.at (min (length block) (y.at + y.left)) to → y.stream.reported < 2 ^ 64 → (r : Turn) → r ≡ pass_to block y to → Passed w block y r
passed {w} {block} {y} {to} quiet says end small r is = subst (λ (u : Turn). Passed w block y u) (sym is) (go (dec_lt y.at to))
  where
    go : Dec (y.at < to) → Passed w block y (pass_to block y to)
    go (yes further) =
        inl (record {
          further = further;
          quiet = says (end.quiet_is further);
          inside = end.unopened.inside;
          unopened = end.unopened.none;
          other = end.other further;
          marks_small = small;
          is = refl;
        })
    go (no l) =
        let none : ltb y.at to ≡ false = le-ltb y.at to (omega arith) in
        let same : to ≡ y.at = omega (arith, end.unopened.rises) in
        let zero : to - y.at ≡ 0 = omega arith in
        inr (λ i. record {
          stream = record {
            live = y.stream.live;
            held = cond (none i) empty_set y.stream.held;
            reported = y.stream.reported;
            pending = cond (none i) 0 y.stream.pending;
            last = cond (none i) (side_of (get_or block (to - 1) 0)) y.stream.last;
            taken = (ap (λ (n : ℕ). y.stream.taken + n) zero ∙ add-zero y.stream.taken) i;
            rules = y.stream.rules;
            positions = y.stream.positions;
            closed = y.stream.closed;
          };
          at = same i;
          count = y.count;
          left = (ap (λ (n : ℕ). y.left - n) zero ∙ sub-zero y.left) i;
          some = y.some;
          waits = y.waits;
        })
      where
        sub-zero : (n : ℕ) → n - 0 ≡ n
        sub-zero n = omega arith

-- `Running` holds after a pass
module _ (w : Automaton) (z : Traced) (allowance : ℕ) (block : List ℕ) (l₀ : Lists) (y : Turn) (k : Starts) (l : Lists) (h : Running w z allowance block l₀ y k l)
    (r : Turn) (p : Passes w block y r) where
  abbrev to : ℕ
  to = r.at

  -- one less than the bytes that are passed over
  abbrev more : ℕ
  more = to - y.at - 1

  all : y.at + suc more ≡ to
  all = omega (arith, p.further)

  stands : to - 1 ≡ y.at + more
  stands = omega (arith, p.further)

  went : ltb y.at to ≡ true
  went = lt-ltb y.at to p.further

  many : to - y.at ≡ suc more
  many = omega (arith, p.further)

  abbrev start : Traced
  start = after (traced w) z block y.at

  live : start.stream.live ≡ empty_set
  live = sym (ap (λ (u : Traced). u.stream.live) h.state_is) ∙ p.quiet.empty

  begun : 0 < start.stream.taken
  begun = subst (λ (u : Traced). 0 < u.stream.taken) h.state_is p.quiet.begun

  small : start.stream.reported < 2 ^ 64
  small = subst (λ (u : Traced). u.stream.reported < 2 ^ 64) h.state_is p.marks_small

  none : (j : ℕ) → y.at ≤ j → j < y.at + suc more → w.opens (get_or block j 0) ≡ false
  none j f g = p.unopened j f (omega (arith, all))

  other : ¬ (get_or block (y.at + more) 0 ≡ 10)
  other e = p.other (ap (λ (n : ℕ). get_or block n 0) stands ∙ e)

  none_has_starts : k ≡ no_starts
  none_has_starts =
      let waiting = h.wait_none p.quiet.none_waits in
      λ i. record { live = h.live_none p.quiet.none_live i; held = waiting.0 i; pairs = waiting.1 i }

  state-passed : record { stream = (pass_to block y to).stream; starts = k } ≡ after (traced w) z block to
  state-passed =
      (λ i. record {
        stream = record {
          live = p.quiet.empty i;
          held = cond (went i) empty_set y.stream.held;
          reported = (h.state_is i).stream.reported;
          pending = cond (went i) 0 y.stream.pending;
          last = (ap (λ (b : Bool). cond b (side_of (get_or block (to - 1) 0)) y.stream.last) went ∙ ap (λ (n : ℕ). side_of (get_or block n 0)) stands) i;
          taken = ap₂ (λ (a b : ℕ). a + b) (ap (λ (u : Traced). u.stream.taken) h.state_is) many i;
          rules = (h.state_is i).stream.rules;
          positions = (h.state_is i).stream.positions;
          closed = (h.state_is i).stream.closed;
        };
        starts = none_has_starts i;
      })
      ∙ sym (state-still w z block y.at live begun small more none other) ∙ ap (after (traced w) z block) all

  inside : (r.at ≤ length block) × (r.at ≤ y.at + y.left)
  inside = let e = p.inside in (omega (arith, e), omega (arith, e))

  pub running-pass : Running w z allowance block l₀ r k l
  running-pass =
      subst (λ (u : Turn). Running w z allowance block l₀ u k l) (sym p.is)
      (record {
        inside = inside.0;
        state_is = state-passed;
        paid =
            paid-on y.left (r.at - y.at) (cost_by (traced w) z block r.at) (cost_by (traced w) z block y.at) allowance (left-paid inside.1)
            (ap (cost_by (traced w) z block) (sym all) ∙ cost-still w z block y.at live begun small (suc more) none ∙ ap (λ (n : ℕ). cost_by (traced w) z block y.at + n) (sym many)) h.paid;
        only = h.only;
        filled = filled-same (sym (ap (reports_by (traced w) z block) (sym all) ∙ reports-still w z block y.at live begun small (suc more) none)) h.filled;
        live_none = λ e. h.live_none p.quiet.none_live;
        wait_none = λ e. h.wait_none p.quiet.none_waits;
      })
    where
      left-paid : r.at ≤ y.at + y.left → r.at - y.at ≤ y.left
      left-paid l = omega arith

      paid-on : (left n c' c a : ℕ) → n ≤ left → c' ≡ c + n → left + c ≡ a → left - n + c' ≡ a
      paid-on left n c' c a l e f = omega arith

module _ {w : Automaton} {z : Traced} {allowance : ℕ} {block : List ℕ} {l₀ : Lists} {y : Turn} {k : Starts} {l : Lists} (h : Running w z allowance block l₀ y k l) {r : Turn} where
  -- `Running` holds where a turn begins to take its byte
  pub running-over : Passed w block y r → Running w z allowance block l₀ r k l
  running-over (inl p) = running-pass w z allowance block l₀ y k l h r p
  running-over (inr e) = subst (λ (u : Turn). Running w z allowance block l₀ u k l) (sym e) h

pub pass-rises : {w : Automaton} {block : List ℕ} {y r : Turn} → Passed w block y r → y.at ≤ r.at
pass-rises (inl p) = omega (arith, p.further)
pass-rises (inr e) = omega (arith, ap (λ (u : Turn). u.at) e)
