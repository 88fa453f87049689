-- The scanning loop. `Running` says what holds once some bytes are taken: live set, marks, units
-- and lists are those of the definitions. Bytes passed over and a byte that is taken keep it, and
-- where the loop ends one more byte would not fit.
use mathlib.Core.Path.{◌≡◌, refl, sym, ap, ◌∙◌, subst}
use mathlib.Core.Bool.{Bool, true, false, cond, ◌&&◌}
use mathlib.Core.Logic.{◌⊎◌, inl, inr}
use mathlib.Core.List.{List, ◌++◌, append-nil}
use Prim.Native.Nat.{ℕ, zero, suc, ◌+◌, ◌-◌, ◌^◌, ◌<◌, ◌≤◌, min, zero-le}
use native.Mathlib.Nat.{add-zero}
use native.Mathlib.Numerals.{add-one}
use native.Mathlib.Omega.{arith}
use lib.Dec.{ltb}
use lib.ListN.{length, get_or, length-append}
use borrow.Author.Tests.{lt-ltb, le-ltb}
use Rattle.sets.specs.Set.{empty_set, size_of}
use Rattle.kinds.specs.declared.Side.{Side}
use Rattle.kinds.specs.Side.{side_of}
use Rattle.table.specs.Gaps.{between, unsettled}
use Rattle.table.specs.Automaton.{Automaton}
use Rattle.steps.specs.Step.{stepped, ends, ends_newly, late_in}
use Rattle.stream.specs.declared.Stream.{Stream}
use Rattle.stream.specs.declared.scan.Turn.{Turn}
use Rattle.stream.specs.Byte.{Report, after, reports_by, cost_by, given, next_live, late_test, own_test, byte_reports, byte_state, plain, state_after, reports_of, cost_of}
use Rattle.stream.specs.Calls.{Lists, space}
use Rattle.stream.specs.Invariants.{state_of, side_at, here_at, waits_in, passed_side, skip_to, Skipped, Passed, Stops, Takes, Running, Over, Ran}
use Rattle.stream.proofs.Lists.{filled-start, filled-space, filled_more, filled-same}
use Rattle.stream.proofs.TwoRuns.{two_none, two-marks-none, two-marks-small}
use Rattle.stream.proofs.Machines.{after_more, reports-more, cost-more}
use Rattle.stream.proofs.Blocks.{taken-after, last-after}
use Rattle.stream.proofs.Counting.{counting, byte-live, byte-marks, reports-alike}
use Rattle.stream.proofs.Quiet.{ends-empty, late-empty, size-empty}

less_one : (n : ℕ) → n ≡ n + 1 - 1
less_one n = omega arith

-- what stands before the byte after the next
side-next : (before : Side) (block : List ℕ) (at : ℕ) → side_of (get_or block at 0) ≡ side_at before block (at + 1)
unfolding side_at
side-next before block at = ap (side_at before block) (sym (add-one at))

-- where the loop begins
abbrev pub start_turn : Stream → (waits : Bool) → (allowance : ℕ) → Turn
start_turn s waits allowance = record { live = s.live; before = s.live; reported = s.reported; side = s.last; waits = waits; at = 0; count = 0; left = allowance }

module _ (w : Automaton) (s : Stream) (allowance : ℕ) (block : List ℕ) (l₀ : Lists) where
  pub running-start : (waits : Bool) → waits ≡ waits_in w s.live → s.reported < 2 ^ 64 → Running w s allowance block l₀ (start_turn s waits allowance) l₀
  unfolding after reports_by cost_by side_at
  running-start waits e h = record {
    inside = zero-le;
    live_is = refl;
    before_is = λ l. absurd (omega arith);
    marks_are = refl;
    side_is = refl;
    waits_is = e;
    small = h;
    paid = add-zero allowance;
    filled = filled-start l₀;
  }

  module _ (z : Turn) (l : Lists) (h : Running w s allowance block l₀ z l) where
    -- the state before the next byte, as far as it counts, and the byte
    abbrev here : Stream
    here = here_at s.taken z

    abbrev x : ℕ
    x = get_or block z.at 0

    here-is : counting (state_after w s block z.at) ≡ counting here
    here-is = λ i. state_of (sym h.live_is i) (sym h.marks_are i) ((last-after w s block z.at ∙ sym h.side_is) i) (taken-after w s block z.at i)

    -- what the definitions say of the next byte, in terms of the locals
    live_more : next_live w here x ≡ (state_after w s block (z.at + 1)).live
    live_more =
        ap (λ (y : Stream). next_live w y x) (sym here-is) ∙ sym (byte-live w (state_after w s block z.at) x)
        ∙ sym (ap (λ (y : Stream). y.live) (after_more (plain w) s block z.at))

    before_more : 0 < z.at + 1 → z.live ≡ (state_after w s block (z.at + 1 - 1)).live
    before_more p = let last : z.at ≡ z.at + 1 - 1 = omega arith in h.live_is ∙ ap (λ (n : ℕ). (state_after w s block n).live) last

    marks-more : (byte_state w here x).reported ≡ (state_after w s block (z.at + 1)).reported
    marks-more =
        ap (λ (y : Stream). (byte_state w y x).reported) (sym here-is) ∙ sym (byte-marks w (state_after w s block z.at) x)
        ∙ sym (ap (λ (y : Stream). y.reported) (after_more (plain w) s block z.at))

    reports-next : reports_of w s block (z.at + 1) ≡ reports_of w s block z.at ++ byte_reports w here x
    reports-next =
        reports-more (plain w) s block z.at
        ∙ ap (λ (r : List Report). reports_of w s block z.at ++ r) (reports-alike w (state_after w s block z.at) here here-is x)

    cost-next : cost_of w s block (z.at + 1) ≡ cost_of w s block z.at + suc (size_of z.live)
    cost-next = cost-more (plain w) s block z.at ∙ ap (λ (y : List ℕ). cost_of w s block z.at + suc (size_of y)) (sym h.live_is)

    -- a byte that is taken
    pub running-take : (r : Turn) (l' : Lists) → Takes w here block z l r l' → Running w s allowance block l₀ r l'
    unfolding byte_state
    running-take r l' t =
        subst (λ (y : Turn). Running w s allowance block l₀ y l') (sym t.is)
        (record {
          inside = omega (arith, t.inside);
          live_is = live_more;
          before_is = before_more;
          marks_are = marks-more;
          side_is = side-next s.last block z.at;
          waits_is = refl;
          small = two-marks-small w (late_test w here x) (own_test w here x) z.reported;
          paid = omega (arith, h.paid, t.paid, cost-next);
          filled = filled-same (sym reports-next) (filled_more h.filled (byte_reports w here x) l' t.lists_are t.room);
        })

    -- where it stops, one more would be too many
    pub stop-over : (l' : Lists) → Stops w here block z l l' → z.at < length block → Over (plain w) s allowance block (space l₀) (z.at + 1)
    stop-over l' t b = go (t.over b)
      where
        go : (space l < z.count + length (byte_reports w here x)) ⊎ (z.left < suc (size_of z.live)) → Over (plain w) s allowance block (space l₀) (z.at + 1)
        go (inl g) =
            inl (omega (arith, filled-space h.filled, h.filled.count_is, ap length reports-next, length-append (reports_of w s block z.at) (byte_reports w here x)))
        go (inr g) = inr (omega (arith, h.paid, cost-next))

    -- a byte that is passed over: nothing is live, and it leaves it so
    abbrev pass_one : Turn
    pass_one = record { live = z.live; before = z.live; reported = z.reported; side = side_of x; waits = z.waits; at = z.at + 1; count = z.count; left = z.left - 1 }

    running-pass : z.at < length block → 0 < z.left → z.live ≡ empty_set → next_live w here x ≡ empty_set → Running w s allowance block l₀ pass_one l
    unfolding byte_reports byte_state
    running-pass b p empty still =
        let one : (a : ℕ) → a < w.rules → late_test w here x a ≡ false =
        λ a f. ap (λ (b : Bool). b && w.inside a here.taken) (ap (λ (y : List ℕ). ends_newly w (between here.last (side_of x)) (late_in w y) unsettled y a) empty ∙ late-empty w (between here.last (side_of x)) unsettled a) in
        let two : (a : ℕ) → a < w.rules → own_test w here x a ≡ false =
        λ a f. ap (λ (b : Bool). b && w.inside a (suc here.taken)) (ap (λ (y : List ℕ). ends w unsettled y a) still ∙ ends-empty w unsettled a) in
        let same : reports_of w s block (z.at + 1) ≡ reports_of w s block z.at =
        reports-next
        ∙ ap (λ (r : List Report). reports_of w s block z.at ++ r)
        (two_none w (late_test w here x) (own_test w here x) z.reported one two (given w (s.taken + z.at)) (given w (suc (s.taken + z.at))))
        ∙ append-nil (reports_of w s block z.at) in
        let none : size_of z.live ≡ 0 = ap size_of empty ∙ size-empty in
        record {
          inside = omega arith;
          live_is = empty ∙ sym still ∙ live_more;
          before_is = before_more;
          marks_are = sym (two-marks-none w (late_test w here x) (own_test w here x) z.reported one two h.small) ∙ marks-more;
          side_is = side-next s.last block z.at;
          waits_is = h.waits_is;
          small = h.small;
          paid = omega (arith, h.paid, cost-next, none);
          filled = filled-same (sym same) h.filled;
        }

  -- bytes passed over
  module _ (z : Turn) (l : Lists) (h : Running w s allowance block l₀ z l) (to : ℕ)
      (q : Skipped w z.live block s.taken z.at (min (length block) (z.at + z.left)) to) where
    skip-one : (n : ℕ) → z.at ≤ n → n < to → Running w s allowance block l₀ (skip_to block z n) l → Running w s allowance block l₀ (skip_to block z (n + 1)) l
    skip-one n a b r =
        let byte = get_or block n 0 in
        let side = passed_side z.at n z.side block in
        let empty : z.live ≡ empty_set = q.empty (omega arith) in
        let still : stepped w false side (side_of byte) w.positions z.live (s.taken + n) byte ≡ empty_set =
        ap (λ (y : List ℕ). stepped w false side (side_of byte) w.positions y (s.taken + n) byte) empty ∙ q.still n a b side in
        let units : z.left - (n - z.at) - 1 ≡ z.left - (n + 1 - z.at) = omega arith in
        let passed : ltb z.at (n + 1) ≡ true = lt-ltb z.at (n + 1) (omega arith) in
        subst (λ (y : Turn). Running w s allowance block l₀ y l)
        (λ i. record {
          live = z.live;
          before = sym (ap (λ (c : Bool). cond c z.live z.before) passed) i;
          reported = z.reported;
          side = (ap (λ (m : ℕ). side_of (get_or block m 0)) (less_one n) ∙ sym (ap (λ (c : Bool). cond c (side_of (get_or block (n + 1 - 1) 0)) z.side) passed)) i;
          waits = z.waits;
          at = n + 1;
          count = z.count;
          left = units i;
        })
        (running-pass (skip_to block z n) l r (omega (arith, q.inside)) (omega (arith, q.inside)) empty still)

    skip_all : (d : ℕ) → z.at + d ≤ to → Running w s allowance block l₀ (skip_to block z (z.at + d)) l
    skip_all zero b =
        let units : z.left ≡ z.left - (z.at + 0 - z.at) = omega arith in
        let place : z.at ≡ z.at + 0 = omega arith in
        let none : ltb z.at (z.at + 0) ≡ false = le-ltb z.at (z.at + 0) (omega arith) in
        subst (λ (y : Turn). Running w s allowance block l₀ y l)
        (λ i. record {
          live = z.live;
          before = sym (ap (λ (c : Bool). cond c z.live z.before) none) i;
          reported = z.reported;
          side = sym (ap (λ (c : Bool). cond c (side_of (get_or block (z.at + 0 - 1) 0)) z.side) none) i;
          waits = z.waits;
          at = place i;
          count = z.count;
          left = units i;
        })
        h
    skip_all (suc d) b =
        let next : z.at + d + 1 ≡ z.at + suc d = omega arith in
        subst (λ (n : ℕ). Running w s allowance block l₀ (skip_to block z n) l) next (skip-one (z.at + d) (omega arith) (omega arith) (skip_all d (omega arith)))

  pub running-skip : (z r : Turn) (l : Lists) → Running w s allowance block l₀ z l → Passed w s.taken block z r → Running w s allowance block l₀ r l
  running-skip z r l h p =
      let to : z.at + (r.at - z.at) ≡ r.at = omega (arith, p.skipped.rises) in
      subst (λ (y : Turn). Running w s allowance block l₀ y l) (sym p.is)
      (subst (λ (n : ℕ). Running w s allowance block l₀ (skip_to block z n) l) to (skip_all z l h r.at p.skipped (r.at - z.at) (omega (arith, p.skipped.rises))))

-- ---- a turn

-- bytes are passed over, and one is offered
module _ {w : Automaton} {s : Stream} {allowance : ℕ} {block : List ℕ} {l₀ : Lists} {z o : Turn} {l : Lists}
    (h : Running w s allowance block l₀ z l) (p : Passed w s.taken block z o) where
  pub passed-over : Running w s allowance block l₀ o l
  passed-over = running-skip w s allowance block l₀ z o l h p

  -- it is taken, and the next turn comes further
  module _ {r : Turn} {l' : Lists} (t : Takes w (here_at s.taken o) block o l r l') where
    pub turned : Running w s allowance block l₀ r l'
    turned = running-take w s allowance block l₀ o l passed-over r l' t

    pub further : length block - r.at < length block - z.at
    further = omega (arith, p.skipped.rises, ap (λ (y : Turn). y.at) t.is, t.inside)

  -- or the loop ends
  pub ran : {l' : Lists} → Stops w (here_at s.taken o) block o l l' → Ran w s allowance block l₀ o l'
  ran {l'} t = record {
    running = subst (Running w s allowance block l₀ o) (sym t.lists_are) passed-over;
    stops = stop-over w s allowance block l₀ o l passed-over l' t;
  }
