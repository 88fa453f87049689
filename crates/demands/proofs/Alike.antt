-- Both kinds of stream give the same, call by call, on a table in which no rule needs a start
-- (`alike`).
use mathlib.Core.Path.{◌≡◌, refl, sym, ap, ap₂, ◌∙◌}
use mathlib.Core.Bool.{Bool, true, false, true≢false, cond, not, ◌&&◌, ◌||◌, and-false}
use mathlib.Core.List.{List, [], ◌∷◌, ◌++◌, map}
use Prim.Native.Nat.{ℕ, ◌≤◌, ◌<◌}
use native.Mathlib.Omega.{arith}
use lib.Dec.{eqb, ltb, leb}
use lib.IntN.{pos}
use lib.ListN.{length, drop, length-map}
use borrow.Author.Tests.{ltb-true, leb-true, eqb-true}
use Rattle.sets.specs.Set.{on, has, is_empty}
use Rattle.sets.proofs.Laws.{empty-none, on-zero}
use Rattle.table.specs.Layout.{max_rules, max_positions}
use Rattle.table.specs.Table.{is_table}
use Rattle.table.specs.Automaton.{Automaton, automaton}
use Rattle.table.proofs.Test.{passes}
use Rattle.steps.specs.Step.{list_from}
use Rattle.stream.specs.declared.Stream.{Stream}
use Rattle.stream.specs.Byte.{after, reports_by, cost_by, fits_by, state_after, reports_of, cost_of, fits, two_reports, held_test, end_test}
use Rattle.stream.specs.Byte as stream-byte
use Rattle.stream.specs.Valid as stream
use Rattle.stream.specs.Valid.{sound, needs_starts, pending_late, begun}
use Rattle.stream.specs.Calls as stream-calls
use Rattle.stream.specs.Calls.{Scanned, Closed, column, over_limit, space_number, shut}
use Rattle.stream.proofs.Accepting.{Fitting, fitting, Accepted, accepted}
use Rattle.stream.proofs.Accepting as accepting
use Rattle.traced.specs.Calls.{Scanned as Trace-scanned, Closed as Trace-closed}
use Rattle.traced.specs.Byte.{Report, traced, close_reports}
use Rattle.traced.specs.Valid as traced-valid
use Rattle.starts.specs.Order.{starts_ok}
use Rattle.traced.specs.Calls as traced-calls
use Rattle.traced.specs.Calls.{Lists, Call, no_starts, space, in_stream, from_offset, written, scan_number, close_number}
use Rattle.traced.proofs.Accepting.{in_order}
use Rattle.traced.proofs.Same.{cost-after}
use Rattle.traced.proofs.Without.{plainly, state-plain, reports-plain, fits-plain, close-plain}
use Rattle.demands.proofs.Carried.{free-long}
use Rattle.demands.specs.Alike.{bare, pair_lists, pair_call, Roomy, times, zeroed, OpensAlike, Alike}
use Rattle.traced.proofs.Ordered.{order-list}

-- ---- the same states fit

-- where a byte is taken a start of 0 is below it; where none is, nothing is there
zeros-fit : (n : ℕ) (there : ℕ → Bool) (taken : ℕ) → ((q : ℕ) → q < n → there q ≡ true → 0 < taken)
    → starts_ok n there taken (list_from 0 n (λ q. 0)) ≡ true
zeros-fit n there taken h = order-list n there taken (λ q. 0) h (λ q lq e. refl)

-- a set with a member is not empty, and neither is a number with a digit 0
some_in : (set : List ℕ) (q : ℕ) → q < max_positions → has set q ≡ true → is_empty set ≡ false
some_in set q lq e = go (is_empty set) refl
  where
    go : (b : Bool) → is_empty set ≡ b → b ≡ false
    go true z = absurd (true≢false (sym e ∙ empty-none set z q lq))
    go false z = refl

module _ (w : Automaton) (s : Stream) (h : sound w s ≡ true) where
  fit : Fitting w s
  fit = fitting w s h

  -- so it comes with a byte
  member-late : (both : Bool) → (is_empty s.live && is_empty s.held) ≡ both → both ≡ false → 0 < s.taken
  unfolding begun
  member-late both e f = ltb-true 0 s.taken (ap (λ (b : Bool). b || ltb 0 s.taken) (sym f ∙ sym e) ∙ fit.after_first)

  live-late : (q : ℕ) → q < max_positions → has s.live q ≡ true → 0 < s.taken
  live-late q lq e = member-late _ refl (ap (λ (b : Bool). b && is_empty s.held) (some_in s.live q lq e))

  held-late : (q : ℕ) → q < max_positions → has s.held q ≡ true → 0 < s.taken
  held-late q lq e = member-late _ refl (ap (λ (b : Bool). is_empty s.live && b) (some_in s.held q lq e) ∙ and-false (is_empty s.live))

  pair-late : (a : ℕ) → a < max_rules → on s.pending a ≡ true → 0 < s.taken
  unfolding pending_late
  pair-late a la e = go (eqb s.pending 0) refl fit.late
    where
      go : (b : Bool) → eqb s.pending 0 ≡ b → (b || leb 2 s.taken) ≡ true → 0 < s.taken
      go true z l = absurd (true≢false (sym e ∙ ap (λ (n : ℕ). on n a) (eqb-true s.pending 0 z) ∙ on-zero a))
      go false z l = omega (arith, leb-true 2 s.taken l)

  in_order_lem : in_order (bare s) ≡ true
  in_order_lem =
      ap₂ (λ (b c : Bool). b && c) (zeros-fit max_positions (has s.live) s.taken live-late)
      (ap₂ (λ (b c : Bool). b && c) (zeros-fit max_positions (has s.held) s.taken held-late)
      (zeros-fit max_rules (on s.pending) s.taken pair-late))

module _ (w : Automaton) (needs : needs_starts w ≡ false) (s : Stream) where
  valid-alike : traced-valid.valid w (bare s) ≡ stream.valid w s
  unfolding traced-valid.valid stream.valid
  valid-alike = go (sound w s) refl
    where
      go : (b : Bool) → sound w s ≡ b → (b && in_order (bare s)) ≡ (b && not (needs_starts w))
      go true e = in_order_lem w s e ∙ ap not (sym needs)
      go false e = refl

-- ---- the same numbers

module _ (t : List ℕ) (needs : needs_starts (automaton t) ≡ false) (s : Stream) where
  scan-number : (len room : ℕ) → scan_number t (bare s) len room ≡ stream-calls.scan_number t s len room
  unfolding scan_number stream-calls.scan_number
  scan-number len room =
      ap (λ (b : Bool). cond (is_table t) (cond b (cond s.closed 19 (cond (over_limit s len) 21 (space_number t room))) 18) 1) (valid-alike (automaton t) needs s)

  close-number : (room : ℕ) → close_number t (bare s) room ≡ stream-calls.close_number t s room
  unfolding close_number stream-calls.close_number
  close-number room =
      ap (λ (b : Bool). cond (is_table t) (cond b (cond s.closed 19 (space_number t room)) 18) 1) (valid-alike (automaton t) needs s)

-- ---- the same reports

map-twice : {A B C : Type 0} (f : A → B) (g : B → C) (l : List A) → map g (map f l) ≡ map (λ x. g (f x)) l
map-twice f g [] = refl
map-twice {C = C} f g (x ∷ l) = ap (λ (r : List C). g (f x) ∷ r) (map-twice f g l)

map-times : {A B : Type 0} (y : B) (l : List A) → map (λ x. y) l ≡ times y (length l)
unfolding times
map-times y [] = refl
map-times {B = B} y (x ∷ l) = ap (λ (r : List B). y ∷ r) (map-times y l)

-- a column of reports without starts
columns : {A : Type 0} (f : Report → A) (new : List stream-byte.Report) (old : List A)
    → column f (map plainly new) old ≡ column (λ r. f (plainly r)) new old
columns {A} f new old =
    ap₂ (λ (a : List A) (n : ℕ). a ++ drop n old) (map-twice plainly f new) (length-map new plainly)

zeros-column : {A : Type 0} (f : Report → A) (none : A) (new : List stream-byte.Report) (old : List A) → ((r : stream-byte.Report) → f (plainly r) ≡ none)
    → column f (map plainly new) old ≡ times none (length new) ++ drop (length new) old
zeros-column {A} f none new old e =
    columns f new old ∙ ap (λ (a : List A). a ++ drop (length new) old) (all new ∙ map-times none new)
  where
    all : (l : List stream-byte.Report) → map (λ r. f (plainly r)) l ≡ map (λ r. none) l
    all [] = refl
    all (r ∷ l) = ap₂ (λ (x : A) (y : List A). x ∷ y) (e r) (all l)

module _ (first : ℕ) (new : List stream-byte.Report) (l : Lists) where
  written-plain : written first (map plainly new) l ≡ zeroed (length new) (stream-calls.written new (pair_lists l)) l
  unfolding written stream-calls.written
  written-plain = λ i. record {
    ids = columns (λ r. r.pair.id) new l.ids i;
    offsets = columns (λ r. r.pair.end) new l.offsets i;
    starts = zeros-column (λ r. in_stream r.start) 0 new l.starts (λ r. refl) i;
    relatives = zeros-column (λ r. from_offset first r.start) (pos 0) new l.relatives (λ r. refl) i;
  }

-- ---- a scan

abbrev lifted : Scanned → Trace-scanned
lifted a = record { number = a.number; taken = a.taken; reports = a.reports; used = a.used; traced = bare a.stream }

module _ (t : List ℕ) (needs : needs_starts (automaton t) ≡ false) (s : Stream) (c : Call) (room : Roomy c.slots) where
  abbrev w : Automaton
  w = automaton t

  -- the number and the bytes taken, with starts and without
  abbrev number : ℕ
  number = stream-calls.call_number t s (pair_call c)

  abbrev took : ℕ
  took = stream-calls.taken_by t s (pair_call c)

  abbrev first : ℕ
  first = traced-calls.taken_by t (bare s) c

  number_same : traced-calls.call_number t (bare s) c ≡ number
  number_same =
      scan-number t needs s (length c.block) (space c.slots)
      ∙ ap (stream-calls.scan_number t s (length c.block)) room

  abbrev new : List stream-byte.Report
  new = reports_of w s c.block took

  module _ (ok : eqb number 0 ≡ true) where
    few : w.rules ≤ max_rules
    unfolding automaton
    few = (passes t (accepted t s (length c.block) (stream-calls.space (pair_lists c.slots)) (eqb-true number 0 ok)).table).rules

    fitted : Fitting w s
    fitted = (accepted t s (length c.block) (stream-calls.space (pair_lists c.slots)) (eqb-true number 0 ok)).state

    took-same : first ≡ took
    unfolding traced-calls.taken_by stream-calls.taken_by
    took-same =
        fits-plain w needs (free-long t) few s c.block fitted c.allowance (space c.slots) (length c.block)
        ∙ ap (λ (r : ℕ). fits w s c.allowance c.block r (length c.block)) room

    reports-same : reports_by (traced w) (bare s) c.block first ≡ map plainly new
    reports-same = ap (reports_by (traced w) (bare s) c.block) took-same ∙ reports-plain w needs (free-long t) few s c.block fitted took

    state-same : after (traced w) (bare s) c.block first ≡ bare (state_after w s c.block took)
    state-same = ap (after (traced w) (bare s) c.block) took-same ∙ state-plain w needs (free-long t) few s c.block fitted took

    cost-same : cost_by (traced w) (bare s) c.block first ≡ cost_of w s c.block took
    cost-same = ap (cost_by (traced w) (bare s) c.block) took-same ∙ cost-after w (bare s) c.block took

  scan-alike : traced-calls.scanned t (bare s) c ≡ lifted (stream-calls.scanned t s (pair_call c))
  unfolding traced-calls.scanned stream-calls.scanned
  scan-alike =
      ap (λ (n : ℕ). cond (eqb n 0) mine (refused n)) number_same ∙ go (eqb number 0) refl
    where
      mine : Trace-scanned
      mine = record {
        number = 0;
        taken = first;
        reports = length (reports_by (traced w) (bare s) c.block first);
        used = cost_by (traced w) (bare s) c.block first;
        traced = after (traced w) (bare s) c.block first;
      }

      refused : ℕ → Trace-scanned
      refused n = record { number = n; taken = 0; reports = 0; used = 0; traced = bare s }

      go : (b : Bool) → eqb number 0 ≡ b
          → cond b mine (refused number)
          ≡ lifted (cond {A = Scanned} b (record { number = 0; taken = took; reports = length new; used = cost_of w s c.block took; stream = state_after w s c.block took }) (record { number = number; taken = 0; reports = 0; used = 0; stream = s }))
      go true e = λ i. record {
        number = 0;
        taken = took-same e i;
        reports = (ap length (reports-same e) ∙ length-map new plainly) i;
        used = cost-same e i;
        traced = state-same e i;
      }
      go false e = refl

  lists-alike : traced-calls.scanned_lists t (bare s) c
      ≡ zeroed (stream-calls.scanned t s (pair_call c)).reports (stream-calls.scanned_lists t s (pair_call c)) c.slots
  unfolding traced-calls.scanned_lists stream-calls.scanned stream-calls.scanned_lists times
  lists-alike =
      ap (λ (n : ℕ). cond (eqb n 0) (written s.taken (reports_by (traced w) (bare s) c.block first) c.slots) c.slots) number_same
      ∙ go (eqb number 0) refl
    where
      go : (b : Bool) → eqb number 0 ≡ b
          → cond b (written s.taken (reports_by (traced w) (bare s) c.block first) c.slots) c.slots
          ≡ zeroed (cond {A = Scanned} b (record { number = 0; taken = took; reports = length new; used = cost_of w s c.block took; stream = state_after w s c.block took }) (record { number = number; taken = 0; reports = 0; used = 0; stream = s })).reports
          (cond b (stream-calls.written new (pair_lists c.slots)) (pair_lists c.slots)) c.slots
      go true e = ap (λ (r : List Report). written s.taken r c.slots) (reports-same e) ∙ written-plain s.taken new c.slots
      go false e = refl

-- ---- a closing

module _ (t : List ℕ) (needs : needs_starts (automaton t) ≡ false) (s : Stream) (l : Lists) (room : Roomy l) where
  abbrev v : Automaton
  v = automaton t

  abbrev told : ℕ
  told = stream-calls.close_number t s (stream-calls.space (pair_lists l))

  told_same : close_number t (bare s) (space l) ≡ told
  told_same = close-number t needs s (space l) ∙ ap (stream-calls.close_number t s) room

  abbrev last : List stream-byte.Report
  last = stream-byte.close_reports v s

  table : eqb told 0 ≡ true → is_table t ≡ true
  table ok =
      let n : ℕ = stream-calls.space (pair_lists l) in
      (accepted t s 0 n (accepting.close-number t s n ∙ eqb-true told 0 ok)).table

  few_rules : eqb told 0 ≡ true → v.rules ≤ max_rules
  unfolding automaton
  few_rules ok = (passes t (table ok)).rules

  last-same : eqb told 0 ≡ true → close_reports v (bare s) ≡ map plainly last
  last-same ok =
      let n : ℕ = stream-calls.space (pair_lists l) in
      close-plain v needs (free-long t) (few_rules ok) (bare s) (accepted t s 0 n (accepting.close-number t s n ∙ eqb-true told 0 ok)).state

  close-alike : traced-calls.closed t (bare s) l
      ≡ record { number = (stream-calls.closed t s (pair_lists l)).number; reports = (stream-calls.closed t s (pair_lists l)).reports; traced = bare (stream-calls.closed t s (pair_lists l)).stream }
  unfolding traced-calls.closed stream-calls.closed
  close-alike =
      ap (λ (n : ℕ). cond (eqb n 0) (record { number = 0; reports = length (close_reports v (bare s)); traced = bare (shut s) }) (record { number = n; reports = 0; traced = bare s })) told_same
      ∙ go (eqb told 0) refl
    where
      go : (b : Bool) → eqb told 0 ≡ b
          → cond {A = Trace-closed} b (record { number = 0; reports = length (close_reports v (bare s)); traced = bare (shut s) }) (record { number = told; reports = 0; traced = bare s })
          ≡ record {
            number = (cond {A = Closed} b (record { number = 0; reports = length last; stream = shut s }) (record { number = told; reports = 0; stream = s })).number;
            reports = (cond {A = Closed} b (record { number = 0; reports = length last; stream = shut s }) (record { number = told; reports = 0; stream = s })).reports;
            traced = bare (cond {A = Closed} b (record { number = 0; reports = length last; stream = shut s }) (record { number = told; reports = 0; stream = s })).stream;
          }
      go true e = λ i. record { number = 0; reports = (ap length (last-same e) ∙ length-map last plainly) i; traced = bare (shut s) }
      go false e = refl

  close-lists-alike : traced-calls.closed_lists t (bare s) l
      ≡ zeroed (stream-calls.closed t s (pair_lists l)).reports (stream-calls.closed_lists t s (pair_lists l)) l
  unfolding traced-calls.closed_lists stream-calls.closed stream-calls.closed_lists times
  close-lists-alike =
      ap (λ (n : ℕ). cond (eqb n 0) (written s.taken (close_reports v (bare s)) l) l) told_same
      ∙ go (eqb told 0) refl
    where
      go : (b : Bool) → eqb told 0 ≡ b
          → cond b (written s.taken (close_reports v (bare s)) l) l
          ≡ zeroed (cond {A = Closed} b (record { number = 0; reports = length last; stream = shut s }) (record { number = told; reports = 0; stream = s })).reports
          (cond b (stream-calls.written last (pair_lists l)) (pair_lists l)) l
      go true e = ap (λ (r : List Report). written s.taken r l) (last-same e) ∙ written-plain s.taken last l
      go false e = refl

opens-alike : OpensAlike
unfolding traced-calls.opened
opens-alike t = refl

pub alike : Alike
alike = record {
  opens = opens-alike;
  scans = λ t needs s c room. (scan-alike t needs s c room, lists-alike t needs s c room);
  closes = λ t needs s l room. (close-alike t needs s l room, close-lists-alike t needs s l room);
}
