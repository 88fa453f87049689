-- Streams with starts: their calls go by the machine of one byte with starts, a valid state stays
-- valid, and on any table it is not refused. So lists of calls on such a stream give the ordered
-- list, starts included. Assumes nothing.
use mathlib.Core.Path.{◌≡◌, refl, sym, subst, ap, ap₂, ◌∙◌}
use mathlib.Core.Logic.{◌↔◌}
use mathlib.Core.Bool.{Bool, true, false, cond}
use mathlib.Core.List.{List, [], ◌∷◌, map, zip, Memᴰ}
use Prim.Native.Nat.{ℕ, suc, ◌-◌, ◌*◌, ◌^◌, ◌≤◌, ◌<◌}
use native.Mathlib.Omega.{arith}
use native.Mathlib.Decide.{ℕ_discrete}
use lib.ListN.{length, get_or, drop, length-map}
use lib.Seq.{take_at}
use borrow.Author.Tests.{eq-eqb}
use Rattle.table.specs.Layout.{rules_of, positions_of}
use Rattle.table.specs.Table.{is_table}
use Rattle.table.specs.Automaton.{Automaton, automaton}
use Rattle.stream.specs.declared.Stream.{Stream}
use Rattle.stream.specs.Byte.{Machine, after, reports_by, cost_by, two_reports, held_test}
use Rattle.stream.specs.Valid.{stream_limit}
use Rattle.stream.specs.Calls.{over_limit, fresh}
use Rattle.stream.proofs.Accepting.{fitting}
use Rattle.stream.proofs.Blocks.{taken-after, cost-some, cost-few}
use Rattle.traced.specs.declared.Traced.{Traced}
use Rattle.traced.specs.Calls.{Scanned, Closed}
use Rattle.traced.specs.Byte.{Start, none, Report as Trace, given, late_long, own_long, end_long, byte_reports, traced, late_start, own_start, end_start, close_reports}
use Rattle.traced.specs.Byte as starts
use Rattle.traced.specs.Valid.{valid}
use Rattle.traced.specs.Calls.{Lists, lists, Call, space, in_stream, from_offset, written, scan_number, close_number, call_number, taken_by, scanned, scanned_lists, closed, closed_lists}
use Rattle.traced.proofs.Accepting.{valid-parts, close-number, not-refused}
use Rattle.traced.proofs.Same.{stream_after, cost-after}
pub use Rattle.traced.proofs.Results.{ended, refused-scan, scan-number, refused-close, close-number-is, close-holds, close_state, close-valid, opened-is, opened-fits, progress}
use Rattle.traced.proofs.Results.{accepted-scan, taken_is, scanned-lists, accepted-close, scan-holds, scan_state, taken-within, scan-valid, scan_limit}
use Rattle.meaning.specs.Rule.{Rule, ByteSet}
use Rattle.meaning.specs.Ordered.{Pair, Report, report, Ordered}
use Rattle.demands.specs.Kinds.{with_start, traces_in, traces}
use Rattle.demands.specs.Chain.{Item, Fit, bytes_of, reports_of, OthersRefused, Closes, Blocks}
use Rattle.demands.proofs.Carried.{Carries}
use Rattle.demands.proofs.TwoRuns.{Told, placed, two_runs}
use Rattle.demands.proofs.Tracked.{opens}
use Rattle.demands.proofs.Starting.{told, told-last, starts_none, byte-turn, closing-turn, started}
use Rattle.demands.proofs.Whole.{byte_entries, closing_of, whole}
use Rattle.demands.proofs.Bytewise.{two-given}
use Rattle.demands.proofs.Lawful.{given_by, Lawful, Serves, joined_bytes}
use Rattle.demands.proofs.Allowances.{Writes, column-front}
use Rattle.demands.proofs.Short.{space-fit, by, passed}
use Rattle.demands.proofs.Streams.{ordered-by}

-- a report of the ordered list
abbrev pub trace : Trace → Report
trace r = (r.pair.id, r.pair.end, in_stream r.start)

-- ---- one call

-- what the slots up to the count hold
columns-zip : (new : List Trace) → map with_start (zip (zip (map (λ r. r.pair.id) new) (map (λ r. r.pair.end) new)) (map (λ r. in_stream r.start) new)) ≡ map trace new
unfolding zip mathlib.Core.List.zip_with
columns-zip [] = refl
columns-zip (r ∷ new) = ap (λ (l : List Report). trace r ∷ l) (columns-zip new)

slots-hold : (first : ℕ) (new : List Trace) (slots : Lists) → traces_in (length new) (written first new slots) ≡ map trace new
unfolding written
slots-hold first new slots =
    ap₂ (λ (p : List Pair) (s : List ℕ). map with_start (zip p s))
    (ap₂ zip (take_at (map (λ r. r.pair.id) new) (drop (length new) slots.ids) (length new) (length-map new (λ r. r.pair.id)))
    (take_at (map (λ r. r.pair.end) new) (drop (length new) slots.offsets) (length new) (length-map new (λ r. r.pair.end))))
    (take_at (map (λ r. in_stream r.start) new) (drop (length new) slots.starts) (length new) (length-map new (λ r. in_stream r.start)))
    ∙ columns-zip new

module _ (t : List ℕ) (z : Traced) (c : Call) where
  abbrev m : Machine Traced Trace
  m = traced (automaton t)

  scan_reports : call_number t z c ≡ 0 → traces_in (scanned t z c).reports (scanned_lists t z c) ≡ given_by m trace z c.block (taken_by t z c)
  unfolding scanned_lists
  scan_reports ok =
      ap₂ (λ (n : ℕ) (b : Bool). traces_in n (cond b (written z.stream.taken (reports_by m z c.block (taken_by t z c)) c.slots) c.slots))
      (ap (λ (a : Scanned). a.reports) (accepted-scan t z c ok)) (eq-eqb (call_number t z c) 0 ok)
      ∙ slots-hold z.stream.taken (reports_by m z c.block (taken_by t z c)) c.slots

module _ (t : List ℕ) (z : Traced) (l : Lists) where
  closed_reports : close_number t z (space l) ≡ 0 → traces_in (closed t z l).reports (closed_lists t z l) ≡ map trace (close_reports (automaton t) z)
  unfolding closed_lists
  closed_reports ok =
      ap₂ (λ (n : ℕ) (b : Bool). traces_in n (cond b (written z.stream.taken (close_reports (automaton t) z) l) l))
      (ap (λ (a : Closed). a.reports) (accepted-close t z l ok)) (eq-eqb (close_number t z (space l)) 0 ok)
      ∙ slots-hold z.stream.taken (close_reports (automaton t) z) l

-- ---- the machine of the calls

module _ (t : List ℕ) where
  abbrev w : Automaton
  w = automaton t

  pub lawful : Lawful traces t (traced (automaton t)) trace (close_reports (automaton t)) ended
  unfolding zip mathlib.Core.List.zip_with
  lawful = record {
    scan_open = λ z c ok. (scan-holds t z c ok).still_open;
    scan_taken = taken-within t;
    scan_state = scan_state t;
    scan_reports = λ z c ok.
        let e : call_number t z c ≡ 0 = sym (scan-number t z c) ∙ ok in
        scan_reports t z c e ∙ ap (given_by (traced w) trace z c.block) (sym (taken_is t z c e));
    scan_limit = scan_limit t;
    scan_refused = λ z c bad.
        let r = refused-scan t z c (λ e. bad (scan-number t z c ∙ e)) in
        (ap (λ (a : Scanned). a.taken) r, ap (λ (a : Scanned). traces_in a.reports (scanned_lists t z c)) r, ap (λ (a : Scanned). a.traced) r);
    close_open = λ z l ok. (close-holds t z l ok).still_open;
    close_state = close_state t;
    closed_reports = λ z l ok. closed_reports t z l (sym (close-number-is t z l) ∙ ok);
    close_refused = λ z l bad.
        let r = refused-close t z l (λ e. bad (close-number-is t z l ∙ e)) in
        (ap (λ (a : Closed). traces_in a.reports (closed_lists t z l)) r, ap (λ (a : Closed). a.traced) r);
    stream_after = λ z block n. stream_after w z block n;
    stream_ended = λ z. refl;
    offer_block = λ log c. refl;
    offer_allowance = λ log c. refl;
    offer_slots = λ log c. refl;
  }

  -- ---- states that fit

  module _ (table : is_table t ≡ true) where
    scan_fit : (z : Traced) → valid w z ≡ true → (len room : ℕ) → Fit (scan_number t z len room)
    unfolding scan_number
    scan_fit z fits len room =
        passed (is_table t) (valid w z) _ table fits
        (by z.stream.closed 19 _ (λ h. absurd (omega (arith, h)), λ h. absurd (omega (arith, h)))
        (by (over_limit z.stream len) 21 _ (λ h. absurd (omega (arith, h)), λ h. absurd (omega (arith, h))) (space-fit t room)))

    scan_fits : (z : Traced) (c : Call) → valid w z ≡ true → valid w (scanned t z c).traced ≡ true
    scan_fits z c fits = go (ℕ_discrete (scanned t z c).number 0)
      where
        go : Dec ((scanned t z c).number ≡ 0) → valid w (scanned t z c).traced ≡ true
        go (yes ok) = scan-valid t z c ok
        go (no bad) = ap (λ (a : Scanned). valid w a.traced) (refused-scan t z c (λ e. bad (scan-number t z c ∙ e))) ∙ fits

    close_fits : (z : Traced) (l : Lists) → valid w z ≡ true → valid w (closed t z l).traced ≡ true
    close_fits z l fits = go (ℕ_discrete (closed t z l).number 0)
      where
        go : Dec ((closed t z l).number ≡ 0) → valid w (closed t z l).traced ≡ true
        go (yes ok) = close-valid t z l ok
        go (no bad) = ap (λ (a : Closed). valid w a.traced) (refused-close t z l (λ e. bad (close-number-is t z l ∙ e))) ∙ fits

    pub serves : Serves traces t (λ z. valid w z ≡ true)
    serves = record {
      scan_fit = λ z c fits. subst Fit (sym (scan-number t z c)) (scan_fit z fits (length c.block) (space c.slots));
      close_fit = λ z l fits. subst Fit (close-number t z (space l) ∙ sym (close-number-is t z l)) (scan_fit z fits 0 (space l));
      scan_fits = scan_fits;
      close_fits = close_fits;
      scan_accepted = λ z c fits running short wide. scan-number t z c ∙ sym (not-refused t z (length c.block) (space c.slots) table fits running short wide);
      close_accepted = λ z l fits running wide.
          close-number-is t z l ∙ sym (close-number t z (space l))
          ∙ sym (not-refused t z 0 (space l) table fits running (omega (arith, limit z fits)) wide);
      progress = progress t;
    }
      where
        limit : (z : Traced) → valid w z ≡ true → z.stream.taken ≤ stream_limit
        limit z fits = (fitting w z.stream (valid-parts w z fits).0).limit

-- ---- what a scan writes

pub writes : (t : List ℕ) → Writes traces t (traced (automaton t)) (λ z new l. written z.stream.taken new l)
unfolding taken_by written
writes t = record {
  takes = λ z c ok. taken_is t z c (number_is z c ok);
  uses = λ z c ok. ap (λ (a : Scanned). a.used) (accepted-scan t z c (number_is z c ok)) ∙ ap (cost_by (traced (automaton t)) z c.block) (sym (taken_is t z c (number_is z c ok)));
  counts = λ z c ok.
      ap (λ (a : Scanned). a.reports) (accepted-scan t z c (number_is z c ok))
      ∙ ap (λ (n : ℕ). length (reports_by (traced (automaton t)) z c.block n)) (sym (taken_is t z c (number_is z c ok)));
  writes = λ z c ok.
      scanned-lists t z c (number_is z c ok) ∙ ap (λ (n : ℕ). written z.stream.taken (reports_by (traced (automaton t)) z c.block n) c.slots) (sym (taken_is t z c (number_is z c ok)));
  refused = λ z c bad.
      let r = refused-scan t z c (λ e. bad (scan-number t z c ∙ e)) in
      (ap (λ (a : Scanned). a.taken) r, ap (λ (a : Scanned). a.used) r, ap (λ (a : Scanned). a.reports) r);
  costs = λ z block n. (
    subst (λ (i : ℕ). n ≤ i) (sym (cost-after (automaton t) z block n)) (cost-some (automaton t) z.stream block n),
    subst (λ (i : ℕ). i ≤ 257 * n) (sym (cost-after (automaton t) z block n)) (cost-few (automaton t) z.stream block n),
  );
  fronts = λ z part rest l. λ i.
      lists (column-front (λ r. r.pair.id) part rest l.ids i) (column-front (λ r. r.pair.end) part rest l.offsets i)
      (column-front (λ r. in_stream r.start) part rest l.starts i) (column-front (λ r. from_offset z.stream.taken r.start) part rest l.relatives i);
  no_front = λ l j. refl;
  same_number = λ z c n. scan-number t z (traces.allow n c) ∙ sym (scan-number t z c);
  same_block = λ c n. refl;
  same_slots = λ c n. refl;
  new_allowance = λ c n. refl;
}
  where
    number_is : (z : Traced) (c : Call) → (scanned t z c).number ≡ 0 → call_number t z c ≡ 0
    number_is z c ok = sym (scan-number t z c) ∙ ok

-- ---- the ordered list

-- a report's start, as a number
in-stream : (b : Bool) (n : ℕ) → cond b n 0 ≡ in_stream (cond b (starts.from n) none)
in-stream true n = refl
in-stream false n = refl

module _ (w : Automaton) where
  given_is : (m e : ℕ) (start : ℕ → ℕ) (a : ℕ) → report (placed w m e (λ a. cond (w.leftmost a) (start a) 0) a) ≡ trace (given w e start a)
  given_is m e start a = ap (λ (n : ℕ). (w.id a, e, n)) (in-stream (w.leftmost a) (start a))

  -- with the moments and without: the reports of a byte, and of the closing
  byte-given : (k : ℕ) (z : Traced) (x : ℕ) → k ≡ z.stream.taken → (at : ℕ → Told) → at k ≡ told w z x → map report (byte_entries w at k) ≡ map trace (byte_reports w z x)
  unfolding byte_reports told
  byte-given k z x offset at is =
      ap (λ (y : Told). map report (two_runs w (suc k) k (suc k) y)) is
      ∙ two-given w trace (suc k) k (suc k) (told w z x) (given w k (late_start w z x)) (given w (suc k) (own_start w z x)) (given_is (suc k) k (late_start w z x)) (given_is (suc k) (suc k) (own_start w z x))
      ∙ ap (λ (o : ℕ). map trace (two_reports w (late_long w z.stream z.starts.live x) (own_long w z.stream z.starts.live x) z.stream.reported (given w o (late_start w z x)) (given w (suc o) (own_start w z x)))) offset

  closing-given : (at : ℕ → Told) (n : ℕ) (z : Traced) → n ≡ z.stream.taken → map report (closing_of w at n (told-last w z)) ≡ map trace (close_reports w z)
  unfolding closing_of close_reports told-last
  closing-given at n z offset =
      two-given w trace (suc n) (n - 1) n (told-last w z) (given w (n - 1) (λ a. get_or z.starts.pairs a 0)) (given w n (end_start w z))
      (given_is (suc n) (n - 1) (λ a. get_or z.starts.pairs a 0)) (given_is (suc n) n (end_start w z))
      ∙ ap (λ (o : ℕ). map trace (two_reports w (held_test w z.stream) (end_long w z) z.stream.reported (given w (o - 1) (λ a. get_or z.starts.pairs a 0)) (given w o (end_start w z)))) offset

module _ (t : List ℕ) (table : is_table t ≡ true) (rule : ℕ → Rule) (from : ℕ → ℕ) (tab : ℕ → ByteSet) (enc : Carries (automaton t) rule from tab) (rules : List Rule)
    (listed : (r : Rule) → Memᴰ r rules ↔ ((a : ℕ) × (a < (automaton t).rules) × (r ≡ rule a))) where
  abbrev begins : Traced
  begins = traces.begun t

  fresh_at : (traces.begun t).stream ≡ fresh (rules_of t) (positions_of t) false
  fresh_at = opened-is t table

  pub ordered : (l : List (Item Lists Call)) → OthersRefused traces t (traces.begun t) l → Closes traces t (traces.begun t) l → Blocks traces l
      → length (bytes_of traces t (traces.begun t) l) < 2 ^ 64 → Ordered rules (bytes_of traces t (traces.begun t) l) (reports_of traces t (traces.begun t) l)
  ordered l h c b few =
      let v : Automaton = automaton t in
      let bytes : List ℕ = bytes_of traces t begins l in
      let n : ℕ = length bytes in
      let small = joined_bytes traces t l begins h b in
      let at : ℕ → Traced = after (traced v) begins bytes in
      let first = opens v rule from tab enc bytes few begins.stream (ap (λ (s : Stream). s.taken) fresh_at) (ap (λ (s : Stream). s.live) fresh_at) (ap (λ (s : Stream). s.held) fresh_at)
      (ap (λ (s : Stream). s.reported) fresh_at) (ap (λ (s : Stream). s.pending) fresh_at) in
      let along = started v rule from tab enc bytes few small begins first (starts_none v rule from tab enc bytes few begins (ap (λ (s : Stream). s.pending) fresh_at)) in
      let tells : ℕ → Told = λ k. told v (at k) (get_or bytes k 0) in
      let offset : (k : ℕ) → k ≡ (at k).stream.taken =
      λ k. omega (arith, ap (λ (s : Stream). s.taken) (stream_after v begins bytes k), taken-after v begins.stream bytes k, ap (λ (s : Stream). s.taken) fresh_at) in
      ordered-by traces t (traced v) trace (close_reports v) ended (lawful t) rules begins (ap (λ (s : Stream). s.closed) fresh_at) l h c tells (told-last v (at n))
      (whole v rule from tab enc rules listed bytes tells
      (λ k lk. byte-turn v rule from tab enc bytes few k lk (small k lk) (at k) (along k (omega arith)).0 (along k (omega arith)).1)
      (told-last v (at n)) (closing-turn v rule from tab enc bytes few (at n) (along n (omega arith)).0 (along n (omega arith)).1))
      (λ k. byte-given v k (at k) (get_or bytes k 0) (offset k) tells refl) (closing-given v tells n (at n) (offset n))
