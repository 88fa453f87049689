-- Demand 1: the theorem of each public function, and what the definitions that they cite give where
-- the number is not 0. Assumes nothing.
use mathlib.Core.Path.{◌≡◌, refl, ap, ◌∙◌}
use mathlib.Core.Bool.{Bool, true, false, cond}
use mathlib.Core.List.{List, []}
use Prim.Native.Nat.{ℕ, ◌+◌, ◌-◌}
use lib.ListN.{length, take, drop}
use borrow.Author.Tests.{ne_eqb}
use Rattle.table.specs.Layout.{rules_of, positions_of}
use Rattle.table.specs.Table.{is_table}
use Rattle.table.proofs.empty.Met.{met as empty-met}
use Rattle.table.proofs.is_table.Met.{met as is_table-met}
use Rattle.rules.proofs.Checks.{accepted-place}
use Rattle.rules.proofs.add.Met.{met as add-met}
use Rattle.rules.proofs.add_within.Met.{met as add-within-met}
use Rattle.card.specs.Calls.{Stored}
use Rattle.card.proofs.Theorems.{write_kept}
use Rattle.card.proofs.write_block.Met.{met as card-write-met}
use Rattle.matched.specs.Matched.{in_block, in_tail, matched_bytes, matched_number}
use Rattle.matched.proofs.matched_bytes.Met.{met as matched-bytes-met}
use Rattle.matched.proofs.matched_number.Met.{met as matched-number-met}
use Rattle.matched.proofs.matched_part.Met.{met as matched-part-met}
use Rattle.card.proofs.read_block.Met.{met as card-read-met}
use Rattle.stream.specs.declared.Stream.{Stream}
use Rattle.stream.specs.Calls.{Opened, Scanned, Closed, fresh, opened, space, close_number, call_number, scanned_lists, closed_lists}
use Rattle.traced.specs.Calls.{Scanned as Trace-scanned, Closed as Trace-closed}
use Rattle.traced.specs.Calls as traced
use Rattle.stream.proofs.Results.{accepted-scan, refused-scan, accepted-close, refused-close}
use Rattle.stream.proofs.Stream.«open».Met.{met as open-met}
use Rattle.stream.proofs.Stream.scan.Met.{met as scan-met}
use Rattle.stream.proofs.Stream.close.Met.{met as close-met}
use Rattle.stream.proofs.Stream.busy.Met.{met as busy-met}
use Rattle.stream.proofs.is_sound.Met.{met as sound-met}
use Rattle.stream.proofs.needs_starts.Met.{met as needs-met}
use Rattle.traced.proofs.Traced.«open».Met.{met as trace-open-met}
use Rattle.traced.proofs.Traced.scan.Met.{met as trace-scan-met}
use Rattle.traced.proofs.Traced.close.Met.{met as trace-close-met}
use Rattle.traced.proofs.Traced.busy.Met.{met as trace-busy-met}
use Rattle.demands.specs.Chain.{this, emptying, adding, reading_block, number_of, table_after}
use Rattle.demands.specs.Demand1.{Answers, CallsRefused, Refusals, Demand1}
use Rattle.demands.specs.Kinds.{short, traces}
use Rattle.demands.proofs.Others.{kept}
use Rattle.demands.proofs.Traced.{scan-number as trace-number, refused-scan as trace-refused, close-number-is as trace-close-number, refused-close as trace-close-refused}

answers : Answers
answers = record {
  emptying = empty-met;
  testing = is_table-met;
  adding = add-met;
  adding_within = add-within-met;
  opening = open-met;
  scanning = scan-met;
  closing = close-met;
  busy = busy-met;
  trace_opening = trace-open-met;
  trace_scanning = trace-scan-met;
  trace_closing = trace-close-met;
  trace_busy = trace-busy-met;
  writing_block = card-write-met;
  reading_block = card-read-met;
  fitting = sound-met;
  needing_starts = needs-met;
  showing = matched-bytes-met;
  showing_part = matched-part-met;
  showing_number = matched-number-met;
}

open-refused : (t : List ℕ) → ¬ ((opened t).number ≡ 0) → (opened t).stream ≡ fresh 0 0 true
unfolding opened
open-refused t = go (is_table t)
  where
    go : (b : Bool)
        → ¬ ((cond {A = Opened} b (record { number = 0; stream = fresh (rules_of t) (positions_of t) false }) (record { number = 1; stream = fresh 0 0 true })).number ≡ 0)
        → (cond {A = Opened} b (record { number = 0; stream = fresh (rules_of t) (positions_of t) false }) (record { number = 1; stream = fresh 0 0 true })).stream ≡ fresh 0 0 true
    go true h = absurd (h refl)
    go false h = refl

trace-open-refused : (t : List ℕ) → ¬ ((traced.opened t).number ≡ 0) → (traced.opened t).traced ≡ record { stream = fresh 0 0 true; starts = traced.no_starts }
unfolding traced.opened
trace-open-refused t bad = ap (λ (s : Stream). record { stream = s; starts = traced.no_starts }) (open-refused t bad)

streams : CallsRefused short
unfolding scanned_lists closed_lists
streams = record {
  scanning = λ t s c bad.
      let no : ¬ (call_number t s c ≡ 0) = λ ok. bad (ap (λ (a : Scanned). a.number) (accepted-scan t s c ok)) in
      let r = refused-scan t s c no in
      record {
        taken = ap (λ (a : Scanned). a.taken) r;
        used = ap (λ (a : Scanned). a.used) r;
        count = ap (λ (a : Scanned). a.reports) r;
        state = ap (λ (a : Scanned). a.stream) r;
        lists_kept = rw (ne_eqb (call_number t s c) 0 no);
      };
  closing = λ t s l bad.
      let no : ¬ (close_number t s (space l) ≡ 0) = λ ok. bad (ap (λ (a : Closed). a.number) (accepted-close t s l ok)) in
      let r = refused-close t s l no in
      record { taken = refl; used = refl; count = ap (λ (a : Closed). a.reports) r; state = ap (λ (a : Closed). a.stream) r; lists_kept = rw (ne_eqb (close_number t s (space l)) 0 no) };
}

traced_streams : CallsRefused traces
unfolding traced.scanned_lists traced.closed_lists
traced_streams = record {
  scanning = λ t z c bad.
      let no : ¬ (traced.call_number t z c ≡ 0) = λ ok. bad (trace-number t z c ∙ ok) in
      let r = trace-refused t z c no in
      record {
        taken = ap (λ (a : Trace-scanned). a.taken) r;
        used = ap (λ (a : Trace-scanned). a.used) r;
        count = ap (λ (a : Trace-scanned). a.reports) r;
        state = ap (λ (a : Trace-scanned). a.traced) r;
        lists_kept = rw (ne_eqb (traced.call_number t z c) 0 no);
      };
  closing = λ t z l bad.
      let no : ¬ (traced.close_number t z (traced.space l) ≡ 0) = λ ok. bad (trace-close-number t z l ∙ ok) in
      let r = trace-close-refused t z l no in
      record {
        taken = refl;
        used = refl;
        count = ap (λ (a : Trace-closed). a.reports) r;
        state = ap (λ (a : Trace-closed). a.traced) r;
        lists_kept = rw (ne_eqb (traced.close_number t z (traced.space l)) 0 no);
      };
}

none-shown : (tail block : List ℕ) (offset start end : ℕ) → ¬ (matched_number tail block offset start end ≡ 0) → matched_bytes tail block offset start end ≡ []
unfolding matched_bytes matched_number
none-shown tail block offset start end bad = go (in_block block offset start end) (in_tail tail offset start end) bad
  where
    go : (x y : Bool) → ¬ (◌≡◌ {A = ℕ} (cond x 0 (cond y 0 25)) 0)
        → cond x (take (end - start) (drop (start - offset) block)) (cond y (take (end - start) (drop (start + length tail - offset) tail)) []) ≡ []
    go true y h = absurd (h refl)
    go false true h = absurd (h refl)
    go false false h = refl

refusals : Refusals
unfolding number_of table_after
refusals = record {
  emptying = λ t bad. kept t (emptying this) bad;
  adding = λ t a bad. kept t (adding this a) bad;
  added = accepted-place;
  opening = open-refused;
  trace_opening = trace-open-refused;
  streams = streams;
  traced_streams = traced_streams;
  writing_block = λ t i b bad. write_kept t i b (λ e. bad (ap (λ (a : Stored). a.number) e));
  reading_block = λ t i b bad. kept t (reading_block this i b) bad;
  showing = none-shown;
}

pub demand1 : Demand1
demand1 = record { answers = answers; refusals = refusals }
