-- What a stream without starts reports for some bytes: what the lists then hold, and the same with
-- the moments. Assumes nothing.
use mathlib.Core.Path.{◌≡◌, refl, sym, ap, ap₂, ◌∙◌}
use mathlib.Core.Bool.{Bool, true, false, cond}
use mathlib.Core.List.{List, [], ◌∷◌, ◌++◌, map, map-append, zip}
use Prim.Native.Nat.{ℕ, zero, suc, ◌-◌}
use native.Mathlib.Omega.{arith}
use lib.ListN.{length, get_or, drop, length-map}
use lib.Seq.{take_at}
use Rattle.table.specs.Automaton.{Automaton}
use Rattle.stream.specs.declared.Stream.{Stream}
use Rattle.stream.specs.Byte.{Report as Slot, Machine, after, reports_by, due, given, run_reports, run_marks, two_reports, late_test, own_test, held_test, end_test, byte_reports, plain, state_after, close_reports}
use Rattle.stream.specs.Calls.{Lists, written}
use Rattle.stream.proofs.Blocks.{taken-after}
use Rattle.meaning.specs.Ordered.{Report, report, Entry}
use Rattle.demands.specs.Kinds.{without_start, reports_in}
use Rattle.demands.proofs.TwoRuns.{run, placed, Told, two_runs}
use Rattle.demands.proofs.Whole.{byte_entries, entries_of, closing_of}

-- the reports of rules without starts: those of the first k bytes of a block, and those of the
-- closing
abbrev pub startless : Slot → Report
startless r = (r.id, r.end, 0)

abbrev pub given_to : Automaton → Stream → List ℕ → ℕ → List Report
given_to w s block k = map startless (reports_by (plain w) s block k)

abbrev pub given_at_end : Automaton → Stream → List Report
given_at_end w s = map startless (close_reports w s)

-- what the slots up to the count hold
columns-zip : (new : List Slot) → map without_start (zip (map (λ r. r.id) new) (map (λ r. r.end) new)) ≡ map startless new
unfolding zip mathlib.Core.List.zip_with
columns-zip [] = refl
columns-zip (r ∷ new) = ap (λ (l : List Report). startless r ∷ l) (columns-zip new)

pub slots-hold : (new : List Slot) (slots : Lists) → reports_in (length new) (written new slots) ≡ map startless new
unfolding written
slots-hold new slots =
    ap₂ (λ (a b : List ℕ). map without_start (zip a b)) (take_at (map (λ r. r.id) new) (drop (length new) slots.ids) (length new) (length-map new (λ r. r.id)))
    (take_at (map (λ r. r.end) new) (drop (length new) slots.offsets) (length new) (length-map new (λ r. r.end)))
    ∙ columns-zip new

-- what a machine without starts goes by: at byte k of some bytes, from a state with nothing taken,
-- and at the closing
abbrev none : ℕ → ℕ
none a = 0

unfoldable pub plain_at : Automaton → Stream → List ℕ → ℕ → Told
plain_at w s bytes k = record {
  one = late_test w (state_after w s bytes k) (get_or bytes k 0);
  two = own_test w (state_after w s bytes k) (get_or bytes k 0);
  marks = (state_after w s bytes k).reported;
  first = none;
  second = none;
}

unfoldable pub plain_end : Automaton → Stream → Told
plain_end w s = record { one = held_test w s; two = end_test w s; marks = s.reported; first = none; second = none }

-- ---- with the moments

-- a run of reports, with moments and without
run-given : {R : Type 0} (out : R → Report) (test : ℕ → Bool) (marks : ℕ) (place : ℕ → Entry) (give : ℕ → R) → ((a : ℕ) → report (place a) ≡ out (give a)) → (n : ℕ)
    → map report (run test marks place n) ≡ map out (run_reports test marks give n)
unfolding run run_reports
run-given out test marks place give same zero = refl
run-given {R} out test marks place give same (suc n) =
    map-append report (run test marks place n) (cond (due test marks n) (place n ∷ []) [])
    ∙ ap₂ (λ (x y : List Report). x ++ y) (run-given out test marks place give same n) (one (due test marks n))
    ∙ sym (map-append out (run_reports test marks give n) (cond (due test marks n) (give n ∷ []) []))
  where
    one : (b : Bool) → map report (cond b (place n ∷ []) []) ≡ map out (cond b (give n ∷ []) [])
    one true = ap (λ (r : Report). r ∷ []) (same n)
    one false = refl

module _ (w : Automaton) {R : Type 0} (out : R → Report) where
  -- the two runs of a moment
  pub two-given : (m d e : ℕ) (x : Told) (first second : ℕ → R) → ((a : ℕ) → report (placed w m d x.first a) ≡ out (first a))
      → ((a : ℕ) → report (placed w m e x.second a) ≡ out (second a))
      → map report (two_runs w m d e x) ≡ map out (two_reports w x.one x.two x.marks first second)
  unfolding two_runs two_reports
  two-given m d e x first second p q =
      let later : ℕ = run_marks w x.one x.marks in
      map-append report (run x.one x.marks (placed w m d x.first) w.rules) (run x.two later (placed w m e x.second) w.rules)
      ∙ ap₂ (λ (l r : List Report). l ++ r) (run-given out x.one x.marks (placed w m d x.first) first p w.rules) (run-given out x.two later (placed w m e x.second) second q w.rules)
      ∙ sym (map-append out (run_reports x.one x.marks first w.rules) (run_reports x.two later second w.rules))

  -- bytes that are told so, one after the other
  pub entries-given : {S : Type 0} (m : Machine S R) (s : S) (bytes : List ℕ) (at : ℕ → Told)
      → ((i : ℕ) → map report (byte_entries w at i) ≡ map out (m.reports (after m s bytes i) (get_or bytes i 0)))
      → (k : ℕ) → map report (entries_of w at k) ≡ map out (reports_by m s bytes k)
  unfolding entries_of reports_by
  entries-given m s bytes at each zero = refl
  entries-given m s bytes at each (suc k) =
      map-append report (entries_of w at k) (byte_entries w at k)
      ∙ ap₂ (λ (x y : List Report). x ++ y) (entries-given m s bytes at each k) (each k)
      ∙ sym (map-append out (reports_by m s bytes k) (m.reports (after m s bytes k) (get_or bytes k 0)))

-- ---- without starts

module _ (w : Automaton) where
  -- the reports of some bytes
  abbrev pub given_of : Stream → List ℕ → List Report
  given_of s a = given_to w s a (length a)

  -- from a state with nothing taken those of a byte are those of its entries
  pub byte-given : (s : Stream) (bytes : List ℕ) → s.taken ≡ 0 → (k : ℕ)
      → map report (byte_entries w (plain_at w s bytes) k) ≡ map startless (byte_reports w (state_after w s bytes k) (get_or bytes k 0))
  unfolding byte_reports plain_at
  byte-given s bytes fresh k =
      let x : Stream = state_after w s bytes k in
      let late : ℕ → Bool = late_test w x (get_or bytes k 0) in
      let own : ℕ → Bool = own_test w x (get_or bytes k 0) in
      let offset : k ≡ x.taken = omega (arith, fresh, taken-after w s bytes k) in
      two-given w startless (suc k) k (suc k) (plain_at w s bytes k) (given w k) (given w (suc k)) (λ a. refl) (λ a. refl)
      ∙ ap (λ (o : ℕ). map startless (two_reports w late own x.reported (given w o) (given w (suc o)))) offset

  -- and so are those of the closing
  pub closing-given : (at : ℕ → Told) (n : ℕ) (last : Stream) → n ≡ last.taken → map report (closing_of w at n (plain_end w last)) ≡ given_at_end w last
  unfolding closing_of close_reports plain_end
  closing-given at n last offset =
      two-given w startless (suc n) (n - 1) n (plain_end w last) (given w (n - 1)) (given w n) (λ a. refl) (λ a. refl)
      ∙ ap (λ (o : ℕ). map startless (two_reports w (held_test w last) (end_test w last) last.reported (given w (o - 1)) (given w o))) offset
