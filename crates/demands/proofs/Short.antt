-- Streams without starts: their calls go by the machine of one byte, and on a table in which no
-- rule needs a start they are not refused for the state. Each is read off what stream proves of one
-- call. Assumes nothing.
use mathlib.Core.Path.{◌≡◌, refl, sym, subst, ap, ap₂, ◌∙◌}
use mathlib.Core.Logic.{inl, inr}
use mathlib.Core.Bool.{Bool, true, false, cond, true≢false}
use mathlib.Core.List.{List, [], ◌∷◌, zip}
use Prim.Native.Nat.{ℕ, ◌+◌, ◌*◌, ◌≤◌}
use native.Mathlib.Omega.{arith}
use native.Mathlib.Decide.{ℕ_discrete}
use lib.Dec.{ltb}
use lib.ListN.{length}
use borrow.Author.Tests.{eq-eqb, le-ltb}
use Rattle.table.specs.Layout.{rules_of}
use Rattle.table.specs.Table.{is_table}
use Rattle.table.specs.Automaton.{Automaton, automaton}
use Rattle.stream.specs.declared.Stream.{Stream}
use Rattle.stream.specs.Byte.{reports_by, plain, state_after, cost_of, close_reports}
use Rattle.stream.specs.Valid.{stream_limit, needs_starts, valid}
use Rattle.stream.specs.Calls.{Scanned, Closed, Lists, lists, Call, space, space_number, scan_number, close_number, call_number, taken_by, written, scanned, scanned_lists, shut, closed, closed_lists, over_limit}
use Rattle.stream.proofs.Accepting.{fitting, valid-parts, accepted, close-number}
use Rattle.stream.proofs.Blocks.{cost-some, cost-few}
use Rattle.stream.proofs.Results.{scan-number, taken-within, accepted-scan, refused-scan, progress, scanned-valid, close-number-is, accepted-close, refused-close, closed-valid}
use Rattle.demands.specs.Kinds.{reports_in, short}
use Rattle.demands.specs.Chain.{table_after, Item, scan, close, other, Fit, OthersRefused, Closes}
use Rattle.demands.proofs.Others.{kept}
use Rattle.demands.proofs.Lawful.{Lawful, Serves}
use Rattle.demands.proofs.Allowances.{Writes, column-front}
use Rattle.demands.proofs.Bytewise.{startless, given_to, given_at_end, slots-hold}

module _ (t : List ℕ) (s : Stream) (c : Call) where
  abbrev w : Automaton
  w = automaton t

  abbrev number : ℕ
  number = call_number t s c

  abbrev k : ℕ
  k = taken_by t s c

  -- the lists of an accepted scan, and its reports
  scanned-lists : number ≡ 0 → scanned_lists t s c ≡ written (reports_by (plain w) s c.block k) c.slots
  unfolding scanned_lists
  scanned-lists ok = rw (eq-eqb number 0 ok)

  pub scan_reports : number ≡ 0 → reports_in (scanned t s c).reports (scanned_lists t s c) ≡ given_to w s c.block k
  unfolding scanned_lists
  scan_reports ok =
      ap₂ (λ (n : ℕ) (b : Bool). reports_in n (cond b (written (reports_by (plain w) s c.block k) c.slots) c.slots))
      (ap (λ (c : Scanned). c.reports) (accepted-scan t s c ok)) (eq-eqb number 0 ok)
      ∙ slots-hold (reports_by (plain w) s c.block k) c.slots

module _ (t : List ℕ) (s : Stream) (slots : Lists) where
  abbrev w' : Automaton
  w' = automaton t

  abbrev number' : ℕ
  number' = close_number t s (space slots)

  -- the reports of an accepted closing
  pub closed_reports : number' ≡ 0 → reports_in (closed t s slots).reports (closed_lists t s slots) ≡ given_at_end w' s
  unfolding closed_lists
  closed_reports ok =
      ap₂ (λ (n : ℕ) (b : Bool). reports_in n (cond b (written (close_reports w' s) slots) slots))
      (ap (λ (c : Closed). c.reports) (accepted-close t s slots ok)) (eq-eqb number' 0 ok)
      ∙ slots-hold (close_reports w' s) slots

-- a closed stream refuses
pub shut-scan : (t : List ℕ) (s : Stream) (len room : ℕ) → s.closed ≡ true → ¬ (scan_number t s len room ≡ 0)
shut-scan t s len room e h = true≢false (sym e ∙ (accepted t s len room h).still_open)

pub shut-close : (t : List ℕ) (s : Stream) (room : ℕ) → s.closed ≡ true → ¬ (close_number t s room ≡ 0)
shut-close t s room e h = shut-scan t s 0 room e (close-number t s room ∙ h)

pub lawful : (t : List ℕ) → Lawful short t (plain (automaton t)) startless (close_reports (automaton t)) shut
unfolding zip mathlib.Core.List.zip_with
lawful t = record {
  scan_open = λ s c ok. (accepted t s (length c.block) (space c.slots) (sym (scan-number t s c) ∙ ok)).still_open;
  scan_taken = λ s c ok. taken-within t s c;
  scan_state = λ s c ok. state s c (sym (scan-number t s c) ∙ ok);
  scan_reports = λ s c ok.
      let e : call_number t s c ≡ 0 = sym (scan-number t s c) ∙ ok in
      scan_reports t s c e ∙ ap (given_to (automaton t) s c.block) (sym (ap (λ (a : Scanned). a.taken) (accepted-scan t s c e)));
  scan_limit = λ s c ok. (fitting (automaton t) (scanned t s c).stream (valid-parts (automaton t) (scanned t s c).stream (scanned-valid t s c ok)).0).limit;
  scan_refused = λ s c bad.
      let r = refused-scan t s c (λ e. bad (scan-number t s c ∙ e)) in
      (ap (λ (a : Scanned). a.taken) r, ap (λ (a : Scanned). reports_in a.reports (scanned_lists t s c)) r, ap (λ (a : Scanned). a.stream) r);
  close_open = λ s l ok. (accepted t s 0 (space l) (close-number t s (space l) ∙ sym (close-number-is t s l) ∙ ok)).still_open;
  close_state = λ s l ok. ap (λ (a : Closed). a.stream) (accepted-close t s l (sym (close-number-is t s l) ∙ ok));
  closed_reports = λ s l ok. closed_reports t s l (sym (close-number-is t s l) ∙ ok);
  close_refused = λ s l bad.
      let r = refused-close t s l (λ e. bad (close-number-is t s l ∙ e)) in
      (ap (λ (a : Closed). reports_in a.reports (closed_lists t s l)) r, ap (λ (a : Closed). a.stream) r);
  stream_after = λ s block n. refl;
  stream_ended = λ s. refl;
  offer_block = λ log c. refl;
  offer_allowance = λ log c. refl;
  offer_slots = λ log c. refl;
}
  where
    state : (s : Stream) (c : Call) → call_number t s c ≡ 0 → (scanned t s c).stream ≡ state_after (automaton t) s c.block (scanned t s c).taken
    state s c e =
        let r = accepted-scan t s c e in
        ap (λ (a : Scanned). a.stream) r ∙ ap (state_after (automaton t) s c.block) (sym (ap (λ (a : Scanned). a.taken) r))

-- ---- states that fit

-- the numbers that are left when table and state pass
pub space-fit : (t : List ℕ) (room : ℕ) → Fit (space_number t room)
unfolding space_number
space-fit t room = go (ltb room (2 * rules_of t))
  where
    go : (b : Bool) → Fit (cond b 20 0)
    go true = (λ h. absurd (omega (arith, h)), λ h. absurd (omega (arith, h)))
    go false = (λ h. absurd (omega (arith, h)), λ h. absurd (omega (arith, h)))

pub by : (b : Bool) (n m : ℕ) → Fit n → Fit m → Fit (cond b n m)
by true n m f g = f
by false n m f g = g

pub passed : (y z : Bool) (n : ℕ) → y ≡ true → z ≡ true → Fit n → Fit (cond y (cond z n 18) 1)
passed true true n e f h = h
passed true false n e f h = absurd (true≢false (sym f))
passed false z n e f h = absurd (true≢false (sym e))

module _ (t : List ℕ) (table : is_table t ≡ true) (s : Stream) (fits : valid (automaton t) s ≡ true) where
  scan_fit : (len room : ℕ) → Fit (scan_number t s len room)
  unfolding scan_number
  scan_fit len room =
      passed (is_table t) (valid (automaton t) s) _ table fits
      (by s.closed 19 _ (λ h. absurd (omega (arith, h)), λ h. absurd (omega (arith, h)))
      (by (over_limit s len) 21 _ (λ h. absurd (omega (arith, h)), λ h. absurd (omega (arith, h))) (space-fit t room)))

  close_fit : (room : ℕ) → Fit (close_number t s room)
  unfolding close_number
  close_fit room =
      passed (is_table t) (valid (automaton t) s) _ table fits
      (by s.closed 19 _ (λ h. absurd (omega (arith, h)), λ h. absurd (omega (arith, h))) (space-fit t room))

  -- the state that a scan or a closing hands on fits
  pub scan-valid : (c : Call) → valid (automaton t) (scanned t s c).stream ≡ true
  scan-valid c = go (ℕ_discrete (call_number t s c) 0)
    where
      go : Dec (call_number t s c ≡ 0) → valid (automaton t) (scanned t s c).stream ≡ true
      go (yes ok) = scanned-valid t s c (scan-number t s c ∙ ok)
      go (no bad) = ap (λ (r : Scanned). valid (automaton t) r.stream) (refused-scan t s c bad) ∙ fits

  pub close-valid : (slots : Lists) → valid (automaton t) (closed t s slots).stream ≡ true
  close-valid slots = go (ℕ_discrete (close_number t s (space slots)) 0)
    where
      go : Dec (close_number t s (space slots) ≡ 0) → valid (automaton t) (closed t s slots).stream ≡ true
      go (yes ok) = closed-valid t s slots (close-number-is t s slots ∙ ok)
      go (no bad) = ap (λ (r : Closed). valid (automaton t) r.stream) (refused-close t s slots bad) ∙ fits

module _ (t : List ℕ) (table : is_table t ≡ true) where
  scan_accepted : (s : Stream) → valid (automaton t) s ≡ true → s.closed ≡ false → (len room : ℕ) → s.taken + len ≤ stream_limit → 2 * rules_of t ≤ room
      → scan_number t s len room ≡ 0
  unfolding scan_number space_number
  scan_accepted s fits running len room short wide =
      ap (λ (b : Bool). cond b (cond (valid (automaton t) s) (cond s.closed 19 (cond (over_limit s len) 21 (cond (ltb room (2 * rules_of t)) 20 0))) 18) 1) table
      ∙ ap (λ (b : Bool). cond b (cond s.closed 19 (cond (over_limit s len) 21 (cond (ltb room (2 * rules_of t)) 20 0))) 18) fits
      ∙ ap (λ (b : Bool). cond b 19 (cond (over_limit s len) 21 (cond (ltb room (2 * rules_of t)) 20 0))) running
      ∙ ap (λ (b : Bool). cond b 21 (cond (ltb room (2 * rules_of t)) 20 0)) (le-ltb stream_limit (s.taken + len) short)
      ∙ ap (λ (b : Bool). cond b 20 0) (le-ltb room (2 * rules_of t) wide)

  close_accepted : (s : Stream) → valid (automaton t) s ≡ true → s.closed ≡ false → (room : ℕ) → 2 * rules_of t ≤ room → close_number t s room ≡ 0
  unfolding close_number space_number
  close_accepted s fits running room wide =
      ap (λ (b : Bool). cond b (cond (valid (automaton t) s) (cond s.closed 19 (cond (ltb room (2 * rules_of t)) 20 0)) 18) 1) table
      ∙ ap (λ (b : Bool). cond b (cond s.closed 19 (cond (ltb room (2 * rules_of t)) 20 0)) 18) fits
      ∙ ap (λ (b : Bool). cond b 19 (cond (ltb room (2 * rules_of t)) 20 0)) running
      ∙ ap (λ (b : Bool). cond b 20 0) (le-ltb room (2 * rules_of t) wide)

pub serves : (t : List ℕ) → is_table t ≡ true → Serves short t (λ s. valid (automaton t) s ≡ true)
serves t table = record {
  scan_fit = λ s c fits. subst Fit (sym (scan-number t s c)) (scan_fit t table s fits (length c.block) (space c.slots));
  close_fit = λ s l fits. subst Fit (sym (close-number-is t s l)) (close_fit t table s fits (space l));
  scan_fits = λ s c fits. scan-valid t table s fits c;
  close_fits = λ s l fits. close-valid t table s fits l;
  scan_accepted = λ s c fits running short wide. scan-number t s c ∙ scan_accepted t table s fits running (length c.block) (space c.slots) short wide;
  close_accepted = λ s l fits running wide. close-number-is t s l ∙ close_accepted t table s fits running (space l) wide;
  progress = λ s c ok paid some. progress t s c ok paid some;
}

-- a stream that is closed is on a table in which no rule needs a start
pub closing-startless : (t : List ℕ) (l : List (Item Lists Call)) (s : Stream) → OthersRefused short t s l → Closes short t s l → needs_starts (automaton t) ≡ false
unfolding OthersRefused Closes
closing-startless t [] s h shuts = absurd shuts
closing-startless t (scan c ∷ l) s h shuts = closing-startless t l (scanned t s c).stream h shuts
closing-startless t (close slots ∷ l) s h (inl ok) =
    (accepted t s 0 (space slots) (close-number t s (space slots) ∙ sym (close-number-is t s slots) ∙ ok)).none_has_starts
closing-startless t (close slots ∷ l) s h (inr shuts) = closing-startless t l (closed t s slots).stream h shuts
closing-startless t (other o ∷ l) s h shuts =
    let same : table_after t o ≡ t = kept t o h.0 in
    closing-startless t l s (subst (λ (u : List ℕ). OthersRefused short u s l) same h.1) (subst (λ (u : List ℕ). Closes short u s l) same shuts)

-- ---- what a scan writes

pub writes : (t : List ℕ) → Writes short t (plain (automaton t)) (λ s new l. written new l)
unfolding taken_by written
writes t = record {
  takes = λ s c ok. taken_is s c (number_is s c ok);
  uses = λ s c ok. ap (λ (a : Scanned). a.used) (accepted-scan t s c (number_is s c ok)) ∙ ap (cost_of (automaton t) s c.block) (sym (taken_is s c (number_is s c ok)));
  counts = λ s c ok.
      ap (λ (a : Scanned). a.reports) (accepted-scan t s c (number_is s c ok))
      ∙ ap (λ (n : ℕ). length (reports_by (plain (automaton t)) s c.block n)) (sym (taken_is s c (number_is s c ok)));
  writes = λ s c ok.
      lists_are s c (number_is s c ok) ∙ ap (λ (n : ℕ). written (reports_by (plain (automaton t)) s c.block n) c.slots) (sym (taken_is s c (number_is s c ok)));
  refused = λ s c bad.
      let r = refused-scan t s c (λ e. bad (scan-number t s c ∙ e)) in
      (ap (λ (a : Scanned). a.taken) r, ap (λ (a : Scanned). a.used) r, ap (λ (a : Scanned). a.reports) r);
  costs = λ s block n. (cost-some (automaton t) s block n, cost-few (automaton t) s block n);
  fronts = λ s part rest l. λ i. lists (column-front (λ r. r.id) part rest l.ids i) (column-front (λ r. r.end) part rest l.offsets i);
  no_front = λ l j. refl;
  same_number = λ s c n. scan-number t s (short.allow n c) ∙ sym (scan-number t s c);
  same_block = λ c n. refl;
  same_slots = λ c n. refl;
  new_allowance = λ c n. refl;
}
  where
    number_is : (s : Stream) (c : Call) → (scanned t s c).number ≡ 0 → call_number t s c ≡ 0
    number_is s c ok = sym (scan-number t s c) ∙ ok

    taken_is : (s : Stream) (c : Call) → call_number t s c ≡ 0 → (scanned t s c).taken ≡ taken_by t s c
    taken_is s c e = ap (λ (a : Scanned). a.taken) (accepted-scan t s c e)

    lists_are : (s : Stream) (c : Call) → call_number t s c ≡ 0 → scanned_lists t s c ≡ written (reports_by (plain (automaton t)) s c.block (taken_by t s c)) c.slots
    lists_are s c e = scanned-lists t s c e
