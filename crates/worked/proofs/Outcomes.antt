-- What each call of a list gives, followed by an automaton alone: the table and the state fit, so
-- of a call's number only 19, 21 and 20 are left to ask. Two automata that agree give the same. The
-- joined bytes and reports are read off what the calls gave. Assumes nothing.
use mathlib.Core.Path.{◌≡◌, refl, sym, subst, ap, ap₂, ◌∙◌}
use mathlib.Core.Logic.{inl, inr}
use mathlib.Core.Bool.{Bool, true, false, cond}
use mathlib.Core.List.{List, [], ◌∷◌, ◌++◌, map, zip}
use Prim.Native.Nat.{ℕ, zero, suc, ◌*◌, ◌≤◌}
use native.Mathlib.Omega.{arith}
use native.Mathlib.Decide.{ℕ_discrete}
use lib.Dec.{eqb, ltb}
use lib.ListN.{length, take}
use borrow.Author.Tests.{eq-eqb, ne_eqb}
use Rattle.table.specs.Table.{is_table}
use Rattle.table.specs.Automaton.{Automaton, automaton}
use Rattle.stream.specs.declared.Stream.{Stream}
use Rattle.stream.specs.Byte.{plain, state_after, fits}
use Rattle.stream.specs.Valid.{valid}
use Rattle.stream.specs.Calls.{Scanned, Closed, Lists, Call, space, space_number, scan_number, close_number, call_number, taken_by, scanned, scanned_lists, shut, closed, closed_lists, over_limit}
use Rattle.stream.proofs.Machines.{fits_le}
use Rattle.stream.proofs.Results.{accepted-scan, refused-scan, accepted-close, refused-close}
use Rattle.meaning.specs.Ordered.{Report}
use Rattle.demands.specs.Kinds.{reports_in, short}
use Rattle.demands.specs.Chain.{Item, scan, close, other, table_after, bytes_of, reports_of, Outcome, by_scan, by_close, outcomes_of, OthersRefused, Closes, Bytes}
use Rattle.demands.proofs.Bytewise.{startless, given_to, given_at_end}
use Rattle.demands.proofs.Others.{kept}
use Rattle.demands.proofs.Short.{scan_reports, closed_reports, scan-valid, close-valid}
use Rattle.worked.proofs.Agreeing.{Agree, Inside, states-agree, all-agree, fits-agree, inside-after, closing-agrees}

-- a call of the stream, of whose lent lists only the space counts
pub data Asked : Type 0 where
  scans : (allowance : ℕ) (block : List ℕ) (room : ℕ) → Asked
  closes : (room : ℕ) → Asked

unfoldable pub calls_in : List (Item Lists Call) → List Asked
calls_in [] = []
calls_in (scan c ∷ l) = scans c.allowance c.block (space c.slots) ∷ calls_in l
calls_in (close slots ∷ l) = closes (space slots) ∷ calls_in l
calls_in (other o ∷ l) = calls_in l

-- the numbers that are left once table and state fit
unfoldable pub scan_left : (rules : ℕ) → Stream → (len room : ℕ) → ℕ
scan_left rules s len room = cond s.closed 19 (cond (over_limit s len) 21 (cond (ltb room (2 * rules)) 20 0))

unfoldable pub close_left : (rules : ℕ) → Stream → (room : ℕ) → ℕ
close_left rules s room = cond s.closed 19 (cond (ltb room (2 * rules)) 20 0)

module _ (w : Automaton) where
  abbrev bytes_taken : Stream → ℕ → List ℕ → ℕ → ℕ
  bytes_taken s allowance block room = fits w s allowance block room (length block)

  -- what a call gives, and the state after it
  unfoldable pub gives : Stream → Asked → Outcome
  gives s (scans allowance block room) =
      let number : ℕ = scan_left w.rules s (length block) room in
      cond (eqb number 0) (by_scan 0 (bytes_taken s allowance block room) (given_to w s block (bytes_taken s allowance block room))) (by_scan number 0 [])
  gives s (closes room) = let number : ℕ = close_left w.rules s room in cond (eqb number 0) (by_close 0 (given_at_end w s)) (by_close number [])

  unfoldable pub moves : Stream → Asked → Stream
  moves s (scans allowance block room) = cond (eqb (scan_left w.rules s (length block) room) 0) (state_after w s block (bytes_taken s allowance block room)) s
  moves s (closes room) = cond (eqb (close_left w.rules s room) 0) (shut s) s

  unfoldable pub run : Stream → List Asked → List Outcome
  run s [] = []
  run s (c ∷ l) = gives s c ∷ run (moves s c) l

-- ---- a call on words, followed by their automaton

module _ (t : List ℕ) (table : is_table t ≡ true) (s : Stream) (fit : valid (automaton t) s ≡ true) where
  scan-left : (len room : ℕ) → scan_number t s len room ≡ scan_left (automaton t).rules s len room
  unfolding scan_number scan_left space_number automaton
  scan-left len room = rw (table, fit)

  close-left : (room : ℕ) → close_number t s room ≡ close_left (automaton t).rules s room
  unfolding close_number close_left space_number automaton
  close-left room = rw (table, fit)

  module _ (c : Call) where
    abbrev left : ℕ
    left = scan_left (automaton t).rules s (length c.block) (space c.slots)

    abbrev k : ℕ
    k = fits (automaton t) s c.allowance c.block (space c.slots) (length c.block)

    abbrev given : Outcome
    given = by_scan (scanned t s c).number (scanned t s c).taken (reports_in (scanned t s c).reports (scanned_lists t s c))

    scan-gives : (given ≡ gives (automaton t) s (scans c.allowance c.block (space c.slots)))
        × ((scanned t s c).stream ≡ moves (automaton t) s (scans c.allowance c.block (space c.slots)))
    unfolding gives moves taken_by zip mathlib.Core.List.zip_with
    scan-gives = go (ℕ_discrete (call_number t s c) 0)
      where
        e : call_number t s c ≡ left
        e = scan-left (length c.block) (space c.slots)

        go : Dec (call_number t s c ≡ 0)
            → (given ≡ cond (eqb left 0) (by_scan 0 k (given_to (automaton t) s c.block k)) (by_scan left 0 []))
            × ((scanned t s c).stream ≡ cond (eqb left 0) (state_after (automaton t) s c.block k) s)
        go (yes ok) =
            let r = accepted-scan t s c ok in
            let z : eqb left 0 ≡ true = eq-eqb left 0 (sym e ∙ ok) in (
              ap₂ (λ (a : Scanned) (l : List Report). by_scan a.number a.taken l) r (scan_reports t s c ok)
                  ∙ sym (ap (λ (b : Bool). cond b (by_scan 0 k (given_to (automaton t) s c.block k)) (by_scan left 0 [])) z),
              ap (λ (a : Scanned). a.stream) r ∙ sym (ap (λ (b : Bool). cond b (state_after (automaton t) s c.block k) s) z),
            )
        go (no bad) =
            let r = refused-scan t s c bad in
            let z : eqb left 0 ≡ false = ne_eqb left 0 (λ h. bad (e ∙ h)) in (
              ap (λ (a : Scanned). by_scan a.number a.taken (reports_in a.reports (scanned_lists t s c))) r
                  ∙ ap (λ (n : ℕ). by_scan n 0 []) e
                  ∙ sym (ap (λ (b : Bool). cond b (by_scan 0 k (given_to (automaton t) s c.block k)) (by_scan left 0 [])) z),
              ap (λ (a : Scanned). a.stream) r ∙ sym (ap (λ (b : Bool). cond b (state_after (automaton t) s c.block k) s) z),
            )

  module _ (slots : Lists) where
    abbrev left' : ℕ
    left' = close_left (automaton t).rules s (space slots)

    abbrev last : List Report
    last = given_at_end (automaton t) s

    abbrev given' : Outcome
    given' = by_close (closed t s slots).number (reports_in (closed t s slots).reports (closed_lists t s slots))

    close-gives : (given' ≡ gives (automaton t) s (closes (space slots))) × ((closed t s slots).stream ≡ moves (automaton t) s (closes (space slots)))
    unfolding gives moves zip mathlib.Core.List.zip_with
    close-gives = go (ℕ_discrete (close_number t s (space slots)) 0)
      where
        e : close_number t s (space slots) ≡ left'
        e = close-left (space slots)

        go : Dec (close_number t s (space slots) ≡ 0)
            → (given' ≡ cond (eqb left' 0) (by_close 0 last) (by_close left' [])) × ((closed t s slots).stream ≡ cond (eqb left' 0) (shut s) s)
        go (yes ok) =
            let r = accepted-close t s slots ok in
            let z : eqb left' 0 ≡ true = eq-eqb left' 0 (sym e ∙ ok) in (
              ap₂ (λ (a : Closed) (l : List Report). by_close a.number l) r (closed_reports t s slots ok)
                  ∙ sym (ap (λ (b : Bool). cond b (by_close 0 last) (by_close left' [])) z),
              ap (λ (a : Closed). a.stream) r ∙ sym (ap (λ (b : Bool). cond b (shut s) s) z),
            )
        go (no bad) =
            let r = refused-close t s slots bad in
            let z : eqb left' 0 ≡ false = ne_eqb left' 0 (λ h. bad (e ∙ h)) in (
              ap (λ (a : Closed). by_close a.number (reports_in a.reports (closed_lists t s slots))) r
                  ∙ ap (λ (n : ℕ). by_close n []) e ∙ sym (ap (λ (b : Bool). cond b (by_close 0 last) (by_close left' [])) z),
              ap (λ (a : Closed). a.stream) r ∙ sym (ap (λ (b : Bool). cond b (shut s) s) z),
            )

module _ (t : List ℕ) (table : is_table t ≡ true) where
  pub followed : (l : List (Item Lists Call)) (s : Stream) → valid (automaton t) s ≡ true → OthersRefused short t s l → outcomes_of short t s l ≡ run (automaton t) s (calls_in l)
  unfolding outcomes_of OthersRefused calls_in run
  followed [] s fit h = refl
  followed (scan c ∷ l) s fit h =
      let g = scan-gives t table s fit c in
      ap₂ (λ (o : Outcome) (r : List Outcome). o ∷ r) g.0
      (followed l (scanned t s c).stream (scan-valid t table s fit c) h
      ∙ ap (λ (x : Stream). run (automaton t) x (calls_in l)) g.1)
  followed (close slots ∷ l) s fit h =
      let g = close-gives t table s fit slots in
      ap₂ (λ (o : Outcome) (r : List Outcome). o ∷ r) g.0
      (followed l (closed t s slots).stream (close-valid t table s fit slots) h
      ∙ ap (λ (x : Stream). run (automaton t) x (calls_in l)) g.1)
  followed (other o ∷ l) s fit h =
      let same : table_after t o ≡ t = kept t o h.0 in
      ap (λ (u : List ℕ). outcomes_of short u s l) same ∙ followed l s fit (subst (λ (u : List ℕ). OthersRefused short u s l) same h.1)

-- ---- two automata that agree

unfoldable pub BytesIn : List Asked → Type 0
BytesIn [] = Unit {0}
BytesIn (scans allowance block room ∷ l) = Bytes block × BytesIn l
BytesIn (closes room ∷ l) = BytesIn l

module _ (w v : Automaton) (same : Agree w v) where
  scan-same : (s : Stream) → Inside w v same s → (allowance : ℕ) (block : List ℕ) (room : ℕ) → Bytes block
      → (gives w s (scans allowance block room) ≡ gives v s (scans allowance block room)) × (moves w s (scans allowance block room) ≡ moves v s (scans allowance block room))
  unfolding gives moves
  scan-same s inside allowance block room small =
      let n : ℕ = length block in
      let k : ℕ = fits w s allowance block room n in
      let le : k ≤ n = fits_le (plain w) s block allowance room n in
      let taken : k ≡ fits v s allowance block room n = fits-agree w v same s inside block small allowance room n (omega arith) in
      let left : scan_left w.rules s n room ≡ scan_left v.rules s n room = ap (λ (r : ℕ). scan_left r s n room) same.rules in
      let same-reports : given_to w s block k ≡ given_to v s block k = ap (map startless) (all-agree w v same s inside block small k le) in (
        ap₂ (λ (m : ℕ) (l : List Report). cond (eqb m 0) (by_scan 0 k l) (by_scan m 0 [])) left same-reports
            ∙ ap (λ (j : ℕ). cond (eqb (scan_left v.rules s n room) 0) (by_scan 0 j (given_to v s block j)) (by_scan (scan_left v.rules s n room) 0 [])) taken,
        ap₂ (λ (m : ℕ) (x : Stream). cond (eqb m 0) x s) left (states-agree w v same s inside block small k le ∙ ap (λ (j : ℕ). state_after v s block j) taken),
      )

  close-same : (s : Stream) (room : ℕ) → Inside w v same s
      → (gives w s (closes room) ≡ gives v s (closes room)) × (moves w s (closes room) ≡ moves v s (closes room))
  unfolding gives moves
  close-same s room inside = (
    ap₂ (λ (m : ℕ) (l : List Report). cond (eqb m 0) (by_close 0 l) (by_close m []))
        (ap (λ (r : ℕ). close_left r s room) same.rules) (ap (map startless) (closing-agrees w v same s inside)),
    ap (λ (r : ℕ). cond (eqb (close_left r s room) 0) (shut s) s) same.rules,
  )

  moves-inside : (s : Stream) (c : Asked) → Inside w v same s → Inside w v same (moves w s c)
  unfolding moves
  moves-inside s (scans allowance block room) inside = go (eqb (scan_left w.rules s (length block) room) 0)
    where
      go : (b : Bool) → Inside w v same (cond b (state_after w s block (fits w s allowance block room (length block))) s)
      go true = inside-after w v same s block inside (fits w s allowance block room (length block))
      go false = inside
  moves-inside s (closes room) inside = go (eqb (close_left w.rules s room) 0)
    where
      go : (b : Bool) → Inside w v same (cond b (shut s) s)
      go true = inside
      go false = inside

  pub runs_same : (l : List Asked) (s : Stream) → Inside w v same s → BytesIn l → run w s l ≡ run v s l
  unfolding run BytesIn
  runs_same [] s inside small = refl
  runs_same (scans allowance block room ∷ l) s inside small =
      let g = scan-same s inside allowance block room small.0 in
      ap₂ (λ (o : Outcome) (r : List Outcome). o ∷ r) g.0
      (runs_same l (moves w s (scans allowance block room)) (moves-inside s (scans allowance block room) inside) small.1 ∙ ap (λ (x : Stream). run v x l) g.1)
  runs_same (closes room ∷ l) s inside small =
      let g = close-same s room inside in
      ap₂ (λ (o : Outcome) (r : List Outcome). o ∷ r) g.0
      (runs_same l (moves w s (closes room)) (moves-inside s (closes room) inside) small ∙ ap (λ (x : Stream). run v x l) g.1)

-- ---- what the calls gave, joined

unfoldable pub reports_in-all : List Outcome → List Report
reports_in-all [] = []
reports_in-all (by_scan number taken l ∷ r) = l ++ reports_in-all r
reports_in-all (by_close number l ∷ r) = l ++ reports_in-all r

pub reports-joined : (t : List ℕ) (s : Stream) (l : List (Item Lists Call)) → reports_of short t s l ≡ reports_in-all (outcomes_of short t s l)
unfolding reports_of outcomes_of reports_in-all
reports-joined t s [] = refl
reports-joined t s (scan c ∷ l) =
    ap (λ (r : List Report). reports_in (scanned t s c).reports (scanned_lists t s c) ++ r)
    (reports-joined t (scanned t s c).stream l)
reports-joined t s (close slots ∷ l) =
    ap (λ (r : List Report). reports_in (closed t s slots).reports (closed_lists t s slots) ++ r)
    (reports-joined t (closed t s slots).stream l)
reports-joined t s (other o ∷ l) = reports-joined (table_after t o) s l

unfoldable pub bytes_in-all : List Asked → List Outcome → List ℕ
bytes_in-all [] r = []
bytes_in-all (scans allowance block room ∷ l) (by_scan number taken p ∷ r) = take taken block ++ bytes_in-all l r
bytes_in-all (scans allowance block room ∷ l) (by_close number p ∷ r) = []
bytes_in-all (scans allowance block room ∷ l) [] = []
bytes_in-all (closes room ∷ l) (by_close number p ∷ r) = bytes_in-all l r
bytes_in-all (closes room ∷ l) (by_scan number taken p ∷ r) = []
bytes_in-all (closes room ∷ l) [] = []

pub bytes-joined : (t : List ℕ) (s : Stream) (l : List (Item Lists Call)) → bytes_of short t s l ≡ bytes_in-all (calls_in l) (outcomes_of short t s l)
unfolding bytes_of outcomes_of calls_in bytes_in-all
bytes-joined t s [] = refl
bytes-joined t s (scan c ∷ l) =
    ap (λ (r : List ℕ). take (scanned t s c).taken c.block ++ r) (bytes-joined t (scanned t s c).stream l)
bytes-joined t s (close slots ∷ l) = bytes-joined t (closed t s slots).stream l
bytes-joined t s (other o ∷ l) = bytes-joined (table_after t o) s l

-- a closing with number 0 was seen
unfoldable pub Shuts : List Outcome → Type 0
Shuts [] = ⊥
Shuts (by_scan number taken l ∷ r) = Shuts r
Shuts (by_close zero l ∷ r) = Unit {0}
Shuts (by_close (suc n) l ∷ r) = Shuts r

pub closes-seen : (t : List ℕ) (s : Stream) (l : List (Item Lists Call)) → Shuts (outcomes_of short t s l) → Closes short t s l
unfolding outcomes_of Shuts Closes
closes-seen t s [] h = h
closes-seen t s (scan c ∷ l) h = closes-seen t (scanned t s c).stream l h
closes-seen t s (close slots ∷ l) h = go (closed t s slots).number refl h (λ m. closes-seen t (closed t s slots).stream l m)
  where
    rest : List Outcome
    rest = outcomes_of short t (closed t s slots).stream l

    reports : List Report
    reports = reports_in (closed t s slots).reports (closed_lists t s slots)

    go : (n : ℕ) → (closed t s slots).number ≡ n → Shuts (by_close n reports ∷ rest) → (Shuts rest → Closes short t (closed t s slots).stream l)
        → Closes short t s (close slots ∷ l)
    go zero e h later = inl e
    go (suc n) e h later = inr (later h)
closes-seen t s (other o ∷ l) h = closes-seen (table_after t o) s l h
