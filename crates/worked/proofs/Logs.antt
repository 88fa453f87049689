-- A log whose reports fit the lent lists, scanned block by block on a table that additions built:
-- each call gives what the automaton of the accepted rules gives, which computes. Assumes nothing.
use mathlib.Core.Path.{◌≡◌, refl, sym, subst, ap, ap₂, ◌∙◌}
use mathlib.Core.Bool.{Bool, true, false, cond, not, true≢false, ◌&&◌}
use mathlib.Core.List.Memᴰ
use mathlib.Core.List.{List, [], ◌∷◌, ◌++◌, map, Memᴰ}
use Prim.Native.Nat.{ℕ, suc, ◌+◌, ◌*◌, ◌≤◌}
use Prim.Native.String.{String}
use native.Mathlib.Omega.{arith}
use lib.Dec.{T, T_not, eqb, leb, ltb, eqb→eq, leb→le, ltb→lt}
use lib.ListN.{length, get_or, length-map}
use borrow.Author.Tests.{le-ltb}
use Rattle.sets.proofs.Laws.{has-empty}
use Rattle.table.specs.Layout.{max_rules}
use Rattle.table.specs.Table.{all, is_table}
use Rattle.table.specs.Automaton.{Automaton, automaton}
use Rattle.table.proofs.Test.{all-at, accepted as passing}
use Rattle.stream.specs.declared.Stream.{Stream}
use Rattle.stream.specs.Byte.{after, reports_by, byte_reports, byte_state, plain, state_after, fits}
use Rattle.stream.specs.Valid.{stream_limit, needs_starts}
use Rattle.stream.specs.Calls.{Lists, fresh, opened, space}
use Rattle.stream.proofs.Results.{opened-stream, opened-valid}
use Rattle.stream.proofs.Machines.{fits-is, two-parts}
use Rattle.stream.proofs.Blocks.{cost-few, closed_after}
use Rattle.meaning.specs.Rule.{Rule}
use Rattle.meaning.specs.Ordered.{Report}
use Rattle.meaning.proofs.Logic.{and_T, true-T, false-T}
use Rattle.rules.specs.Additions.{Accepted, rule_of, used}
use Rattle.rules.proofs.Additions.{Built}
use Rattle.demands.specs.Kinds.{short}
use Rattle.demands.specs.Chain.{Outcome, by_scan, by_close, outcomes_of, OthersRefused, Bytes}
use Rattle.worked.specs.Cases.{bytes, Log, calls_on, expected, Gives}
use Rattle.demands.specs.Demands.{needs_start}
use Rattle.demands.proofs.Carried.{Carried, carried, none_needed, rules-at}
use Rattle.demands.proofs.Bytewise.{startless, given_to, given_at_end, given_of}
use Rattle.demands.proofs.Lawful.{given-append}
use Rattle.worked.proofs.Agreeing.{Agree, Inside}
use Rattle.worked.proofs.Computing.{computed_of, built-agrees}
use Rattle.worked.proofs.Outcomes.{scans, closes, calls_in, scan_left, close_left, gives, moves, run, followed, BytesIn, runs_same}

-- whether two lists of reports are the same
unfoldable pub same : List Report → List Report → Bool
same [] [] = true
same [] (q ∷ m) = false
same (p ∷ l) [] = false
same (p ∷ l) (q ∷ m) = eqb p.0 q.0 && (eqb p.1 q.1 && (eqb p.2 q.2 && same l m))

same-eq : (l m : List Report) → T (same l m) → l ≡ m
unfolding same
same-eq [] [] h = refl
same-eq [] (q ∷ m) h = absurd h
same-eq (p ∷ l) [] h = absurd h
same-eq (p ∷ l) (q ∷ m) h =
    let x = (and_T (eqb p.0 q.0) _).0 h in
    let y = (and_T (eqb p.1 q.1) _).0 x.1 in
    let z = (and_T (eqb p.2 q.2) (same l m)).0 y.1 in
    let one : p ≡ q = ap₂ (λ (i : ℕ) (r : ℕ × ℕ). (i, r.0, r.1)) (eqb→eq p.0 q.0 x.0)
    (ap₂ (λ (e u : ℕ). (e, u)) (eqb→eq p.1 q.1 y.0) (eqb→eq p.2 q.2 z.0)) in
    ap₂ (λ (r : Report) (k : List Report). r ∷ k) one (same-eq l m z.1)

-- a block is of bytes, tested
pub bytes-tested : (block : List ℕ) → T (all (length block) (λ i. ltb (get_or block i 0) 256)) → Bytes block
bytes-tested block h i lt =
    let f : ℕ → Bool = λ i. ltb (get_or block i 0) 256 in
    ltb→lt (get_or block i 0) 256 (subst T (sym (all-at f (length block) (true-T (all (length block) f) h) i lt)) tt)

-- ---- one byte after the other

module _ (w : Automaton) where
  -- the state after a block, and the reports of its bytes
  unfoldable pub pass : Stream → List ℕ → Stream
  pass s [] = s
  pass s (x ∷ l) = pass (byte_state w s x) l

  unfoldable pub passed : Stream → List ℕ → List Report
  passed s [] = []
  passed s (x ∷ l) = map startless (byte_reports w s x) ++ passed (byte_state w s x) l

  -- the reports of the closing
  unfoldable pub final : Stream → List Report
  final s = given_at_end w s

  pass-is : (block : List ℕ) (s : Stream) → state_after w s block (length block) ≡ pass s block
  unfolding pass after
  pass-is [] s = refl
  pass-is (x ∷ l) s = (two-parts (plain w) s (x ∷ []) l).state ∙ pass-is l (byte_state w s x)

  passed_is : (block : List ℕ) (s : Stream) → given_of w s block ≡ passed s block
  unfolding passed after reports_by
  passed_is [] s = refl
  passed_is (x ∷ l) s =
      given-append (plain w) startless s (x ∷ []) l ∙ ap (λ (r : List Report). map startless (byte_reports w s x) ++ r) (passed_is l (byte_state w s x))

  -- ---- every block taken whole

  -- a block is of bytes, it stays below the stream's limit, and its reports fit
  abbrev Small : Stream → String × List Report → Bool
  Small s b =
      all (length (bytes b.0)) (λ i. ltb (get_or (bytes b.0) i 0) 256) && (leb (s.taken + length (bytes b.0)) stream_limit && leb (length b.1) max_rules)

  -- whether the blocks and the closing give the reports that are said of them
  unfoldable pub follows : Stream → List (String × List Report) → List Report → Bool
  follows s [] closing = same (final s) closing
  follows s (b ∷ bs) closing = Small s b && (same (passed s (bytes b.0)) b.1 && follows (pass s (bytes b.0)) bs closing)

  next-block : (s : Stream) (b : String × List Report) (bs : List (String × List Report)) (closing : List Report) → T (follows s (b ∷ bs) closing)
      → T (Small s b) × (passed s (bytes b.0) ≡ b.1) × T (follows (pass s (bytes b.0)) bs closing)
  unfolding follows
  next-block s b bs closing h =
      let x = (and_T (Small s b) _).0 h in
      let y = (and_T (same (passed s (bytes b.0)) b.1) (follows (pass s (bytes b.0)) bs closing)).0 x.1 in
      (x.0, same-eq (passed s (bytes b.0)) b.1 y.0, y.1)

  module _ (s : Stream) (b : String × List Report) (ok : T (Small s b)) where
    abbrev block : List ℕ
    block = bytes b.0

    parts : T (all (length block) (λ i. ltb (get_or block i 0) 256)) × T (leb (s.taken + length block) stream_limit && leb (length b.1) max_rules)
    parts = (and_T (all (length block) (λ i. ltb (get_or block i 0) 256)) _).0 ok

    rest : T (leb (s.taken + length block) stream_limit) × T (leb (length b.1) max_rules)
    rest = (and_T (leb (s.taken + length block) stream_limit) (leb (length b.1) max_rules)).0 parts.1

    of-bytes : Bytes block
    of-bytes = bytes-tested block parts.0

    below-limit : s.taken + length block ≤ stream_limit
    below-limit = leb→le (s.taken + length block) stream_limit rest.0

    few : passed s block ≡ b.1 → length (reports_by (plain w) s block (length block)) ≤ max_rules
    few is =
        omega (
          arith,
          leb→le (length b.1) max_rules rest.1,
          sym (ap length is),
          ap length (passed_is block s),
          length-map (reports_by (plain w) s block (length block)) startless,
        )

  module _ (few_rules : w.rules ≤ max_rules) (s : Stream) (running : s.closed ≡ false) where
    scan_open : (len room : ℕ) → s.taken + len ≤ stream_limit → 2 * max_rules ≤ room → scan_left w.rules s len room ≡ 0
    unfolding scan_left
    scan_open len room short wide =
        let a : ltb stream_limit (s.taken + len) ≡ false = le-ltb stream_limit (s.taken + len) (omega arith) in
        let b : ltb room (2 * w.rules) ≡ false = le-ltb room (2 * w.rules) (omega arith) in
        rw (running, a, b)

    close_open : (room : ℕ) → 2 * max_rules ≤ room → close_left w.rules s room ≡ 0
    unfolding close_left
    close_open room wide = let b : ltb room (2 * w.rules) ≡ false = le-ltb room (2 * w.rules) (omega arith) in rw (running, b)

    scan-whole : (b : String × List Report) → T (Small s b) → passed s (bytes b.0) ≡ b.1 → (room : ℕ) → 2 * max_rules ≤ room
        → (gives w s (scans (257 * length (bytes b.0)) (bytes b.0) room) ≡ by_scan 0 (length (bytes b.0)) b.1) × (moves w s (scans (257 * length (bytes b.0)) (bytes b.0) room) ≡ pass s (bytes b.0))
    unfolding gives moves
    scan-whole b ok same room wide =
        let block : List ℕ = bytes b.0 in
        let number : scan_left w.rules s (length block) room ≡ 0 = scan_open (length block) room (below-limit s b ok) wide in
        let taken : fits w s (257 * length block) block room (length block) ≡ length block =
        fits-is (plain w) s block (257 * length block) room (length block) (length block) (omega arith) (omega (arith, few s b ok same)) (cost-few w s block (length block)) (λ lt. absurd (omega arith)) in (
          ap₂ (λ (n k : ℕ). cond (eqb n 0) (by_scan 0 k (given_to w s block k)) (by_scan n 0 [])) number taken
              ∙ ap (by_scan 0 (length block)) (passed_is block s ∙ same),
          ap₂ (λ (n k : ℕ). cond (eqb n 0) (state_after w s block k) s) number taken ∙ pass-is block s,
        )

    close-whole : (room : ℕ) → 2 * max_rules ≤ room → gives w s (closes room) ≡ by_close 0 (final s)
    unfolding gives final
    close-whole room wide =
        ap (λ (n : ℕ). cond (eqb n 0) (by_close 0 (given_at_end w s)) (by_close n [])) (close_open room wide)

  still-running : (block : List ℕ) (s : Stream) → s.closed ≡ false → (pass s block).closed ≡ false
  still-running block s running = ap (λ (x : Stream). x.closed) (sym (pass-is block s)) ∙ closed_after w s block (length block) ∙ running

  roomy : w.rules ≤ max_rules → (bs : List (String × List Report)) (closing : List Report) (lent : ℕ → Lists)
      → ((i : ℕ) → 2 * max_rules ≤ space (lent i)) → (s : Stream) → s.closed ≡ false → T (follows s bs closing)
      → run w s (calls_in (calls_on bs lent)) ≡ expected bs closing
  unfolding calls_on calls_in run expected follows
  roomy few [] closing lent wide s running h =
      ap (λ (o : Outcome). o ∷ []) (close-whole few s running (space (lent 0)) (wide 0) ∙ ap (by_close 0) (same-eq (final s) closing h))
  roomy few (b ∷ bs) closing lent wide s running h =
      let n = next-block s b bs closing h in
      let g = scan-whole few s running b n.0 n.1 (space (lent 0)) (wide 0) in
      ap₂ (λ (o : Outcome) (r : List Outcome). o ∷ r) g.0
      (ap (λ (x : Stream). run w x (calls_in (calls_on bs (λ i. lent (suc i))))) g.1
      ∙ roomy few bs closing (λ i. lent (suc i)) (λ i. wide (suc i)) (pass s (bytes b.0)) (still-running (bytes b.0) s running) n.2)

  bytes-in : (bs : List (String × List Report)) (closing : List Report) (lent : ℕ → Lists) (s : Stream) → T (follows s bs closing)
      → BytesIn (calls_in (calls_on bs lent))
  unfolding calls_on calls_in BytesIn
  bytes-in [] closing lent s h = tt
  bytes-in (b ∷ bs) closing lent s h =
      let n = next-block s b bs closing h in
      (of-bytes s b n.0, bytes-in bs closing (λ i. lent (suc i)) (pass s (bytes b.0)) n.2)

-- there are no other calls
none_other : (t : List ℕ) (bs : List (String × List Report)) (lent : ℕ → Lists) (s : Stream) → OthersRefused short t s (calls_on bs lent)
unfolding calls_on OthersRefused
none_other t [] lent s = tt
none_other t (b ∷ bs) lent s = none_other t bs (λ i. lent (suc i)) _

-- ---- on a table that additions built

-- no rule needs a start, tested
unfoldable pub without_starts : List Accepted → Bool
without_starts [] = true
without_starts (r ∷ rs) = not (needs_start (rule_of r)) && without_starts rs

without_all : (rs : List Accepted) → T (without_starts rs) → (r : Accepted) → Memᴰ r rs → needs_start (rule_of r) ≡ false
unfolding without_starts
without_all [] h r m = elim m [ ]
without_all (x ∷ rs) h r (Memᴰ.head e) =
    ap (λ (y : Accepted). needs_start (rule_of y)) e
    ∙ false-T (needs_start (rule_of x)) (T_not (needs_start (rule_of x)) ((and_T (not (needs_start (rule_of x))) (without_starts rs)).0 h).0)
without_all (x ∷ rs) h r (Memᴰ.tail m) = without_all rs ((and_T (not (needs_start (rule_of x))) (without_starts rs)).0 h).1 r m

-- the stream that is opened, by the accepted rules
abbrev pub start_of : List Accepted → Stream
start_of rs = fresh (length rs) (used rs) false

module _ (t : List ℕ) (rs : List Accepted) (built : Built t rs) where
  table : is_table t ≡ true
  table = passing t built.passed

  opens : (opened t).number ≡ 0
  unfolding opened
  opens = rw table

  pub opened-is : short.begun t ≡ start_of rs
  opened-is = opened-stream t table ∙ ap₂ (λ (n m : ℕ). fresh n m false) built.rules built.positions

  pub start-inside : Inside (automaton t) (computed_of rs) (built-agrees t rs built) (start_of rs)
  start-inside = (λ q lt h. absurd (true≢false (sym h ∙ has-empty q lt)), λ q lt h. absurd (true≢false (sym h ∙ has-empty q lt)))

  few_rules : (computed_of rs).rules ≤ max_rules
  few_rules = omega (arith, sym (built-agrees t rs built).rules, rules-at t, built.passed.rules)

  -- no rule needs a start, so the table needs none
  pub without : T (without_starts rs) → needs_starts (automaton t) ≡ false
  without h = none_needed (automaton t) c.rule c.from c.tab c.carries (λ a lt. none (c.rule a) ((c.listed (c.rule a)).1 (a, lt, refl)))
    where
      c : Carried t (map rule_of rs)
      c = carried t rs built

      none : (r : Rule) → Memᴰ r (map rule_of rs) → needs_start r ≡ false
      none r m = let x = Memᴰ.of_map rule_of rs m in ap needs_start (sym x.2) ∙ without_all rs h x.0 x.1

  pub log-gives : T (without_starts rs) → (log : Log) → T (follows (computed_of rs) (start_of rs) log.blocks log.closing) → Gives t log
  log-gives none log h = (opens, λ lent wide. calls-give lent wide)
    where
      calls-give : (lent : ℕ → Lists) → ((i : ℕ) → 2 * max_rules ≤ space (lent i))
          → outcomes_of short t (short.begun t) (calls_on log.blocks lent) ≡ expected log.blocks log.closing
      calls-give lent wide =
          let v : Automaton = computed_of rs in
          let agree : Agree (automaton t) v = built-agrees t rs built in
          followed t table (calls_on log.blocks lent) (short.begun t) (opened-valid t table (without none)) (none_other t log.blocks lent (short.begun t))
          ∙ ap (λ (s : Stream). run (automaton t) s (calls_in (calls_on log.blocks lent))) opened-is
          ∙ runs_same (automaton t) v agree (calls_in (calls_on log.blocks lent)) (start_of rs) start-inside (bytes-in v log.blocks log.closing lent (start_of rs) h)
          ∙ roomy v few_rules log.blocks log.closing lent wide (start_of rs) refl h
