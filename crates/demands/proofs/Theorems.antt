-- The theorems of specs/Demands.antt. What the additions built is known (`built`), so the stream
-- that is opened on it starts at the automaton of the accepted rules, and what is proved of lists
-- of calls on such a table applies, for each kind of stream. Assumes nothing.
use mathlib.Core.Path.{◌≡◌, refl, sym, subst, ap, ◌∙◌}
use mathlib.Core.Logic.{◌⊎◌, inl, inr}
use mathlib.Core.Bool.{true, false}
use mathlib.Core.List.Memᴰ
use mathlib.Core.List.{List, map, Memᴰ}
use Prim.Native.Nat.{ℕ, ◌+◌, ◌*◌, ◌^◌, ◌≤◌, ◌<◌}
use native.Mathlib.Nat.{zero-add}
use native.Mathlib.Omega.{arith}
use lib.Dec.{T}
use lib.ListN.{length}
use Rattle.table.specs.Layout.{rules_of, positions_of}
use Rattle.table.specs.Table.{is_table, emptied}
use Rattle.table.specs.Automaton.{automaton}
use Rattle.table.proofs.Test.{accepted as passing}
use Rattle.stream.specs.declared.Stream.{Stream}
use Rattle.stream.specs.Byte.{Machine, plain, state_after, busy_of, close_reports}
use Rattle.stream.specs.Valid.{needs_starts, valid}
use Rattle.stream.specs.Calls.{fresh, shut, written}
use Rattle.stream.proofs.Results.{opened-stream, opened-valid, progress as byte-taken}
use Rattle.traced.specs.Byte.{traced, close_reports as traced-closing}
use Rattle.traced.specs.Valid.{valid as traced-valid}
use Rattle.traced.specs.Calls as traced-calls
use Rattle.meaning.specs.Rule.{Rule}
use Rattle.meaning.specs.Ordered.{Entry, entry, Report, report, pair, Ordered}
use Rattle.meaning.specs.Live.{Busy}
use Rattle.meaning.proofs.OneList.{Distinct, one_answer}
use Rattle.meaning.proofs.Reports.{in-reports, in_pairs, no-pair-twice}
use Rattle.rules.specs.declared.Added.{Added}
use Rattle.rules.proofs.Encodes.{distinct}
use Rattle.rules.proofs.Additions.{Built, words-built, answer-built}
use Rattle.demands.specs.Kinds.{Kind, short, traces}
use Rattle.demands.specs.Chain.{additions_of, Item, Roomy, offering, bytes_of, reports_of, OthersRefused, Closes, Blocks}
use Rattle.demands.specs.Demands.{Setting, Between, table_in, accepted_in, rules_in, stream_in, Startless, Served, Calls, taken, joined, Acceptance, AcceptedExactly, Demand3, PairMeaning, Meaning, Total, BusyFigure, Validity, OfferedAgain, AdditionEndsStreams, ClosingEndsStream, AllHold, SameForCuttings, AllSame}
use Rattle.demands.proofs.Acceptance.{accepted-if}
use Rattle.demands.proofs.Others.{narrow-ids, additions-alone}
use Rattle.demands.proofs.Carried.{Carried, carried, none_needed, none-reports, none-long}
use Rattle.demands.proofs.Tracked.{opens as tracks, lives}
use Rattle.demands.proofs.Lawful.{Lawful, Serves, joined_bytes, field_is, bytes_counted, within-limit, all_fit, offered}
use Rattle.demands.proofs.Busy.{busy-is}
use Rattle.demands.proofs.Bytewise.{startless}
use Rattle.demands.proofs.Short.{lawful, serves, closing-startless, writes}
use Rattle.demands.proofs.Allowances.{Writes, used, more_allowance}
use Rattle.demands.proofs.Ends.{addition_ends_streams, addition-ends-traces, closing_ends_stream, closing-ends-trace}
use Rattle.demands.proofs.Streams.{ordered}
use Rattle.demands.proofs.Traced.{trace, ended, opened-is as traced-opened, lawful as traced-lawful, progress as trace-taken, serves as traced-serves, writes as traced-writes, opened-fits, ordered as traced-ordered}

module _ (c : Setting) (between : Between c) where
  pub built : Built (table_in c) (accepted_in c)
  built =
      subst (λ (t : List ℕ). Built t (accepted_in c)) (sym (additions-alone c.steps (emptied c.words) between))
      (words-built c.words (additions_of c.steps) c.long (narrow-ids c.steps))

  pub table : is_table (table_in c) ≡ true
  table = passing (table_in c) built.passed

  held : Carried (table_in c) (rules_in c)
  held = carried (table_in c) (accepted_in c) built

  -- a table without starts needs none
  needs-none : Startless c → needs_starts (automaton (table_in c)) ≡ false
  needs-none none =
      none_needed (automaton (table_in c)) held.rule held.from held.tab held.carries (λ a lt. none (held.rule a) ((held.listed (held.rule a)).1 (a, lt, refl)))

pub acceptance : Acceptance
acceptance c between a = answer-built (table_in c) (accepted_in c) (built c between) a

pub accepted-exactly : AcceptedExactly
accepted-exactly c between a =
    let e = ap (λ (r : Added). r.number) (acceptance c between a) in
    let i = accepted-if (accepted_in c) a in
    (λ h. i.0 (sym e ∙ h), λ none. e ∙ i.1 none)

-- a report of the list is some rule's
owner_of : (rules : List Rule) (bytes : List ℕ) (reports : List Report) → Ordered rules bytes reports → (i e s : ℕ) → Memᴰ (i, e, s) reports
    → (r : Rule) × Memᴰ r rules × (r.id ≡ i)
owner_of rules bytes reports o i e s m =
    let x = Memᴰ.of_map report o.list (subst (Memᴰ (i, e, s)) (sym o.given) m) in go x.0 x.1 x.2
  where
    go : (x : Entry) → Memᴰ x o.list → report x ≡ (i, e, s) → (r : Rule) × Memᴰ r rules × (r.id ≡ i)
    go (entry j d k u) n q = let w = (o.is_list.exactly (entry j d k u)).0 n in (w.0, w.1, w.2 ∙ ap (λ (p : Report). p.0) q)

-- the rules of a table have distinct ids
apart : (c : Setting) → Between c → Distinct (rules_in c)
apart c between = distinct (automaton (table_in c)) (accepted_in c) (built c between).encodes

-- ---- of any kind of stream whose calls go by a machine

-- what is proved of a kind: its calls on any table, the stream that is opened, that its lists of
-- calls give the ordered list, and which states fit
pub record Backed {S L C R : Type 0} (k : Kind S L C) (m : List ℕ → Machine S R) (out : R → Report) (final : List ℕ → S → List R) (ended : S → S)
    (Fits : List ℕ → S → Type 0) (write : S → List R → L → L) : Type 0 where
  pub law : (t : List ℕ) → Lawful k t (m t) out (final t) ended
  pub begins : (t : List ℕ) → is_table t ≡ true → k.stream (k.begun t) ≡ fresh (rules_of t) (positions_of t) false
  pub ordered : (t : List ℕ) → is_table t ≡ true → (rules : List Rule) → Carried t rules → (l : List (Item L C)) → OthersRefused k t (k.begun t) l → Closes k t (k.begun t) l → Blocks k l
      → length (bytes_of k t (k.begun t) l) < 2 ^ 64 → Ordered rules (bytes_of k t (k.begun t) l) (reports_of k t (k.begun t) l)
  pub serves : (t : List ℕ) → is_table t ≡ true → Serves k t (Fits t)
  pub fits : (t : List ℕ) → is_table t ≡ true → T k.starts ⊎ (needs_starts (automaton t) ≡ false) → Fits t (k.begun t)
  pub progress : (t : List ℕ) (s : S) (c : C) → (k.scan t s c).number ≡ 0 → 257 ≤ k.allowance c → 0 < length (k.block c) → 0 < (k.scan t s c).taken
  pub writes : (t : List ℕ) → Writes k t (m t) write
  pub addition_ends : AdditionEndsStreams k
  pub closing_ends : ClosingEndsStream k

module _ {S L C R : Type 0} (k : Kind S L C) (m : List ℕ → Machine S R) (out : R → Report) (final : List ℕ → S → List R) (ended : S → S)
    (Fits : List ℕ → S → Type 0) (write : S → List R → L → L) (b : Backed k m out final ended Fits write) where
  -- the opened stream has taken nothing, and is open
  opened-at : (c : Setting) → Between c → k.stream (stream_in k c) ≡ fresh (rules_of (table_in c)) (positions_of (table_in c)) false
  opened-at c between = b.begins (table_in c) (table c between)

  open_at : (c : Setting) → Between c → (k.stream (stream_in k c)).closed ≡ false
  open_at c between = ap (λ (s : Stream). s.closed) (opened-at c between)

  none-at : (c : Setting) → Between c → (k.stream (stream_in k c)).taken ≡ 0
  none-at c between = ap (λ (s : Stream). s.taken) (opened-at c between)

  total : Total k
  total c items calls =
      bytes_counted k (table_in c) (m (table_in c)) out (final (table_in c)) ended (b.law (table_in c)) items (stream_in k c) (open_at c calls.0) calls.1
      ∙ ap (λ (n : ℕ). n + length (taken k c items)) (none-at c calls.0) ∙ zero-add (length (taken k c items))

  -- the stream has 64-bit offsets
  few_bytes : (c : Setting) (items : List (Item L C)) → Calls k c items → length (taken k c items) < 2 ^ 64
  few_bytes c items calls =
      omega (arith, total c items calls, within-limit k (table_in c) (m (table_in c)) out (final (table_in c)) ended (b.law (table_in c)) items (stream_in k c) (omega (arith, none-at c calls.0)) calls.1)

  pub demand3-of : Demand3 k
  demand3-of c items calls closes =
      b.ordered (table_in c) (table c calls.0) (rules_in c) (held c calls.0) items calls.1 closes calls.2 (few_bytes c items calls)

  meaning : Meaning k
  meaning c items calls closes i e s =
      let reports : List Report = joined k c items in
      let list : Ordered (rules_in c) (taken k c items) reports = demand3-of c items calls closes in
      let of-rule = in-reports (rules_in c) (taken k c items) reports list (apart c calls.0) in (
        λ h.
            let r = owner_of (rules_in c) (taken k c items) reports list i e s h in
            let x = (of-rule r.0 r.1 e s).0 (subst (λ (j : ℕ). Memᴰ (j, e, s) reports) (sym r.2) h) in
            (r.0, r.1, r.2, x.0, x.1),
        λ h. subst (λ (j : ℕ). Memᴰ (j, e, s) reports) h.2 ((of-rule h.0 h.1 e s).1 (h.3, h.4)),
      )

  pair_meaning : PairMeaning k
  pair_meaning c items calls closes =
      let reports : List Report = joined k c items in
      let list : Ordered (rules_in c) (taken k c items) reports = demand3-of c items calls closes in
      let of-rule = in_pairs (rules_in c) (taken k c items) reports list (apart c calls.0) in (
        λ i e. (
          λ h.
              let x = Memᴰ.of_map pair reports h in
              let q : x.0 ≡ (i, e, x.0.2) = ap (λ (p : ℕ × ℕ). (p.0, p.1, x.0.2)) x.2 in
              let r = owner_of (rules_in c) (taken k c items) reports list i e x.0.2 (Memᴰ.cast (sym q) x.1) in
              (r.0, r.1, r.2, (of-rule r.0 r.1 e).0 (subst (λ (j : ℕ). Memᴰ (j, e) (map pair reports)) (sym r.2) h)),
          λ h. subst (λ (j : ℕ). Memᴰ (j, e) (map pair reports)) h.2 ((of-rule h.0 h.1 e).1 h.3),
        ),
        no-pair-twice (rules_in c) (taken k c items) reports list (apart c calls.0),
      )

  busy_figure : BusyFigure k
  busy_figure c items calls =
      let t : List ℕ = table_in c in
      let x : Carried t (rules_in c) = held c calls.0 in
      let s : Stream = fresh (rules_of t) (positions_of t) false in
      let bytes : List ℕ = taken k c items in
      let few : length bytes < 2 ^ 64 = few_bytes c items calls in
      let first = tracks (automaton t) x.rule x.from x.tab x.carries bytes few s refl refl refl refl refl in
      let at_end = lives (automaton t) x.rule x.from x.tab x.carries bytes few (joined_bytes k t items (stream_in k c) calls.1 calls.2) s first.alive (length bytes) (omega arith) in
      let figure : Busy (rules_in c) bytes (busy_of (state_after (automaton t) s bytes (length bytes))) =
      busy-is t (rules_in c) x bytes few (state_after (automaton t) s bytes (length bytes)) at_end in
      subst (Busy (rules_in c) bytes)
      (sym (field_is k t (m t) out (final t) ended (b.law t) busy_of (λ y. refl) (λ y. refl) items (stream_in k c) (open_at c calls.0) calls.1
      ∙ ap (λ (y : Stream). busy_of (state_after (automaton t) y bytes (length bytes))) (opened-at c calls.0))) figure

  fits-at : (c : Setting) → Between c → Served k c → Fits (table_in c) (stream_in k c)
  fits-at c between (inl has) = b.fits (table_in c) (table c between) (inl has)
  fits-at c between (inr none) = b.fits (table_in c) (table c between) (inr (needs-none c between none))

  validity : Validity k
  validity c items served calls =
      all_fit k (table_in c) (Fits (table_in c)) (b.serves (table_in c) (table c calls.0)) items (stream_in k c) (fits-at c calls.0 served) calls.1

  offered_again : OfferedAgain k
  offered_again c served between log small few turns slots enough roomy wide =
      let t : List ℕ = table_in c in
      let count : rules_of t ≡ length (accepted_in c) = (built c between).rules in
      let calls = offered k t (m t) out (final t) ended (b.law t) (Fits t) (b.serves t (table c between)) turns slots (omega (arith, count, wide))
      (subst (λ (n : ℕ). Roomy k (2 * n) turns) (sym count) roomy) log small enough (stream_in k c) (fits-at c between served) (open_at c between) (omega (arith, few, none-at c between)) in
      subst (λ (l : List ℕ). Ordered (rules_in c) l (joined k c (offering k t (stream_in k c) log turns slots))) calls.bytes
      (demand3-of c (offering k t (stream_in k c) log turns slots) (between, calls.others, calls.blocks) calls.closes)

  pub all_hold : AllHold k
  all_hold = record {
    pair_meaning = pair_meaning;
    meaning = meaning;
    demand3 = demand3-of;
    progress = b.progress;
    offered_again = offered_again;
    validity = validity;
    total = total;
    busy_figure = busy_figure;
    addition_ends_streams = b.addition_ends;
    closing_ends_stream = b.closing_ends;
    used = used k m write b.writes;
    more_allowance = more_allowance k m write b.writes;
  }

-- the ordered list is one, whatever the kinds
same-for-cuttings : {S L C S' L' C' : Type 0} (k : Kind S L C) (j : Kind S' L' C') → Demand3 k → Demand3 j → SameForCuttings k j
same-for-cuttings k j p q c items others a b ca cb same =
    one_answer (rules_in c) (taken j c others) _ _
    (subst (λ (l : List ℕ). Ordered (rules_in c) l (joined k c items)) same (p c items a ca)) (q c others b cb)

-- ---- streams without starts

pub short-backed : Backed short (λ t. plain (automaton t)) startless (λ t. close_reports (automaton t)) shut (λ t s. valid (automaton t) s ≡ true) (λ s new l. written new l)
short-backed = record {
  law = lawful;
  begins = opened-stream;
  ordered = λ t table rules x l h c bs few.
      let e : short.begun t ≡ fresh (rules_of t) (positions_of t) false = opened-stream t table in
      subst (λ (s : Stream). length (bytes_of short t s l) < 2 ^ 64 → Ordered rules (bytes_of short t s l) (reports_of short t s l)) (sym e)
      (ordered t x.rule x.from x.tab x.carries rules x.listed (rules_of t) (positions_of t)
      (none-reports (automaton t) x.rule x.from x.tab x.carries (closing-startless t l (short.begun t) h c))
      (none-long (automaton t) x.rule x.from x.tab x.carries (closing-startless t l (short.begun t) h c)) l
      (subst (λ (s : Stream). OthersRefused short t s l) e h) (subst (λ (s : Stream). Closes short t s l) e c) bs) few;
  serves = serves;
  fits = λ t table. fits t table;
  progress = byte-taken;
  writes = writes;
  addition_ends = addition_ends_streams;
  closing_ends = closing_ends_stream;
}
  where
    fits : (t : List ℕ) → is_table t ≡ true → T false ⊎ (needs_starts (automaton t) ≡ false) → valid (automaton t) (short.begun t) ≡ true
    fits t table (inl has) = absurd has
    fits t table (inr none) = opened-valid t table none

pub short-streams : AllHold short
short-streams = all_hold short (λ t. plain (automaton t)) startless (λ t. close_reports (automaton t)) shut (λ t s. valid (automaton t) s ≡ true) (λ s new l. written new l) short-backed

-- ---- streams with starts

pub traced-backed : Backed traces (λ t. traced (automaton t)) trace (λ t. traced-closing (automaton t)) ended (λ t z. traced-valid (automaton t) z ≡ true)
    (λ z new l. traced-calls.written z.stream.taken new l)
traced-backed = record {
  law = traced-lawful;
  begins = begins;
  ordered = λ t table rules x. traced-ordered t table x.rule x.from x.tab x.carries rules x.listed;
  serves = traced-serves;
  fits = λ t table served. opened-fits t table;
  progress = trace-taken;
  writes = traced-writes;
  addition_ends = addition-ends-traces;
  closing_ends = closing-ends-trace;
}
  where
    begins : (t : List ℕ) → is_table t ≡ true → traces.stream (traces.begun t) ≡ fresh (rules_of t) (positions_of t) false
    begins t table = traced-opened t table

pub traced_streams : AllHold traces
traced_streams =
    all_hold traces (λ t. traced (automaton t)) trace (λ t. traced-closing (automaton t)) ended (λ t z. traced-valid (automaton t) z ≡ true)
    (λ z new l. traced-calls.written z.stream.taken new l) traced-backed

pub all_same : AllSame
all_same =
    let p = short-streams.demand3 in
    let q = traced_streams.demand3 in
    record { by_short = same-for-cuttings short short p p; by_traces = same-for-cuttings traces traces q q; by_both = same-for-cuttings short traces p q }
