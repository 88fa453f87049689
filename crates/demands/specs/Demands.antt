-- Demands 2 and 3, and what follows for whole lists of calls, on streams of either kind. Each
-- statement is a type here; `AllHold` collects those of one kind, and proofs/Theorems.antt proves
-- it of both. (Demand 1 stands in Demand1.antt, that one rule does not disturb another in
-- Alone.antt, and worked cases and one instance of demand 3 in the crate `worked`.) Assumes nothing:
-- these are definitions.
use Rattle.std.specs.Prelude.{◌≡◌, ◌⊎◌, ◌↔◌, Bool, true, false, ℕ, ◌+◌, ◌*◌, ◌^◌, ◌<◌, ◌≤◌, T, length}
use mathlib.Core.List.{List, [], map, Memᴰ}
use Rattle.std.specs.Int.Bits.{bit_and}
use Rattle.table.specs.Layout.{table_words, max_rules, max_positions}
use Rattle.table.specs.Table.{known_flags, emptied}
use Rattle.table.specs.Automaton.{automaton}
use Rattle.stream.specs.declared.Stream.{Stream}
use Rattle.stream.specs.Valid.{stream_limit}
use Rattle.stream.specs.Byte.{busy_of}
use Rattle.meaning.specs.Form.{write, positions}
use Rattle.meaning.specs.Rule.{Rule, start_is_needed}
use Rattle.meaning.specs.Ordered.{Reported, StartOf, Report, pair, Ordered, Once}
use Rattle.meaning.specs.Live.{Busy}
use Rattle.nodes.specs.Nodes.{Syntax}
use Rattle.pattern.specs.Walk.{tree}
use Rattle.pattern.specs.Read.{longest, options_of}
use Rattle.pattern.specs.Reasons.{Reason}
use Rattle.rules.specs.Add.{Addition, reading_of, single_start, add_answer, add_words}
use Rattle.rules.specs.Additions.{Accepted, rule_of, used, next_answer, accepted_after}
use Rattle.demands.specs.Kinds.{Kind, short, traces}
use Rattle.demands.specs.Chain.{Step, table_of, additions_of, OthersRefusedBefore, Item, Bytes, AllFit, Roomy, offering, bytes_of, reports_of, state_of, OthersRefused, Closes, Blocks}

-- ---- the table and the calls

-- "every list of additions, in any order, refused ones included, from an emptied table": any words
-- that emptying accepts, emptied, then any additions, and other calls between
pub record Setting : Type 0 where
  pub words : List ℕ
  pub long : table_words ≤ length words
  pub steps : List Step

-- "Other refused calls, of any kind and on any table or state, may stand anywhere between": before
-- the opening each is refused where it stands
abbrev pub Between : Setting → Type 0
Between c = OthersRefusedBefore (emptied c.words) c.steps

-- the table, and the rules that were accepted and what they mean
abbrev pub table_in : Setting → List ℕ
table_in c = table_of (emptied c.words) c.steps

abbrev pub accepted_in : Setting → List Accepted
accepted_in c = accepted_after [] (additions_of c.steps)

abbrev pub rules_in : Setting → List Rule
rules_in c = map rule_of (accepted_in c)

-- a rule needs starts: it reports them, or has a smallest length of its matches
abbrev pub needs_start : Rule → Bool
needs_start r = start_is_needed r.starts r.windows

-- no rule needs them
abbrev pub Startless : Setting → Type 0
Startless c = (r : Rule) → Memᴰ r (rules_in c) → needs_start r ≡ false

module _ {S L C : Type 0} (k : Kind S L C) where
  -- the stream that is opened
  abbrev pub stream_in : Setting → S
  stream_in c = k.begun (table_in c)

  -- a stream of this kind serves the table
  abbrev pub Served : Setting → Type 0
  Served c = T k.starts ⊎ Startless c

  -- a list of calls after the opening
  module _ (c : Setting) (items : List (Item L C)) where
    -- every other call is refused where it stands, before the opening and after it, and blocks are
    -- of bytes
    abbrev pub Calls : Type 0
    Calls = Between c × OthersRefused k (table_in c) (stream_in c) items × Blocks k items

    -- "The stream is the bytes that these scans took, joined"
    abbrev pub taken : List ℕ
    taken = bytes_of k (table_in c) (stream_in c) items

    -- "the reports of all its calls, joined"
    abbrev pub joined : List Report
    joined = reports_of k (table_in c) (stream_in c) items

    -- the list "has an accepted closing"
    abbrev pub HasClosing : Type 0
    HasClosing = Closes k (table_in c) (stream_in c) items

    -- the state that the last call returns
    abbrev pub last : Stream
    last = k.stream (state_of k (table_in c) (stream_in c) items)

-- ---- demand 2, acceptance

-- Number and place of the next addition, by a definition over the accepted rules that mentions no
-- table word.
abbrev pub Acceptance : Type 0
Acceptance = (c : Setting) → Between c → (a : Addition) → add_answer (table_in c) a ≡ next_answer (accepted_in c) a

-- The reasons to refuse an addition to some accepted rules, by their numbers. (1 does not arise:
-- the words are a table.)
pub data Refusal (rules : List Accepted) (a : Addition) : Type 0 where
  -- 2: "a flag bit other than 1, 2, 8", and it lets 4 and 256 through
  unknown_flag : ¬ (bit_and a.flags known_flags ≡ a.flags) → Refusal rules a
  -- 24: "Flag 256 with flag 8"
  start_with_single : single_start a.flags ≡ true → Refusal rules a
  -- 3: "id already in the table"
  id_there : (r : Accepted) → Memᴰ r rules → r.id ≡ a.id → Refusal rules a
  -- 4 and 5: "Raise the rules in a table to 64 and the pattern to 1,024 bytes; refusals 4 and 5
  -- move with them."
  all_there : max_rules ≤ length rules → Refusal rules a
  too_long : longest < length a.pattern → Refusal rules a
  -- 26: "A smallest offset above the largest"
  window_is_empty : a.windows.largest_end < a.windows.smallest_end → Refusal rules a
  -- 6 to 16 and 23, each a predicate of its own: crates/pattern/specs/Reasons.antt
  in_pattern : (number place : ℕ) → Reason a.pattern (options_of a.flags) number place → Refusal rules a
  -- 17: "over 256 positions with those in the table"
  no_room : (x : Syntax) → reading_of a ≡ tree x → max_positions < used rules + positions (write x) → Refusal rules a

-- "A rule is accepted exactly when none of the listed reasons to refuse holds"
abbrev pub AcceptedExactly : Type 0
AcceptedExactly = (c : Setting) → Between c → (a : Addition) → ((add_answer (table_in c) a).number ≡ 0) ↔ (¬ Refusal (accepted_in c) a)

-- ---- of any kind of stream

module _ {S L C : Type 0} (k : Kind S L C) where
  -- ---- demand 2, meaning

  -- "Scanning a whole stream and closing it reports each pair of rule id and end offset once,
  -- exactly when some earlier start matches the rule up to there under its flags."; "A single-match
  -- rule reports the pair first delivered, perhaps not its smallest offset."
  abbrev pub PairMeaning : Type 0
  PairMeaning = (c : Setting) (items : List (Item L C)) → Calls k c items → HasClosing k c items
      → ((i e : ℕ) → Memᴰ (i, e) (map pair (joined k c items))
      ↔ ((r : Rule) × Memᴰ r (rules_in c) × (r.id ≡ i) × Reported r (taken k c items) e))
      × Once (map pair (joined k c items))

  -- "the same pairs at the same moments, each with the smallest start whose match is settled then"
  abbrev pub Meaning : Type 0
  Meaning = (c : Setting) (items : List (Item L C)) → Calls k c items → HasClosing k c items
      → (i e s : ℕ)
      → Memᴰ (i, e, s) (joined k c items)
      ↔ ((r : Rule)
      × Memᴰ r (rules_in c)
      × (r.id ≡ i)
      × Reported r (taken k c items) e
      × StartOf r (taken k c items) e s)

  -- ---- demand 3

  -- "the reports of all its calls, joined, are exactly the one ordered list that demand 2's meaning
  -- gives for the accepted rules and that stream"; "Demand 3 covers the stream start"
  abbrev pub Demand3 : Type 0
  Demand3 = (c : Setting) (items : List (Item L C)) → Calls k c items → HasClosing k c items
      → Ordered (rules_in c) (taken k c items) (joined k c items)

  -- "An accepted scan with a byte in its block takes at least one", on any table and any state;
  -- "its last sentence needs 257 units"
  abbrev pub Progress : Type 0
  Progress = (t : List ℕ) (s : S) (c : C) → (k.scan t s c).number ≡ 0
      → 257 ≤ k.allowance c → 0 < length (k.block c) → 0 < (k.scan t s c).taken

  -- "unused bytes may be offered again": as many scans as the log has bytes, each with 257 units
  -- and room for two reports of each rule, give the whole log's list.
  abbrev pub OfferedAgain : Type 0
  OfferedAgain = (c : Setting) → Served k c → Between c → (log : List ℕ) → Bytes log
      → length log ≤ stream_limit → (turns : List C) (slots : L) → length log ≤ length turns
      → Roomy k (2 * length (accepted_in c)) turns → 2 * length (accepted_in c) ≤ k.space slots
      → Ordered (rules_in c) log (joined k c (offering k (table_in c) (stream_in k c) log turns slots))

  -- ---- the state along a list of calls

  -- no scan or closing of the stream is refused with 1 or 18
  abbrev pub Validity : Type 0
  Validity = (c : Setting) (items : List (Item L C)) → Served k c → Calls k c items
      → AllFit k (table_in c) (stream_in k c) items

  -- the total that the state keeps is the length of the joined taken bytes
  abbrev pub Total : Type 0
  Total = (c : Setting) (items : List (Item L C)) → Calls k c items
      → (last k c items).taken ≡ length (taken k c items)

  -- "The state also shows its busy figure: the number of live positions", by meaning
  abbrev pub BusyFigure : Type 0
  BusyFigure = (c : Setting) (items : List (Item L C)) → Calls k c items
      → Busy (rules_in c) (taken k c items) (busy_of (last k c items))

  -- ---- on any table and any state

  -- "So an accepted addition ends all open streams": every state that was valid is refused with 18,
  -- whatever block and space.
  abbrev pub AdditionEndsStreams : Type 0
  AdditionEndsStreams = (t : List ℕ) (a : Addition) → a.id < 2 ^ 32 → (add_answer t a).number ≡ 0
      → (s : S) → k.valid (automaton t) s ≡ true → (c : C)
      → ((k.scan (add_words t a) s c).number ≡ 18)
      × ((k.close (add_words t a) s (k.slots c)).number ≡ 18)

  -- after an accepted closing, "Later calls get 19": every scan and closing of the state that it
  -- handed back
  abbrev pub ClosingEndsStream : Type 0
  ClosingEndsStream = (t : List ℕ) (s : S) (slots : L) → (k.close t s slots).number ≡ 0 → (c : C)
      → ((k.scan t (k.close t s slots).state c).number ≡ 19)
      × ((k.close t (k.close t s slots).state (k.slots c)).number ≡ 19)

  -- "The figure used is the sum of those costs, never above 257 for each byte taken", and never
  -- above the allowance; "An allowance of 0 takes nothing", since a byte costs a unit at least
  abbrev pub Used : Type 0
  Used = (t : List ℕ) (s : S) (c : C)
      → ((k.scan t s c).used ≤ k.allowance c)
      × ((k.scan t s c).taken ≤ (k.scan t s c).used)
      × ((k.scan t s c).used ≤ 257 * (k.scan t s c).taken)

  -- "For one call on the same table, state, block and space, more allowance never changes a report
  -- already given; it only carries the same lists further."
  pub record Further (t : List ℕ) (s : S) (less more : C) : Type 0 where
    pub number : (k.scan t s less).number ≡ (k.scan t s more).number
    pub taken : (k.scan t s less).taken ≤ (k.scan t s more).taken
    pub used : (k.scan t s less).used ≤ (k.scan t s more).used
    pub count : (k.scan t s less).count ≤ (k.scan t s more).count
    pub lists_same : k.front (k.scan t s less).count (k.scan t s less).lists
        ≡ k.front (k.scan t s less).count (k.scan t s more).lists

  abbrev pub MoreAllowance : Type 0
  MoreAllowance = (t : List ℕ) (s : S) (c : C) (more : ℕ) → k.allowance c ≤ more
      → Further t s c (k.allow more c)

-- all of these
pub record AllHold {S L C : Type 0} (k : Kind S L C) : Type 0 where
  pub pair_meaning : PairMeaning k
  pub meaning : Meaning k
  pub demand3 : Demand3 k
  pub progress : Progress k
  pub offered_again : OfferedAgain k
  pub validity : Validity k
  pub total : Total k
  pub busy_figure : BusyFigure k
  pub addition_ends_streams : AdditionEndsStreams k
  pub closing_ends_stream : ClosingEndsStream k
  pub used : Used k
  pub more_allowance : MoreAllowance k

-- two cuttings of one log, with any allowances and report space, by streams of either kind, give
-- the same joined list
abbrev pub SameForCuttings : {S L C S' L' C' : Type 0} → Kind S L C → Kind S' L' C' → Type 0
SameForCuttings {S} {L} {C} {S'} {L'} {C'} k j =
    (c : Setting) (items : List (Item L C)) (others : List (Item L' C'))
    → Calls k c items → Calls j c others → HasClosing k c items → HasClosing j c others
    → taken k c items ≡ taken j c others → joined k c items ≡ joined j c others

pub record AllSame : Type 0 where
  pub by_short : SameForCuttings short short
  pub by_traces : SameForCuttings traces traces
  pub by_both : SameForCuttings short traces
