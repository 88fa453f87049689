-- Lists of calls on one table, before a stream is opened on it and after, as demand 3 takes them.
-- Every call is one of the real ones: its answer, its lists and its words are those that its own
-- promise cites. Assumes nothing: these are definitions.
use Rattle.std.specs.Prelude.{◌≡◌, ◌⊎◌, List, [], ◌∷◌, ◌++◌, ℕ, ◌^◌, ◌<◌, ◌≤◌, length, get_or, take, drop}
use Rattle.table.specs.Table.{empty_number, emptied}
use Rattle.stream.specs.declared.Stream.{Stream}
use Rattle.stream.specs.Calls.{Lists, Call, opened, space, close_number, call_number}
use Rattle.traced.specs.declared.Traced.{Traced}
use Rattle.traced.specs.Calls as traced
use Rattle.card.specs.Calls.{write_answer, read_answer, read_words}
use Rattle.matched.specs.Matched.{matched_number}
use Rattle.pattern.specs.Walk.{Read, tree, refused}
use Rattle.plain.specs.Answer.{Question, verdict}
use Rattle.rules.specs.Add.{Addition, add_answer, add_words}
use Rattle.meaning.specs.Ordered.{Report}
use Rattle.demands.specs.Kinds.{Given, Kind}

-- the words that a call is lent: the table in hand, or other words
pub data Lent : Type 0 where
  this : Lent
  those : List ℕ → Lent

abbrev pub lent : List ℕ → Lent → List ℕ
lent t this = t
lent t (those u) = u

-- "Other refused calls, of any kind and on any table or state"
pub data Other : Type 0 where
  emptying : Lent → Other
  adding : Lent → Addition → Other
  opening : Lent → Other
  scanning : Lent → Stream → Call → Other
  closing : Lent → Stream → (slots : Lists) → Other
  trace_opening : Lent → Other
  trace_scanning : Lent → Traced → traced.Call → Other
  trace_closing : Lent → Traced → (slots : traced.Lists) → Other
  writing_block : Lent → (number : ℕ) (block : List ℕ) → Other
  reading_block : Lent → (number : ℕ) (block : List ℕ) → Other
  showing : (tail block : List ℕ) (offset start end : ℕ) → Other
  asking : Question → (space : ℕ) → Other

-- the number of a question to the plain matcher
abbrev pub question_number : Read → ℕ
question_number (refused number place) = number
question_number (tree syntax) = 0

-- its number, where t is the table in hand
unfoldable pub number_of : List ℕ → Other → ℕ
number_of t (emptying l) = empty_number (lent t l)
number_of t (adding l a) = (add_answer (lent t l) a).number
number_of t (opening l) = (opened (lent t l)).number
number_of t (scanning l s c) = call_number (lent t l) s c
number_of t (closing l s slots) = close_number (lent t l) s (space slots)
number_of t (trace_opening l) = (traced.opened (lent t l)).number
number_of t (trace_scanning l z c) = traced.call_number (lent t l) z c
number_of t (trace_closing l z slots) = traced.close_number (lent t l) z (traced.space slots)
number_of t (writing_block l i b) = (write_answer (lent t l) i b).number
number_of t (reading_block l i b) = (read_answer (lent t l) i b).number
number_of t (showing tail block offset start end) = matched_number tail block offset start end
number_of t (asking q space) = question_number (verdict q space)

-- the table in hand afterwards: emptying, adding and reading a block write to what they are lent
unfoldable pub table_after : List ℕ → Other → List ℕ
table_after t (emptying this) = emptied t
table_after t (emptying (those u)) = t
table_after t (adding this a) = add_words t a
table_after t (adding (those u) a) = t
table_after t (opening l) = t
table_after t (scanning l s c) = t
table_after t (closing l s slots) = t
table_after t (trace_opening l) = t
table_after t (trace_scanning l z c) = t
table_after t (trace_closing l z slots) = t
table_after t (writing_block l i b) = t
table_after t (reading_block this i b) = read_words t i b
table_after t (reading_block (those u) i b) = t
table_after t (showing tail block offset start end) = t
table_after t (asking q space) = t

-- ---- before the opening

-- a call before the opening: an addition, accepted or refused, of "any 32-bit number" as id, or
-- another call
pub data Step : Type 0 where
  addition : (a : Addition) → a.id < 2 ^ 32 → Step
  another : Other → Step

-- the table in hand after these calls, and the additions among them
unfoldable pub table_of : List ℕ → List Step → List ℕ
table_of t [] = t
table_of t (addition a narrow ∷ l) = table_of (add_words t a) l
table_of t (another o ∷ l) = table_of (table_after t o) l

unfoldable pub additions_of : List Step → List Addition
additions_of [] = []
additions_of (addition a narrow ∷ l) = a ∷ additions_of l
additions_of (another o ∷ l) = additions_of l

-- every other call is refused where it stands
unfoldable pub OthersRefusedBefore : List ℕ → List Step → Type 0
OthersRefusedBefore t [] = Unit {0}
OthersRefusedBefore t (addition a narrow ∷ l) = OthersRefusedBefore (add_words t a) l
OthersRefusedBefore t (another o ∷ l) = (¬ (number_of t o ≡ 0)) × OthersRefusedBefore (table_after t o) l

-- ---- after the opening

-- a call of the list: a scan of the stream with its inputs, a closing with its lent lists, or
-- another call
pub data Item (L C : Type 0) : Type 0 where
  scan : C → Item L C
  close : (slots : L) → Item L C
  other : Other → Item L C

-- a block is of bytes
abbrev pub Bytes : List ℕ → Type 0
Bytes block = (i : ℕ) → i < length block → get_or block i 0 < 256

-- not refused as no table, and not as a state that does not fit
abbrev pub Fit : ℕ → Type 0
Fit number = (¬ (number ≡ 1)) × (¬ (number ≡ 18))

-- what a call of the list gives
pub data Outcome : Type 0 where
  by_scan : (number taken : ℕ) → List Report → Outcome
  by_close : (number : ℕ) → List Report → Outcome

module _ {S L C : Type 0} (k : Kind S L C) where
  -- "Each of these calls gets the table as it was last left and, after the opening, the state that
  -- the one before returned": the bytes that the scans take, joined; the reports of all calls,
  -- joined
  unfoldable pub bytes_of : List ℕ → S → List (Item L C) → List ℕ
  bytes_of t s [] = []
  bytes_of t s (scan c ∷ l) =
      take (k.scan t s c).taken (k.block c) ++ bytes_of t (k.scan t s c).state l
  bytes_of t s (close slots ∷ l) = bytes_of t (k.close t s slots).state l
  bytes_of t s (other o ∷ l) = bytes_of (table_after t o) s l

  unfoldable pub reports_of : List ℕ → S → List (Item L C) → List Report
  reports_of t s [] = []
  reports_of t s (scan c ∷ l) = (k.scan t s c).reports ++ reports_of t (k.scan t s c).state l
  reports_of t s (close slots ∷ l) =
      (k.close t s slots).reports ++ reports_of t (k.close t s slots).state l
  reports_of t s (other o ∷ l) = reports_of (table_after t o) s l

  -- the state that the last of these calls hands on
  unfoldable pub state_of : List ℕ → S → List (Item L C) → S
  state_of t s [] = s
  state_of t s (scan c ∷ l) = state_of t (k.scan t s c).state l
  state_of t s (close slots ∷ l) = state_of t (k.close t s slots).state l
  state_of t s (other o ∷ l) = state_of (table_after t o) s l

  -- every other call is refused where it stands
  unfoldable pub OthersRefused : List ℕ → S → List (Item L C) → Type 0
  OthersRefused t s [] = Unit {0}
  OthersRefused t s (scan c ∷ l) = OthersRefused t (k.scan t s c).state l
  OthersRefused t s (close slots ∷ l) = OthersRefused t (k.close t s slots).state l
  OthersRefused t s (other o ∷ l) = (¬ (number_of t o ≡ 0)) × OthersRefused (table_after t o) s l

  -- some closing of the stream is accepted
  unfoldable pub Closes : List ℕ → S → List (Item L C) → Type 0
  Closes t s [] = ⊥
  Closes t s (scan c ∷ l) = Closes t (k.scan t s c).state l
  Closes t s (close slots ∷ l) =
      ((k.close t s slots).number ≡ 0) ⊎ Closes t (k.close t s slots).state l
  Closes t s (other o ∷ l) = Closes (table_after t o) s l

  -- no scan or closing of the stream is refused with 1 or 18
  unfoldable pub AllFit : List ℕ → S → List (Item L C) → Type 0
  AllFit t s [] = Unit {0}
  AllFit t s (scan c ∷ l) = Fit (k.scan t s c).number × AllFit t (k.scan t s c).state l
  AllFit t s (close slots ∷ l) =
      Fit (k.close t s slots).number × AllFit t (k.close t s slots).state l
  AllFit t s (other o ∷ l) = AllFit (table_after t o) s l

  -- Offering what was not taken again: one scan for each turn, each of the bytes that the scans
  -- before did not take, and then a closing.
  unfoldable pub offering : List ℕ → S → (log : List ℕ) → List C → (slots : L) → List (Item L C)
  offering t s log [] slots = close slots ∷ []
  offering t s log (turn ∷ more) slots =
      let given : Given S L = k.scan t s (k.offer log turn) in
      scan (k.offer log turn) ∷ offering t given.state (drop given.taken log) more slots

  -- of demand 3 "its last sentence needs 257 units": in every turn any byte can be paid for, and
  -- there is room for n reports
  unfoldable pub Roomy : ℕ → List C → Type 0
  Roomy n [] = Unit {0}
  Roomy n (turn ∷ more) = (257 ≤ k.allowance turn) × (n ≤ k.space (k.slots turn)) × Roomy n more

  unfoldable pub Blocks : List (Item L C) → Type 0
  Blocks [] = Unit {0}
  Blocks (scan c ∷ l) = Bytes (k.block c) × Blocks l
  Blocks (close slots ∷ l) = Blocks l
  Blocks (other o ∷ l) = Blocks l

  -- The same call by call: what each scan or closing of the stream gives, which is its number, the
  -- number of bytes that it takes, and its reports.
  unfoldable pub outcomes_of : List ℕ → S → List (Item L C) → List Outcome
  outcomes_of t s [] = []
  outcomes_of t s (scan c ∷ l) =
      by_scan (k.scan t s c).number (k.scan t s c).taken (k.scan t s c).reports
      ∷ outcomes_of t (k.scan t s c).state l
  outcomes_of t s (close slots ∷ l) =
      by_close (k.close t s slots).number (k.close t s slots).reports
      ∷ outcomes_of t (k.close t s slots).state l
  outcomes_of t s (other o ∷ l) = outcomes_of (table_after t o) s l
