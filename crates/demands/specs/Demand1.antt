-- Demand 1, over the public calls on tables, streams, cards and matched bytes: "Whatever rule
-- bytes, rule table, stream state, block or report space it is handed, every call ends and gives
-- one fixed answer. Bad input is refused by number, and a refusal changes no word of anything lent.
-- Nobody has to check beforehand." `statement` of a function is the type of its theorem: its code,
-- run on whatever it is handed, is safe, ends, and leaves what the `ensures` lines at its head say.
-- It is stated for every resource algebra of the program logic, which M stands for. None of these
-- functions has a `requires` line. The theorem is `demand1` of proofs/Demand1.antt.
use Rattle.std.specs.Prelude.{◌≡◌, true, List, [], ℕ}
use Rattle.table.specs.Table.{empty_number, emptied}
use Rattle.table.proofs.empty.Statement.{statement as empty}
use Rattle.table.proofs.is_table.Statement.{statement as is_table_lem}
use Rattle.rules.specs.Add.{Addition, add_answer, add_words}
use Rattle.rules.proofs.add.Statement.{statement as add}
use Rattle.rules.proofs.add_within.Statement.{statement as add-within}
use Rattle.card.specs.Calls.{write_answer, written_block, read_answer, read_words}
use Rattle.card.proofs.write_block.Statement.{statement as card-write}
use Rattle.card.proofs.read_block.Statement.{statement as card-read}
use Rattle.matched.specs.Matched.{matched_bytes, matched_number}
use Rattle.matched.proofs.matched_bytes.Statement.{statement as matched-bytes}
use Rattle.matched.proofs.matched_number.Statement.{statement as matched-number}
use Rattle.matched.proofs.matched_part.Statement.{statement as matched-part}
use Rattle.stream.specs.Calls.{fresh, opened}
use Rattle.traced.specs.Calls as traced
use Rattle.demands.specs.Kinds.{Given, Kind, short, traces}
use Rattle.stream.proofs.Stream.«open».Statement.{statement as stream-open}
use Rattle.stream.proofs.Stream.scan.Statement.{statement as stream-scan}
use Rattle.stream.proofs.Stream.close.Statement.{statement as stream-close}
use Rattle.stream.proofs.Stream.busy.Statement.{statement as stream-busy}
use Rattle.stream.proofs.is_sound.Statement.{statement as stream-sound}
use Rattle.stream.proofs.needs_starts.Statement.{statement as stream-needs}
use Rattle.traced.proofs.Traced.«open».Statement.{statement as traced-open}
use Rattle.traced.proofs.Traced.scan.Statement.{statement as traced-scan}
use Rattle.traced.proofs.Traced.close.Statement.{statement as traced-close}
use Rattle.traced.proofs.Traced.busy.Statement.{statement as traced-busy}

-- "every call ends and gives one fixed answer": each call's answer and all that it was lent are,
-- afterwards, what these definitions give for what it was handed
pub record Answers : Type 2 where
  -- emptying a table (crates/table/src/lib.rt): the number is `empty_number`, the words are
  -- `emptied`
  pub emptying : {M : Type 1} → empty M
  -- the yes-or-no test: `is_table`
  pub testing : {M : Type 1} → is_table_lem M
  -- adding a rule (crates/rules/src/lib.rt): number and place are `add_answer`, the words are
  -- `add_words`
  pub adding : {M : Type 1} → add M
  -- adding a rule with windows: the same two
  pub adding_within : {M : Type 1} → add-within M
  -- opening a stream (crates/stream/src/lib.rt): number and state are `opened`
  pub opening : {M : Type 1} → stream-open M
  -- scanning a block: number, bytes taken, count of reports, units used and next state are
  -- `scanned`, the lists are `scanned_lists`
  pub scanning : {M : Type 1} → stream-scan M
  -- closing: number, count of reports and next state are `closed`, the lists are `closed_lists`
  pub closing : {M : Type 1} → stream-close M
  -- the busy figure: `busy_of`
  pub busy : {M : Type 1} → stream-busy M
  -- the same four calls on a stream with starts (crates/traced/src/lib.rt), by the definitions of
  -- the same names in its specs, with four lists
  pub trace_opening : {M : Type 1} → traced-open M
  pub trace_scanning : {M : Type 1} → traced-scan M
  pub trace_closing : {M : Type 1} → traced-close M
  pub trace_busy : {M : Type 1} → traced-busy M
  -- writing a block of the table (crates/card/src/lib.rt): number and place are `write_answer`, the
  -- block is `written_block`
  pub writing_block : {M : Type 1} → card-write M
  -- reading one: number and place are `read_answer`, the words are `read_words`
  pub reading_block : {M : Type 1} → card-read M
  -- whether a state fits words but for starts, and whether a rule of them needs one: `sound`,
  -- `needs_starts`
  pub fitting : {M : Type 1} → stream-sound M
  pub needing_starts : {M : Type 1} → stream-needs M
  -- showing the matched bytes (crates/matched/src/lib.rt): `matched_bytes`; where they stand:
  -- `matched_part`; and the number of the same question: `matched_number`
  pub showing : {M : Type 1} → matched-bytes M
  pub showing_part : {M : Type 1} → matched-part M
  pub showing_number : {M : Type 1} → matched-number M

-- "Other refusals return the number, no bytes taken, no reports, the state unchanged"; what was
-- used is "0 when refused", and all lists keep every word
pub record Refused {S L : Type 0} (given : Given S L) (s : S) (slots : L) : Type 0 where
  pub taken : given.taken ≡ 0
  pub used : given.used ≡ 0
  pub count : given.count ≡ 0
  pub state : given.state ≡ s
  pub lists_kept : given.lists ≡ slots

pub record CallsRefused {S L C : Type 0} (k : Kind S L C) : Type 0 where
  pub scanning : (t : List ℕ) (s : S) (c : C) → ¬ ((k.scan t s c).number ≡ 0)
      → Refused (k.scan t s c) s (k.slots c)
  pub closing : (t : List ℕ) (s : S) (l : L) → ¬ ((k.close t s l).number ≡ 0)
      → Refused (k.close t s l) s l

-- "a refusal changes no word of anything lent": whenever the number is not 0. (The test, the
-- opening and the busy figure are lent nothing to write to.)
pub record Refusals : Type 0 where
  pub emptying : (t : List ℕ) → ¬ (empty_number t ≡ 0) → emptied t ≡ t
  -- "A refused addition returns its number and a place, and leaves the table as it was. An accepted
  -- one has place 0."
  pub adding : (t : List ℕ) (a : Addition) → ¬ ((add_answer t a).number ≡ 0) → add_words t a ≡ t
  pub added : (t : List ℕ) (a : Addition) → (add_answer t a).number ≡ 0 → (add_answer t a).place ≡ 0
  -- "A refused opening hands back a closed state, all else in it zero."
  pub opening : (t : List ℕ) → ¬ ((opened t).number ≡ 0) → (opened t).stream ≡ fresh 0 0 true
  pub trace_opening : (t : List ℕ) → ¬ ((traced.opened t).number ≡ 0)
      → (traced.opened t).traced ≡ record { stream = fresh 0 0 true; starts = traced.no_starts }
  pub streams : CallsRefused short
  pub traced_streams : CallsRefused traces
  -- "A refused call leaves the lent table as it found it", and the writer's the lent block
  pub writing_block : (t : List ℕ) (i : ℕ) (b : List ℕ) → ¬ ((write_answer t i b).number ≡ 0) → written_block t i b ≡ b
  pub reading_block : (t : List ℕ) (i : ℕ) (b : List ℕ) → ¬ ((read_answer t i b).number ≡ 0) → read_words t i b ≡ t
  -- "On a refusal the first none of the block are shown"
  pub showing : (tail block : List ℕ) (offset start end : ℕ) → ¬ (matched_number tail block offset start end ≡ 0) → matched_bytes tail block offset start end ≡ []

pub record Demand1 : Type 2 where
  pub answers : Answers
  pub refusals : Refusals
