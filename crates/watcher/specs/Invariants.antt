-- What the private functions keep, so that no call of the library is refused but for a rule: the
-- words are an emptied table with additions, the stream fits them, and every byte of a block is
-- taken. Said once for streams with starts and without.
use Rattle.std.specs.Prelude.{◌≡◌, Bool, true, false, List, ℕ, ◌*◌, ◌≤◌, ℤ, length, Result, IfOk}
use Rattle.table.specs.Layout.{table_words, max_rules}
use Rattle.table.specs.Table.{is_table, emptied}
use Rattle.table.specs.Automaton.{Automaton, automaton}
use Rattle.rules.specs.Add.{Addition}
use Rattle.rules.specs.Additions.{Narrow}
use Rattle.rules.specs.Encoded.{add_all}
use Rattle.stream.specs.declared.Stream.{Stream}
use Rattle.stream.specs.Byte.{Machine, Report, after, plain}
use Rattle.stream.specs.Valid.{valid}
use Rattle.traced.specs.declared.Traced.{Traced}
use Rattle.traced.specs.Byte.{Report as Trace, traced}
use Rattle.traced.specs.Valid.{valid as trace-valid}

-- some words, emptied, then some additions
pub record FromEmpty (t : List ℕ) : Type 0 where
  pub words : List ℕ
  pub long : table_words ≤ length words
  pub additions : List Addition
  pub narrow : Narrow additions
  pub same : t ≡ add_all (emptied words) additions

-- a kind of stream: its machine of one byte, its stream, and when a state fits a table
pub record Way (S R : Type 0) : Type 0 where
  pub machine : Automaton → Machine S R
  pub stream : S → Stream
  pub valid : Automaton → S → Bool

abbrev pub pairs : Way Stream Report
pairs = record { machine = plain; stream = λ s. s; valid = valid }

abbrev pub traces : Way Traced Trace
traces = record { machine = traced; stream = λ z. z.stream; valid = trace-valid }

-- a stream that no scan refuses for its words or its state
pub record Running {S R : Type 0} (k : Way S R) (t : List ℕ) (s : S) : Type 0 where
  pub table : is_table t ≡ true
  pub fits : k.valid (automaton t) s ≡ true
  pub going : (k.stream s).closed ≡ false

-- report lists with room for two reports of each rule
abbrev pub Roomy : (ids offsets : List ℕ) → Type 0
Roomy ids offsets = (2 * max_rules ≤ length ids) × (2 * max_rules ≤ length offsets)

abbrev pub Wide : (ids offsets starts : List ℕ) (relatives : List ℤ) → Type 0
Wide ids offsets starts relatives = Roomy ids offsets × ((2 * max_rules ≤ length starts) × (2 * max_rules ≤ length relatives))

-- the state after a whole block, unless a write failed
abbrev pub AllTaken : {S R E : Type 0} → Way S R → List ℕ → S → List ℕ → Result S E → Type 0
AllTaken k t s block answer = IfOk answer (λ next. next ≡ after (k.machine (automaton t)) s block (length block))
