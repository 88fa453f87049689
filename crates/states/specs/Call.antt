-- A call on a state in words, for either kind of state: too few words are number 100 and change
-- nothing; else the call is made on the state that the words are, and the next state is stored.
-- Assumes nothing: these are definitions.
use Rattle.std.specs.Prelude.{Bool, cond, List, [], ℕ, eqb, ltb, length}
use Rattle.stream.specs.Byte.{busy_of}
use Rattle.states.specs.State.{state_of, stored, Form}

-- too few words lent for the state; numbers from 100 on are the interface's own, not the rules'
abbrev pub short_state : ℕ
short_state = 100

abbrev pub short : {S : Type 0} → Form S → List ℕ → Bool
short f state = ltb (length state) f.size

-- The state that words are; too few are read as none.
unfoldable pub state_in : {S : Type 0} → Form S → (state : List ℕ) → S
state_in f state = cond (short f state) (f.read []) (f.read state)

-- The words with a state stored; too few stay.
unfoldable pub stored_in : {S : Type 0} → Form S → (next : S) → (state : List ℕ) → List ℕ
stored_in f next state = cond (short f state) state (stored (f.words next) state)

-- the number of an opening
unfoldable pub open_number : {S : Type 0} → Form S → (number : ℕ) → (state : List ℕ) → ℕ
open_number f number state = cond (short f state) short_state number

-- the busy figure; too few words have none live
unfoldable pub busy_figure : {S : Type 0} → Form S → (state : List ℕ) → ℕ
busy_figure f state = cond (short f state) 0 (busy_of (state_of state))

-- ---- scans and closings

-- What a call on a state gives: all its numbers, the one that says whether it is accepted, the next
-- state, and the lists.
pub record Given (N S L : Type 0) : Type 0 where
  pub numbers : N
  pub number : ℕ
  pub next : S
  pub slots : L

-- A call on a state in words: the kind of state, its numbers for too few words, the lists that it
-- is lent, and what it gives.
pub record Call (N S L : Type 0) : Type 0 where
  pub form : Form S
  pub none : N
  pub slots : L
  pub gives : S → Given N S L

-- what it leaves: its numbers, the words, the lists
pub record Left (N L : Type 0) : Type 0 where
  pub numbers : N
  pub words : List ℕ
  pub slots : L

abbrev pub left : {N L : Type 0} → (numbers : N) (words : List ℕ) (slots : L) → Left N L
left numbers words slots = record { numbers = numbers; words = words; slots = slots }

-- The next state is stored if the call is accepted; else the words stay.
unfoldable pub on_state : {N S L : Type 0} → Call N S L → (state : List ℕ) → Left N L
on_state {N} {S} {L} k state =
    cond (short k.form state) (left k.none state k.slots)
    (let g : Given N S L = k.gives (k.form.read state) in
    left g.numbers (cond (eqb g.number 0) (stored (k.form.words g.next) state) state) g.slots)

-- the numbers of a scan, and of a closing
pub record Scan : Type 0 where
  pub number : ℕ
  pub taken : ℕ
  pub reports : ℕ
  pub used : ℕ

abbrev pub scan : (number taken reports used : ℕ) → Scan
scan number taken reports used = record { number = number; taken = taken; reports = reports; used = used }

pub record Closing : Type 0 where
  pub number : ℕ
  pub reports : ℕ

abbrev pub closing : (number reports : ℕ) → Closing
closing number reports = record { number = number; reports = reports }
