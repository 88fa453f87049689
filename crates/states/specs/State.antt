-- A stream's state as fifteen words that the caller owns: the live set's four, those of what is
-- held, the marks, the held pairs, the last byte's side, the bytes taken, the two counts, the
-- closed word. A state with starts has the starts of the live positions, of the held ones and of
-- the held pairs after them, 591 words in all. Every so many words are some state. Assumes nothing:
-- these are definitions.
use Rattle.std.specs.Prelude.{cond, not, List, [], ◌∷◌, ◌++◌, ℕ, ◌+◌, eqb, length, get_or, drop}
use Rattle.kinds.specs.Side.{side_in, side_word}
use Rattle.table.specs.Layout.{max_rules, max_positions}
use Rattle.steps.specs.Step.{list_from}
use Rattle.stream.specs.declared.Stream.{Stream}
use Rattle.traced.specs.declared.Traced.{Traced}

abbrev pub state_words : ℕ
state_words = 15

-- where the starts stand
abbrev pub live_at : ℕ
live_at = state_words

abbrev pub held_at : ℕ
held_at = 271

abbrev pub pairs_at : ℕ
pairs_at = 527

abbrev pub trace_words : ℕ
trace_words = 591

-- the state that words are: the last byte's side is a word byte by 1, a newline by 2, neither by
-- every other number; any closed word but 0 is closed
unfoldable pub state_of : List ℕ → Stream
state_of t = record {
  live = get_or t 0 0 ∷ get_or t 1 0 ∷ get_or t 2 0 ∷ get_or t 3 0 ∷ [];
  held = get_or t 4 0 ∷ get_or t 5 0 ∷ get_or t 6 0 ∷ get_or t 7 0 ∷ [];
  reported = get_or t 8 0;
  pending = get_or t 9 0;
  last = side_in (get_or t 10 0);
  taken = get_or t 11 0;
  rules = get_or t 12 0;
  positions = get_or t 13 0;
  closed = not (eqb (get_or t 14 0) 0);
}

-- n words from a place on
abbrev pub part : (at n : ℕ) → List ℕ → List ℕ
part at n t = list_from 0 n (λ q. get_or t (at + q) 0)

unfoldable pub trace_of : List ℕ → Traced
trace_of t = record {
  stream = state_of t;
  starts = record { live = part live_at max_positions t; held = part held_at max_positions t; pairs = part pairs_at max_rules t };
}

-- the words of a state
unfoldable pub stream_words : Stream → List ℕ
stream_words s =
    get_or s.live 0 0 ∷ get_or s.live 1 0 ∷ get_or s.live 2 0 ∷ get_or s.live 3 0
    ∷ get_or s.held 0 0 ∷ get_or s.held 1 0 ∷ get_or s.held 2 0 ∷ get_or s.held 3 0
    ∷ s.reported ∷ s.pending ∷ side_word s.last ∷ s.taken ∷ s.rules ∷ s.positions ∷ cond s.closed 1 0 ∷ []

-- those of one with starts: first the state's, then each list's
abbrev pub live_words : Stream → (live : List ℕ) → List ℕ
live_words s live = stream_words s ++ part 0 max_positions live

abbrev pub held_words : Stream → (live held : List ℕ) → List ℕ
held_words s live held = live_words s live ++ part 0 max_positions held

abbrev pub pair_words : Stream → (live held pairs : List ℕ) → List ℕ
pair_words s live held pairs = held_words s live held ++ part 0 max_rules pairs

abbrev pub traced_words : Traced → List ℕ
traced_words z = pair_words z.stream z.starts.live z.starts.held z.starts.pairs

-- some words at the front of others: those past them stay as they were
abbrev pub stored : (state t : List ℕ) → List ℕ
stored state t = state ++ drop (length state) t

-- A kind of state in words: how many it has, the state that so many are, and the words of a state.
pub record Form (S : Type 0) : Type 0 where
  pub size : ℕ
  pub read : List ℕ → S
  pub words : S → List ℕ

abbrev pub stream_form : Form Stream
stream_form = record { size = state_words; read = state_of; words = stream_words }

abbrev pub traced_form : Form Traced
traced_form = record { size = trace_words; read = trace_of; words = traced_words }
