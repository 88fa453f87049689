-- Both kinds of stream give the same, call by call, on a table in which no rule needs a start: the
-- numbers, the state but for its starts, the ids and the offsets. The starts are all 0, in the
-- state and in the reports. Assumes nothing: these are definitions.
use Rattle.std.specs.Prelude.{◌≡◌, false, List, [], ◌∷◌, ◌++◌, ℕ, zero, suc, pos, drop}
use Rattle.table.specs.Automaton.{automaton}
use Rattle.stream.specs.declared.Stream.{Stream}
use Rattle.stream.specs.Calls.{Scanned, Closed}
use Rattle.stream.specs.Valid.{needs_starts}
use Rattle.stream.specs.Calls as stream
use Rattle.traced.specs.declared.Traced.{Traced}
use Rattle.traced.specs.Calls as traced
use Rattle.traced.specs.Calls.{no_starts}

-- a stream's state as one with starts
abbrev pub bare : Stream → Traced
bare s = record { stream = s; starts = no_starts }

-- the lists of ids and offsets, and the call that is lent these alone
abbrev pub pair_lists : traced.Lists → stream.Lists
pair_lists l = stream.lists l.ids l.offsets

abbrev pub pair_call : traced.Call → stream.Call
pair_call c = stream.call c.allowance c.block (pair_lists c.slots)

-- "Space is the shortest of the four lists": the two of starts are no shorter
abbrev pub Roomy : traced.Lists → Type 0
Roomy l = traced.space l ≡ stream.space (pair_lists l)

-- a list with one value n times at its front: "slots past the count keep their values"
unfoldable pub times : {A : Type 0} → A → ℕ → List A
times x zero = []
times x (suc n) = x ∷ times x n

-- the four lists after n reports of rules without the flag: "gives 0 in both"
abbrev pub zeroed : (n : ℕ) → stream.Lists → traced.Lists → traced.Lists
zeroed n pairs l =
    traced.lists pairs.ids pairs.offsets (times 0 n ++ drop n l.starts) (times (pos 0) n ++ drop n l.relatives)

abbrev pub OpensAlike : Type 0
OpensAlike = (t : List ℕ)
    → traced.opened t ≡ record { number = (stream.opened t).number; traced = bare (stream.opened t).stream }

abbrev pub ScansAlike : Type 0
ScansAlike = (t : List ℕ) → needs_starts (automaton t) ≡ false → (s : Stream) (c : traced.Call) → Roomy c.slots
    → let a : Scanned = stream.scanned t s (pair_call c) in
    (traced.scanned t (bare s) c
    ≡ record { number = a.number; taken = a.taken; reports = a.reports; used = a.used; traced = bare a.stream })
    × (traced.scanned_lists t (bare s) c ≡ zeroed a.reports (stream.scanned_lists t s (pair_call c)) c.slots)

abbrev pub ClosesAlike : Type 0
ClosesAlike = (t : List ℕ) → needs_starts (automaton t) ≡ false → (s : Stream) (l : traced.Lists) → Roomy l
    → let a : Closed = stream.closed t s (pair_lists l) in
    (traced.closed t (bare s) l ≡ record { number = a.number; reports = a.reports; traced = bare a.stream })
    × (traced.closed_lists t (bare s) l ≡ zeroed a.reports (stream.closed_lists t s (pair_lists l)) l)

pub record Alike : Type 0 where
  pub opens : OpensAlike
  pub scans : ScansAlike
  pub closes : ClosesAlike
