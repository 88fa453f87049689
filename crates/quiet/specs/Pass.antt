-- Where a pass over bytes begins and ends. Assumes nothing: these are definitions.
use Rattle.std.specs.Prelude.{◌≡◌, Bool, true, false, not, ◌&&◌, ◌||◌, List, ℕ, ◌+◌, ◌-◌, ◌<◌, ◌≤◌, min, eqb, length, get_or}
use Rattle.sets.specs.Set.{empty_set, is_empty}
use Rattle.table.specs.Automaton.{Automaton}
use Rattle.stream.specs.Invariants.{NoOpener}

-- nothing is live inside the stream, and no start is kept, of a live position or of what is held:
-- as a test, and what it says
abbrev pub is_quiet : (some waits : Bool) → (live : List ℕ) → (taken : ℕ) → Bool
is_quiet some waits live taken = not (some || waits) && (is_empty live && not (eqb taken 0))

pub record Quietly (some waits : Bool) (live : List ℕ) (taken : ℕ) : Type 0 where
  pub none_live : some ≡ false
  pub none_waits : waits ≡ false
  pub empty : live ≡ empty_set
  pub begun : 0 < taken

-- where a pass ends: it may begin, no match can begin with the bytes up to there, which are at most
-- those up to `end`, and the last of them is no newline
pub record PassEnd (w : Automaton) (quiet : Bool) (block : List ℕ) (from end r : ℕ) : Type 0 where
  pub unopened : NoOpener w block from end r
  pub quiet_is : from < r → quiet ≡ true
  pub other : from < r → ¬ (get_or block (r - 1) 0 ≡ 10)

-- where one ends that begins at this place of a block and has this many units; a place past the
-- block's end stays
pub record Ends (w : Automaton) (quiet : Bool) (block : List ℕ) (from units r : ℕ) : Type 0 where
  pub inside : from ≤ length block → PassEnd w quiet block from (min (length block) (from + units)) r
  pub past : length block < from → r ≡ from
