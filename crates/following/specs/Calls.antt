-- A scan that is given a second table, on any words, state and inputs: the answer, and the lent
-- lists afterwards. Assumes nothing: these are definitions.
use Rattle.std.specs.Prelude.{cond, List, ℕ, eqb, length}
use Rattle.table.specs.Table.{is_table}
use Rattle.table.specs.Automaton.{automaton}
use Rattle.stream.specs.declared.Stream.{Stream}
use Rattle.stream.specs.Byte.{after, reports_by, cost_by, fits_by}
use Rattle.stream.specs.Calls.{Scanned, Lists, Call, space, written, scan_number}
use Rattle.second.specs.Second.{is_second}
use Rattle.following.specs.Follow.{looked_up, following}

-- "words that don't pass are refused with 29, checked right after 1"
unfoldable pub follow_number : (t c : List ℕ) → Stream → (len room : ℕ) → ℕ
follow_number t c s len room = cond (is_table t) (cond (is_second t c) (scan_number t s len room) 29) 1

module _ (t c : List ℕ) (s : Stream) (a : Call) where
  abbrev pub followed_number : ℕ
  followed_number = follow_number t c s (length a.block) (space a.slots)

  -- how many bytes of its block it takes if it is accepted
  unfoldable pub follow_takes : ℕ
  follow_takes = fits_by (following (automaton t) c) (looked_up c s) a.allowance a.block (space a.slots) (length a.block)

  unfoldable pub followed : Scanned
  followed =
      cond (eqb followed_number 0)
      (record {
        number = 0;
        taken = follow_takes;
        reports = length (reports_by (following (automaton t) c) (looked_up c s) a.block follow_takes);
        used = cost_by (following (automaton t) c) (looked_up c s) a.block follow_takes;
        stream = (after (following (automaton t) c) (looked_up c s) a.block follow_takes).stream;
      })
      (record { number = followed_number; taken = 0; reports = 0; used = 0; stream = s })

  unfoldable pub followed_lists : Lists
  followed_lists =
      cond (eqb followed_number 0) (written (reports_by (following (automaton t) c) (looked_up c s) a.block follow_takes) a.slots) a.slots
