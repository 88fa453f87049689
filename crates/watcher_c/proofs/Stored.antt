-- What a call of the interface leaves in the words of a state is read back as the state that it
-- handed back, so the next call goes on from there.
use mathlib.Core.Path.{◌≡◌, refl}
use mathlib.Core.Bool.{false, true≢false}
use mathlib.Core.List.{List}
use Prim.Native.Nat.{ℕ}
use lib.Dec.{eqb}
use Rattle.table.specs.Automaton.{automaton}
use Rattle.stream.specs.Calls.{Scanned, Closed}
use Rattle.stream.specs.Calls as stream
use Rattle.states.specs.State.{state_of, stream_form}
use Rattle.states.specs.Call.{short, stored_in, on_state}
use Rattle.states.proofs.Stored.{FourWords, read_back, after-four, words-four, either, fresh-four, opened-back, call_back}
use Rattle.watcher_c.specs.Interface.{scan_call, close_call}

module _ (t state : List ℕ) where
  pub open-back : short stream_form state ≡ false → state_of (stored_in stream_form (stream.opened t).stream state) ≡ (stream.opened t).stream
  open-back e = opened-back stream_form state (stream.opened t).stream e (read_back (stream.opened t).stream state (fresh-four t))

-- accepted or refused, a stream's state has four words in each set, and a refused call hands back
-- the one that it was given
module _ (t state : List ℕ) (c : stream.Call) where
  abbrev scan : Scanned
  scan = stream.scanned t (state_of state) c

  scan-four : FourWords scan.stream
  unfolding stream.scanned
  scan-four =
      either (λ (r : Scanned). FourWords r.stream) (eqb (stream.call_number t (state_of state) c) 0)
      (after-four (automaton t) (state_of state) c.block (stream.taken_by t (state_of state) c) (words-four state)) (words-four state)

  scan-kept : eqb scan.number 0 ≡ false → state_of state ≡ scan.stream
  unfolding stream.scanned
  scan-kept =
      either (λ (r : Scanned). eqb r.number 0 ≡ false → state_of state ≡ r.stream) (eqb (stream.call_number t (state_of state) c) 0)
      (λ e. absurd (true≢false e)) (λ e. refl)

  pub scan-back : short stream_form state ≡ false → state_of (on_state (scan_call t c) state).words ≡ scan.stream
  scan-back e = call_back (scan_call t c) state e (read_back scan.stream state scan-four) scan-kept

module _ (t state : List ℕ) (l : stream.Lists) where
  abbrev close : Closed
  close = stream.closed t (state_of state) l

  close-four : FourWords close.stream
  unfolding stream.closed
  close-four =
      either (λ (r : Closed). FourWords r.stream) (eqb (stream.close_number t (state_of state) (stream.space l)) 0) (words-four state) (words-four state)

  close-kept : eqb close.number 0 ≡ false → state_of state ≡ close.stream
  unfolding stream.closed
  close-kept =
      either (λ (r : Closed). eqb r.number 0 ≡ false → state_of state ≡ r.stream) (eqb (stream.close_number t (state_of state) (stream.space l)) 0)
      (λ e. absurd (true≢false e)) (λ e. refl)

  pub close-back : short stream_form state ≡ false → state_of (on_state (close_call t l) state).words ≡ close.stream
  close-back e = call_back (close_call t l) state e (read_back close.stream state close-four) close-kept
