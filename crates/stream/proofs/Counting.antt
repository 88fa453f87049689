-- What of a state counts for the bytes after it: the live set, the marks, the last byte's side and
-- the bytes taken. States alike in these give the same reports and the same cost, so the loop may
-- be handed these alone.
use mathlib.Core.Path.{◌≡◌, refl, sym, ap, ◌∙◌}
use Prim.Native.Nat.{ℕ}
use Rattle.table.specs.Automaton.{Automaton}
use Rattle.stream.specs.declared.Stream.{Stream}
use Rattle.stream.specs.Byte.{next_live, next_held, next_pending, byte_reports, byte_state}
use Rattle.stream.specs.Invariants.{state_of}

abbrev pub counting : Stream → Stream
counting s = state_of s.live s.reported s.last s.taken

-- ---- one byte

module _ (w : Automaton) (s : Stream) (x : ℕ) where
  pub byte-live : (byte_state w s x).live ≡ next_live w (counting s) x
  unfolding byte_state
  byte-live = refl

  pub byte-marks : (byte_state w s x).reported ≡ (byte_state w (counting s) x).reported
  unfolding byte_state
  byte-marks = refl

  reports-counting : byte_reports w s x ≡ byte_reports w (counting s) x
  unfolding byte_reports
  reports-counting = refl

  -- for what waits the marks do not count
  held-counting : (byte_state w s x).held ≡ next_held w (state_of s.live 0 s.last s.taken) x
  unfolding byte_state next_held
  held-counting = refl

  pending-counting : (byte_state w s x).pending ≡ next_pending w (state_of s.live 0 s.last s.taken) x
  unfolding byte_state next_pending
  pending-counting = refl

module _ (w : Automaton) (s z : Stream) (alike : counting s ≡ counting z) (x : ℕ) where
  pub reports-alike : byte_reports w s x ≡ byte_reports w z x
  reports-alike = reports-counting w s x ∙ ap (λ (y : Stream). byte_reports w y x) alike ∙ sym (reports-counting w z x)

  pub held-alike : next_held w (state_of z.live 0 z.last z.taken) x ≡ (byte_state w s x).held
  held-alike = ap (λ (y : Stream). next_held w (state_of y.live 0 y.last y.taken) x) (sym alike) ∙ sym (held-counting w s x)

  pub pending-alike : next_pending w (state_of z.live 0 z.last z.taken) x ≡ (byte_state w s x).pending
  pending-alike = ap (λ (y : Stream). next_pending w (state_of y.live 0 y.last y.taken) x) (sym alike) ∙ sym (pending-counting w s x)
