-- A window of end offsets lets through whole pairs: a rule's pairs fall as they do without it, and
-- those outside it do not fall at all. Assumes nothing.
use mathlib.Core.Logic.{◌↔◌}
use mathlib.Core.List.{List}
use Prim.Native.Nat.{ℕ, ◌^◌, ◌≤◌, ◌<◌, zero-le}
use native.Mathlib.Omega.{arith}
use lib.ListN.{length}
use Rattle.meaning.specs.Rule.{Rule, Windows, no_windows}
use Rattle.meaning.specs.Ordered.{Settled, Falls}
use Rattle.meaning.proofs.Moments.{within}

-- the end offset is in the window
abbrev pub AtOffset : Windows → ℕ → Type 0
AtOffset w e = (w.smallest_end ≤ e) × (e ≤ w.largest_end)

-- the rule without it
abbrev pub unbounded : Rule → Rule
unbounded r = record {
  id = r.id;
  single = r.single;
  starts = r.starts;
  windows = record { smallest_end = no_windows.smallest_end; largest_end = no_windows.largest_end; smallest_length = r.windows.smallest_length };
  tree = r.tree;
}

module _ (bytes : List ℕ) (r : Rule) (short : length bytes < 2 ^ 64) where
  settled-apart : (m e : ℕ) → Settled bytes r m e ↔ (Settled bytes (unbounded r) m e × AtOffset r.windows e)
  settled-apart m e = (
    λ h. (
      record { start = h.start; earlier = h.earlier; matched = h.matched; inside = (zero-le, omega (arith, (within bytes r m e h).1), h.inside.2) },
      (h.inside.0, h.inside.1),
    ),
    λ h. record { start = h.0.start; earlier = h.0.earlier; matched = h.0.matched; inside = (h.1.0, h.1.1, h.0.inside.2) },
  )

  pub falls-apart : (m e : ℕ) → Falls bytes r m e ↔ (Falls bytes (unbounded r) m e × AtOffset r.windows e)
  falls-apart m e = (
    λ h.
        let s = (settled-apart m e).0 h.settled in (
          record {
            from_last = h.from_last;
            by_closing = h.by_closing;
            settled = s.0;
            not_before = λ j le lt g. h.not_before j le lt ((settled-apart j e).1 (g, s.1));
          },
          s.1,
        ),
    λ h. record {
      from_last = h.0.from_last;
      by_closing = h.0.by_closing;
      settled = (settled-apart m e).1 (h.0.settled, h.1);
      not_before = λ j le lt g. h.0.not_before j le lt ((settled-apart j e).0 g).0;
    },
  )
