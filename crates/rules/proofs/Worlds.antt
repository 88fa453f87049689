-- The gaps of a table mean what the meaning of regular expressions says: the assertions that
-- `holding` has at a gap's number are those known to hold between such sides. Sides and assertions
-- are few, so a statement about all of them is one test, which is computed.
use mathlib.Core.Path.{◌≡◌, refl}
use mathlib.Core.Bool.{Bool, true, false}
use Prim.Native.Nat.{ℕ}
use Rattle.sets.specs.Set.{on}
use Rattle.kinds.specs.declared.Side.{Side}
use Rattle.kinds.specs.declared.Side.TheVariants.{Newline}
use Rattle.table.specs.Gaps.{between, before_last, unsettled, at_the_end, at_the_start, start_of_last}
use Rattle.meaning.specs.Gap.{Known, byte, edge, unknown}
use Rattle.meaning.specs.Rule.{Assertion, world}
use Rattle.meaning.proofs.Finite.{every_side, at_side, agree, agreed}
use Rattle.automaton.specs.Parts.{world_of}
use Rattle.rules.specs.Gaps.{holding_at}

-- the same assertions hold at a gap's number and between its sides
abbrev agrees : (g : ℕ) (before after : Known) (line : Bool) → Bool
agrees g before after line = agree (world_of (holding_at g)) (world before after line)

read : (g : ℕ) (before after : Known) (line : Bool) → agrees g before after line ≡ true → (a : Assertion) → world_of (holding_at g) a ≡ world before after line a
read g before after line = agreed (world_of (holding_at g)) (world before after line)

-- ---- each number

pub world-between : (s t : Side) (a : Assertion) → world_of (holding_at (between s t)) a ≡ world (byte s) (byte t) false a
unfolding between on
world-between s t = read (between s t) (byte s) (byte t) false (at_side (test s) (at_side (λ s. every_side (test s)) refl s) t)
  where
    test : Side → Side → Bool
    test s t = agrees (between s t) (byte s) (byte t) false

pub world-before-last : (s : Side) (a : Assertion) → world_of (holding_at (before_last s)) a ≡ world (byte s) (byte Newline) true a
unfolding before_last on
world-before-last s = read (before_last s) (byte s) (byte Newline) true (at_side (λ s. agrees (before_last s) (byte s) (byte Newline) true) refl s)

pub world-unsettled : (s : Side) (a : Assertion) → world_of (holding_at unsettled) a ≡ world (byte s) unknown false a
unfolding on
world-unsettled s = read unsettled (byte s) unknown false (at_side (λ s. agrees unsettled (byte s) unknown false) refl s)

pub world-at-end : (s : Side) (a : Assertion) → world_of (holding_at (at_the_end s)) a ≡ world (byte s) edge true a
unfolding at_the_end on
world-at-end s = read (at_the_end s) (byte s) edge true (at_side (λ s. agrees (at_the_end s) (byte s) edge true) refl s)

pub world-at-start : (t : Side) (a : Assertion) → world_of (holding_at (at_the_start t)) a ≡ world edge (byte t) false a
unfolding at_the_start on
world-at-start t = read (at_the_start t) edge (byte t) false (at_side (λ t. agrees (at_the_start t) edge (byte t) false) refl t)

pub world-start-of-last : (a : Assertion) → world_of (holding_at start_of_last) a ≡ world edge (byte Newline) true a
unfolding on
world-start-of-last = read start_of_last edge (byte Newline) true refl
