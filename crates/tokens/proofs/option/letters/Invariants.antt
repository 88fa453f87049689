-- `tokens::option::letters` meets its contract. The invariant: the letters from i on, under the
-- options so far, give the token that is asked for, and `size` is in step with i. A letter's place
-- is inside, so the measure, what is left of the bytes, falls.
use mathlib.Core.Path.{◌≡◌}
use mathlib.Core.Bool.{true, false}
use Prim.Native.Nat.{◌+◌, ◌-◌, ◌≤◌}
use lib.ListN.{length, drop}
use Rattle.tokens.specs.Option.{letters_of}
use Rattle.tokens.proofs.option.letters.Given as goal

abbrev pub invariant-loop-caseless : goal.invariant-loop-caseless
invariant-loop-caseless l =
    (l.i ≤ length l.s) × (l.size ≤ l.i + 2)
    × (letters_of l.on l.any (record { caseless = l.caseless; dotall = l.dotall; lines = l.lines; quoted = l.quoted }) l.size (drop l.i l.s)
    ≡ letters_of true false (record { caseless = l.initial.caseless; dotall = l.initial.dotall; lines = l.initial.lines; quoted = l.quoted }) 2 (drop l.at l.s))

abbrev pub decreases-loop-caseless : goal.decreases-loop-caseless
decreases-loop-caseless l = length l.s - l.i
