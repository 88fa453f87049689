-- Where a pass begins, and where it ends: at once, or before the newlines that stand before the
-- next opener.
use mathlib.Core.Path.{◌≡◌, refl, sym}
use mathlib.Core.Bool.{Bool, true, false, true≢false, not, ◌&&◌, ◌||◌}
use mathlib.Core.List.{List}
use Prim.Native.Nat.{ℕ, ◌<◌, ◌≤◌}
use native.Mathlib.Nat.{le_trans}
use native.Mathlib.Omega.{arith}
use lib.Dec.{eqb}
use borrow.Author.Tests.{eqb-false}
use Rattle.sets.specs.Set.{empty_set, is_empty}
use Rattle.sets.proofs.Laws.{Words, empty-is}
use Rattle.table.specs.Automaton.{Automaton}
use Rattle.stream.specs.Invariants.{NoOpener}
use Rattle.quiet.specs.Pass.{is_quiet, Quietly, PassEnd}
use Rattle.quiet.specs.Invariants.{BackOver}

-- what the test says
pub quietly : (some waits : Bool) (live : List ℕ) (taken : ℕ) → Words live → is_quiet some waits live taken ≡ true → Quietly some waits live taken
quietly some waits live taken words = go some waits (is_empty live) (empty-is live words) (eqb taken 0) refl
  where
    positive : (n : ℕ) → eqb n 0 ≡ false → 0 < n
    positive n e = omega (arith, eqb-false n 0 e)

    go : (a b c : Bool) → (c ≡ true → live ≡ empty_set) → (d : Bool) → eqb taken 0 ≡ d → (not (a || b) && (c && not d)) ≡ true → Quietly a b live taken
    go false false true is false e q = record { none_live = refl; none_waits = refl; empty = is refl; begun = positive taken e }
    go false false true is true e q = absurd (true≢false (sym q))
    go false false false is d e q = absurd (true≢false (sym q))
    go false true c is d e q = absurd (true≢false (sym q))
    go true b c is d e q = absurd (true≢false (sym q))

unopened-less : (w : Automaton) (block : List ℕ) (from end to r : ℕ) → from ≤ r → r ≤ to → NoOpener w block from end to → NoOpener w block from end r
unopened-less w block from end to r h l n = record { rises = h; inside = le_trans l n.inside; none = λ j f g. n.none j f (omega arith) }

pub pass-none : (w : Automaton) (quiet : Bool) (block : List ℕ) (from end : ℕ) → NoOpener w block from end from → PassEnd w quiet block from end from
pass-none w quiet block from end h = record { unopened = h; quiet_is = λ l. absurd (omega arith); other = λ l. absurd (omega arith) }

pub pass-back : {w : Automaton} {quiet : Bool} {block : List ℕ} {from end to r : ℕ} → quiet ≡ true → NoOpener w block from end to → BackOver block from to r
    → PassEnd w quiet block from end r
pass-back {w} {quiet} {block} {from} {end} {to} {r} e n b = record {
  unopened = unopened-less w block from end to r b.rises b.inside n;
  quiet_is = λ l. e;
  other = b.other;
}
