-- Where nothing happens. A live set that does not meet the union of the last sets ends no rule; one
-- that does not meet those that wait for the next byte ends none late; and where nothing is live, a
-- byte that starts nothing leaves it so, whatever stands before it.
use mathlib.Core.Path.{◌≡◌, refl, sym, ap, ◌∙◌}
use mathlib.Core.Bool.{Bool, true, false, true≢false, not, ◌||◌, ◌&&◌}
use mathlib.Core.List.{List}
use Prim.Native.Nat.{ℕ, ◌+◌, ◌<◌, ◌≤◌}
use native.Mathlib.Nat.{le_refl}
use native.Mathlib.Decide.{dec_lt}
use native.Mathlib.Omega.{arith}
use lib.Dec.{eqb}
use lib.ListN.{get_or}
use Rattle.kinds.specs.declared.Side.{Side}
use Rattle.kinds.specs.Side.{side_of}
use Rattle.sets.specs.Set.{has, any, empty_set, union_of, size_of}
use Rattle.sets.proofs.Laws.{has-union, has-intersection, has-set_of, has-empty, any_none, any-never, count-never}
use Rattle.table.specs.Layout.{max_positions}
use Rattle.table.specs.Gaps.{between, unsettled}
use Rattle.table.specs.Automaton.{Automaton, last}
use Rattle.steps.specs.Step.{ends, ends_newly, lasts_of, lates_of, late_in, rules_where, windowed}
use Rattle.steps.proofs.Steps.{next-quiet}
use Rattle.stream.specs.Invariants.{waits_in, NoOpener, Skipped}
use Rattle.stream.proofs.Runs.{rules-none}

-- ---- the rules that end

pub gate : (w : Automaton) (live : List ℕ) (a : ℕ) → any max_positions (λ q. has live q && has (lasts_of w) q) ≡ false → ends w unsettled live a ≡ false
unfolding ends lasts_of
gate w live a e =
    any-never max_positions (λ p. has live p && last w unsettled a p)
    (λ p l. shut (has live p) (w.ending unsettled p) (eqb (w.owner p) a)
    (ap (λ (b : Bool). has live p && b) (sym (has-set_of (w.ending unsettled) p l)) ∙ any_none max_positions (λ q. has live q && has (lasts_of w) q) e p l))
  where
    shut : (x y z : Bool) → (x && y) ≡ false → (x && (y && z)) ≡ false
    shut true true z f = absurd (true≢false f)
    shut true false z f = refl
    shut false y z f = refl

-- where no live position waits for the next byte, none ends a match late
pub late-gate : (w : Automaton) (live : List ℕ) (gap less a : ℕ) → waits_in w live ≡ false
    → ends_newly w gap (late_in w live) less live a ≡ false
unfolding ends_newly ends
late-gate w live gap less a e =
    ap (λ (b : Bool). b && not (ends w less live a))
    (any-never max_positions (λ p. has (late_in w live) p && last w gap a p)
    (λ p l. ap (λ (b : Bool). b && last w gap a p) (has-intersection live (lates_of w) p l ∙ any_none max_positions (λ q. has live q && has (lates_of w) q) e p l)))

-- where no position of a set can end a match, none can whatever follows, and none waits for the
-- next byte
pub none_end : (w : Automaton) (next : List ℕ) → any max_positions (λ q. has next q && has (union_of (lasts_of w) (lates_of w)) q) ≡ false
    → (any max_positions (λ q. has next q && has (lasts_of w) q) ≡ false) × (waits_in w next ≡ false)
none_end w next e = (
  any-never max_positions (λ q. has next q && has (lasts_of w) q) (λ q l. left-off (has next q) (has (lasts_of w) q) (has (lates_of w) q) (neither q l)),
  any-never max_positions (λ q. has next q && has (lates_of w) q) (λ q l. right-off (has next q) (has (lasts_of w) q) (has (lates_of w) q) (neither q l)),
)
  where
    neither : (q : ℕ) → q < max_positions → (has next q && (has (lasts_of w) q || has (lates_of w) q)) ≡ false
    neither q l =
        sym (ap (λ (b : Bool). has next q && b) (has-union (lasts_of w) (lates_of w) q l))
        ∙ any_none max_positions (λ q. has next q && has (union_of (lasts_of w) (lates_of w)) q) e q l

    left-off : (x y z : Bool) → (x && (y || z)) ≡ false → (x && y) ≡ false
    left-off true true z f = f
    left-off true false z f = refl
    left-off false y z f = refl

    right-off : (x y z : Bool) → (x && (y || z)) ≡ false → (x && z) ≡ false
    right-off true true z f = absurd (true≢false f)
    right-off true false z f = f
    right-off false y z f = refl

-- where none waits, no rule ends late
pub late-none : (w : Automaton) (live : List ℕ) → waits_in w live ≡ false → (before after : Side) (end : ℕ)
    → 0 ≡ rules_where w (windowed w (ends_newly w (between before after) (late_in w live) unsettled live) end)
late-none w live e before after end =
    rules-none w (windowed w (ends_newly w (between before after) (late_in w live) unsettled live) end)
    (λ a h. ap (λ (b : Bool). b && w.inside a end) (late-gate w live (between before after) unsettled a e))

-- ---- nothing is live in the empty set

pub ends-empty : (w : Automaton) (gap a : ℕ) → ends w gap empty_set a ≡ false
unfolding ends
ends-empty w gap a = any-never max_positions (λ p. has empty_set p && last w gap a p) (λ p l. ap (λ (b : Bool). b && last w gap a p) (has-empty p l))

pub late-empty : (w : Automaton) (gap less a : ℕ) → ends_newly w gap (late_in w empty_set) less empty_set a ≡ false
late-empty w gap less a =
    late-gate w empty_set gap less a (any-never max_positions (λ q. has empty_set q && has (lates_of w) q) (λ q l. ap (λ (b : Bool). b && has (lates_of w) q) (has-empty q l)))

pub size-empty : size_of empty_set ≡ 0
unfolding size_of
size-empty = count-never max_positions (has empty_set) has-empty

-- ---- bytes passed over

-- no match can begin with some bytes
module _ (w : Automaton) (block : List ℕ) (from end : ℕ) where
  pub unopened-none : from ≤ end → NoOpener w block from end from
  unopened-none h = record { rises = le_refl from; inside = h; none = λ j l m. absurd (omega arith) }

  pub unopened-more : (at k : ℕ) → NoOpener w block from end at → at + k ≤ end → ((j : ℕ) → at ≤ j → j < at + k → w.opens (get_or block j 0) ≡ false) → NoOpener w block from end (at + k)
  unopened-more at k h l e = record { rises = omega (arith, h.rises); inside = l; none = λ j f g. go j f g (dec_lt j at) }
    where
      go : (j : ℕ) → from ≤ j → j < at + k → Dec (j < at) → w.opens (get_or block j 0) ≡ false
      go j f g (yes d) = h.none j f d
      go j f g (no d) = e j (omega arith) g

-- so they leave a live set empty
pub skipped-none : (w : Automaton) (block : List ℕ) (taken from : ℕ) (live : List ℕ) (end : ℕ) → from ≤ end → Skipped w live block taken from end from
skipped-none w block taken from live end h = record { rises = le_refl from; inside = h; empty = λ l. absurd (omega arith); still = λ j l m. absurd (omega arith) }

pub unopened-skipped : (w : Automaton) (live block : List ℕ) (taken from end to : ℕ) → live ≡ empty_set → 0 < taken + from → NoOpener w block from end to → Skipped w live block taken from end to
unopened-skipped w live block taken from end to e p h = record {
  rises = h.rises;
  inside = h.inside;
  empty = λ l. e;
  still = λ j l m before. next-quiet w before (side_of (get_or block j 0)) w.positions (taken + j) (get_or block j 0) (omega arith) (h.none j l m);
}
