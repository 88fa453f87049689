-- What of a state counts for the entry after it: the live set, the last byte's side, and whether
-- some byte is taken.
use mathlib.Core.Path.{◌≡◌, refl, sym, ap, ◌∙◌}
use mathlib.Core.Bool.{Bool, true, false, cond, not, ◌&&◌, ◌||◌}
use mathlib.Core.List.{List}
use Prim.Native.Nat.{ℕ}
use native.Mathlib.Omega.{arith}
use lib.Dec.{eqb, ltb}
use borrow.Author.Tests.{lt-ltb, le-ltb, eqb-true, eqb-false}
use Rattle.sets.specs.Set.{has, set_of, any, empty_set}
use Rattle.kinds.specs.declared.Side.TheVariants.{Newline}
use Rattle.kinds.specs.Side.{side_of}
use Rattle.table.specs.Layout.{max_positions}
use Rattle.table.specs.Gaps.{between, before_last, unsettled, at_the_start, start_of_last, gap_of, first_gap}
use Rattle.table.specs.Automaton.{Automaton, starts}
use Rattle.steps.specs.Step.{stepped, ends_newly, late_in, rules_where}
use Rattle.stream.specs.declared.Stream.{Stream}
use Rattle.stream.specs.Byte.{next_live, next_held, next_pending}

-- no byte is taken, or some is
some-taken : (n : ℕ) → ltb 0 n ≡ not (eqb n 0)
some-taken n = go (eqb n 0) refl
  where
    go : (b : Bool) → eqb n 0 ≡ b → ltb 0 n ≡ not b
    go true e = le-ltb 0 n (omega (arith, eqb-true n 0 e))
    go false e = lt-ltb 0 n (omega (arith, eqb-false n 0 e))

module _ (w : Automaton) (s z : Stream) (x : ℕ) (lives : s.live ≡ z.live) (lasts : s.last ≡ z.last) (begun : eqb s.taken 0 ≡ eqb z.taken 0) where
  stepped-alike : (line : Bool) → stepped w line s.last (side_of x) w.positions s.live s.taken x ≡ stepped w line z.last (side_of x) w.positions z.live z.taken x
  unfolding stepped first_gap
  stepped-alike line =
      λ i. set_of (λ q. ltb q w.positions && (w.takes x q
      && (starts w (cond (begun i) (cond line start_of_last (at_the_start (side_of x))) (gap_of line (lasts i) (side_of x))) x q
      || any max_positions (λ p. has (lives i) p && w.follow (gap_of line (lasts i) (side_of x)) p q))))

  pub live_alike : next_live w s x ≡ next_live w z x
  live_alike = stepped-alike false

  pub held-alike : next_held w s x ≡ next_held w z x
  unfolding next_held
  held-alike = ap (λ (l : List ℕ). cond (eqb x 10) l empty_set) (stepped-alike true)

  pub pending-alike : next_pending w s x ≡ next_pending w z x
  unfolding next_pending
  pending-alike =
      λ i. cond (eqb x 10 && (some-taken s.taken ∙ ap not begun ∙ sym (some-taken z.taken)) i)
      (rules_where w (ends_newly w (before_last (lasts i)) (lives i) (between (lasts i) Newline) (lives i))) 0

  pub late-alike : (a : ℕ) → ends_newly w (between s.last (side_of x)) (late_in w s.live) unsettled s.live a ≡ ends_newly w (between z.last (side_of x)) (late_in w z.live) unsettled z.live a
  late-alike a = λ i. ends_newly w (between (lasts i) (side_of x)) (late_in w (lives i)) unsettled (lives i) a
