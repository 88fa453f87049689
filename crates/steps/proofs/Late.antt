-- Where the set of late positions is what additions make it, asking the late positions alone loses
-- nothing: a position that ends a match at a gap between two bytes and is not late ends it whatever
-- follows, so its rule has reported.
use mathlib.Core.Path.{◌≡◌, refl, sym, ap, ap₂, ◌∙◌}
use mathlib.Core.Bool.{Bool, true, false, not, ◌&&◌, and-false}
use mathlib.Core.List.{List}
use Prim.Native.Nat.{ℕ, ◌<◌}
use lib.Dec.{eqb}
use Rattle.sets.specs.Set.{has, any}
use Rattle.sets.proofs.Laws.{has-set_of, has-intersection, any_at, any-ext, any_none}
use Rattle.table.specs.Layout.{max_positions}
use Rattle.table.specs.Gaps.{unsettled, inner_gaps}
use Rattle.table.specs.Automaton.{Automaton, last}
use Rattle.table.proofs.Lates.{LatesAre}
use Rattle.steps.specs.Step.{ends, ends_newly, lates_of, late_in}

-- of a position that is live and ends a match at the gap (e) but not whatever follows (u), some gap
-- has it (i): it is late (l)
only-late : (h l e u i o : Bool) → l ≡ (i && not u) → (e ≡ true → i ≡ true) → (h && (u && o)) ≡ false → ((h && l) && (e && o)) ≡ (h && (e && o))
only-late false l e u i o a b c = refl
only-late true l false u i o a b c = and-false l
only-late true l true u i false a b c = and-false l
only-late true l true u i true a b c = and_is l (a ∙ ap₂ (λ (x y : Bool). x && not y) (b refl) (sym (and-true' u) ∙ c))
  where
    and-true' : (b : Bool) → (b && true) ≡ b
    and-true' true = refl
    and-true' false = refl

    and_is : (b : Bool) → b ≡ true → (b && true) ≡ true
    and_is b e = and-true' b ∙ e

module _ (w : Automaton) (lates : LatesAre w) (live : List ℕ) (gap a : ℕ) (inner : gap < inner_gaps) where
  late-ends : ends w unsettled live a ≡ false → ends w gap (late_in w live) a ≡ ends w gap live a
  unfolding ends lates_of
  late-ends none =
      any-ext max_positions _ _ (λ p l.
      ap (λ (b : Bool). b && last w gap a p) (has-intersection live (lates_of w) p l ∙ ap (λ (b : Bool). has live p && b) (has-set_of w.late p l))
      ∙ only-late (has live p) (w.late p) (w.ending gap p) (w.ending unsettled p) (any inner_gaps (λ g. w.ending g p)) (eqb (w.owner p) a) (lates p l)
      (λ e. any_at inner_gaps (λ g. w.ending g p) gap inner e)
      (any_none max_positions (λ p. has live p && last w unsettled a p) none p l))

  pub late-newly : ends_newly w gap (late_in w live) unsettled live a ≡ ends_newly w gap live unsettled live a
  unfolding ends_newly
  late-newly = go (ends w unsettled live a) refl
    where
      go : (b : Bool) → ends w unsettled live a ≡ b → (ends w gap (late_in w live) a && not (ends w unsettled live a)) ≡ (ends w gap live a && not (ends w unsettled live a))
      go true e =
          ap (λ (b : Bool). ends w gap (late_in w live) a && not b) e ∙ and-false (ends w gap (late_in w live) a)
          ∙ sym (ap (λ (b : Bool). ends w gap live a && not b) e ∙ and-false (ends w gap live a))
      go false e = ap (λ (b : Bool). b && not (ends w unsettled live a)) (late-ends e)
