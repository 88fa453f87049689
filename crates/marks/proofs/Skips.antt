-- A form without positions leaves the marks alone: it only lets pass or not. Assumes nothing.
use mathlib.Core.Path.{◌≡◌, refl}
use mathlib.Core.Bool.{Bool, true, false, ◌&&◌}
use mathlib.Core.List.{List}
use Prim.Native.Nat.{ℕ, ◌+◌, min, ◌≤◌}
use native.Mathlib.Omega.{arith}
use lib.Seq.{ext_get_or}
use Rattle.meaning.specs.Form.{eps, take, check, seq, alt, plus, opt, positions}
use Rattle.meaning.specs.Automaton.{null}
use Rattle.meaning.specs.Rule.{Assertion, ByteSet}
use Rattle.marks.specs.Marks.{none, when, ends, past, moved}
use Rattle.nodes.specs.Invariants.{Written}
use Rattle.marks.proofs.Least.{when-low}
use Rattle.marks.proofs.Moving.{moved-long, moved-outside}

pub when-none : (v : Bool) → when v none ≡ none
unfolding when
when-none true = refl
when-none false = refl

module _ (w : Assertion → Bool) where
  -- a form without positions
  pub ends-none : (f : Written) (b : ℕ) (ms : List ℕ) → positions f ≡ 0 → ends w f b ms ≡ none
  unfolding ends positions when
  ends-none eps b ms z = refl
  ends-none (take c) b ms z = absurd (omega arith)
  ends-none (check a) b ms z = refl
  ends-none (seq f g) b ms z =
      let x = ends-none f b ms (omega arith) in
      let y = ends-none g (b + positions f) ms (omega arith) in
      rw (x, y) (go (null w g))
    where
      go : (v : Bool) → min (when v none) none ≡ none
      go true = refl
      go false = refl
  ends-none (alt f g) b ms z =
      let x = ends-none f b ms (omega arith) in
      let y = ends-none g (b + positions f) ms (omega arith) in
      rw (x, y)
  ends-none (plus f) b ms z = ends-none f b ms z
  ends-none (opt f) b ms z = ends-none f b ms z

  pub moved_none : (h : ByteSet → Bool) (f : Written) (b i : ℕ) (ms : List ℕ) → positions f ≡ 0 → moved w h f b i ms ≡ ms
  moved_none h f b i ms z =
      ext_get_or 0 (moved w h f b i ms) ms (moved-long w h f b i ms) (λ q l. moved-outside w h f b i ms q (λ m. omega arith))

  pub min-none : (x : ℕ) → x ≤ none → min x none ≡ x
  min-none x h = omega arith

  pub none-min : (x : ℕ) → x ≤ none → min none x ≡ x
  none-min x h = omega arith

  pub when-and : (u v : Bool) (x : ℕ) → when v (when u x) ≡ when (u && v) x
  unfolding when
  when-and true v x = refl
  when-and false true x = refl
  when-and false false x = refl

  pub past-none : (f : Written) (b i : ℕ) (ms : List ℕ) → positions f ≡ 0 → i ≤ none → past w f b i ms ≡ when (null w f) i
  unfolding past
  past-none f b i ms z l = rw (ends-none f b ms z) (min-none (when (null w f) i) (when-low (null w f) i l))
