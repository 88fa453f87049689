-- The test of a match by a rule's windows, as the code makes it.
use mathlib.Core.Path.{◌≡◌, refl, sym, ap, ap₂}
use mathlib.Core.Bool.{Bool, true, false, true≢false, ◌&&◌, ◌||◌}
use Prim.Native.Nat.{ℕ, ◌+◌, ◌-◌, ◌≤◌, ◌<◌}
use native.Mathlib.Omega.{arith}
use borrow.Author.Tests.{ltb-true, ltb-false, leb-true, leb-false, le-leb, lt-leb}
use lib.Dec.{ltb, leb}
use Rattle.meaning.specs.Rule.{Windows}
use Rattle.plain.specs.Run.{inside}

pub and-false : (b d : Bool) → d ≡ false → (b && d) ≡ false
and-false true d h = h
and-false false d h = refl

false-and : (b d : Bool) → b ≡ false → (b && d) ≡ false
false-and b d h = ap (λ (x : Bool). x && d) h

module _ (v : Windows) (e x : ℕ) where
  -- a start that is too late is not let through, so `none` never is
  pub outside : e < x → inside v e x ≡ false
  outside h = and-false (leb v.smallest_end e && leb e v.largest_end) (leb (x + v.smallest_length) e) (lt-leb (x + v.smallest_length) e (omega arith))

  pub out-of-bounds : (ltb e v.smallest_end || ltb v.largest_end e) ≡ true → false ≡ inside v e x
  out-of-bounds h = sym (false-and (leb v.smallest_end e && leb e v.largest_end) (leb (x + v.smallest_length) e) (go (ltb e v.smallest_end) refl h))
    where
      go : (b : Bool) → ltb e v.smallest_end ≡ b → (b || ltb v.largest_end e) ≡ true → (leb v.smallest_end e && leb e v.largest_end) ≡ false
      go true q g = false-and (leb v.smallest_end e) (leb e v.largest_end) (lt-leb v.smallest_end e (ltb-true e v.smallest_end q))
      go false q g = and-false (leb v.smallest_end e) (leb e v.largest_end) (lt-leb e v.largest_end (ltb-true v.largest_end e g))

  pub in_bounds : (ltb e v.smallest_end || ltb v.largest_end e) ≡ false → x ≤ e → leb v.smallest_length (e - x) ≡ inside v e x
  in_bounds h le = sym (ap₂ (λ (a b : Bool). a && b) (go (ltb e v.smallest_end) refl h) (long (leb v.smallest_length (e - x)) refl))
    where
      go : (b : Bool) → ltb e v.smallest_end ≡ b → (b || ltb v.largest_end e) ≡ false → (leb v.smallest_end e && leb e v.largest_end) ≡ true
      go true q g = absurd (true≢false g)
      go false q g = ap₂ (λ (a b : Bool). a && b) (le-leb v.smallest_end e (ltb-false e v.smallest_end q)) (le-leb e v.largest_end (ltb-false v.largest_end e g))

      long : (b : Bool) → leb v.smallest_length (e - x) ≡ b → leb (x + v.smallest_length) e ≡ b
      long true q = le-leb (x + v.smallest_length) e (omega (arith, leb-true v.smallest_length (e - x) q))
      long false q = lt-leb (x + v.smallest_length) e (omega (arith, leb-false v.smallest_length (e - x) q))
