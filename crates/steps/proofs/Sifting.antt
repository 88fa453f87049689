-- The digits of a word that pass a test. Each turn takes the lowest digit that is left out of those
-- that are asked, and drops it from those found unless it passes. So the rules whose window has an
-- end offset are found. Assumes nothing.
use mathlib.Core.Path.{◌≡◌, refl, sym, ap, subst, ◌∙◌}
use mathlib.Core.Bool.{Bool, true, false, true≢false, not, ◌&&◌, ◌||◌, and-true, and-false, and_assoc, or-true}
use mathlib.Core.List.{List}
use Prim.Native.Nat.{ℕ, suc, ◌-◌, ◌*◌, ◌/◌, ◌%◌, ◌^◌, ◌≤◌, ◌<◌}
use native.Mathlib.Omega.{arith}
use native.Mathlib.Decide.{ℕ_discrete}
use lib.Bits.{bit_and, and_le_l}
use lib.Count.{count_trailing_zeros}
use lib.Dec.{eqb, ltb}
use lib.ListN.{length}
use lib.Pow.{pow-lt}
use borrow.Author.Tests.{eq-eqb, ne_eqb, lt-ltb}
use Rattle.std.proofs.Common.{Some}
use Rattle.sets.specs.Set.{on, word_of}
use Rattle.sets.specs.Walk.{GivesLowest}
use Rattle.sets.proofs.Bits.{on_and, on-not, on-pow, on-zero, zeros-on, clear-low, cleared-off, on-word_of, word_of-on, word_of-ext, shl_one}
use Rattle.table.specs.Layout.{table_words, max_rules, windowed_of}
use Rattle.table.specs.Automaton.{Automaton, automaton}
use Rattle.steps.specs.Step.{number_on, rules_where, windowed, in_window}
use Rattle.steps.specs.Invariants.{window_has, Sifted}
use Rattle.steps.proofs.Carrying.{digit, on-turn, fits-still, some_left, taken}
use Rattle.steps.proofs.TableSets.{number-on}

-- ---- one digit

pub stays-there : (found a : ℕ) → found < 2 ^ 64 → Sifted found a true found
stays-there found a fits = record { small = fits; each = λ k h. sym (and-true (on found k)) }

pub is-dropped : (found a : ℕ) → found < 2 ^ 64 → a < 64 → Sifted found a false (bit_and found (2 ^ 64 - 1 - 1 * 2 ^ a % 2 ^ 64))
is-dropped found a fits h = record {
  small = omega (arith, and_le_l found (2 ^ 64 - 1 - 1 * 2 ^ a % 2 ^ 64));
  each = λ k l.
      on_and found (2 ^ 64 - 1 - 1 * 2 ^ a % 2 ^ 64) k
      ∙ ap (λ (b : Bool). on found k && b) (ap (λ (x : ℕ). on (2 ^ 64 - 1 - x) k) (shl_one a h) ∙ on-not 64 (2 ^ a) k small l ∙ ap not (on-pow a k));
}
  where
    small : 2 ^ a < 2 ^ 64
    small = pow-lt h

-- ---- the turns

-- What is found so far of some digits: those that are left to look at, and those that pass. Only
-- the digits of `asked` are looked at; every other passes.
pub record SiftLeft (asked : ℕ) (pass : ℕ → Bool) (all left found : ℕ) : Type 0 where
  pub small : left < 2 ^ 64
  pub found_small : found < 2 ^ 64
  pub only : (k : ℕ) → on left k ≡ true → on asked k ≡ true
  pub each : (k : ℕ) → k < 64 → on found k ≡ (on all k && (on left k || pass k))

module _ (asked : ℕ) (pass : ℕ → Bool) (others : (k : ℕ) → k < 64 → on asked k ≡ false → pass k ≡ true) where
  pub sift-none : (all left : ℕ) → all < 2 ^ 64 → left ≡ bit_and all asked → SiftLeft asked pass all left all
  sift-none all left fits e = record {
    small = omega (arith, and_le_l all asked);
    found_small = fits;
    only = λ k h. second (on all k) (on asked k) (sym (digits k) ∙ h);
    each = λ k h. sym (ap (λ (b : Bool). on all k && (b || pass k)) (digits k) ∙ go k h (on all k) (on asked k) refl);
  }
    where
      digits : (k : ℕ) → on left k ≡ (on all k && on asked k)
      digits k = ap (λ (x : ℕ). on x k) e ∙ on_and all asked k

      second : (b c : Bool) → (b && c) ≡ true → c ≡ true
      second true c h = h
      second false c h = absurd (true≢false (sym h))

      go : (k : ℕ) → k < 64 → (b c : Bool) → on asked k ≡ c → (b && ((b && c) || pass k)) ≡ b
      go k l false c h = refl
      go k l true true h = refl
      go k l true false h = others k l h

-- a turn looks at the lowest digit that is left: it stays where it passes
module _ (asked : ℕ) (pass : ℕ → Bool) {all left found : ℕ} (inv : SiftLeft asked pass all left found) (some : ¬ (left ≡ 0)) where
  abbrev z : ℕ
  z = count_trailing_zeros 64 left

  abbrev rest : ℕ
  rest = bit_and left (left - 1)

  pub low : z < 64
  low = digit left inv.small some

  there : on left z ≡ true
  there = (zeros-on 64 left inv.small (omega arith)).1

  cleared : on rest z ≡ false
  cleared = ap (λ (x : ℕ). on x z) (clear-low 64 left inv.small (omega arith)) ∙ cleared-off (left / 2 ^ suc z) (suc z) z (omega arith)

  sift-lowest : {r : ℕ} (stays : Bool) → pass z ≡ stays → Sifted found z stays r → SiftLeft asked pass all rest r
  sift-lowest stays is s = record {
    small = fits-still left inv.small some;
    found_small = s.small;
    only = λ k h. inv.only k (on-turn left inv.small some k ∙ ap (λ (b : Bool). eqb k z || b) h ∙ or-true (eqb k z));
    each = λ k h. s.each k h ∙ ap (λ (b : Bool). b && (stays || not (eqb k z))) (inv.each k h) ∙ go k (ℕ_discrete k z);
  }
    where
      here : (b c d : Bool) → ((b && (true || c)) && (d || false)) ≡ (b && (false || d))
      here true c true = refl
      here true c false = refl
      here false c d = refl

      go : (k : ℕ) → Dec (k ≡ z) → ((on all k && (on left k || pass k)) && (stays || not (eqb k z))) ≡ (on all k && (on rest k || pass k))
      go k (yes e) =
          let at : pass k ≡ stays = ap pass e ∙ is in
          rw (eq-eqb k z e, ap (on left) e ∙ there, ap (on rest) e ∙ cleared) (here (on all k) (pass k) stays ∙ sym (ap (λ (b : Bool). on all k && (false || b)) at))
      go k (no e) =
          let same : on left k ≡ on rest k = on-turn left inv.small some k ∙ ap (λ (b : Bool). b || on rest k) (ne_eqb k z e) in
          rw (ne_eqb k z e, same) (ap (λ (b : Bool). (on all k && (on rest k || pass k)) && b) (or-true stays) ∙ and-true (on all k && (on rest k || pass k)))

module _ (asked : ℕ) (pass : ℕ → Bool) {all left found k rest : ℕ} (inv : SiftLeft asked pass all left found) (g : GivesLowest left (Some k) rest) where
  pub is-asked : on asked k ≡ true
  is-asked = inv.only k (subst (λ (j : ℕ). on left j ≡ true) (sym g.3) (zeros-on 64 left g.1 g.0).1)

  pub sift-turn : {r : ℕ} (stays : Bool) → pass k ≡ stays → Sifted found k stays r → SiftLeft asked pass all rest r
  sift-turn {r} stays =
      taken g (λ k rest. pass k ≡ stays → Sifted found k stays r → SiftLeft asked pass all rest r) (sift-lowest asked pass inv (some_left g) stays)

pub sift-done : (asked : ℕ) (pass : ℕ → Bool) {all left found : ℕ} → SiftLeft asked pass all left found → left ≡ 0
    → found ≡ word_of 64 (λ k. on all k && pass k)
sift-done asked pass {all} {left} {found} inv e =
    sym (word_of-on 64 found inv.found_small)
    ∙ word_of-ext 64 (on found) (λ k. on all k && pass k)
    (λ k h. inv.each k h ∙ ap (λ (b : Bool). on all k && (b || pass k)) (ap (λ (x : ℕ). on x k) e ∙ on-zero k))

-- ---- the windows of the rules

module _ (t : List ℕ) (end : ℕ) where
  -- the rules whose window has the end offset
  abbrev pub inside : ℕ → Bool
  inside k = (automaton t).inside k end

  -- a rule with a window passes by its two words, and every other passes
  pub windowed-pass : (k : ℕ) → k < 64 → on (windowed_of t) k ≡ true → (automaton t).inside k end ≡ window_has t k end
  unfolding automaton
  windowed-pass k h e = rw (lt-ltb k max_rules h, e)

  pub others-pass : (k : ℕ) → k < 64 → on (windowed_of t) k ≡ false → (automaton t).inside k end ≡ true
  unfolding automaton
  others-pass k h e = rw (e, and-false (ltb k max_rules))

-- ---- the rules that pass a test

pub window-rules : (w : Automaton) (test : ℕ → Bool) (end : ℕ) → in_window w (rules_where w test) end ≡ rules_where w (windowed w test end)
window-rules w test end =
    word_of-ext 64 (windowed w (on (rules_where w test)) end) (λ a. ltb a w.rules && windowed w test end a)
    (λ k h. ap (λ (b : Bool). b && w.inside k end) (on-word_of 64 (λ a. ltb a w.rules && test a) k h) ∙ and_assoc (ltb k w.rules) (test k) (w.inside k end))

-- what `in_window` gives of them
pub window-is : (t : List ℕ) (test : ℕ → Bool) (end : ℕ) {word r : ℕ} → table_words ≤ length t → word ≡ rules_where (automaton t) test
    → r ≡ number_on t (in_window (automaton t) word end) → r ≡ rules_where (automaton t) (windowed (automaton t) test end)
window-is t test end {word} long is given =
    given ∙ number-on t (in_window (automaton t) word end) long ∙ ap (λ (x : ℕ). in_window (automaton t) x end) is ∙ window-rules (automaton t) test end
