-- The test of the ids, by numbers that are joined: what is joined has 32 bits exactly where each
-- has, and that is where the ids are in order.
use Rattle.std.proofs.Common.{◌≡◌, ℕ, zero, suc, ◌+◌, ◌%◌, ◌^◌, ◌<◌, ◌≤◌, Bool, true, false, ltb, List, sym, refl, ap, ◌∙◌, subst, ⊎_elim, zero-le, le_of_suc-le-suc, not-suc-le-zero, eq-or-lt_of_le, arith, le-ltb, lt-ltb}
use native.Mathlib.Decide.{dec_lt}
use lib.Bits.{bit_or, or_lt, or_add_and, and_le_l, and_le_r}
use Rattle.table.specs.Layout.{id_word}
use Rattle.table.specs.Table.{least_id, id_ok, all}
use Rattle.table.specs.Invariants.{Unordered}
use Rattle.table.proofs.Test.{all-at, at_all, fine, fine-ok, rise}

both_small : (x y : ℕ) → bit_or x y < 2 ^ 32 → (x < 2 ^ 32) × (y < 2 ^ 32)
both_small x y h = (omega (arith, or_add_and x y, and_le_r x y), omega (arith, or_add_and x y, and_le_l x y))

-- the difference d of the next id and the one after this, modulo 2^64
pub told-apart : (id next up d : ℕ) → id < 2 ^ 64 → next < 2 ^ 64 → d < 2 ^ 64 → up ≡ (id + 1) % 2 ^ 64 → (d + up) % 2 ^ 64 ≡ next → Unordered id next (bit_or id d)
told-apart id next up d i n l e f = record {
  told = λ h. let s = both_small id d h in (s.0, omega (arith, e, f, s.0, s.1));
  small = λ h m. or_lt 32 id d (omega arith) (omega (arith, e, f));
}

-- the ids before place a are in order, as far as the joined number tells
pub record Seen (t : List ℕ) (last a joined : ℕ) : Type 0 where
  pub inside : a ≤ last
  pub told : joined < 2 ^ 32 → (id_word t last < 2 ^ 32) × ((i : ℕ) → i < a → id_word t i < id_word t (suc i))
  pub small : ((i : ℕ) → i < suc last → id_word t i < 2 ^ 32) → ((i : ℕ) → i < last → id_word t i < id_word t (suc i)) → joined < 2 ^ 32

module _ (t : List ℕ) (last : ℕ) where
  pub seen_first : Seen t last 0 (id_word t last)
  seen_first = record { inside = zero-le; told = λ h. (h, λ i l. absurd (not-suc-le-zero l)); small = λ s r. s last (omega arith) }

  pub seen_more : (a joined r : ℕ) → Seen t last a joined → a < last → Unordered (id_word t a) (id_word t (suc a)) r → Seen t last (a + 1) (bit_or joined r)
  seen_more a joined r seen l u = record {
    inside = omega arith;
    told = λ h.
        let s = both_small joined r h in
        let before = seen.told s.0 in
        (before.0, λ i m. ⊎_elim (λ e. subst (λ (k : ℕ). id_word t k < id_word t (suc k)) (sym e) (u.told s.1).1) (before.1 i) (eq-or-lt_of_le (omega arith)));
    small = λ s rises. or_lt 32 joined r (seen.small s rises) (u.small (rises a l) (s (suc a) (omega arith)));
  }

  pub seen_all : (joined : ℕ) → Seen t last last joined → ltb joined (2 ^ 32) ≡ all (suc last) (id_ok t)
  seen_all joined seen = go (dec_lt joined (2 ^ 32)) (all (suc last) (id_ok t)) refl
    where
      each : ((i : ℕ) → i < last → id_word t i < id_word t (suc i)) → (i : ℕ) → i < suc last → least_id t i ≤ id_word t i
      each rises zero h = zero-le
      each rises (suc i) h = rises i (le_of_suc-le-suc h)

      there : joined < 2 ^ 32 → all (suc last) (id_ok t) ≡ true
      there h =
          let known = seen.told h in
          at_all (id_ok t) (suc last) (λ i l. fine-ok t i (record {
            least = each known.1 i l;
            small = ⊎_elim (λ e. omega (arith, ap (id_word t) e, known.0)) (λ m. omega (arith, known.0, rise t (suc last) (each known.1) i last m (omega arith)))
                (eq-or-lt_of_le (le_of_suc-le-suc l));
          }))

      back : all (suc last) (id_ok t) ≡ true → joined < 2 ^ 32
      back e =
          seen.small (λ i h. (fine t i (all-at (id_ok t) (suc last) e i h)).small)
          (λ i h. (fine t (suc i) (all-at (id_ok t) (suc last) e (suc i) (omega arith))).least)

      go : Dec (joined < 2 ^ 32) → (b : Bool) → all (suc last) (id_ok t) ≡ b → ltb joined (2 ^ 32) ≡ all (suc last) (id_ok t)
      go (yes h) b e = lt-ltb joined (2 ^ 32) h ∙ sym (there h)
      go (no h) true e = absurd (h (back e))
      go (no h) false e = le-ltb joined (2 ^ 32) (omega arith) ∙ sym e
