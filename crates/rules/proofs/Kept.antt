-- The table with one rule more passes the test again, from any words that pass. Its ids are the old
-- ones, those from the new rule's place on one up, and the new one between, which is above those
-- before it and below those after it.
use mathlib.Core.Path.{◌≡◌, refl, sym, ap, ap₂, ◌∙◌, subst}
use mathlib.Core.Bool.{Bool, true, false, ◌||◌}
use mathlib.Core.List.{List}
use Prim.Native.Nat.{ℕ, ◌+◌, ◌-◌, ◌^◌, ◌≤◌, ◌<◌}
use native.Mathlib.Decide.{dec_lt}
use native.Mathlib.Omega.{arith}
use lib.Dec.{eqb}
use lib.ListN.{length}
use borrow.Author.Tests.{lt-ltb, le-ltb, le-leb, eq-eqb, ne_eqb, eqb-true, eqb-false}
use Rattle.sets.specs.Set.{any}
use Rattle.sets.proofs.Laws.{any_at, any_some, any_none}
use Rattle.table.specs.Layout.{table_words, max_rules, max_positions, rules_of, positions_of, id_word}
use Rattle.table.proofs.Test.{Passes}
use Rattle.automaton.specs.declared.Parts.{Parts}
use Rattle.rules.specs.Words.{place_of, id_words, added}
use Rattle.rules.specs.Add.{has_id}
use Rattle.rules.proofs.Place.{place-le, place-before, place_after}
use Rattle.rules.proofs.Regions.{length-added, added-format, added-rules, added-positions, added-id}

-- ---- the ids

module _ (t : List ℕ) (id flags : ℕ) (keeping : Bool) (parts : ℕ → Parts) (long : table_words ≤ length t) (few : rules_of t < max_rules) where
  pub id-before : (a : ℕ) → a < place_of t id → id_word (added t id flags keeping parts) a ≡ id_word t a
  unfolding id_words
  id-before a h = added-id t id flags keeping parts long a (omega (arith, place-le t id)) ∙ rw (lt-ltb a (place_of t id) h)

  pub id_there : id_word (added t id flags keeping parts) (place_of t id) ≡ id
  unfolding id_words
  id_there =
      added-id t id flags keeping parts long (place_of t id) (omega (arith, place-le t id))
      ∙ rw (le-ltb (place_of t id) (place_of t id) (omega arith), eq-eqb (place_of t id) (place_of t id) refl)

  pub id-after : (a : ℕ) → place_of t id < a → a ≤ rules_of t → id_word (added t id flags keeping parts) a ≡ id_word t (a - 1)
  unfolding id_words
  id-after a h m =
      added-id t id flags keeping parts long a (omega arith)
      ∙ rw (le-ltb a (place_of t id) (omega arith), ne_eqb a (place_of t id) (λ z. omega arith), le-leb a (rules_of t) m)

-- ---- the test

module _ (t : List ℕ) (id flags : ℕ) (keeping : Bool) (parts : ℕ → Parts) (p : Passes t) (few : rules_of t < max_rules) (room : positions_of t + (parts 0).positions ≤ max_positions)
    (small : id < 2 ^ 32) (fresh : (a : ℕ) → a < rules_of t → id_word t a ≡ id → ⊥) where
  abbrev u : List ℕ
  u = added t id flags keeping parts

  abbrev k : ℕ
  k = place_of t id

  k-le : k ≤ rules_of t
  k-le = place-le t id

  before : (a : ℕ) → a < k → id_word u a ≡ id_word t a
  before = id-before t id flags keeping parts p.long few

  after : (a : ℕ) → k < a → a ≤ rules_of t → id_word u a ≡ id_word t (a - 1)
  after = id-after t id flags keeping parts p.long few

  id-here : (a : ℕ) → a ≡ k → id_word u a ≡ id
  id-here a e = ap (id_word u) e ∙ id_there t id flags keeping parts p.long few

  each : (P : ℕ → Type 0) → ((a : ℕ) → a < k → P a) → P k → ((a : ℕ) → k < a → a ≤ rules_of t → P a) → (a : ℕ) → a < rules_of t + 1 → P a
  each P lower new upper a h = go (dec_lt a k) (dec_lt k a)
    where
      go : Dec (a < k) → Dec (k < a) → P a
      go (yes x) y = lower a x
      go (no x) (yes y) = upper a y (omega arith)
      go (no x) (no y) = let e : k ≡ a = omega arith in subst P e new

  -- the new id is below those that follow it
  next : (a : ℕ) → k < a → a ≤ rules_of t → id < id_word t (a - 1)
  next a h l = go (dec_lt id (id_word t (a - 1)))
    where
      go : Dec (id < id_word t (a - 1)) → id < id_word t (a - 1)
      go (yes x) = x
      go (no x) = absurd (fresh (a - 1) (omega arith) (omega (arith, place_after t id p (a - 1) (omega arith) (omega arith))))

  rising-u : (a b : ℕ) → a < b → b < rules_of t + 1 → id_word u a < id_word u b
  rising-u a b h l = go (dec_lt b k) (dec_lt k b) (dec_lt a k) (dec_lt k a)
    where
      go : Dec (b < k) → Dec (k < b) → Dec (a < k) → Dec (k < a) → id_word u a < id_word u b
      go (yes x) y z w = omega (arith, before a (omega arith), before b x, p.rising a b h (omega (arith, k-le)))
      go (no x) (no y) z w = omega (arith, before a (omega arith), id-here b (omega arith), place-before t id p a (omega arith))
      go (no x) (yes y) (yes z) w =
          omega (arith, before a z, after b y (omega arith), p.rising a (b - 1) (omega arith) (omega arith))
      go (no x) (yes y) (no z) (no w) = omega (arith, id-here a (omega arith), after b y (omega arith), next b y (omega arith))
      go (no x) (yes y) (no z) (yes w) =
          omega (arith, after a w (omega arith), after b y (omega arith), p.rising (a - 1) (b - 1) (omega arith) (omega arith))

  rules-u : rules_of u ≡ rules_of t + 1
  rules-u = added-rules t id flags keeping parts p.long

  positions-u : positions_of u ≡ positions_of t + (parts 0).positions
  positions-u = added-positions t id flags keeping parts p.long

  pub passes-added : Passes (added t id flags keeping parts)
  passes-added =
      record {
        long = omega (arith, length-added t id flags keeping parts p.long, p.long);
        marked = added-format t id flags keeping parts p.long ∙ p.marked;
        rules = omega (arith, rules-u);
        positions = omega (arith, positions-u);
        rising = λ a b h l. rising-u a b h (omega (arith, rules-u));
        small = λ a h. each (λ (a : ℕ). id_word u a < 2 ^ 32)
            (λ a x. omega (arith, before a x, p.small a (omega (arith, k-le))))
            (omega (arith, id-here k refl))
            (λ a x y. omega (arith, after a x y, p.small (a - 1) (omega arith))) a (omega (arith, rules-u));
      }

-- ---- the ids

module _ (t : List ℕ) (id flags : ℕ) (keeping : Bool) (parts : ℕ → Parts) (long : table_words ≤ length t) (few : rules_of t < max_rules) where
  id-high : (a : ℕ) → place_of t id ≤ a → a < rules_of t → id_word (added t id flags keeping parts) (a + 1) ≡ id_word t a
  id-high a h l =
      let e : a + 1 - 1 ≡ a = omega arith in
      id-after t id flags keeping parts long few (a + 1) (omega arith) (omega arith) ∙ ap (id_word t) e

  -- the table has the ids that it had, and the new one
  pub has-id-added : (i : ℕ) → has_id (added t id flags keeping parts) i ≡ (has_id t i || eqb id i)
  unfolding has_id
  has-id-added i = go (any (rules_of t) (old t)) (eqb id i) refl refl
    where
      old : List ℕ → ℕ → Bool
      old s a = eqb (id_word s a) i

      u : List ℕ
      u = added t id flags keeping parts

      rules : rules_of u ≡ rules_of t + 1
      rules = added-rules t id flags keeping parts long

      there : (a : ℕ) → a < rules_of t + 1 → id_word u a ≡ i → any (rules_of u) (old u) ≡ true
      there a h e = any_at (rules_of u) (old u) a (omega (arith, rules)) (eq-eqb (id_word u a) i e)

      kept : (a : ℕ) → a < rules_of t → id_word t a ≡ i → Dec (a < place_of t id) → any (rules_of u) (old u) ≡ true
      kept a h e (yes l) = there a (omega arith) (id-before t id flags keeping parts long few a l ∙ e)
      kept a h e (no l) = there (a + 1) (omega arith) (id-high a (omega arith) h ∙ e)

      none : any (rules_of t) (old t) ≡ false → eqb id i ≡ false → (a : ℕ) → a < rules_of t + 1 → id_word u a ≡ i → ⊥
      none x y a h e = side (dec_lt a (place_of t id)) (dec_lt (place_of t id) a)
        where
          missing : (b : ℕ) → b < rules_of t → id_word t b ≡ i → ⊥
          missing b l z = eqb-false (id_word t b) i (any_none (rules_of t) (old t) x b l) z

          side : Dec (a < place_of t id) → Dec (place_of t id < a) → ⊥
          side (yes l) m = missing a (omega (arith, place-le t id)) (sym (id-before t id flags keeping parts long few a l) ∙ e)
          side (no l) (yes m) =
              let z : a - 1 + 1 ≡ a = omega arith in
              missing (a - 1) (omega arith) (sym (id-high (a - 1) (omega arith) (omega arith)) ∙ ap (λ (b : ℕ). id_word u b) z ∙ e)
          side (no l) (no m) =
              let z : place_of t id ≡ a = omega arith in
              eqb-false id i y (sym (id_there t id flags keeping parts long few) ∙ ap (λ (b : ℕ). id_word u b) z ∙ e)

      go : (b c : Bool) → any (rules_of t) (old t) ≡ b → eqb id i ≡ c → any (rules_of u) (old u) ≡ (any (rules_of t) (old t) || eqb id i)
      go true c x y = let s = any_some (rules_of t) (old t) x in kept s.0 s.1 (eqb-true (id_word t s.0) i s.2) (dec_lt s.0 (place_of t id)) ∙ sym (ap (λ (b : Bool). b || eqb id i) x)
      go false true x y = there (place_of t id) (omega (arith, place-le t id)) (id_there t id flags keeping parts long few ∙ eqb-true id i y) ∙ sym (ap₂ (λ (b c : Bool). b || c) x y)
      go false false x y = absent (any (rules_of u) (old u)) refl ∙ sym (ap₂ (λ (b c : Bool). b || c) x y)
        where
          absent : (b : Bool) → any (rules_of u) (old u) ≡ b → any (rules_of u) (old u) ≡ false
          absent true z =
              let s = any_some (rules_of u) (old u) z in
              absurd (none x y s.0 (omega (arith, rules, s.1)) (eqb-true (id_word u s.0) i s.2))
          absent false z = z
