-- The smallest lengths of the rules, in the words of a table. Each position has that of its rule,
-- and the table is marked where some rule has one (`Measures`); each addition keeps this. A rule
-- with a smallest length has positions that keep a start, so its matches are measured, and of one
-- without every match is long enough, whatever the table is marked for.
use mathlib.Core.Path.{◌≡◌, sym, ap, ◌∙◌}
use mathlib.Core.Bool.{Bool, true, cond, not, ◌||◌, or-true}
use mathlib.Core.List.{List}
use Prim.Native.Nat.{ℕ, ◌+◌, ◌≤◌, ◌<◌}
use native.Mathlib.Decide.{ℕ_discrete}
use native.Mathlib.Omega.{arith}
use lib.Dec.{eqb, leb, ltb}
use lib.ListN.{length, get_or}
use borrow.Author.Tests.{lt-ltb, le-ltb, le-leb, eq-eqb, ne_eqb}
use Rattle.table.specs.Layout.{table_words, max_rules, max_positions, rules_of, positions_of, keepers_at, lengths_of, shortest_at, row_has}
use Rattle.table.specs.Automaton.{automaton}
use Rattle.automaton.specs.declared.Parts.{Parts}
use Rattle.rules.specs.Words.{is_leftmost, lengths_with, added_in}
use Rattle.rules.specs.Additions.{Accepted, size}
use Rattle.rules.proofs.Sorted.{Placed}
use Rattle.rules.proofs.Views.{lengths-in, shortest-in}
use Rattle.rules.proofs.Encodes.{Of, Keeps, Long}

-- the words have the smallest length of the rule p
pub record Measures (t : List ℕ) (p : Placed) : Type 0 where
  pub shortest_is : (q : ℕ) → Of p q → get_or t (shortest_at q) 0 ≡ p.rule.windows.smallest_length
  pub none_is : lengths_of t ≡ 0 → p.rule.windows.smallest_length ≡ 0

-- so the automaton that they describe measures its matches by it
pub measured : (t : List ℕ) (p : Placed) → Measures t p → Keeps (automaton t) p → Long (automaton t) p
unfolding automaton
measured t p m keeps q o s e h = go (ℕ_discrete shortest 0)
  where
    shortest : ℕ
    shortest = p.rule.windows.smallest_length

    unasked : Bool
    unasked = eqb (lengths_of t) 0 || not (row_has t keepers_at q)

    here : (unasked || leb (s + get_or t (shortest_at q) 0) e) ≡ (unasked || leb (s + shortest) e)
    here = ap (λ (x : ℕ). unasked || leb (s + x) e) (m.shortest_is q o)

    go : Dec (shortest ≡ 0) → (unasked || leb (s + get_or t (shortest_at q) 0) e) ≡ leb (s + shortest) e
    go (yes z) =
        let enough : leb (s + shortest) e ≡ true = le-leb (s + shortest) e (omega arith) in
        here ∙ ap (λ (b : Bool). unasked || b) enough ∙ or-true unasked ∙ sym enough
    go (no z) =
        let kept : row_has t keepers_at q ≡ true =
        keeps q o ∙ ap (λ (b : Bool). is_leftmost p.rule.flags || not b) (ne_eqb shortest 0 z) ∙ or-true (is_leftmost p.rule.flags) in
        here ∙ (λ j. (ne_eqb (lengths_of t) 0 (λ y. z (m.none_is y)) j || not (kept j)) || leb (s + shortest) e)

-- ---- one rule more

module _ (t : List ℕ) (r : Accepted) (parts : ℕ → Parts) (sized : (parts 0).positions ≡ size r)
    (long : table_words ≤ length t) (few : rules_of t < max_rules) (room : positions_of t + (parts 0).positions ≤ max_positions) where
  abbrev u : List ℕ
  u = added_in t r.id r.flags r.windows parts

  abbrev shortest : ℕ
  shortest = r.windows.smallest_length

  abbrev new : Placed
  new = record { rule = r; from = positions_of t }

  word-is : (q : ℕ) → q < max_positions → get_or u (shortest_at q) 0 ≡ cond (ltb q (positions_of t)) (get_or t (shortest_at q) 0) shortest
  word-is = shortest-in t r.id r.flags r.windows parts long few room

  mark-is : lengths_of u ≡ lengths_with shortest (lengths_of t)
  mark-is = lengths-in t r.id r.flags r.windows parts long few room

  -- a table that is not marked was not marked before, and has got no rule with a smallest length
  unmarked : lengths_of u ≡ 0 → (lengths_of t ≡ 0) × (shortest ≡ 0)
  unmarked e = go (ℕ_discrete shortest 0) (sym mark-is ∙ e)
    where
      go : Dec (shortest ≡ 0) → lengths_with shortest (lengths_of t) ≡ 0 → (lengths_of t ≡ 0) × (shortest ≡ 0)
      go (yes z) f = (sym (ap (λ (b : Bool). cond b (lengths_of t) 1) (eq-eqb shortest 0 z)) ∙ f, z)
      go (no z) f = let one : ◌≡◌ {A = ℕ} 1 0 = sym (ap (λ (b : Bool). cond b (lengths_of t) 1) (ne_eqb shortest 0 z)) ∙ f in absurd (omega arith)

  pub measures-old : (p : Placed) → p.from + size p.rule ≤ positions_of t → Measures t p → Measures (added_in t r.id r.flags r.windows parts) p
  measures-old p within m =
      record {
        shortest_is = λ q o.
            word-is q (omega (arith, o.1))
            ∙ ap (λ (b : Bool). cond b (get_or t (shortest_at q) 0) shortest) (lt-ltb q (positions_of t) (omega (arith, o.1))) ∙ m.shortest_is q o;
        none_is = λ e. m.none_is (unmarked e).0;
      }

  pub measures-new : Measures (added_in t r.id r.flags r.windows parts) (record { rule = r; from = positions_of t })
  measures-new =
      record {
        shortest_is = λ q o.
            word-is q (omega (arith, o.1, sized))
            ∙ ap (λ (b : Bool). cond b (get_or t (shortest_at q) 0) shortest) (le-ltb q (positions_of t) o.0);
        none_is = λ e. (unmarked e).1;
      }
