-- What is given of words enough for a table, and of fewer; and the rules in a table's words: those
-- that own a position of a set that ends a match, and the single-match rules.
use mathlib.Core.Path.{◌≡◌, refl, sym, ap, ap₂, ◌∙◌}
use mathlib.Core.Bool.{Bool, cond, not, ◌&&◌, and_comm, and_assoc, not-not}
use mathlib.Core.List.{List}
use Prim.Native.Nat.{ℕ, ◌-◌, ◌^◌, ◌<◌, ◌≤◌, min}
use native.Mathlib.Nat.{lt_of_le_of_lt}
use native.Mathlib.Decide.{dec_lt}
use native.Mathlib.Omega.{arith}
use lib.Bits.{bit_and, and_le_l}
use lib.Dec.{eqb, ltb}
use lib.ListN.{length, get_or}
use borrow.Author.Tests.{lt-ltb, le-ltb, le-leb, lt-leb}
use Rattle.sets.specs.Set.{on, has, set_of, any, intersection_of, is_empty, empty_set}
use Rattle.sets.proofs.Bits.{on_and, on-ones, word_of-ext}
use Rattle.sets.proofs.Laws.{has-set_of, has-intersection, any-ext}
use Rattle.table.specs.Layout.{table_words, max_rules, max_positions, rules_of, singles_of, leftmosts_of, last_at, lates_at, keepers_at, id_word, owner_at, row_has}
use Rattle.table.specs.Gaps.{unsettled, last_gaps}
use Rattle.table.specs.Automaton.{Automaton, automaton, single}
use Rattle.steps.specs.Step.{set_on, number_on, ends, ends_newly, lasts_of, lates_of, keepers_of, rules_where}
use Rattle.steps.specs.Invariants.{owners_of}
use Rattle.table.proofs.Members.{word-is, places-without}

-- ---- words enough for a table, and fewer

module _ (t : List ℕ) where
  pub set_on_lem : (s : List ℕ) → table_words ≤ length t → set_on t s ≡ s
  unfolding set_on
  set_on_lem s h = ap (λ (b : Bool). cond b s empty_set) (le-leb table_words (length t) h)

  pub set-off : (s : List ℕ) → length t < table_words → set_on t s ≡ empty_set
  unfolding set_on
  set-off s h = ap (λ (b : Bool). cond b s empty_set) (lt-leb table_words (length t) h)

  pub number-on : (n : ℕ) → table_words ≤ length t → number_on t n ≡ n
  unfolding number_on
  number-on n h = ap (λ (b : Bool). cond b n 0) (le-leb table_words (length t) h)

  pub number-off : (n : ℕ) → length t < table_words → number_on t n ≡ 0
  unfolding number_on
  number-off n h = ap (λ (b : Bool). cond b n 0) (lt-leb table_words (length t) h)

-- ---- sets that meet

-- two sets meet where their intersection has a member
pub meets-test : (s t : List ℕ) → not (is_empty (intersection_of s t)) ≡ any max_positions (λ q. has s q && has t q)
unfolding is_empty
meets-test s t =
    not-not (any max_positions (has (intersection_of s t)))
    ∙ any-ext max_positions (has (intersection_of s t)) (λ q. has s q && has t q) (λ q h. has-intersection s t q h)

-- ---- the positions that end a match

-- the set of last positions at a gap
pub last_set : (t : List ℕ) (g : ℕ) → g < last_gaps → set_of (row_has t (last_at g)) ≡ set_of ((automaton t).ending g)
unfolding automaton
last_set t g h = ap (λ (b : Bool). set_of (λ p. b && row_has t (last_at g) p)) (sym (lt-ltb g last_gaps h))

-- the owners of those of a set are the rules that it ends
pub ends-word : (t : List ℕ) (g : ℕ) (set last found : List ℕ) (rules : ℕ) → rules ≡ min (rules_of t) max_rules → last ≡ set_of ((automaton t).ending g) → found ≡ intersection_of set last
    → owners_of t rules found max_positions ≡ rules_where (automaton t) (ends (automaton t) g set)
unfolding automaton owners_of ends
ends-word t g set last found rules few is both =
    word_of-ext 64 (λ a. ltb a rules && any max_positions (λ p. has found p && eqb (get_or t (owner_at p) 0) a)) (λ a. ltb a (rules_of t) && ends (automaton t) g set a)
    (λ a h. ap₂ (λ (b c : Bool). b && c) (capped a h (dec_lt a (rules_of t))) (any-ext max_positions _ _ (λ p l. member a p l)))
  where
    capped : (a : ℕ) → a < 64 → Dec (a < rules_of t) → ltb a rules ≡ ltb a (rules_of t)
    capped a h (yes l) = lt-ltb a rules (omega arith) ∙ sym (lt-ltb a (rules_of t) l)
    capped a h (no l) = le-ltb a rules (omega arith) ∙ sym (le-ltb a (rules_of t) (omega arith))

    member : (a p : ℕ) → p < max_positions
        → (has found p && eqb (get_or t (owner_at p) 0) a) ≡ (has set p && ((automaton t).ending g p && eqb (cond (ltb p max_positions) (get_or t (owner_at p) 0) 0) a))
    member a p l =
        ap₂ (λ (b : Bool) (n : ℕ). b && eqb n a)
        (ap (λ (s : List ℕ). has s p) (both ∙ ap (intersection_of set) is) ∙ has-intersection set (set_of ((automaton t).ending g)) p l ∙ ap (λ (b : Bool). has set p && b) (has-set_of ((automaton t).ending g) p l))
        (sym (ap (λ (b : Bool). cond b (get_or t (owner_at p) 0) 0) (lt-ltb p max_positions l)))
        ∙ and_assoc (has set p) ((automaton t).ending g p) (eqb (cond (ltb p max_positions) (get_or t (owner_at p) 0) 0) a)

-- the digits of the rules that end at a gap, without those of the rules that ended where less was
-- known
pub newly-word : (w : Automaton) (g : ℕ) (set : List ℕ) (less : ℕ) (live : List ℕ) (x y : ℕ)
    → x ≡ rules_where w (ends w g set) → y ≡ rules_where w (ends w less live) → bit_and x (2 ^ 64 - 1 - y) ≡ rules_where w (ends_newly w g set less live)
unfolding ends_newly
newly-word w g set less live x y ex ey =
    ap₂ (λ (a b : ℕ). bit_and a (2 ^ 64 - 1 - b)) ex ey ∙ places-without w.rules (ends w g set) (ends w less live)

-- the last sets whatever follows
pub lasts-set : (w : Automaton) → set_of (w.ending unsettled) ≡ lasts_of w
unfolding lasts_of
lasts-set w = refl

-- the positions that end a match only where the next byte allows it
pub lates-set : (t : List ℕ) → set_of (row_has t lates_at) ≡ lates_of (automaton t)
unfolding automaton lates_of
lates-set t = refl

-- ---- the rules

-- the digits of a word, below the number of rules
module _ (t : List ℕ) (word : ℕ) (small : word < 2 ^ 64) where
  pub marked-below : rules_of t < max_rules → bit_and word (2 ^ rules_of t - 1) ≡ rules_where (automaton t) (on word)
  unfolding automaton
  marked-below h =
      word-is (bit_and word (2 ^ rules_of t - 1)) (λ a. ltb a (rules_of t) && on word a)
      (lt_of_le_of_lt (and_le_l word (2 ^ rules_of t - 1)) small)
      (λ a l. on_and word (2 ^ rules_of t - 1) a ∙ ap (λ (b : Bool). on word a && b) (on-ones (rules_of t) a) ∙ and_comm (on word a) (ltb a (rules_of t)))

  pub marked_all : max_rules ≤ rules_of t → word ≡ rules_where (automaton t) (on word)
  unfolding automaton
  marked_all h =
      word-is word (λ a. ltb a (rules_of t) && on word a) small
      (λ a l. sym (ap (λ (b : Bool). b && on word a) (lt-ltb a (rules_of t) (omega arith))))

-- the single-match rules, and those that report the leftmost start
pub singles-word : (t : List ℕ) → rules_where (automaton t) (on (singles_of t)) ≡ rules_where (automaton t) (single (automaton t))
unfolding automaton
singles-word t = refl

pub leftmosts-word : (t : List ℕ) → rules_where (automaton t) (on (leftmosts_of t)) ≡ rules_where (automaton t) (automaton t).leftmost
unfolding automaton
leftmosts-word t = refl

-- the positions that keep a start
pub keepers-set : (t : List ℕ) → set_of (row_has t keepers_at) ≡ keepers_of (automaton t)
unfolding automaton keepers_of
keepers-set t = refl

-- the id of the rule in place a
pub id-word : (t : List ℕ) (a : ℕ) → a < max_rules → id_word t a ≡ (automaton t).id a
unfolding automaton
id-word t a h = sym (ap (λ (b : Bool). cond b (id_word t a) 0) (lt-ltb a max_rules h))

pub id-past : (t : List ℕ) (a : ℕ) → max_rules ≤ a → 0 ≡ (automaton t).id a
unfolding automaton
id-past t a h = sym (ap (λ (b : Bool). cond b (id_word t a) 0) (le-ltb a max_rules h))
