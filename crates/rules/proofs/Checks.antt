-- What an accepted addition has passed. The checks go by four things of the table: whether the id
-- is there, how many rules and positions it has, and, for words, whether they pass the test. An
-- answer of 0 is taken apart here once: each reason to refuse fails, and the words are those with
-- the rule.
use mathlib.Core.Path.{◌≡◌, refl, ap, ◌∙◌}
use mathlib.Core.Bool.{Bool, true, false, cond}
use mathlib.Core.Logic.{◌↔◌}
use mathlib.Core.List.{List}
use Prim.Native.Nat.{ℕ, ◌+◌, ◌^◌, ◌≤◌, ◌<◌}
use native.Mathlib.Omega.{arith}
use lib.Bits.{bit_and}
use lib.Dec.{eqb, leb, ltb}
use lib.ListN.{length}
use borrow.Author.Tests.{le-ltb, lt-leb, eq-eqb, eqb-true, eqb-false, leb-false, ltb-false, not-false}
use Rattle.sets.proofs.Laws.{any_none}
use Rattle.table.specs.Layout.{table_words, max_rules, max_positions, rules_of, positions_of, id_word}
use Rattle.table.specs.Table.{known_flags, is_table}
use Rattle.table.proofs.Test.{Passes, passes, accepted}
use Rattle.meaning.specs.Form.{write, positions}
use Rattle.meaning.specs.Count.{limit}
use Rattle.nodes.specs.Nodes.{Syntax}
use Rattle.pattern.specs.Walk.{Read, tree, refused}
use Rattle.pattern.specs.Read.{longest, too_long, options_of}
use Rattle.pattern.specs.Windows.{empty_window}
use Rattle.automaton.specs.declared.Parts.{Parts}
use Rattle.rules.specs.Gaps.{holding_at, parts_at}
use Rattle.rules.specs.Words.{needs_start, with_window, added}
use Rattle.rules.specs.Add.{Addition, reading_of, answer, unknown_flag, single_start, has_id, placed, add_answer, with_rule, add_words}
use Rattle.rules.specs.declared.Added.{Added}
use Rattle.rules.proofs.Kept.{passes-added}
use Rattle.rules.proofs.Windows.{window-passes, window-rules, window-positions, window-has-id}
use Rattle.rules.proofs.Parts.{sized-parts}
use Rattle.rules.proofs.Regions.{added-rules}
use Rattle.rules.proofs.Readings.{refusal-numbered}

-- ---- the checks after the test

module _ (there : Bool) (rules used : ℕ) (a : Addition) where
  -- each reason to refuse fails
  pub record Admits : Type 0 where
    pub known : bit_and a.flags known_flags ≡ a.flags
    pub not_both : single_start a.flags ≡ false
    pub free : there ≡ false
    pub few : rules < max_rules
    pub short : length a.pattern ≤ longest
    pub open_window : empty_window a.windows ≡ false
    pub read : Syntax
    pub reading : reading_of a ≡ tree read
    pub room : used + positions (write read) ≤ max_positions

  abbrev pub checked : Added
  checked =
      cond (unknown_flag a.flags) (answer 2 0)
      (cond (single_start a.flags) (answer 24 0)
      (cond there (answer 3 0)
      (cond (leb max_rules rules) (answer 4 0)
      (cond (too_long a.pattern) (answer 5 0)
      (cond (empty_window a.windows) (answer 26 0)
      (placed used (length a.pattern) (reading_of a)))))))

  admits : checked.number ≡ 0 → Admits
  unfolding unknown_flag placed
  admits = go (unknown_flag a.flags) (single_start a.flags) there (leb max_rules rules) (too_long a.pattern) (empty_window a.windows) (reading_of a) refl refl refl refl refl refl refl
    where
      fits : (x : Syntax) (c : Bool) → ltb limit (used + positions (write x)) ≡ c → (cond c (answer 17 (length a.pattern)) (answer 0 0)).number ≡ 0 → used + positions (write x) ≤ limit
      fits x true e h = absurd (omega (arith, h))
      fits x false e h = ltb-false limit (used + positions (write x)) e

      go : (u b k f l e : Bool) (d : Read) → unknown_flag a.flags ≡ u → single_start a.flags ≡ b → there ≡ k → leb max_rules rules ≡ f → too_long a.pattern ≡ l → empty_window a.windows ≡ e → reading_of a ≡ d
          → (cond u (answer 2 0) (cond b (answer 24 0) (cond k (answer 3 0) (cond f (answer 4 0) (cond l (answer 5 0) (cond e (answer 26 0) (placed used (length a.pattern) d))))))).number ≡ 0 → Admits
      go true b k f l e d p o q r m n s h = absurd (omega (arith, h))
      go false true k f l e d p o q r m n s h = absurd (omega (arith, h))
      go false false true f l e d p o q r m n s h = absurd (omega (arith, h))
      go false false false true l e d p o q r m n s h = absurd (omega (arith, h))
      go false false false false true e d p o q r m n s h = absurd (omega (arith, h))
      go false false false false false true d p o q r m n s h = absurd (omega (arith, h))
      go false false false false false false (refused number place) p o q r m n s h = absurd (refusal-numbered a.pattern (options_of a.flags) number place m s h)
      go false false false false false false (tree x) p o q r m n s h = record {
        known = eqb-true (bit_and a.flags known_flags) a.flags (not-false (eqb (bit_and a.flags known_flags) a.flags) p);
        not_both = o;
        free = q;
        few = leb-false max_rules rules r;
        short = ltb-false longest (length a.pattern) m;
        open_window = n;
        read = x;
        reading = s;
        room = fits x (ltb limit (used + positions (write x))) refl h;
      }

  admitted : Admits → checked ≡ answer 0 0
  unfolding unknown_flag placed
  admitted c = rw (eq-eqb (bit_and a.flags known_flags) a.flags c.known, c.not_both, c.free, lt-leb max_rules rules c.few, le-ltb longest (length a.pattern) c.short, c.open_window, c.reading, le-ltb limit (used + positions (write c.read)) c.room)

  -- the answer is 0 exactly where each fails
  pub zero-if : (checked.number ≡ 0) ↔ Admits
  zero-if = (admits, λ c. ap (λ (d : Added). d.number) (admitted c))

-- no rule has an id that the words have not
pub no_record : (t : List ℕ) (id : ℕ) → has_id t id ≡ false → (c : ℕ) → c < rules_of t → id_word t c ≡ id → ⊥
unfolding has_id
no_record t id e c h = eqb-false (id_word t c) id (any_none (rules_of t) (λ c. eqb (id_word t c) id) e c h)

-- ---- an addition that these words accept

module _ (t : List ℕ) (a : Addition) (ok : (add_answer t a).number ≡ 0) where
  abbrev Checks : Type 0
  Checks = (is_table t ≡ true) × Admits (has_id t a.id) (rules_of t) (positions_of t) a

  checks : Checks
  unfolding add_answer
  checks = go (is_table t) refl ok
    where
      go : (b : Bool) → is_table t ≡ b → (cond b (checked (has_id t a.id) (rules_of t) (positions_of t) a) (answer 1 0)).number ≡ 0 → Checks
      go true e h = (e, admits (has_id t a.id) (rules_of t) (positions_of t) a h)
      go false e h = absurd (omega (arith, h))

  -- there are words enough, and room for a rule
  pub accepted-few : (table_words ≤ length t) × (rules_of t < max_rules)
  accepted-few = ((passes t checks.0).long, checks.1.few)

  abbrev parts : ℕ → Parts
  parts = parts_at checks.1.read (positions_of t)

  -- "An accepted one has place 0."
  pub accepted-place : (add_answer t a).place ≡ 0
  unfolding add_answer
  accepted-place =
      ap (λ (b : Bool). (cond b (checked (has_id t a.id) (rules_of t) (positions_of t) a) (answer 1 0)).place) checks.0
      ∙ ap (λ (d : Added). d.place) (admitted (has_id t a.id) (rules_of t) (positions_of t) a checks.1)

  abbrev s : List ℕ
  s = with_window t a.id a.windows

  -- whether its positions keep a start
  abbrev keeping : Bool
  keeping = needs_start a.flags a.windows

  long : table_words ≤ length t
  long = (passes t checks.0).long

  passes-s : Passes s
  passes-s = window-passes t a.id a.windows long checks.1.few (passes t checks.0)

  rules-s : rules_of s ≡ rules_of t
  rules-s = window-rules t a.id a.windows long checks.1.few

  positions-s : positions_of s ≡ positions_of t
  positions-s = window-positions t a.id a.windows long checks.1.few

  with-rule : add_words t a ≡ added s a.id a.flags keeping parts
  unfolding add_words with_rule
  with-rule = rw (eq-eqb (add_answer t a).number 0 ok, checks.1.reading)

  -- the words have one rule more
  pub accepted-rules : rules_of (add_words t a) ≡ rules_of t + 1
  accepted-rules = ap rules_of with-rule ∙ added-rules s a.id a.flags keeping parts passes-s.long ∙ ap (λ (n : ℕ). n + 1) rules-s

  -- and pass the test
  pub accepted-passes : a.id < 2 ^ 32 → is_table (add_words t a) ≡ true
  accepted-passes narrow =
      ap is_table with-rule
      ∙ accepted (added s a.id a.flags keeping parts)
      (passes-added s a.id a.flags keeping parts passes-s (omega (arith, rules-s, checks.1.few))
      (omega (arith, positions-s, checks.1.room, sized-parts checks.1.read (positions_of t) (holding_at 0) checks.1.room)) narrow
      (no_record s a.id (window-has-id t a.id a.windows long checks.1.few a.id ∙ checks.1.free)))
