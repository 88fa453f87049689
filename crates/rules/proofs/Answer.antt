-- The answer of an addition and the words after it, by how its checks went: one law for each way
-- that `add` returns.
use mathlib.Core.Path.{◌≡◌, refl, sym, ap, ap₂, ◌∙◌, subst}
use mathlib.Core.Bool.{Bool, true, false, cond}
use mathlib.Core.List.{List}
use Prim.Native.Nat.{ℕ, ◌+◌, ◌≤◌, ◌<◌}
use native.Mathlib.Omega.{arith}
use lib.Dec.{eqb, leb, ltb}
use lib.ListN.{length}
use borrow.Author.Tests.{ne_eqb, le-leb, lt-leb, lt-ltb, le-ltb, leb-false}
use Rattle.table.specs.Layout.{table_words, max_rules, max_positions, rules_of, positions_of}
use Rattle.table.specs.Table.{is_table}
use Rattle.table.proofs.Test.{Passes, passes}
use Rattle.meaning.specs.Form.{write, positions}
use Rattle.meaning.specs.Count.{limit}
use Rattle.meaning.proofs.Counted.{within-limit}
use Rattle.nodes.specs.Nodes.{Syntax, tree_at}
use Rattle.pattern.specs.Walk.{Read, tree, refused}
use Rattle.pattern.specs.Read.{too_long, options_of, limited_read, Answer, answer_of}
use Rattle.pattern.specs.Windows.{empty_window, size_fault}
use Rattle.pattern.proofs.Answers.{within, accepted-tree}
use Rattle.rules.specs.Gaps.{parts_at}
use Rattle.rules.specs.Words.{needs_start, with_window, added}
use Rattle.rules.specs.Add.{Addition, reading_of, answer, unknown_flag, single_start, has_id, placed, add_answer, with_rule, add_words}
use Rattle.rules.specs.Invariants.{first_fault}
use Rattle.rules.specs.declared.Added.{Added}
use Rattle.rules.proofs.Windows.{length-window, window-rules, window-positions}

-- ---- the checks before the pattern is read

module _ (t : List ℕ) (id flags : ℕ) where
  pub fault-1 : is_table t ≡ false → 1 ≡ first_fault t id flags
  unfolding first_fault
  fault-1 a = rw a

  pub fault-2 : is_table t ≡ true → unknown_flag flags ≡ true → 2 ≡ first_fault t id flags
  unfolding first_fault
  fault-2 a b = rw (a, b)

  pub fault-24 : is_table t ≡ true → unknown_flag flags ≡ false → single_start flags ≡ true → 24 ≡ first_fault t id flags
  unfolding first_fault
  fault-24 a b s = rw (a, b, s)

  pub fault-3 : is_table t ≡ true → unknown_flag flags ≡ false → single_start flags ≡ false → has_id t id ≡ true → 3 ≡ first_fault t id flags
  unfolding first_fault
  fault-3 a b s c = rw (a, b, s, c)

  pub fault-4 : is_table t ≡ true → unknown_flag flags ≡ false → single_start flags ≡ false → has_id t id ≡ false → max_rules ≤ rules_of t → 4 ≡ first_fault t id flags
  unfolding first_fault
  fault-4 a b s c d = rw (a, b, s, c, le-leb max_rules (rules_of t) d)

  pub fault-0 : is_table t ≡ true → unknown_flag flags ≡ false → single_start flags ≡ false → has_id t id ≡ false → rules_of t < max_rules → 0 ≡ first_fault t id flags
  unfolding first_fault
  fault-0 a b s c d = rw (a, b, s, c, lt-leb max_rules (rules_of t) d)

-- ---- the answer and the words

module _ (t : List ℕ) (a : Addition) where
  -- what a call has to show
  abbrev pub Answers : Added → List ℕ → Type 0
  Answers r u = (r ≡ add_answer t a) × (u ≡ add_words t a)

  -- a refusal leaves the words as they were
  kept : (r : Added) → r ≡ add_answer t a → (r.number ≡ 0 → ⊥) → Answers r t
  unfolding add_words
  kept r e n = (
    e,
    sym (ap (λ (b : Bool). cond b (with_rule t a (reading_of a)) t)
        (ap (λ (d : Added). eqb d.number 0) (sym e) ∙ ne_eqb r.number 0 n)),
  )

  -- by the first checks
  pub early : (f : ℕ) → f ≡ first_fault t a.id a.flags → (f ≡ 0 → ⊥) → Answers (answer f 0) t
  unfolding add_answer first_fault
  early f e n = kept (answer f 0) (go (is_table t) (unknown_flag a.flags) (single_start a.flags) (has_id t a.id) (leb max_rules (rules_of t)) e) n
    where
      last : Added
      last = cond (too_long a.pattern) (answer 5 0) (cond (empty_window a.windows) (answer 26 0) (placed (positions_of t) (length a.pattern) (reading_of a)))

      go : (t b s c d : Bool) → f ≡ cond t (cond b 2 (cond s 24 (cond c 3 (cond d 4 0)))) 1
          → answer f 0 ≡ cond t (cond b (answer 2 0) (cond s (answer 24 0) (cond c (answer 3 0) (cond d (answer 4 0) last)))) (answer 1 0)
      go true true s c d z = ap (λ (k : ℕ). answer k 0) z
      go true false true c d z = ap (λ (k : ℕ). answer k 0) z
      go true false false true d z = ap (λ (k : ℕ). answer k 0) z
      go true false false false true z = ap (λ (k : ℕ). answer k 0) z
      go true false false false false z = absurd (n z)
      go false b s c d z = ap (λ (k : ℕ). answer k 0) z

  -- the first checks are passed
  module _ (passed : 0 ≡ first_fault t a.id a.flags) where
    through : (t b s c d : Bool) → ◌≡◌ {A = ℕ} 0 (cond t (cond b 2 (cond s 24 (cond c 3 (cond d 4 0)))) 1)
        → (t ≡ true) × (b ≡ false) × (s ≡ false) × (c ≡ false) × (d ≡ false)
    through true true s c d z = absurd (omega (arith, z))
    through true false true c d z = absurd (omega (arith, z))
    through true false false true d z = absurd (omega (arith, z))
    through true false false false true z = absurd (omega (arith, z))
    through true false false false false z = (refl, refl, refl, refl, refl)
    through false b s c d z = absurd (omega (arith, z))

    checks : (is_table t ≡ true) × (unknown_flag a.flags ≡ false) × (single_start a.flags ≡ false) × (has_id t a.id ≡ false) × (leb max_rules (rules_of t) ≡ false)
    unfolding first_fault
    checks = through (is_table t) (unknown_flag a.flags) (single_start a.flags) (has_id t a.id) (leb max_rules (rules_of t)) passed

    pub passed-table : Passes t
    passed-table = passes t checks.0

    pub passed-few : rules_of t < max_rules
    passed-few = leb-false max_rules (rules_of t) checks.4

    after-size : add_answer t a ≡ cond (too_long a.pattern) (answer 5 0) (cond (empty_window a.windows) (answer 26 0) (placed (positions_of t) (length a.pattern) (reading_of a)))
    unfolding add_answer
    after-size = rw (checks.0, checks.1, checks.2, checks.3, checks.4)

    -- by the length and the window
    pub unfit : (f : ℕ) → f ≡ size_fault (length a.pattern) a.windows → (f ≡ 0 → ⊥) → Answers (answer f 0) t
    unfolding size_fault
    unfit f e n = kept (answer f 0) (go (too_long a.pattern) (empty_window a.windows) e ∙ sym after-size) n
      where
        go : (l w : Bool) → f ≡ cond l 5 (cond w 26 0)
            → answer f 0 ≡ cond l (answer 5 0) (cond w (answer 26 0) (placed (positions_of t) (length a.pattern) (reading_of a)))
        go true w z = ap (λ (k : ℕ). answer k 0) z
        go false true z = ap (λ (k : ℕ). answer k 0) z
        go false false z = absurd (n z)

    module _ (fitting : 0 ≡ size_fault (length a.pattern) a.windows) where
      -- what the reader gives of the pattern
      abbrev given : Read
      given = limited_read a.pattern (options_of a.flags)

      then-read : add_answer t a ≡ placed (positions_of t) (length a.pattern) given
      unfolding limited_read size_fault
      then-read = after-size ∙ go (too_long a.pattern) (empty_window a.windows) fitting
        where
          go : (b c : Bool) → ◌≡◌ {A = ℕ} 0 (cond b 5 (cond c 26 0))
              → cond b (answer 5 0) (cond c (answer 26 0) (placed (positions_of t) (length a.pattern) (reading_of a))) ≡ placed (positions_of t) (length a.pattern) (cond b (refused 5 0) (reading_of a))
          go true c z = absurd (omega (arith, z))
          go false true z = absurd (omega (arith, z))
          go false false z = refl

      -- by the reader
      pub unread : (r : Answer) → r ≡ answer_of given → (r.number ≡ 0 → ⊥) → Answers (answer r.number r.place) t
      unfolding answer_of placed
      unread r e n = kept (answer r.number r.place) (go given refl ∙ sym then-read) n
        where
          go : (d : Read) → given ≡ d → answer r.number r.place ≡ placed (positions_of t) (length a.pattern) given
          go (refused number place) z =
              let q : r ≡ answer_of (refused number place) = e ∙ ap answer_of z in
              ap₂ answer (ap (λ (x : Answer). x.number) q) (ap (λ (x : Answer). x.place) q) ∙ sym (ap (placed (positions_of t) (length a.pattern)) z)
          go (tree x) z = absurd (n (ap (λ (x : Answer). x.number) (e ∙ ap answer_of z)))

      -- the pattern is read
      module _ (r : Answer) (is : r ≡ answer_of given) (fine : r.number ≡ 0) where
        x : Syntax
        x = (accepted-tree a.pattern (options_of a.flags) r is fine).0

        given_is : given ≡ tree x
        unfolding x
        given_is = (accepted-tree a.pattern (options_of a.flags) r is fine).1

        read : reading_of a ≡ tree x
        read = (within a.pattern (options_of a.flags) x given_is).1

        here : tree_at r.nodes r.root ≡ x
        unfolding x
        here = (accepted-tree a.pattern (options_of a.flags) r is fine).2.tree

        -- the reader has counted the positions, and there are at most 256
        counted : r.positions ≡ positions (write x)
        unfolding x
        counted =
            let y = (accepted-tree a.pattern (options_of a.flags) r is fine).2 in
            y.positions ∙ within-limit x y.few

        last-answer : add_answer t a ≡ cond (ltb limit (positions_of t + positions (write x))) (answer 17 (length a.pattern)) (answer 0 0)
        unfolding placed
        last-answer = then-read ∙ ap (placed (positions_of t) (length a.pattern)) given_is

        -- its positions do not fit
        pub too_many : limit < positions_of t + r.positions → Answers (answer 17 (length a.pattern)) t
        too_many h =
            let over : limit < positions_of t + positions (write x) = omega (arith, counted) in
            kept (answer 17 (length a.pattern)) (sym (last-answer ∙ ap (λ (b : Bool). cond b (answer 17 (length a.pattern)) (answer 0 0)) (lt-ltb limit (positions_of t + positions (write x)) over))) (λ z. omega arith)

        -- they do
        module _ (h : positions_of t + r.positions ≤ limit) where
          room : positions_of t + positions (write x) ≤ limit
          room = omega (arith, counted)

          -- whether its positions keep a start
          abbrev keeping : Bool
          keeping = needs_start a.flags a.windows

          -- the table with the windows has as many rules and positions
          abbrev s : List ℕ
          s = with_window t a.id a.windows

          positions-s : positions_of s ≡ positions_of t
          positions-s = window-positions t a.id a.windows passed-table.long passed-few

          pub long-room : table_words ≤ length s
          long-room = omega (arith, length-window t a.id a.windows passed-table.long passed-few, passed-table.long)

          pub few-room : rules_of s < max_rules
          few-room = omega (arith, window-rules t a.id a.windows passed-table.long passed-few, passed-few)

          pub fits-room : positions_of s + positions (write (tree_at r.nodes r.root)) ≤ max_positions
          fits-room =
              subst (λ (n : ℕ). n + positions (write (tree_at r.nodes r.root)) ≤ max_positions) (sym positions-s)
              (subst (λ (y : Syntax). positions_of t + positions (write y) ≤ max_positions) (sym here) room)

          pub same-positions : positions_of t ≡ positions_of s
          same-positions = sym positions-s

          pub accepted : (u : List ℕ) → u ≡ added s a.id a.flags keeping (parts_at (tree_at r.nodes r.root) (positions_of s)) → Answers (answer 0 0) u
          unfolding add_words with_rule
          accepted u w =
              let z : add_answer t a ≡ answer 0 0 = last-answer ∙ ap (λ (b : Bool). cond b (answer 17 (length a.pattern)) (answer 0 0)) (le-ltb limit (positions_of t + positions (write x)) room) in
              (sym z, w ∙ ap₂ (λ (y : Syntax) (n : ℕ). added s a.id a.flags keeping (parts_at y n)) here positions-s ∙ sym (ap₂ (λ (d : Added) (o : Read). cond (eqb d.number 0) (with_rule t a o) t) z read))
