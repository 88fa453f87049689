-- Lists of additions, refused ones too, to an emptied table. What a list leaves is said by its
-- accepted rules alone (`Built`): the words pass the test, the next answer is the one that the
-- rules give, and the automaton is the rules'. It holds of no rules, and each addition keeps it.
use mathlib.Core.Path.{◌≡◌, refl, sym, ap, ap₂, ◌∙◌, subst}
use mathlib.Core.Bool.{Bool, true, false, cond, ◌||◌, or-false, or_assoc}
use mathlib.Core.Logic.{◌↔◌}
use mathlib.Core.List.{List, [], ◌∷◌, ◌++◌, Memᴰ}
use Prim.Native.Nat.{ℕ, ◌+◌, ◌^◌, ◌≤◌, ◌<◌}
use native.Mathlib.Nat.{not-suc-le-zero}
use native.Mathlib.Decide.{dec_lt, ℕ_discrete}
use native.Mathlib.Omega.{arith}
use lib.Dec.{eqb, ltb}
use lib.ListN.{length, length-append}
use borrow.Author.Tests.{lt-ltb, le-ltb, ne_eqb, eqb-true}
use Rattle.sets.specs.Set.{any}
use Rattle.table.specs.Layout.{table_words, max_rules, max_positions, rules_of, positions_of, id_word}
use Rattle.table.specs.Table.{is_table, emptied}
use Rattle.table.specs.Automaton.{Automaton, automaton}
use Rattle.table.proofs.Test.{Passes, passes, accepted, refused as no_table}
use Rattle.table.proofs.Emptying.{emptied-zero, empty-passes, empty-automaton}
use Rattle.meaning.specs.Form.{write, positions}
use Rattle.nodes.specs.Nodes.{Syntax}
use Rattle.pattern.specs.Walk.{Read, tree, refused}
use Rattle.pattern.specs.Read.{options_of}
use Rattle.automaton.specs.Parts.{form_parts}
use Rattle.automaton.specs.declared.Parts.{Parts}
use Rattle.automaton.proofs.Padded.{parts_whole}
use Rattle.rules.specs.Gaps.{holding_at, parts_at}
use Rattle.rules.specs.Words.{place_of, needs_start, with_window, added_in}
use Rattle.rules.specs.Add.{Addition, reading_of, answer, has_id, add_answer, with_rule, add_words}
use Rattle.rules.specs.Additions.{Narrow, Accepted, size, used, taken, next_answer, accepted_of, with_new, after_next, accepted_after}
use Rattle.rules.specs.Encoded.{add_all, encode}
use Rattle.rules.specs.declared.Added.{Added}
use Rattle.rules.proofs.Place.{count-to}
use Rattle.rules.proofs.Kept.{passes-added, has-id-added}
use Rattle.rules.proofs.Views.{extended-in, inside-in}
use Rattle.rules.proofs.Windows.{window-passes, window-rules, window-positions, window-has-id}
use Rattle.rules.proofs.Parts.{sized-parts}
use Rattle.rules.proofs.Sorted.{Placed, at, insert, laid, into, by_id, by_id-more, place, place-within, insert-each, smaller_before, larger-there}
use Rattle.rules.proofs.Encodes.{Encodes, encodes-none, encodes_more}
use Rattle.rules.proofs.Lengths.{Measures, measured, measures-old, measures-new}
use Rattle.rules.proofs.Regions.{added-rules, added-positions}
use Rattle.rules.proofs.Readings.{Reads, reads}
use Rattle.rules.proofs.Checks.{Admits, zero-if, no_record, accepted-passes}

-- ---- one rule more at the end of the list

used-more : (rs : List Accepted) (r : Accepted) → used (rs ++ (r ∷ [])) ≡ used rs + size r
unfolding used
used-more [] r = omega arith
used-more (x ∷ xs) r = omega (arith, used-more xs r)

taken_more : (rs : List Accepted) (r : Accepted) (id : ℕ) → taken (rs ++ (r ∷ [])) id ≡ (taken rs id || eqb r.id id)
unfolding taken
taken_more [] r id = or-false (eqb r.id id)
taken_more (x ∷ xs) r id = ap (λ (b : Bool). eqb x.id id || b) (taken_more xs r id) ∙ sym (or_assoc (eqb x.id id) (taken xs id) (eqb r.id id))

encode-more : (t : List ℕ) (rs : List Accepted) (r : Accepted) → encode t (rs ++ (r ∷ [])) ≡ added_in (encode t rs) r.id r.flags r.windows (parts_at r.tree (positions_of (encode t rs)))
unfolding encode
encode-more t [] r = refl
encode-more t (x ∷ xs) r = encode-more (added_in t x.id x.flags x.windows (parts_at x.tree (positions_of t))) xs r

-- ---- what a list leaves

-- the words t are those of the rules rs, added in this order
pub record Built (t : List ℕ) (rs : List Accepted) : Type 0 where
  pub passed : Passes t
  pub rules : rules_of t ≡ length rs
  pub positions : positions_of t ≡ used rs
  pub ids : (id : ℕ) → has_id t id ≡ taken rs id
  pub encodes : Encodes (automaton t) (by_id rs)
  -- with the smallest length of each
  pub measures : (a : ℕ) → a < length (by_id rs) → Measures t (at (by_id rs) a)

-- the words are emptied
pub built-none : (t : List ℕ) → table_words ≤ length t → Built (emptied t) []
unfolding has_id any taken used laid into
built-none t long =
    record {
      passed = passes (emptied t) (empty-passes t long);
      rules = none;
      positions = emptied-zero t long 2 (omega arith) (omega arith);
      ids = λ id. ap (λ (n : ℕ). any n (λ a. eqb (id_word (emptied t) a) id)) none;
      encodes = subst (λ (w : Automaton). Encodes w []) (sym (empty-automaton t long)) encodes-none;
      measures = λ a h. absurd (not-suc-le-zero h);
    }
  where
    none : rules_of (emptied t) ≡ 0
    none = emptied-zero t long 1 (omega arith) (omega arith)

-- an addition that the rules let in
abbrev pub Accepts : List Accepted → Addition → Type 0
Accepts rs a = Admits (taken rs a.id) (length rs) (used rs) a

module _ (t : List ℕ) (rs : List Accepted) (b : Built t rs) (a : Addition) (narrow : a.id < 2 ^ 32) (ok : Accepts rs a) where
  abbrev x : Syntax
  x = ok.read

  abbrev r : Accepted
  r = accepted_of a x

  abbrev n : ℕ
  n = positions_of t

  abbrev parts : ℕ → Parts
  parts = parts_at x n

  abbrev ps : List Placed
  ps = by_id rs

  abbrev new : Placed
  new = record { rule = r; from = n }

  read : Reads a.pattern (options_of a.flags) x
  read = (reads a.pattern (options_of a.flags) x).0 ok.reading

  are : (g : ℕ) → parts g ≡ form_parts (write x) n (holding_at g)
  are g = sym (parts_whole x n (holding_at g) (omega (arith, b.positions, ok.room)))

  more : (parts 0).positions ≡ positions (write x)
  more = sized-parts x n (holding_at 0) (omega (arith, b.positions, ok.room))

  -- the table has none with this id
  fresh : (c : ℕ) → c < rules_of t → id_word t c ≡ a.id → ⊥
  fresh = no_record t a.id (b.ids a.id ∙ ok.free)

  -- the ids of the table are those of the rules
  word-id : (c : ℕ) → c < rules_of t → id_word t c ≡ (at ps c).rule.id
  unfolding automaton
  word-id c h =
      sym (ap (λ (y : Bool). cond y (id_word t c) 0) (lt-ltb c max_rules (omega (arith, b.passed.rules))))
      ∙ (b.encodes.rule c (omega (arith, b.encodes.rules))).id_is

  -- so the new rule's place is the same in both
  here : place new ps ≡ place_of t a.id
  unfolding automaton place_of
  here =
      sym (count-to (rules_of t) (place new ps) (λ c. ltb (id_word t c) a.id) (omega (arith, place-within new ps, b.encodes.rules))
      (λ c h. lt-ltb (id_word t c) a.id
      (omega (arith, word-id c (omega (arith, place-within new ps, b.encodes.rules)), smaller_before new ps c h)))
      (λ c h l. le-ltb (id_word t c) a.id (omega (arith, word-id c l, above c h (omega (arith, b.encodes.rules)) (dec_lt (place new ps) c)))))
    where
      above : (c : ℕ) → place new ps ≤ c → c < length ps → Dec (place new ps < c) → a.id ≤ (at ps c).rule.id
      above c h l (yes m) = omega (arith, larger-there new ps (omega arith), b.encodes.rising (place new ps) c m l)
      above c h l (no m) =
          let z : place new ps ≡ c = omega arith in
          subst (λ (j : ℕ). a.id ≤ (at ps j).rule.id) z (larger-there new ps (omega arith))

  -- whether its positions keep a start
  abbrev keeping : Bool
  keeping = needs_start a.flags a.windows

  -- the table with the windows
  abbrev s : List ℕ
  s = with_window t a.id a.windows

  few_rules : rules_of t < max_rules
  few_rules = omega (arith, b.rules, ok.few)

  passed-s : Passes s
  passed-s = window-passes t a.id a.windows b.passed.long few_rules b.passed

  rules-s : rules_of s ≡ rules_of t
  rules-s = window-rules t a.id a.windows b.passed.long few_rules

  positions-s : positions_of s ≡ positions_of t
  positions-s = window-positions t a.id a.windows b.passed.long few_rules

  ids-s : (id : ℕ) → has_id s id ≡ has_id t id
  ids-s = window-has-id t a.id a.windows b.passed.long few_rules

  -- the table with the rule
  abbrev u : List ℕ
  u = added_in t a.id a.flags a.windows parts

  fits : positions_of t + (parts 0).positions ≤ max_positions
  fits = omega (arith, b.positions, more, ok.room)

  in_order : insert new ps ≡ by_id (rs ++ (r ∷ []))
  in_order = sym (by_id-more rs r ∙ ap (λ (k : ℕ). insert (record { rule = r; from = k }) ps) (sym b.positions))

  -- the smallest lengths
  old-measures : (c : ℕ) → c < length ps → Measures u (at ps c)
  unfolding automaton
  old-measures c h = measures-old t r parts more b.passed.long few_rules fits (at ps c) (b.encodes.rule c h).within (b.measures c h)

  new-measures : Measures u new
  new-measures = measures-new t r parts more b.passed.long few_rules fits

  encoded : Encodes (automaton u) (by_id (rs ++ (r ∷ [])))
  unfolding automaton
  encoded =
      subst (Encodes (automaton u)) in_order
      (encodes_more (automaton t) (automaton u) (place_of t a.id) r parts
      (extended-in t a.id a.flags a.windows parts b.passed.long few_rules fits)
      are (omega (arith, b.positions)) ps b.encodes here read.full
      (λ c h e. fresh c (omega (arith, b.encodes.rules)) (word-id c (omega (arith, b.encodes.rules)) ∙ e))
      (inside-in t a.id a.flags a.windows parts b.passed.long few_rules fits)
      (λ c h. measured u (at ps c) (old-measures c h)) (measured u new new-measures))

  pub built-more : Built (added_in t a.id a.flags a.windows (parts_at x (positions_of t))) (rs ++ (accepted_of a x ∷ []))
  built-more =
      record {
        passed = passes-added s a.id a.flags keeping parts passed-s (omega (arith, rules-s, b.rules)) (omega (arith, positions-s, b.positions, more)) narrow
            (no_record s a.id (ids-s a.id ∙ b.ids a.id ∙ ok.free));
        rules = added-rules s a.id a.flags keeping parts passed-s.long ∙ ap (λ (k : ℕ). k + 1) (rules-s ∙ b.rules) ∙ sym (length-append rs (r ∷ []));
        positions = added-positions s a.id a.flags keeping parts passed-s.long ∙ ap₂ (λ (j k : ℕ). j + k) (positions-s ∙ b.positions) more ∙ sym (used-more rs r);
        ids = λ id.
            has-id-added s a.id a.flags keeping parts passed-s.long (omega (arith, rules-s, b.rules)) id
            ∙ ap (λ (y : Bool). y || eqb a.id id) (ids-s id ∙ b.ids id) ∙ sym (taken_more rs r id);
        encodes = encoded;
        measures = subst (λ (qs : List Placed). (c : ℕ) → c < length qs → Measures u (at qs c)) in_order (insert-each new (Measures u) ps old-measures new-measures);
      }

-- ---- the answer

-- the next answer is the one that the rules give
pub answer-built : (t : List ℕ) (rs : List Accepted) → Built t rs → (a : Addition) → add_answer t a ≡ next_answer rs a
unfolding add_answer next_answer
answer-built t rs b a = rw (accepted t b.passed, b.ids a.id, b.rules, b.positions)

-- it is 0 exactly where each reason to refuse fails
pub accepts : (rs : List Accepted) (a : Addition) → ((next_answer rs a).number ≡ 0) ↔ Accepts rs a
unfolding next_answer
accepts rs a = zero-if (taken rs a.id) (length rs) (used rs) a

-- ---- each addition keeps the test, from any words that pass

pub addition-passes : (t : List ℕ) → is_table t ≡ true → (a : Addition) → a.id < 2 ^ 32 → is_table (add_words t a) ≡ true
unfolding add_words
addition-passes t passed a narrow = go (ℕ_discrete (add_answer t a).number 0)
  where
    go : Dec ((add_answer t a).number ≡ 0) → is_table (add_words t a) ≡ true
    go (yes ok) = accepted-passes t a ok narrow
    go (no n) = rw (ne_eqb (add_answer t a).number 0 n) passed

-- ---- each addition keeps what is built

pub built-next : (t : List ℕ) (rs : List Accepted) → Built t rs → (a : Addition) → a.id < 2 ^ 32 → Built (add_words t a) (after_next rs a)
unfolding add_words after_next with_rule with_new
built-next t rs b a narrow =
    subst (λ (d : Added). Built (cond (eqb d.number 0) (with_rule t a (reading_of a)) t) (cond (eqb (next_answer rs a).number 0) (with_new rs a (reading_of a)) rs))
    (sym (answer-built t rs b a)) (go (eqb (next_answer rs a).number 0) refl)
  where
    go : (c : Bool) → eqb (next_answer rs a).number 0 ≡ c → Built (cond c (with_rule t a (reading_of a)) t) (cond c (with_new rs a (reading_of a)) rs)
    go false e = b
    go true e =
        let c = (accepts rs a).0 (eqb-true (next_answer rs a).number 0 e) in
        subst (λ (d : Read). Built (with_rule t a d) (with_new rs a d)) (sym c.reading) (built-more t rs b a narrow c)

pub built-all : (t : List ℕ) (rs : List Accepted) → Built t rs → (l : List Addition) → Narrow l → Built (add_all t l) (accepted_after rs l)
unfolding add_all accepted_after Narrow
built-all t rs b [] narrow = b
built-all t rs b (a ∷ l) narrow = built-all (add_words t a) (after_next rs a) (built-next t rs b a narrow.0) l narrow.1

-- the words of the rules, once one more was tried
encode-next : (t : List ℕ) (rs : List Accepted) → Built (encode t rs) rs → (a : Addition) → encode t (after_next rs a) ≡ add_words (encode t rs) a
unfolding add_words after_next with_rule with_new
encode-next t rs b a =
    go (eqb (next_answer rs a).number 0) (reading_of a)
    ∙ sym (ap (λ (d : Added). cond (eqb d.number 0) (with_rule (encode t rs) a (reading_of a)) (encode t rs)) (answer-built (encode t rs) rs b a))
  where
    go : (c : Bool) (d : Read) → encode t (cond c (with_new rs a d) rs) ≡ cond c (with_rule (encode t rs) a d) (encode t rs)
    go false d = refl
    go true (refused number place) = refl
    go true (tree x) = encode-more t rs (accepted_of a x)

encode-all : (t : List ℕ) (rs : List Accepted) → Built (encode t rs) rs → (l : List Addition) → Narrow l → add_all (encode t rs) l ≡ encode t (accepted_after rs l)
unfolding add_all accepted_after Narrow
encode-all t rs b [] narrow = refl
encode-all t rs b (a ∷ l) narrow =
    ap (λ (s : List ℕ). add_all s l) (sym (encode-next t rs b a))
    ∙ encode-all t (after_next rs a) (subst (λ (s : List ℕ). Built s (after_next rs a)) (sym (encode-next t rs b a)) (built-next (encode t rs) rs b a narrow.0)) l narrow.1

-- ---- any list of additions to an emptied table

pub narrow_at : (l : List Addition) → Narrow l → (a : Addition) → Memᴰ a l → a.id < 2 ^ 32
unfolding Narrow
narrow_at [] h a m = elim m [ ]
narrow_at (b ∷ l) h a (Memᴰ.head e) = subst (λ (c : Addition). c.id < 2 ^ 32) (sym e) h.0
narrow_at (b ∷ l) h a (Memᴰ.tail m) = narrow_at l h.1 a m

module _ (t : List ℕ) (l : List Addition) where
  module _ (long : table_words ≤ length t) (narrow : Narrow l) where
    -- the words after it are those of the accepted rules, and are built from them
    pub words-built : Built (add_all (emptied t) l) (accepted_after [] l)
    words-built = built-all (emptied t) [] (built-none t long) l narrow

    -- they are a function of the accepted rules, in order
    pub words-encoded : add_all (emptied t) l ≡ encode (emptied t) (accepted_after [] l)
    unfolding encode
    words-encoded = encode-all (emptied t) [] (built-none t long) l narrow

    -- they pass the test
    pub words-pass : is_table (add_all (emptied t) l) ≡ true
    words-pass = accepted (add_all (emptied t) l) words-built.passed

    -- their automaton is that of the accepted rules
    pub words-encode : Encodes (automaton (add_all (emptied t) l)) (by_id (accepted_after [] l))
    words-encode = words-built.encodes

    -- the next answer depends on the accepted rules alone
    pub words-answer : (a : Addition) → add_answer (add_all (emptied t) l) a ≡ next_answer (accepted_after [] l) a
    words-answer a = answer-built (add_all (emptied t) l) (accepted_after [] l) words-built a

-- words too few for a table are left as they are, with answer 1 each time
module _ (t : List ℕ) (short : length t < table_words) where
  refuses : (a : Addition) → add_answer t a ≡ answer 1 0
  unfolding add_answer
  refuses a = rw (no_table t (λ p. omega (arith, p.long)))

  pub few_words : (l : List Addition) → add_all t l ≡ t
  unfolding add_all add_words
  few_words [] = refl
  few_words (a ∷ l) =
      ap (λ (d : Added). add_all (cond (eqb d.number 0) (with_rule t a (reading_of a)) t) l) (refuses a) ∙ few_words l

  pub few-words-answer : (l : List Addition) (a : Addition) → add_answer (add_all t l) a ≡ answer 1 0
  few-words-answer l a = ap (λ (s : List ℕ). add_answer s a) (few_words l) ∙ refuses a
