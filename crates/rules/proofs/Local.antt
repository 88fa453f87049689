-- Words beyond the first 16,384 count for nothing in an addition either: lists that agree up to
-- there get the same answer and agree up to there afterwards, and each keeps its own words beyond.
-- Every word that the definitions read stands at a place below 16,384.
use mathlib.Core.Path.{◌≡◌, refl, sym, ap, ap₂, ◌∙◌}
use mathlib.Core.Bool.{Bool, true, false, cond, not, ◌&&◌, ◌||◌}
use mathlib.Core.List.{List, [], ◌∷◌, ◌++◌}
use Prim.Native.Nat.{ℕ, zero, suc, ◌+◌, ◌-◌, ◌*◌, ◌/◌, ◌%◌, ◌≤◌, ◌<◌}
use native.Mathlib.Omega.{arith}
use lib.Dec.{eqb, leb, ltb}
use lib.ListN.{length, get_or, take, drop, length-take}
use lib.Seq.{take_at, drop_at, ext_get_or, get_or-take}
use borrow.Author.Tests.{leb-true, ltb-true, eqb-true}
use Rattle.sets.specs.Set.{has, set_of, any, as_one, count}
use Rattle.sets.proofs.Laws.{any-ext, count-ext, set_of-ext}
use Rattle.table.specs.Layout.{table_words, max_rules, max_positions, bytes, rules_of, positions_of, leftmosts_at, windowed_at, lowest_at, highest_at, lengths_at, shortest_at, keepers_at, first_at, id_at, id_word, opener_at, owner_at, last_at, lates_at, follow_at, takers_at, row_has, from_to}
use Rattle.table.specs.Gaps.{first_gaps, follow_gaps, last_gaps, inner_gaps, unsettled}
use Rattle.table.specs.Table.{is_table}
use Rattle.table.proofs.Rows.{row_same}
use Rattle.table.proofs.Test.{passes}
use Rattle.table.proofs.Local.{NoWindow, same_word, is_table-local}
use Rattle.meaning.specs.Rule.{Windows}
use Rattle.pattern.specs.Walk.{Read, tree, refused}
use Rattle.automaton.specs.declared.Parts.{Parts}
use Rattle.rules.specs.Gaps.{parts_at}
use Rattle.rules.specs.Words.{words_of, old_row, joined_row, place_of, digits_with, numbers_with, has_offsets, needs_start, lengths_with, with_window, owner_with, is_single, is_leftmost, id_words, singles_word, leftmosts_word, new_keeper, keeper_words, owner_words, last_words, late_words, opener, first_words, follow_words, new_taker, takers_words, added_word, added}
use Rattle.rules.specs.Add.{Addition, reading_of, has_id, add_answer, with_rule, add_words}
use Rattle.rules.specs.declared.Added.{Added}
use Rattle.rules.proofs.GapSets.{side, split}
use Rattle.rules.proofs.Regions.{length-words_of}
use Rattle.rules.proofs.Windows.{length-window, window-out, window-digits, window-lowest, window-highest, window-lengths, window-shortest, window-rules, window-beyond}
use Rattle.rules.proofs.Checks.{accepted-few}

-- what is asked in a range only is settled there
within : (lo hi w : ℕ) (x y z u : ℕ) → (lo ≤ w → w < hi → x ≡ y) → z ≡ u → cond (from_to lo hi w) x z ≡ cond (from_to lo hi w) y u
within lo hi w x y z u inside outside = go (leb lo w) (ltb w hi) refl refl
  where
    go : (a b : Bool) → leb lo w ≡ a → ltb w hi ≡ b → cond (a && b) x z ≡ cond (a && b) y u
    go true true e f = inside (leb-true lo w e) (ltb-true w hi f)
    go true false e f = outside
    go false b e f = outside

words-ext : (n : ℕ) (f g : ℕ → ℕ) → ((w : ℕ) → w < n → f w ≡ g w) → words_of n f ≡ words_of n g
unfolding words_of
words-ext zero f g e = refl
words-ext (suc n) f g e = ap₂ (λ (l : List ℕ) (x : ℕ). l ++ (x ∷ [])) (words-ext n f g (λ w h. e w (omega arith))) (e n (omega arith))

-- ---- the words with one rule more

module _ (t u : List ℕ) (same : take table_words t ≡ take table_words u) where
  rules : rules_of t ≡ rules_of u
  rules = same_word t u same 1 (omega arith)

  positions : positions_of t ≡ positions_of u
  positions = same_word t u same 2 (omega arith)

  field : (a : ℕ) → a < max_rules → id_word t a ≡ id_word u a
  field a h = same_word t u same (id_at a) (omega arith)

  old_row_lem : (at : ℕ) → at + 4 ≤ table_words → old_row t at ≡ old_row u at
  unfolding old_row
  old_row_lem at h = λ i q. ltb q (positions i) && row_same t u at at (λ k l. same_word t u same (at + k) (omega arith)) q i

  module _ (few : rules_of t ≤ max_rules) where
    has-id : (id : ℕ) → has_id t id ≡ has_id u id
    unfolding has_id
    has-id id =
        any-ext (rules_of t) (λ a. eqb (id_word t a) id) (λ a. eqb (id_word u a) id) (λ a h. ap (λ (x : ℕ). eqb x id) (field a (omega arith)))
        ∙ ap (λ (n : ℕ). any n (λ a. eqb (id_word u a) id)) rules

    place_same : (id : ℕ) → place_of t id ≡ place_of u id
    unfolding place_of
    place_same id =
        count-ext (rules_of t) (λ a. ltb (id_word t a) id) (λ a. ltb (id_word u a) id) (λ a h. ap (λ (x : ℕ). ltb x id) (field a (omega arith)))
        ∙ ap (λ (n : ℕ). count n (λ a. ltb (id_word u a) id)) rules

    module _ (id flags : ℕ) (keeping : Bool) (parts : ℕ → Parts) where
      place : place_of t id ≡ place_of u id
      place = place_same id

      id-words : (a : ℕ) → a < max_rules → id_words t id flags keeping parts a ≡ id_words u id flags keeping parts a
      unfolding id_words
      id-words a h = λ j.
          cond (ltb a (place j)) (field a h j)
          (cond (eqb a (place j)) id
          (cond (leb a (rules j)) (field (a - 1) (omega arith) j)
          (field a h j)))

      singles-word : singles_word t id flags keeping parts ≡ singles_word u id flags keeping parts
      unfolding singles_word
      singles-word = λ j. digits_with (place j) (is_single flags) (same_word t u same 3 (omega arith) j)

      leftmosts-word : leftmosts_word t id flags keeping parts ≡ leftmosts_word u id flags keeping parts
      unfolding leftmosts_word
      leftmosts-word = λ j. digits_with (place j) (is_leftmost flags) (same_word t u same leftmosts_at (omega arith) j)

      keeper-words : (i : ℕ) → keeper_words t id flags keeping parts i ≡ keeper_words u id flags keeping parts i
      unfolding keeper_words new_keeper
      keeper-words i = λ j. get_or (set_of (λ q. old_row_lem keepers_at (omega arith) j q || (keeping && from_to (positions j) (positions j + (parts 0).positions) q))) i 0

      owner-words : (q : ℕ) → q < max_positions → owner_words t id flags keeping parts q ≡ owner_words u id flags keeping parts q
      unfolding owner_words
      owner-words q h = λ j. owner_with (positions j) (parts 0).positions (place j) q (same_word t u same (owner_at q) (omega arith) j)

      last-words : (g i : ℕ) → g < last_gaps → last_words t id flags keeping parts g i ≡ last_words u id flags keeping parts g i
      unfolding last_words joined_row
      last-words g i h = λ j. get_or (set_of (λ q. old_row_lem (last_at g) (omega arith) j q || has (parts g).last q)) i 0

      late-words : (i : ℕ) → late_words t id flags keeping parts i ≡ late_words u id flags keeping parts i
      unfolding late_words
      late-words i =
          ap (λ (s : List ℕ). get_or s i 0) (set_of-ext _ _ (λ q l.
          ap₂ (λ (b c : Bool). b && not c) (any-ext inner_gaps _ _ (λ g m. λ j. old_row_lem (last_at g) (omega arith) j q || has (parts g).last q))
          (λ j. old_row_lem (last_at unsettled) (omega arith) j q || has (parts unsettled).last q)))

      new-taker : (x q : ℕ) → new_taker t id flags keeping parts x q ≡ new_taker u id flags keeping parts x q
      unfolding new_taker
      new-taker x q = λ j. from_to (positions j) (positions j + (parts 0).positions) q && row_has (parts 0).takes ((q - positions j) * 4) x

      opener-word : (x : ℕ) → x < bytes → opener t id flags keeping parts x ≡ opener u id flags keeping parts x
      unfolding opener
      opener-word x h =
          ap as_one (any-ext max_positions _ _ (λ q l.
          ap₂ (λ (b c : Bool). b && c) (λ j. old_row_lem (takers_at x) (omega arith) j q || new-taker x q j)
          (any-ext inner_gaps _ _ (λ g m. λ j. old_row_lem (first_at g) (omega arith) j q || has (parts g).first q))))

      first-words : (g i : ℕ) → g < first_gaps → first_words t id flags keeping parts g i ≡ first_words u id flags keeping parts g i
      unfolding first_words joined_row
      first-words g i h = λ j. get_or (set_of (λ q. old_row_lem (first_at g) (omega arith) j q || has (parts g).first q)) i 0

      follow-words : (g p i : ℕ) → g < follow_gaps → p < max_positions → i < 4 → follow_words t id flags keeping parts g p i ≡ follow_words u id flags keeping parts g p i
      unfolding follow_words
      follow-words g p i h m l = λ j.
          cond (ltb p (positions j)) (get_or (set_of (old_row_lem (follow_at g p) (omega arith) j)) i 0)
          (cond (ltb p (positions j + (parts 0).positions)) (get_or (parts g).follow ((p - positions j) * 4 + i) 0)
          (same_word t u same (follow_at g p + i) (omega arith) j))

      takers-words : (x i : ℕ) → x < bytes → takers_words t id flags keeping parts x i ≡ takers_words u id flags keeping parts x i
      unfolding takers_words new_taker
      takers-words x i h = λ j.
          get_or (set_of (λ q. old_row_lem (takers_at x) (omega arith) j q
          || (from_to (positions j) (positions j + (parts 0).positions) q && row_has (parts 0).takes ((q - positions j) * 4) x))) i 0

      word : (w : ℕ) → w < table_words → added_word t id flags keeping parts w ≡ added_word u id flags keeping parts w
      unfolding added_word
      word w h =
          header _ _ _ _ _ _ _ _ rules positions singles-word
          (within (last_at 0) (last_at last_gaps) w _ _ _ _ (λ a b. last-words ((w - last_at 0) / 4) ((w - last_at 0) % 4) (omega arith))
          (within lates_at (lates_at + 4) w _ _ _ _ (λ a b. late-words (w - lates_at))
          (within (first_at 0) (first_at first_gaps) w _ _ _ _ (λ a b. first-words ((w - first_at 0) / 4) ((w - first_at 0) % 4) (omega arith))
          (within (id_at 0) (id_at max_rules) w _ _ _ _ (λ a b. id-words (w - id_at 0) (omega arith))
          (within (opener_at 0) (opener_at bytes) w _ _ _ _ (λ a b. opener-word (w - opener_at 0) (omega arith))
          (within (owner_at 0) (owner_at max_positions) w _ _ _ _ (λ a b. owner-words (w - owner_at 0) (omega arith))
          (within (takers_at 0) (takers_at bytes) w _ _ _ _ (λ a b. takers-words ((w - takers_at 0) / 4) ((w - takers_at 0) % 4) (omega arith))
          (within (follow_at 0 0) (follow_at follow_gaps 0) w _ _ _ _
          (λ a b. follow-words ((w - follow_at 0 0) / 1024) ((w - follow_at 0 0) % 1024 / 4) ((w - follow_at 0 0) % 4) (omega arith) (omega arith) (omega arith))
          (ap₂ (λ (x y : ℕ). cond (eqb w leftmosts_at) x y) leftmosts-word
          (within keepers_at (keepers_at + 4) w _ _ _ _ (λ a b. keeper-words (w - keepers_at))
          (same_word t u same w h)))))))))))
        where
          header : (r r' p p' s s' x x' : ℕ) → r ≡ r' → p ≡ p' → s ≡ s' → x ≡ x'
              → cond (eqb w 1) (r + 1) (cond (eqb w 2) (p + (parts 0).positions) (cond (eqb w 3) s x)) ≡ cond (eqb w 1) (r' + 1) (cond (eqb w 2) (p' + (parts 0).positions) (cond (eqb w 3) s' x'))
          header r r' p p' s s' x x' e f i g = λ j. cond (eqb w 1) (e j + 1) (cond (eqb w 2) (f j + (parts 0).positions) (cond (eqb w 3) (i j) (g j)))

      added-local : take table_words (added t id flags keeping parts) ≡ take table_words (added u id flags keeping parts)
      unfolding added
      added-local =
          take_at (words_of table_words (added_word t id flags keeping parts)) (drop table_words t) table_words (length-words_of table_words (added_word t id flags keeping parts))
          ∙ words-ext table_words (added_word t id flags keeping parts) (added_word u id flags keeping parts) word
          ∙ sym (take_at (words_of table_words (added_word u id flags keeping parts)) (drop table_words u) table_words (length-words_of table_words (added_word u id flags keeping parts)))

-- ---- the windows

window-local : (t u : List ℕ) → take table_words t ≡ take table_words u → table_words ≤ length t → rules_of t < max_rules → (id : ℕ) (v : Windows)
    → take table_words (with_window t id v) ≡ take table_words (with_window u id v)
window-local t u same long few id v =
    ext_get_or 0 (take table_words s) (take table_words r)
    (omega (arith, long-u, length-take table_words s, length-take table_words r, length-window t id v long few, length-window u id v long-u few-u))
    (λ w h. let l : w < table_words = omega (arith, length-take table_words s) in get_or-take table_words s w 0 l ∙ word-is w l ∙ sym (get_or-take table_words r w 0 l))
  where
    s : List ℕ
    s = with_window t id v

    r : List ℕ
    r = with_window u id v

    long-u : table_words ≤ length u
    long-u = omega (arith, length-take table_words t, length-take table_words u, ap length same)

    few-u : rules_of u < max_rules
    few-u = omega (arith, rules t u same)

    here : place_of t id ≡ place_of u id
    here = place_same t u same (omega arith) id

    numbers : (at new b : ℕ) → at + max_rules ≤ table_words → b < max_rules
        → numbers_with (rules_of t) (place_of t id) new (λ c. get_or t (at + c) 0) b ≡ numbers_with (rules_of u) (place_of u id) new (λ c. get_or u (at + c) 0) b
    numbers at new b fits h = λ j.
        cond (ltb b (here j)) (same_word t u same (at + b) (omega arith) j)
        (cond (eqb b (here j)) new
        (cond (leb b (rules t u same j)) (same_word t u same (at + (b - 1)) (omega arith) j)
        (same_word t u same (at + b) (omega arith) j)))

    -- a word that is read by its place in a region
    there : (w at x y : ℕ) → at ≤ w → get_or s (at + (w - at)) 0 ≡ x → get_or r (at + (w - at)) 0 ≡ y → x ≡ y → get_or s w 0 ≡ get_or r w 0
    there w at x y l f g z =
        let e : w ≡ at + (w - at) = omega arith in
        ap (λ (i : ℕ). get_or s i 0) e ∙ f ∙ z ∙ sym (ap (λ (i : ℕ). get_or r i 0) e ∙ g)

    lowest : (w : ℕ) → lowest_at 0 ≤ w → w < lowest_at max_rules → get_or s w 0 ≡ get_or r w 0
    lowest w x y =
        there w (lowest_at 0) _ _ x (window-lowest t id v long few (w - lowest_at 0) (omega arith)) (window-lowest u id v long-u few-u (w - lowest_at 0) (omega arith))
        (numbers (lowest_at 0) v.smallest_end (w - lowest_at 0) (omega arith) (omega arith))

    highest : (w : ℕ) → highest_at 0 ≤ w → w < highest_at max_rules → get_or s w 0 ≡ get_or r w 0
    highest w x y =
        there w (highest_at 0) _ _ x (window-highest t id v long few (w - highest_at 0) (omega arith)) (window-highest u id v long-u few-u (w - highest_at 0) (omega arith))
        (numbers (highest_at 0) v.largest_end (w - highest_at 0) (omega arith) (omega arith))

    shortest : (w : ℕ) → shortest_at 0 ≤ w → w < shortest_at max_positions → get_or s w 0 ≡ get_or r w 0
    shortest w x y =
        there w (shortest_at 0) _ _ x (window-shortest t id v long few (w - shortest_at 0) (omega arith)) (window-shortest u id v long-u few-u (w - shortest_at 0) (omega arith))
        (λ j. cond (ltb (w - shortest_at 0) (positions t u same j)) (same_word t u same (shortest_at (w - shortest_at 0)) (omega arith) j) v.smallest_length)

    digits : (w : ℕ) → w ≡ windowed_at → get_or s w 0 ≡ get_or r w 0
    digits w e =
        ap (λ (i : ℕ). get_or s i 0) e ∙ window-digits t id v long few
        ∙ (λ j. digits_with (here j) (has_offsets v) (same_word t u same windowed_at (omega arith) j))
        ∙ sym (ap (λ (i : ℕ). get_or r i 0) e ∙ window-digits u id v long-u few-u)

    lengths : (w : ℕ) → w ≡ lengths_at → get_or s w 0 ≡ get_or r w 0
    lengths w e =
        ap (λ (i : ℕ). get_or s i 0) e ∙ window-lengths t id v long few
        ∙ ap (lengths_with v.smallest_length) (same_word t u same lengths_at (omega arith))
        ∙ sym (ap (λ (i : ℕ). get_or r i 0) e ∙ window-lengths u id v long-u few-u)

    word-is : (w : ℕ) → w < table_words → get_or s w 0 ≡ get_or r w 0
    word-is w h =
        split windowed_at (windowed_at + 1) w (λ x y. digits w (omega arith)) (λ d.
        split lengths_at (lengths_at + 1) w (λ x y. lengths w (omega arith)) (λ m.
        split (lowest_at 0) (lowest_at max_rules) w (lowest w) (λ l.
        split (highest_at 0) (highest_at max_rules) w (highest w) (λ i.
        split (shortest_at 0) (shortest_at max_positions) w (shortest w) (λ o.
        let none : NoWindow w = (
          λ x y. side windowed_at (windowed_at + 1) w (λ z. omega arith) d (λ z. m z (omega arith)),
          λ x y. side (lowest_at 0) (lowest_at max_rules) w (λ z. omega arith) l (λ z. side (highest_at 0) (highest_at max_rules) w (λ z'. omega arith) i (λ z'. o z' y)),
        ) in
        window-out t id v long few w none ∙ same_word t u same w h ∙ sym (window-out u id v long-u few-u w none))))))

-- ---- an addition

module _ (t u : List ℕ) (same : take table_words t ≡ take table_words u) where
  module _ (a : Addition) where
    -- the answer depends on the first 16,384 words alone
    pub add_answer-local : add_answer t a ≡ add_answer u a
    unfolding add_answer
    add_answer-local = go (is_table t) refl
      where
        go : (b : Bool) → is_table t ≡ b → add_answer t a ≡ add_answer u a
        go false e = rw (e, sym (is_table-local t u same) ∙ e)
        go true e = rw (e, sym (is_table-local t u same) ∙ e, has-id t u same (passes t e).rules a.id, rules t u same, positions t u same)

    -- an accepted addition has found a table with room for a rule
    few_rules : eqb (add_answer t a).number 0 ≡ true → (table_words ≤ length t) × (rules_of t < max_rules)
    few_rules e = accepted-few t a (eqb-true (add_answer t a).number 0 e)

    -- so do the first 16,384 words afterwards
    pub add_words-local : take table_words (add_words t a) ≡ take table_words (add_words u a)
    unfolding add_words with_rule
    add_words-local =
        go (eqb (add_answer t a).number 0) (reading_of a) few_rules
        ∙ ap (λ (d : Added). take table_words (cond (eqb d.number 0) (with_rule u a (reading_of a)) u)) add_answer-local
      where
        go : (c : Bool) (d : Read) → (c ≡ true → (table_words ≤ length t) × (rules_of t < max_rules))
            → take table_words (cond c (with_rule t a d) t) ≡ take table_words (cond c (with_rule u a d) u)
        go false d few = same
        go true (refused number place) few = same
        go true (tree x) few =
            added-local (with_window t a.id a.windows) (with_window u a.id a.windows) (window-local t u same (few refl).0 (few refl).1 a.id a.windows)
            (omega (arith, window-rules t a.id a.windows (few refl).0 (few refl).1, (few refl).1)) a.id a.flags (needs_start a.flags a.windows) (parts_at x (positions_of t))
            ∙ ap (λ (n : ℕ). take table_words (added (with_window u a.id a.windows) a.id a.flags (needs_start a.flags a.windows) (parts_at x n))) (positions t u same)

-- "words beyond are never touched"
pub add_words-beyond : (t : List ℕ) (a : Addition) → drop table_words (add_words t a) ≡ drop table_words t
unfolding add_words with_rule added
add_words-beyond t a = go (eqb (add_answer t a).number 0) (reading_of a)
  where
    go : (c : Bool) (d : Read) → drop table_words (cond c (with_rule t a d) t) ≡ drop table_words t
    go false d = refl
    go true (refused number place) = refl
    go true (tree x) =
        let s : List ℕ = with_window t a.id a.windows in
        drop_at (words_of table_words (added_word s a.id a.flags (needs_start a.flags a.windows) (parts_at x (positions_of t)))) (drop table_words s) table_words
        (length-words_of table_words (added_word s a.id a.flags (needs_start a.flags a.windows) (parts_at x (positions_of t))))
        ∙ window-beyond t a.id a.windows
