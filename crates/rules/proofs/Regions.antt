-- The table with one rule more, read region by region: the header, the last sets at each gap, the
-- late positions, the first sets at each gap, the ids, the openers, the owners, the takers of each
-- byte, the follow sets at each gap, the rules and the positions with starts. Each word lies in one
-- region, so the tests of the others fail.
use mathlib.Core.Path.{◌≡◌, refl, sym, ap, ap₂, ◌∙◌}
use mathlib.Core.Bool.{Bool, false}
use mathlib.Core.Logic.{◌⊎◌, inl, inr}
use mathlib.Core.List.{List, [], ◌∷◌, ◌++◌}
use Prim.Native.Nat.{ℕ, zero, suc, ◌+◌, ◌-◌, ◌/◌, ◌%◌, ◌≤◌, ◌<◌}
use native.Mathlib.Nat.{not-suc-le-zero}
use native.Mathlib.Numerals.{add-one}
use native.Mathlib.Decide.{dec_lt}
use native.Mathlib.Omega.{arith}
use lib.Dec.{eqb}
use lib.ListN.{length, get_or, drop, length-append, length-drop, get_or-append}
use lib.Seq.{get_or-append-add, get_or-drop, get_or_at}
use borrow.Author.Tests.{ne_eqb}
use Rattle.table.specs.Layout.{table_words, max_rules, max_positions, bytes, rules_of, positions_of, singles_of, leftmosts_at, leftmosts_of, keepers_at, first_at, last_at, lates_at, id_at, opener_at, owner_at, follow_at, takers_at, from_to}
use Rattle.table.specs.Gaps.{first_gaps, follow_gaps, last_gaps}
use Rattle.table.proofs.Over.{from-to-in, from-to-below, from-to-above}
use Rattle.automaton.specs.declared.Parts.{Parts}
use Rattle.rules.specs.Words.{words_of, id_words, singles_word, leftmosts_word, keeper_words, opener, owner_words, last_words, late_words, first_words, follow_words, takers_words, added_word, added}

-- ---- words by their index

pub length-words_of : (n : ℕ) (f : ℕ → ℕ) → length (words_of n f) ≡ n
unfolding words_of
length-words_of zero f = refl
length-words_of (suc n) f = length-append (words_of n f) (f n ∷ []) ∙ ap (λ (k : ℕ). k + 1) (length-words_of n f) ∙ add-one n

pub get_d-words_of : (n : ℕ) (f : ℕ → ℕ) (w : ℕ) → w < n → get_or (words_of n f) w 0 ≡ f w
unfolding words_of
get_d-words_of zero f w h = absurd (not-suc-le-zero h)
get_d-words_of (suc n) f w h = go (get_d-words_of n f w) (dec_lt w n)
  where
    go : (w < n → get_or (words_of n f) w 0 ≡ f w) → Dec (w < n) → get_or (words_of n f ++ (f n ∷ [])) w 0 ≡ f w
    go ih (yes l) = get_or-append (words_of n f) (f n ∷ []) 0 w (omega (arith, length-words_of n f)) ∙ ih l
    go ih (no l) =
        let e : w ≡ n = omega arith in
        ap (λ (k : ℕ). get_or (words_of n f ++ (f n ∷ [])) k 0) e ∙ get_or_at (words_of n f) (f n) [] 0 n (length-words_of n f) ∙ ap f (sym e)

-- no region has word w
pub record Apart (w : ℕ) : Type 0 where
  pub rules : eqb w 1 ≡ false
  pub positions : eqb w 2 ≡ false
  pub singles : eqb w 3 ≡ false
  pub last : from_to (last_at 0) (last_at last_gaps) w ≡ false
  pub late : from_to lates_at (lates_at + 4) w ≡ false
  pub first : from_to (first_at 0) (first_at first_gaps) w ≡ false
  pub ids : from_to (id_at 0) (id_at max_rules) w ≡ false
  pub opener : from_to (opener_at 0) (opener_at bytes) w ≡ false
  pub owner : from_to (owner_at 0) (owner_at max_positions) w ≡ false
  pub takers : from_to (takers_at 0) (takers_at bytes) w ≡ false
  pub follow : from_to (follow_at 0 0) (follow_at follow_gaps 0) w ≡ false
  pub leftmosts : eqb w leftmosts_at ≡ false
  pub keepers : from_to keepers_at (keepers_at + 4) w ≡ false

-- ---- the table with one rule more

module _ (t : List ℕ) (id flags : ℕ) (keeping : Bool) (parts : ℕ → Parts) where
  -- ---- a word by the region it lies in

  pub word-other : (w : ℕ) → Apart w → added_word t id flags keeping parts w ≡ get_or t w 0
  unfolding added_word
  word-other w a = rw (a.rules, a.positions, a.singles, a.last, a.late, a.first, a.ids, a.opener, a.owner, a.takers, a.follow, a.leftmosts, a.keepers)

  pub word-last : (w : ℕ) → last_at 0 ≤ w → w < last_at last_gaps → added_word t id flags keeping parts w ≡ last_words t id flags keeping parts ((w - last_at 0) / 4) ((w - last_at 0) % 4)
  unfolding added_word
  word-last w h l = rw (ne_eqb w 1 (λ z. omega arith), ne_eqb w 2 (λ z. omega arith), ne_eqb w 3 (λ z. omega arith), from-to-in (last_at 0) (last_at last_gaps) w h l)

  pub word-late : (w : ℕ) → lates_at ≤ w → w < lates_at + 4 → added_word t id flags keeping parts w ≡ late_words t id flags keeping parts (w - lates_at)
  unfolding added_word
  word-late w h l = rw (ne_eqb w 1 (λ z. omega arith), ne_eqb w 2 (λ z. omega arith), ne_eqb w 3 (λ z. omega arith), from-to-above (last_at 0) (last_at last_gaps) w (omega arith), from-to-in lates_at (lates_at + 4) w h l)

  pub word_first : (w : ℕ) → first_at 0 ≤ w → w < first_at first_gaps → added_word t id flags keeping parts w ≡ first_words t id flags keeping parts ((w - first_at 0) / 4) ((w - first_at 0) % 4)
  unfolding added_word
  word_first w h l = rw (ne_eqb w 1 (λ z. omega arith), ne_eqb w 2 (λ z. omega arith), ne_eqb w 3 (λ z. omega arith), from-to-above (last_at 0) (last_at last_gaps) w (omega arith), from-to-above lates_at (lates_at + 4) w (omega arith), from-to-in (first_at 0) (first_at first_gaps) w h l)

  pub word-id : (w : ℕ) → id_at 0 ≤ w → w < id_at max_rules → added_word t id flags keeping parts w ≡ id_words t id flags keeping parts (w - id_at 0)
  unfolding added_word
  word-id w h l = rw (ne_eqb w 1 (λ z. omega arith), ne_eqb w 2 (λ z. omega arith), ne_eqb w 3 (λ z. omega arith), from-to-above (last_at 0) (last_at last_gaps) w (omega arith), from-to-above lates_at (lates_at + 4) w (omega arith), from-to-above (first_at 0) (first_at first_gaps) w (omega arith), from-to-in (id_at 0) (id_at max_rules) w h l)

  pub word-opener : (w : ℕ) → opener_at 0 ≤ w → w < opener_at bytes → added_word t id flags keeping parts w ≡ opener t id flags keeping parts (w - opener_at 0)
  unfolding added_word
  word-opener w h l = rw (ne_eqb w 1 (λ z. omega arith), ne_eqb w 2 (λ z. omega arith), ne_eqb w 3 (λ z. omega arith), from-to-above (last_at 0) (last_at last_gaps) w (omega arith), from-to-above lates_at (lates_at + 4) w (omega arith), from-to-above (first_at 0) (first_at first_gaps) w (omega arith), from-to-above (id_at 0) (id_at max_rules) w (omega arith), from-to-in (opener_at 0) (opener_at bytes) w h l)

  pub word-owner : (w : ℕ) → owner_at 0 ≤ w → w < owner_at max_positions → added_word t id flags keeping parts w ≡ owner_words t id flags keeping parts (w - owner_at 0)
  unfolding added_word
  word-owner w h l = rw (ne_eqb w 1 (λ z. omega arith), ne_eqb w 2 (λ z. omega arith), ne_eqb w 3 (λ z. omega arith), from-to-above (last_at 0) (last_at last_gaps) w (omega arith), from-to-above lates_at (lates_at + 4) w (omega arith), from-to-above (first_at 0) (first_at first_gaps) w (omega arith), from-to-above (id_at 0) (id_at max_rules) w (omega arith), from-to-above (opener_at 0) (opener_at bytes) w (omega arith), from-to-in (owner_at 0) (owner_at max_positions) w h l)

  pub word-takers : (w : ℕ) → takers_at 0 ≤ w → w < takers_at bytes → added_word t id flags keeping parts w ≡ takers_words t id flags keeping parts ((w - takers_at 0) / 4) ((w - takers_at 0) % 4)
  unfolding added_word
  word-takers w h l = rw (ne_eqb w 1 (λ z. omega arith), ne_eqb w 2 (λ z. omega arith), ne_eqb w 3 (λ z. omega arith), from-to-above (last_at 0) (last_at last_gaps) w (omega arith), from-to-above lates_at (lates_at + 4) w (omega arith), from-to-above (first_at 0) (first_at first_gaps) w (omega arith), from-to-above (id_at 0) (id_at max_rules) w (omega arith), from-to-above (opener_at 0) (opener_at bytes) w (omega arith), from-to-above (owner_at 0) (owner_at max_positions) w (omega arith), from-to-in (takers_at 0) (takers_at bytes) w h l)

  pub word-follow : (w : ℕ) → follow_at 0 0 ≤ w → w < follow_at follow_gaps 0 → added_word t id flags keeping parts w ≡ follow_words t id flags keeping parts ((w - follow_at 0 0) / 1024) ((w - follow_at 0 0) % 1024 / 4) ((w - follow_at 0 0) % 4)
  unfolding added_word
  word-follow w h l = rw (ne_eqb w 1 (λ z. omega arith), ne_eqb w 2 (λ z. omega arith), ne_eqb w 3 (λ z. omega arith), from-to-above (last_at 0) (last_at last_gaps) w (omega arith), from-to-above lates_at (lates_at + 4) w (omega arith), from-to-above (first_at 0) (first_at first_gaps) w (omega arith), from-to-above (id_at 0) (id_at max_rules) w (omega arith), from-to-above (opener_at 0) (opener_at bytes) w (omega arith), from-to-above (owner_at 0) (owner_at max_positions) w (omega arith), from-to-above (takers_at 0) (takers_at bytes) w (omega arith), from-to-in (follow_at 0 0) (follow_at follow_gaps 0) w h l)

  pub word-keeper : (w : ℕ) → keepers_at ≤ w → w < keepers_at + 4 → added_word t id flags keeping parts w ≡ keeper_words t id flags keeping parts (w - keepers_at)
  unfolding added_word
  word-keeper w h l =
      rw (
        ne_eqb w 1 (λ z. omega arith),
        ne_eqb w 2 (λ z. omega arith),
        ne_eqb w 3 (λ z. omega arith),
        from-to-above (last_at 0) (last_at last_gaps) w (omega arith),
        from-to-above lates_at (lates_at + 4) w (omega arith),
        from-to-above (first_at 0) (first_at first_gaps) w (omega arith),
        from-to-above (id_at 0) (id_at max_rules) w (omega arith),
        from-to-above (opener_at 0) (opener_at bytes) w (omega arith),
        from-to-above (owner_at 0) (owner_at max_positions) w (omega arith),
        from-to-below (takers_at 0) (takers_at bytes) w (omega arith),
        from-to-below (follow_at 0 0) (follow_at follow_gaps 0) w (omega arith),
        ne_eqb w leftmosts_at (λ z. omega arith),
        from-to-in keepers_at (keepers_at + 4) w h l,
      )

  module _ (long : table_words ≤ length t) where
    -- ---- the list of words

    pub length-added : length (added t id flags keeping parts) ≡ length t
    unfolding added
    length-added =
        length-append (words_of table_words (added_word t id flags keeping parts)) (drop table_words t)
        ∙ ap₂ (λ (m n : ℕ). m + n) (length-words_of table_words (added_word t id flags keeping parts)) (length-drop table_words t) ∙ rest
      where
        rest : table_words + (length t - table_words) ≡ length t
        rest = omega arith

    pub added-word : (w : ℕ) → w < table_words → get_or (added t id flags keeping parts) w 0 ≡ added_word t id flags keeping parts w
    unfolding added
    added-word w h =
        get_or-append (words_of table_words (added_word t id flags keeping parts)) (drop table_words t) 0 w (omega (arith, length-words_of table_words (added_word t id flags keeping parts)))
        ∙ get_d-words_of table_words (added_word t id flags keeping parts) w h

    -- "words beyond are never touched"
    pub added-beyond : (w : ℕ) → table_words ≤ w → get_or (added t id flags keeping parts) w 0 ≡ get_or t w 0
    unfolding added
    added-beyond w h =
        let e : w ≡ length (words_of table_words (added_word t id flags keeping parts)) + (w - table_words) = omega (arith, length-words_of table_words (added_word t id flags keeping parts)) in
        let z : table_words + (w - table_words) ≡ w = omega arith in
        ap (λ (i : ℕ). get_or (words_of table_words (added_word t id flags keeping parts) ++ drop table_words t) i 0) e
        ∙ get_or-append-add (words_of table_words (added_word t id flags keeping parts)) (drop table_words t) (w - table_words) 0
        ∙ get_or-drop table_words t (w - table_words) 0 ∙ ap (λ (i : ℕ). get_or t i 0) z

    -- ---- the regions

    pub added-format : get_or (added t id flags keeping parts) 0 0 ≡ get_or t 0 0
    added-format =
        added-word 0 (omega arith)
        ∙ word-other 0 (record { rules = refl; positions = refl; singles = refl; last = refl; late = refl; first = refl; ids = refl; opener = refl; owner = refl; takers = refl; follow = refl; leftmosts = refl; keepers = refl })

    -- words between the leftmost rules and the takers stay, but for the keepers
    pub added-window : (w : ℕ) → leftmosts_at < w → w < takers_at 0 → (w < keepers_at) ⊎ (keepers_at + 4 ≤ w) → get_or (added t id flags keeping parts) w 0 ≡ get_or t w 0
    added-window w h l k =
        added-word w (omega arith)
        ∙ word-other w (record {
          rules = ne_eqb w 1 (λ z. omega arith);
          positions = ne_eqb w 2 (λ z. omega arith);
          singles = ne_eqb w 3 (λ z. omega arith);
          last = from-to-above (last_at 0) (last_at last_gaps) w (omega arith);
          late = from-to-above lates_at (lates_at + 4) w (omega arith);
          first = from-to-above (first_at 0) (first_at first_gaps) w (omega arith);
          ids = from-to-above (id_at 0) (id_at max_rules) w (omega arith);
          opener = from-to-above (opener_at 0) (opener_at bytes) w (omega arith);
          owner = from-to-above (owner_at 0) (owner_at max_positions) w (omega arith);
          takers = from-to-below (takers_at 0) (takers_at bytes) w l;
          follow = from-to-below (follow_at 0 0) (follow_at follow_gaps 0) w (omega arith);
          leftmosts = ne_eqb w leftmosts_at (λ z. omega arith);
          keepers = elim k [ inl x ↦ from-to-below keepers_at (keepers_at + 4) w x | inr x ↦ from-to-above keepers_at (keepers_at + 4) w x ];
        })

    pub added-rules : rules_of (added t id flags keeping parts) ≡ rules_of t + 1
    unfolding added_word
    added-rules = added-word 1 (omega arith)

    pub added-positions : positions_of (added t id flags keeping parts) ≡ positions_of t + (parts 0).positions
    unfolding added_word
    added-positions = added-word 2 (omega arith)

    pub added-singles : singles_of (added t id flags keeping parts) ≡ singles_word t id flags keeping parts
    unfolding added_word
    added-singles = added-word 3 (omega arith)

    pub added-leftmosts : leftmosts_of (added t id flags keeping parts) ≡ leftmosts_word t id flags keeping parts
    unfolding added_word
    added-leftmosts = added-word leftmosts_at (omega arith)

    pub added-keeper : (i : ℕ) → i < 4 → get_or (added t id flags keeping parts) (keepers_at + i) 0 ≡ keeper_words t id flags keeping parts i
    added-keeper i l =
        let e : keepers_at + i - keepers_at ≡ i = omega arith in
        added-word (keepers_at + i) (omega arith) ∙ word-keeper (keepers_at + i) (omega arith) (omega arith) ∙ ap (keeper_words t id flags keeping parts) e

    pub added-last : (g i : ℕ) → g < last_gaps → i < 4 → get_or (added t id flags keeping parts) (last_at g + i) 0 ≡ last_words t id flags keeping parts g i
    added-last g i h l =
        let e : (last_at g + i - last_at 0) / 4 ≡ g = omega arith in
        let f : (last_at g + i - last_at 0) % 4 ≡ i = omega arith in
        added-word (last_at g + i) (omega arith) ∙ word-last (last_at g + i) (omega arith) (omega arith) ∙ ap₂ (last_words t id flags keeping parts) e f

    pub added-late : (i : ℕ) → i < 4 → get_or (added t id flags keeping parts) (lates_at + i) 0 ≡ late_words t id flags keeping parts i
    added-late i l =
        let e : lates_at + i - lates_at ≡ i = omega arith in
        added-word (lates_at + i) (omega arith) ∙ word-late (lates_at + i) (omega arith) (omega arith) ∙ ap (late_words t id flags keeping parts) e

    pub added-first : (g i : ℕ) → g < first_gaps → i < 4 → get_or (added t id flags keeping parts) (first_at g + i) 0 ≡ first_words t id flags keeping parts g i
    added-first g i h l =
        let e : (first_at g + i - first_at 0) / 4 ≡ g = omega arith in
        let f : (first_at g + i - first_at 0) % 4 ≡ i = omega arith in
        added-word (first_at g + i) (omega arith) ∙ word_first (first_at g + i) (omega arith) (omega arith) ∙ ap₂ (first_words t id flags keeping parts) e f

    pub added-id : (a : ℕ) → a < max_rules → get_or (added t id flags keeping parts) (id_at a) 0 ≡ id_words t id flags keeping parts a
    added-id a h =
        let e : id_at a - id_at 0 ≡ a = omega arith in
        added-word (id_at a) (omega arith) ∙ word-id (id_at a) (omega arith) (omega arith) ∙ ap (id_words t id flags keeping parts) e

    pub added-opener : (a : ℕ) → a < bytes → get_or (added t id flags keeping parts) (opener_at a) 0 ≡ opener t id flags keeping parts a
    added-opener a h =
        let e : opener_at a - opener_at 0 ≡ a = omega arith in
        added-word (opener_at a) (omega arith) ∙ word-opener (opener_at a) (omega arith) (omega arith) ∙ ap (opener t id flags keeping parts) e

    pub added-owner : (a : ℕ) → a < max_positions → get_or (added t id flags keeping parts) (owner_at a) 0 ≡ owner_words t id flags keeping parts a
    added-owner a h =
        let e : owner_at a - owner_at 0 ≡ a = omega arith in
        added-word (owner_at a) (omega arith) ∙ word-owner (owner_at a) (omega arith) (omega arith) ∙ ap (owner_words t id flags keeping parts) e

    pub added-takers : (x i : ℕ) → x < bytes → i < 4 → get_or (added t id flags keeping parts) (takers_at x + i) 0 ≡ takers_words t id flags keeping parts x i
    added-takers x i h l =
        let e : (takers_at x + i - takers_at 0) / 4 ≡ x = omega arith in
        let f : (takers_at x + i - takers_at 0) % 4 ≡ i = omega arith in
        added-word (takers_at x + i) (omega arith) ∙ word-takers (takers_at x + i) (omega arith) (omega arith) ∙ ap₂ (takers_words t id flags keeping parts) e f

    pub added-follow : (g p i : ℕ) → g < follow_gaps → p < max_positions → i < 4 → get_or (added t id flags keeping parts) (follow_at g p + i) 0 ≡ follow_words t id flags keeping parts g p i
    added-follow g p i k h l =
        let d : (follow_at g p + i - follow_at 0 0) / 1024 ≡ g = omega arith in
        let e : (follow_at g p + i - follow_at 0 0) % 1024 / 4 ≡ p = omega arith in
        let f : (follow_at g p + i - follow_at 0 0) % 4 ≡ i = omega arith in
        added-word (follow_at g p + i) (omega arith) ∙ word-follow (follow_at g p + i) (omega arith) (omega arith) ∙ (λ j. follow_words t id flags keeping parts (d j) (e j) (f j))
