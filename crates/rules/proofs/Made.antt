-- The writers make the table with one rule more. Each writer's part is read word by word, and left
-- alone by the others; a list of words is then the defined one because each of its words is, region
-- by region.
use mathlib.Core.Path.{◌≡◌, sym, ap, ap₂, ◌∙◌}
use mathlib.Core.Bool.{Bool, not, ◌&&◌, ◌||◌}
use mathlib.Core.List.{List, [], ◌∷◌}
use Prim.Native.Nat.{ℕ, zero, suc, ◌+◌, ◌-◌, ◌*◌, ◌/◌, ◌%◌, ◌≤◌, ◌<◌}
use native.Mathlib.Decide.{dec_lt}
use native.Mathlib.Omega.{arith}
use lib.Dec.{ltb}
use lib.ListN.{length, get_or}
use lib.Seq.{ext_get_or}
use borrow.Author.Tests.{lt-ltb, le-ltb, ne_eqb}
use Rattle.sets.specs.Set.{has, set_of, empty_set, any, as_one}
use Rattle.sets.proofs.Laws.{set_of-ext, any-ext}
use Rattle.table.specs.Layout.{table_words, max_rules, max_positions, bytes, rules_of, positions_of, leftmosts_at, keepers_at, first_at, id_at, opener_at, owner_at, last_at, lates_at, follow_at, takers_at, row_has}
use Rattle.table.specs.Gaps.{first_gaps, last_gaps, follow_gaps, inner_gaps, unsettled}
use Rattle.table.proofs.Over.{length_over, over-in, over_below, over-above}
use Rattle.meaning.specs.Form.{write, positions}
use Rattle.nodes.specs.Nodes.{Syntax}
use Rattle.automaton.specs.declared.Parts.{Parts}
use Rattle.rules.specs.Gaps.{holding_at, parts_at}
use Rattle.rules.specs.Words.{old_row, joined_row, place_of, digits_with, owner_with, is_single, is_leftmost, id_words, singles_word, leftmosts_word, new_keeper, keeper_words, owner_words, last_words, late_words, opener, first_words, follow_words, new_taker, takers_words, added_word, added}
use Rattle.rules.specs.Invariants.{merged, merged_row, rows_word, merged_rows, number_put, digits_put, owners_put, new_keepers, keepers_put, place_put, follow_put, new_takers, takers_put, gap_put, gaps_put, opener_of, openers_put, late_set, lates_put, counts_put}
use Rattle.rules.proofs.Rows.{row-set, merged-same, merged-none, merged-new}
use Rattle.rules.proofs.Parts.{sized-parts}
use Rattle.rules.proofs.Place.{place-le}
use Rattle.rules.proofs.Regions.{word-other, word-keeper, word-last, word-late, word_first, word-id, word-opener, word-owner, word-takers, word-follow, length-added, added-word, added-beyond}
use Rattle.rules.proofs.Numbers.{length-number, number-out, number_in}
use Rattle.rules.proofs.GapSets.{Out, side, split, from-to-out, over-out, follow-high, follow_old, follow_new, Free, with_last, length_last, first_out, last_out, gap-first, gap-last, gap-follow, length-gaps, gaps-out, gaps-at}

-- ---- the takers of each byte

module _ (n : ℕ) (takes : List ℕ) (more : ℕ) (s : List ℕ) where
  abbrev taken : List ℕ
  taken = takers_put n takes more s

  abbrev takers_word : ℕ → ℕ
  takers_word = rows_word (takers_at 0) n (new_takers takes n more) s

  length-takers : length taken ≡ length s
  unfolding takers_put merged_rows
  length-takers = length_over (takers_at 0) (takers_at bytes) takers_word s

  takers-out : (w : ℕ) → Out (takers_at 0) (takers_at bytes) w → get_or taken w 0 ≡ get_or s w 0
  unfolding takers_put merged_rows
  takers-out w o = over-out (takers_at 0) (takers_at bytes) takers_word s w o

  takers-in : table_words ≤ length s → (x i : ℕ) → x < bytes → i < 4
      → get_or taken (takers_at x + i) 0 ≡ get_or (merged_row s (takers_at x) n (new_takers takes n more x)) i 0
  unfolding takers_put merged_rows rows_word
  takers-in m x i h l =
      let quot : (takers_at x + i - takers_at 0) / 4 ≡ x = omega arith in
      let rest : (takers_at x + i - takers_at 0) % 4 ≡ i = omega arith in
      over-in (takers_at 0) (takers_at bytes) takers_word s (takers_at x + i) (omega arith) (omega arith) (omega arith)
      ∙ ap₂ (λ (j k : ℕ). get_or (merged_row s (takers_at 0 + j * 4) n (new_takers takes n more j)) k 0) quot rest

-- ---- the counts

module _ (rules positions : ℕ) (s : List ℕ) where
  abbrev counted : List ℕ
  counted = counts_put rules positions s

  abbrev figures : ℕ → ℕ
  figures w = get_or (rules ∷ positions ∷ []) (w - 1) 0

  length-counts : length counted ≡ length s
  unfolding counts_put
  length-counts = length_over 1 (1 + 2) figures s

  counts-low : get_or counted 0 0 ≡ get_or s 0 0
  unfolding counts_put
  counts-low = over_below 1 (1 + 2) figures s 0 (omega arith)

  counts-high : (w : ℕ) → 3 ≤ w → get_or counted w 0 ≡ get_or s w 0
  unfolding counts_put
  counts-high w h = over-above 1 (1 + 2) figures s w h

  counts-rules : table_words ≤ length s → get_or counted 1 0 ≡ rules
  unfolding counts_put
  counts-rules m = over-in 1 (1 + 2) figures s 1 (omega arith) (omega arith) (omega arith)

  counts-positions : table_words ≤ length s → get_or counted 2 0 ≡ positions
  unfolding counts_put
  counts-positions m = over-in 1 (1 + 2) figures s 2 (omega arith) (omega arith) (omega arith)

-- ---- the digits of the single-match rules, and of those that report starts

module _ (at k : ℕ) (new : Bool) (s : List ℕ) where
  abbrev marked : ℕ → ℕ
  marked w = get_or (digits_with k new (get_or s at 0) ∷ []) (w - at) 0

  length_digits : length (digits_put at k new s) ≡ length s
  unfolding digits_put
  length_digits = length_over at (at + 1) marked s

  digits-out : (w : ℕ) → Out at (at + 1) w → get_or (digits_put at k new s) w 0 ≡ get_or s w 0
  unfolding digits_put
  digits-out w o = over-out at (at + 1) marked s w o

  digits_in : at < length s → get_or (digits_put at k new s) at 0 ≡ digits_with k new (get_or s at 0)
  unfolding digits_put
  digits_in m =
      let here : at - at ≡ 0 = omega arith in
      over-in at (at + 1) marked s at (omega arith) (omega arith) m ∙ ap (λ (i : ℕ). get_or (digits_with k new (get_or s at 0) ∷ []) i 0) here

-- ---- the positions that keep a start

module _ (n more : ℕ) (keeping : Bool) (s : List ℕ) where
  abbrev kept : List ℕ
  kept = merged_row s keepers_at n (new_keepers n more keeping)

  length-keepers : length (keepers_put n more keeping s) ≡ length s
  unfolding keepers_put merged
  length-keepers = length_over keepers_at (keepers_at + 4) (λ w. get_or kept (w - keepers_at) 0) s

  keepers-out : (w : ℕ) → Out keepers_at (keepers_at + 4) w → get_or (keepers_put n more keeping s) w 0 ≡ get_or s w 0
  unfolding keepers_put merged
  keepers-out w o = over-out keepers_at (keepers_at + 4) (λ w. get_or kept (w - keepers_at) 0) s w o

  keepers-in : table_words ≤ length s → (w : ℕ) → keepers_at ≤ w → w < keepers_at + 4 → get_or (keepers_put n more keeping s) w 0 ≡ get_or kept (w - keepers_at) 0
  unfolding keepers_put merged
  keepers-in m w h l = over-in keepers_at (keepers_at + 4) (λ w. get_or kept (w - keepers_at) 0) s w h l (omega arith)

-- ---- the owners

module _ (n more k : ℕ) (s : List ℕ) where
  abbrev owned : ℕ → ℕ
  owned w = owner_with n more k (w - owner_at 0) (get_or s w 0)

  length-owners : length (owners_put n more k s) ≡ length s
  unfolding owners_put
  length-owners = length_over (owner_at 0) (owner_at max_positions) owned s

  owners-out : (w : ℕ) → Out (owner_at 0) (owner_at max_positions) w → get_or (owners_put n more k s) w 0 ≡ get_or s w 0
  unfolding owners_put
  owners-out w o = over-out (owner_at 0) (owner_at max_positions) owned s w o

  owners-in : table_words ≤ length s → (w : ℕ) → owner_at 0 ≤ w → w < owner_at max_positions → get_or (owners_put n more k s) w 0 ≡ owner_with n more k (w - owner_at 0) (get_or s w 0)
  unfolding owners_put
  owners-in m w h l = over-in (owner_at 0) (owner_at max_positions) owned s w h l (omega arith)

-- ---- the openers

module _ (s : List ℕ) where
  abbrev opened : ℕ → ℕ
  opened w = opener_of s (w - opener_at 0)

  length-openers : length (openers_put s) ≡ length s
  unfolding openers_put
  length-openers = length_over (opener_at 0) (opener_at bytes) opened s

  openers-out : (w : ℕ) → Out (opener_at 0) (opener_at bytes) w → get_or (openers_put s) w 0 ≡ get_or s w 0
  unfolding openers_put
  openers-out w o = over-out (opener_at 0) (opener_at bytes) opened s w o

  openers-in : table_words ≤ length s → (w : ℕ) → opener_at 0 ≤ w → w < opener_at bytes → get_or (openers_put s) w 0 ≡ opener_of s (w - opener_at 0)
  unfolding openers_put
  openers-in m w h l = over-in (opener_at 0) (opener_at bytes) opened s w h l (omega arith)

-- ---- the positions that wait for the next byte

module _ (s : List ℕ) where
  length-lates : length (lates_put s) ≡ length s
  unfolding lates_put
  length-lates = length_over lates_at (lates_at + 4) (λ w. get_or (late_set s) (w - lates_at) 0) s

  lates-out : (w : ℕ) → Out lates_at (lates_at + 4) w → get_or (lates_put s) w 0 ≡ get_or s w 0
  unfolding lates_put
  lates-out w o = over-out lates_at (lates_at + 4) (λ w. get_or (late_set s) (w - lates_at) 0) s w o

  lates-in : table_words ≤ length s → (w : ℕ) → lates_at ≤ w → w < lates_at + 4 → get_or (lates_put s) w 0 ≡ get_or (late_set s) (w - lates_at) 0
  unfolding lates_put
  lates-in m w h l = over-in lates_at (lates_at + 4) (λ w. get_or (late_set s) (w - lates_at) 0) s w h l (omega arith)

-- ---- follow sets as the definition has them, where the words before were the table's

module _ (t : List ℕ) (id flags : ℕ) (keeping : Bool) (parts : ℕ → Parts) (even : (g : ℕ) → (parts g).positions ≡ (parts 0).positions) (room : positions_of t + (parts 0).positions ≤ max_positions)
    (g : ℕ) (low : g < follow_gaps) (s : List ℕ) (long : table_words ≤ length s) (same : (w : ℕ) → follow_at g 0 ≤ w → w < follow_at g 0 + 1024 → get_or s w 0 ≡ get_or t w 0) where
  abbrev held : ℕ
  held = positions_of t

  abbrev fresh : ℕ
  fresh = (parts g).positions

  abbrev written : List ℕ
  written = follow_put (follow_at g 0) held (parts g).follow fresh s

  fits : held + fresh ≤ max_positions
  fits = omega (arith, even g)

  follow-made : (p i : ℕ) → p < max_positions → i < 4 → get_or written (follow_at g p + i) 0 ≡ follow_words t id flags keeping parts g p i
  unfolding follow_words old_row
  follow-made p i h l = ap (λ (w : ℕ). get_or written (w + i) 0) (sym there) ∙ go (dec_lt p held) (dec_lt p (held + (parts 0).positions))
    where
      there : follow_at g 0 + p * 4 ≡ follow_at g p
      there = omega arith

      row : set_of (λ q. ltb q held && row_has s (follow_at g 0 + p * 4) q) ≡ set_of (λ q. ltb q held && row_has t (follow_at g p) q)
      row =
          sym (merged-none s (follow_at g 0 + p * 4) held)
          ∙ merged-same s t (follow_at g 0 + p * 4) held empty_set (λ j k. same (follow_at g 0 + p * 4 + j) (omega arith) (omega arith))
          ∙ merged-none t (follow_at g 0 + p * 4) held
          ∙ ap (λ (w : ℕ). set_of (λ q. ltb q held && row_has t w q)) there

      go : Dec (p < held) → Dec (p < held + (parts 0).positions) → get_or written (follow_at g 0 + p * 4 + i) 0 ≡ follow_words t id flags keeping parts g p i
      go (yes x) y = rw (lt-ltb p held x) (follow_old (follow_at g 0) held (parts g).follow fresh s fits (omega arith) p i x l ∙ ap (λ (r : List ℕ). get_or r i 0) row)
      go (no x) (yes y) =
          rw (le-ltb p held (omega arith), lt-ltb p (held + (parts 0).positions) y)
          (follow_new (follow_at g 0) held (parts g).follow fresh s fits (omega arith) p i (omega arith) (omega (arith, even g)) l)
      go (no x) (no y) =
          rw (le-ltb p held (omega arith), le-ltb p (held + (parts 0).positions) (omega arith))
          (follow-high (follow_at g 0) held (parts g).follow fresh s fits (follow_at g 0 + p * 4 + i) (omega (arith, even g))
          ∙ same (follow_at g 0 + p * 4 + i) (omega arith) (omega arith) ∙ ap (λ (w : ℕ). get_or t (w + i) 0) there)

-- ---- all of it

module _ (t : List ℕ) (id flags : ℕ) (keeping : Bool) (parts : ℕ → Parts) (even : (g : ℕ) → (parts g).positions ≡ (parts 0).positions)
    (long : table_words ≤ length t) (few : rules_of t < max_rules) (room : positions_of t + (parts 0).positions ≤ max_positions) where
  abbrev n : ℕ
  n = positions_of t

  abbrev more : ℕ
  more = (parts 0).positions

  abbrev place : ℕ
  place = place_of t id

  place-few : place < max_rules
  place-few = omega (arith, place-le t id)

  -- the id, its digits, the owners, the keepers
  abbrev a1 : List ℕ
  a1 = number_put (id_at 0) (rules_of t) place id t

  abbrev a2 : List ℕ
  a2 = digits_put 3 place (is_single flags) a1

  abbrev a3 : List ℕ
  a3 = digits_put leftmosts_at place (is_leftmost flags) a2

  abbrev a4 : List ℕ
  a4 = owners_put n more place a3

  abbrev s1 : List ℕ
  s1 = keepers_put n more keeping a4

  abbrev before : ℕ → List ℕ
  before g = gaps_put g n parts s1

  abbrev s2 : List ℕ
  s2 = before first_gaps

  abbrev s3 : List ℕ
  s3 = takers_put n (parts 0).takes more s2

  abbrev s4 : List ℕ
  s4 = openers_put s3

  abbrev s5 : List ℕ
  s5 = lates_put s4

  abbrev s6 : List ℕ
  s6 = counts_put (rules_of t + 1) (n + more) s5

  rooms : (g : ℕ) → n + (parts g).positions ≤ max_positions
  rooms g = omega (arith, even g)

  ids-out : (w : ℕ) → Out (id_at 0) (id_at max_rules) w → get_or a1 w 0 ≡ get_or t w 0
  ids-out = number-out (id_at 0) (rules_of t) place id t (place-le t id) few (omega arith)

  length-a1 : length a1 ≡ length t
  length-a1 = length-number (id_at 0) (rules_of t) place id t (place-le t id) few (omega arith)

  length-a2 : length a2 ≡ length t
  length-a2 = length_digits 3 place (is_single flags) a1 ∙ length-a1

  length-a3 : length a3 ≡ length t
  length-a3 = length_digits leftmosts_at place (is_leftmost flags) a2 ∙ length-a2

  length-a4 : length a4 ≡ length t
  length-a4 = length-owners n more place a3 ∙ length-a3

  length-1 : length s1 ≡ length t
  length-1 = length-keepers n more keeping a4 ∙ length-a4

  length_before : (g : ℕ) → length (before g) ≡ length t
  length_before g = length-gaps n parts rooms s1 g ∙ length-1

  length-3 : length s3 ≡ length t
  length-3 = length-takers n (parts 0).takes more s2 ∙ length_before first_gaps

  length-4 : length s4 ≡ length t
  length-4 = length-openers s3 ∙ length-3

  length-5 : length s5 ≡ length t
  length-5 = length-lates s4 ∙ length-4

  -- the regions as the later writers leave them
  after-openers : (w : ℕ) → 3 ≤ w → Out lates_at (lates_at + 4) w → get_or s6 w 0 ≡ get_or s4 w 0
  after-openers w h e = counts-high (rules_of t + 1) (n + more) s5 w h ∙ lates-out s4 w e

  after-takers : (w : ℕ) → 3 ≤ w → Out lates_at (lates_at + 4) w → Out (opener_at 0) (opener_at bytes) w → get_or s6 w 0 ≡ get_or s3 w 0
  after-takers w h e o = after-openers w h e ∙ openers-out s3 w o

  after-gaps : (w : ℕ) → 3 ≤ w → Out lates_at (lates_at + 4) w → Out (opener_at 0) (opener_at bytes) w → Out (takers_at 0) (takers_at bytes) w → get_or s6 w 0 ≡ get_or s2 w 0
  after-gaps w h e o p = after-takers w h e o ∙ takers-out n (parts 0).takes more s2 w p

  -- the word of a gap, and what it was before
  at_gap : (g w : ℕ) → g < first_gaps → ((h : ℕ) → g < h → h < first_gaps → Free n h w) → get_or s2 w 0 ≡ get_or (gap_put g n (parts g) (before g)) w 0
  at_gap = gaps-at n parts rooms s1 first_gaps

  -- a word that the rule's place does not touch
  untouched : (w : ℕ) → Out (id_at 0) (id_at max_rules) w → Out 3 4 w → Out (owner_at 0) (owner_at max_positions) w → Out leftmosts_at (leftmosts_at + 1) w → Out keepers_at (keepers_at + 4) w
      → get_or s1 w 0 ≡ get_or t w 0
  untouched w i d o m k =
      keepers-out n more keeping a4 w k ∙ owners-out n more place a3 w o ∙ digits-out leftmosts_at place (is_leftmost flags) a2 w m
      ∙ digits-out 3 place (is_single flags) a1 w d ∙ ids-out w i

  still : (w : ℕ) → Out (id_at 0) (id_at max_rules) w → Out 3 4 w → Out (owner_at 0) (keepers_at + 4) w → get_or s1 w 0 ≡ get_or t w 0
  still w i d o = untouched w i d (λ a b. o a (omega arith)) (λ a b. o (omega arith) (omega arith)) (λ a b. o (omega arith) b)

  was : (g w : ℕ) → ((h : ℕ) → h < g → Free n h w) → Out (id_at 0) (id_at max_rules) w → Out 3 4 w → Out (owner_at 0) (keepers_at + 4) w → get_or (before g) w 0 ≡ get_or t w 0
  was g w f i d o = gaps-out n parts rooms s1 g w f ∙ still w i d o

  -- ---- the sets of first positions, and of last ones

  first-in : (g i : ℕ) → g < first_gaps → i < 4 → get_or s2 (first_at g + i) 0 ≡ first_words t id flags keeping parts g i
  unfolding first_words joined_row old_row merged_row
  first-in g i h l =
      at_gap g (first_at g + i) h (λ j x y. (λ a b. omega arith, λ c a b. omega arith, λ c a b. omega arith))
      ∙ gap-first n g (parts g) (rooms g) (before g) (omega (arith, length_before g)) h i l
      ∙ ap (λ (r : List ℕ). get_or r i 0)
      (merged-same (before g) t (first_at g) n (parts g).first
      (λ j x. was g (first_at g + j) (λ m y. (λ a b. omega arith, λ c a b. omega arith, λ c a b. omega arith)) (λ a b. omega arith) (λ a b. omega arith) (λ a b. omega arith)))

  last-in : (g i : ℕ) → g < last_gaps → i < 4 → get_or s2 (last_at g + i) 0 ≡ last_words t id flags keeping parts g i
  unfolding last_words joined_row old_row merged_row
  last-in g i h l =
      at_gap g (last_at g + i) (omega arith) (λ j x y. (λ a b. omega arith, λ c a b. omega arith, λ c a b. omega arith))
      ∙ gap-last n g (parts g) (rooms g) (before g) (omega (arith, length_before g)) (omega arith) h i l
      ∙ ap (λ (r : List ℕ). get_or r i 0)
      (merged-same (before g) t (last_at g) n (parts g).last
      (λ j x. was g (last_at g + j) (λ m y. (λ a b. omega arith, λ c a b. omega arith, λ c a b. omega arith)) (λ a b. omega arith) (λ a b. omega arith) (λ a b. omega arith)))

  -- ---- the follow sets

  follow-in : (g p i : ℕ) → g < follow_gaps → p < max_positions → i < 4 → get_or s2 (follow_at g p + i) 0 ≡ follow_words t id flags keeping parts g p i
  follow-in g p i h m l =
      at_gap g (follow_at g p + i) (omega arith) (λ j x y. (λ a b. omega arith, λ c a b. omega arith, λ c a b. omega arith))
      ∙ gap-follow n g (parts g) (rooms g) (before g) h (follow_at g p + i)
      ∙ follow-made t id flags keeping parts even room g h (with_last n g (parts g) (rooms g) (before g)) (omega (arith, length_last n g (parts g) (rooms g) (before g), length_before g))
      (λ w x y.
      last_out n g (parts g) (rooms g) (before g) w (λ c a b. omega arith) ∙ first_out n g (parts g) (rooms g) (before g) w (λ a b. omega arith)
      ∙ was g w (λ j z. (λ a b. omega arith, λ c a b. omega arith, λ c a b. omega arith)) (λ a b. omega arith) (λ a b. omega arith) (λ a b. omega arith)) p i m l

  -- ---- a word by its region

  last_word : (w : ℕ) → last_at 0 ≤ w → w < last_at last_gaps → get_or s6 w 0 ≡ added_word t id flags keeping parts w
  last_word w h l =
      let e : w ≡ last_at ((w - last_at 0) / 4) + (w - last_at 0) % 4 = omega arith in
      after-gaps w (omega arith) (λ a b. omega arith) (λ a b. omega arith) (λ a b. omega arith) ∙ ap (λ (j : ℕ). get_or s2 j 0) e
      ∙ last-in ((w - last_at 0) / 4) ((w - last_at 0) % 4) (omega arith) (omega arith) ∙ sym (word-last t id flags keeping parts w h l)

  first_word : (w : ℕ) → first_at 0 ≤ w → w < first_at first_gaps → get_or s6 w 0 ≡ added_word t id flags keeping parts w
  first_word w h l =
      let e : w ≡ first_at ((w - first_at 0) / 4) + (w - first_at 0) % 4 = omega arith in
      after-gaps w (omega arith) (λ a b. omega arith) (λ a b. omega arith) (λ a b. omega arith) ∙ ap (λ (j : ℕ). get_or s2 j 0) e
      ∙ first-in ((w - first_at 0) / 4) ((w - first_at 0) % 4) (omega arith) (omega arith) ∙ sym (word_first t id flags keeping parts w h l)

  -- a word that no gap has
  no_gap : (w : ℕ) → Out (first_at 0) (first_at first_gaps) w → Out (last_at 0) (last_at last_gaps) w → Out (follow_at 0 0) (follow_at follow_gaps 0) w → get_or s2 w 0 ≡ get_or s1 w 0
  no_gap w f r g =
      gaps-out n parts rooms s1 first_gaps w
      (λ h x. (λ a b. f (omega arith) (omega arith), λ c a b. r (omega arith) (omega arith), λ c a b. g (omega arith) (omega arith)))

  id-word : (w : ℕ) → id_at 0 ≤ w → w < id_at max_rules → get_or s6 w 0 ≡ added_word t id flags keeping parts w
  unfolding id_words
  id-word w h l =
      let e : w ≡ id_at (w - id_at 0) = omega arith in
      after-gaps w (omega arith) (λ a b. omega arith) (λ a b. omega arith) (λ a b. omega arith) ∙ no_gap w (λ a b. omega arith) (λ a b. omega arith) (λ a b. omega arith)
      ∙ keepers-out n more keeping a4 w (λ a b. omega arith) ∙ owners-out n more place a3 w (λ a b. omega arith)
      ∙ digits-out leftmosts_at place (is_leftmost flags) a2 w (λ a b. omega arith) ∙ digits-out 3 place (is_single flags) a1 w (λ a b. omega arith)
      ∙ ap (λ (j : ℕ). get_or a1 j 0) e ∙ number_in (id_at 0) (rules_of t) place id t (place-le t id) few (omega arith) (w - id_at 0) (omega arith) ∙ sym (word-id t id flags keeping parts w h l)

  owner-word : (w : ℕ) → owner_at 0 ≤ w → w < owner_at max_positions → get_or s6 w 0 ≡ added_word t id flags keeping parts w
  unfolding owner_words
  owner-word w h l =
      let e : w ≡ owner_at (w - owner_at 0) = omega arith in
      after-gaps w (omega arith) (λ a b. omega arith) (λ a b. omega arith) (λ a b. omega arith) ∙ no_gap w (λ a b. omega arith) (λ a b. omega arith) (λ a b. omega arith)
      ∙ keepers-out n more keeping a4 w (λ a b. omega arith) ∙ owners-in n more place a3 (omega (arith, length-a3)) w h l
      ∙ ap (owner_with n more place (w - owner_at 0))
      (digits-out leftmosts_at place (is_leftmost flags) a2 w (λ a b. omega arith) ∙ digits-out 3 place (is_single flags) a1 w (λ a b. omega arith)
      ∙ ids-out w (λ a b. omega arith) ∙ ap (λ (j : ℕ). get_or t j 0) e)
      ∙ sym (word-owner t id flags keeping parts w h l)

  follow-word : (w : ℕ) → follow_at 0 0 ≤ w → w < follow_at follow_gaps 0 → get_or s6 w 0 ≡ added_word t id flags keeping parts w
  follow-word w h l =
      let e : w ≡ follow_at ((w - follow_at 0 0) / 1024) ((w - follow_at 0 0) % 1024 / 4) + (w - follow_at 0 0) % 4 = omega arith in
      after-gaps w (omega arith) (λ a b. omega arith) (λ a b. omega arith) (λ a b. omega arith) ∙ ap (λ (j : ℕ). get_or s2 j 0) e
      ∙ follow-in ((w - follow_at 0 0) / 1024) ((w - follow_at 0 0) % 1024 / 4) ((w - follow_at 0 0) % 4) (omega arith) (omega arith) (omega arith)
      ∙ sym (word-follow t id flags keeping parts w h l)

  taker-in : (x i : ℕ) → x < bytes → i < 4 → get_or s3 (takers_at x + i) 0 ≡ takers_words t id flags keeping parts x i
  unfolding takers_words new_taker old_row new_takers
  taker-in x i h l =
      takers-in n (parts 0).takes more s2 (omega (arith, length_before first_gaps)) x i h l
      ∙ ap (λ (r : List ℕ). get_or r i 0)
      (merged-same s2 t (takers_at x) n (new_takers (parts 0).takes n more x)
      (λ j k. no_gap (takers_at x + j) (λ a b. omega arith) (λ a b. omega arith) (λ a b. omega arith) ∙ still (takers_at x + j) (λ a b. omega arith) (λ a b. omega arith) (λ a b. omega arith))
      ∙ merged-new t (takers_at x) n (new_taker t id flags keeping parts x))

  takers-word : (w : ℕ) → takers_at 0 ≤ w → w < takers_at bytes → get_or s6 w 0 ≡ added_word t id flags keeping parts w
  takers-word w h l =
      let e : w ≡ takers_at ((w - takers_at 0) / 4) + (w - takers_at 0) % 4 = omega arith in
      after-takers w (omega arith) (λ a b. omega arith) (λ a b. omega arith) ∙ ap (λ (j : ℕ). get_or s3 j 0) e
      ∙ taker-in ((w - takers_at 0) / 4) ((w - takers_at 0) % 4) (omega arith) (omega arith) ∙ sym (word-takers t id flags keeping parts w h l)

  -- a set of last positions, read from its four words
  last-row-of : (g q : ℕ) → g < last_gaps → q < max_positions → ((i : ℕ) → g < last_gaps → i < 4 → get_or s4 (last_at g + i) 0 ≡ last_words t id flags keeping parts g i)
      → row_has s4 (last_at g) q ≡ (old_row t (last_at g) q || has (parts g).last q)
  unfolding last_words joined_row
  last-row-of g q h l e = row-set s4 (last_at g) (λ q. old_row t (last_at g) q || has (parts g).last q) (λ i m. e i h m) q l

  -- the openers read the sets of the takers and of the first positions, which are written by then
  opener-in : (x : ℕ) → x < bytes → opener_of s3 x ≡ opener t id flags keeping parts x
  unfolding opener_of opener takers_words first_words joined_row
  opener-in x h =
      ap as_one (any-ext max_positions _ _ (λ q l. ap₂ (λ (b c : Bool). b && c)
      (row-set s3 (takers_at x) (λ q. old_row t (takers_at x) q || new_taker t id flags keeping parts x q) (λ i m. taker-in x i h m) q l)
      (any-ext inner_gaps _ _ (λ g m.
      row-set s3 (first_at g) (λ q. old_row t (first_at g) q || has (parts g).first q)
      (λ i k. takers-out n (parts 0).takes more s2 (first_at g + i) (λ a b. omega arith) ∙ first-in g i (omega arith) k) q l))))

  opener-word : (w : ℕ) → opener_at 0 ≤ w → w < opener_at bytes → get_or s6 w 0 ≡ added_word t id flags keeping parts w
  opener-word w h l =
      after-openers w (omega arith) (λ a b. omega arith) ∙ openers-in s3 (omega (arith, length-3)) w h l
      ∙ opener-in (w - opener_at 0) (omega arith) ∙ sym (word-opener t id flags keeping parts w h l)

  -- so do the positions that wait for the next byte, of the last ones
  late-in : late_set s4 ≡ set_of (λ q. any inner_gaps (λ g. old_row t (last_at g) q || has (parts g).last q) && not (old_row t (last_at unsettled) q || has (parts unsettled).last q))
  unfolding late_set
  late-in = set_of-ext _ _ (λ q l. ap₂ (λ (b c : Bool). b && not c) (any-ext inner_gaps _ _ (λ g m. ending g q (omega arith) l)) (ending unsettled q (omega arith) l))
    where
      still-last : (g i : ℕ) → g < last_gaps → i < 4 → get_or s4 (last_at g + i) 0 ≡ last_words t id flags keeping parts g i
      still-last g i h l =
          openers-out s3 (last_at g + i) (λ a b. omega arith) ∙ takers-out n (parts 0).takes more s2 (last_at g + i) (λ a b. omega arith) ∙ last-in g i h l

      ending : (g q : ℕ) → g < last_gaps → q < max_positions → row_has s4 (last_at g) q ≡ (old_row t (last_at g) q || has (parts g).last q)
      ending g q h l = last-row-of g q h l (λ i h m. still-last g i h m)

  late-word : (w : ℕ) → lates_at ≤ w → w < lates_at + 4 → get_or s6 w 0 ≡ added_word t id flags keeping parts w
  unfolding late_words
  late-word w h l =
      counts-high (rules_of t + 1) (n + more) s5 w (omega arith) ∙ lates-in s4 (omega (arith, length-4)) w h l
      ∙ ap (λ (s : List ℕ). get_or s (w - lates_at) 0) late-in ∙ sym (word-late t id flags keeping parts w h l)

  header-word : (w : ℕ) → w < 4 → get_or s6 w 0 ≡ added_word t id flags keeping parts w
  unfolding added_word singles_word
  header-word zero h =
      counts-low (rules_of t + 1) (n + more) s5 ∙ lates-out s4 0 (λ a b. omega arith) ∙ openers-out s3 0 (λ a b. omega arith) ∙ takers-out n (parts 0).takes more s2 0 (λ a b. omega arith)
      ∙ no_gap 0 (λ a b. omega arith) (λ a b. omega arith) (λ a b. omega arith) ∙ still 0 (λ a b. omega arith) (λ a b. omega arith) (λ a b. omega arith)
  header-word (suc zero) h = counts-rules (rules_of t + 1) (n + more) s5 (omega (arith, length-5))
  header-word (suc (suc zero)) h = counts-positions (rules_of t + 1) (n + more) s5 (omega (arith, length-5))
  header-word (suc (suc (suc zero))) h =
      after-gaps 3 (omega arith) (λ a b. omega arith) (λ a b. omega arith) (λ a b. omega arith) ∙ no_gap 3 (λ a b. omega arith) (λ a b. omega arith) (λ a b. omega arith)
      ∙ keepers-out n more keeping a4 3 (λ a b. omega arith) ∙ owners-out n more place a3 3 (λ a b. omega arith)
      ∙ digits-out leftmosts_at place (is_leftmost flags) a2 3 (λ a b. omega arith) ∙ digits_in 3 place (is_single flags) a1 (omega (arith, length-a1))
      ∙ ap (digits_with place (is_single flags)) (ids-out 3 (λ a b. omega arith))
  header-word (suc (suc (suc (suc w)))) h = absurd (omega arith)

  leftmosts-word : (w : ℕ) → leftmosts_at ≤ w → w < leftmosts_at + 1 → get_or s6 w 0 ≡ added_word t id flags keeping parts w
  unfolding added_word leftmosts_word
  leftmosts-word w h l =
      let here : w ≡ leftmosts_at = omega arith in
      ap (λ (j : ℕ). get_or s6 j 0) here
      ∙ after-gaps leftmosts_at (omega arith) (λ a b. omega arith) (λ a b. omega arith) (λ a b. omega arith) ∙ no_gap leftmosts_at (λ a b. omega arith) (λ a b. omega arith) (λ a b. omega arith)
      ∙ keepers-out n more keeping a4 leftmosts_at (λ a b. omega arith) ∙ owners-out n more place a3 leftmosts_at (λ a b. omega arith)
      ∙ digits_in leftmosts_at place (is_leftmost flags) a2 (omega (arith, length-a2))
      ∙ ap (digits_with place (is_leftmost flags)) (digits-out 3 place (is_single flags) a1 leftmosts_at (λ a b. omega arith) ∙ ids-out leftmosts_at (λ a b. omega arith))
      ∙ ap (added_word t id flags keeping parts) (sym here)

  keeper-word : (w : ℕ) → keepers_at ≤ w → w < keepers_at + 4 → get_or s6 w 0 ≡ added_word t id flags keeping parts w
  unfolding keeper_words new_keeper old_row new_keepers
  keeper-word w h l =
      after-gaps w (omega arith) (λ a b. omega arith) (λ a b. omega arith) (λ a b. omega arith) ∙ no_gap w (λ a b. omega arith) (λ a b. omega arith) (λ a b. omega arith)
      ∙ keepers-in n more keeping a4 (omega (arith, length-a4)) w h l
      ∙ ap (λ (r : List ℕ). get_or r (w - keepers_at) 0)
      (merged-same a4 t keepers_at n (new_keepers n more keeping) (λ j k.
      owners-out n more place a3 (keepers_at + j) (λ a b. omega arith) ∙ digits-out leftmosts_at place (is_leftmost flags) a2 (keepers_at + j) (λ a b. omega arith)
      ∙ digits-out 3 place (is_single flags) a1 (keepers_at + j) (λ a b. omega arith) ∙ ids-out (keepers_at + j) (λ a b. omega arith))
      ∙ merged-new t keepers_at n (new_keeper t id flags keeping parts))
      ∙ sym (word-keeper t id flags keeping parts w h l)

  -- no region has word w
  pub record Nowhere (w : ℕ) : Type 0 where
    pub header : Out 0 4 w
    pub lasts : Out (last_at 0) (last_at last_gaps) w
    pub lates : Out lates_at (lates_at + 4) w
    pub firsts : Out (first_at 0) (first_at first_gaps) w
    pub ids : Out (id_at 0) (id_at max_rules) w
    pub openers : Out (opener_at 0) (opener_at bytes) w
    pub owners : Out (owner_at 0) (owner_at max_positions) w
    pub takers : Out (takers_at 0) (takers_at bytes) w
    pub follows : Out (follow_at 0 0) (follow_at follow_gaps 0) w
    pub leftmosts : Out leftmosts_at (leftmosts_at + 1) w
    pub keepers : Out keepers_at (keepers_at + 4) w

  -- it stays
  no-region : (w : ℕ) → Nowhere w → get_or t w 0 ≡ added_word t id flags keeping parts w
  no-region w o =
      sym (word-other t id flags keeping parts w (record {
        rules = ne_eqb w 1 (λ z. o.header (omega arith) (omega arith));
        positions = ne_eqb w 2 (λ z. o.header (omega arith) (omega arith));
        singles = ne_eqb w 3 (λ z. o.header (omega arith) (omega arith));
        last = from-to-out (last_at 0) (last_at last_gaps) w o.lasts;
        late = from-to-out lates_at (lates_at + 4) w o.lates;
        first = from-to-out (first_at 0) (first_at first_gaps) w o.firsts;
        ids = from-to-out (id_at 0) (id_at max_rules) w o.ids;
        opener = from-to-out (opener_at 0) (opener_at bytes) w o.openers;
        owner = from-to-out (owner_at 0) (owner_at max_positions) w o.owners;
        takers = from-to-out (takers_at 0) (takers_at bytes) w o.takers;
        follow = from-to-out (follow_at 0 0) (follow_at follow_gaps 0) w o.follows;
        leftmosts = ne_eqb w leftmosts_at (λ z. o.leftmosts (omega arith) (omega arith));
        keepers = from-to-out keepers_at (keepers_at + 4) w o.keepers;
      }))

  plain_word : (w : ℕ) → Nowhere w → get_or s6 w 0 ≡ added_word t id flags keeping parts w
  plain_word w o =
      side 0 4 w (λ a. absurd (omega arith)) (λ a b. absurd (o.header a b)) (λ a. after-gaps w (omega arith) o.lates o.openers o.takers)
      ∙ no_gap w o.firsts o.lasts o.follows ∙ untouched w o.ids (λ a b. o.header (omega arith) (omega arith)) o.owners o.leftmosts o.keepers ∙ no-region w o

  word-is : (w : ℕ) → get_or s6 w 0 ≡ added_word t id flags keeping parts w
  word-is w =
      split 0 4 w (λ a b. header-word w b)
      (λ h. split (last_at 0) (last_at last_gaps) w (last_word w)
      (λ e. split lates_at (lates_at + 4) w (late-word w)
      (λ d. split (first_at 0) (first_at first_gaps) w (first_word w)
      (λ f. split (id_at 0) (id_at max_rules) w (id-word w)
      (λ i. split (opener_at 0) (opener_at bytes) w (opener-word w)
      (λ j. split (owner_at 0) (owner_at max_positions) w (owner-word w)
      (λ l. split (takers_at 0) (takers_at bytes) w (takers-word w)
      (λ k. split (follow_at 0 0) (follow_at follow_gaps 0) w (follow-word w)
      (λ m. split leftmosts_at (leftmosts_at + 1) w (leftmosts-word w)
      (λ y. split keepers_at (keepers_at + 4) w (keeper-word w)
      (λ z. plain_word w (record { header = h; lasts = e; lates = d; firsts = f; ids = i; openers = j; owners = l; takers = k; follows = m; leftmosts = y; keepers = z }))))))))))))

  made : s6 ≡ added t id flags keeping parts
  made =
      ext_get_or 0 s6 (added t id flags keeping parts) (length-counts (rules_of t + 1) (n + more) s5 ∙ length-5 ∙ sym (length-added t id flags keeping parts long)) (λ w h. go w (dec_lt w table_words))
    where
      go : (w : ℕ) → Dec (w < table_words) → get_or s6 w 0 ≡ get_or (added t id flags keeping parts) w 0
      go w (yes h) = word-is w ∙ sym (added-word t id flags keeping parts long w h)
      go w (no h) =
          word-is w
          ∙ sym (no-region w (record {
            header = λ a b. omega arith;
            lasts = λ a b. omega arith;
            lates = λ a b. omega arith;
            firsts = λ a b. omega arith;
            ids = λ a b. omega arith;
            openers = λ a b. omega arith;
            owners = λ a b. omega arith;
            takers = λ a b. omega arith;
            follows = λ a b. omega arith;
            leftmosts = λ a b. omega arith;
            keepers = λ a b. omega arith;
          }))
          ∙ sym (added-beyond t id flags keeping parts long w (omega arith))

-- what `add_rule` leaves, call by call
module _ (t : List ℕ) (id flags : ℕ) (keeping : Bool) (x : Syntax) (long : table_words ≤ length t) (few : rules_of t < max_rules) (room : positions_of t + positions (write x) ≤ max_positions) where
  abbrev parts : ℕ → Parts
  parts = parts_at x (positions_of t)

  sizes : (g : ℕ) → (parts g).positions ≡ positions (write x)
  sizes g = sized-parts x (positions_of t) (holding_at g) room

  pub added_is : (p : Parts) → p ≡ parts_at x (positions_of t) 0 → (a b c d d' e : List ℕ)
      → a ≡ place_put (rules_of t) (positions_of t) p.positions id (is_single flags) (is_leftmost flags) keeping t → b ≡ gaps_put first_gaps (positions_of t) (parts_at x (positions_of t)) a
      → c ≡ takers_put (positions_of t) p.takes p.positions b → d ≡ openers_put c → d' ≡ lates_put d
      → e ≡ counts_put (rules_of t + 1) (positions_of t + p.positions) d'
      → e ≡ added t id flags keeping (parts_at x (positions_of t))
  unfolding place_of place_put
  added_is p is a b c d d' e f g h i i' j =
      let first : a ≡ place_put (rules_of t) (positions_of t) (parts 0).positions id (is_single flags) (is_leftmost flags) keeping t =
      f ∙ ap (λ (q : Parts). place_put (rules_of t) (positions_of t) q.positions id (is_single flags) (is_leftmost flags) keeping t) is in
      j ∙ ap₂ (λ (q : Parts) (l : List ℕ). counts_put (rules_of t + 1) (positions_of t + q.positions) l) is
      (i' ∙ ap lates_put (i ∙ ap openers_put
      (h ∙ ap₂ (λ (q : Parts) (l : List ℕ). takers_put (positions_of t) q.takes q.positions l) is
      (g ∙ ap (gaps_put first_gaps (positions_of t) parts) first))))
      ∙ made t id flags keeping parts (λ g. sizes g ∙ sym (sizes 0)) long few (omega (arith, sizes 0))
