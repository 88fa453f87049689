-- The sets of the gaps, as they are written: for each gap the first positions, those that can end a
-- match, and what follows each position. A word is one gap's, as that gap's turn leaves it, or no
-- gap's, and stays.
use mathlib.Core.Path.{◌≡◌, refl, ap, ap₂, ◌∙◌}
use mathlib.Core.Bool.{Bool, false, cond, ◌&&◌}
use mathlib.Core.List.{List}
use Prim.Native.Nat.{ℕ, zero, suc, ◌+◌, ◌-◌, ◌*◌, ◌/◌, ◌%◌, ◌≤◌, ◌<◌}
use native.Mathlib.Nat.{not-suc-le-zero}
use native.Mathlib.Decide.{dec_lt}
use native.Mathlib.Omega.{arith}
use lib.Dec.{ltb}
use lib.ListN.{length, get_or}
use borrow.Author.Tests.{lt-ltb}
use Rattle.sets.specs.Set.{set_of, empty_set}
use Rattle.table.specs.Layout.{table_words, max_positions, first_at, last_at, follow_at, row_has, from_to}
use Rattle.table.specs.Gaps.{first_gaps, last_gaps, follow_gaps}
use Rattle.table.proofs.Over.{from-to-below, from-to-above, over, length_over, over-in, over_below, over-above}
use Rattle.table.proofs.Rows.{under}
use Rattle.automaton.specs.declared.Parts.{Parts}
use Rattle.rules.specs.Invariants.{merged_row, merged, rows_word, merged_rows, masked_rows, follow_put, gap_put, gaps_put}
use Rattle.rules.proofs.Rows.{merged-none, merged-same}

-- ---- words outside a range

abbrev pub Out : (lo hi w : ℕ) → Type 0
Out lo hi w = lo ≤ w → w < hi → ⊥

-- a word is below the range, in it, or above it
pub side : {A : Type 0} (lo hi w : ℕ) → (w < lo → A) → (lo ≤ w → w < hi → A) → (hi ≤ w → A) → A
side {A} lo hi w below inside above = go (dec_lt w lo) (dec_lt w hi)
  where
    go : Dec (w < lo) → Dec (w < hi) → A
    go (yes a) b = below a
    go (no a) (yes b) = inside (omega arith) b
    go (no a) (no b) = above (omega arith)

pub split : {A : Type 0} (lo hi w : ℕ) → (lo ≤ w → w < hi → A) → (Out lo hi w → A) → A
split lo hi w inside outside = side lo hi w (λ a. outside (λ x y. omega arith)) inside (λ a. outside (λ x y. omega arith))

pub from-to-out : (lo hi w : ℕ) → Out lo hi w → from_to lo hi w ≡ false
from-to-out lo hi w o = side lo hi w (from-to-below lo hi w) (λ x y. absurd (o x y)) (from-to-above lo hi w)

pub over-out : (lo hi : ℕ) (g : ℕ → ℕ) (s : List ℕ) (w : ℕ) → Out lo hi w → get_or (over lo hi g s) w 0 ≡ get_or s w 0
over-out lo hi g s w o = side lo hi w (over_below lo hi g s w) (λ x y. absurd (o x y)) (over-above lo hi g s w)

-- ---- the follow sets

module _ (at n : ℕ) (follow : List ℕ) (more : ℕ) (s : List ℕ) (room : n + more ≤ max_positions) where
  abbrev old : ℕ → ℕ
  old = rows_word at n (λ k. empty_set) s

  abbrev kept : List ℕ
  kept = masked_rows at n n s

  abbrev new : ℕ → ℕ
  new w = get_or follow (w - (at + n * 4)) 0

  abbrev pub rows : List ℕ
  rows = follow_put at n follow more s

  length-kept : length kept ≡ length s
  unfolding masked_rows merged_rows
  length-kept = length_over at (at + n * 4) old s

  kept_low : (w : ℕ) → w < at → get_or kept w 0 ≡ get_or s w 0
  unfolding masked_rows merged_rows
  kept_low w h = over_below at (at + n * 4) old s w h

  kept_high : (w : ℕ) → at + n * 4 ≤ w → get_or kept w 0 ≡ get_or s w 0
  unfolding masked_rows merged_rows
  kept_high w h = over-above at (at + n * 4) old s w (omega arith)

  kept_in : at + 1024 ≤ length s → (w : ℕ) → at ≤ w → w < at + n * 4 → get_or kept w 0 ≡ old w
  unfolding masked_rows merged_rows
  kept_in m w h l = over-in at (at + n * 4) old s w h (omega arith) (omega arith)

  pub length-follow : length rows ≡ length s
  unfolding follow_put
  length-follow = length_over (at + n * 4) (at + n * 4 + more * 4) new kept ∙ length-kept

  follow-low : (w : ℕ) → w < at → get_or rows w 0 ≡ get_or s w 0
  unfolding follow_put
  follow-low w h = over_below (at + n * 4) (at + n * 4 + more * 4) new kept w (omega arith) ∙ kept_low w h

  -- rows that no position has stay
  pub follow-high : (w : ℕ) → at + (n + more) * 4 ≤ w → get_or rows w 0 ≡ get_or s w 0
  unfolding follow_put
  follow-high w h = over-above (at + n * 4) (at + n * 4 + more * 4) new kept w (omega arith) ∙ kept_high w (omega arith)

  pub follow_old : at + 1024 ≤ length s → (p i : ℕ) → p < n → i < 4 → get_or rows (at + p * 4 + i) 0 ≡ get_or (set_of (λ q. ltb q n && row_has s (at + p * 4) q)) i 0
  unfolding follow_put rows_word
  follow_old m p i h l =
      let quot : at + (at + p * 4 + i - at) / 4 * 4 ≡ at + p * 4 = omega arith in
      let rest : (at + p * 4 + i - at) % 4 ≡ i = omega arith in
      over_below (at + n * 4) (at + n * 4 + more * 4) new kept (at + p * 4 + i) (omega arith) ∙ kept_in m (at + p * 4 + i) (omega arith) (omega arith)
      ∙ ap₂ (λ (j k : ℕ). get_or (merged_row s j n empty_set) k 0) quot rest
      ∙ ap (λ (r : List ℕ). get_or r i 0) (merged-none s (at + p * 4) n)

  pub follow_new : at + 1024 ≤ length s → (p i : ℕ) → n ≤ p → p < n + more → i < 4 → get_or rows (at + p * 4 + i) 0 ≡ get_or follow ((p - n) * 4 + i) 0
  unfolding follow_put
  follow_new m p i h k l =
      let e : at + p * 4 + i - (at + n * 4) ≡ (p - n) * 4 + i = omega arith in
      over-in (at + n * 4) (at + n * 4 + more * 4) new kept (at + p * 4 + i) (omega arith) (omega arith) (omega (arith, length-kept))
      ∙ ap (λ (j : ℕ). get_or follow j 0) e

  follow-out : (w : ℕ) → Out at (at + 1024) w → get_or rows w 0 ≡ get_or s w 0
  follow-out w o = side at (at + 1024) w (follow-low w) (λ x y. absurd (o x y)) (λ x. follow-high w (omega arith))

-- ---- the sets of a gap

module _ (n : ℕ) where
  -- no set of gap g has word w
  abbrev pub Free : (g w : ℕ) → Type 0
  Free g w = Out (first_at g) (first_at g + 4) w × (g < last_gaps → Out (last_at g) (last_at g + 4) w) × (g < follow_gaps → Out (follow_at g 0) (follow_at g 0 + 1024) w)

  module _ (g : ℕ) (parts : Parts) (room : n + parts.positions ≤ max_positions) (s : List ℕ) where
    abbrev pub with_first : List ℕ
    with_first = merged (first_at g) n parts.first s

    abbrev pub with_last : List ℕ
    with_last = cond (ltb g last_gaps) (merged (last_at g) n parts.last with_first) with_first

    abbrev pub with_follow : List ℕ
    with_follow = follow_put (follow_at g 0) n parts.follow parts.positions with_last

    length-first : length with_first ≡ length s
    unfolding merged
    length-first = length_over (first_at g) (first_at g + 4) (λ w. get_or (merged_row s (first_at g) n parts.first) (w - first_at g) 0) s

    pub length_last : length with_last ≡ length s
    unfolding merged
    length_last =
        under last_gaps g (λ b. length (cond b (merged (last_at g) n parts.last with_first) with_first)) (λ b. length s)
        (λ l. length_over (last_at g) (last_at g + 4) (λ w. get_or (merged_row with_first (last_at g) n parts.last) (w - last_at g) 0) with_first ∙ length-first) length-first

    length-gap : length (gap_put g n parts s) ≡ length s
    unfolding gap_put
    length-gap =
        under follow_gaps g (λ b. length (cond b with_follow with_last)) (λ b. length s)
        (λ l. length-follow (follow_at g 0) n parts.follow parts.positions with_last room ∙ length_last) length_last

    pub first_out : (w : ℕ) → Out (first_at g) (first_at g + 4) w → get_or with_first w 0 ≡ get_or s w 0
    unfolding merged
    first_out w o = over-out (first_at g) (first_at g + 4) (λ w. get_or (merged_row s (first_at g) n parts.first) (w - first_at g) 0) s w o

    pub last_out : (w : ℕ) → (g < last_gaps → Out (last_at g) (last_at g + 4) w) → get_or with_last w 0 ≡ get_or with_first w 0
    unfolding merged
    last_out w o =
        under last_gaps g (λ b. get_or (cond b (merged (last_at g) n parts.last with_first) with_first) w 0) (λ b. get_or with_first w 0)
        (λ l. over-out (last_at g) (last_at g + 4) (λ w. get_or (merged_row with_first (last_at g) n parts.last) (w - last_at g) 0) with_first w (o l)) refl

    rows_out : (w : ℕ) → (g < follow_gaps → Out (follow_at g 0) (follow_at g 0 + 1024) w) → get_or (gap_put g n parts s) w 0 ≡ get_or with_last w 0
    unfolding gap_put
    rows_out w o =
        under follow_gaps g (λ b. get_or (cond b with_follow with_last) w 0) (λ b. get_or with_last w 0)
        (λ l. follow-out (follow_at g 0) n parts.follow parts.positions with_last room w (o l)) refl

    gap-out : (w : ℕ) → Free g w → get_or (gap_put g n parts s) w 0 ≡ get_or s w 0
    gap-out w o = rows_out w o.2 ∙ last_out w o.1 ∙ first_out w o.0

    module _ (long : table_words ≤ length s) (in-range : g < first_gaps) where
      pub gap-first : (i : ℕ) → i < 4 → get_or (gap_put g n parts s) (first_at g + i) 0 ≡ get_or (merged_row s (first_at g) n parts.first) i 0
      unfolding merged
      gap-first i h =
          let e : first_at g + i - first_at g ≡ i = omega arith in
          rows_out (first_at g + i) (λ l x y. omega arith) ∙ last_out (first_at g + i) (λ l x y. omega arith)
          ∙ over-in (first_at g) (first_at g + 4) (λ w. get_or (merged_row s (first_at g) n parts.first) (w - first_at g) 0) s (first_at g + i) (omega arith) (omega arith) (omega arith)
          ∙ ap (λ (j : ℕ). get_or (merged_row s (first_at g) n parts.first) j 0) e

      pub gap-last : g < last_gaps → (i : ℕ) → i < 4 → get_or (gap_put g n parts s) (last_at g + i) 0 ≡ get_or (merged_row s (last_at g) n parts.last) i 0
      unfolding merged
      gap-last low i h =
          let e : last_at g + i - last_at g ≡ i = omega arith in
          rows_out (last_at g + i) (λ l x y. omega arith)
          ∙ ap (λ (b : Bool). get_or (cond b (merged (last_at g) n parts.last with_first) with_first) (last_at g + i) 0) (lt-ltb g last_gaps low)
          ∙ over-in (last_at g) (last_at g + 4) (λ w. get_or (merged_row with_first (last_at g) n parts.last) (w - last_at g) 0) with_first (last_at g + i) (omega arith) (omega arith) (omega (arith, length-first))
          ∙ ap (λ (j : ℕ). get_or (merged_row with_first (last_at g) n parts.last) j 0) e
          ∙ ap (λ (r : List ℕ). get_or r i 0) (merged-same with_first s (last_at g) n parts.last (λ j k. first_out (last_at g + j) (λ x y. omega arith)))

    pub gap-follow : g < follow_gaps → (w : ℕ) → get_or (gap_put g n parts s) w 0 ≡ get_or with_follow w 0
    unfolding gap_put
    gap-follow low w = ap (λ (b : Bool). get_or (cond b with_follow with_last) w 0) (lt-ltb g follow_gaps low)

  -- ---- and of the gaps, one after the other

  module _ (parts : ℕ → Parts) (room : (g : ℕ) → n + (parts g).positions ≤ max_positions) (s : List ℕ) where
    pub length-gaps : (m : ℕ) → length (gaps_put m n parts s) ≡ length s
    unfolding gaps_put
    length-gaps zero = refl
    length-gaps (suc m) = length-gap m (parts m) (room m) (gaps_put m n parts s) ∙ length-gaps m

    -- a word that no gap has stays
    pub gaps-out : (m w : ℕ) → ((g : ℕ) → g < m → Free g w) → get_or (gaps_put m n parts s) w 0 ≡ get_or s w 0
    unfolding gaps_put
    gaps-out zero w o = refl
    gaps-out (suc m) w o = gap-out m (parts m) (room m) (gaps_put m n parts s) w (o m (omega arith)) ∙ gaps-out m w (λ g h. o g (omega arith))

    -- a word that no later gap has is as the gap leaves it
    pub gaps-at : (m g w : ℕ) → g < m → ((h : ℕ) → g < h → h < m → Free h w) → get_or (gaps_put m n parts s) w 0 ≡ get_or (gap_put g n (parts g) (gaps_put g n parts s)) w 0
    unfolding gaps_put
    gaps-at zero g w h later = absurd (not-suc-le-zero h)
    gaps-at (suc m) g w h later = go (dec_lt g m) (λ l. gaps-at m g w l (λ j x y. later j x (omega arith)))
      where
        go : Dec (g < m) → (g < m → get_or (gaps_put m n parts s) w 0 ≡ get_or (gap_put g n (parts g) (gaps_put g n parts s)) w 0)
            → get_or (gap_put m n (parts m) (gaps_put m n parts s)) w 0 ≡ get_or (gap_put g n (parts g) (gaps_put g n parts s)) w 0
        go (yes l) ih = gap-out m (parts m) (room m) (gaps_put m n parts s) w (later m l (omega arith)) ∙ ih l
        go (no l) ih = let e : m ≡ g = omega arith in ap (λ (j : ℕ). get_or (gap_put j n (parts j) (gaps_put j n parts s)) w 0) e
