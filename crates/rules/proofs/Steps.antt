-- One law for each private writer: what a turn of its loop keeps, or what its calls make together.
use mathlib.Core.Path.{◌≡◌, refl, sym, ap, ap₂, ◌∙◌, subst}
use mathlib.Core.Bool.{Bool, true, false, not, ◌&&◌, ◌||◌, and-false, and-true, or-false, not-not}
use mathlib.Core.List.{List, [], ◌∷◌}
use Prim.Native.Nat.{ℕ, ◌+◌, ◌-◌, ◌*◌, ◌/◌, ◌%◌, ◌≤◌, ◌<◌}
use native.Mathlib.Numerals.{add-one}
use native.Mathlib.Decide.{dec_lt}
use native.Mathlib.Omega.{arith}
use lib.Dec.{eqb, ltb}
use lib.ListN.{length, get_or}
use borrow.Author.Tests.{lt-ltb, le-ltb, eq-eqb, ne_eqb}
use Rattle.sets.specs.Set.{has, set_of, empty_set, full_set, inserted, union_of, intersection_of, complement_of, kept_below, is_empty, any, count, as_one}
use Rattle.sets.proofs.Laws.{has-set_of, has-full, has-intersection, set_of-ext, inserted-set_of, union-set_of, intersection-set_of, complement-set_of, any-ext}
use Rattle.table.specs.Layout.{max_positions, leftmosts_at, keepers_at, first_at, id_at, last_at, lates_at, follow_at, takers_at, row_has, from_to, lengths_at, lengths_of}
use Rattle.table.specs.Gaps.{last_gaps, follow_gaps, inner_gaps, unsettled}
use Rattle.table.proofs.Over.{from-to-in, from-to-below, from-to-above, over, over-ext, Written, written_none, written-above, written-block, written_all}
use Rattle.table.specs.Invariants.{copied, moved_up}
use Rattle.automaton.specs.declared.Parts.{Parts}
use Rattle.rules.specs.Words.{digits_with, lengths_with, lengths_put}
use Rattle.rules.specs.Invariants.{merged, merged_row, rows_word, merged_rows, smaller, number_put, digits_put, owners_put, new_keepers, keepers_put, place_put, new_takers, follow_put, gap_put, gaps_put, inner_rows, late_set, lates_put, opener_of}
use Rattle.rules.proofs.Rows.{merged-words, merged-same}

-- ---- one row

pub merge-is : (t s old kept all new : List ℕ) (at n : ℕ) → old ≡ set_of (row_has t at) → kept ≡ kept_below old n → all ≡ union_of kept new → s ≡ copied at 4 all t
    → s ≡ merged at n new t
unfolding merged
merge-is t s old kept all new at n a b c d =
    let words : all ≡ merged_row t at n new = c ∙ ap (λ (l : List ℕ). union_of l new) (b ∙ ap (λ (l : List ℕ). kept_below l n) a) ∙ merged-words t at n new in
    d ∙ ap (λ (l : List ℕ). over at (at + 4) (λ w. get_or l (w - at) 0) t) words

-- ---- rows, one after the other

pub rows_none : (at n : ℕ) (new : ℕ → List ℕ) (t : List ℕ) → Written at (at + 0 * 4) (rows_word at n new t) t t
rows_none at n new t = written_none (omega arith)

pub rows-turn : (at k n : ℕ) (new : ℕ → List ℕ) (t s s' : List ℕ) → Written at (at + k * 4) (rows_word at n new t) t s → s' ≡ merged (at + k * 4) n (new k) s
    → Written at (at + (k + 1) * 4) (rows_word at n new t) t s'
unfolding merged rows_word
rows-turn at k n new t s s' r e =
    let end : at + k * 4 + 4 ≡ at + (k + 1) * 4 = omega arith in
    subst (λ (l : List ℕ). Written at (at + (k + 1) * 4) (rows_word at n new t) t l) (sym e)
    (subst (λ (h : ℕ). Written at h (rows_word at n new t) t (over (at + k * 4) (at + k * 4 + 4) (λ w. get_or (merged_row s (at + k * 4) n (new k)) (w - (at + k * 4)) 0) s)) end
    (written-block r (omega arith) (omega arith) same))
  where
    row : merged_row s (at + k * 4) n (new k) ≡ merged_row t (at + k * 4) n (new k)
    row = merged-same s t (at + k * 4) n (new k) (λ i h. written-above r (at + k * 4 + i) (omega arith))

    same : (w : ℕ) → at + k * 4 ≤ w → w < at + k * 4 + 4 → w < length t → get_or (merged_row s (at + k * 4) n (new k)) (w - (at + k * 4)) 0 ≡ rows_word at n new t w
    same w x y l =
        let quot : k ≡ (w - at) / 4 = omega arith in
        let rest : w - (at + k * 4) ≡ (w - at) % 4 = omega arith in
        ap₂ (λ (m : List ℕ) (i : ℕ). get_or m i 0) (row ∙ ap (λ (j : ℕ). merged_row t (at + j * 4) n (new j)) quot) rest

pub rows_whole : (at rows k n : ℕ) (new : ℕ → List ℕ) (t s : List ℕ) → Written at (at + k * 4) (rows_word at n new t) t s → k ≡ rows → s ≡ merged_rows at rows n new t
unfolding merged_rows
rows_whole at rows k n new t s r e = written_all r (ap (λ (j : ℕ). at + j * 4) e)

-- ---- the new positions that take a byte

module _ (takes : List ℕ) (n x : ℕ) where
  abbrev taker : ℕ → ℕ → Bool
  taker i q = from_to n (n + i) q && row_has takes ((q - n) * 4) x

  pub takers-none : empty_set ≡ new_takers takes n 0 x
  unfolding empty_set new_takers
  takers-none = set_of-ext (λ q. false) (taker 0) (λ q h. sym (ap (λ (b : Bool). b && row_has takes ((q - n) * 4) x) (none q (dec_lt q n))))
    where
      none : (q : ℕ) → Dec (q < n) → from_to n (n + 0) q ≡ false
      none q (yes h) = from-to-below n (n + 0) q h
      none q (no h) = from-to-above n (n + 0) q (omega arith)

  -- one position more
  step : (i : ℕ) (b : Bool) → row_has takes (i * 4) x ≡ b → (q : ℕ) → (taker i q || (b && eqb q (n + i))) ≡ taker (i + 1) q
  step i b e q = go (dec_lt q n) (dec_lt q (n + i)) (dec_lt q (n + (i + 1)))
    where
      h : Bool
      h = row_has takes ((q - n) * 4) x

      other : (q ≡ n + i → ⊥) → (taker i q || (b && eqb q (n + i))) ≡ taker i q
      other ne = ap (λ (y : Bool). taker i q || (b && y)) (ne_eqb q (n + i) ne) ∙ ap (λ (y : Bool). taker i q || y) (and-false b) ∙ or-false (taker i q)

      go : Dec (q < n) → Dec (q < n + i) → Dec (q < n + (i + 1)) → (taker i q || (b && eqb q (n + i))) ≡ taker (i + 1) q
      go (yes p) r s = other (λ z. omega arith) ∙ ap (λ (y : Bool). y && h) (from-to-below n (n + i) q p ∙ sym (from-to-below n (n + (i + 1)) q p))
      go (no p) (yes r) s =
          other (λ z. omega arith) ∙ ap (λ (y : Bool). y && h) (from-to-in n (n + i) q (omega arith) r ∙ sym (from-to-in n (n + (i + 1)) q (omega arith) (omega arith)))
      go (no p) (no r) (yes s) =
          let z : q ≡ n + i = omega arith in
          let z' : q - n ≡ i = omega arith in
          ap₂ (λ (y w : Bool). (y && h) || (b && w)) (from-to-above n (n + i) q (omega arith)) (eq-eqb q (n + i) z)
          ∙ and-true b ∙ sym e ∙ ap (λ (k : ℕ). row_has takes (k * 4) x) (sym z')
          ∙ ap (λ (y : Bool). y && h) (sym (from-to-in n (n + (i + 1)) q (omega arith) s))
      go (no p) (no r) (no s) =
          other (λ z. omega arith) ∙ ap (λ (y : Bool). y && h) (from-to-above n (n + i) q (omega arith) ∙ sym (from-to-above n (n + (i + 1)) q (omega arith)))

  pub takers-hit : (i : ℕ) → row_has takes (i * 4) x ≡ true → inserted (new_takers takes n i x) (n + i) ≡ new_takers takes n (i + 1) x
  unfolding new_takers
  takers-hit i e = inserted-set_of (taker i) (n + i) ∙ set_of-ext (λ q. taker i q || eqb q (n + i)) (taker (i + 1)) (λ q h. step i true e q)

  pub takers-miss : (i : ℕ) → row_has takes (i * 4) x ≡ false → new_takers takes n i x ≡ new_takers takes n (i + 1) x
  unfolding new_takers
  takers-miss i e = set_of-ext (taker i) (taker (i + 1)) (λ q h. sym (or-false (taker i q)) ∙ step i false e q)

-- ---- a rule in its place

pub number_is : (at rules k new : ℕ) (t s1 s2 : List ℕ) → s1 ≡ moved_up (at + k) (rules - k) t → s2 ≡ copied (at + k) 1 (new ∷ []) s1 → s2 ≡ number_put at rules k new t
unfolding number_put
number_is at rules k new t s1 s2 a b = b ∙ ap (copied (at + k) 1 (new ∷ [])) a

pub digits-is : (at k : ℕ) (new : Bool) (word : ℕ) (t s : List ℕ) → word ≡ digits_with k new (get_or t at 0) → s ≡ copied at 1 (word ∷ []) t → s ≡ digits_put at k new t
unfolding digits_put
digits-is at k new word t s a b = b ∙ ap (λ (x : ℕ). copied at 1 (x ∷ []) t) a

pub lengths-is : (shortest word : ℕ) (t s : List ℕ) → word ≡ lengths_with shortest (lengths_of t) → s ≡ copied lengths_at 1 (word ∷ []) t → s ≡ lengths_put shortest t
unfolding lengths_put
lengths-is shortest word t s a b =
    b ∙ over-ext lengths_at (lengths_at + 1) (λ w. get_or (word ∷ []) (w - lengths_at) 0) (λ w. lengths_with shortest (lengths_of t)) t
    (λ w x y l. let e : w - lengths_at ≡ 0 = omega arith in ap (λ (j : ℕ). get_or (word ∷ []) j 0) e ∙ a)

-- the positions from n on: below n + more, and not below n
pub keepers-new : (n more : ℕ) (all old rest : List ℕ) → all ≡ kept_below full_set (n + more) → old ≡ kept_below full_set n → rest ≡ complement_of old
    → intersection_of all rest ≡ new_keepers n more true
unfolding new_keepers kept_below
keepers-new n more all old rest a b c =
    ap₂ intersection_of (a ∙ under (n + more)) (c ∙ ap complement_of (b ∙ under n) ∙ complement-set_of (λ q. ltb q n))
    ∙ intersection-set_of (λ q. ltb q (n + more)) (λ q. not (ltb q n))
    ∙ set_of-ext (λ q. ltb q (n + more) && not (ltb q n)) (λ q. true && from_to n (n + more) q) (λ q h. go q (dec_lt q n) (dec_lt q (n + more)))
  where
    under : (m : ℕ) → set_of (λ q. has full_set q && ltb q m) ≡ set_of (λ q. ltb q m)
    under m = set_of-ext (λ q. has full_set q && ltb q m) (λ q. ltb q m) (λ q h. ap (λ (b : Bool). b && ltb q m) (has-full q h))

    go : (q : ℕ) → Dec (q < n) → Dec (q < n + more) → (ltb q (n + more) && not (ltb q n)) ≡ from_to n (n + more) q
    go q (yes l) d = ap (λ (b : Bool). ltb q (n + more) && not b) (lt-ltb q n l) ∙ and-false (ltb q (n + more)) ∙ sym (from-to-below n (n + more) q l)
    go q (no l) (yes m) = ap₂ (λ (b c : Bool). b && not c) (lt-ltb q (n + more) m) (le-ltb q n (omega arith)) ∙ sym (from-to-in n (n + more) q (omega arith) m)
    go q (no l) (no m) = ap (λ (b : Bool). b && not (ltb q n)) (le-ltb q (n + more) (omega arith)) ∙ sym (from-to-above n (n + more) q (omega arith))

pub keepers-none : (n more : ℕ) → empty_set ≡ new_keepers n more false
unfolding empty_set new_keepers
keepers-none n more = refl

pub keepers-is : (n more : ℕ) (keeping : Bool) (new t s : List ℕ) → new ≡ new_keepers n more keeping → s ≡ merged keepers_at n new t → s ≡ keepers_put n more keeping t
unfolding keepers_put
keepers-is n more keeping new t s a b = b ∙ ap (λ (l : List ℕ). merged keepers_at n l t) a

pub place_is : (rules n more id k : ℕ) (single leftmost keeping : Bool) (t s1 s2 s3 s4 s5 : List ℕ) → k ≡ count rules (smaller t id) → s1 ≡ number_put (id_at 0) rules k id t
    → s2 ≡ digits_put 3 k single s1 → s3 ≡ digits_put leftmosts_at k leftmost s2 → s4 ≡ owners_put n more k s3 → s5 ≡ keepers_put n more keeping s4
    → s5 ≡ place_put rules n more id single leftmost keeping t
unfolding place_put
place_is rules n more id k single leftmost keeping t s1 s2 s3 s4 s5 place a b c d e =
    e ∙ ap (keepers_put n more keeping) (d ∙ ap (owners_put n more k) (c ∙ ap (digits_put leftmosts_at k leftmost) (b ∙ ap (digits_put 3 k single) a))
    ∙ ap (λ (j : ℕ). owners_put n more j (digits_put leftmosts_at j leftmost (digits_put 3 j single (number_put (id_at 0) rules j id t)))) place)

-- ---- the sets of the gaps between two bytes

module _ (t : List ℕ) (at : ℕ) where
  -- what the sets of the first n gaps have
  abbrev pub rows_below : ℕ → List ℕ
  rows_below n = set_of (λ q. any n (λ g. row_has t (at + g * 4) q))

  pub rows-below-none : empty_set ≡ rows_below 0
  unfolding empty_set any
  rows-below-none = refl

  pub rows-below-more : (g : ℕ) → union_of (rows_below g) (set_of (row_has t (at + g * 4))) ≡ rows_below (g + 1)
  unfolding any
  rows-below-more g = union-set_of (λ q. any g (λ h. row_has t (at + h * 4) q)) (row_has t (at + g * 4)) ∙ ap rows_below (sym (add-one g))

  pub rows-below-all : (s : List ℕ) (g : ℕ) → s ≡ rows_below g → g ≡ inner_gaps → s ≡ inner_rows t at
  unfolding inner_rows
  rows-below-all s g e h = e ∙ ap rows_below h

-- only the rows that are read count
pub inner-same : (s t : List ℕ) (at : ℕ) → ((g q : ℕ) → g < inner_gaps → row_has s (at + g * 4) q ≡ row_has t (at + g * 4) q) → inner_rows s at ≡ inner_rows t at
unfolding inner_rows
inner-same s t at b = set_of-ext _ _ (λ q h. any-ext inner_gaps _ _ (λ g l. b g q l))

-- ---- the positions that wait for the next byte

pub lates-is : (t some settled rest late s : List ℕ) → some ≡ inner_rows t (last_at 0) → settled ≡ set_of (row_has t (last_at unsettled)) → rest ≡ complement_of settled
    → late ≡ intersection_of some rest → s ≡ copied lates_at 4 late t → s ≡ lates_put t
unfolding lates_put late_set inner_rows
lates-is t some settled rest late s a b c d e =
    e ∙ ap (λ (l : List ℕ). copied lates_at 4 l t)
    (d ∙ ap₂ intersection_of a (c ∙ ap complement_of b ∙ complement-set_of (row_has t (last_at unsettled)))
    ∙ intersection-set_of (λ q. any inner_gaps (λ g. row_has t (last_at g) q)) (λ q. not (row_has t (last_at unsettled) q)))

-- ---- the openers

-- whether a set meets the first sets of the gaps between two bytes
module _ (t takers first met : List ℕ) (x : ℕ) (a : takers ≡ set_of (row_has t (takers_at x))) (b : first ≡ inner_rows t (first_at 0)) (c : met ≡ intersection_of takers first) where
  meeting : any max_positions (has met) ≡ any max_positions (λ q. row_has t (takers_at x) q && any inner_gaps (λ g. row_has t (first_at g) q))
  unfolding inner_rows
  meeting =
      any-ext max_positions (has met) (λ q. row_has t (takers_at x) q && any inner_gaps (λ g. row_has t (first_at g) q))
      (λ q h. ap (λ (s : List ℕ). has s q) (c ∙ ap₂ intersection_of a b) ∙ has-intersection (set_of (row_has t (takers_at x))) (set_of (λ q. any inner_gaps (λ g. row_has t (first_at g) q))) q h
      ∙ ap₂ (λ (y z : Bool). y && z) (has-set_of (row_has t (takers_at x)) q h) (has-set_of (λ q. any inner_gaps (λ g. row_has t (first_at g) q)) q h))

  pub opener-is : (e : Bool) → is_empty met ≡ e → as_one (not e) ≡ opener_of t x
  unfolding opener_of is_empty
  opener-is e h = ap as_one (ap not (sym h) ∙ not-not (any max_positions (has met)) ∙ meeting)

-- only the rows that are read count
pub opener-same : (s t : List ℕ) (x : ℕ) → ((q : ℕ) → row_has s (takers_at x) q ≡ row_has t (takers_at x) q) → ((g q : ℕ) → g < inner_gaps → row_has s (first_at g) q ≡ row_has t (first_at g) q) → opener_of s x ≡ opener_of t x
unfolding opener_of
opener-same s t x a b =
    ap as_one (any-ext max_positions _ _ (λ q h. ap₂ (λ (y z : Bool). y && z) (a q) (any-ext inner_gaps _ _ (λ g l. b g q l))))

-- ---- the sets of a gap

module _ (g n : ℕ) (parts : Parts) (t s1 : List ℕ) (a : s1 ≡ merged (first_at g) n parts.first t) where
  -- a match can start at it alone
  pub gap-start : last_gaps ≤ g → s1 ≡ gap_put g n parts t
  unfolding gap_put
  gap-start h = rw (le-ltb g last_gaps h, le-ltb g follow_gaps (omega arith)) a

  module _ (s2 : List ℕ) (b : s2 ≡ merged (last_at g) n parts.last s1) where
    -- or end at it
    pub gap-end : g < last_gaps → follow_gaps ≤ g → s2 ≡ gap_put g n parts t
    unfolding gap_put
    gap-end l h = rw (lt-ltb g last_gaps l, le-ltb g follow_gaps h) (b ∙ ap (merged (last_at g) n parts.last) a)

    -- or go on
    pub gap-inside : g < follow_gaps → (s3 : List ℕ) → s3 ≡ follow_put (follow_at g 0) n parts.follow parts.positions s2 → s3 ≡ gap_put g n parts t
    unfolding gap_put
    gap-inside l s3 c =
        rw (lt-ltb g last_gaps (omega arith), lt-ltb g follow_gaps l)
        (c ∙ ap (follow_put (follow_at g 0) n parts.follow parts.positions) (b ∙ ap (merged (last_at g) n parts.last) a))

pub gaps-none : (n : ℕ) (parts : ℕ → Parts) (t : List ℕ) → t ≡ gaps_put 0 n parts t
unfolding gaps_put
gaps-none n parts t = refl

pub gaps-turn : (g n : ℕ) (parts : ℕ → Parts) (p : Parts) (t s s' : List ℕ) → s ≡ gaps_put g n parts t → p ≡ parts g → s' ≡ gap_put g n p s → s' ≡ gaps_put (g + 1) n parts t
unfolding gaps_put
gaps-turn g n parts p t s s' a b c = c ∙ ap₂ (gap_put g n) b a ∙ ap (λ (m : ℕ). gaps_put m n parts t) (sym (add-one g))
