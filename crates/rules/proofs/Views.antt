-- The automaton of the table with one rule more, field by field, for any words with room for the
-- rule: what the old positions had among themselves is kept, and the new rule's sets come from its
-- parts, at each gap from the parts there. Each set is read from its four words in their region.
use mathlib.Core.Path.{◌≡◌, refl, sym, ap, ap₂, ◌∙◌, subst}
use mathlib.Core.Bool.{Bool, true, false, cond, not, ◌&&◌, ◌||◌}
use mathlib.Core.List.{List}
use mathlib.Core.Logic.{◌⊎◌, inl, inr}
use Prim.Native.Nat.{ℕ, ◌+◌, ◌-◌, ◌*◌, ◌≤◌, ◌<◌}
use native.Mathlib.Decide.{dec_lt}
use native.Mathlib.Omega.{arith}
use lib.Dec.{eqb, ltb}
use lib.ListN.{length, get_or}
use borrow.Author.Tests.{lt-ltb, le-ltb, eq-eqb, ne_eqb}
use Rattle.sets.specs.Set.{on, has, any, as_one}
use Rattle.sets.proofs.Bits.{on-word_of}
use Rattle.sets.proofs.Laws.{any-ext}
use Rattle.table.specs.Layout.{leftmosts_at, windowed_at, lowest_at, highest_at, lengths_at, lengths_of, shortest_at, table_words, max_rules, max_positions, bytes, rules_of, positions_of, singles_of, leftmosts_of, keepers_at, first_at, id_word, owner_at, last_at, follow_at, takers_at, row_has, from_to, lates_at}
use Rattle.table.specs.Gaps.{first_gaps, last_gaps, follow_gaps, inner_gaps, unsettled}
use Rattle.table.specs.Automaton.{Automaton, automaton}
use Rattle.table.proofs.Lates.{LatesAre}
use Rattle.table.proofs.Local.{with_windows}
use Rattle.table.proofs.Rows.{row_same, under}
use Rattle.meaning.specs.Rule.{Windows}
use Rattle.automaton.specs.declared.Parts.{Parts}
use Rattle.rules.specs.Words.{old_row, joined_row, place_of, raised, digits_with, is_single, is_leftmost, singles_word, leftmosts_word, new_keeper, keeper_words, owner_with, owner_words, last_words, late_words, opener, first_words, follow_words, new_taker, takers_words, needs_start, lengths_with, with_window, added, added_in}
use Rattle.rules.proofs.Rows.{row-set}
use Rattle.rules.proofs.Place.{place-le}
use Rattle.rules.proofs.Regions.{added-window, added-rules, added-positions, added-singles, added-leftmosts, added-keeper, added-last, added-late, added-first, added-opener, added-owner, added-follow, added-takers}
use Rattle.rules.proofs.Kept.{id-before, id_there, id-after}
use Rattle.rules.proofs.Windows.{put_in, inside_of, length-window, window-rules, window-positions, window-place, window-automaton, window-in, window-lengths, window-shortest}

-- v is the automaton w with one rule more, in place k
pub record Extended (w v : Automaton) (k id flags : ℕ) (keeping : Bool) (parts : ℕ → Parts) : Type 0 where
  pub rules : v.rules ≡ w.rules + 1
  pub positions : v.positions ≡ w.positions + (parts 0).positions
  pub id_in : (a : ℕ) → a ≤ w.rules → v.id a ≡ put_in k id w.id a
  pub few : w.rules < max_rules
  pub once_in : (a : ℕ) → a ≤ w.rules → v.once a ≡ put_in k (is_single flags) w.once a
  pub leftmost_in : (a : ℕ) → a ≤ w.rules → v.leftmost a ≡ put_in k (is_leftmost flags) w.leftmost a
  pub keeps_in : (q : ℕ) → q < max_positions → v.keeps q
      ≡ ((ltb q w.positions && w.keeps q) || (keeping && from_to w.positions (w.positions + (parts 0).positions) q))
  pub opens : (x : ℕ) → x < bytes → v.opens x ≡ any max_positions (λ q. v.takes x q && any inner_gaps (λ g. v.first g q))
  pub takes : (x q : ℕ) → x < bytes → q < max_positions → v.takes x q
      ≡ ((ltb q w.positions && w.takes x q)
      || (from_to w.positions (w.positions + (parts 0).positions) q && row_has (parts 0).takes ((q - w.positions) * 4) x))
  -- at each gap
  pub first : (g q : ℕ) → g < first_gaps → q < max_positions → v.first g q ≡ ((ltb q w.positions && w.first g q) || has (parts g).first q)
  pub follow_old : (g p q : ℕ) → g < follow_gaps → p < w.positions → q < max_positions → v.follow g p q ≡ (ltb q w.positions && w.follow g p q)
  pub follow_new : (g i q : ℕ) → g < follow_gaps → i < (parts 0).positions → q < max_positions → v.follow g (w.positions + i) q ≡ row_has (parts g).follow (i * 4) q
  pub follow_rest : (g p q : ℕ) → w.positions + (parts 0).positions ≤ p → v.follow g p q ≡ w.follow g p q
  pub ending : (g q : ℕ) → g < last_gaps → q < max_positions → v.ending g q ≡ ((ltb q w.positions && w.ending g q) || has (parts g).last q)
  pub lates : LatesAre v
  -- a position's rule is the one that it was, or the new one
  pub owner_old : (q : ℕ) → q < w.positions → v.owner q ≡ raised k (w.owner q)
  pub owner_new : (q : ℕ) → w.positions ≤ q → q < w.positions + (parts 0).positions → v.owner q ≡ k

module _ (t : List ℕ) (id flags : ℕ) (keeping : Bool) (parts : ℕ → Parts) (long : table_words ≤ length t) (few : rules_of t < max_rules) (room : positions_of t + (parts 0).positions ≤ max_positions) where
  abbrev u : List ℕ
  u = added t id flags keeping parts

  abbrev w : Automaton
  w = automaton t

  abbrev v : Automaton
  v = automaton u

  abbrev n : ℕ
  n = positions_of t

  abbrev k : ℕ
  k = place_of t id

  k-le : k ≤ rules_of t
  k-le = place-le t id

  -- ---- the rules

  id_in : (a : ℕ) → a ≤ rules_of t → cond (ltb a max_rules) (id_word u a) 0 ≡ put_in k id (λ b. cond (ltb b max_rules) (id_word t b) 0) a
  id_in a h = ap (λ (b : Bool). cond b (id_word u a) 0) (lt-ltb a max_rules (omega arith)) ∙ go (dec_lt a k) (dec_lt k a)
    where
      old : (b : ℕ) → b < max_rules → id_word t b ≡ cond (ltb b max_rules) (id_word t b) 0
      old b m = sym (ap (λ (c : Bool). cond c (id_word t b) 0) (lt-ltb b max_rules m))

      go : Dec (a < k) → Dec (k < a) → id_word u a ≡ put_in k id (λ b. cond (ltb b max_rules) (id_word t b) 0) a
      go (yes y) z = rw (lt-ltb a k y) (id-before t id flags keeping parts long few a y ∙ old a (omega arith))
      go (no y) (no z) =
          let same : a ≡ k = omega arith in
          rw (le-ltb a k (omega arith), eq-eqb a k same) (ap (id_word u) same ∙ id_there t id flags keeping parts long few)
      go (no y) (yes z) = rw (le-ltb a k (omega arith), ne_eqb a k (λ m. omega arith)) (id-after t id flags keeping parts long few a z h ∙ old (a - 1) (omega arith))

  -- the digit of place a, once one is put in
  digit-in : (new : Bool) (old a : ℕ) → a ≤ rules_of t → on (digits_with k new old) a ≡ put_in k new (on old) a
  unfolding digits_with
  digit-in new old a h = on-word_of 64 (λ a. cond (ltb a k) (on old a) (cond (eqb a k) new (on old (a - 1)))) a (omega arith)

  once_in : (a : ℕ) → a ≤ rules_of t → v.once a ≡ put_in k (is_single flags) w.once a
  unfolding automaton singles_word
  once_in a h = ap (λ (x : ℕ). on x a) (added-singles t id flags keeping parts long) ∙ digit-in (is_single flags) (singles_of t) a h

  leftmost_in : (a : ℕ) → a ≤ rules_of t → v.leftmost a ≡ put_in k (is_leftmost flags) w.leftmost a
  unfolding automaton leftmosts_word
  leftmost_in a h = ap (λ (x : ℕ). on x a) (added-leftmosts t id flags keeping parts long) ∙ digit-in (is_leftmost flags) (leftmosts_of t) a h

  keeps_in : (q : ℕ) → q < max_positions → v.keeps q ≡ ((ltb q n && w.keeps q) || (keeping && from_to n (n + (parts 0).positions) q))
  unfolding automaton keeper_words new_keeper old_row
  keeps_in q l = row-set u keepers_at (λ q. old_row t keepers_at q || new_keeper t id flags keeping parts q) (λ i m. added-keeper t id flags keeping parts long i m) q l

  -- ---- the sets of last positions, and the owners

  last_row : (g q : ℕ) → g < last_gaps → q < max_positions → v.ending g q ≡ (old_row t (last_at g) q || has (parts g).last q)
  unfolding automaton last_words joined_row
  last_row g q h l =
      ap (λ (b : Bool). b && row_has u (last_at g) q) (lt-ltb g last_gaps h)
      ∙ row-set u (last_at g) (λ q. old_row t (last_at g) q || has (parts g).last q) (λ i m. added-last t id flags keeping parts long g i h m) q l

  ending-in : (g q : ℕ) → g < last_gaps → q < max_positions → v.ending g q ≡ ((ltb q n && w.ending g q) || has (parts g).last q)
  unfolding automaton old_row
  ending-in g q h l =
      last_row g q h l
      ∙ ap (λ (b : Bool). (ltb q n && (b && row_has t (last_at g) q)) || has (parts g).last q) (sym (lt-ltb g last_gaps h))

  late-in : LatesAre v
  unfolding automaton late_words
  late-in q l =
      row-set u lates_at
      (λ q. any inner_gaps (λ g. old_row t (last_at g) q || has (parts g).last q) && not (old_row t (last_at unsettled) q || has (parts unsettled).last q))
      (λ i m. added-late t id flags keeping parts long i m) q l
      ∙ sym (ap₂ (λ (b c : Bool). b && not c) (any-ext inner_gaps _ _ (λ g m. last_row g q (omega arith) l)) (last_row unsettled q (omega arith) l))

  owner_at_lem : (s : List ℕ) (q : ℕ) → q < max_positions → cond (ltb q max_positions) (get_or s (owner_at q) 0) 0 ≡ get_or s (owner_at q) 0
  owner_at_lem s q h = ap (λ (b : Bool). cond b (get_or s (owner_at q) 0) 0) (lt-ltb q max_positions h)

  old-owner : (q : ℕ) → q < n → v.owner q ≡ raised k (w.owner q)
  unfolding automaton owner_words owner_with
  old-owner q h =
      owner_at_lem u q (omega arith) ∙ added-owner t id flags keeping parts long q (omega arith)
      ∙ rw (lt-ltb q n h) (ap (raised k) (sym (owner_at_lem t q (omega arith))))

  new-owner : (q : ℕ) → n ≤ q → q < n + (parts 0).positions → v.owner q ≡ k
  unfolding automaton owner_words owner_with
  new-owner q h l =
      owner_at_lem u q (omega arith) ∙ added-owner t id flags keeping parts long q (omega arith) ∙ rw (le-ltb q n h, lt-ltb q (n + (parts 0).positions) l)

  -- ---- the sets of first positions

  first-in : (g q : ℕ) → g < first_gaps → q < max_positions → v.first g q ≡ ((ltb q n && w.first g q) || has (parts g).first q)
  unfolding automaton first_words joined_row old_row
  first-in g q h l =
      ap (λ (b : Bool). b && row_has u (first_at g) q) (lt-ltb g first_gaps h)
      ∙ row-set u (first_at g) (λ q. old_row t (first_at g) q || has (parts g).first q) (λ i m. added-first t id flags keeping parts long g i h m) q l
      ∙ ap (λ (b : Bool). (ltb q n && (b && row_has t (first_at g) q)) || has (parts g).first q) (sym (lt-ltb g first_gaps h))

  -- ---- the follow sets

  follow-at : (s : List ℕ) (g p q : ℕ) → g < follow_gaps → p < max_positions → (ltb g follow_gaps && (ltb p max_positions && row_has s (follow_at g p) q)) ≡ row_has s (follow_at g p) q
  follow-at s g p q h l = ap₂ (λ (x y : Bool). x && (y && row_has s (follow_at g p) q)) (lt-ltb g follow_gaps h) (lt-ltb p max_positions l)

  old-follow : (g p q : ℕ) → g < follow_gaps → p < n → q < max_positions → v.follow g p q ≡ (ltb q n && w.follow g p q)
  unfolding automaton follow_words old_row
  old-follow g p q m h l =
      follow-at u g p q m (omega arith)
      ∙ row-set u (follow_at g p) (old_row t (follow_at g p)) (λ i j. added-follow t id flags keeping parts long g p i m (omega arith) j ∙ rw (lt-ltb p n h)) q l
      ∙ ap (λ (b : Bool). ltb q n && b) (sym (follow-at t g p q m (omega arith)))

  new-follow : (g i q : ℕ) → g < follow_gaps → i < (parts 0).positions → q < max_positions → v.follow g (n + i) q ≡ row_has (parts g).follow (i * 4) q
  unfolding automaton follow_words
  new-follow g i q m h l =
      follow-at u g (n + i) q m (omega arith)
      ∙ row_same u (parts g).follow (follow_at g (n + i)) (i * 4)
      (λ j x.
      let e : (n + i - n) * 4 + j ≡ i * 4 + j = omega arith in
      added-follow t id flags keeping parts long g (n + i) j m (omega arith) x
      ∙ rw (le-ltb (n + i) n (omega arith), lt-ltb (n + i) (n + (parts 0).positions) (omega arith)) (ap (λ (y : ℕ). get_or (parts g).follow y 0) e)) q

  rest-follow : (g p q : ℕ) → n + (parts 0).positions ≤ p → v.follow g p q ≡ w.follow g p q
  unfolding automaton follow_words
  rest-follow g p q h =
      under follow_gaps g (λ b. b && (ltb p max_positions && row_has u (follow_at g p) q)) (λ b. b && (ltb p max_positions && row_has t (follow_at g p) q))
      (λ m. under max_positions p (λ b. b && row_has u (follow_at g p) q) (λ b. b && row_has t (follow_at g p) q)
      (λ l. row_same u t (follow_at g p) (follow_at g p)
      (λ i j. added-follow t id flags keeping parts long g p i m l j ∙ rw (le-ltb p n (omega arith), le-ltb p (n + (parts 0).positions) h)) q)
      refl)
      refl

  -- ---- the takers

  takes-in : (x q : ℕ) → x < bytes → q < max_positions → v.takes x q
      ≡ ((ltb q n && w.takes x q) || (from_to n (n + (parts 0).positions) q && row_has (parts 0).takes ((q - n) * 4) x))
  unfolding automaton takers_words new_taker old_row
  takes-in x q h l =
      ap (λ (b : Bool). b && row_has u (takers_at x) q) (lt-ltb x bytes h)
      ∙ row-set u (takers_at x) (λ q. old_row t (takers_at x) q || new_taker t id flags keeping parts x q) (λ i m. added-takers t id flags keeping parts long x i h m) q l
      ∙ ap (λ (b : Bool). (ltb q n && (b && row_has t (takers_at x) q)) || new_taker t id flags keeping parts x q) (sym (lt-ltb x bytes h))

  -- ---- the openers

  one_not_zero : (b : Bool) → not (eqb (as_one b) 0) ≡ b
  one_not_zero true = refl
  one_not_zero false = refl

  opens_in : (x : ℕ) → x < bytes → v.opens x ≡ any max_positions (λ q. v.takes x q && any inner_gaps (λ g. v.first g q))
  unfolding automaton opener first_words joined_row takers_words
  opens_in x h =
      ap₂ (λ (b : Bool) (y : ℕ). b && not (eqb y 0)) (lt-ltb x bytes h) (added-opener t id flags keeping parts long x h)
      ∙ one_not_zero (any max_positions (λ q. (old_row t (takers_at x) q || new_taker t id flags keeping parts x q) && any inner_gaps (λ g. old_row t (first_at g) q || has (parts g).first q)))
      ∙ any-ext max_positions _ _ (λ q l. ap₂ (λ (b c : Bool). b && c)
      (sym (ap (λ (b : Bool). b && row_has u (takers_at x) q) (lt-ltb x bytes h)
      ∙ row-set u (takers_at x) (λ q. old_row t (takers_at x) q || new_taker t id flags keeping parts x q) (λ i m. added-takers t id flags keeping parts long x i h m) q l))
      (any-ext inner_gaps _ _ (λ g m.
      sym (ap (λ (b : Bool). b && row_has u (first_at g) q) (lt-ltb g first_gaps (omega arith))
      ∙ row-set u (first_at g) (λ q. old_row t (first_at g) q || has (parts g).first q) (λ i k. added-first t id flags keeping parts long g i (omega arith) k) q l))))

  -- ---- all of it

  pub extended : Extended (automaton t) (automaton (added t id flags keeping parts)) (place_of t id) id flags keeping parts
  unfolding automaton
  extended =
      record {
        rules = added-rules t id flags keeping parts long;
        positions = added-positions t id flags keeping parts long;
        id_in = id_in;
        few = few;
        once_in = once_in;
        leftmost_in = leftmost_in;
        keeps_in = keeps_in;
        opens = opens_in;
        takes = takes-in;
        first = first-in;
        follow_old = old-follow;
        follow_new = new-follow;
        follow_rest = rest-follow;
        ending = ending-in;
        lates = late-in;
        owner_old = old-owner;
        owner_new = new-owner;
      }

-- ---- with windows

-- windows aside, it does not matter which the old automaton has
other-windows : {w v : Automaton} {k id flags : ℕ} {keeping : Bool} {parts : ℕ → Parts} (i : ℕ → ℕ → Bool) (l : ℕ → ℕ → ℕ → Bool)
    → Extended (with_windows w i l) v k id flags keeping parts → Extended w v k id flags keeping parts
other-windows i l e =
    record {
      rules = e.rules;
      positions = e.positions;
      id_in = e.id_in;
      few = e.few;
      once_in = e.once_in;
      leftmost_in = e.leftmost_in;
      keeps_in = e.keeps_in;
      opens = e.opens;
      takes = e.takes;
      first = e.first;
      follow_old = e.follow_old;
      follow_new = e.follow_new;
      follow_rest = e.follow_rest;
      ending = e.ending;
      lates = e.lates;
      owner_old = e.owner_old;
      owner_new = e.owner_new;
    }

module _ (t : List ℕ) (id flags : ℕ) (v : Windows) (parts : ℕ → Parts) (long : table_words ≤ length t) (few : rules_of t < max_rules) (room : positions_of t + (parts 0).positions ≤ max_positions) where
  abbrev s : List ℕ
  s = with_window t id v

  abbrev r : List ℕ
  r = added_in t id flags v parts

  long-s : table_words ≤ length s
  long-s = omega (arith, length-window t id v long few)

  pub extended-in : Extended (automaton t) (automaton (added_in t id flags v parts)) (place_of t id) id flags (needs_start flags v) parts
  extended-in =
      other-windows (automaton s).inside (automaton s).long
      (subst (λ (w : Automaton). Extended w (automaton r) (place_of t id) id flags (needs_start flags v) parts) (window-automaton t id v long few)
      (subst (λ (k : ℕ). Extended (automaton s) (automaton r) k id flags (needs_start flags v) parts) (window-place t id v long few)
      (extended s id flags (needs_start flags v) parts long-s (omega (arith, window-rules t id v long few)) (omega (arith, window-positions t id v long few)))))

  -- the windows of the rules, as they were put in
  kept_word : (w : ℕ) → leftmosts_at < w → w < takers_at 0 → (w < keepers_at) ⊎ (keepers_at + 4 ≤ w) → get_or r w 0 ≡ get_or s w 0
  kept_word = added-window s id flags (needs_start flags v) parts long-s

  pub inside-in : (a : ℕ) → a ≤ (automaton t).rules → (e : ℕ) → (automaton (added_in t id flags v parts)).inside a e
      ≡ put_in (place_of t id) (inside_of v) (automaton t).inside a e
  unfolding automaton
  inside-in =
      window-in t id v long few r (kept_word windowed_at (omega arith) (omega arith) (inl (omega arith)))
      (λ a h. kept_word (lowest_at a) (omega arith) (omega arith) (inr (omega arith)))
      (λ a h. kept_word (highest_at a) (omega arith) (omega arith) (inr (omega arith)))

  -- and their smallest lengths, in words
  pub lengths-in : lengths_of (added_in t id flags v parts) ≡ lengths_with v.smallest_length (lengths_of t)
  lengths-in = kept_word lengths_at (omega arith) (omega arith) (inl (omega arith)) ∙ window-lengths t id v long few

  pub shortest-in : (q : ℕ) → q < max_positions
      → get_or (added_in t id flags v parts) (shortest_at q) 0 ≡ cond (ltb q (positions_of t)) (get_or t (shortest_at q) 0) v.smallest_length
  shortest-in q h = kept_word (shortest_at q) (omega arith) (omega arith) (inr (omega arith)) ∙ window-shortest t id v long few q h
