-- The table with the new rule's windows put in, and no rule yet: five regions of words change,
-- which nothing but the windows is read from. So it passes the test alike, and describes the same
-- automaton but for windows.
use mathlib.Core.Path.{◌≡◌, sym, ap, ap₂, ◌∙◌}
use mathlib.Core.Bool.{Bool, cond, not, ◌&&◌, ◌||◌}
use mathlib.Core.List.{List, [], ◌∷◌}
use Prim.Native.Nat.{ℕ, ◌+◌, ◌-◌, ◌^◌, ◌≤◌, ◌<◌}
use native.Mathlib.Decide.{dec_lt, ℕ_discrete}
use native.Mathlib.Omega.{arith}
use lib.Dec.{eqb, leb, ltb}
use lib.ListN.{length, get_or, drop}
use borrow.Author.Tests.{lt-ltb, le-ltb, le-leb, eq-eqb, ne_eqb}
use Rattle.sets.specs.Set.{on, any, count}
use Rattle.sets.proofs.Laws.{any-ext, count-ext}
use Rattle.sets.proofs.Bits.{on-word_of}
use Rattle.table.specs.Layout.{table_words, max_rules, max_positions, rules_of, positions_of, id_at, id_word, windowed_at, windowed_of, lowest_at, highest_at, lengths_at, lengths_of, shortest_at}
use Rattle.table.specs.Automaton.{automaton}
use Rattle.table.proofs.Over.{length_over, over-in, drop-over, over-ext}
use Rattle.table.proofs.Local.{NoWindow, with_windows, but-windows, kept}
use Rattle.table.proofs.Test.{Passes}
use Rattle.meaning.specs.Rule.{Windows, no_windows}
use Rattle.rules.specs.Words.{place_of, digits_with, numbers_with, numbers_put, has_offsets, with_offsets, lengths_with, lengths_put, shortest_put, with_window}
use Rattle.rules.specs.Add.{has_id}
use Rattle.rules.specs.Invariants.{digits_put, number_put, smaller}
use Rattle.rules.proofs.Place.{place-le}
use Rattle.rules.proofs.GapSets.{Out, over-out}
use Rattle.rules.proofs.Numbers.{number-all}

-- ---- what stands at a place

-- what stands at place a once x is put in at place k
abbrev pub put_in : {A : Type 0} → ℕ → A → (ℕ → A) → ℕ → A
put_in k x f a = cond (ltb a k) (f a) (cond (eqb a k) x (f (a - 1)))

-- a rule with these windows may report at this end offset
abbrev pub inside_of : Windows → (end : ℕ) → Bool
inside_of v end = not (has_offsets v) || (leb v.smallest_end end && leb end v.largest_end)

-- where both are left out, each offset of 64 bits is within
pub inside-within : (v : Windows) (end : ℕ) → end < 2 ^ 64 → inside_of v end ≡ (leb v.smallest_end end && leb end v.largest_end)
inside-within v end small = go (ℕ_discrete v.smallest_end 0) (ℕ_discrete v.largest_end no_windows.largest_end)
  where
    go : Dec (v.smallest_end ≡ 0) → Dec (v.largest_end ≡ no_windows.largest_end) → inside_of v end ≡ (leb v.smallest_end end && leb end v.largest_end)
    go (yes e) (yes f) =
        rw (eq-eqb v.smallest_end 0 e, eq-eqb v.largest_end no_windows.largest_end f, le-leb v.smallest_end end (omega arith), le-leb end v.largest_end (omega arith))
    go (yes e) (no f) = rw (eq-eqb v.smallest_end 0 e, ne_eqb v.largest_end no_windows.largest_end f)
    go (no e) d = rw (ne_eqb v.smallest_end 0 e)

-- words beyond the table's stay
pub window-beyond : (t : List ℕ) (id : ℕ) (v : Windows) → drop table_words (with_window t id v) ≡ drop table_words t
unfolding with_window with_offsets lengths_put shortest_put numbers_put
window-beyond t id v =
    drop-over table_words (shortest_at (positions_of t)) (shortest_at max_positions) _ _ (omega arith)
    ∙ drop-over table_words lengths_at (lengths_at + 1) _ _ (omega arith)
    ∙ drop-over table_words windowed_at (windowed_at + 1) _ _ (omega arith)
    ∙ drop-over table_words (highest_at 0) (highest_at 0 + max_rules) _ _ (omega arith)
    ∙ drop-over table_words (lowest_at 0) (lowest_at 0 + max_rules) _ t (omega arith)

module _ (t : List ℕ) (id : ℕ) (v : Windows) (long : table_words ≤ length t) (few : rules_of t < max_rules) where
  abbrev lowest : ℕ
  lowest = v.smallest_end

  abbrev highest : ℕ
  highest = v.largest_end

  abbrev shortest : ℕ
  shortest = v.smallest_length

  abbrev u : List ℕ
  u = with_window t id v

  abbrev k : ℕ
  k = place_of t id

  k-le : k ≤ rules_of t
  k-le = place-le t id

  abbrev t1 : List ℕ
  t1 = numbers_put (lowest_at 0) (rules_of t) k lowest t

  abbrev t2 : List ℕ
  t2 = numbers_put (highest_at 0) (rules_of t) k highest t1

  abbrev digits : ℕ → ℕ
  digits w = digits_with k (has_offsets v) (windowed_of t)

  abbrev t3 : List ℕ
  t3 = with_offsets t id v

  abbrev t4 : List ℕ
  t4 = lengths_put shortest t3

  length-1 : length t1 ≡ length t
  unfolding numbers_put
  length-1 = length_over (lowest_at 0) (lowest_at 0 + max_rules) _ t

  length-2 : length t2 ≡ length t
  unfolding numbers_put
  length-2 = length_over (highest_at 0) (highest_at 0 + max_rules) _ t1 ∙ length-1

  length-3 : length t3 ≡ length t
  unfolding with_offsets
  length-3 = length_over windowed_at (windowed_at + 1) digits t2 ∙ length-2

  length-4 : length t4 ≡ length t
  unfolding lengths_put
  length-4 = length_over lengths_at (lengths_at + 1) (λ w. lengths_with shortest (lengths_of t3)) t3 ∙ length-3

  pub length-window : length u ≡ length t
  unfolding with_window shortest_put
  length-window = length_over (shortest_at (positions_of t)) (shortest_at max_positions) (λ w. shortest) t4 ∙ length-4

  out-1 : (w : ℕ) → Out (lowest_at 0) (lowest_at max_rules) w → get_or t1 w 0 ≡ get_or t w 0
  unfolding numbers_put
  out-1 w o = over-out (lowest_at 0) (lowest_at 0 + max_rules) _ t w o

  out-2 : (w : ℕ) → Out (highest_at 0) (highest_at max_rules) w → get_or t2 w 0 ≡ get_or t1 w 0
  unfolding numbers_put
  out-2 w o = over-out (highest_at 0) (highest_at 0 + max_rules) _ t1 w o

  out-3 : (w : ℕ) → Out windowed_at (windowed_at + 1) w → get_or t3 w 0 ≡ get_or t2 w 0
  unfolding with_offsets
  out-3 w o = over-out windowed_at (windowed_at + 1) digits t2 w o

  out-4 : (w : ℕ) → Out lengths_at (lengths_at + 1) w → get_or t4 w 0 ≡ get_or t3 w 0
  unfolding lengths_put
  out-4 w o = over-out lengths_at (lengths_at + 1) (λ w. lengths_with shortest (lengths_of t3)) t3 w o

  out-5 : (w : ℕ) → Out (shortest_at (positions_of t)) (shortest_at max_positions) w → get_or u w 0 ≡ get_or t4 w 0
  unfolding with_window shortest_put
  out-5 w o = over-out (shortest_at (positions_of t)) (shortest_at max_positions) (λ w. shortest) t4 w o

  -- the end offsets have none of the words of the lengths
  offsets-stay : (w : ℕ) → Out lengths_at (lengths_at + 1) w → w < shortest_at 0 → get_or u w 0 ≡ get_or t3 w 0
  offsets-stay w o h = out-5 w (λ a b. omega arith) ∙ out-4 w o

  offsets-out : (w : ℕ) → Out windowed_at (windowed_at + 1) w → (lowest_at 0 ≤ w → w < highest_at max_rules → ⊥) → get_or t3 w 0 ≡ get_or t w 0
  offsets-out w d o =
      out-3 w d ∙ out-2 w (λ a b. o (omega arith) (omega arith)) ∙ out-1 w (λ a b. o (omega arith) (omega arith))

  -- ---- each word

  pub window-out : (w : ℕ) → NoWindow w → get_or u w 0 ≡ get_or t w 0
  window-out w o =
      out-5 w (λ a b. o.1 (omega arith) b) ∙ out-4 w (λ a b. o.0 (omega arith) (omega arith))
      ∙ offsets-out w (λ a b. o.0 a (omega arith)) (λ a b. o.1 a (omega arith))

  pub window-digits : windowed_of u ≡ digits_with k (has_offsets v) (windowed_of t)
  unfolding with_offsets
  window-digits =
      offsets-stay windowed_at (λ a b. omega arith) (omega arith)
      ∙ over-in windowed_at (windowed_at + 1) digits t2 windowed_at (omega arith) (omega arith) (omega (arith, length-2))

  pub window-lowest : (a : ℕ) → a < max_rules → get_or u (lowest_at a) 0 ≡ numbers_with (rules_of t) k lowest (λ b. get_or t (lowest_at b) 0) a
  unfolding numbers_put
  window-lowest a h =
      let e : lowest_at a - lowest_at 0 ≡ a = omega arith in
      offsets-stay (lowest_at a) (λ x y. omega arith) (omega arith) ∙ out-3 (lowest_at a) (λ x y. omega arith) ∙ out-2 (lowest_at a) (λ x y. omega arith)
      ∙ over-in (lowest_at 0) (lowest_at 0 + max_rules) _ t (lowest_at a) (omega arith) (omega arith) (omega arith)
      ∙ ap (numbers_with (rules_of t) k lowest (λ b. get_or t (lowest_at b) 0)) e

  pub window-highest : (a : ℕ) → a < max_rules → get_or u (highest_at a) 0 ≡ numbers_with (rules_of t) k highest (λ b. get_or t (highest_at b) 0) a
  unfolding numbers_put
  window-highest a h =
      let e : highest_at a - highest_at 0 ≡ a = omega arith in
      offsets-stay (highest_at a) (λ x y. omega arith) (omega arith) ∙ out-3 (highest_at a) (λ x y. omega arith)
      ∙ over-in (highest_at 0) (highest_at 0 + max_rules) _ t1 (highest_at a) (omega arith) (omega arith) (omega (arith, length-1))
      ∙ ap (numbers_with (rules_of t) k highest (λ b. get_or t1 (highest_at b) 0)) e
      ∙ (λ i. numbers_with (rules_of t) k highest (λ b. old b i) a)
    where
      old : (b : ℕ) → get_or t1 (highest_at b) 0 ≡ get_or t (highest_at b) 0
      old b = out-1 (highest_at b) (λ x y. omega arith)

  -- a rule with a smallest length marks the table
  pub window-lengths : lengths_of u ≡ lengths_with shortest (lengths_of t)
  unfolding lengths_put
  window-lengths =
      out-5 lengths_at (λ a b. omega arith)
      ∙ over-in lengths_at (lengths_at + 1) (λ w. lengths_with shortest (lengths_of t3)) t3 lengths_at (omega arith) (omega arith) (omega (arith, length-3))
      ∙ ap (lengths_with shortest) (offsets-out lengths_at (λ a b. omega arith) (λ a b. omega arith))

  -- the positions that the table has keep theirs, and all later ones have the new rule's
  pub window-shortest : (q : ℕ) → q < max_positions → get_or u (shortest_at q) 0 ≡ cond (ltb q (positions_of t)) (get_or t (shortest_at q) 0) shortest
  unfolding with_window shortest_put
  window-shortest q h = go (dec_lt q (positions_of t))
    where
      go : Dec (q < positions_of t) → get_or u (shortest_at q) 0 ≡ cond (ltb q (positions_of t)) (get_or t (shortest_at q) 0) shortest
      go (yes l) =
          rw (lt-ltb q (positions_of t) l)
          (out-5 (shortest_at q) (λ a b. omega arith) ∙ out-4 (shortest_at q) (λ a b. omega arith)
          ∙ offsets-out (shortest_at q) (λ a b. omega arith) (λ a b. omega arith))
      go (no l) =
          rw (le-ltb q (positions_of t) (omega arith))
          (over-in (shortest_at (positions_of t)) (shortest_at max_positions) (λ w. shortest) t4 (shortest_at q) (omega arith) (omega arith) (omega (arith, length-4)))

  -- ---- what does not see windows

  pub window-rules : rules_of u ≡ rules_of t
  window-rules = window-out 1 (λ a b. omega arith, λ a b. omega arith)

  pub window-positions : positions_of u ≡ positions_of t
  window-positions = window-out 2 (λ a b. omega arith, λ a b. omega arith)

  pub window-id : (a : ℕ) → a < max_rules → id_word u a ≡ id_word t a
  window-id a h = window-out (id_at a) (λ x y. omega arith, λ x y. omega arith)

  pub window-place : place_of u id ≡ place_of t id
  unfolding place_of
  window-place =
      count-ext (rules_of u) (λ a. ltb (id_word u a) id) (λ a. ltb (id_word t a) id) (λ a h. ap (λ (x : ℕ). ltb x id) (window-id a (omega (arith, window-rules))))
      ∙ ap (λ (n : ℕ). count n (λ a. ltb (id_word t a) id)) window-rules

  pub window-has-id : (i : ℕ) → has_id u i ≡ has_id t i
  unfolding has_id
  window-has-id i =
      any-ext (rules_of u) (λ a. eqb (id_word u a) i) (λ a. eqb (id_word t a) i) (λ a h. ap (λ (x : ℕ). eqb x i) (window-id a (omega (arith, window-rules))))
      ∙ ap (λ (n : ℕ). any n (λ a. eqb (id_word t a) i)) window-rules

  pub window-passes : Passes t → Passes u
  window-passes p = kept t u (λ w h o. sym (window-out w o)) (omega (arith, length-window)) p

  pub window-automaton : automaton u ≡ with_windows (automaton t) (automaton u).inside (automaton u).long
  window-automaton = but-windows u t (λ w h o. window-out w o)

  -- ---- the windows

  -- read from words that have those of this table
  pub window-in : (s : List ℕ) → windowed_of s ≡ windowed_of u → ((a : ℕ) → a < max_rules → get_or s (lowest_at a) 0 ≡ get_or u (lowest_at a) 0)
      → ((a : ℕ) → a < max_rules → get_or s (highest_at a) 0 ≡ get_or u (highest_at a) 0)
      → (a : ℕ) → a ≤ rules_of t → (e : ℕ) → (automaton s).inside a e ≡ put_in k (inside_of v) (automaton t).inside a e
  unfolding automaton digits_with
  window-in s dig low high a h e =
      rw (lt-ltb a max_rules (omega arith)) (ap (λ (b : Bool). not b || (leb (get_or s (lowest_at a) 0) e && leb e (get_or s (highest_at a) 0))) on-is
      ∙ ap₂ (λ (x y : ℕ). not digit || (leb x e && leb e y)) (low a (omega arith) ∙ window-lowest a (omega arith)) (high a (omega arith) ∙ window-highest a (omega arith))
      ∙ go (dec_lt a k) (dec_lt k a))
    where
      digit : Bool
      digit = cond (ltb a k) (on (windowed_of t) a) (cond (eqb a k) (has_offsets v) (on (windowed_of t) (a - 1)))

      on-is : on (windowed_of s) a ≡ digit
      on-is =
          ap (λ (x : ℕ). on x a) (dig ∙ window-digits)
          ∙ on-word_of 64 (λ a. cond (ltb a k) (on (windowed_of t) a) (cond (eqb a k) (has_offsets v) (on (windowed_of t) (a - 1)))) a (omega arith)

      go : Dec (a < k) → Dec (k < a)
          → (not digit || (leb (numbers_with (rules_of t) k lowest (λ b. get_or t (lowest_at b) 0) a) e && leb e (numbers_with (rules_of t) k highest (λ b. get_or t (highest_at b) 0) a)))
          ≡ put_in k (inside_of v) (automaton t).inside a e
      go (yes p) q = rw (lt-ltb a k p, lt-ltb a max_rules (omega arith))
      go (no p) (no q) = rw (le-ltb a k (omega arith), eq-eqb a k (omega arith))
      go (no p) (yes q) = rw (le-ltb a k (omega arith), ne_eqb a k (λ z. omega arith), le-leb a (rules_of t) h, lt-ltb (a - 1) max_rules (omega arith))

  -- ---- how it is written

  pub offsets-made : (s1 s2 s3 : List ℕ) (new : Bool) (c : ℕ) → c ≡ count (rules_of t) (smaller t id) → new ≡ has_offsets v
      → s1 ≡ number_put (lowest_at 0) (rules_of t) c lowest t → s2 ≡ number_put (highest_at 0) (rules_of t) c highest s1 → s3 ≡ digits_put windowed_at c new s2 → s3 ≡ t3
  unfolding with_offsets digits_put place_of
  offsets-made s1 s2 s3 new c place is e f g =
      let one : s1 ≡ t1 = e ∙ ap (λ (j : ℕ). number_put (lowest_at 0) (rules_of t) j lowest t) place ∙ number-all (lowest_at 0) (rules_of t) k lowest t k-le few (omega arith) in
      let two : s2 ≡ t2 =
      f ∙ ap₂ (λ (j : ℕ) (s : List ℕ). number_put (highest_at 0) (rules_of t) j highest s) place one
      ∙ number-all (highest_at 0) (rules_of t) k highest t1 k-le few (omega (arith, length-1)) in
      g ∙ ap₂ (λ (j : ℕ) (s : List ℕ). digits_put windowed_at j new s) place two
      ∙ over-ext windowed_at (windowed_at + 1) _ digits t2 (λ w a b l. same w (omega arith))
    where
      same : (w : ℕ) → w ≡ windowed_at → get_or (digits_with k new (get_or t2 windowed_at 0) ∷ []) (w - windowed_at) 0 ≡ digits w
      same w e =
          let z : w - windowed_at ≡ 0 = omega arith in
          ap (λ (j : ℕ). get_or (digits_with k new (get_or t2 windowed_at 0) ∷ []) j 0) z
          ∙ ap₂ (λ (b : Bool) (x : ℕ). digits_with k b x) is (out-2 windowed_at (λ x y. omega arith) ∙ out-1 windowed_at (λ x y. omega arith))

  pub window-made : (s1 s2 s3 : List ℕ) → s1 ≡ t3 → s2 ≡ lengths_put shortest s1 → s3 ≡ shortest_put (positions_of t) shortest s2 → s3 ≡ u
  unfolding with_window
  window-made s1 s2 s3 e f g = g ∙ ap (shortest_put (positions_of t) shortest) (f ∙ ap (lengths_put shortest) e)
