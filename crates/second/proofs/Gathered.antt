-- The entries of a build, one after the other: after n bytes asked the records in the words are
-- those of `found n`; and the words of the rows and of the header, once all are there.
use mathlib.Core.Path.{◌≡◌, refl, sym, ap, ap₂, ◌∙◌, subst}
use mathlib.Core.Bool.{Bool, true, false, cond, not, ◌&&◌, ◌||◌}
use mathlib.Core.List.{List, [], ◌∷◌, ◌++◌}
use Prim.Native.Nat.{ℕ, zero, suc, ◌+◌, ◌-◌, ◌*◌, ◌/◌, ◌%◌, ◌<◌, ◌≤◌, zero-le}
use native.Mathlib.Nat.{le_refl}
use native.Mathlib.Decide.{le_ind}
use native.Mathlib.Numerals.{add-one}
use native.Mathlib.Omega.{arith}
use lib.Dec.{eqb, leb, ltb}
use lib.ListN.{length, get_or, replicate, length-append, get_or-append}
use borrow.Author.Tests.{lt-ltb, le-ltb, ltb-true}
use Rattle.sets.specs.Set.{is_empty}
use Rattle.kinds.specs.declared.Side.{Side}
use Rattle.kinds.specs.declared.Side.TheVariants.{Other, Word, Newline}
use Rattle.kinds.specs.Side.{side_of, side_word}
use Rattle.table.specs.Automaton.{Automaton}
use Rattle.table.specs.Invariants.{over, copied}
use Rattle.table.proofs.Over.{Written, written_none, written-block, written_below, over-join}
use Rattle.second.specs.declared.Key.{Key}
use Rattle.second.specs.Layout.{second_words, max_entries, record_at, row_at, no_entry, second_format}
use Rattle.second.specs.Entries.{same_key, first_of, start_key, next_key, needs_old, place_of, with_key, found, entries, record_of, key_at, entry_record, leads_to, is_quiet, target_of, rests_at, resting_word, header_word, records_word, rows_word, second_word}
use Rattle.second.specs.Invariants.{key_in, has_key, rests, resting_in, quiet_at, key_after, place_in, grows, target_in, Recorded}
use Rattle.second.proofs.Searching.{first-ext}
use Rattle.second.proofs.Found.{found-good, found-few}
use Rattle.second.proofs.Words.{written_in, second-record, live-words-in, held-words-in, pending-word-in, last-side-in, own-word-in, late-word-in}

zeros-tail : (n i : ℕ) → ◌≡◌ {A = ℕ} (get_or (replicate n 0) i 0) 0
zeros-tail zero i = refl
zeros-tail (suc n) zero = refl
zeros-tail (suc n) (suc i) = zeros-tail n i

-- ---- what is found stays

-- es' begins with es
pub record Begins (es es' : List Key) : Type 0 where
  pub longer : length es ≤ length es'
  pub same : (e : ℕ) → e < length es → get_or es' e start_key ≡ get_or es e start_key

begins-refl : (es : List Key) → Begins es es
begins-refl es = record { longer = le_refl (length es); same = λ e h. refl }

begins-trans : (a b d : List Key) → Begins a b → Begins b d → Begins a d
begins-trans a b d p q = record { longer = omega (arith, p.longer, q.longer); same = λ e h. q.same e (omega (arith, p.longer)) ∙ p.same e h }

begins-more : (es : List Key) (k : Key) → Begins es (es ++ k ∷ [])
begins-more es k = record { longer = omega (arith, length-append es (k ∷ [])); same = λ e h. get_or-append es (k ∷ []) start_key e h }

last-key : (es : List Key) (k : Key) → get_or (es ++ k ∷ []) (length es) start_key ≡ k
last-key [] k = refl
last-key (j ∷ es) k = last-key es k

module _ (w : Automaton) where
  abbrev key : ℕ → Key
  key n = next_key w (n / 256) (get_or (found w n) (n / 256) start_key) (n % 256)

  -- whether byte n is one entry more
  abbrev adds : ℕ → Bool
  adds n = ltb (n / 256) (length (found w n)) && not (ltb (place_of w (found w n) (key n)) (length (found w n)) || leb max_entries (length (found w n)))

  found-next : (n : ℕ) → found w (suc n) ≡ cond (adds n) (found w n ++ key n ∷ []) (found w n)
  unfolding found with_key
  found-next n = go (ltb (n / 256) (length (found w n))) (ltb (place_of w (found w n) (key n)) (length (found w n)) || leb max_entries (length (found w n)))
    where
      go : (a b : Bool) → cond a (cond b (found w n) (found w n ++ key n ∷ [])) (found w n) ≡ cond (a && not b) (found w n ++ key n ∷ []) (found w n)
      go true true = refl
      go true false = refl
      go false b = refl

  begins-next : (n : ℕ) → Begins (found w n) (found w (suc n))
  begins-next n = subst (Begins (found w n)) (sym (found-next n)) (go (adds n))
    where
      go : (b : Bool) → Begins (found w n) (cond b (found w n ++ key n ∷ []) (found w n))
      go true = begins-more (found w n) (key n)
      go false = begins-refl (found w n)

  begins-all : (n m : ℕ) → n ≤ m → Begins (found w n) (found w m)
  begins-all n m h =
      le_ind (λ (k : ℕ). Begins (found w n) (found w k)) (begins-refl (found w n)) (λ k l b. begins-trans (found w n) (found w k) (found w (suc k)) b (begins-next k)) m h

  abbrev es : List Key
  es = entries w

  few : length es ≤ max_entries
  few = (found-few w (max_entries * 256)).1

  -- ---- the words

  -- for entries that the whole list begins with
  module _ (c : List ℕ) (fs : List Key) (begins : Begins fs es) (count : ℕ) (count_is : count ≡ length fs)
      (word : (i : ℕ) → 16 ≤ i → i < 16 + count * 16 → get_or c i 0 ≡ second_word w es i) where
    -- each entry's words are its key's
    pub key_in_lem : (e : ℕ) → e < count → key_in c e ≡ get_or fs e start_key
    key_in_lem e h =
        let in_all : e < length es = omega (arith, count_is, begins.longer) in
        let below : record_at e + 16 ≤ 16 + count * 16 = omega arith in
        let good = found-good w (max_entries * 256) e in
        (λ i. record {
          live = (live-words-in w es c (16 + count * 16) word few e in_all below ∙ good.live_four) i;
          held = (held-words-in w es c (16 + count * 16) word few e in_all below ∙ good.held_four) i;
          pending = pending-word-in w es c (16 + count * 16) word few e in_all below i;
          last = last-side-in w es c (16 + count * 16) word few e in_all below i;
        })
        ∙ begins.same e (omega (arith, count_is))

    same_test : (k : Key) (e : ℕ) → e < count → has_key c k e ≡ (not (eqb e 0) && same_key (get_or fs e start_key) k)
    unfolding has_key
    same_test k e h = ap (λ (j : Key). not (eqb e 0) && same_key j k) (key_in_lem e h)

    module _ (n : ℕ) (inside : n / 256 < count) where
      pub after-in : key_after w c count n ≡ next_key w (n / 256) (get_or fs (n / 256) start_key) (n % 256)
      after-in = ap (λ (k : Key). next_key w (n / 256) k (n % 256)) (key_in_lem (n / 256) inside)

      pub place-in : place_in w c count n ≡ place_of w fs (next_key w (n / 256) (get_or fs (n / 256) start_key) (n % 256))
      unfolding place_of
      place-in =
          let k : Key = next_key w (n / 256) (get_or fs (n / 256) start_key) (n % 256) in
          ap (λ (k : Key). first_of count (has_key c k)) after-in
          ∙ first-ext count (has_key c k) (λ e. not (eqb e 0) && same_key (get_or fs e start_key) k) (same_test k)
          ∙ ap (λ (m : ℕ). first_of m (λ e. not (eqb e 0) && same_key (get_or fs e start_key) k)) count_is

  module _ (c : List ℕ) (n : ℕ) (early : n < max_entries * 256) (count : ℕ) (count_is : count ≡ length (found w n))
      (word : (i : ℕ) → 16 ≤ i → i < 16 + count * 16 → get_or c i 0 ≡ second_word w es i) where
    begins : Begins (found w n) es
    begins = begins-all n (max_entries * 256) (omega arith)

    after_is : n / 256 < count → key_after w c count n ≡ key n
    after_is inside = after-in c (found w n) begins count count_is word n inside

    place_is : n / 256 < count → place_in w c count n ≡ place_of w (found w n) (key n)
    place_is inside = place-in c (found w n) begins count count_is word n inside

    grows-is : grows w c count n ≡ adds n
    grows-is = go (ltb (n / 256) count) refl
      where
        go : (b : Bool) → ltb (n / 256) count ≡ b → grows w c count n ≡ adds n
        go true e =
            λ i. ltb (n / 256) (count_is i) && not (ltb (place_is (ltb-true (n / 256) count e) i) (count_is i) || leb max_entries (count_is i))
        go false e =
            ap (λ (b : Bool). b && not (ltb (place_in w c count n) count || leb max_entries count)) e
            ∙ sym (ap (λ (b : Bool). b && not (ltb (place_of w (found w n) (key n)) (length (found w n)) || leb max_entries (length (found w n)))) (sym (ap (ltb (n / 256)) count_is) ∙ e))

    -- ---- a turn

    pub gather-count : (r : ℕ) → r ≡ cond (grows w c count n) (count + 1) count → r ≡ length (found w (n + 1))
    gather-count r e =
        e ∙ ap (λ (b : Bool). cond b (count + 1) count) grows-is ∙ go (adds n) ∙ ap length (sym (found-next n)) ∙ ap (λ (m : ℕ). length (found w m)) (sym (add-one n))
      where
        go : (b : Bool) → cond b (count + 1) count ≡ length (cond b (found w n ++ key n ∷ []) (found w n))
        go true = ap (λ (m : ℕ). m + 1) count_is ∙ sym (length-append (found w n) (key n ∷ []))
        go false = count_is

    pub gather-more : (lo : ℕ) (t : List ℕ) → lo ≤ 16 + count * 16 → Written lo (16 + count * 16) (second_word w es) t c → (r : ℕ) (c' : List ℕ) → r ≡ cond (grows w c count n) (count + 1) count
        → c' ≡ cond (grows w c count n) (copied (record_at count) 16 (record_of w (key_after w c count n)) c) c → Written lo (16 + r * 16) (second_word w es) t c'
    unfolding entry_record
    gather-more lo t low written r c' e f = go (grows w c count n) refl e f
      where
        go : (b : Bool) → grows w c count n ≡ b → r ≡ cond b (count + 1) count → c' ≡ cond b (copied (record_at count) 16 (record_of w (key_after w c count n)) c) c → Written lo (16 + r * 16) (second_word w es) t c'
        go false g e f =
            subst (λ (l : List ℕ). Written lo (16 + r * 16) (second_word w es) t l) (sym f) (subst (λ (m : ℕ). Written lo (16 + m * 16) (second_word w es) t c) (sym e) written)
        go true g e f =
            let grown : found w (suc n) ≡ found w n ++ key n ∷ [] = found-next n ∙ ap (λ (b : Bool). cond b (found w n ++ key n ∷ []) (found w n)) (sym grows-is ∙ g) in
            let later = begins-all (suc n) (max_entries * 256) early in
            let size : length (found w (suc n)) ≡ count + 1 = ap length grown ∙ length-append (found w n) (key n ∷ []) ∙ ap (λ (m : ℕ). m + 1) (sym count_is) in
            let in_all : count < length es = omega (arith, size, later.longer) in
            let row : n / 256 < count = ltb-true (n / 256) count (first-of (ltb (n / 256) count) _ g) in
            let is_key : key_at w es count ≡ key_after w c count n =
            later.same count (omega (arith, size)) ∙ ap (λ (l : List Key). get_or l count start_key) grown ∙ ap (λ (m : ℕ). get_or (found w n ++ key n ∷ []) m start_key) count_is
            ∙ last-key (found w n) (key n) ∙ sym (after_is row) in
            let end : 16 + r * 16 ≡ record_at count + 16 = omega (arith, e) in
            subst (λ (m : ℕ). Written lo m (second_word w es) t c') (sym end)
            (subst (λ (l : List ℕ). Written lo (record_at count + 16) (second_word w es) t l) (sym f)
            (written-block written low (omega arith)
            (λ i a b l.
            let place : i ≡ 16 + count * 16 + (i - record_at count) = omega arith in
            sym (second-record w es few count in_all (i - record_at count) i (omega arith) place ∙ ap (λ (k : Key). get_or (record_of w k) (i - record_at count) 0) is_key))))
          where
            first-of : (a b : Bool) → (a && b) ≡ true → a ≡ true
            first-of true b h = refl
            first-of false b h = h

  -- ---- the start

  pub found-start : length (found w 0) ≡ 1
  unfolding found
  found-start = refl

  found_first : get_or (found w 0) 0 start_key ≡ start_key
  unfolding found
  found_first = refl

  pub gather-start : (t c : List ℕ) → second_words ≤ length t → (k : Key) → k ≡ start_key → c ≡ copied (record_at 0) 16 (record_of w k) t → Written 16 32 (second_word w es) t c
  unfolding entry_record
  gather-start t c long k e f =
      let first = begins-all 0 (max_entries * 256) zero-le in
      let in_all : 0 < length es = omega (arith, first.longer, found-start) in
      let is_key : key_at w es 0 ≡ k = first.same 0 (omega (arith, found-start)) ∙ found_first ∙ sym e in
      subst (λ (l : List ℕ). Written 16 32 (second_word w es) t l) (sym f)
      (written-block (written_none (le_refl 16)) (le_refl 16) (omega arith)
      (λ i a b l.
      let place : i ≡ 16 + 0 * 16 + (i - record_at 0) = omega arith in
      sym (second-record w es few 0 in_all (i - record_at 0) i (omega arith) place ∙ ap (λ (k : Key). get_or (record_of w k) (i - record_at 0) 0) is_key)))

  -- one part after another
  pub parts : (lo mid hi : ℕ) (g : ℕ → ℕ) (t s r : List ℕ) → lo ≤ mid → mid ≤ hi → Written lo mid g t s → Written mid hi g s r → Written lo hi g t r
  parts lo mid hi g t s r a b p q = record {
    is = q.is ∙ ap (over mid hi g) p.is ∙ over-join lo mid hi g t a b;
    long = q.long ∙ p.long;
  }

  -- the words of the first record, and of those after it
  pub words-in : (t t₀ c : List ℕ) (count : ℕ) → second_words ≤ length t → 1 ≤ count → count ≤ max_entries → Written 16 32 (second_word w es) t t₀ → Written 32 (16 + count * 16) (second_word w es) t₀ c
      → (i : ℕ) → 16 ≤ i → i < 16 + count * 16 → get_or c i 0 ≡ second_word w es i
  words-in t t₀ c count long one some first later i a b =
      written_in (parts 16 32 (16 + count * 16) (second_word w es) t t₀ c (omega arith) (omega arith) first later) i a b (omega arith)

  -- ---- the words of the rows, and of the entries at rest

  module _ (c : List ℕ) (count : ℕ) (is : count ≡ length es) (recorded : Recorded w c) where
    word_in : (i : ℕ) → 16 ≤ i → i < 16 + count * 16 → get_or c i 0 ≡ second_word w es i
    unfolding Recorded
    word_in i a b = recorded i a (omega (arith, is))

    key_of : (e : ℕ) → e < count → key_in c e ≡ key_at w es e
    key_of e h = key_in_lem c es (begins-refl es) count is word_in e h

    quiet-in : (e j x : ℕ) → e < count → j < count → quiet_at c e j x ≡ is_quiet w es e j x
    unfolding quiet_at is_quiet
    quiet-in e j x h l =
        let late = late-word-in w es c (16 + count * 16) word_in few e (omega (arith, is)) (omega arith) (side_of x) in
        let own = own-word-in w es c (16 + count * 16) word_in few j (omega (arith, is)) (omega arith) in
        λ i. (eqb (late i) 0 && eqb (own i) 0) && not (is_empty (key_of e h i).live && is_empty (key_of j l i).live)

    -- the word of a byte that leads to entry j
    abbrev toward : (n j : ℕ) → ℕ
    toward n j = cond (ltb j (length es)) (row_at j + cond (is_quiet w es (n / 256) j (n % 256)) 0 1) no_entry

    pub target-in : (n : ℕ) → n / 256 < count → target_in w c count n ≡ second_word w es (4096 + n)
    unfolding target_in second_word rows_word target_of leads_to
    target-in n inside =
        let row : (4096 + n - 4096) / 256 ≡ n / 256 = omega arith in
        let byte : (4096 + n - 4096) % 256 ≡ n % 256 = omega arith in
        go (needs_old w (n / 256) (key_in c (n / 256)) (n % 256)) refl (ltb (place_in w c count n) count) refl
        ∙ sym (
        ap (λ (b : Bool). cond b (header_word w es (4096 + n)) (cond (ltb (4096 + n) 4096) (records_word w es (4096 + n)) (rows_word w es (4096 + n)))) (le-ltb (4096 + n) 16 (omega arith))
        ∙ ap (λ (b : Bool). cond b (records_word w es (4096 + n)) (rows_word w es (4096 + n))) (le-ltb (4096 + n) 4096 (omega arith))
        ∙ ap₂ (λ (m x : ℕ). cond (ltb m (length es)) (target_of w es m x) 0) row byte
        ∙ ap (λ (b : Bool). cond b (target_of w es (n / 256) (n % 256)) 0) (lt-ltb (n / 256) (length es) (omega (arith, is)))
        )
      where
        place : place_in w c count n ≡ place_of w es (next_key w (n / 256) (key_at w es (n / 256)) (n % 256))
        place = place-in c es (begins-refl es) count is word_in n inside

        asks : needs_old w (n / 256) (key_in c (n / 256)) (n % 256) ≡ needs_old w (n / 256) (key_at w es (n / 256)) (n % 256)
        asks = ap (λ (k : Key). needs_old w (n / 256) k (n % 256)) (key_of (n / 256) inside)

        go : (a : Bool) → needs_old w (n / 256) (key_in c (n / 256)) (n % 256) ≡ a → (b : Bool) → ltb (place_in w c count n) count ≡ b
            → cond (needs_old w (n / 256) (key_in c (n / 256)) (n % 256)) no_entry (cond (ltb (place_in w c count n) count) (row_at (place_in w c count n) + cond (quiet_at c (n / 256) (place_in w c count n) (n % 256)) 0 1) no_entry)
            ≡ target_of w es (n / 256) (n % 256)
        go true a b q =
            ap (λ (d : Bool). cond d no_entry (cond (ltb (place_in w c count n) count) (row_at (place_in w c count n) + cond (quiet_at c (n / 256) (place_in w c count n) (n % 256)) 0 1) no_entry)) a
            ∙ sym (ap (λ (d : Bool). toward n (cond d (length es) (place_of w es (next_key w (n / 256) (key_at w es (n / 256)) (n % 256))))) (sym asks ∙ a)
            ∙ ap (λ (d : Bool). cond d (row_at (length es) + cond (is_quiet w es (n / 256) (length es) (n % 256)) 0 1) no_entry) (le-ltb (length es) (length es) (le_refl (length es))))
        go false a true q =
            let l : place_in w c count n < count = ltb-true (place_in w c count n) count q in
            ap₂ (λ (d f : Bool). cond d no_entry (cond f (row_at (place_in w c count n) + cond (quiet_at c (n / 256) (place_in w c count n) (n % 256)) 0 1) no_entry)) a q
            ∙ ap (λ (f : Bool). row_at (place_in w c count n) + cond f 0 1) (quiet-in (n / 256) (place_in w c count n) (n % 256) inside l)
            ∙ sym (ap (λ (f : Bool). cond f (row_at (place_in w c count n) + cond (is_quiet w es (n / 256) (place_in w c count n) (n % 256)) 0 1) no_entry) (sym (ap (ltb (place_in w c count n)) is) ∙ q))
            ∙ ap (toward n) place
            ∙ sym (ap (λ (d : Bool). toward n (cond d (length es) (place_of w es (next_key w (n / 256) (key_at w es (n / 256)) (n % 256))))) (sym asks ∙ a))
        go false a false q =
            ap₂ (λ (d f : Bool). cond d no_entry (cond f (row_at (place_in w c count n) + cond (quiet_at c (n / 256) (place_in w c count n) (n % 256)) 0 1) no_entry)) a q
            ∙ sym (ap (λ (f : Bool). cond f (row_at (place_in w c count n) + cond (is_quiet w es (n / 256) (place_in w c count n) (n % 256)) 0 1) no_entry) (sym (ap (ltb (place_in w c count n)) is) ∙ q))
            ∙ ap (toward n) place
            ∙ sym (ap (λ (d : Bool). toward n (cond d (length es) (place_of w es (next_key w (n / 256) (key_at w es (n / 256)) (n % 256))))) (sym asks ∙ a))

    pub resting-in : (side : Side) → resting_in c count side ≡ resting_word w es side
    unfolding resting_in rests_at rests
    resting-in side =
        let f : ℕ → Bool = λ e. not (eqb e 0) && (is_empty (key_at w es e).live && eqb (side_word (key_at w es e).last) (side_word side)) in
        let same : first_of count (rests c side) ≡ first_of (length es) f = first-ext count (rests c side) f rest_of ∙ ap (λ (m : ℕ). first_of m f) is in
        λ i. cond (ltb (same i) (is i)) (row_at (same i)) 0
      where
        rest_of : (e : ℕ) → e < count → rests c side e ≡ (not (eqb e 0) && (is_empty (key_at w es e).live && eqb (side_word (key_at w es e).last) (side_word side)))
        rest_of e h = λ i. not (eqb e 0) && (is_empty (key_of e h i).live && eqb (side_word (key_of e h i).last) (side_word side))

  -- ---- what is not used is 0

  pub records-past : (i : ℕ) → 16 + length es * 16 ≤ i → i < 4096 → 0 ≡ second_word w es i
  unfolding second_word records_word
  records-past i a b =
      sym (
      ap (λ (d : Bool). cond d (header_word w es i) (cond (ltb i 4096) (records_word w es i) (rows_word w es i))) (le-ltb i 16 (omega arith))
      ∙ ap (λ (d : Bool). cond d (records_word w es i) (rows_word w es i)) (lt-ltb i 4096 b)
      ∙ ap (λ (d : Bool). cond d (get_or (entry_record w es ((i - 16) / 16)) ((i - 16) % 16) 0) 0) (le-ltb ((i - 16) / 16) (length es) (omega arith))
      )

  pub rows-past : (i : ℕ) → 4096 + length es * 256 ≤ i → 0 ≡ second_word w es i
  unfolding second_word rows_word
  rows-past i a =
      sym (
      ap (λ (d : Bool). cond d (header_word w es i) (cond (ltb i 4096) (records_word w es i) (rows_word w es i))) (le-ltb i 16 (omega arith))
      ∙ ap (λ (d : Bool). cond d (records_word w es i) (rows_word w es i)) (le-ltb i 4096 (omega arith))
      ∙ ap (λ (d : Bool). cond d (target_of w es ((i - 4096) / 256) ((i - 4096) % 256)) 0) (le-ltb ((i - 4096) / 256) (length es) (omega arith))
      )

  pub header_is : (i : ℕ) → i < 16 → (rules positions count other word newline : ℕ) → rules ≡ w.rules → positions ≡ w.positions → count ≡ length es
      → other ≡ resting_word w es Other → word ≡ resting_word w es Word → newline ≡ resting_word w es Newline
      → get_or (second_format ∷ rules ∷ positions ∷ count ∷ other ∷ word ∷ newline ∷ 0 ∷ 0 ∷ 0 ∷ 0 ∷ 0 ∷ 0 ∷ 0 ∷ 0 ∷ 0 ∷ []) i 0 ≡ second_word w es i
  unfolding second_word header_word
  header_is i h rules positions count other word newline a b d p q r =
      zeros i
      ∙ (λ j. get_or (second_format ∷ a j ∷ b j ∷ d j ∷ p j ∷ q j ∷ r j ∷ []) i 0)
      ∙ sym (ap (λ (e : Bool). cond e (header_word w es i) (cond (ltb i 4096) (records_word w es i) (rows_word w es i))) (lt-ltb i 16 h))
    where
      zeros : (i : ℕ) → get_or (second_format ∷ rules ∷ positions ∷ count ∷ other ∷ word ∷ newline ∷ replicate 9 0) i 0 ≡ get_or (second_format ∷ rules ∷ positions ∷ count ∷ other ∷ word ∷ newline ∷ []) i 0
      zeros zero = refl
      zeros (suc zero) = refl
      zeros (suc (suc zero)) = refl
      zeros (suc (suc (suc zero))) = refl
      zeros (suc (suc (suc (suc zero)))) = refl
      zeros (suc (suc (suc (suc (suc zero))))) = refl
      zeros (suc (suc (suc (suc (suc (suc zero)))))) = refl
      zeros (suc (suc (suc (suc (suc (suc (suc i))))))) = zeros-tail 9 i

  -- the records stay where only words above them are written
  pub recorded-still : (t c : List ℕ) (hi : ℕ) → Recorded w t → Written 4096 hi (second_word w es) t c → Recorded w c
  unfolding Recorded
  recorded-still t c hi recorded written i a b = written_below written i (omega (arith, few)) ∙ recorded i a b
