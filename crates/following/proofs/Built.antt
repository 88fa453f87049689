-- A built second table is right, and passes its test: so a stream that follows it agrees with one
-- that has none.
use mathlib.Core.Path.{◌≡◌, refl, sym, ap, ap₂, ◌∙◌, subst}
use mathlib.Core.Bool.{Bool, true, false, true≢false, cond, not, ◌&&◌, ◌||◌, and-eq-true_iff}
use mathlib.Core.List.{List}
use Prim.Native.Nat.{ℕ, zero, suc, ◌+◌, ◌*◌, ◌/◌, ◌%◌, ◌<◌, ◌≤◌}
use native.Mathlib.Nat.{add-zero}
use native.Mathlib.Decide.{dec_lt}
use native.Mathlib.Omega.{arith}
use lib.Dec.{eqb, ltb}
use lib.ListN.{length, get_or}
use borrow.Author.Tests.{lt-ltb, le-ltb, ltb-true, eqb-true, eq-eqb, not-true, le-leb}
use Rattle.sets.specs.Set.{on, has, as_one, set_of, any, count, empty_set, is_empty, intersection_of, complement_of, size_of}
use Rattle.sets.proofs.Bits.{on-word_of}
use Rattle.sets.proofs.Laws.{Words, empty-is, any-never, any_none, has-intersection, has-complement, same-members, words-set_of}
use Rattle.kinds.specs.declared.Side.{Side}
use Rattle.kinds.specs.declared.Side.TheVariants.{Other, Word, Newline}
use Rattle.kinds.specs.Side.{side_of, side_word}
use Rattle.kinds.proofs.Sides.{side_same}
use Rattle.table.specs.Layout.{max_positions, rules_of, positions_of}
use Rattle.table.specs.Table.{all, is_table}
use Rattle.table.specs.Gaps.{between, unsettled}
use Rattle.table.specs.Automaton.{Automaton, automaton}
use Rattle.table.proofs.Over.{length_over}
use Rattle.table.proofs.Test.{passes, at_all}
use Rattle.steps.specs.Step.{stepped, ends, ends_newly, late_in, keepers_of, rules_where}
use Rattle.stream.specs.declared.Stream.{Stream}
use Rattle.stream.specs.Byte.{next_live, next_held, next_pending}
use Rattle.second.specs.declared.Key.{Key}
use Rattle.second.specs.Layout.{second_words, second_format, second_rules, second_positions, max_entries, entries_of, resting_at, entry_live, entry_held, entry_pending, entry_last, entry_own, entry_late, entry_busy, row_at, no_entry, names_entry, entry_in, is_loud, target_word}
use Rattle.second.specs.Entries.{same_key, start_key, state_at, apart, next_key, place_of, own_of, late_of, keeps_start, tells_start, needs_old, entries, key_at, leads_to, is_quiet, target_of, rests_at, second_word}
use Rattle.second.specs.Second.{positions_in, rules_in, entry_ok, is_second, second}
use Rattle.following.specs.Follow.{leads, next_entry, late_rules, own_rules, rest_entry}
use Rattle.second.proofs.Searching.{first_passes, key-same}
use Rattle.second.proofs.Found.{Good, found-good, found-few}
use Rattle.second.proofs.Words.{laid, format-is, rules-is, positions_is, entries-is, live_words, held-words, pending-word, last-side, own-word, late-word, busy-word, resting-word, target_is}
use Rattle.following.proofs.Alike.{live_alike, held-alike, pending-alike, late-alike}
use Rattle.following.proofs.Following.{Stands, LeadsRight, Right}
use Rattle.following.proofs.Starting.{Startless, RightToo}

-- ---- the word of a byte, read back

module _ (j : ℕ) (small : j < 65) where
  row-names : (n : ℕ) → j < n → (quiet : Bool) → names_entry n (row_at j + cond quiet 0 1) ≡ true
  unfolding names_entry
  row-names n h true =
      let z : (row_at j + 0) / 256 % 128 ≡ 16 + j = omega arith in
      ap₂ (λ (a b : Bool). a && b) (le-leb 16 ((row_at j + 0) / 256 % 128) (omega arith)) (lt-ltb ((row_at j + 0) / 256 % 128) (16 + n) (omega arith))
  row-names n h false =
      let z : (row_at j + 1) / 256 % 128 ≡ 16 + j = omega arith in
      ap₂ (λ (a b : Bool). a && b) (le-leb 16 ((row_at j + 1) / 256 % 128) (omega arith)) (lt-ltb ((row_at j + 1) / 256 % 128) (16 + n) (omega arith))

  row-entry : (quiet : Bool) → entry_in (row_at j + cond quiet 0 1) ≡ j
  row-entry true = omega arith
  row-entry false = omega arith

  row-loud : (quiet : Bool) → is_loud (row_at j + cond quiet 0 1) ≡ not quiet
  row-loud true = let z : (row_at j + 0) % 2 ≡ 0 = omega arith in ap (λ (n : ℕ). eqb n 1) z
  row-loud false = let z : (row_at j + 1) % 2 ≡ 1 = omega arith in ap (λ (n : ℕ). eqb n 1) z

no_names : (n : ℕ) → names_entry n no_entry ≡ false
unfolding names_entry
no_names n = refl

-- ---- a set with no position that keeps a start

apart-same : (w : Automaton) (f : ℕ → Bool) → keeps_start w (set_of f) ≡ false → apart w (set_of f) ≡ set_of f
unfolding intersection_of
apart-same w f e =
    same-members (apart w (set_of f)) (set_of f) (words-set_of _) (words-set_of f)
    (λ q h. has-intersection (set_of f) (complement_of (keepers_of w)) q h ∙ ap (λ (b : Bool). has (set_of f) q && b) (has-complement (keepers_of w) q h)
    ∙ go (has (set_of f) q) (has (keepers_of w) q) (any_none max_positions (λ q. has (set_of f) q && has (keepers_of w) q) e q h))
  where
    go : (a b : Bool) → (a && b) ≡ false → (a && not b) ≡ a
    go true true h = sym h
    go true false h = refl
    go false b h = refl

-- ---- small laws

and : {p q : Bool} → p ≡ true → q ≡ true → (p && q) ≡ true
and p q = ap₂ (λ (x y : Bool). x && y) p q

-- a set that counts none has none
none-counted : (n : ℕ) (f : ℕ → Bool) → count n f ≡ 0 → any n f ≡ false
unfolding count any
none-counted zero f e = refl
none-counted (suc n) f e = go (f n) e (none-counted n f)
  where
    go : (d : Bool) → count n f + as_one d ≡ 0 → (count n f ≡ 0 → any n f ≡ false) → (any n f || d) ≡ false
    go true h ih = absurd (omega arith)
    go false h ih = ap (λ (d : Bool). d || false) (ih (omega arith))

no_member : (s : List ℕ) → size_of s ≡ 0 → is_empty s ≡ true
unfolding size_of is_empty
no_member s e = ap not (none-counted max_positions (has s) e)

-- ---- the rules that a word names

on-rules : (w : Automaton) → w.rules ≤ 64 → (f : ℕ → Bool) (a : ℕ) → a < w.rules → on (rules_where w f) a ≡ f a
on-rules w few f a h = on-word_of 64 (λ a. ltb a w.rules && f a) a (omega arith) ∙ ap (λ (b : Bool). b && f a) (lt-ltb a w.rules h)

-- ---- the words of any entries

module _ (w : Automaton) (rules-few : w.rules ≤ 64) (es : List Key) (c : List ℕ) (long : second_words ≤ length c) (few : length es ≤ max_entries)
    (good : (e : ℕ) → Good w (get_or es e start_key)) where
  abbrev b : List ℕ
  b = laid w es c long few

  number : entries_of b ≡ length es
  number = entries-is w es c long few

  live_is : (e : ℕ) → e < length es → entry_live b e ≡ (key_at w es e).live
  live_is e h = live_words w es c long few e h ∙ (good e).live_four

  held_is : (e : ℕ) → e < length es → entry_held b e ≡ (key_at w es e).held
  held_is e h = held-words w es c long few e h ∙ (good e).held_four

  module _ (s : Stream) (e x : ℕ) (stands : Stands b s e) (inside : e < length es) (byte : x < 256) where
    abbrev k : Key
    k = key_at w es e

    abbrev z : Stream
    z = state_at e k

    lives : z.live ≡ s.live
    lives = sym (live_is e inside) ∙ stands.live_is

    lasts : z.last ≡ s.last
    lasts = sym (last-side w es c long few e inside) ∙ stands.last_is

    abbrev j : ℕ
    j = leads_to w es e x

    -- where the byte leads to an entry
    module _ (l : j < length es) where
      -- no rule that needs a start has a part in it
      new : needs_old w e k x ≡ false
      unfolding leads_to
      new = go (needs_old w e k x) l
        where
          go : (d : Bool) → cond d (length es) (place_of w es (next_key w e k x)) < length es → d ≡ false
          go true h = absurd (omega arith)
          go false h = refl

      abbrev i : ℕ
      i = place_of w es (next_key w e k x)

      j-is : j ≡ i
      unfolding leads_to
      j-is = ap (λ (d : Bool). cond d (length es) i) new

      found-key : (not (eqb i 0) && same_key (key_at w es i) (next_key w e k x)) ≡ true
      unfolding place_of
      found-key = first_passes (length es) (λ m. not (eqb m 0) && same_key (get_or es m start_key) (next_key w e k x)) (omega (arith, j-is))

      key-is : key_at w es j ≡ next_key w e k x
      key-is = ap (key_at w es) j-is ∙ key-same (key_at w es i) (next_key w e k x) ((and-eq-true_iff (not (eqb i 0)) _).0 found-key).1

      kept_out : (keeps_start w (next_live w z x) ≡ false) × (keeps_start w (next_held w z x) ≡ false)
      unfolding needs_old
      kept_out = go (keeps_start w (next_live w z x)) (keeps_start w (next_held w z x)) _ new
        where
          go : (p q r : Bool) → ((p || q) || r) ≡ false → (p ≡ false) × (q ≡ false)
          go true q r h = absurd (true≢false h)
          go false true r h = absurd (true≢false h)
          go false false r h = (refl, refl)

      next-live : (key_at w es j).live ≡ next_live w s x
      unfolding next_key stepped
      next-live = ap (λ (m : Key). m.live) key-is ∙ apart-same w _ kept_out.0 ∙ live_alike w z s x lives lasts stands.first_is

      next-held : (key_at w es j).held ≡ next_held w s x
      unfolding next_key next_held stepped empty_set
      next-held = ap (λ (m : Key). m.held) key-is ∙ go (eqb x 10) kept_out.1 ∙ held-alike w z s x lives lasts stands.first_is
        where
          go : (d : Bool) → keeps_start w (cond d (stepped w true z.last (side_of x) w.positions z.live z.taken x) empty_set) ≡ false
              → apart w (cond d (stepped w true z.last (side_of x) w.positions z.live z.taken x) empty_set) ≡ cond d (stepped w true z.last (side_of x) w.positions z.live z.taken x) empty_set
          go true h = apart-same w _ h
          go false h = apart-same w _ h

      next-pending : (key_at w es j).pending ≡ next_pending w s x
      unfolding next_key
      next-pending = ap (λ (m : Key). m.pending) key-is ∙ pending-alike w z s x lives lasts stands.first_is

      next_last : (key_at w es j).last ≡ side_of x
      unfolding next_key
      next_last = ap (λ (m : Key). m.last) key-is

      late : ℕ
      late = late_of w k (side_of x)

      own : ℕ
      own = own_of w (key_at w es j)

      quiet : Bool
      quiet = is_quiet w es e j x

      word-is : target_word b e x ≡ row_at j + cond quiet 0 1
      unfolding target_of quiet
      word-is = target_is w es c long few e inside x byte ∙ ap (λ (t : Bool). cond t (row_at j + cond (is_quiet w es e j x) 0 1) no_entry) (lt-ltb j (length es) l)

      entry-is : next_entry b e x ≡ j
      entry-is = ap entry_in word-is ∙ row-entry j (omega arith) quiet

      loud-is : is_loud (target_word b e x) ≡ not quiet
      loud-is = ap is_loud word-is ∙ row-loud j (omega arith) quiet

      silent : quiet ≡ true → (late ≡ 0) × (own ≡ 0)
      unfolding quiet is_quiet late own
      silent h =
          let p = (and-eq-true_iff (eqb (late_of w k (side_of x)) 0 && eqb (own_of w (key_at w es j)) 0) _).0 h in
          let q = (and-eq-true_iff (eqb (late_of w k (side_of x)) 0) (eqb (own_of w (key_at w es j)) 0)).0 p.0 in
          (eqb-true (late_of w k (side_of x)) 0 q.0, eqb-true (own_of w (key_at w es j)) 0 q.1)

      late-rules-are : late_rules b e x ≡ late
      unfolding late_rules late
      late-rules-are = ap (λ (d : Bool). cond d (entry_late b e (side_of x)) 0) loud-is ∙ go quiet refl
        where
          go : (q : Bool) → quiet ≡ q → cond (not q) (entry_late b e (side_of x)) 0 ≡ late_of w k (side_of x)
          go true q = sym (silent q).0
          go false q = late-word w es c long few e inside (side_of x)

      own-rules-are : own_rules b e x ≡ own
      unfolding own_rules own
      own-rules-are = ap₂ (λ (d : Bool) (m : ℕ). cond d (entry_own b m) 0) loud-is entry-is ∙ go quiet refl
        where
          go : (q : Bool) → quiet ≡ q → cond (not q) (entry_own b j) 0 ≡ own_of w (key_at w es j)
          go true q = sym (silent q).1
          go false q = own-word w es c long few j l

      leads_right : LeadsRight w b s e x
      unfolding late own
      leads_right = record {
        live_is = ap (entry_live b) entry-is ∙ live_is j l ∙ next-live;
        held_is = ap (entry_held b) entry-is ∙ held_is j l ∙ next-held;
        pending_is = ap (entry_pending b) entry-is ∙ pending-word w es c long few j l ∙ next-pending;
        last_is = ap (entry_last b) entry-is ∙ last-side w es c long few j l ∙ next_last;
        later = ap (λ (m : ℕ). eqb m 0) (entry-is ∙ j-is) ∙ not-true (eqb i 0) ((and-eq-true_iff (not (eqb i 0)) _).0 found-key).0;
        late_is = λ a h.
            ap (λ (v : ℕ). on v a) late-rules-are
            ∙ on-rules w rules-few (ends_newly w (between z.last (side_of x)) (late_in w z.live) unsettled z.live) a h
            ∙ late-alike w z s x lives lasts stands.first_is a;
        own_is = λ a h.
            ap (λ (v : ℕ). on v a) own-rules-are
            ∙ on-rules w rules-few (ends w unsettled (key_at w es j).live) a h
            ∙ ap (λ (m : List ℕ). ends w unsettled m a) next-live;
      }

      -- what a rule that needs a start has no part in
      parts_out : (tells_start w (next_pending w z x) ≡ false) × (tells_start w (late_of w k (side_of x)) ≡ false) × (tells_start w (rules_where w (ends w unsettled (next_live w z x))) ≡ false)
      unfolding needs_old
      parts_out = go (keeps_start w (next_live w z x) || keeps_start w (next_held w z x)) (tells_start w (next_pending w z x)) (tells_start w (late_of w k (side_of x))) (tells_start w (rules_where w (ends w unsettled (next_live w z x)))) new
        where
          go : (p q r t : Bool) → (p || (q || (r || t))) ≡ false → (q ≡ false) × (r ≡ false) × (t ≡ false)
          go true q r t h = absurd (true≢false h)
          go false true r t h = absurd (true≢false h)
          go false false true t h = absurd (true≢false h)
          go false false false t h = (refl, refl, h)

      startless : Startless w s x
      startless = record {
        live_words = subst Words lives (good e).live_words;
        live = ap (keeps_start w) (sym lives) ∙ (good e).live_apart;
        next = ap (keeps_start w) (sym (live_alike w z s x lives lasts stands.first_is)) ∙ kept_out.0;
        held = ap (keeps_start w) (sym (held-alike w z s x lives lasts stands.first_is)) ∙ kept_out.1;
        pending = ap (tells_start w) (sym (pending-alike w z s x lives lasts stands.first_is)) ∙ parts_out.0;
        late = sym (λ i. tells_start w (rules_where w (ends_newly w (between (lasts i) (side_of x)) (late_in w (lives i)) unsettled (lives i)))) ∙ parts_out.1;
        own = sym (λ i. tells_start w (rules_where w (ends w unsettled (live_alike w z s x lives lasts stands.first_is i)))) ∙ parts_out.2;
      }

  -- ---- the entries at rest

  idle : (e : ℕ) → e < length es → entry_busy b e ≡ 0 → entry_live b e ≡ empty_set
  idle e h z =
      live_is e h ∙ empty-is (key_at w es e).live (good e).live_words (no_member (key_at w es e).live (sym (busy-word w es c long few e h) ∙ z))

  module _ (side : Side) (inside : rest_entry b side < length es) where
    abbrev at_rest : ℕ → Bool
    at_rest e = not (eqb e 0) && (is_empty (key_at w es e).live && eqb (side_word (key_at w es e).last) (side_word side))

    abbrev word : ℕ
    word = get_or b (resting_at side) 0

    -- the word of the header names the entry
    named : (names_entry (entries_of b) word ≡ true) × (rest_entry b side ≡ entry_in word)
    unfolding rest_entry
    named = go (names_entry (entries_of b) word) (eqb (entry_busy b (entry_in word)) 0) refl inside
      where
        go : (p q : Bool) → names_entry (entries_of b) word ≡ p → cond (p && q) (entry_in word) (entries_of b) < length es
            → (names_entry (entries_of b) word ≡ true) × (cond (p && q) (entry_in word) (entries_of b) ≡ entry_in word)
        go true true e h = (e, refl)
        go true false e h = absurd (omega (arith, number))
        go false q e h = absurd (omega (arith, number))

    rest-is : (rests_at w es side < length es) × (rest_entry b side ≡ rests_at w es side)
    unfolding names_entry
    rest-is = go (ltb (rests_at w es side) (length es)) refl
      where
        go : (p : Bool) → ltb (rests_at w es side) (length es) ≡ p → (rests_at w es side < length es) × (rest_entry b side ≡ rests_at w es side)
        go true e =
            let l : rests_at w es side < length es = ltb-true (rests_at w es side) (length es) e in
            let word-is : word ≡ row_at (rests_at w es side) = resting-word w es c long few side ∙ ap (λ (t : Bool). cond t (row_at (rests_at w es side)) 0) e in
            (l, named.1 ∙ ap entry_in word-is ∙ ap entry_in (sym (add-zero (row_at (rests_at w es side)))) ∙ row-entry (rests_at w es side) (omega arith) true)
        go false e =
            let word-is : word ≡ 0 = resting-word w es c long few side ∙ ap (λ (t : Bool). cond t (row_at (rests_at w es side)) 0) e in
            absurd (true≢false (sym named.0 ∙ ap (names_entry (entries_of b)) word-is))

    passes-rest : at_rest (rests_at w es side) ≡ true
    unfolding rests_at
    passes-rest = first_passes (length es) at_rest rest-is.0

    rest_last : entry_last b (rest_entry b side) ≡ side
    rest_last =
        let p = (and-eq-true_iff (not (eqb (rests_at w es side) 0)) _).0 passes-rest in
        ap (entry_last b) rest-is.1 ∙ last-side w es c long few (rests_at w es side) rest-is.0
        ∙ side_same (key_at w es (rests_at w es side)).last side ((and-eq-true_iff (is_empty (key_at w es (rests_at w es side)).live) _).0 p.1).1

    rest_later : eqb (rest_entry b side) 0 ≡ false
    rest_later = ap (λ (m : ℕ). eqb m 0) rest-is.1 ∙ not-true (eqb (rests_at w es side) 0) ((and-eq-true_iff (not (eqb (rests_at w es side) 0)) _).0 passes-rest).0

    rest_live : entry_live b (rest_entry b side) ≡ empty_set
    rest_live =
        let p = (and-eq-true_iff (not (eqb (rests_at w es side) 0)) _).0 passes-rest in
        ap (entry_live b) rest-is.1 ∙ live_is (rests_at w es side) rest-is.0
        ∙ empty-is (key_at w es (rests_at w es side)).live (good (rests_at w es side)).live_words ((and-eq-true_iff (is_empty (key_at w es (rests_at w es side)).live) _).0 p.1).0

  -- ---- all of it

  -- a word that names an entry is that of a byte which leads to one
  leading : (e x : ℕ) → leads b e x ≡ true → (e < length es) × (x < 256) × (leads_to w es e x < length es)
  unfolding leads target_word target_of
  leading e x l =
      let both = (and-eq-true_iff (ltb e (entries_of b)) (names_entry (entries_of b) (target_word b e x))).0 l in
      go (omega (arith, number, ltb-true e (entries_of b) both.0)) (dec_lt x 256) (dec_lt (leads_to w es e x) (length es)) both.1
    where
      go : e < length es → Dec (x < 256) → Dec (leads_to w es e x < length es) → names_entry (entries_of b) (target_word b e x) ≡ true → (e < length es) × (x < 256) × (leads_to w es e x < length es)
      go inside (yes byte) (yes h) n = (inside, byte, h)
      go inside (yes byte) (no h) n =
          let v : target_word b e x ≡ no_entry = target_is w es c long few e inside x byte
          ∙ ap (λ (t : Bool). cond t (row_at (leads_to w es e x) + cond (is_quiet w es e (leads_to w es e x) x) 0 1) no_entry) (le-ltb (leads_to w es e x) (length es) (omega arith)) in
          absurd (true≢false (sym n ∙ ap (names_entry (entries_of b)) v ∙ no_names (entries_of b)))
      go inside (no byte) h n =
          let v : target_word b e x ≡ no_entry = ap (λ (t : Bool). cond t (get_or b (row_at e + x) 0) no_entry) (le-ltb x 256 (omega arith)) in
          absurd (true≢false (sym n ∙ ap (names_entry (entries_of b)) v ∙ no_names (entries_of b)))

  pub laid-right : Right w b
  laid-right = record {
    leads_right = λ s e x stands l. let h = leading e x l in leads_right s e x stands h.0 h.1 h.2;
    idle = λ e h. idle e (omega (arith, number));
    rest_last = λ side h. rest_last side (omega (arith, number));
    rest_later = λ side h. rest_later side (omega (arith, number));
    rest_live = λ side h. rest_live side (omega (arith, number));
  }

  pub laid-right-too : RightToo w b
  laid-right-too = record {
    right = laid-right;
    startless = λ s e x stands l. let h = leading e x l in startless s e x stands h.0 h.1 h.2;
  }

  -- ---- the test

  places-in : (f : ℕ → Bool) → rules_in w.rules (rules_where w f) ≡ true
  unfolding rules_in
  places-in f =
      ap not (any-never 64 (λ a. on (rules_where w f) a && not (ltb a w.rules))
      (λ a h. ap (λ (t : Bool). t && not (ltb a w.rules)) (on-word_of 64 (λ a. ltb a w.rules && f a) a h) ∙ out (ltb a w.rules) (f a)))
    where
      out : (p q : Bool) → ((p && q) && not p) ≡ false
      out true true = refl
      out true false = refl
      out false q = refl

  entry-passes : (e : ℕ) → e < length es → entry_ok w.rules w.positions b e ≡ true
  unfolding entry_ok
  entry-passes e h =
      and (ap (positions_in w.positions) (live_is e h) ∙ (good e).live_in)
      (and (ap (positions_in w.positions) (held_is e h) ∙ (good e).held_in)
      (and (ap (rules_in w.rules) (pending-word w es c long few e h) ∙ (good e).pending_in)
      (and (ap (rules_in w.rules) (own-word w es c long few e h) ∙ places-in (ends w unsettled (key_at w es e).live))
      (and (late-in Other) (and (late-in Word) (and (late-in Newline)
      (eq-eqb (entry_busy b e) (size_of (entry_live b e)) (busy-word w es c long few e h ∙ ap size_of (sym (live_is e h))))))))))
    where
      late-in : (side : Side) → rules_in w.rules (entry_late b e side) ≡ true
      late-in side =
          ap (rules_in w.rules) (late-word w es c long few e h side)
          ∙ places-in (ends_newly w (between (key_at w es e).last side) (late_in w (key_at w es e).live) unsettled (key_at w es e).live)

-- ---- a build

module _ (t c : List ℕ) (table : is_table t ≡ true) (long : second_words ≤ length c) where
  abbrev w : Automaton
  w = automaton t

  abbrev es : List Key
  es = entries w

  few : length es ≤ max_entries
  few = (found-few w (max_entries * 256)).1

  pub few_rules : w.rules ≤ 64
  unfolding automaton
  few_rules = (passes t table).rules

  good : (e : ℕ) → Good w (get_or es e start_key)
  good = found-good w (max_entries * 256)

  -- "kept by every build"
  pub second-passes : is_second t (second t c) ≡ true
  unfolding is_second second automaton
  second-passes =
      and (le-leb second_words (length (second t c)) (omega (arith, length_over 0 second_words (second_word w es) c)))
      (and (eq-eqb (get_or (second t c) 0 0) second_format (format-is w es c long few))
      (and (eq-eqb (second_rules (second t c)) (rules_of t) (rules-is w es c long few))
      (and (eq-eqb (second_positions (second t c)) (positions_of t) (positions_is w es c long few))
      (and (le-leb (entries_of (second t c)) max_entries (omega (arith, number, few)))
      (ap (λ (n : ℕ). all n (entry_ok (rules_of t) (positions_of t) (second t c))) number
      ∙ at_all (entry_ok (rules_of t) (positions_of t) (second t c)) (length es) (entry-passes w few_rules es c long few good))))))
    where
      number : entries_of (second t c) ≡ length es
      number = entries-is w es c long few

  -- and it is right
  pub second-right : RightToo w (second t c)
  unfolding second
  second-right = laid-right-too w few_rules es c long few good
