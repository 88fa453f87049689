-- Worked cases. A busy figure: after the bytes `ba`, the rule `ba{0,2}` has one live position. Its
-- optional copies are nested, so the second `a` can only follow the first; side by side either
-- could have taken the byte, and two would be live. Pairs that wait: of `a(?:\b|\B)` and `ba\b|a\B`
-- one way or the other holds whatever comes, and yet neither is known to hold before the next byte
-- or the end. And `^` in line mode after a newline, the last byte or not. Starts: `a|ba\z` on `ba`
-- gives offset 2 with start 1, since that match alone is settled with the byte; `a|ba\b` with
-- smallest length 2 gives it on `ba-` one byte late, with start 0; `(?:xa$)?\n$` on `xa` and a
-- newline gives offset 3 with start 0, a way through a position that no live one leads to; `$\n` on
-- `x` and a newline gives 2 with start 1, at the closing. Of these four the whole list is that one
-- report; their trees are as the reader makes them, each branch with an empty end. And a window that
-- a single-match rule's first match lies before. Assumes nothing.
use mathlib.Core.Path.{◌≡◌, refl, sym, subst, subst₂, ◌∙◌}
use mathlib.Core.Logic.{◌⊎◌, inl, inr}
use mathlib.Core.Bool.{true, false}
use mathlib.Core.List.Memᴰ
use mathlib.Core.List.{List, [], ◌∷◌, Memᴰ}
use Prim.Native.Nat.{ℕ, zero, suc, ◌+◌, ◌≤◌, ◌<◌, ◌^◌}
use native.Mathlib.Omega.{arith}
use native.Mathlib.Decide.{ℕ_discrete}
use lib.Dec.{T}
use lib.ListN.{length}
use Rattle.sets.specs.Set.{has, on}
use Rattle.kinds.specs.Kind.{is_word, is_lower, is_upper, is_digit}
use Rattle.kinds.specs.Side.{side_of}
use Rattle.meaning.specs.Tree.{Means, Allows, Times, empty, item, assertion, then, or, repeat, at_most}
use Rattle.meaning.specs.Form.{write, repeated, copies, optionals, positions, Match, Reach}
use Rattle.meaning.specs.Gap.{known_before}
use Rattle.meaning.specs.Rule.{Rule, no_windows, at_last_line, at_end, line_start, word_edge, no_word_edge, ByteSet, stream, MatchEnds}
use Rattle.meaning.specs.Live.{Live, none, one, skip, Busy}
use Rattle.meaning.specs.Ordered.{closing_moment, seen, Settled, Falls, Stays, StartIs, Earlier, Entry, entry, Rising, Owed, Ordered}
use Rattle.meaning.proofs.Range.{reach-inside}
use Rattle.meaning.proofs.Moments.{within, settled-whole, falls_at, falls-after}
use Rattle.meaning.proofs.OneList.{one-start}
use Rattle.meaning.proofs.Reports.{falls-match, one-moment}

-- the sets of `a`, byte 97, and of `b`, byte 98
abbrev a : ByteSet
a = 0 ∷ 2 ^ 33 ∷ 0 ∷ 0 ∷ []

abbrev b : ByteSet
b = 0 ∷ 2 ^ 34 ∷ 0 ∷ 0 ∷ []

abbrev rule : Rule
rule = record { id = 1; single = false; starts = false; windows = no_windows; tree = then (item b) (repeat (item a) 0 (at_most 2)) }

abbrev ba : List ℕ
ba = 98 ∷ 97 ∷ []

first-dead : ¬ Live rule ba 0
unfolding write repeated copies optionals positions Match Reach has on
first-dead (s, inl r) = let is-1 : s ≡ 1 = omega (arith, r.1) in subst (λ (k : ℕ). T ((stream ba false).hit b k)) is-1 r.2
first-dead (s, inr r) = omega (arith, reach-inside (stream ba false) (write (repeat (item a) 0 (at_most 2))) 1 r.0 0 2 r.2)

second_live : Live rule ba 1
unfolding write repeated copies optionals positions Match Reach has on
second_live = (0, inr (1, (refl, tt), inl (refl, refl, tt)))

third-dead : ¬ Live rule ba 2
unfolding write repeated copies optionals positions Match Reach has on
third-dead (s, inl r) = omega (arith, r.0)
third-dead (s, inr (m, x, inl r)) = omega (arith, r.0)
third-dead (s, inr (m, x, inr (k, y, inl r))) = omega (arith, x.0, y.0, r.1)
third-dead (s, inr (m, x, inr (k, y, inr r))) = r.2

pub one-live : Busy (rule ∷ []) ba 1
unfolding Busy write repeated copies optionals positions
one-live = (1, 0, skip third-dead (one second_live (skip first-dead none)), refl, refl)

-- ---- pairs that wait

-- `a(?:\b|\B)`
abbrev either : Rule
either = record { id = 1; single = false; starts = false; windows = no_windows; tree = then (item a) (or (assertion word_edge) (assertion no_word_edge)) }

-- `ba\b|a\B`
abbrev two : Rule
two = record { id = 1; single = false; starts = false; windows = no_windows; tree = or (then (item b) (then (item a) (assertion word_edge))) (then (item a) (assertion no_word_edge)) }

either-not-yet : (x : ℕ) → ¬ Settled (97 ∷ x ∷ []) either 1 1
unfolding Means known_before side_of
either-not-yet x h = go h.matched.2
  where
    go : Means (seen (97 ∷ x ∷ []) 1) (or (assertion word_edge) (assertion no_word_edge)) h.matched.0 1 → ⊥
    go (inl y) = subst (λ (k : ℕ). T ((seen (97 ∷ x ∷ []) 1).known word_edge k)) y.0 y.1
    go (inr y) = subst (λ (k : ℕ). T ((seen (97 ∷ x ∷ []) 1).known no_word_edge k)) y.0 y.1

-- it falls with the next byte: another `a`, where no word ends, or a newline, where one does
pub either-waits : Falls (97 ∷ 97 ∷ []) either 2 1
unfolding Means known_before side_of is_word is_lower has on
either-waits = (falls-after (97 ∷ 97 ∷ []) either 1 1 (omega arith) (omega arith)).1 (record { start = 0; earlier = omega arith; matched = (1, (refl, tt), inr (refl, tt)); inside = (omega arith, omega arith, omega arith) }, either-not-yet 97)

pub either-waits-too : Falls (97 ∷ 10 ∷ []) either 2 1
unfolding Means known_before side_of is_word is_lower has on
either-waits-too = (falls-after (97 ∷ 10 ∷ []) either 1 1 (omega arith) (omega arith)).1 (record { start = 0; earlier = omega arith; matched = (1, (refl, tt), inl (refl, tt)); inside = (omega arith, omega arith, omega arith) }, either-not-yet 10)

two-not-yet : ¬ Settled ba two 2 2
unfolding Means known_before side_of
two-not-yet h = go h.start h.matched
  where
    go : (s : ℕ) → Means (seen ba 2) two.tree s 2 → ⊥
    go s (inl y) = subst (λ (k : ℕ). T ((seen ba 2).known word_edge k)) y.2.2.0 y.2.2.1
    go s (inr y) = subst (λ (k : ℕ). T ((seen ba 2).known no_word_edge k)) y.2.0 y.2.1

-- it falls at the closing, where a word ends
pub two-waits : Falls ba two 3 2
unfolding Means known_before side_of is_word is_lower has on
two-waits = (falls-after ba two 2 2 (omega arith) (omega arith)).1 (record { start = 0; earlier = omega arith; matched = inl (1, (refl, tt), (2, (refl, tt), (refl, tt))); inside = (omega arith, omega arith, omega arith) }, two-not-yet)

-- ---- `^` in line mode: after a newline, unless it is the stream's last byte

pub line-starts : T ((stream (10 ∷ 97 ∷ []) false).known line_start 1)
unfolding known_before side_of is_word
line-starts = tt

pub no-line-starts : ¬ T ((stream (10 ∷ []) true).known line_start 1)
unfolding known_before side_of
no-line-starts h = h

-- ---- starts, and windows

-- what one rule alone owes
of_one : (r : Rule) (bytes : List ℕ) (m e i s : ℕ) → Owed (r ∷ []) bytes (entry m e i s) → (r.id ≡ i) × Stays bytes r m e × StartIs bytes r m e s
of_one r bytes m e i s h = elim (Memᴰ.cases_cons h.1) [
  | inl q ↦ subst (λ (x : Rule). (x.id ≡ i) × Stays bytes x m e × StartIs bytes x m e s) q (h.2, h.3, h.4)
  | inr l ↦ absurd (Memᴰ.not-nil l)
]

-- its list, where all its matches end at one offset
one-pair : (r : Rule) (bytes : List ℕ) (m e s : ℕ) → Owed (r ∷ []) bytes (entry m e r.id s) → ((d : ℕ) → MatchEnds r bytes d → d ≡ e)
    → Ordered (r ∷ []) bytes ((r.id, e, s) ∷ [])
unfolding Rising
one-pair r bytes m e s owed only = record {
  list = entry m e r.id s ∷ [];
  is_list = record { rising = (λ y h. absurd (Memᴰ.not-nil h), tt); exactly = λ x. (λ h. listed x (Memᴰ.cases_cons h), λ h. Memᴰ.head (same x h)) };
  given = refl;
}
  where
    listed : (x : Entry) → (x ≡ entry m e r.id s) ⊎ Memᴰ x [] → Owed (r ∷ []) bytes x
    listed x (inl q) = subst (Owed (r ∷ []) bytes) (sym q) owed
    listed x (inr h) = absurd (Memᴰ.not-nil h)

    same : (x : Entry) → Owed (r ∷ []) bytes x → x ≡ entry m e r.id s
    same (entry j d i u) h =
        let there = of_one r bytes m e r.id s owed in
        let x = of_one r bytes j d i u h in
        let at : d ≡ e = only d ((falls-match bytes r d).0 (j, x.1.falls)) in
        let falls : Falls bytes r j e = subst (Falls bytes r j) at x.1.falls in
        let when : j ≡ m = one-moment bytes r j m e falls there.1.falls in
        let begins : StartIs bytes r m e u = subst₂ (λ (k o : ℕ). StartIs bytes r k o u) when at x.2 in
        let from : u ≡ s = one-start bytes r m e u s begins there.2 in
        let by : r.id ≡ i = x.0 in
        cc

-- a match ends within the stream
ends-within : (r : Rule) (bytes : List ℕ) (d : ℕ) → MatchEnds r bytes d → d ≤ length bytes
ends-within r bytes d h = (within bytes r (closing_moment bytes) d ((settled-whole bytes r d).1 h)).1

-- `a|ba\z`, leftmost start
abbrev pub leftmost : Rule
leftmost = record {
  id = 1;
  single = false;
  starts = true;
  windows = no_windows;
  tree = or (then (item a) empty) (then (item b) (then (item a) (then (assertion at_end) empty)));
}

pub starts-at-one : Owed (leftmost ∷ []) ba (entry 2 2 1 1)
unfolding Means known_before side_of is_word is_lower has on
starts-at-one = (
  leftmost,
  Memᴰ.head refl,
  refl,
  record {
    falls = falls_at ba leftmost 2 (record { start = 1; earlier = omega arith; matched = inl (2, (refl, tt), refl); inside = (omega arith, omega arith, omega arith) });
    first = λ j d f h. h.0;
  },
  record { leftmost = λ t. record { there = (omega arith, inl (2, (refl, tt), refl)); least = λ u h. only u h.1 }; without = λ n. absurd (n tt) },
)
  where
    only : (u : ℕ) → Means (seen ba 2) leftmost.tree u 2 → 1 ≤ u
    only u (inl h) = omega (arith, h.1.0, h.2)
    only u (inr h) = let y = h.2.2 in absurd (subst (λ (k : ℕ). T ((seen ba 2).known at_end k)) (y.1.0 ∙ y.2) y.1.1)

pub leftmost-list : Ordered (leftmost ∷ []) ba ((1, 2, 1) ∷ [])
unfolding Means has on
leftmost-list = one-pair leftmost ba 2 2 1 starts-at-one (λ d h. only d (ends-within leftmost ba d h) h.0 h.1 h.2)
  where
    only : (d : ℕ) → d ≤ 2 → (s : ℕ) → s < d → Means (stream ba true) leftmost.tree s d → d ≡ 2
    only d le s lt (inl h) = elim (ℕ_discrete d 2) [
      | yes q ↦ q
      | no n ↦ let at-0 : s ≡ 0 = omega (arith, h.1.0, h.2) in absurd (subst (λ (k : ℕ). T ((stream ba true).hit a k)) at-0 h.1.1)
    ]
    only d le s lt (inr h) = omega (arith, h.1.0, h.2.1.0, h.2.2.1.0, h.2.2.2)

-- `a|ba\b`, leftmost start, smallest length 2
abbrev pub long : Rule
long = record {
  id = 1;
  single = false;
  starts = true;
  windows = record { smallest_end = 0; largest_end = no_windows.largest_end; smallest_length = 2 };
  tree = or (then (item a) empty) (then (item b) (then (item a) (then (assertion word_edge) empty)));
}

abbrev ba- : List ℕ
ba- = 98 ∷ 97 ∷ 45 ∷ []

long-not-yet : ¬ Settled ba- long 2 2
unfolding Means known_before side_of
long-not-yet h = go h.start h.inside.2 h.matched
  where
    go : (s : ℕ) → s + 2 ≤ 2 → Means (seen ba- 2) long.tree s 2 → ⊥
    go s le (inl y) = omega (arith, y.1.0, y.2)
    go s le (inr y) = let z = y.2.2 in subst (λ (k : ℕ). T ((seen ba- 2).known word_edge k)) (z.1.0 ∙ z.2) z.1.1

long-matches : Means (seen ba- 3) long.tree 0 2
unfolding Means known_before side_of is_word is_lower is_upper is_digit has on
long-matches = inr (1, (refl, tt), (2, (refl, tt), (2, (refl, tt), refl)))

pub comes-late : Owed (long ∷ []) ba- (entry 3 2 1 0)
comes-late = (
  long,
  Memᴰ.head refl,
  refl,
  record {
    falls = (falls-after ba- long 2 2 (omega arith) (omega arith)).1 (
      record { start = 0; earlier = omega arith; matched = long-matches; inside = (omega arith, omega arith, omega arith) },
      long-not-yet,
    );
    first = λ j d f h. h.0;
  },
  record { leftmost = λ t. record { there = (omega arith, long-matches); least = λ u h. omega arith }; without = λ n. absurd (n tt) },
)

pub long-list : Ordered (long ∷ []) ba- ((1, 2, 0) ∷ [])
unfolding Means has on
long-list = one-pair long ba- 3 2 0 comes-late (λ d h. only d (ends-within long ba- d h) h.0 h.3.2 h.2)
  where
    only : (d : ℕ) → d ≤ 3 → (s : ℕ) → s + 2 ≤ d → Means (stream ba- true) long.tree s d → d ≡ 2
    only d le s few (inl h) = omega (arith, h.1.0, h.2)
    only d le s few (inr h) = elim (ℕ_discrete d 2) [
      | yes q ↦ q
      | no n ↦ let at_1 : s ≡ 1 = omega (arith, h.1.0, h.2.1.0, h.2.2.1.0, h.2.2.2) in absurd (subst (λ (k : ℕ). T ((stream ba- true).hit b k)) at_1 h.1.1)
    ]

-- the sets of `x`, byte 120, and of the newline
abbrev x : ByteSet
x = 0 ∷ 2 ^ 56 ∷ 0 ∷ 0 ∷ []

abbrev newline : ByteSet
newline = 2 ^ 10 ∷ 0 ∷ 0 ∷ 0 ∷ []

-- `(?:xa$)?\n$`, leftmost start
abbrev pub held : Rule
held = record {
  id = 1;
  single = false;
  starts = true;
  windows = no_windows;
  tree = then (repeat (then (item x) (then (item a) (then (assertion at_last_line) empty))) 0 (at_most 1))
      (then (item newline) (then (assertion at_last_line) empty));
}

abbrev xa↵ : List ℕ
xa↵ = 120 ∷ 97 ∷ 10 ∷ []

held-not-yet : ¬ Settled xa↵ held 3 3
unfolding Means known_before side_of
held-not-yet h = let y = h.matched.2.2 in subst (λ (k : ℕ). T ((seen xa↵ 3).known at_last_line k)) (y.1.0 ∙ y.2) y.1.1

held-matches : Means (seen xa↵ 4) held.tree 0 3
unfolding Means Allows Times known_before side_of has on
held-matches = (2, (1, (omega arith, omega arith), (2, (1, (refl, tt), (2, (refl, tt), (2, (refl, tt), refl))), refl)), (3, (refl, tt), (3, (refl, tt), refl)))

pub starts-before : Owed (held ∷ []) xa↵ (entry 4 3 1 0)
starts-before = (
  held,
  Memᴰ.head refl,
  refl,
  record {
    falls = (falls-after xa↵ held 3 3 (omega arith) (omega arith)).1
        (record { start = 0; earlier = omega arith; matched = held-matches; inside = (omega arith, omega arith, omega arith) }, held-not-yet);
    first = λ j d f h. h.0;
  },
  record { leftmost = λ t. record { there = (omega arith, held-matches); least = λ u h. omega arith }; without = λ n. absurd (n tt) },
)

pub held-list : Ordered (held ∷ []) xa↵ ((1, 3, 0) ∷ [])
unfolding Means has on
held-list = one-pair held xa↵ 4 3 0 starts-before (λ d h. let y = h.2.2 in only d h.2.0 (ends-within held xa↵ d h) (omega (arith, y.1.0, y.2.1.0, y.2.2)) y.1.1)
  where
    only : (d m : ℕ) → d ≤ 3 → suc m ≡ d → T ((stream xa↵ true).hit newline m) → d ≡ 3
    only d zero le e h = absurd h
    only d (suc zero) le e h = absurd h
    only d (suc (suc m)) le e h = omega arith

-- `$\n`, leftmost start: its one position is held alone, never live
abbrev pub bare : Rule
bare = record {
  id = 1;
  single = false;
  starts = true;
  windows = no_windows;
  tree = then (assertion at_last_line) (then (item newline) empty);
}

abbrev x↵ : List ℕ
x↵ = 120 ∷ 10 ∷ []

bare-not-yet : ¬ Settled x↵ bare 2 2
unfolding Means known_before side_of
bare-not-yet h =
    let y = h.matched in
    let at_1 : h.start ≡ 1 = omega (arith, y.1.0, y.2.1.0, y.2.2) in
    subst (λ (k : ℕ). T ((seen x↵ 2).known at_last_line k)) at_1 y.1.1

bare-matches : Means (seen x↵ 3) bare.tree 1 2
unfolding Means known_before side_of has on
bare-matches = (1, (refl, tt), (2, (refl, tt), refl))

pub starts-held : Owed (bare ∷ []) x↵ (entry 3 2 1 1)
unfolding Means
starts-held = (
  bare,
  Memᴰ.head refl,
  refl,
  record {
    falls = (falls-after x↵ bare 2 2 (omega arith) (omega arith)).1
        (record { start = 1; earlier = omega arith; matched = bare-matches; inside = (omega arith, omega arith, omega arith) }, bare-not-yet);
    first = λ j d f h. h.0;
  },
  record {
    leftmost = λ t. record { there = (omega arith, bare-matches); least = λ u h. let y = h.1 in omega (arith, y.1.0, y.2.1.0, y.2.2) };
    without = λ n. absurd (n tt);
  },
)

pub bare-list : Ordered (bare ∷ []) x↵ ((1, 2, 1) ∷ [])
unfolding Means has on
bare-list = one-pair bare x↵ 3 2 1 starts-held (λ d h. let y = h.2.2 in only d h.2.0 (ends-within bare x↵ d h) (omega (arith, y.1.0, y.2)) y.1.1)
  where
    only : (d m : ℕ) → d ≤ 2 → suc m ≡ d → T ((stream x↵ true).hit newline m) → d ≡ 2
    only d zero le e h = absurd h
    only d (suc m) le e h = omega arith

-- `a`, single match, smallest end offset 2: on `aa` it reports 2, since the match that ends at 1
-- does not count
abbrev windowed : Rule
windowed = record { id = 1; single = true; starts = false; windows = record { smallest_end = 2; largest_end = 2; smallest_length = 0 }; tree = item a }

pub counts-inside : Owed (windowed ∷ []) (97 ∷ 97 ∷ []) (entry 2 2 1 0)
unfolding Means known_before side_of is_word is_lower has on
counts-inside = (
  windowed,
  Memᴰ.head refl,
  refl,
  record {
    falls = falls_at (97 ∷ 97 ∷ []) windowed 2 (record { start = 1; earlier = omega arith; matched = (refl, tt); inside = (omega arith, omega arith, omega arith) });
    first = λ j d f h. earlier j d f.from_last f.settled.inside.0 h.1;
  },
  record { leftmost = λ t. absurd t; without = λ n. refl },
)
  where
    earlier : (j d : ℕ) → d ≤ j → 2 ≤ d → Earlier j d 2 2 → ⊥
    earlier j d le two (inl lt) = omega arith
    earlier j d le two (inr h) = omega arith
