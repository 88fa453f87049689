-- A part once more, right behind itself: what the loops move and copy, turn by turn.
use mathlib.Core.Path.{◌≡◌, refl, sym, ap, ap₂, ◌∙◌}
use mathlib.Core.Bool.{Bool, true, false, ◌&&◌, ◌||◌, and-false, or-false}
use mathlib.Core.Logic.{◌⊎◌, inl, inr}
use mathlib.Core.List.{List, ◌++◌}
use Prim.Native.Nat.{ℕ, ◌+◌, ◌-◌, ◌*◌, ◌≤◌, ◌<◌}
use native.Mathlib.Decide.{ℕ_discrete, dec_lt}
use native.Mathlib.Omega.{arith}
use borrow.Author.Tests.{eqb-true, eq-eqb, ne_eqb, le-leb, lt-leb, lt-ltb, le-ltb}
use lib.Dec.{eqb, leb}
use lib.ListN.{length, take, drop}
use lib.Seq.{paste, sets, sets-eq, length-sets, length-take-le}
use Rattle.sets.specs.Set.{has, set_of, empty_set, inserted, union_of}
use Rattle.sets.proofs.Laws.{has-set_of, set_of-ext, inserted-set_of}
use Rattle.automaton.specs.Parts.{four_words}
use Rattle.automaton.specs.Invariants.{has_at, added_to, among, moved_on, Copied}
use Rattle.automaton.proofs.Words.{has-added}

-- ---- numbers in a row

pub among_in : (c n q : ℕ) → c ≤ q → q < c + n → among c n q ≡ true
among_in c n q h l = rw (le-leb c q h, lt-ltb q (c + n) l)

pub among_below : (c n q : ℕ) → q < c → among c n q ≡ false
among_below c n q h = rw (lt-leb c q h)

pub among-above : (c n q : ℕ) → c + n ≤ q → among c n q ≡ false
among-above c n q h = rw (le-ltb q (c + n) h) (and-false (leb c q))

pub among_none : (c q : ℕ) → among c 0 q ≡ false
among_none c q = go (dec_lt q c)
  where
    go : Dec (q < c) → among c 0 q ≡ false
    go (yes h) = among_below c 0 q h
    go (no h) = among-above c 0 q (omega arith)

-- one number more
among_next : (c i q : ℕ) → among c (i + 1) q ≡ (among c i q || eqb q (c + i))
among_next c i q = go (dec_lt q c) (dec_lt q (c + i)) (ℕ_discrete q (c + i))
  where
    go : Dec (q < c) → Dec (q < c + i) → Dec (q ≡ c + i)
        → among c (i + 1) q ≡ (among c i q || eqb q (c + i))
    go (yes h) l d =
        among_below c (i + 1) q h ∙ sym
        (rw (among_below c i q h) (ne_eqb q (c + i) (λ e. omega arith)))
    go (no h) (yes l) d =
        among_in c (i + 1) q (omega arith) (omega arith) ∙ sym (rw (among_in c i q (omega arith) l))
    go (no h) (no l) (yes e) =
        among_in c (i + 1) q (omega arith) (omega arith)
        ∙ sym (rw (among-above c i q (omega arith)) (eq-eqb q (c + i) e))
    go (no h) (no l) (no n) =
        among-above c (i + 1) q (omega arith)
        ∙ sym (rw (among-above c i q (omega arith)) (ne_eqb q (c + i) n))

-- what a test says of the numbers so far, and of the next one
next-hit : (a e h : Bool) → (e ≡ true → h ≡ true) → ((a && h) || e) ≡ ((a || e) && h)
next-hit true true true i = refl
next-hit true true false i = sym (i refl)
next-hit true false true i = refl
next-hit true false false i = refl
next-hit false true true i = refl
next-hit false true false i = sym (i refl)
next-hit false false h i = refl

next-miss : (a e h : Bool) → (e ≡ true → h ≡ false) → (a && h) ≡ ((a || e) && h)
next-miss true e h i = refl
next-miss false true h i = sym (i refl)
next-miss false false h i = refl

-- ---- the members of a set

module _ (c n : ℕ) (s : List ℕ) where
  abbrev on : (i q : ℕ) → Bool
  on i q = among (c + n) i q && has s (q - n)

  pub moved_none : empty_set ≡ moved_on c n 0 s
  unfolding empty_set moved_on
  moved_none = set_of-ext (λ q. false) (on 0) (λ q h. sym (rw (among_none (c + n) q)))

  at : (i q : ℕ) → eqb q (c + n + i) ≡ true → has s (q - n) ≡ has s (c + i)
  at i q e =
      let z : q ≡ c + n + i = eqb-true q (c + n + i) e in
      let y : q - n ≡ c + i = omega arith in
      ap (has s) y

  pub moved-hit : (i : ℕ) → has s (c + i) ≡ true
      → inserted (moved_on c n i s) (c + n + i) ≡ moved_on c n (i + 1) s
  unfolding moved_on
  moved-hit i h =
      inserted-set_of (on i) (c + n + i)
      ∙ set_of-ext (λ q. on i q || eqb q (c + n + i)) (on (i + 1))
      (λ q l. next-hit (among (c + n) i q) (eqb q (c + n + i)) (has s (q - n)) (λ e. at i q e ∙ h)
      ∙ rw (among_next (c + n) i q))

  pub moved-miss : (i : ℕ) → has s (c + i) ≡ false → moved_on c n i s ≡ moved_on c n (i + 1) s
  unfolding moved_on
  moved-miss i h =
      set_of-ext (on i) (on (i + 1))
      (λ q l. next-miss (among (c + n) i q) (eqb q (c + n + i)) (has s (q - n)) (λ e. at i q e ∙ h)
      ∙ rw (among_next (c + n) i q))

-- a set whose members are moved on is known by its members
pub moved-set : (f g : ℕ → Bool) (c n : ℕ) → c + n + n ≤ 256
    → ((q : ℕ) → g (q + n) ≡ f q) → ((q : ℕ) → (q < c + n) ⊎ (c + n + n ≤ q) → g q ≡ false)
    → moved_on c n n (set_of f) ≡ set_of g
unfolding moved_on
moved-set f g c n room same out =
    set_of-ext (λ q. among (c + n) n q && has (set_of f) (q - n)) g
    (λ q h. go q h (dec_lt q (c + n)) (dec_lt q (c + n + n)))
  where
    go : (q : ℕ) → q < 256 → Dec (q < c + n) → Dec (q < c + n + n)
        → (among (c + n) n q && has (set_of f) (q - n)) ≡ g q
    go q h (yes l) d = rw (among_below (c + n) n q l) (sym (out q (inl l)))
    go q h (no l) (yes d) =
        let e : q - n + n ≡ q = omega arith in
        rw (among_in (c + n) n q (omega arith) d)
        (has-set_of f (q - n) (omega arith) ∙ sym (same (q - n)) ∙ ap g e)
    go q h (no l) (no d) =
        rw (among-above (c + n) n q (omega arith)) (sym (out q (inr (omega arith))))

-- ---- the follow rows

pub copied_none : (c n : ℕ) (r : List ℕ) → Copied c n 0 r r
copied_none c n r = record {
  long = refl;
  member = λ full p q h i. sym (rw (among_none (c + n) p) (or-false (has_at r p q)));
}

-- x: it was there; a: the row is copied already; e: the row is the next one; y: what it adds
next_row : (x a e h y : Bool) → (e ≡ true → y ≡ h)
    → ((x || (a && h)) || (e && y)) ≡ (x || ((a || e) && h))
next_row true a e h y i = refl
next_row false true true true y i = refl
next_row false true true false y i = i refl
next_row false true false true y i = refl
next_row false true false false y i = refl
next_row false false true h y i = i refl
next_row false false false h y i = refl

pub copied-turn : {c n i : ℕ} {r r' old new : List ℕ} → Copied c n i r r' → c + n + n ≤ 256 → i < n
    → old ≡ four_words (drop ((c + i) * 4) r') → new ≡ moved_on c n n old
    → Copied c n (i + 1) r (added_to r' (c + n + i) new)
unfolding added_to has_at moved_on
copied-turn {c} {n} {i} {r} {r'} {old} {new} j room low eo en = record {
  long =
      length-sets r' ((c + n + i) * 4)
      (four_words (union_of (four_words (drop ((c + n + i) * 4) r')) new)) ∙ j.long;
  member = λ full p q h l.
      has-added r' (j.long ∙ full) (c + n + i) (omega arith) new p q l
      ∙ ap₂ (λ (x y : Bool). x || (eqb p (c + n + i) && y)) (j.member full p q h l) (adds full q l)
      ∙ next_row (has_at r p q) (among (c + n) i p) (eqb p (c + n + i))
      (among (c + n) n q && has_at r (p - n) (q - n)) (among (c + n) n q && has_at r (c + i) (q - n))
      (here p q)
      ∙ rw (among_next (c + n) i p);
}
  where
    -- the row that is read has not changed
    read : length r ≡ 1024 → (q : ℕ) → q < 256 → has old q ≡ has_at r (c + i) q
    read full q l =
        ap (λ (s : List ℕ). has s q) eo ∙ j.member full (c + i) q (omega arith) l
        ∙ rw (among_below (c + n) i (c + i) (omega arith)) (or-false (has_at r (c + i) q))

    adds : length r ≡ 1024 → (q : ℕ) → q < 256
        → has new q ≡ (among (c + n) n q && has_at r (c + i) (q - n))
    adds full q l =
        ap (λ (s : List ℕ). has s q) en ∙ has-set_of (λ k. among (c + n) n k && has old (k - n)) q l
        ∙ ap (λ (x : Bool). among (c + n) n q && x) (read full (q - n) (omega arith))

    here : (p q : ℕ) → eqb p (c + n + i) ≡ true
        → (among (c + n) n q && has_at r (c + i) (q - n)) ≡
        (among (c + n) n q && has_at r (p - n) (q - n))
    here p q e =
        let z : p ≡ c + n + i = eqb-true p (c + n + i) e in
        let y : c + i ≡ p - n = omega arith in
        ap (λ (k : ℕ). among (c + n) n q && has_at r k (q - n)) y

-- ---- the byte sets

-- a part of a list that is copied, store by store
pub pasted : (d s : List ℕ) (at n : ℕ) → n ≤ length s → at + n ≤ length d → paste d at s n ≡ sets d at (take n s)
pasted d s at n few fits =
    let size : length (take n s) ≡ n = length-take-le n s few in
    sym (sets-eq (take n s) d at (omega (arith, size)) ∙ ap (λ (k : ℕ). take at d ++ take n s ++ drop (at + k) d) size)
