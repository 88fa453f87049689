-- Rows of four words: what a row holds after a row was written, and what the loop that joins two
-- sets adds. A row is read word by word, so each law is one about a word at an index.
use mathlib.Core.Path.{◌≡◌, refl, sym, ap, ap₂, ◌∙◌}
use mathlib.Core.Bool.{Bool, true, false, true≢false, ◌&&◌, ◌||◌, and-false, or-false}
use mathlib.Core.Logic.{◌⊎◌, inl, inr}
use mathlib.Core.List.{List, [], ◌∷◌, ◌++◌}
use Prim.Native.Nat.{ℕ, zero, suc, ◌+◌, ◌-◌, ◌*◌, ◌/◌, ◌%◌, ◌≤◌, ◌<◌}
use native.Mathlib.Nat.{add-zero}
use native.Mathlib.Decide.{ℕ_discrete, dec_lt}
use native.Mathlib.Omega.{arith}
use borrow.Author.Tests.{eqb-true, eq-eqb, ne_eqb, lt-ltb, le-ltb}
use lib.Dec.{eqb, ltb}
use lib.ListN.{length, get_or, take, drop, set, length-set}
use lib.Seq.{sets, length-sets, get_or-set_same, get_or-set_other, get_or-take, get_or-drop}
use Rattle.sets.specs.Set.{on, has, union_of, is_empty}
use Rattle.sets.proofs.Laws.{get_d-four_of, has-union, empty-none}
use Rattle.nodes.specs.Invariants.{set_at}
use Rattle.automaton.specs.Parts.{four_words}
use Rattle.automaton.specs.Invariants.{has_at, added_to, Joined}

-- ---- four words

pub four-at : (s : List ℕ) (i : ℕ) → i < 4 → get_or (four_words s) i 0 ≡ get_or s i 0
four-at s = get_d-four_of (λ i. get_or s i 0)

pub four-ext : (s t : List ℕ) → ((i : ℕ) → i < 4 → get_or s i 0 ≡ get_or t i 0) → four_words s ≡ four_words t
four-ext s t e = cc (e 0 (omega arith), e 1 (omega arith), e 2 (omega arith), e 3 (omega arith))

-- a member below 256 stands in the first four words
pub has-four : (s : List ℕ) (q : ℕ) → q < 256 → has (four_words s) q ≡ has s q
unfolding has
has-four s q h = ap (λ (w : ℕ). on w (q % 64)) (four-at s (q / 64) (omega arith))

-- four words read one by one, from index n on
pub four-from : (a : List ℕ) (n : ℕ) → four_words (drop n a) ≡ get_or a n 0 ∷ get_or a (n + 1) 0 ∷ get_or a (n + 2) 0 ∷ get_or a (n + 3) 0 ∷ []
four-from a n =
    cc (get_or-drop n a 0 0, get_or-drop n a 1 0, get_or-drop n a 2 0, get_or-drop n a 3 0, ap (λ (k : ℕ). get_or a k 0) (add-zero n))

-- the four words before node k, read one by one
pub set-low : (a : List ℕ) (k : ℕ) → k < 4 → four_words (set_at a k) ≡ four_words a
set-low a k h = let e : k - 4 ≡ 0 = omega arith in rw e (four-ext (take 4 a) a (λ i l. get_or-take 4 a i 0 l))

pub set-high : (a : List ℕ) (k : ℕ) → 4 ≤ k → four_words (set_at a k) ≡ get_or a (k - 4) 0 ∷ get_or a (k - 3) 0 ∷ get_or a (k - 2) 0 ∷ get_or a (k - 1) 0 ∷ []
set-high a k h =
    let e1 : k - 4 + 1 ≡ k - 3 = omega arith in
    let e2 : k - 4 + 2 ≡ k - 2 = omega arith in
    let e3 : k - 4 + 3 ≡ k - 1 = omega arith in
    four-ext (set_at a k) (drop (k - 4) a) (λ i l. get_or-take 4 (drop (k - 4) a) i 0 l) ∙ four-from a (k - 4) ∙ cc

-- four words written one by one, from index n on
pub four-to : (r : List ℕ) (n a b c d : ℕ) → set (set (set (set r n a) (n + 1) b) (n + 2) c) (n + 3) d ≡ sets r n (a ∷ b ∷ c ∷ d ∷ [])
four-to r n a b c d =
    let e1 : n + 1 ≡ suc n = omega arith in
    let e2 : n + 2 ≡ suc (suc n) = omega arith in
    let e3 : n + 3 ≡ suc (suc (suc n)) = omega arith in
    cc

-- ---- a run of stores, read again

pub get_d-sets-out : (vs l : List ℕ) (i k : ℕ) → (k < i) ⊎ (i + length vs ≤ k) → get_or (sets l i vs) k 0 ≡ get_or l k 0
get_d-sets-out [] l i k h = refl
get_d-sets-out (v ∷ vs) l i k (inl h) =
    get_d-sets-out vs (set l i v) (suc i) k (inl (omega arith)) ∙ get_or-set_other l i k v 0 (λ e. omega arith)
get_d-sets-out (v ∷ vs) l i k (inr h) =
    get_d-sets-out vs (set l i v) (suc i) k (inr (omega arith)) ∙ get_or-set_other l i k v 0 (λ e. omega arith)

get_d-sets-in : (vs l : List ℕ) (i j : ℕ) → j < length vs → i + length vs ≤ length l → get_or (sets l i vs) (i + j) 0 ≡ get_or vs j 0
get_d-sets-in [] l i j h m = absurd (omega arith)
get_d-sets-in (v ∷ vs) l i zero h m =
    let e : i + 0 ≡ i = omega arith in
    ap (λ (k : ℕ). get_or (sets (set l i v) (suc i) vs) k 0) e
    ∙ get_d-sets-out vs (set l i v) (suc i) i (inl (omega arith)) ∙ get_or-set_same l i v 0 (omega arith)
get_d-sets-in (v ∷ vs) l i (suc j) h m =
    let e : i + suc j ≡ suc i + j = omega arith in
    ap (λ (k : ℕ). get_or (sets (set l i v) (suc i) vs) k 0) e
    ∙ get_d-sets-in vs (set l i v) (suc i) j (omega arith) (omega (arith, length-set l i v))

-- one run after the other is one run
pub sets-append : (u v l : List ℕ) (i : ℕ) → sets (sets l i u) (i + length u) v ≡ sets l i (u ++ v)
sets-append [] v l i = ap (λ (k : ℕ). sets l k v) (add-zero i)
sets-append (x ∷ u) v l i =
    let e : i + suc (length u) ≡ suc i + length u = omega arith in
    ap (λ (k : ℕ). sets (sets (set l i x) (suc i) u) k v) e ∙ sets-append u v (set l i x) (suc i)

-- ---- a row that was written

module _ (r : List ℕ) (long : length r ≡ 1024) (p : ℕ) (low : p < 256) (s : List ℕ) where
  row_same : four_words (drop (p * 4) (sets r (p * 4) (four_words s))) ≡ four_words s
  row_same =
      four-ext (drop (p * 4) (sets r (p * 4) (four_words s))) s
      (λ i h. get_or-drop (p * 4) (sets r (p * 4) (four_words s)) i 0 ∙ get_d-sets-in (four_words s) r (p * 4) i h (omega arith) ∙ four-at s i h)

  row_other : (o : ℕ) → (o ≡ p → ⊥) → four_words (drop (o * 4) (sets r (p * 4) (four_words s))) ≡ four_words (drop (o * 4) r)
  row_other o n =
      four-ext (drop (o * 4) (sets r (p * 4) (four_words s))) (drop (o * 4) r)
      (λ i h. get_or-drop (o * 4) (sets r (p * 4) (four_words s)) i 0
      ∙ get_d-sets-out (four_words s) r (p * 4) (o * 4 + i) (apart i h (dec_lt o p)) ∙ sym (get_or-drop (o * 4) r i 0))
    where
      apart : (i : ℕ) → i < 4 → Dec (o < p) → (o * 4 + i < p * 4) ⊎ (p * 4 + 4 ≤ o * 4 + i)
      apart i h (yes l) = inl (omega arith)
      apart i h (no l) = inr (omega arith)

-- adding s to row p
pub has-added : (r : List ℕ) → length r ≡ 1024 → (p : ℕ) → p < 256 → (s : List ℕ) (o q : ℕ) → q < 256 → has_at (added_to r p s) o q ≡ (has_at r o q || (eqb o p && has s q))
unfolding has_at added_to
has-added r long p low s o q h = go (ℕ_discrete o p)
  where
    old : List ℕ
    old = four_words (drop (p * 4) r)

    both : List ℕ
    both = union_of old s

    go : Dec (o ≡ p) → has_at (added_to r p s) o q ≡ (has_at r o q || (eqb o p && has s q))
    go (yes e) =
        ap (λ (k : ℕ). has (four_words (drop (k * 4) (sets r (p * 4) (four_words both)))) q) e
        ∙ ap (λ (l : List ℕ). has l q) (row_same r long p low both) ∙ has-four both q h ∙ has-union old s q h
        ∙ ap₂ (λ (k : ℕ) (b : Bool). has (four_words (drop (k * 4) r)) q || (b && has s q)) (sym e) (sym (eq-eqb o p e))
    go (no n) =
        ap (λ (l : List ℕ). has l q) (row_other r long p low both o n) ∙ sym (or-false (has (four_words (drop (o * 4) r)) q))
        ∙ ap (λ (b : Bool). has (four_words (drop (o * 4) r)) q || (b && has s q)) (sym (ne_eqb o p n))

-- ---- the loop that joins

pub joined-none : (l s r : List ℕ) → Joined l s 0 r r
joined-none l s r = record {
  long = refl;
  member = λ full p q h i.
      sym (or-false (has_at r p q)) ∙ ap (λ (b : Bool). has_at r p q || (b && (has l p && has s q))) (sym (le-ltb p 0 (omega arith)));
}

-- an empty set joins nothing
pub joined-nothing : (l s r : List ℕ) → (is_empty l || is_empty s) ≡ true → Joined l s 256 r r
joined-nothing l s r e = record {
  long = refl;
  member = λ full p q h i. sym (ap (λ (b : Bool). has_at r p q || b) (none p q h i) ∙ or-false (has_at r p q));
}
  where
    none : (p q : ℕ) → p < 256 → q < 256 → (ltb p 256 && (has l p && has s q)) ≡ false
    none p q h i = go (is_empty l) refl
      where
        go : (b : Bool) → is_empty l ≡ b → (ltb p 256 && (has l p && has s q)) ≡ false
        go true f = rw (empty-none l f p h) (and-false (ltb p 256))
        go false f =
            let g : is_empty s ≡ true = ap (λ (b : Bool). b || is_empty s) (sym f) ∙ e in
            rw (empty-none s g q i, and-false (has l p)) (and-false (ltb p 256))

-- what is below n + 1 is below n, or n
below_next : (n p : ℕ) → ltb p (n + 1) ≡ (ltb p n || eqb p n)
below_next n p = go (dec_lt p n) (ℕ_discrete p n)
  where
    go : Dec (p < n) → Dec (p ≡ n) → ltb p (n + 1) ≡ (ltb p n || eqb p n)
    go (yes h) d = lt-ltb p (n + 1) (omega arith) ∙ ap (λ (b : Bool). b || eqb p n) (sym (lt-ltb p n h))
    go (no h) (yes e) = lt-ltb p (n + 1) (omega arith) ∙ ap₂ (λ (a b : Bool). a || b) (sym (le-ltb p n (omega arith))) (sym (eq-eqb p n e))
    go (no h) (no e) = le-ltb p (n + 1) (omega arith) ∙ ap₂ (λ (a b : Bool). a || b) (sym (le-ltb p n (omega arith))) (sym (ne_eqb p n e))

-- x: it was there; a: p is below n; e: p is n; y: p is in l; z: q is in s
hit : (x a e y z : Bool) → (e ≡ true → y ≡ true) → ((x || (a && (y && z))) || (e && z)) ≡ (x || ((a || e) && (y && z)))
hit true a e y z h = refl
hit false true e true true h = refl
hit false true true true false h = refl
hit false true false true false h = refl
hit false true true false z h = absurd (true≢false (sym (h refl)))
hit false true false false z h = refl
hit false false true y z h = ap (λ (b : Bool). b && z) (sym (h refl))
hit false false false y z h = refl

miss : (x a e y z : Bool) → (e ≡ true → y ≡ false) → (x || (a && (y && z))) ≡ (x || ((a || e) && (y && z)))
miss true a e y z h = refl
miss false true e y z h = refl
miss false false true y z h = ap (λ (b : Bool). b && z) (sym (h refl))
miss false false false y z h = refl

module _ {l s r r' : List ℕ} {n : ℕ} (j : Joined l s n r r') where
  pub joined-hit : n < 256 → has l n ≡ true → Joined l s (n + 1) r (added_to r' n s)
  unfolding added_to
  joined-hit low e = record {
    long = length-sets r' (n * 4) (four_words (union_of (four_words (drop (n * 4) r')) s)) ∙ j.long;
    member = λ full p q h i.
        has-added r' (j.long ∙ full) n low s p q i
        ∙ ap (λ (b : Bool). b || (eqb p n && has s q)) (j.member full p q h i)
        ∙ hit (has_at r p q) (ltb p n) (eqb p n) (has l p) (has s q) (λ t. ap (has l) (eqb-true p n t) ∙ e)
        ∙ ap (λ (b : Bool). has_at r p q || (b && (has l p && has s q))) (sym (below_next n p));
  }

  pub joined-miss : has l n ≡ false → Joined l s (n + 1) r r'
  joined-miss e = record {
    long = j.long;
    member = λ full p q h i.
        j.member full p q h i
        ∙ miss (has_at r p q) (ltb p n) (eqb p n) (has l p) (has s q) (λ t. ap (has l) (eqb-true p n t) ∙ e)
        ∙ ap (λ (b : Bool). has_at r p q || (b && (has l p && has s q))) (sym (below_next n p));
  }
