-- Names, as the functions read them: a text is compared byte by byte, and the table is gone through
-- from its first name on.
use mathlib.Core.Path.{◌≡◌, refl, ◌∙◌}
use mathlib.Core.Bool.{Bool, true, false, cond, ◌&&◌, and-eq-true_iff}
use mathlib.Core.List.{List, [], ◌∷◌}
use Prim.Native.Nat.{ℕ, zero, suc, ◌+◌, ◌≤◌, ◌<◌}
use native.Mathlib.Decide.{dec_lt}
use native.Mathlib.Numerals.{add-one}
use native.Mathlib.Omega.{arith}
use borrow.Author.Tests.{ne_eqb, ltb-true}
use lib.Dec.{eqb, ltb}
use lib.ListN.{length, get_or, drop, drop_of_length-le, get_or-eq_default}
use lib.Seq.{drop-cons, drop-drop}
use Rattle.kinds.specs.declared.Kind.TheVariants.{Xdigit}
use Rattle.atoms.specs.Escape.{good, bad}
use Rattle.classes.specs.Name.{Name, name, names, bytes, begins, named, name_among, name_of, name_at}
use Rattle.classes.specs.Invariants.{unpadded}
use Rattle.atoms.proofs.Suffixes.{front, first, inside}
use Rattle.atoms.proofs.Sizes.{either}
use Rattle.classes.proofs.Sizes.{begins-fits}

-- ---- one text

-- a byte other than 0 at the front of a text
begins-front : (c : ℕ) (text v : List ℕ) → (c ≡ 0 → ⊥) → begins (c ∷ text) v ≡ (eqb c (get_or v 0 0) && begins text (drop 1 v))
unfolding begins
begins-front c text [] h = rw (ne_eqb c 0 h)
begins-front c text (d ∷ v) h = refl

-- a text ends where it reads 0
text-end : (text : List ℕ) (k : ℕ) → get_or text k 0 ≡ 0 → unpadded (drop k text) ≡ []
unfolding unpadded
text-end text k e = go (dec_lt k (length text))
  where
    go : Dec (k < length text) → unpadded (drop k text) ≡ []
    go (yes l) = rw (front text k l, e)
    go (no l) = let past : length text ≤ k = omega arith in rw (drop_of_length-le text past)

module _ (s text : List ℕ) (at : ℕ) where
  -- the size of the text where it stands at the place, when its bytes before k were seen there;
  -- else 0
  abbrev pub spell : ℕ → ℕ
  spell k = cond (begins (unpadded (drop k text)) (drop (at + k) s)) (k + length (unpadded (drop k text))) 0

  pub spell-start : spell 0 ≡ cond (begins (unpadded text) (drop at s)) (length (unpadded text)) 0
  spell-start =
      let same : at + 0 ≡ at = omega arith in
      let size : 0 + length (unpadded text) ≡ length (unpadded text) = omega arith in
      rw (same, size)

  -- the text ends at k
  pub spell-end : (k : ℕ) → get_or text k 0 ≡ 0 → spell k ≡ k
  unfolding begins
  spell-end k e = let same : k + 0 ≡ k = omega arith in rw (text-end text k e) same

  -- the byte of the text at k, and the byte p of the pattern
  pub spell-more : (k p : ℕ) → (get_or text k 0 ≡ 0 → ⊥) → p ≡ get_or s (at + k) 0 → spell k ≡ cond (eqb (get_or text k 0) p) (spell (k + 1)) 0
  unfolding unpadded
  spell-more k p h e =
      let c = get_or text k 0 in
      let rest = unpadded (drop (k + 1) text) in
      let further : at + k + 1 ≡ at + (k + 1) = omega arith in
      rw (
        front text k (inside text k h),
        ne_eqb c 0 h,
        begins-front c rest (drop (at + k) s) h,
        first s (at + k),
        ← e,
        drop-drop 1 (at + k) s,
        further,
      ) (both (eqb c p) (begins rest (drop (at + (k + 1)) s)) (length rest))
    where
      both : (t u : Bool) (n : ℕ) → cond (t && u) (k + suc n) 0 ≡ cond t (cond u (k + 1 + n) 0) 0
      both true true n = omega arith
      both true false n = refl
      both false u n = refl

-- what the text takes stands among the bytes
pub spelled-fits : (text v : List ℕ) (size : ℕ) → size ≡ cond (begins text v) (length text) 0 → size ≤ length v
spelled-fits text v size e = rw e (either (λ (k : ℕ). k ≤ length v) (begins text v) (begins-fits text v) (λ z. omega arith))

-- ---- the table

-- a number that is none of those up to k
pub beyond : (k : ℕ) {i : ℕ} → k ≤ i → (i ≡ k → ⊥) → suc k ≤ i
beyond k h f = omega (arith, f)

-- from the last name on
pub name-last : (i : ℕ) → 13 ≤ i → name_at i ≡ name "xdigit" Xdigit
unfolding name_at names
name-last i h = go (dec_lt i 14)
  where
    go : Dec (i < 14) → get_or names i (name "xdigit" Xdigit) ≡ name "xdigit" Xdigit
    go (yes l) = let e : i ≡ 13 = omega arith in rw e
    go (no l) = get_or-eq_default names (name "xdigit" Xdigit) {n = i} (omega arith)

-- a test of each name of a list
unfoldable pub every : (Name → Bool) → List Name → Bool
every f [] = true
every f (n ∷ ns) = f n && every f ns

pub every-row : (f : Name → Bool) (ns : List Name) (d : Name) (i : ℕ) → every f ns ≡ true → i < length ns → f (get_or ns i d) ≡ true
unfolding every
every-row f [] d i t l = absurd (omega arith)
every-row f (n ∷ ns) d zero t l = ((and-eq-true_iff (f n) (every f ns)).0 t).0
every-row f (n ∷ ns) d (suc i) t l = every-row f ns d i ((and-eq-true_iff (f n) (every f ns)).0 t).1 (omega arith)

pub rows : {i : ℕ} → i < 14 → i < length names
unfolding names
rows h = h

-- what is computed of each name holds of the name number i
pub row-rule : (f : Name → Bool) → every f names ≡ true → (i : ℕ) → i < 14 → f (name_at i) ≡ true
unfolding name_at
row-rule f t i l = every-row f names (name "xdigit" Xdigit) i t (rows l)

-- a text begins with a letter, which `^` is not
abbrev lettered : Name → Bool
lettered n = ltb 94 (get_or n.text 0 0)

pub name-letter : (i : ℕ) → i < 14 → 94 < get_or (name_at i).text 0 0
unfolding every names bytes
name-letter i l = ltb-true 94 (get_or (name_at i).text 0 0) (row-rule lettered refl i l)

module _ (caseless negated : Bool) (lead : ℕ) (v : List ℕ) where
  pub among_none : (i : ℕ) → 14 ≤ i → name_among (drop i names) caseless negated lead v ≡ bad 14 2
  unfolding name_among names
  among_none i h = rw (drop_of_length-le names h)

  -- the name number i, and its size where v begins with it, else 0
  module _ (i size : ℕ) (l : i < 14) (e : size ≡ cond (begins (name_at i).text v) (length (name_at i).text) 0) where
    row_is : name_among (drop i names) caseless negated lead v
        ≡ cond (begins (name_at i).text v) (good (lead + length (name_at i).text) (named caseless negated (name_at i).kind))
        (name_among (drop (i + 1) names) caseless negated lead v)
    unfolding name_among name_at
    row_is = rw (add-one, drop-cons names i (name "xdigit" Xdigit) (rows l))

    pub among-found : (size ≡ 0 → ⊥)
        → name_among (drop i names) caseless negated lead v ≡ good (lead + size) (named caseless negated (name_at i).kind)
    among-found h =
        row_is ∙ go (begins (name_at i).text v) e
      where
        go : (t : Bool) → size ≡ cond t (length (name_at i).text) 0
            → cond t (good (lead + length (name_at i).text) (named caseless negated (name_at i).kind))
            (name_among (drop (i + 1) names) caseless negated lead v)
            ≡ good (lead + size) (named caseless negated (name_at i).kind)
        go true z = rw z
        go false z = absurd (h z)

    pub among_next : size ≡ 0 → name_among (drop i names) caseless negated lead v ≡ name_among (drop (i + 1) names) caseless negated lead v
    among_next h = row_is ∙ go (begins (name_at i).text v) e
      where
        go : (t : Bool) → size ≡ cond t (length (name_at i).text) 0
            → cond t (good (lead + length (name_at i).text) (named caseless negated (name_at i).kind))
            (name_among (drop (i + 1) names) caseless negated lead v)
            ≡ name_among (drop (i + 1) names) caseless negated lead v
        go true z = absurd (omega (arith, inside (name_at i).text 0 (λ y. omega (arith, name-letter i l))))
        go false z = refl

-- after `[:`: the byte p at the place
pub name-is : (caseless : Bool) (s : List ℕ) (at p : ℕ) → p ≡ get_or s at 0
    → name_of caseless (drop at s)
    ≡ cond (eqb p 94) (name_among names caseless true 3 (drop (at + 1) s)) (name_among names caseless false 2 (drop at s))
unfolding name_of
name-is caseless s at p e = rw (first s at, ← e, drop-drop 1 at s)
