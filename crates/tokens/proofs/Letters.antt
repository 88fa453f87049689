-- Openings, option letters and comments, as the functions read them: what each byte does, at the
-- bytes from a place on. The byte 0, which stands for the pattern's end, is refused as a letter as
-- the end is.
use mathlib.Core.Path.{◌≡◌, refl, sym, ◌∙◌}
use mathlib.Core.Bool.{Bool, true, false, cond, not}
use mathlib.Core.List.{List, [], ◌∷◌}
use Prim.Native.Nat.{ℕ, suc, ◌+◌, ◌-◌, ◌≤◌, ◌<◌}
use native.Mathlib.Omega.{arith}
use borrow.Author.Tests.{ne_eqb, lt-ltb, le-ltb, ltb-true, ltb-false}
use Rattle.std.specs.Prelude.{Some, None, ◌==◌, position}
use Rattle.std.specs.List.{position_or_len}
use Rattle.std.proofs.lemmas.Option.{cond_some, none-some}
use Rattle.std.proofs.lemmas.List.Sums.{prefix_len-le-length}
use lib.Dec.{eqb, ltb}
use lib.ListN.{length, get_or, drop, length-drop, drop_of_length-le}
use lib.Seq.{get_or-drop, drop-drop}
use Rattle.tokens.specs.Option.{plain, faulty, with_caseless, with_dot_all, with_lines, letters_of, before_close, comment_of, opening_of}
use Rattle.tokens.specs.declared.Options.{Options}
use Rattle.tokens.specs.Lexeme.{Open, Set, Note, Unclosed}
use Rattle.tokens.specs.Lexeme.{Lexeme}
use Rattle.atoms.proofs.Suffixes.{front, first}

module _ (on any : Bool) (o : Options) (size : ℕ) where
  -- what the byte c does, with v after it
  abbrev step : ℕ → List ℕ → Lexeme
  step c v =
      cond (eqb c 105) (letters_of on true (with_caseless on o) (size + 1) v)
      (cond (eqb c 115) (letters_of on true (with_dot_all on o) (size + 1) v)
      (cond (eqb c 109) (letters_of on true (with_lines on o) (size + 1) v)
      (cond (eqb c 45) (cond on (letters_of false any o (size + 1) v) (faulty 14))
      (cond (eqb c 41) (cond any (plain (size + 1) (Set o)) (faulty 14))
      (cond (eqb c 58) (cond any (plain (size + 1) (Open o)) (faulty 14))
      (faulty 14))))))

  letters-front : (v : List ℕ) → letters_of on any o size v ≡ step (get_or v 0 0) (drop 1 v)
  unfolding letters_of
  letters-front [] = refl
  letters-front (c ∷ v) = refl

  module _ (s : List ℕ) (i c : ℕ) (e : c ≡ get_or s i 0) where
    letters-is : letters_of on any o size (drop i s) ≡ step c (drop (i + 1) s)
    letters-is = letters-front (drop i s) ∙ rw (first s i, ← e, drop-drop 1 i s)

    pub letters-i : c ≡ 105 → letters_of on any o size (drop i s) ≡ letters_of on true (with_caseless on o) (size + 1) (drop (i + 1) s)
    letters-i k = letters-is ∙ rw k

    pub letters-s : c ≡ 115 → letters_of on any o size (drop i s) ≡ letters_of on true (with_dot_all on o) (size + 1) (drop (i + 1) s)
    letters-s k = letters-is ∙ rw k

    pub letters-m : c ≡ 109 → letters_of on any o size (drop i s) ≡ letters_of on true (with_lines on o) (size + 1) (drop (i + 1) s)
    letters-m k = letters-is ∙ rw k

    pub letters-off : c ≡ 45 → on ≡ true → letters_of on any o size (drop i s) ≡ letters_of false any o (size + 1) (drop (i + 1) s)
    letters-off k t = letters-is ∙ rw k (rw t)

    pub letters-twice : c ≡ 45 → on ≡ false → letters_of on any o size (drop i s) ≡ faulty 14
    letters-twice k t = letters-is ∙ rw k (rw t)

    pub letters-set : c ≡ 41 → letters_of on any o size (drop i s) ≡ cond any (plain (size + 1) (Set o)) (faulty 14)
    letters-set k = letters-is ∙ rw k

    pub letters-open : c ≡ 58 → letters_of on any o size (drop i s) ≡ cond any (plain (size + 1) (Open o)) (faulty 14)
    letters-open k = letters-is ∙ rw k

    pub letters-other : (c ≡ 105 → ⊥) → (c ≡ 115 → ⊥) → (c ≡ 109 → ⊥) → (c ≡ 45 → ⊥) → (c ≡ 41 → ⊥) → (c ≡ 58 → ⊥)
        → letters_of on any o size (drop i s) ≡ faulty 14
    letters-other a b m d f g = letters-is ∙ rw (ne_eqb _ _ a, ne_eqb _ _ b, ne_eqb _ _ m, ne_eqb _ _ d, ne_eqb _ _ f, ne_eqb _ _ g)

-- after `(`: the bytes c and d at the place and after it
pub opening-is : (o : Options) (s : List ℕ) (at c d : ℕ) → c ≡ get_or s at 0 → d ≡ get_or s (at + 1) 0
    → opening_of o (drop at s)
    ≡ cond (eqb c 42) (faulty 14)
    (cond (eqb c 63)
    (cond (eqb d 58) (plain 3 (Open o)) (cond (eqb d 35) (comment_of o (drop (at + 2) s)) (letters_of true false o 2 (drop (at + 1) s))))
    (plain 1 (Open o)))
unfolding opening_of
opening-is o s at c d ec ed = rw (first s at, ← ec, get_or-drop at s 1 0, ← ed, drop-drop 1 at s, drop-drop 2 at s)

-- ---- comments

-- the bytes before the first `)`
before-is : (v : List ℕ) → before_close v ≡ position_or_len (λ c. c == 41) v
unfolding before_close
before-is [] = refl
before-is (c ∷ v) = go (eqb c 41) (before-is v)
  where
    go : (t : Bool) → before_close v ≡ position_or_len (λ c. c == 41) v
        → cond t 0 (suc (before_close v)) ≡ cond (not t) (1 + position_or_len (λ c. c == 41) v) 0
    go true h = refl
    go false h = omega arith

module _ (v : List ℕ) where
  pub close-inside : (k : ℕ) → position (λ c. c == 41) v ≡ Some k → (before_close v ≡ k) × (k < length v)
  close-inside k e =
      let p = position_or_len (λ c. c == 41) v in
      let f = cond_some (ltb p (length v)) p k e in
      let within : p < length v = ltb-true p (length v) f.0 in
      (before-is v ∙ f.1, omega (arith, f.1))

  none-closes : position (λ c. c == 41) v ≡ None → before_close v ≡ length v
  none-closes e = go (ltb (position_or_len (λ c. c == 41) v) (length v)) refl e
    where
      go : (t : Bool) → ltb (position_or_len (λ c. c == 41) v) (length v) ≡ t
          → cond t (Some (position_or_len (λ c. c == 41) v)) None ≡ None → before_close v ≡ length v
      go true h e = absurd (none-some (position_or_len (λ c. c == 41) v) (sym e))
      go false h e =
          omega (
            arith,
            before-is v,
            ltb-false (position_or_len (λ c. c == 41) v) (length v) h,
            prefix_len-le-length (λ c. not (c == 41)) v,
          )

  module _ (o : Options) where
    pub comment-closed : (k : ℕ) → position (λ c. c == 41) v ≡ Some k → comment_of o v ≡ plain (4 + k) (Note o)
    unfolding comment_of
    comment-closed k e = let f = close-inside k e in rw (f.0, lt-ltb k (length v) f.1)

    pub comment-open : position (λ c. c == 41) v ≡ None → comment_of o v ≡ plain (3 + length v) Unclosed
    unfolding comment_of
    comment-open e = rw (none-closes e, le-ltb (length v) (length v) (omega arith))
