-- The walk over the words of a live set joins the row of each live position: after n turns over
-- word i, those below the place where the word is cleared; after all, those of the word.
use mathlib.Core.Path.{◌≡◌, refl, sym, ap, ◌∙◌}
use mathlib.Core.Bool.{Bool, ◌||◌, ◌&&◌, or-false}
use mathlib.Core.List.{List}
use Prim.Native.Nat.{ℕ, ◌+◌, ◌*◌, ◌^◌, ◌<◌}
use native.Mathlib.Omega.{arith}
use lib.Count.{ones}
use lib.ListN.{get_or}
use Rattle.sets.specs.Set.{has, set_of, any, union_of, size_of}
use Rattle.sets.proofs.Laws.{Words, set_of-has, set_of-ext, size-words}
use Rattle.table.specs.Layout.{row_has}
use Rattle.steps.specs.Invariants.{joined}
use Rattle.steps.proofs.Steps.{reached, reached-hit, reached-skip}
use Rattle.steps.proofs.Turned.{turned-word}

module _ (t : List ℕ) (rows : ℕ) (live : List ℕ) (from : ℕ → Bool) (i : ℕ) (fits : get_or live i 0 < 2 ^ 64) where
  pub walked-word : joined t rows (get_or live i 0) (i * 64) (reached t rows live from (i * 64)) (ones (get_or live i 0)) ≡ reached t rows live from (i * 64 + 64)
  unfolding joined
  walked-word =
      turned-word live (reached t rows live from) (λ s p. union_of s (set_of (row_has t (rows + p * 4)))) (reached-hit t rows live from) (reached-skip t rows live from) i fits
      (joined t rows (get_or live i 0) (i * 64) (reached t rows live from (i * 64))) refl (λ n. refl)

-- before the first turn
pub reached-none : (t : List ℕ) (rows : ℕ) (live s : List ℕ) → Words s → s ≡ reached t rows live (has s) 0
unfolding any
reached-none t rows live s h = sym (set_of-has s h) ∙ set_of-ext (has s) (λ q. has s q || any 0 (λ p. has live p && row_has t (rows + p * 4) q)) (λ q l. sym (or-false (has s q)))

-- the four words, one after the other
pub walked_all : (t : List ℕ) (rows : ℕ) (live s a b c d : List ℕ) → Words live → Words s
    → a ≡ joined t rows (get_or live 0 0) 0 s (ones (get_or live 0 0)) → b ≡ joined t rows (get_or live 1 0) 64 a (ones (get_or live 1 0))
    → c ≡ joined t rows (get_or live 2 0) 128 b (ones (get_or live 2 0)) → d ≡ joined t rows (get_or live 3 0) 192 c (ones (get_or live 3 0))
    → d ≡ reached t rows live (has s) 256
walked_all t rows live s a b c d l h ea eb ec ed = word 3 (omega arith) d (ed ∙ joining 3 c (word 2 (omega arith) c (ec ∙ joining 2 b (word 1 (omega arith) b (eb ∙ joining 1 a (word 0 (omega arith) a (ea ∙ joining 0 s (reached-none t rows live s h))))))))
  where
    joining : (i : ℕ) (x : List ℕ) → x ≡ reached t rows live (has s) (i * 64)
        → joined t rows (get_or live i 0) (i * 64) x (ones (get_or live i 0)) ≡ joined t rows (get_or live i 0) (i * 64) (reached t rows live (has s) (i * 64)) (ones (get_or live i 0))
    joining i x e = ap (λ (y : List ℕ). joined t rows (get_or live i 0) (i * 64) y (ones (get_or live i 0))) e

    word : (i : ℕ) → i < 4 → (x : List ℕ)
        → x ≡ joined t rows (get_or live i 0) (i * 64) (reached t rows live (has s) (i * 64)) (ones (get_or live i 0)) → x ≡ reached t rows live (has s) (i * 64 + 64)
    word i g x e = e ∙ walked-word t rows live (has s) i (l.small i g)

-- in as many turns as the live set has members
pub turns-all : (live : List ℕ) → Words live → (a b c d : ℕ) → a ≡ ones (get_or live 0 0) → b ≡ ones (get_or live 1 0) → c ≡ ones (get_or live 2 0) → d ≡ ones (get_or live 3 0)
    → a + b + c + d ≡ size_of live
turns-all live l a b c d ea eb ec ed = omega (arith, ea, eb, ec, ed, size-words live l)
