-- Other calls of a list are refused, so they leave the table as it was, and it is the one of the
-- additions alone. Assumes nothing.
use mathlib.Core.Path.{◌≡◌, refl, ap, ◌∙◌}
use mathlib.Core.Bool.{Bool, true, false, cond}
use mathlib.Core.List.{List, [], ◌∷◌, ◌++◌}
use Prim.Native.Nat.{ℕ}
use lib.Dec.{ltb}
use lib.ListN.{length, drop}
use borrow.Author.Tests.{ne_eqb}
use Rattle.table.specs.Layout.{table_words}
use Rattle.table.specs.Table.{empty_number, emptied}
use Rattle.card.specs.Calls.{Stored}
use Rattle.card.proofs.Theorems.{read_kept}
use Rattle.rules.specs.Add.{add_answer, add_words}
use Rattle.rules.specs.Additions.{Narrow}
use Rattle.rules.specs.Encoded.{add_all}
use Rattle.demands.specs.Chain.{this, those, Other, emptying, adding, opening, scanning, closing, trace_opening, trace_scanning, trace_closing, writing_block, reading_block, showing, asking, number_of, table_after, Step, addition, another, table_of, additions_of, OthersRefusedBefore}

-- a refused call leaves the table as it was
pub kept : (t : List ℕ) (o : Other) → ¬ (number_of t o ≡ 0) → table_after t o ≡ t
unfolding number_of table_after empty_number emptied add_words
kept t (emptying this) h = go (ltb (length t) table_words) h
  where
    go : (b : Bool) → ¬ (◌≡◌ {A = ℕ} (cond b 1 0) 0) → cond b t (Rattle.table.specs.Table.empty_table ++ drop table_words t) ≡ t
    go true h = refl
    go false h = absurd (h refl)
kept t (emptying (those u)) h = refl
kept t (adding this a) h = rw (ne_eqb (add_answer t a).number 0 h)
kept t (adding (those u) a) h = refl
kept t (opening l) h = refl
kept t (scanning l s c) h = refl
kept t (closing l s slots) h = refl
kept t (trace_opening l) h = refl
kept t (trace_scanning l z c) h = refl
kept t (trace_closing l z slots) h = refl
kept t (writing_block l i b) h = refl
kept t (reading_block this i b) h = read_kept t i b (λ e. h (ap (λ (a : Stored). a.number) e))
kept t (reading_block (those u) i b) h = refl
kept t (showing tail block offset start end) h = refl
kept t (asking q space) h = refl

-- before the opening: the table is the one of the additions alone
pub narrow-ids : (l : List Step) → Narrow (additions_of l)
unfolding additions_of Narrow
narrow-ids [] = tt
narrow-ids (addition a narrow ∷ l) = (narrow, narrow-ids l)
narrow-ids (another o ∷ l) = narrow-ids l

pub additions-alone : (l : List Step) (t : List ℕ) → OthersRefusedBefore t l → table_of t l ≡ add_all t (additions_of l)
unfolding table_of additions_of OthersRefusedBefore add_all
additions-alone [] t h = refl
additions-alone (addition a narrow ∷ l) t h = additions-alone l (add_words t a) h
additions-alone (another o ∷ l) t h = additions-alone l (table_after t o) h.1 ∙ ap (λ (u : List ℕ). add_all u (additions_of l)) (kept t o h.0)
