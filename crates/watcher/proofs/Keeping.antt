-- What the reading of the rules file keeps: a line adds to the list of additions or leaves the
-- words alone, so the words stay a table.
use mathlib.Core.Path.{◌≡◌, refl, sym, ap, ◌∙◌}
use mathlib.Core.Bool.{Bool, true, false, cond}
use mathlib.Core.List.{List, [], ◌∷◌, ◌++◌}
use Prim.Native.Nat.{ℕ, ◌+◌, ◌-◌, ◌^◌, ◌≤◌, ◌<◌}
use native.Mathlib.Omega.{arith}
use lib.ListN.{length, take, drop, length-drop}
use lib.Seq.{take_all}
use Rattle.lines.specs.Lines.{ReadLine, rule_line_of}
use Rattle.lines.proofs.Laws.{pattern-within, good-id}
use Rattle.table.specs.Layout.{table_words}
use Rattle.table.specs.Table.{is_table, emptied}
use Rattle.rules.specs.declared.Added.{Added}
use Rattle.rules.specs.Add.{Addition, addition, answer, add_answer, add_words}
use Rattle.rules.specs.Additions.{Narrow}
use Rattle.rules.specs.Encoded.{add_all}
use Rattle.rules.proofs.Additions.{words-pass}
use Rattle.watcher.specs.Lines.{line_answer, line_words}
use Rattle.watcher.specs.Invariants.{FromEmpty}

-- the rest of a list, as a part that ends where the list ends
pub rest-is : (l : List ℕ) (from : ℕ) → take (length l - from) (drop from l) ≡ drop from l
rest-is l from = take_all (length l - from) (drop from l) (omega (arith, length-drop from l))

-- ---- the rules file

module _ (t line : List ℕ) (r : ReadLine) (e : r ≡ rule_line_of line) where
  pub pattern-inside : r.pattern ≤ length line
  pattern-inside = rw e (pattern-within line)

  pub malformed-line : r.good ≡ false → (answer 22 0 ≡ line_answer t line) × (t ≡ line_words t line)
  unfolding line_answer line_words
  malformed-line bad = rw (← e, bad) (refl, refl)

  pub rule-line-adds : r.good ≡ true → (a : Added) (u pattern : List ℕ) → pattern ≡ drop r.pattern line
      → (a ≡ add_answer t (addition r.id r.flags pattern)) × (u ≡ add_words t (addition r.id r.flags pattern)) → (a ≡ line_answer t line) × (u ≡ line_words t line)
  unfolding line_answer line_words
  rule-line-adds good a u pattern p h = rw (← e, good, ← p) h

-- one addition more
all_more : (t : List ℕ) (l : List Addition) (a : Addition) → add_all t (l ++ (a ∷ [])) ≡ add_words (add_all t l) a
unfolding add_all
all_more t [] a = refl
all_more t (b ∷ l) a = all_more (add_words t b) l a

narrow-more : (l : List Addition) (a : Addition) → Narrow l → a.id < 2 ^ 32 → Narrow (l ++ (a ∷ []))
unfolding Narrow
narrow-more [] a h small = (small, tt)
narrow-more (b ∷ l) a h small = (h.0, narrow-more l a h.1 small)

pub emptied-from : (t u : List ℕ) → table_words ≤ length u → t ≡ emptied u → FromEmpty t
unfolding add_all Narrow
emptied-from t u h e = record { words = u; long = h; additions = []; narrow = tt; same = e }

pub added-from : (t : List ℕ) → FromEmpty t → (a : Addition) → a.id < 2 ^ 32 → FromEmpty (add_words t a)
added-from t h a small =
    record {
      words = h.words;
      long = h.long;
      additions = h.additions ++ (a ∷ []);
      narrow = narrow-more h.additions a h.narrow small;
      same = ap (λ (t : List ℕ). add_words t a) h.same ∙ sym (all_more (emptied h.words) h.additions a);
    }

-- what a line's words keep
pub line_kept : (t line : List ℕ) → FromEmpty t → FromEmpty (line_words t line)
unfolding line_words
line_kept t line h = go (rule_line_of line).good refl
  where
    new : Addition
    new = addition (rule_line_of line).id (rule_line_of line).flags (drop (rule_line_of line).pattern line)

    go : (good : Bool) → (rule_line_of line).good ≡ good → FromEmpty (cond good (add_words t new) t)
    go true e = added-from t h new (good-id line)
    go false e = h

pub is-table : (t : List ℕ) → FromEmpty t → is_table t ≡ true
is-table t h = ap is_table h.same ∙ words-pass h.words h.additions h.long h.narrow

-- the loop over the lines: the words are a table's, and there are no more lines than bytes passed
pub record Passed (text words out : List ℕ) (from line at : ℕ) : Type 0 where
  pub table : FromEmpty words
  pub within : from ≤ length text + 1
  pub counted : line ≤ from
  pub room : at ≤ length out
