-- Lists of additions: which rules they leave accepted, and what the next answer is, without a word
-- of the table. Assumes nothing: these are definitions.
use Rattle.std.specs.Prelude.{Bool, false, cond, ◌||◌, List, [], ◌∷◌, ◌++◌, ℕ, ◌+◌, ◌^◌, ◌<◌, eqb, leb, length}
use Rattle.table.specs.Layout.{max_rules}
use Rattle.meaning.specs.Form.{write, positions}
use Rattle.meaning.specs.Rule.{Rule, Windows}
use Rattle.nodes.specs.Nodes.{Syntax}
use Rattle.pattern.specs.Walk.{Read, tree, refused}
use Rattle.pattern.specs.Read.{too_long}
use Rattle.pattern.specs.Windows.{empty_window}
use Rattle.rules.specs.Words.{is_single, is_leftmost}
use Rattle.rules.specs.Add.{Addition, reading_of, answer, unknown_flag, single_start, placed}
use Rattle.rules.specs.declared.Added.{Added}

-- "Ids: any 32-bit number"
unfoldable pub Narrow : List Addition → Type 0
Narrow [] = Unit {0}
Narrow (a ∷ l) = (a.id < 2 ^ 32) × Narrow l

-- an accepted rule: its id, its flags, its windows, and the tree that its pattern reads as
pub record Accepted : Type 0 where
  pub id : ℕ
  pub flags : ℕ
  pub windows : Windows
  pub tree : Syntax

-- as a rule that has a meaning
abbrev pub rule_of : Accepted → Rule
rule_of r = record {
  id = r.id;
  single = is_single r.flags;
  starts = is_leftmost r.flags;
  windows = r.windows;
  tree = r.tree;
}

-- a rule's positions, and those of all the rules
abbrev pub size : Accepted → ℕ
size r = positions (write r.tree)

unfoldable pub used : List Accepted → ℕ
used [] = 0
used (r ∷ rs) = size r + used rs

-- one of the rules has the id
unfoldable pub taken : List Accepted → ℕ → Bool
taken [] id = false
taken (r ∷ rs) id = eqb r.id id || taken rs id

-- The answer of the next addition to a table with these rules: 2, 24, 3, 4, 5, 26, then the
-- reader's 6 to 16 and 23, then 17.
unfoldable pub next_answer : List Accepted → Addition → Added
next_answer rs a =
    cond (unknown_flag a.flags) (answer 2 0)
    (cond (single_start a.flags) (answer 24 0)
    (cond (taken rs a.id) (answer 3 0)
    (cond (leb max_rules (length rs)) (answer 4 0)
    (cond (too_long a.pattern) (answer 5 0)
    (cond (empty_window a.windows) (answer 26 0)
    (placed (used rs) (length a.pattern) (reading_of a)))))))

-- the rule of an accepted addition
abbrev pub accepted_of : Addition → Syntax → Accepted
accepted_of a x = record { id = a.id; flags = a.flags; windows = a.windows; tree = x }

-- the rules after it: an accepted one comes last, a refused one changes nothing
unfoldable pub with_new : List Accepted → Addition → Read → List Accepted
with_new rs a (refused number place) = rs
with_new rs a (tree x) = rs ++ (accepted_of a x ∷ [])

unfoldable pub after_next : List Accepted → Addition → List Accepted
after_next rs a = cond (eqb (next_answer rs a).number 0) (with_new rs a (reading_of a)) rs

-- the accepted rules of a list of additions, in order, to a table that has rs already
unfoldable pub accepted_after : List Accepted → List Addition → List Accepted
accepted_after rs [] = rs
accepted_after rs (a ∷ l) = accepted_after (after_next rs a) l
