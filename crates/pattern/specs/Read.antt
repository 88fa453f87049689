-- The answer of a reading. Assumes nothing: these are definitions.
use Rattle.std.specs.Prelude.{Bool, false, cond, Result, Ok, Err, List, ◌++◌, ℕ, ◌-◌, ◌/◌, ◌%◌, eqb, ltb, length, replicate}
use Rattle.refusals.specs.Refusal.{number_of}
use Rattle.refusals.specs.declared.Fault.{Fault}
use Rattle.tokens.specs.declared.Options.{Options}
use Rattle.meaning.specs.Count.{limit, saturating, nullable}
use Rattle.nodes.specs.Nodes.{width, lay}
use Rattle.pattern.specs.Walk.{Read, tree, refused, walk, begin}
use Rattle.pattern.specs.declared.Reading.{Reading}

-- 5: "Raise .. the pattern to 1,024 bytes"
abbrev pub longest : ℕ
longest = 1024

abbrev pub over_long : (length : ℕ) → Bool
over_long length = ltb longest length

abbrev pub too_long : List ℕ → Bool
too_long s = over_long (length s)

-- faults known only at the end, at the pattern's length: 15, "the rule could match no bytes, were
-- all its assertions true"; 16, "over 256 positions in this rule"
unfoldable pub judged : ℕ → Read → Read
judged n (refused number place) = refused number place
judged n (tree t) = cond (nullable t) (refused 15 n) (cond (ltb limit (saturating t)) (refused 16 n) (tree t))

-- reading a pattern: the walk, and what is known at its end
unfoldable pub read_of : List ℕ → Options → Read
read_of s o = judged (length s) (walk s 0 0 (begin o))

-- what the reader gives of it: 5 at 0 if it is too long, else what it reads as
unfoldable pub limited_read : List ℕ → Options → Read
limited_read s o = cond (too_long s) (refused 5 0) (read_of s o)

-- "Flags, .. 1 caseless, 2 dot matches all"; "Add flag 4 and option `m`": other bits mean nothing
-- here. No quote is open at the start.
unfoldable pub options_of : ℕ → Options
options_of flags = record { caseless = eqb (flags % 2) 1; dotall = eqb (flags / 2 % 2) 1; lines = eqb (flags / 4 % 2) 1; quoted = false }

-- how many words the nodes of any pattern fit in
abbrev pub room : ℕ
room = 8192

-- what is answered: number 0 with place 0, the tree's root, how many words its nodes take, its
-- positions and the words; or the refusal's number and place, and zeros
pub record Answer : Type 0 where
  pub number : ℕ
  pub place : ℕ
  pub root : ℕ
  pub size : ℕ
  pub positions : ℕ
  pub nodes : List ℕ

-- the answer: the tree's nodes from the front on, and zeros
unfoldable pub answer_of : Read → Answer
answer_of (refused number place) = record { number = number; place = place; root = 0; size = 0; positions = 0; nodes = replicate room 0 }
answer_of (tree t) = record {
  number = 0;
  place = 0;
  root = width t - 1;
  size = width t;
  positions = saturating t;
  nodes = lay 0 t ++ replicate (room - width t) 0;
}

-- what the reader's result answers: a reason has its number
abbrev pub answered : Result Reading Fault → Answer
answered (Ok r) = record { number = 0; place = 0; root = r.root; size = r.size; positions = r.positions; nodes = r.nodes }
answered (Err f) = record { number = number_of f.refusal; place = f.place; root = 0; size = 0; positions = 0; nodes = replicate room 0 }
