-- The parts of a rule's automaton in one world, its positions numbered from `base` on: the sets of
-- the written-out form as words. Assumes nothing: these are definitions.
use Rattle.std.specs.Prelude.{Bool, true, false, cond, List, [], ◌∷◌, ◌++◌, ℕ, zero, suc, ◌+◌, ◌-◌, leb, length, get_or, replicate}
use Rattle.sets.specs.Set.{on, set_of, empty_set}
use Rattle.meaning.specs.Form.{Form, write, positions}
use Rattle.meaning.specs.Count.{limit}
use Rattle.meaning.specs.Rule.{Assertion, ByteSet}
use Rattle.meaning.specs.Automaton.{first, last, follow, items}
use Rattle.nodes.specs.Nodes.{Syntax, code_of}
use Rattle.automaton.specs.declared.Parts.{Parts}

-- the four-word rows of n numbers, one after the other
unfoldable pub rows_of : ℕ → (ℕ → List ℕ) → List ℕ
rows_of zero row = []
rows_of (suc n) row = rows_of n row ++ row n

-- rows, and zeros up to 1,024 words
unfoldable pub padded : List ℕ → List ℕ
padded rows = rows ++ replicate (1024 - length rows) 0

-- the first four words of a list, with 0 for one that is missing
abbrev pub four_words : List ℕ → List ℕ
four_words c = get_or c 0 0 ∷ get_or c 1 0 ∷ get_or c 2 0 ∷ get_or c 3 0 ∷ []

-- the byte sets of a form's positions, four words each, one after the other
unfoldable pub flat : List ByteSet → List ℕ
flat [] = []
flat (c ∷ cs) = four_words c ++ flat cs

-- The world of a number: its binary digits are the assertions that hold, by their numbers in a
-- node.
abbrev pub world_of : ℕ → Assertion → Bool
world_of world a = on world (code_of a)

-- the parts of a form in a world
unfoldable pub form_parts : Form ByteSet Assertion → (base world : ℕ) → Parts
form_parts f base world = record {
  fits = true;
  positions = positions f;
  first = set_of (first (world_of world) f base);
  last = set_of (last (world_of world) f base);
  follow = padded (rows_of (positions f) (λ i. set_of (follow (world_of world) f base (base + i))));
  takes = padded (flat (items f));
}

abbrev pub no_parts : Parts
no_parts = record {
  fits = false;
  positions = 0;
  first = empty_set;
  last = empty_set;
  follow = replicate 1024 0;
  takes = replicate 1024 0;
}

-- The parts of a tree: of its written-out form, where its positions and those before them are at
-- most 256 together.
unfoldable pub parts_of : Syntax → (base world : ℕ) → Parts
parts_of t base world = cond (leb (base + positions (write t)) limit) (form_parts (write t) base world) no_parts
