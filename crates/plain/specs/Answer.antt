-- The answer of the plain matcher, and the two lent lists afterwards. Assumes nothing: these are
-- definitions.
use Rattle.std.specs.Prelude.{◌≡◌, Result, Ok, Err, Bool, cond, not, ◌&&◌, List, [], ◌∷◌, ◌++◌, map, ℕ, ◌/◌, ◌%◌, min, eqb, ltb, length, drop}
use Rattle.std.specs.Int.Bits.{bit_and}
use Rattle.meaning.specs.Rule.{Rule, Windows}
use Rattle.meaning.specs.Ordered.{Report, Ordered}
use Rattle.nodes.specs.Nodes.{Syntax}
use Rattle.pattern.specs.Walk.{Read, tree, refused}
use Rattle.pattern.specs.Read.{too_long, read_of, options_of}
use Rattle.pattern.specs.Windows.{windows_of, empty_window}
use Rattle.pattern.specs.declared.bounds.Bounds.{Bounds}
use Rattle.plain.specs.Run.{Lent}
use Rattle.refusals.specs.Refusal.{number_of}
use Rattle.refusals.specs.declared.Fault.{Fault}

-- what the matcher is asked: pattern bytes, flags, windows, a whole log
pub record Question : Type 0 where
  pub pattern : List ℕ
  pub flags : ℕ
  pub windows : Windows
  pub log : List ℕ

abbrev pub question : (pattern : List ℕ) (flags : ℕ) (windows : Bounds) (log : List ℕ) → Question
question pattern flags windows log =
    record { pattern = pattern; flags = flags; windows = windows_of windows; log = log }

-- the flags that are known: "a flag bit other than 1, 2, 8"; "Refusal 2 lets 4 through"; "Add flag
-- 256 (2 lets it through)"
abbrev pub known_flags : ℕ
known_flags = 271

abbrev pub has_single : ℕ → Bool
has_single flags = eqb (flags / 8 % 2) 1

abbrev pub has_leftmost : ℕ → Bool
has_leftmost flags = eqb (flags / 256 % 2) 1

-- "a whole log of at most 1,024 bytes"; "then report space under 1,024"
abbrev pub longest_log : ℕ
longest_log = 1024

abbrev pub least_space : ℕ
least_space = 1024

-- "Flag 256 with flag 8 is refused with 24, checked right after 2"; "A smallest offset above the
-- largest is refused with 26, right after 5"; "After 26, a longer log is refused with 28, then
-- report space under 1,024 with 20, both at place 0 before the pattern is read. .. Otherwise it
-- refuses with the same numbers and places".
unfoldable pub verdict : Question → (space : ℕ) → Read
verdict q space =
    cond (not (eqb (bit_and q.flags known_flags) q.flags)) (refused 2 0)
    (cond (has_leftmost q.flags && has_single q.flags) (refused 24 0)
    (cond (too_long q.pattern) (refused 5 0)
    (cond (empty_window q.windows) (refused 26 0)
    (cond (ltb longest_log (length q.log)) (refused 28 0)
    (cond (ltb space least_space) (refused 20 0)
    (read_of q.pattern (options_of q.flags)))))))

-- the rule: it has no id, so any serves
abbrev pub rule_of : Question → Syntax → Rule
rule_of q t = record {
  id = 0;
  single = has_single q.flags;
  starts = has_leftmost q.flags;
  windows = q.windows;
  tree = t;
}

-- "gives the same list for that rule as table, scan and closing do": the one ordered list of the
-- rule alone. "its lists are offsets and stream starts": they stand at the front of the lent lists,
-- and the slots past the count keep their values.
pub record Reports (r : Rule) (log : List ℕ) (old new : Lent) (count : ℕ) : Type 0 where
  pub list : List Report
  pub ordered : Ordered (r ∷ []) log list
  pub counted : count ≡ length list
  pub offsets : new.offsets ≡ map (λ p. p.1) list ++ drop (length list) old.offsets
  pub starts : new.starts ≡ map (λ p. p.2) list ++ drop (length list) old.starts

-- the answer: number 0, place 0 and how many reports, or the refusal's number and place and no
-- reports
pub record Matched : Type 0 where
  pub number : ℕ
  pub place : ℕ
  pub count : ℕ

-- a refusal has its number and place, reports nothing and leaves the lists as they were
abbrev pub refusal : (number place : ℕ) → Matched
refusal number place = record { number = number; place = place; count = 0 }

-- as the matcher gives it
abbrev pub matched_of : Result ℕ Fault → Matched
matched_of (Ok count) = record { number = 0; place = 0; count = count }
matched_of (Err f) = refusal (number_of f.refusal) f.place

unfoldable pub Answered : Question → (old new : Lent) → Matched → Read → Type 0
Answered q old new m (refused number place) = (m ≡ refusal number place) × (new ≡ old)
Answered q old new m (tree t) =
    (m.number ≡ 0) × (m.place ≡ 0) × Reports (rule_of q t) q.log old new m.count

-- the space is the shorter of the two lists
abbrev pub Matches : Question → (old new : Lent) → Matched → Type 0
Matches q old new m =
    Answered q old new m (verdict q (min (length old.offsets) (length old.starts)))
