-- The plain matcher beside the table. It "works straight on the pattern, and gives the same list
-- for that rule as table, scan and closing do"; "Otherwise it refuses with the same numbers and
-- places, but never 1, 3, 4 or 17." What it answers is `Matches` of crates/plain/specs/Answer.antt;
-- the theorem is `plain` of proofs/Plain.antt. Assumes nothing: these are definitions.
use Rattle.std.specs.Prelude.{◌≡◌, ℕ, min, ◌≤◌, length, take}
use mathlib.Core.List.{List, [], ◌∷◌, map, zip, Memᴰ}
use Rattle.table.specs.Layout.{table_words}
use Rattle.table.specs.Table.{emptied}
use Rattle.meaning.specs.Ordered.{Report, of_id}
use Rattle.rules.specs.Add.{Addition, addition_in, answer, add_answer}
use Rattle.rules.specs.Additions.{Accepted, accepted_after}
use Rattle.plain.specs.Answer.{Matched}
use Rattle.plain.specs.Run.{Lent}
use Rattle.plain.specs.Answer.{Question, longest_log, least_space, Matches}
use Rattle.plain.proofs.matches.Statement.{statement as matches}
use Rattle.demands.specs.Kinds.{Kind, short, traces}
use Rattle.demands.specs.Chain.{Item}
use Rattle.demands.specs.Demands.{Setting, accepted_in, Calls, HasClosing, taken, joined}

-- a question that the matcher was asked, the lists that it was lent and how it left them, and its
-- answer
pub record Asked : Type 0 where
  pub question : Question
  pub old : Lent
  pub new : Lent
  pub answer : Matched
  pub answered : Matches question old new answer

-- the same pattern, flags and windows as an addition, by some id
abbrev pub addition_of : (id : ℕ) → Asked → Addition
addition_of id q = addition_in id q.question.flags q.question.windows q.question.pattern

-- "It has no id; its lists are offsets and stream starts": its list, with an id
abbrev pub list_of : (id : ℕ) → Asked → List Report
list_of id q =
    map (λ p. (id, p.0, p.1)) (zip (take q.answer.count q.new.offsets)
    (take q.answer.count q.new.starts))

-- "for that rule": a table that has the rules which this one addition leaves in an emptied one
abbrev pub HasOnly : Setting → (id : ℕ) → Asked → Type 0
HasOnly c id q = accepted_in c ≡ accepted_after [] (addition_of id q ∷ [])

-- "the same list for that rule as table, scan and closing do": a question that is not refused, any
-- id, any table with that rule alone, and any list of calls on it, as demand 3 takes them, that
-- takes the log and has an accepted closing. The reports of all its calls, joined, are the
-- matcher's list.
abbrev pub SameList : {S L C : Type 0} → Kind S L C → Type 0
SameList {S} {L} {C} k =
    (q : Asked) → q.answer.number ≡ 0
    → (id : ℕ) (c : Setting) → HasOnly c id q
    → (items : List (Item L C)) → Calls k c items → HasClosing k c items
    → taken k c items ≡ q.question.log → joined k c items ≡ list_of id q

-- The same in a table of many rules: its reports, kept to the id of that rule, are the matcher's
-- list.
abbrev pub SameAmong : {S L C : Type 0} → Kind S L C → Type 0
SameAmong {S} {L} {C} k =
    (q : Asked) → q.answer.number ≡ 0
    → (c : Setting) (r : Accepted) → Memᴰ r (accepted_in c)
    → accepted_after [] (addition_of r.id q ∷ []) ≡ r ∷ []
    → (items : List (Item L C)) → Calls k c items → HasClosing k c items
    → taken k c items ≡ q.question.log → of_id r.id (joined k c items) ≡ list_of r.id q

-- "it refuses with the same numbers and places": for "a whole log of at most 1,024 bytes" and
-- report space not "under 1,024" its number and place are those of the addition to an emptied table
abbrev pub SameRefusals : Type 0
SameRefusals =
    (q : Asked) → length q.question.log ≤ longest_log
    → least_space ≤ min (length q.old.offsets) (length q.old.starts)
    → (words : List ℕ) → table_words ≤ length words → (id : ℕ)
    → add_answer (emptied words) (addition_of id q) ≡ answer q.answer.number q.answer.place

-- "but never 1, 3, 4 or 17"
abbrev pub Never : Type 0
Never = (q : Asked) → ¬ Memᴰ q.answer.number (1 ∷ 3 ∷ 4 ∷ 17 ∷ [])

-- "gives one fixed answer": the same question and the same lists have one answer, and leave the
-- same lists
abbrev pub OneAnswer : Type 0
OneAnswer =
    (p q : Asked) → p.question ≡ q.question → p.old ≡ q.old
    → (p.answer ≡ q.answer) × (p.new ≡ q.new)

pub record Plain : Type 2 where
  -- the function's own theorem: whatever it is handed, its code ends and meets `Matches`
  pub answers : {M : Type 1} → matches M
  pub one_answer : OneAnswer
  pub by_short : SameList short
  pub by_traces : SameList traces
  pub among_short : SameAmong short
  pub among_traces : SameAmong traces
  pub refusals : SameRefusals
  pub never : Never
