-- What a line of the rules file does: its answer, and the table's words afterwards. Assumes
-- nothing: these are definitions.
use Rattle.std.specs.Prelude.{cond, List, ℕ, drop}
use Rattle.lines.specs.Lines.{ReadLine, rule_line_of}
use Rattle.rules.specs.declared.Added.{Added}
use Rattle.rules.specs.Add.{addition, answer, add_answer, add_words}

module _ (t line : List ℕ) where
  -- "A malformed line gives number 22 at 0"
  unfoldable pub line_answer : Added
  line_answer =
      let r : ReadLine = rule_line_of line in
      cond r.good (add_answer t (addition r.id r.flags (drop r.pattern line))) (answer 22 0)

  unfoldable pub line_words : List ℕ
  line_words =
      let r : ReadLine = rule_line_of line in
      cond r.good (add_words t (addition r.id r.flags (drop r.pattern line))) t
