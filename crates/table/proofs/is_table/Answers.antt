-- `table::is_table` meets its contract: each early answer shows a link of the test that fails; with
-- the header in order, the ids decide.
use Rattle.std.proofs.Common.{sym, ◌∙◌, arith}
use Rattle.table.proofs.Test.{refused, by-ids}
use Rattle.table.proofs.is_table.Goals as goal
use Rattle.table.proofs.is_table.Goals.{then-words-lt-TABLE_WORDS-via-then-words-lt-TABLE_WORDS, then-words-lt-TABLE_WORDS-via-else-words-lt-TABLE_WORDS+then-words-ne-FORMAT, then-rules-gt-MAX_RULES-via-then-rules-gt-MAX_RULES, then-rules-gt-MAX_RULES-via-else-rules-gt-MAX_RULES+then-words-gt-MAX_POSITIONS}

pub returns-then-words-lt-TABLE_WORDS : goal.returns-then-words-lt-TABLE_WORDS
returns-then-words-lt-TABLE_WORDS c =
    elim c.then-words-lt-TABLE_WORDS.branch [
      | then-words-lt-TABLE_WORDS-via-then-words-lt-TABLE_WORDS w ↦ sym (refused c.args.words.now (λ p. omega arith))
      | then-words-lt-TABLE_WORDS-via-else-words-lt-TABLE_WORDS+then-words-ne-FORMAT w ↦ sym (refused c.args.words.now (λ p. w.if-words-ne-FORMAT.true p.marked))
    ]

pub returns-then-rules-gt-MAX_RULES : goal.returns-then-rules-gt-MAX_RULES
returns-then-rules-gt-MAX_RULES c =
    elim c.then-rules-gt-MAX_RULES.branch [
      | then-rules-gt-MAX_RULES-via-then-rules-gt-MAX_RULES w ↦ sym (refused c.args.words.now (λ p. omega arith))
      | then-rules-gt-MAX_RULES-via-else-rules-gt-MAX_RULES+then-words-gt-MAX_POSITIONS w ↦ sym (refused c.args.words.now (λ p. omega arith))
    ]

pub returns : goal.returns
returns c =
    let t = c.args.words.now in
    c.ids_ok.ensures ∙ sym (by-ids t (omega arith) c.if-words-ne-FORMAT.false (omega arith) (omega arith))
