-- `steps::rows::singles` meets its contract: the word that the table has for it, where there are
-- words enough.
use mathlib.Core.Path.{sym, ◌∙◌}
use native.Mathlib.Omega.{arith}
use Rattle.table.specs.Automaton.{automaton, single}
use Rattle.steps.specs.Step.{rules_where}
use Rattle.steps.proofs.TableSets.{number-on, number-off, singles-word}
use Rattle.steps.proofs.rows.singles.Goals as goal

pub returns-then-words-lt-TABLE_WORDS : goal.returns-then-words-lt-TABLE_WORDS
returns-then-words-lt-TABLE_WORDS c =
    let t = c.args.words.now in
    sym (number-off t (rules_where (automaton t) (single (automaton t))) c.if-words-lt-TABLE_WORDS.true)

pub marked-requires : goal.marked-requires
marked-requires c = (c.if-words-lt-TABLE_WORDS.false, omega arith)

pub returns : goal.returns
returns c =
    let t = c.args.words.now in
    c.marked.ensures ∙ singles-word t
    ∙ sym (number-on t (rules_where (automaton t) (single (automaton t))) c.if-words-lt-TABLE_WORDS.false)
