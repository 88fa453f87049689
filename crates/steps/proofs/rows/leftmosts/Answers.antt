-- `steps::rows::leftmosts` meets its contract: the word that the table has for it, where there are
-- words enough.
use mathlib.Core.Path.{sym, ◌∙◌}
use native.Mathlib.Omega.{arith}
use Rattle.table.specs.Automaton.{automaton}
use Rattle.steps.specs.Step.{rules_where}
use Rattle.steps.proofs.TableSets.{number-on, number-off, leftmosts-word}
use Rattle.steps.proofs.rows.leftmosts.Goals as goal

pub returns-then-words-lt-TABLE_WORDS : goal.returns-then-words-lt-TABLE_WORDS
returns-then-words-lt-TABLE_WORDS c =
    let t = c.args.words.now in
    sym (number-off t (rules_where (automaton t) (automaton t).leftmost) c.if-words-lt-TABLE_WORDS.true)

pub marked-requires : goal.marked-requires
marked-requires c = (c.if-words-lt-TABLE_WORDS.false, omega arith)

pub returns : goal.returns
returns c =
    let t = c.args.words.now in
    c.marked.ensures ∙ leftmosts-word t
    ∙ sym (number-on t (rules_where (automaton t) (automaton t).leftmost) c.if-words-lt-TABLE_WORDS.false)
