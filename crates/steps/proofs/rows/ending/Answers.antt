-- `steps::rows::ending` meets its contract: the rules that end at the gap of which it is not known
-- what follows.
use mathlib.Core.Path.{sym, ◌∙◌}
use lib.Dec.{lit<}
use Rattle.table.specs.Gaps.{unsettled}
use Rattle.table.specs.Automaton.{automaton}
use Rattle.steps.specs.Step.{ends, rules_where}
use Rattle.steps.proofs.TableSets.{number-on, number-off}
use Rattle.steps.proofs.rows.ending.Goals as goal

pub returns-then-words-lt-TABLE_WORDS : goal.returns-then-words-lt-TABLE_WORDS
returns-then-words-lt-TABLE_WORDS c =
    let w = automaton c.args.words.now in
    sym (number-off c.args.words.now (rules_where w (ends w unsettled c.args.live)) c.if-words-lt-TABLE_WORDS.true)

pub ending_at-requires : goal.ending_at-requires
ending_at-requires c =
    (c.if-words-lt-TABLE_WORDS.false, lit< tt)

pub returns : goal.returns
returns c =
    let w = automaton c.args.words.now in
    c.ending_at.ensures ∙ sym (number-on c.args.words.now (rules_where w (ends w unsettled c.args.live)) c.if-words-lt-TABLE_WORDS.false)
