-- `steps::rows::lates` meets its contract: the set that the words have, where there are enough.
use mathlib.Core.Path.{sym, ◌∙◌}
use Rattle.table.specs.Automaton.{automaton}
use Rattle.steps.specs.Step.{lates_of}
use Rattle.steps.proofs.TableSets.{set_on_lem, set-off}
use Rattle.steps.proofs.rows.lates.Goals as goal

pub returns-then-words-lt-TABLE_WORDS : goal.returns-then-words-lt-TABLE_WORDS
returns-then-words-lt-TABLE_WORDS c =
    let t = c.args.words.now in
    c.empty.ensures ∙ sym (set-off t (lates_of (automaton t)) c.if-words-lt-TABLE_WORDS.true)

pub late_row-requires : goal.late_row-requires
late_row-requires c = c.if-words-lt-TABLE_WORDS.false

pub returns : goal.returns
returns c =
    let t = c.args.words.now in
    c.late_row.ensures ∙ sym (set_on_lem t (lates_of (automaton t)) c.if-words-lt-TABLE_WORDS.false)
