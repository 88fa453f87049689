-- `steps::windows::in_window` meets its contract: the rules with a window are the digits that the
-- two words share.
use mathlib.Core.Path.{sym, ◌∙◌}
use Rattle.table.specs.Automaton.{automaton}
use Rattle.steps.specs.Step.{in_window}
use Rattle.steps.proofs.TableSets.{number-on, number-off}
use Rattle.steps.proofs.windows.in_window.Goals as goal

pub returns-then-words-lt-TABLE_WORDS : goal.returns-then-words-lt-TABLE_WORDS
returns-then-words-lt-TABLE_WORDS c =
    let a = c.args in
    sym (number-off a.words.now (in_window (automaton a.words.now) a.rules a.end) c.if-words-lt-TABLE_WORDS.true)

pub returns : goal.returns
returns c =
    let a = c.args in
    c.sift_all.ensures ∙ sym (number-on a.words.now (in_window (automaton a.words.now) a.rules a.end) c.if-words-lt-TABLE_WORDS.false)
