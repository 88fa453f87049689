-- `steps::rows::lasts` meets its contract: the last set of the gap of which it is not known what
-- follows.
use mathlib.Core.Path.{sym, ◌∙◌}
use lib.Dec.{lit<}
use Rattle.table.specs.Automaton.{automaton}
use Rattle.steps.specs.Step.{lasts_of}
use Rattle.steps.proofs.TableSets.{set_on_lem, set-off, lasts-set}
use Rattle.steps.proofs.rows.lasts.Goals as goal

pub returns-then-words-lt-TABLE_WORDS : goal.returns-then-words-lt-TABLE_WORDS
returns-then-words-lt-TABLE_WORDS c =
    let t = c.args.words.now in
    c.empty.ensures ∙ sym (set-off t (lasts_of (automaton t)) c.if-words-lt-TABLE_WORDS.true)

pub last_row-requires : goal.last_row-requires
last_row-requires c = (c.if-words-lt-TABLE_WORDS.false, lit< tt)

pub returns : goal.returns
returns c =
    let t = c.args.words.now in
    c.last_row.ensures ∙ lasts-set (automaton t) ∙ sym (set_on_lem t (lasts_of (automaton t)) c.if-words-lt-TABLE_WORDS.false)
