-- `steps::rows::keepers` meets its contract: the set that the words have, where there are enough.
use mathlib.Core.Path.{sym, ◌∙◌}
use native.Mathlib.Omega.{arith}
use Rattle.table.specs.Automaton.{automaton}
use Rattle.steps.specs.Step.{keepers_of}
use Rattle.steps.proofs.TableSets.{set_on_lem, set-off, keepers-set}
use Rattle.steps.proofs.rows.keepers.Goals as goal

pub returns-then-words-lt-TABLE_WORDS : goal.returns-then-words-lt-TABLE_WORDS
returns-then-words-lt-TABLE_WORDS c =
    let t = c.args.words.now in
    c.empty.ensures ∙ sym (set-off t (keepers_of (automaton t)) c.if-words-lt-TABLE_WORDS.true)

pub row-requires : goal.row-requires
row-requires c = omega (arith, c.if-words-lt-TABLE_WORDS.false)

pub returns : goal.returns
returns c =
    let t = c.args.words.now in
    c.row.ensures ∙ keepers-set t ∙ sym (set_on_lem t (keepers_of (automaton t)) c.if-words-lt-TABLE_WORDS.false)
