-- `steps::byte::takers` meets its contract: each byte has its row.
use mathlib.Core.Path.{sym, ◌∙◌}
use native.Mathlib.Omega.{arith}
use Rattle.sets.specs.Set.{set_of}
use Rattle.table.specs.Automaton.{automaton}
use Rattle.steps.proofs.Steps.{takers-row}
use Rattle.steps.proofs.TableSets.{set_on_lem, set-off}
use Rattle.steps.proofs.byte.takers.Goals as goal

pub returns-then-words-lt-TABLE_WORDS : goal.returns-then-words-lt-TABLE_WORDS
returns-then-words-lt-TABLE_WORDS c =
    c.empty.ensures ∙ sym (set-off c.args.words.now (set_of ((automaton c.args.words.now).takes c.args.byte)) c.if-words-lt-TABLE_WORDS.true)

pub returns : goal.returns
returns c =
    c.row.ensures ∙ takers-row c.args.words.now c.args.byte (omega arith) ∙ sym (set_on_lem c.args.words.now (set_of ((automaton c.args.words.now).takes c.args.byte)) c.if-words-lt-TABLE_WORDS.false)
