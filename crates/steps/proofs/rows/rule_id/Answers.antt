-- `steps::rows::rule_id` meets its contract: below the limit the automaton has the id, and past it
-- 0.
use mathlib.Core.Path.{◌∙◌}
use Rattle.steps.proofs.TableSets.{id-word, id-past}
use Rattle.steps.proofs.rows.rule_id.Goals as goal

pub returns-then-place-lt-MAX_RULES : goal.returns-then-place-lt-MAX_RULES
returns-then-place-lt-MAX_RULES c =
    let a = c.args in
    c.word.ensures ∙ id-word a.words.now a.place c.if-place-lt-MAX_RULES.true

pub returns-else-place-lt-MAX_RULES : goal.returns-else-place-lt-MAX_RULES
returns-else-place-lt-MAX_RULES c =
    let a = c.args in
    id-past a.words.now a.place c.if-place-lt-MAX_RULES.false
