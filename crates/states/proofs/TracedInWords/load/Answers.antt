-- A state with starts is read as `state_in` says: each part is copied from its place; too few words
-- are read as none, whose words and starts are zeros.
use mathlib.Core.Path.{refl, ◌∙◌}
use mathlib.Core.List.{[]}
use native.Mathlib.Omega.{arith}
use Rattle.table.specs.Layout.{max_rules, max_positions}
use Rattle.steps.specs.Step.{list_from}
use Rattle.states.specs.State.{live_at, held_at, pairs_at, traced_form}
use Rattle.states.proofs.Words.{cut_part, loaded-traced}
use Rattle.states.proofs.Answers.{read_short, read-long}
use Rattle.states.proofs.TracedInWords.load.Goals as goal

pub returns-then-words-ge-WORDS : goal.returns-then-words-ge-WORDS
returns-then-words-ge-WORDS c =
    let t = c.args.words.now in
    let enough = c.if-words-ge-WORDS.true in
    loaded-traced t c.state_in-stream.ensures
    (c.copy_from_slice.ensures.after ∙ cut_part t live_at max_positions (omega (arith, enough)))
    (c.copy_from_slice-then-words-ge-WORDS.ensures.after ∙ cut_part t held_at max_positions (omega (arith, enough)))
    (c.copy_from_slice-then-words-ge-WORDS-2.ensures.after ∙ cut_part t pairs_at max_rules (omega (arith, enough)))
    ∙ read-long traced_form t enough

pub returns-else-words-ge-WORDS : goal.returns-else-words-ge-WORDS
unfolding list_from
returns-else-words-ge-WORDS c =
    loaded-traced [] c.no_state-stream.ensures refl refl refl ∙ read_short traced_form c.args.words.now c.if-words-ge-WORDS.false
