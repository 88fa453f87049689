-- A state with starts is stored as `stored_in` says: too few words stay as they are.
use mathlib.Core.Path.{◌∙◌}
use Rattle.states.specs.State.{traced_form}
use Rattle.states.proofs.Answers.{store-short, store_long}
use Rattle.states.proofs.TracedInWords.store.Goals as goal

pub returns-then-words-ge-WORDS : goal.returns-then-words-ge-WORDS
returns-then-words-ge-WORDS c = c.put_traced.ensures ∙ store_long traced_form c.args.words.now c.args.self c.if-words-ge-WORDS.true

pub returns-else-words-ge-WORDS : goal.returns-else-words-ge-WORDS
returns-else-words-ge-WORDS c = store-short traced_form c.args.words.now c.args.self c.if-words-ge-WORDS.false
