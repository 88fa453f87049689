-- A stream's state is read as `state_in` says: too few words are read as none.
use mathlib.Core.Path.{◌∙◌}
use Rattle.states.specs.State.{stream_form}
use Rattle.states.proofs.Answers.{read_short, read-long}
use Rattle.states.proofs.StreamInWords.load.Goals as goal

pub returns-then-words-lt-WORDS : goal.returns-then-words-lt-WORDS
returns-then-words-lt-WORDS c = c.no_state.ensures ∙ read_short stream_form c.args.words.now c.if-words-lt-WORDS.true

pub returns-else-words-lt-WORDS : goal.returns-else-words-lt-WORDS
returns-else-words-lt-WORDS c = c.state_in.ensures ∙ read-long stream_form c.args.words.now c.if-words-lt-WORDS.false
