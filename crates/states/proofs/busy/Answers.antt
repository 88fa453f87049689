-- `states::busy` meets its contract: a state with starts begins with the words of a stream's.
use mathlib.Core.Path.{sym, ap, ◌∙◌}
use native.Mathlib.Omega.{arith}
use Rattle.stream.specs.Byte.{busy_of}
use Rattle.states.specs.State.{stream_form}
use Rattle.states.proofs.Answers.{read-long, busy-short, busy-long}
use Rattle.states.proofs.busy.Goals as goal

pub returns-then-words-WORDS : goal.returns-then-words-WORDS
returns-then-words-WORDS g c =
    busy-short g.S.InWords.form c.args.words.now (omega (arith, g.met.S.InWords.sized, c.if-words-WORDS.true))

pub returns : goal.returns
returns g c =
    let a = c.args in
    let s = g.met.S.InWords in
    let enough = c.if-words-WORDS.false in
    c.busy.ensures
    ∙ ap busy_of (c.load.ensures ∙ sym (read-long stream_form a.words.now (omega (arith, s.holds_stream, enough))))
    ∙ busy-long g.S.InWords.form a.words.now (omega (arith, s.sized, enough))
