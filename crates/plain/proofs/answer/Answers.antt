-- `answer` meets its contract: one law for the reader's refusal, and one for the run.
use mathlib.Core.Path.{refl}
use native.Mathlib.Omega.{arith}
use Rattle.std.specs.Prelude.{Ok, Err}
use Rattle.std.proofs.lemmas.Result.{err_from_is_err_and}
use Rattle.refusals.proofs.Laws.{number-above}
use Rattle.pattern.specs.Read.{answered}
use Rattle.plain.specs.Answer.{question}
use Rattle.plain.specs.Run.{lent}
use Rattle.plain.proofs.Answers.{asked, unread-answer, asks, run-answer}
use Rattle.plain.proofs.answer.Goals as goal

pub returns-in_err-reading : goal.returns-in_err-reading
returns-in_err-reading c =
    let a = c.args in
    let p = err_from_is_err_and c.from_residual.result c.from_residual.ensures.1 in
    let some = number-above c.in_err-reading.field-0.0.refusal in
    rw (p.1, p.2) (
    unread-answer (question a.pattern.now a.flags a.bounds a.log.now) (lent a.offsets.now a.starts.now) c.requires (answered (Err c.in_err-reading.field-0.0)) c.in_err-reading.ensures
    (λ z. omega (arith, some, z)) refl
    )

pub whole-count-requires : goal.whole-count-requires
whole-count-requires c =
    let a = c.args in
    asks (question a.pattern.now a.flags a.bounds a.log.now) (lent a.offsets.now a.starts.now) c.requires (answered (Ok c.in_ok-reading.reading)) c.in_ok-reading.ensures refl

pub returns : goal.returns
returns c =
    let a = c.args in
    run-answer (question a.pattern.now a.flags a.bounds a.log.now) (lent a.offsets.now a.starts.now) c.requires (answered (Ok c.in_ok-reading.reading)) c.in_ok-reading.ensures refl (asked refl c.wanted-wanted.ensures) c.whole-count.ensures refl
