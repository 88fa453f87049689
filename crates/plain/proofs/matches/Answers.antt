-- `matches` meets its contract: the checks before the pattern is read, then the answer.
use mathlib.Core.Path.{refl}
use native.Mathlib.Omega.{arith}
use Rattle.refusals.proofs.Laws.{number-above}
use Rattle.plain.specs.Answer.{question}
use Rattle.plain.specs.Run.{lent}
use Rattle.plain.proofs.Answers.{early-answer, checked}
use Rattle.plain.proofs.matches.Goals as goal

pub returns-in-Err : goal.returns-in-Err
returns-in-Err c =
    let a = c.args in
    early-answer (question a.pattern.now a.flags a.bounds a.log.now) (lent a.offsets.now a.starts.now) c.min-space.ensures c.in-Err.ensures (λ z. omega (arith, number-above c.in-Err.refusal)) refl

pub answer-requires : goal.answer-requires
answer-requires c =
    let a = c.args in
    checked (question a.pattern.now a.flags a.bounds a.log.now) (lent a.offsets.now a.starts.now) c.min-space.ensures c.in_default.ensures refl
