-- `tokens::lexer::token_at` meets its contract: the token as it is spelled, where it has no fault,
-- else one with its fault.
use Rattle.std.proofs.Common.{◌∙◌, ap, sym, ℕ, drop}
use Rattle.refusals.specs.Refusal.{number_of}
use Rattle.atoms.specs.Raw.{with_raw}
use Rattle.tokens.specs.Token.{faulty_as}
use Rattle.tokens.specs.Answer.{token_of, fault_of}
use Rattle.tokens.proofs.Lexemes.{sound-at, faulty-at}
use Rattle.tokens.proofs.lexer.token_at.Goals as goal

pub returns-in-None : goal.returns-in-None
returns-in-None c =
    let l = c.spelled-l.result in
    sound-at c.args.s.now c.args.at c.args.options l c.with_raw.result c.spelled-l.ensures
    (c.with_raw.ensures
    ∙ ap (λ (b : ℕ). with_raw b l.size (drop c.args.at c.args.s.now)) (c.own_fault.ensures ∙ ap fault_of (sym c.in-Ok.is)))
    c.in-None.is

pub returns-in-Some : goal.returns-in-Some
returns-in-Some c =
    let l = c.spelled-l.result in
    let r = c.in-Some.refusal in
    c.faulty_as.ensures
    ∙ ap (faulty_as (number_of r)) (ap token_of (sym c.in-Ok.is))
    ∙ faulty-at c.args.s.now c.args.at c.args.options l c.with_raw.result c.spelled-l.ensures
    (c.with_raw.ensures
    ∙ ap (λ (b : ℕ). with_raw b l.size (drop c.args.at c.args.s.now)) (c.own_fault.ensures ∙ ap fault_of (sym c.in-Ok.is)))
    r c.in-Some.is

pub returns-in-None-with_raw : goal.returns-in-None-with_raw
returns-in-None-with_raw c =
    let l = c.spelled-l.result in
    sound-at c.args.s.now c.args.at c.args.options l c.with_raw-in-Err.result c.spelled-l.ensures
    (c.with_raw-in-Err.ensures ∙ ap (λ (b : ℕ). with_raw b l.size (drop c.args.at c.args.s.now)) (ap fault_of (sym c.in-Err.is)))
    c.in-None-with_raw.is

pub returns-in-Some-with_raw : goal.returns-in-Some-with_raw
returns-in-Some-with_raw c =
    let l = c.spelled-l.result in
    let r = c.in-Some-with_raw.refusal in
    c.refused.ensures
    ∙ ap (faulty_as (number_of r)) (ap token_of (sym c.in-Err.is))
    ∙ faulty-at c.args.s.now c.args.at c.args.options l c.with_raw-in-Err.result c.spelled-l.ensures
    (c.with_raw-in-Err.ensures ∙ ap (λ (b : ℕ). with_raw b l.size (drop c.args.at c.args.s.now)) (ap fault_of (sym c.in-Err.is)))
    r c.in-Some-with_raw.is
