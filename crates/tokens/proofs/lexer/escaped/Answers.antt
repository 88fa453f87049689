-- `tokens::lexer::escaped` meets its contract: it asks what the definition asks.
use Rattle.std.proofs.Common.{◌≡◌, ◌∙◌, arith, ap, refl, sym, ne_eqb, cond, Result, ℕ}
use lib.Dec.{eqb}
use Rattle.refusals.specs.declared.Refusal.{Refusal}
use Rattle.refusals.specs.Refusal.{number_of, code_of}
use Rattle.refusals.proofs.Laws.{number-above}
use Rattle.atoms.specs.declared.Atom.{Atom}
use Rattle.atoms.specs.Answer.{atom_of}
use Rattle.tokens.specs.Lexeme.{Lexeme, One}
use Rattle.tokens.specs.Option.{plain, faulty}
use Rattle.tokens.specs.Token.{escaped}
use Rattle.tokens.proofs.lexer.escaped.Goals as goal

-- what stands there, by what the escape gives
abbrev by : Result Atom Refusal → ℕ → Lexeme
by a size = cond (eqb (code_of a) 0) (plain size (One (atom_of a))) (faulty (code_of a))

pub returns-in-Ok : goal.returns-in-Ok
unfolding escaped
returns-in-Ok c = c.plain.ensures ∙ sym (ap (λ (a : Result Atom Refusal). by a c.args.p.size) c.in-Ok.is)

pub returns-in-Err : goal.returns-in-Err
unfolding escaped
returns-in-Err c =
    c.refused.ensures
    ∙ sym (ap (λ (a : Result Atom Refusal). by a c.args.p.size) c.in-Err.is
    ∙ rw (ne_eqb (number_of c.in-Err.refusal) 0 (λ e. omega (arith, number-above c.in-Err.refusal))) refl)
