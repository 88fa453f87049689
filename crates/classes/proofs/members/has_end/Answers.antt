-- `classes::members::has_end` meets its contract: a bad escape has the number 6, and no other.
use Rattle.std.proofs.Common.{◌∙◌, ap, sym, not, Result}
use lib.Dec.{eqb}
use Rattle.refusals.specs.declared.Refusal.{Refusal}
use Rattle.refusals.specs.Refusal.{code_of}
use Rattle.atoms.specs.declared.Atom.{Atom}
use Rattle.classes.proofs.Endings.{bad-escape}
use Rattle.classes.proofs.members.has_end.Goals as goal

pub returns-in-Ok : goal.returns-in-Ok
returns-in-Ok c = ap (λ (a : Result Atom Refusal). not (eqb (code_of a) 6)) (sym c.in-Ok.is)

pub returns-in-Err : goal.returns-in-Err
returns-in-Err c =
    c.ne.ensures ∙ ap not (bad-escape c.in-Err.refusal) ∙ ap (λ (a : Result Atom Refusal). not (eqb (code_of a) 6)) (sym c.in-Err.is)
