-- `classes::members::single` meets its contract: by what the part gives.
use Rattle.std.proofs.Common.{ap, refl, sym, Result}
use Rattle.refusals.specs.declared.Refusal.{Refusal}
use Rattle.refusals.specs.Refusal.{code_of}
use Rattle.atoms.specs.declared.Atom.{Atom}
use Rattle.atoms.specs.Answer.{atom_of}
use Rattle.classes.proofs.members.single.Goals as goal

pub returns-in-Ok : goal.returns-in-Ok
returns-in-Ok c =
    let is = sym c.in-Ok.is in
    record {
      fault = ap (λ (a : Result Atom Refusal). code_of a) is;
      size = refl;
      quoted = refl;
      ends = (ap atom_of is, ap atom_of is);
    }

pub returns-in-Err : goal.returns-in-Err
returns-in-Err c =
    record { fault = ap (λ (a : Result Atom Refusal). code_of a) (sym c.in-Err.is); size = refl; quoted = refl; ends = tt }
