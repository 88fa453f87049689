-- `classes::members::range` meets its contract, by those of the functions that it calls.
use Rattle.std.proofs.Common.{◌≡◌, ◌∙◌, ap, refl, sym}
use mathlib.Core.Path.{ap₂}
use Rattle.refusals.specs.Refusal.{code_of}
use Rattle.atoms.specs.Fault.{lower}
use Rattle.atoms.specs.Answer.{fault, part}
use Rattle.classes.specs.Class.{range_fault}
use Rattle.classes.proofs.Ranges.{err-fault}
use Rattle.classes.proofs.members.range.Goals as goal

pub returns-in-Some : goal.returns-in-Some
returns-in-Some c =
    let f : fault c.lower-2.result ≡ lower (code_of c.args.m.atom) (lower (code_of c.args.n.atom) (range_fault (part c.args.m) (part c.args.n))) =
    c.lower-2.ensures
    ∙ ap₂ lower (ap fault c.err.ensures.value ∙ err-fault c.args.m.atom)
    (c.lower.ensures ∙ ap₂ lower (ap fault c.err-2.ensures.value ∙ err-fault c.args.n.atom) c.range_fault.ensures) in
    record { fault = ap fault (sym c.in-Some.is) ∙ f; size = refl; quoted = refl; ends = tt }

pub returns-in-None : goal.returns-in-None
returns-in-None c =
    let f : fault c.lower-2.result ≡ lower (code_of c.args.m.atom) (lower (code_of c.args.n.atom) (range_fault (part c.args.m) (part c.args.n))) =
    c.lower-2.ensures
    ∙ ap₂ lower (ap fault c.err.ensures.value ∙ err-fault c.args.m.atom)
    (c.lower.ensures ∙ ap₂ lower (ap fault c.err-2.ensures.value ∙ err-fault c.args.n.atom) c.range_fault.ensures) in
    record { fault = ap fault (sym c.in-None.is) ∙ f; size = refl; quoted = refl; ends = (c.atom_of.ensures, c.atom_of-in-None.ensures) }
