-- `carried::chosen` meets its contract: the two ways through it.
use Rattle.std.proofs.Common.{rules, ◌≡◌, Bool, min, sym, ap, ◌∙◌}
use Rattle.steps.specs.Invariants.{chosen_of}
use Rattle.steps.proofs.Carrying.{smaller}
use Rattle.carried.proofs.chosen.Goals as goal

pub returns-then-keep : goal.returns-then-keep
returns-then-keep c =
    let is : c.min.result ≡ min c.args.old c.args.new = search rules in
    is ∙ smaller c.args.old c.args.new ∙ sym (ap (λ (b : Bool). chosen_of b c.args.old c.args.new) c.if-keep.true)

pub returns-else-keep : goal.returns-else-keep
returns-else-keep c = sym (ap (λ (b : Bool). chosen_of b c.args.old c.args.new) c.if-keep.false)
