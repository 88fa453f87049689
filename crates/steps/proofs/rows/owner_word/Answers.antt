-- `steps::rows::owner_word` meets its contract: a turn collects the owner of its position.
use Rattle.std.proofs.Common.{ap, sym, ◌∙◌}
use Rattle.std.specs.Int.Count.{ones}
use Rattle.steps.specs.Invariants.{collected}
use Rattle.steps.proofs.Ahead.{collected-once, collected-end}
use Rattle.steps.proofs.rows.owner_word.Goals as goal

pub loop-k-preserved : goal.loop-k-preserved
loop-k-preserved c =
    let a = c.args in
    let l = c.loop-k in
    l.invariant ∙ collected-once a.words.now a.rules a.base l.found c.in-Some.ensures.steps
    ∙ ap (λ found. collected a.words.now a.rules c.next.new.self.0 a.base found (ones c.next.new.self.0)) (sym c.with_owner-found.ensures)

pub returns : goal.returns
returns c = let a = c.args in sym (c.loop-k.invariant ∙ collected-end a.words.now a.rules a.base c.loop-k.found c.in-None.ensures.steps.0)
