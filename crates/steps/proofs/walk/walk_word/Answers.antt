-- `steps::walk::walk_word` meets its contract: a turn joins the row of its position.
use Rattle.std.proofs.Common.{ap, sym, ◌∙◌}
use native.Mathlib.Omega.{arith}
use Rattle.std.specs.Int.Count.{ones}
use Rattle.sets.specs.Set.{union_of}
use Rattle.steps.specs.Invariants.{joined}
use Rattle.steps.proofs.Asked.{few}
use Rattle.steps.proofs.Ahead.{one-less, none-ahead, joined-once, joined-end}
use Rattle.steps.proofs.walk.walk_word.Goals as goal

pub overflow_add-turns : goal.overflow_add-turns
overflow_add-turns c = record { fits = omega (arith, c.loop-k.invariant.0, few c.args.word c.ranges.word.fits) }

pub loop-k-preserved : goal.loop-k-preserved
loop-k-preserved c =
    let a = c.args in
    let l = c.loop-k in (
      omega (arith, one-less c.in-Some.ensures.steps, l.invariant.0),
      l.invariant.1 ∙ joined-once a.words.now a.rows a.base l.set c.in-Some.ensures.steps
          ∙ ap (λ set. joined a.words.now a.rows c.next.new.self.0 a.base set (ones c.next.new.self.0)) (sym (c.union-more.ensures ∙ ap (union_of l.set) c.row.ensures)),
    )

pub returns : goal.returns
returns c =
    let a = c.args in
    let l = c.loop-k in (
      omega (arith, none-ahead c.in-None.ensures.steps.0, l.invariant.0),
      sym (l.invariant.1 ∙ joined-end a.words.now a.rows a.base l.set c.in-None.ensures.steps.0),
    )
