-- `lines::line_end` meets its contract: the line that is read from `at` on ends where the whole
-- line does, since no byte passed ends a line.
use Rattle.std.proofs.Common.{refl, ◌∙◌, arith}
use Rattle.lines.proofs.Suffixes.{end-past, end-here, end_later}
use Rattle.lines.proofs.line_end.Goals as goal

pub loop-at-init : goal.loop-at-init
loop-at-init c = record { same = refl; within = omega arith }

pub returns-then-text-at-eq-NEWLINE : goal.returns-then-text-at-eq-NEWLINE
returns-then-text-at-eq-NEWLINE c = end-here c.args.text.now c.loop-at.at (omega arith) (omega arith) ∙ c.loop-at.invariant.same

pub loop-at-preserved : goal.loop-at-preserved
loop-at-preserved c = record {
  same = end_later _ c.loop-at.at (omega arith) c.if-text-at-eq-NEWLINE.false ∙ c.loop-at.invariant.same;
  within = omega arith;
}

pub returns : goal.returns
returns c = omega (arith, end-past c.args.text.now c.loop-at.at (omega arith), c.loop-at.invariant.same, c.loop-at.invariant.within, c.max.ensures)
