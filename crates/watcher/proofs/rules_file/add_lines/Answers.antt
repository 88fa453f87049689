-- `watcher::rules_file::add_lines` meets its contract: a line keeps the table and ends within the
-- text, and there are no more lines than bytes passed.
use mathlib.Core.Path.{sym, subst}
use native.Mathlib.Omega.{arith}
use Rattle.lines.proofs.Laws.{line-within}
use Rattle.watcher.specs.Invariants.{FromEmpty}
use Rattle.watcher.proofs.Keeping.{line_kept}
use Rattle.watcher.proofs.rules_file.add_lines.Goals as goal

pub loop-from-init : goal.loop-from-init
loop-from-init c = record { table = c.requires; within = omega arith; counted = omega arith; room = omega arith }

pub slice_bounds-add_line-count : goal.slice_bounds-add_line-count
slice_bounds-add_line-count c = omega (arith, c.line_end-end.ensures, line-within c.args.text.now c.loop-from.from (omega arith))

pub slice_bounds-add_line-start : goal.slice_bounds-add_line-start
slice_bounds-add_line-start c = omega (arith, c.line_end-end.ensures, line-within c.args.text.now c.loop-from.from (omega arith))

pub slice_bounds-add_line-end : goal.slice_bounds-add_line-end
slice_bounds-add_line-end c = omega (arith, c.line_end-end.ensures, line-within c.args.text.now c.loop-from.from (omega arith))

pub returns-in_err-at : goal.returns-in_err-at
returns-in_err-at c = subst FromEmpty (sym c.add_line-added.ensures.words) (line_kept _ _ c.loop-from.invariant.table)

pub overflow_add-from : goal.overflow_add-from
overflow_add-from c = omega (arith, c.line_end-end.ensures, line-within c.args.text.now c.loop-from.from (omega arith))

pub loop-from-smaller : goal.loop-from-smaller
loop-from-smaller c = omega (arith, c.line_end-end.ensures, line-within c.args.text.now c.loop-from.from (omega arith))

pub loop-from-preserved : goal.loop-from-preserved
loop-from-preserved c =
    let l = line-within c.args.text.now c.loop-from.from (omega arith) in
    record {
      table = subst FromEmpty (sym c.add_line-added.ensures.words) (line_kept _ _ c.loop-from.invariant.table);
      within = omega (arith, c.line_end-end.ensures, l);
      counted = omega (arith, c.line_end-end.ensures, l);
      room = c.in_ok-at.ensures;
    }

pub flush-requires : goal.flush-requires
flush-requires c = c.loop-from.invariant.room

pub returns : goal.returns
returns c = c.loop-from.invariant.table
