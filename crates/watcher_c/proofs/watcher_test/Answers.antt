-- `watcher_c::watcher_test` meets its contract: the number follows the test.
use mathlib.Core.Path.{sym, ap, ◌∙◌}
use mathlib.Core.Bool.{Bool, cond}
use Rattle.watcher_c.specs.Interface.{test_number}
use Rattle.watcher_c.proofs.watcher_test.Goals as goal

pub returns-then-is_table : goal.returns-then-is_table
unfolding test_number
returns-then-is_table c = ap (λ (b : Bool). cond b 0 1) (sym c.if-is_table.true ∙ c.is_table.ensures)

pub returns-else-is_table : goal.returns-else-is_table
unfolding test_number
returns-else-is_table c = ap (λ (b : Bool). cond b 0 1) (sym c.if-is_table.false ∙ c.is_table.ensures)
