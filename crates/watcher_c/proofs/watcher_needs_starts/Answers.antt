-- `watcher_c::watcher_needs_starts` meets its contract: both tests are those of the definition.
use mathlib.Core.Path.{◌≡◌, refl, sym, ap, ap₂, ◌∙◌}
use mathlib.Core.Bool.{Bool, true, false, cond, ◌&&◌}
use mathlib.Core.List.{List}
use Prim.Native.Nat.{ℕ}
use lib.Dec.{leb}
use lib.ListN.{length}
use Rattle.table.specs.Layout.{table_words}
use Rattle.table.specs.Table.{is_table}
use Rattle.table.specs.Automaton.{automaton}
use Rattle.stream.specs.Valid.{needs_starts}
use Rattle.watcher_c.specs.Interface.{needs_number}
use Rattle.watcher_c.proofs.watcher_needs_starts.Goals as goal

-- a table has words enough, so the second test need not ask for them
twice : (a r n : Bool) → (a && r) && (a && n) ≡ (a && r) && n
twice true r n = refl
twice false r n = refl

both : (t : List ℕ) → is_table t && (leb table_words (length t) && needs_starts (automaton t)) ≡ is_table t && needs_starts (automaton t)
unfolding is_table
both t = twice (leb table_words (length t)) _ (needs_starts (automaton t))

pub returns-then-is_table-needs_starts : goal.returns-then-is_table-needs_starts
unfolding needs_number
returns-then-is_table-needs_starts c =
    let e = ap₂ ◌&&◌ c.is_table.ensures c.needs_starts.ensures in
    ap (λ (b : Bool). cond b 1 0) (sym c.if-is_table-needs_starts.true ∙ e ∙ both c.args.table.now)

pub returns-else-is_table-needs_starts : goal.returns-else-is_table-needs_starts
unfolding needs_number
returns-else-is_table-needs_starts c =
    let e = ap₂ ◌&&◌ c.is_table.ensures c.needs_starts.ensures in
    ap (λ (b : Bool). cond b 1 0) (sym c.if-is_table-needs_starts.false ∙ e ∙ both c.args.table.now)
