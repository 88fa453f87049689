-- `watcher::main` is safe and ends: the emptied words are a table, and the rules keep it one.
use Prim.Native.Nat.{ℕ}
use native.Mathlib.Omega.{arith}
use lib.ListN.{length-replicate}
use Rattle.watcher.proofs.Keeping.{emptied-from, is-table}
use Rattle.watcher.proofs.main.Goals as goal

pub add_rules-requires : goal.add_rules-requires
add_rules-requires c = emptied-from _ _ (omega (arith, length-replicate {A = ℕ} 16384 0)) c.empty.ensures.1

pub watch-requires : goal.watch-requires
watch-requires c = is-table _ c.add_rules.ensures
