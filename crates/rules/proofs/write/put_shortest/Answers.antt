-- `rules::write::put_shortest` meets its contract: the words of the positions from n on are filled.
use native.Mathlib.Omega.{arith}
use Rattle.table.specs.Layout.{max_positions, shortest_at}
use Rattle.table.proofs.Over.{filled-part}
use Rattle.rules.specs.Words.{shortest_put}
use Rattle.rules.proofs.write.put_shortest.Goals as goal

pub returns : goal.returns
unfolding shortest_put
returns c =
    filled-part (shortest_at c.args.n) (shortest_at max_positions) c.args.shortest c.args.words.now _ (omega arith) (omega arith)
    (c.fill.ensures.after (λ y e. e))
