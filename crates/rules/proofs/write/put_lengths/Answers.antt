-- `rules::write::put_lengths` meets its contract: with a smallest length the word is 1, and without
-- it stays.
use mathlib.Core.Path.{sym, ap}
use mathlib.Core.Bool.{Bool, cond}
use native.Mathlib.Omega.{arith}
use borrow.Author.Tests.{eq-eqb, ne_eqb}
use Rattle.table.specs.Layout.{lengths_at, lengths_of}
use Rattle.rules.proofs.Blocks.{one-put, one-kept}
use Rattle.rules.proofs.Steps.{lengths-is}
use Rattle.rules.proofs.write.put_lengths.Goals as goal

pub returns-then-shortest-ne0 : goal.returns-then-shortest-ne0
returns-then-shortest-ne0 c =
    let t = c.args.words.now in
    lengths-is c.args.shortest 1 t _ (sym (ap (λ (b : Bool). cond b (lengths_of t) 1) (ne_eqb c.args.shortest 0 c.if-shortest-ne0.true))) (one-put lengths_at 1 t (omega arith))

pub returns-else-shortest-ne0 : goal.returns-else-shortest-ne0
returns-else-shortest-ne0 c =
    let t = c.args.words.now in
    lengths-is c.args.shortest (lengths_of t) t _ (sym (ap (λ (b : Bool). cond b (lengths_of t) 1) (eq-eqb c.args.shortest 0 c.if-shortest-ne0.false))) (one-kept lengths_at t (omega arith))
