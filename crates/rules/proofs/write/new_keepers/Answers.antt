-- `rules::write::new_keepers` meets its contract: the positions below the new count, and not below
-- the old one; or none.
use mathlib.Core.Path.{sym, ap, ◌∙◌}
use mathlib.Core.List.{List}
use Prim.Native.Nat.{ℕ, ◌+◌}
use Rattle.sets.specs.Set.{kept_below}
use Rattle.rules.specs.Invariants.{new_keepers}
use Rattle.rules.proofs.Steps.{keepers-new, keepers-none}
use Rattle.rules.proofs.write.new_keepers.Goals as goal

pub returns-then-keeping : goal.returns-then-keeping
returns-then-keeping c =
    let n = c.args.span.n in
    let more = c.args.span.more in
    c.intersection.ensures
    ∙ keepers-new n more c.below-all.result c.below-old.result c.complement.result
    (c.below-all.ensures ∙ ap (λ (s : List ℕ). kept_below s (n + more)) c.full.ensures)
    (c.below-old.ensures ∙ ap (λ (s : List ℕ). kept_below s n) c.full-then-keeping.ensures)
    c.complement.ensures
    ∙ ap (new_keepers n more) (sym c.if-keeping.true)

pub returns : goal.returns
returns c = c.empty.ensures ∙ keepers-none c.args.span.n c.args.span.more ∙ ap (new_keepers c.args.span.n c.args.span.more) (sym c.if-keeping.false)
