-- `stream::checks::inside` meets its contract: no member is outside; an empty set has none at all.
use mathlib.Core.Path.{sym, ap, ◌∙◌}
use mathlib.Core.List.{List}
use Prim.Native.Nat.{ℕ}
use Rattle.sets.specs.Set.{is_empty, intersection_of, complement_of, kept_below}
use Rattle.stream.proofs.Accepting.{inside-test, inside-empty}
use Rattle.stream.proofs.checks.inside.Goals as goal

pub returns-then-is_empty : goal.returns-then-is_empty
returns-then-is_empty c =
    let a = c.args in
    sym (inside-empty a.s a.positions (sym c.is_empty.ensures ∙ c.if-is_empty.true))

pub returns : goal.returns
returns c =
    let below = c in
    let full = below.before in
    let a = full.args in
    c.is_empty-2.ensures
    ∙ ap is_empty (c.intersection.ensures ∙ ap (intersection_of a.s)
    (c.complement-outside.ensures ∙ ap complement_of (below.below.ensures ∙ ap (λ (s : List ℕ). kept_below s a.positions) full.full.ensures)))
    ∙ inside-test a.s a.positions
