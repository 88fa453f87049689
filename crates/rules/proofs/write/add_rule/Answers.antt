-- `rules::write::add_rule` meets its contract: each call wrote its part, and together they are the
-- defined words.
use mathlib.Core.Path.{◌≡◌, ap, ◌∙◌}
use native.Mathlib.Omega.{arith}
use Rattle.table.specs.Layout.{positions_of}
use Rattle.nodes.specs.Nodes.{tree_at}
use Rattle.automaton.specs.Parts.{parts_of}
use Rattle.rules.specs.Gaps.{holding_at}
use Rattle.rules.proofs.Parts.{sized}
use Rattle.rules.proofs.Made.{added_is}
use Rattle.rules.proofs.write.add_rule.Goals as goal

pub invariant_of-span : goal.invariant_of-span
invariant_of-span c =
    let a = c.args in
    omega (
      arith,
      sized (tree_at a.nodes.now a.root) (positions_of a.words.now) (holding_at 0) c.requires.2 c.build-parts.result
          (c.build-parts.ensures ∙ ap (parts_of (tree_at a.nodes.now a.root) (positions_of a.words.now)) c.holding.ensures),
    )

pub put_gaps-requires : goal.put_gaps-requires
put_gaps-requires c =
    let a = c.args in
    (omega arith, c.requires.2, c.build-parts.ensures ∙ ap (parts_of (tree_at a.nodes.now a.root) (positions_of a.words.now)) c.holding.ensures)

pub returns : goal.returns
returns c =
    let a = c.args in
    let p = c.requires in
    let made = c.build-parts.ensures ∙ ap (parts_of (tree_at a.nodes.now a.root) (positions_of a.words.now)) c.holding.ensures in
    added_is a.words.now a.rule.id a.rule.flags.bits a.rule.keeping (tree_at a.nodes.now a.root) p.0 p.1 p.2 c.build-parts.result made
    c.put_place.new.words c.put_gaps.new.words c.put_takers.new.words c.put_openers.new.words c.put_lates.new.words c.put_counts.new.words
    c.put_place.ensures c.put_gaps.ensures c.put_takers.ensures c.put_openers.ensures c.put_lates.ensures c.put_counts.ensures
