-- `rules::write::put_place` meets its contract: each call wrote its part, for the place of the id.
use mathlib.Core.Path.{ap, ◌∙◌}
use mathlib.Core.Bool.{Bool}
use Rattle.table.specs.Layout.{leftmosts_at}
use Rattle.rules.specs.Invariants.{digits_put}
use Rattle.rules.specs.Words.{is_single, is_leftmost}
use Rattle.rules.proofs.Steps.{place_is}
use Rattle.rules.proofs.write.put_place.Goals as goal

pub returns : goal.returns
returns c =
    let a = c.args in
    let k = c.place_of-k in
    place_is a.rules a.span.n a.span.more a.rule.id k.result (is_single a.rule.flags.bits) (is_leftmost a.rule.flags.bits) a.rule.keeping a.words.now
    c.put_number.new.words c.put_digits.new.words c.put_digits-2.new.words c.put_owners.new.words c.put_keepers.new.words k.ensures.1 c.put_number.ensures
    (c.put_digits.ensures ∙ ap (λ (b : Bool). digits_put 3 k.result b c.put_number.new.words) c.single.ensures)
    (c.put_digits-2.ensures ∙ ap (λ (b : Bool). digits_put leftmosts_at k.result b c.put_digits.new.words) c.leftmost.ensures)
    c.put_owners.ensures c.put_keepers.ensures
