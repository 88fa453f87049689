-- The reader of one atom meets its contract: the atom stands for an assertion, or is an item that a
-- quantifier may follow. Each return is a law of `Returns`.
use native.Mathlib.Omega.{arith}
use Rattle.pattern.specs.Invariants.{assertion_for}
use Rattle.pattern.proofs.Returns as returned
use Rattle.pattern.proofs.items.Parser.single.Goals as goal

pub returns-in-Some : goal.returns-in-Some
returns-in-Some c =
    let x = c.args in
    let k = returned.in-code-some (assertion_for x.self.now.options x.atom) c.in-Some.assertion c.in-Some.ensures in
    returned.one-assertion x.s.now x.self.now c.requires x.atom k.0 k.1 c.push.new.self c.push.result c.push.ensures.number (rw k.2 at c.push.ensures.words)

pub quantified-requires-clause-room : goal.quantified-requires-clause-room
quantified-requires-clause-room c =
    let x = c.args in
    returned.item_room x.s.now x.self.now c.requires x.self.now.at _ c.item_set.result c.push_item-item.new.self (omega arith) (omega (arith, c.requires)) c.push_item-item.ensures.words

pub returns-in-None : goal.returns-in-None
returns-in-None c =
    let x = c.args in
    returned.one-item x.s.now x.self.now c.requires x.atom (returned.in-code-none (assertion_for x.self.now.options x.atom) c.in-None.ensures) c.item_set.result c.push_item-item.new.self c.push_item-item.result c.quantified.new.self c.quantified.result c.item_set.ensures c.push_item-item.ensures.number c.push_item-item.ensures.words c.quantified.ensures
