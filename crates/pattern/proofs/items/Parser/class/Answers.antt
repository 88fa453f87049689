-- The reader of a class meets its contract: a refused class is the walk's refusal, and any other is
-- an item that a quantifier may follow. Each return is a law of `Returns`.
use mathlib.Core.Path.{refl}
use Rattle.std.proofs.lemmas.Result.{err_from_is_err_and}
use Rattle.classes.specs.Class.{closed_class}
use Rattle.pattern.proofs.Returns as returned
use Rattle.pattern.proofs.items.Parser.class.Goals as goal

pub returns-in_err-c : goal.returns-in_err-c
returns-in_err-c c =
    let x = c.args in
    let p = err_from_is_err_and c.from_residual.result c.from_residual.ensures.1 in
    rw (p.1, p.2) (returned.class-fault x.s.now x.self.now c.requires x.self.now _ c.in_err-c.ensures)

pub quantified-requires-clause-room : goal.quantified-requires-clause-room
quantified-requires-clause-room c =
    let x = c.args in
    let i = returned.class-inside x.s.now x.self.now c.requires (closed_class c.in_ok-c.c.place c.in_ok-c.c.set) c.in_ok-c.ensures refl in
    returned.item_room x.s.now x.self.now c.requires c.in_ok-c.c.place _ c.in_ok-c.c.set c.push_item-item.new.self i.0 i.1 c.push_item-item.ensures.words

pub returns : goal.returns
returns c =
    let x = c.args in
    returned.class-item x.s.now x.self.now c.requires (closed_class c.in_ok-c.c.place c.in_ok-c.c.set) c.in_ok-c.ensures refl c.push_item-item.new.self c.push_item-item.result c.quantified.new.self c.quantified.result c.push_item-item.ensures.number c.push_item-item.ensures.words c.quantified.ensures
