-- `traced::scan::own_run` meets its contract: no rule ends, or the run is given.
use Prim.Native.Nat.{◌^◌, ◌<◌}
use borrow.Author.Rules.{rules}
use Rattle.traced.proofs.Delivering.{wrote_none}
use Rattle.traced.proofs.scan.own_run.Goals as goal

pub returns-then-own-eq0 : goal.returns-then-own-eq0
returns-then-own-eq0 c =
    let small : c.args.late.reported < 2 ^ 64 = search rules in
    wrote_none c.if-own-eq0.true small

pub give_run-requires : goal.give_run-requires
give_run-requires c =
    let p = c.requires in
    (p.0, record { single_is = p.1.single_is; leftmost_is = p.1.leftmost_is; first_small = p.2 }, p.3, p.4, p.5)

pub returns : goal.returns
returns c = c.give_run.ensures
