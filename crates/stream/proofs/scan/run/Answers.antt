-- `stream::scan::run` meets its contract: each turn passes over the bytes that change nothing and
-- offers one more.
use borrow.Author.Rules.{rules}
use mathlib.Core.Path.{ap, ◌∙◌}
use mathlib.Core.Bool.{◌&&◌}
use mathlib.Core.List.{List}
use Prim.Native.Nat.{ℕ, ◌^◌, ◌<◌}
use Rattle.sets.specs.Set.{has, any}
use Rattle.table.specs.Layout.{max_positions}
use Rattle.table.specs.Automaton.{automaton}
use Rattle.stream.specs.Calls.{lists}
use Rattle.stream.proofs.Lists.{filled-inside}
use Rattle.stream.proofs.Turns.{running-start, passed-over, turned, further, ran}
use Rattle.stream.proofs.scan.run.Goals as goal

pub bytes-init : goal.bytes-init
bytes-init c =
    let a = c.args in
    let small : a.s.reported < 2 ^ 64 = search rules in
    running-start (automaton a.words.now) a.s a.allowance a.block.now (lists a.ids.now a.offsets.now) c.meets.result
    (c.meets.ensures ∙ ap (λ (s : List ℕ). any max_positions (λ q. has a.s.live q && has s q)) c.requires.1.late_is) small

pub pass_over-over-requires : goal.pass_over-over-requires
pass_over-over-requires c = (c.bytes.invariant.inside, c.requires.2)

pub take_byte-requires : goal.take_byte-requires
take_byte-requires c =
    let still = passed-over c.bytes.invariant c.pass_over-over.ensures in
    (c.requires.0, c.requires.1, still.waits_is, filled-inside still.filled, c.requires.2)

pub bytes-smaller : goal.bytes-smaller
bytes-smaller c = further c.bytes.invariant c.pass_over-over.ensures c.in-Some.ensures

pub bytes-preserved : goal.bytes-preserved
bytes-preserved c = turned c.bytes.invariant c.pass_over-over.ensures c.in-Some.ensures

pub returns-in-None : goal.returns-in-None
returns-in-None c = ran c.bytes.invariant c.pass_over-over.ensures c.in-None.ensures
