-- `traced::scan::carry` meets its contract: what is held first, and then the live positions.
use mathlib.Core.Path.{sym, ap, subst, ◌∙◌}
use mathlib.Core.List.{List}
use Prim.Native.Nat.{ℕ}
use Rattle.table.specs.Automaton.{automaton}
use Rattle.steps.specs.Step.{OnlyIn}
use Rattle.traced.specs.Byte.{live_next, next_starts}
use Rattle.traced.specs.Invariants.{starts_of}
use Rattle.traced.proofs.Delivering.{carried}
use Rattle.traced.proofs.scan.carry.Goals as goal

pub carry_waiting-behind-requires : goal.carry_waiting-behind-requires
carry_waiting-behind-requires c =
    let p = c.requires.0 in
    (p.table, p.gates_are, p.held_is, p.pending_is, p.wait_none)

pub carry_live-ahead-requires : goal.carry_live-ahead-requires
carry_live-ahead-requires c =
    let p = c.requires.0 in
    let same = c.carry_waiting-behind.ensures.live in
    (p.table, p.gates_are, p.next_is, λ e. same ∙ p.live_none e, subst (OnlyIn c.args.s.live) (sym same) p.only, c.requires.1)

pub returns : goal.returns
unfolding next_starts
returns c =
    let a = c.args in
    let ahead = c.carry_live-ahead.ensures in
    let behind = c.carry_waiting-behind.ensures in
    let live = ahead.is ∙ ap (λ (l : List ℕ). live_next (automaton a.words.now) a.s l a.byte) behind.live in
    record {
      spare = ahead.spare;
      starts = carried (λ i. starts_of (live i) (behind.held i) (behind.pairs i)) ahead.none behind.none;
    }
