-- `stream::reports::held_rules` meets its contract: the held pairs are those of rules, kept to
-- those in their window.
use mathlib.Core.Path.{ap, ◌∙◌}
use Prim.Native.Nat.{ℕ, ◌^◌, ◌<◌}
use native.Mathlib.Omega.{arith}
use Rattle.sets.specs.Set.{on}
use Rattle.table.specs.Automaton.{automaton}
use Rattle.table.proofs.Test.{passes}
use Rattle.steps.specs.Step.{rules_where, windowed}
use Rattle.steps.proofs.Sifting.{window-is}
use Rattle.stream.proofs.Accepting.{pending-rules}
use Rattle.stream.proofs.reports.held_rules.Goals as goal

pub returns : goal.returns
returns c =
    let s = c.args.s in
    let t = c.args.words.now in
    let w = automaton t in
    let small : s.pending < 2 ^ 64 = omega arith in
    window-is t (on s.pending) c.before_last.result (passes t c.requires.0).long
    (pending-rules w s c.requires.1 small) c.in_window.ensures
    ∙ ap (λ (e : ℕ). rules_where w (windowed w (on s.pending) e)) c.before_last.ensures
