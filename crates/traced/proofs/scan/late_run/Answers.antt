-- `traced::scan::late_run` meets its contract: no rule ends, or the run is given.
use mathlib.Core.List.{List}
use mathlib.Core.Path.{◌≡◌, sym, ap, subst, ◌∙◌}
use Prim.Native.Nat.{ℕ, ◌+◌, ◌^◌, ◌<◌, ◌≤◌}
use borrow.Author.Rules.{rules}
use lib.ListN.{length}
use Rattle.sets.specs.Set.{on}
use Rattle.table.specs.Gaps.{between}
use Rattle.table.specs.Automaton.{Automaton, automaton}
use Rattle.steps.specs.Step.{start_at}
use Rattle.stream.specs.Byte.{run_reports}
use Rattle.traced.specs.Byte.{given}
use Rattle.traced.specs.Calls.{Lists, lists, space}
use Rattle.traced.specs.Invariants.{Wrote}
use Rattle.traced.proofs.Delivering.{wrote_none}
use Rattle.traced.proofs.scan.late_run.Goals as goal

pub returns-then-late-eq0 : goal.returns-then-late-eq0
returns-then-late-eq0 c =
    let small : c.args.s.reported < 2 ^ 64 = search rules in
    wrote_none c.if-late-eq0.true small

-- the run, by the gap
at_gap : (w : Automaton) (late reported taken first : ℕ) (live starts : List ℕ) {g g' : ℕ} → g ≡ g' → {next marks : ℕ} {l l' : Lists}
    → Wrote w (on late) reported (given w taken (start_at w g live starts taken)) first 0 l next marks l'
    → Wrote w (on late) reported (given w taken (start_at w g' live starts taken)) first 0 l next marks l'
at_gap w late reported taken first live starts e {next} {marks} {l} {l'} =
    subst (λ (g : ℕ). Wrote w (on late) reported (given w taken (start_at w g live starts taken)) first 0 l next marks l') e

pub give_run-requires : goal.give_run-requires
give_run-requires c =
    let a = c.args in
    let w = automaton a.words.now in
    let p = c.requires in (
      p.0,
      record { single_is = p.1.single_is; leftmost_is = p.1.leftmost_is; first_small = p.2 },
      p.3,
      p.4,
      subst (λ (g : ℕ). 0 + length (run_reports (on a.late) a.s.reported (given w a.s.taken (start_at w g a.s.live a.live.now a.s.taken)) w.rules) ≤ space (lists a.ids.now a.offsets.now a.starts.now a.relatives.now)) (sym (c.between.ensures ∙ ap (between a.s.last) c.side_of.ensures)) p.5,
    )

pub returns : goal.returns
returns c =
    let a = c.args in
    at_gap (automaton a.words.now) a.late a.s.reported a.s.taken a.first a.s.live a.live.now (c.between.ensures ∙ ap (between a.s.last) c.side_of.ensures) c.give_run.ensures
