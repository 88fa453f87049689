-- `stream::reports::write_closing` meets its contract: the held pairs, then the rules that need the
-- stream's end. There is room for two reports of each rule.
use mathlib.Core.Path.{◌∙◌}
use mathlib.Core.Bool.{Bool}
use mathlib.Core.List.{List}
use Prim.Native.Nat.{ℕ, ◌*◌, ◌≤◌}
use native.Mathlib.Nat.{le_trans}
use lib.ListN.{length}
use Rattle.sets.specs.Set.{on}
use Rattle.table.specs.Layout.{rules_of}
use Rattle.table.specs.Automaton.{automaton, single}
use Rattle.table.proofs.Test.{passes}
use Rattle.steps.specs.Step.{rules_where}
use Rattle.steps.proofs.TableSets.{number-on}
use Rattle.stream.specs.Byte.{Report, given, two_reports, held_test, end_test}
use Rattle.stream.proofs.Bounds.{rules-few}
use Rattle.stream.proofs.Runs.{alone}
use Rattle.stream.proofs.TwoRuns.{two-few, ended}
use Rattle.stream.proofs.reports.write_closing.Goals as goal

at_most : (t : List ℕ) (one two : ℕ → Bool) (marks : ℕ) (first second : ℕ → Report) → length (two_reports (automaton t) one two marks first second) ≤ 2 * rules_of t
unfolding automaton
at_most t one two marks first second = two-few (automaton t) one two marks first second

pub held_rules-requires : goal.held_rules-requires
held_rules-requires c = (c.requires.0, c.requires.1)

pub end_rules-requires : goal.end_rules-requires
end_rules-requires c = c.requires.0

pub write_two-run-requires : goal.write_two-run-requires
write_two-run-requires c =
    let s = c.args.s in
    let p = c.requires in
    let t = c.args.words.now in
    let w = automaton t in (
      p.0,
      c.singles.ensures
          ∙ number-on t (rules_where w (single w)) (passes t p.0).long,
      alone w (held_test w s) c.held_rules.ensures,
      alone w (end_test w s) c.end_rules.ensures,
      le_trans
          (at_most t (on c.held_rules.result) (on c.end_rules.result) s.reported
          (given w c.before_last.result) (given w s.taken))
          p.2,
    )

pub returns : goal.returns
returns c =
    let t = c.args.words.now in
    let few = rules-few t (passes t c.requires.0).rules in
    ended few c.before_last.ensures c.held_rules.ensures c.end_rules.ensures
    c.write_two-run.ensures
