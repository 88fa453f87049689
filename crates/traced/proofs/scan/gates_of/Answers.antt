-- `traced::scan::gates_of` meets its contract: the words are enough, so each set is that of the
-- automaton.
use mathlib.Core.Path.{ap, ◌∙◌}
use mathlib.Core.List.{List}
use Prim.Native.Nat.{ℕ}
use lib.ListN.{length}
use Rattle.sets.specs.Set.{kept_below}
use Rattle.table.specs.Layout.{positions_of}
use Rattle.table.specs.Automaton.{automaton, single}
use Rattle.steps.specs.Step.{lasts_of, lates_of, keepers_of, rules_where}
use Rattle.steps.proofs.TableSets.{set_on_lem, number-on}
use Rattle.stream.proofs.Bounds.{positions-word}
use Rattle.traced.proofs.scan.gates_of.Goals as goal

pub bounds-words-2 : goal.bounds-words-2
bounds-words-2 c =
    positions-word (length c.args.words.now) c.requires

pub returns : goal.returns
returns c =
    let t = c.args.words.now in
    let w = automaton t in
    let long = c.requires in
    record {
      last_is = c.lasts.ensures ∙ set_on_lem t (lasts_of w) long;
      late_is = c.lates.ensures ∙ set_on_lem t (lates_of w) long;
      keepers_are = c.keepers.ensures ∙ set_on_lem t (keepers_of w) long;
      positions_is = c.below.ensures ∙ ap (λ (s : List ℕ). kept_below s (positions_of t)) c.full.ensures;
      single_is = c.singles.ensures ∙ number-on t (rules_where w (single w)) long;
      leftmost_is = c.leftmosts.ensures ∙ number-on t (rules_where w w.leftmost) long;
    }
