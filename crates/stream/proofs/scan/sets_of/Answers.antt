-- `stream::scan::sets_of` meets its contract: the words are enough, so each set is that of the
-- automaton.
use mathlib.Core.Path.{ap, ap₂, ◌∙◌}
use mathlib.Core.List.{List}
use Prim.Native.Nat.{ℕ}
use lib.ListN.{length}
use Rattle.sets.specs.Set.{kept_below, union_of}
use Rattle.table.specs.Layout.{positions_of}
use Rattle.table.specs.Automaton.{automaton, single}
use Rattle.steps.specs.Step.{lasts_of, lates_of, rules_where}
use Rattle.steps.proofs.TableSets.{set_on_lem, number-on}
use Rattle.stream.proofs.Bounds.{positions-word}
use Rattle.stream.proofs.scan.sets_of.Goals as goal

pub bounds-words-2 : goal.bounds-words-2
bounds-words-2 c =
    let start = c in
    positions-word (length start.args.words.now) start.requires

pub returns : goal.returns
returns c =
    let late = c in
    let positions = late.before in
    let full = positions.before.before in
    let start = full.before.before in
    let t = start.args.words.now in
    let w = automaton t in
    let long = start.requires in
    let late_is = late.lates-late.ensures ∙ set_on_lem t (lates_of w) long in
    record {
      enders_is = c.union-enders.ensures ∙ ap₂ union_of (c.lasts.ensures ∙ set_on_lem t (lasts_of w) long) late_is;
      late_is = late_is;
      single_is = c.singles.ensures ∙ number-on t (rules_where w (single w)) long;
      positions_is = positions.below-positions.ensures ∙ ap (λ (s : List ℕ). kept_below s (positions_of t)) full.full.ensures;
    }
