-- `stream::scan::take_byte` meets its contract: each of its four ways has one law (`Offered`). What
-- a need knows of the step and of the arguments is found from the place where the step was taken.
use mathlib.Core.Path.{◌≡◌, ap₂, ◌∙◌}
use mathlib.Core.Bool.{false}
use mathlib.Core.List.{List}
use Prim.Native.Nat.{ℕ, ◌+◌, ◌≤◌}
use native.Mathlib.Nat.{le_refl, le_of_lt}
use native.Mathlib.Omega.{arith}
use lib.ListN.{length, get_or}
use Rattle.sets.specs.Set.{full_set, kept_below, intersection_of, size_of}
use Rattle.kinds.specs.declared.Side.{Side}
use Rattle.kinds.specs.Side.{side_of}
use Rattle.table.specs.Layout.{table_words, max_positions, positions_of}
use Rattle.table.specs.Automaton.{automaton}
use Rattle.table.proofs.Test.{passes}
use Rattle.steps.specs.Step.{set_on, stepped}
use Rattle.steps.proofs.Steps.{stepped-among}
use Rattle.steps.proofs.TableSets.{set_on_lem, number-on}
use Rattle.stream.specs.Calls.{lists}
use Rattle.stream.proofs.Bounds.{sum_fits, next_small, after-fits, count_fits, ids_fit, offsets_fit, enough-left, enough-right}
use Rattle.stream.proofs.Taking.{Told, offered-end, offered-unpaid, offered-full, taken-room, offered-taken}
use Rattle.stream.proofs.scan.take_byte.Goals as goal

-- the words are enough, the set is that of the positions there are, and the side is that of the
-- byte
stepping : (t live : List ℕ) (old new : Side) (among next : List ℕ) (taken x : ℕ) → among ≡ kept_below full_set (positions_of t) → new ≡ side_of x → table_words ≤ length t
    → next ≡ set_on t (intersection_of (stepped (automaton t) false old new max_positions live taken x) among)
    → next ≡ stepped (automaton t) false old (side_of x) (automaton t).positions live taken x
unfolding automaton
stepping t live old new among next taken x is side h e =
    e ∙ set_on_lem t (intersection_of (stepped (automaton t) false old new max_positions live taken x) among) h
    ∙ ap₂ (λ (y : Side) (s : List ℕ). intersection_of (stepped (automaton t) false old y max_positions live taken x) s) side is
    ∙ stepped-among (automaton t) false old (side_of x) (positions_of t) live taken x

pub returns-then-block-at : goal.returns-then-block-at
returns-then-block-at c =
    let a = c.args in
    offered-end (automaton a.words.now) a.taken a.block.now a.z (lists a.ids.now a.offsets.now) c.if-block-at.true

pub overflow_add-offset : goal.overflow_add-offset
overflow_add-offset c =
    sum_fits c.args.taken c.args.z.at (length c.args.block.now) c.requires.4 (le_of_lt c.if-block-at.false)

pub bounds-block-at : goal.bounds-block-at
bounds-block-at c = c.if-block-at.false

pub overflow_cast-cost : goal.overflow_cast-cost
overflow_cast-cost c = omega (arith, c.ranges)

pub overflow_add-cost : goal.overflow_add-cost
overflow_add-cost c = omega (arith, c.ranges)

pub returns-then-z-cost : goal.returns-then-z-cost
returns-then-z-cost c =
    let a = c.args in
    let t = a.words.now in
    offered-unpaid (automaton t) a.taken a.block.now a.z (lists a.ids.now a.offsets.now)
    c.step-after.result.turns (c.step-after.ensures.turns ∙ number-on t (size_of a.z.live) (passes t c.requires.0).long) c.if-z-cost.true

pub offset_bounds-ids-count : goal.offset_bounds-ids-count
offset_bounds-ids-count c =
    ids_fit c.args.z.count (length c.args.ids.now) (length c.args.offsets.now) c.requires.3 c.well_formed.1.1.1.1.1.0.1

pub slice_bounds-report-count : goal.slice_bounds-report-count
slice_bounds-report-count c =
    enough-left c.args.z.count (length c.args.ids.now) (length c.args.offsets.now) c.requires.3

pub slice_bounds-report-start : goal.slice_bounds-report-start
slice_bounds-report-start c =
    enough-left c.args.z.count (length c.args.ids.now) (length c.args.offsets.now) c.requires.3

pub slice_bounds-report-end : goal.slice_bounds-report-end
slice_bounds-report-end c = le_refl (length c.args.ids.now)

pub offset_bounds-offsets-count : goal.offset_bounds-offsets-count
offset_bounds-offsets-count c =
    offsets_fit c.args.z.count (length c.args.ids.now) (length c.args.offsets.now) c.requires.3 c.well_formed.1.1.1.1.1.1.0.1

pub slice_bounds-report-count-2 : goal.slice_bounds-report-count-2
slice_bounds-report-count-2 c =
    enough-right c.args.z.count (length c.args.ids.now) (length c.args.offsets.now) c.requires.3

pub slice_bounds-report-start-2 : goal.slice_bounds-report-start-2
slice_bounds-report-start-2 c =
    enough-right c.args.z.count (length c.args.ids.now) (length c.args.offsets.now) c.requires.3

pub slice_bounds-report-end-2 : goal.slice_bounds-report-end-2
slice_bounds-report-end-2 c = le_refl (length c.args.offsets.now)

pub report-r-requires : goal.report-r-requires
report-r-requires c =
    (c.requires.0, c.requires.1, c.requires.2, next_small c.args.taken c.args.z.at (length c.args.block.now) c.requires.4 c.if-block-at.false)

pub returns-then-r : goal.returns-then-r
returns-then-r c =
    let a = c.args in
    let t = a.words.now in
    let lent = c.report-r.new in
    let told : Told (automaton t) a.taken a.block.now a.z (lists a.ids.now a.offsets.now) c.step-after.result.live c.side_of-new.result
    c.report-r.result.full c.report-r.result.reports c.report-r.result.reported c.report-r.result.waits (lists lent.ids lent.offsets) =
    record {
      step =
          stepping t a.z.live a.z.side c.side_of-new.result a.sets.positions c.step-after.result.live (a.taken + a.z.at) (get_or a.block.now a.z.at 0)
          c.requires.1.positions_is c.side_of-new.ensures (passes t c.requires.0).long c.step-after.ensures.live;
      side = c.side_of-new.ensures;
      room = c.requires.3;
      wait = c.report-r.ensures.waits;
      delivered = c.report-r.ensures.reports;
    } in
    offered-full told c.if-r.true

pub overflow_add-result : goal.overflow_add-result
overflow_add-result c =
    after-fits c.args.taken c.args.z.at (length c.args.block.now) c.requires.4 c.if-block-at.false

pub overflow_add-result-2 : goal.overflow_add-result-2
overflow_add-result-2 c =
    let a = c.args in
    let t = a.words.now in
    let lent = c.report-r.new in
    let told : Told (automaton t) a.taken a.block.now a.z (lists a.ids.now a.offsets.now) c.step-after.result.live c.side_of-new.result
    c.report-r.result.full c.report-r.result.reports c.report-r.result.reported c.report-r.result.waits (lists lent.ids lent.offsets) =
    record {
      step =
          stepping t a.z.live a.z.side c.side_of-new.result a.sets.positions c.step-after.result.live (a.taken + a.z.at) (get_or a.block.now a.z.at 0)
          c.requires.1.positions_is c.side_of-new.ensures (passes t c.requires.0).long c.step-after.ensures.live;
      side = c.side_of-new.ensures;
      room = c.requires.3;
      wait = c.report-r.ensures.waits;
      delivered = c.report-r.ensures.reports;
    } in
    count_fits (a.z.count + c.report-r.result.reports) (length a.ids.now) (length a.offsets.now) (taken-room told c.if-r.false) c.well_formed.1.1.1.1.1.0.1

pub returns : goal.returns
returns c =
    let a = c.args in
    let t = a.words.now in
    let lent = c.report-r.new in
    let told : Told (automaton t) a.taken a.block.now a.z (lists a.ids.now a.offsets.now) c.step-after.result.live c.side_of-new.result
    c.report-r.result.full c.report-r.result.reports c.report-r.result.reported c.report-r.result.waits (lists lent.ids lent.offsets) =
    record {
      step =
          stepping t a.z.live a.z.side c.side_of-new.result a.sets.positions c.step-after.result.live (a.taken + a.z.at) (get_or a.block.now a.z.at 0)
          c.requires.1.positions_is c.side_of-new.ensures (passes t c.requires.0).long c.step-after.ensures.live;
      side = c.side_of-new.ensures;
      room = c.requires.3;
      wait = c.report-r.ensures.waits;
      delivered = c.report-r.ensures.reports;
    } in
    let turns-are = c.step-after.ensures.turns ∙ number-on t (size_of a.z.live) (passes t c.requires.0).long in
    offered-taken told c.if-block-at.false c.if-r.false c.step-after.result.turns turns-are c.if-z-cost.false
