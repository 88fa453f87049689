-- `traced::scan::take_byte` meets its contract: each of its four ways has one law (`Offered`).
use mathlib.Core.Path.{◌≡◌, refl, ap₂, ◌∙◌}
use mathlib.Core.Bool.{false}
use mathlib.Core.List.{List}
use Prim.Native.Nat.{ℕ, ◌+◌, ◌≤◌}
use native.Mathlib.Nat.{le_refl}
use lib.ListN.{length, get_or}
use Rattle.sets.specs.Set.{full_set, kept_below, intersection_of, size_of}
use Rattle.kinds.specs.declared.Side.{Side}
use Rattle.kinds.specs.Side.{side_of}
use Rattle.table.specs.Layout.{table_words, max_positions, positions_of}
use Rattle.table.specs.Automaton.{automaton}
use Rattle.table.proofs.Test.{passes}
use Rattle.steps.specs.Step.{set_on, stepped}
use Rattle.steps.proofs.Steps.{stepped-among}
use Rattle.steps.proofs.TableSets.{set_on_lem, number-on}
use Rattle.traced.specs.Calls.{lists}
use Rattle.traced.specs.Invariants.{state_by}
use Rattle.traced.proofs.Bounds.{block-short, places-fit-4, places-fit-8, count_fits, next_small, next_fits, at-fits}
use Rattle.traced.proofs.Lists.{enough-ids, enough-offsets, enough-starts, enough-relatives}
use Rattle.traced.proofs.Taking.{offered-end, offered-unpaid, offered-full, offered-taken, enough-reports}
use Rattle.traced.proofs.scan.take_byte.Goals as goal

-- the words are enough, the set is that of the positions there are, and the side is that of the
-- byte
stepping : (t live : List ℕ) (old new : Side) (among next : List ℕ) (taken x : ℕ) → among ≡ kept_below full_set (positions_of t) → new ≡ side_of x → table_words ≤ length t
    → next ≡ set_on t (intersection_of (stepped (automaton t) false old new max_positions live taken x) among)
    → next ≡ stepped (automaton t) false old (side_of x) (automaton t).positions live taken x
unfolding automaton
stepping t live old new among next taken x is side h e =
    e ∙ set_on_lem t (intersection_of (stepped (automaton t) false old new max_positions live taken x) among) h
    ∙ ap₂ (λ (y : Side) (s : List ℕ). intersection_of (stepped (automaton t) false old y max_positions live taken x) s) side is
    ∙ stepped-among (automaton t) false old (side_of x) (positions_of t) live taken x

pub returns-then-block-at : goal.returns-then-block-at
returns-then-block-at c =
    let a = c.args in
    let s = a.y.stream in
    let w = automaton a.words.now in
    let state = state_by s a.kept.now in
    let lent = lists a.ids.now a.offsets.now a.starts.now a.relatives.now in
    record {
      spare = refl;
      turn = offered-end w state a.first a.block.now a.y lent c.if-block-at.true;
    }

pub bounds-block-at : goal.bounds-block-at
bounds-block-at c = c.if-block-at.false

pub returns-then-y-cost : goal.returns-then-y-cost
returns-then-y-cost c =
    let a = c.args in
    let s = a.y.stream in
    let w = automaton a.words.now in
    let state = state_by s a.kept.now in
    let lent = lists a.ids.now a.offsets.now a.starts.now a.relatives.now in
    record {
      spare = refl;
      turn = offered-unpaid w state a.first a.block.now a.y lent
          c.step-after.result.turns (c.step-after.ensures.turns ∙ number-on a.words.now (size_of s.live) (passes a.words.now c.requires.0).long) c.if-y-cost.true;
    }

pub left_waiting-waiting-requires : goal.left_waiting-waiting-requires
left_waiting-waiting-requires c = (passes c.args.words.now c.requires.0).long

pub offset_bounds-ids-count : goal.offset_bounds-ids-count
offset_bounds-ids-count c = places-fit-4 c.args.y.count (length c.args.ids.now) (enough-ids (lists c.args.ids.now c.args.offsets.now c.args.starts.now c.args.relatives.now) c.requires.2) c.well_formed.1.1.1.1.1.1.1.0.1

pub slice_bounds-report-count : goal.slice_bounds-report-count
slice_bounds-report-count c = enough-ids (lists c.args.ids.now c.args.offsets.now c.args.starts.now c.args.relatives.now) c.requires.2

pub slice_bounds-report-start : goal.slice_bounds-report-start
slice_bounds-report-start c = enough-ids (lists c.args.ids.now c.args.offsets.now c.args.starts.now c.args.relatives.now) c.requires.2

pub slice_bounds-report-end : goal.slice_bounds-report-end
slice_bounds-report-end c = le_refl (length c.args.ids.now)

pub offset_bounds-offsets-count : goal.offset_bounds-offsets-count
offset_bounds-offsets-count c = places-fit-8 c.args.y.count (length c.args.offsets.now) (enough-offsets (lists c.args.ids.now c.args.offsets.now c.args.starts.now c.args.relatives.now) c.requires.2) c.well_formed.1.1.1.1.1.1.1.1.0.1

pub slice_bounds-report-count-2 : goal.slice_bounds-report-count-2
slice_bounds-report-count-2 c = enough-offsets (lists c.args.ids.now c.args.offsets.now c.args.starts.now c.args.relatives.now) c.requires.2

pub slice_bounds-report-start-2 : goal.slice_bounds-report-start-2
slice_bounds-report-start-2 c = enough-offsets (lists c.args.ids.now c.args.offsets.now c.args.starts.now c.args.relatives.now) c.requires.2

pub slice_bounds-report-end-2 : goal.slice_bounds-report-end-2
slice_bounds-report-end-2 c = le_refl (length c.args.offsets.now)

pub offset_bounds-starts-count : goal.offset_bounds-starts-count
offset_bounds-starts-count c = places-fit-8 c.args.y.count (length c.args.starts.now) (enough-starts (lists c.args.ids.now c.args.offsets.now c.args.starts.now c.args.relatives.now) c.requires.2) c.well_formed.1.1.1.1.1.1.1.1.1.0.1

pub slice_bounds-report-count-3 : goal.slice_bounds-report-count-3
slice_bounds-report-count-3 c = enough-starts (lists c.args.ids.now c.args.offsets.now c.args.starts.now c.args.relatives.now) c.requires.2

pub slice_bounds-report-start-3 : goal.slice_bounds-report-start-3
slice_bounds-report-start-3 c = enough-starts (lists c.args.ids.now c.args.offsets.now c.args.starts.now c.args.relatives.now) c.requires.2

pub slice_bounds-report-end-3 : goal.slice_bounds-report-end-3
slice_bounds-report-end-3 c = le_refl (length c.args.starts.now)

pub offset_bounds-relatives-count : goal.offset_bounds-relatives-count
offset_bounds-relatives-count c = places-fit-8 c.args.y.count (length c.args.relatives.now) (enough-relatives (lists c.args.ids.now c.args.offsets.now c.args.starts.now c.args.relatives.now) c.requires.2) c.well_formed.1.1.1.1.1.1.1.1.1.1.0.1

pub slice_bounds-report-count-4 : goal.slice_bounds-report-count-4
slice_bounds-report-count-4 c = enough-relatives (lists c.args.ids.now c.args.offsets.now c.args.starts.now c.args.relatives.now) c.requires.2

pub slice_bounds-report-start-4 : goal.slice_bounds-report-start-4
slice_bounds-report-start-4 c = enough-relatives (lists c.args.ids.now c.args.offsets.now c.args.starts.now c.args.relatives.now) c.requires.2

pub slice_bounds-report-end-4 : goal.slice_bounds-report-end-4
slice_bounds-report-end-4 c = le_refl (length c.args.relatives.now)

pub report-requires : goal.report-requires
report-requires c =
    let a = c.args in
    let s = a.y.stream in
    let w = automaton a.words.now in
    let state = state_by s a.kept.now in
    let lent = lists a.ids.now a.offsets.now a.starts.now a.relatives.now in
    let p = c.requires in (
      record {
        table = p.0;
        gates_are = p.1;
        next_is = stepping a.words.now s.live s.last c.side_of-new.result a.gates.positions c.step-after.result.live s.taken (get_or a.block.now a.y.at 0)
            c.requires.1.positions_is c.side_of-new.ensures (passes a.words.now c.requires.0).long c.step-after.ensures.live;
        held_is = c.left_waiting-waiting.ensures.held;
        pending_is = c.left_waiting-waiting.ensures.pending;
        only = p.7;
        live_none = p.5;
        wait_none = p.6;
      },
      p.3,
      next_small s.taken (length a.block.now) a.y.at p.4 c.if-block-at.false,
      p.8,
    )

pub returns-in_err-r : goal.returns-in_err-r
returns-in_err-r c =
    let a = c.args in
    let w = automaton a.words.now in
    let state = state_by a.y.stream a.kept.now in
    let lent = lists a.ids.now a.offsets.now a.starts.now a.relatives.now in
    let r = c.in_err-r in
    rw c.from_residual.ensures (record {
      spare = r.ensures.spare;
      turn = offered-full w state a.first a.block.now a.y lent c.requires.2 _ _ r.ensures.reports;
    })

-- the byte is taken
pub overflow_add-result : goal.overflow_add-result
overflow_add-result c =
    let a = c.args in
    next_fits a.y.stream.taken (length a.block.now) a.y.at c.requires.4 c.if-block-at.false

pub overflow_add-result-2 : goal.overflow_add-result-2
overflow_add-result-2 c =
    let a = c.args in
    at-fits a.y.at (length a.block.now) c.if-block-at.false (block-short (length a.block.now) c.well_formed.1.1.1.1.0.1)

pub overflow_add-result-3 : goal.overflow_add-result-3
overflow_add-result-3 c =
    let a = c.args in
    let s = a.y.stream in
    let w = automaton a.words.now in
    let state = state_by s a.kept.now in
    let lent = lists a.ids.now a.offsets.now a.starts.now a.relatives.now in
    let r = c.in_ok-r in
    count_fits (a.y.count + r.r.reports) (length a.ids.now)
    (enough-ids lent (enough-reports w state a.first a.block.now a.y lent c.requires.2 _ _ r.r r.ensures.reports))
    c.well_formed.1.1.1.1.1.1.1.0.1

pub returns : goal.returns
returns c =
    let a = c.args in
    let s = a.y.stream in
    let w = automaton a.words.now in
    let state = state_by s a.kept.now in
    let lent = lists a.ids.now a.offsets.now a.starts.now a.relatives.now in
    let r = c.in_ok-r in
    let next_is = stepping a.words.now s.live s.last c.side_of-new.result a.gates.positions c.step-after.result.live s.taken (get_or a.block.now a.y.at 0)
    c.requires.1.positions_is c.side_of-new.ensures (passes a.words.now c.requires.0).long c.step-after.ensures.live in
    record {
      spare = r.ensures.spare;
      turn = offered-taken w state a.first a.block.now a.y lent c.requires.2 _ _ r.r r.ensures.reports
          c.if-block-at.false c.step-after.result.turns (c.step-after.ensures.turns ∙ number-on a.words.now (size_of s.live) (passes a.words.now c.requires.0).long) c.if-y-cost.false _
          (λ i. record {
            live = next_is i;
            held = c.left_waiting-waiting.ensures.held i;
            reported = r.r.reported;
            pending = c.left_waiting-waiting.ensures.pending i;
            last = c.side_of-new.ensures i;
            taken = s.taken + 1;
            rules = s.rules;
            positions = s.positions;
            closed = s.closed;
          });
    }
