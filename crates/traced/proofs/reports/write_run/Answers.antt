-- `traced::reports::write_run` meets its contract: each turn writes the report of the lowest rule
-- that is left (`Writing`).
-- ---- the start, seen from a turn, and what a turn's writes need
-- ---- the needs
use mathlib.Core.Path.{◌≡◌, sym, ap, ◌∙◌, subst}
use mathlib.Core.List.{List}
use mathlib.Core.Bool.{Bool, cond}
use Prim.Native.Nat.{ℕ, ◌^◌, ◌<◌}
use native.Mathlib.Omega.{arith}
use lib.Bits.{bit_and, bit_or}
use mir.Syntax.{w64}
use mir.ValLaws.{to_z-of_z}
use lib.ListN.{length, get_or, set}
use Rattle.sets.specs.Set.{on}
use Rattle.table.specs.Automaton.{automaton}
use Rattle.table.proofs.Test.{Passes, passes}
use Rattle.table.proofs.Members.{on-places}
use Rattle.steps.specs.Step.{rules_where}
use Rattle.steps.proofs.TableSets.{id-word}
use Rattle.stream.proofs.Bounds.{rules-few}
use Rattle.stream.proofs.Runs.{marks-words}
use Rattle.traced.specs.Byte.{none, from, given}
use Rattle.traced.specs.Calls.{lists, in_stream, from_offset}
use Rattle.traced.specs.Invariants.{at}
use Rattle.traced.proofs.Bounds.{eight-fit, place-fits-4, place-fits-8, next_place}
use Rattle.traced.proofs.Lists.{place-ids, place-offsets, place-starts, place-relatives, room-ids, room-offsets, room-starts, room-relatives}
use Rattle.traced.proofs.Runs.{writing_start, writing-long, writing-turn, writing-again, writing-done}
use Rattle.traced.proofs.reports.write_run.Goals as goal

-- whether the rule reports starts
flag_is : (t : List ℕ) (leftmost a : ℕ) → Passes t → leftmost ≡ rules_where (automaton t) (automaton t).leftmost → a < (automaton t).rules → on leftmost a ≡ (automaton t).leftmost a
flag_is t leftmost a p e h =
    let w = automaton t in
    ap (λ (x : ℕ). on x a) e
    ∙ on-places w.leftmost w.rules a h (rules-few t p.rules)

pub loop-a-init : goal.loop-a-init
loop-a-init c =
    let a = c.args in
    let w = automaton a.words.now in
    writing_start w a.ending a.reported (given w a.end (at a.froms.now)) a.marks.first a.place (lists c.args.ids.now c.args.offsets.now c.args.starts.now c.args.relatives.now)
    c.ranges.ending.fits c.ranges.reported.fits c.requires.3
    (rules-few a.words.now (passes a.words.now c.requires.0).rules) (ap (λ d. d.0) c.into_iter-a-iterator.ensures.into_iter_gives)

pub overflow_shr-leftmost : goal.overflow_shr-leftmost
overflow_shr-leftmost c = omega (arith, c.in-Some.ensures.steps.2)

pub offset_bounds-froms-a : goal.offset_bounds-froms-a
offset_bounds-froms-a c = eight-fit c.in-Some.a c.in-Some.ensures.steps.2

pub bounds-froms-a : goal.bounds-froms-a
bounds-froms-a c = c.in-Some.ensures.steps.2

pub overflow_cast-ids : goal.overflow_cast-ids
unfolding automaton
overflow_cast-ids c =
    let t = c.args.words.now in
    let u = (writing-turn c.loop-a.invariant c.requires.4 c.in-Some.ensures.steps) in
    let id = c.rule_id.ensures ∙ sym (id-word t c.in-Some.a c.in-Some.ensures.steps.2) in
    record { fits = subst (λ (x : ℕ). x < 2 ^ 32) (sym id) ((passes t c.requires.0).small c.in-Some.a u.ruled) }

pub offset_bounds-ids-n : goal.offset_bounds-ids-n
offset_bounds-ids-n c = place-fits-4 c.loop-a.n (length c.args.ids.now) (room-ids (lists c.args.ids.now c.args.offsets.now c.args.starts.now c.args.relatives.now) (writing-turn c.loop-a.invariant c.requires.4 c.in-Some.ensures.steps).room) c.well_formed.1.1.1.1.1.1.1.0.1

pub bounds-ids-n : goal.bounds-ids-n
bounds-ids-n c = place-ids (writing-long c.loop-a.invariant c.requires.4) (writing-turn c.loop-a.invariant c.requires.4 c.in-Some.ensures.steps).room

pub offset_bounds-offsets-n : goal.offset_bounds-offsets-n
offset_bounds-offsets-n c = place-fits-8 c.loop-a.n (length c.args.offsets.now) (room-offsets (lists c.args.ids.now c.args.offsets.now c.args.starts.now c.args.relatives.now) (writing-turn c.loop-a.invariant c.requires.4 c.in-Some.ensures.steps).room) c.well_formed.1.1.1.1.1.1.1.1.0.1

pub bounds-offsets-n : goal.bounds-offsets-n
bounds-offsets-n c = place-offsets (writing-long c.loop-a.invariant c.requires.4) (writing-turn c.loop-a.invariant c.requires.4 c.in-Some.ensures.steps).room

pub offset_bounds-starts-n : goal.offset_bounds-starts-n
offset_bounds-starts-n c = place-fits-8 c.loop-a.n (length c.args.starts.now) (room-starts (lists c.args.ids.now c.args.offsets.now c.args.starts.now c.args.relatives.now) (writing-turn c.loop-a.invariant c.requires.4 c.in-Some.ensures.steps).room) c.well_formed.1.1.1.1.1.1.1.1.1.0.1

pub bounds-starts-n : goal.bounds-starts-n
bounds-starts-n c = place-starts (writing-long c.loop-a.invariant c.requires.4) (writing-turn c.loop-a.invariant c.requires.4 c.in-Some.ensures.steps).room

pub relative-requires : goal.relative-requires
relative-requires c = (c.requires.2 c.in-Some.a c.in-Some.ensures.steps.2, c.requires.1.first_small)

pub offset_bounds-relatives-n : goal.offset_bounds-relatives-n
offset_bounds-relatives-n c = place-fits-8 c.loop-a.n (length c.args.relatives.now) (room-relatives (lists c.args.ids.now c.args.offsets.now c.args.starts.now c.args.relatives.now) (writing-turn c.loop-a.invariant c.requires.4 c.in-Some.ensures.steps).room) c.well_formed.1.1.1.1.1.1.1.1.1.1.0.1

pub bounds-relatives-n : goal.bounds-relatives-n
bounds-relatives-n c = place-relatives (writing-long c.loop-a.invariant c.requires.4) (writing-turn c.loop-a.invariant c.requires.4 c.in-Some.ensures.steps).room

pub overflow_add-n : goal.overflow_add-n
overflow_add-n c = next_place c.loop-a.n (length c.args.ids.now) (room-ids (lists c.args.ids.now c.args.offsets.now c.args.starts.now c.args.relatives.now) (writing-turn c.loop-a.invariant c.requires.4 c.in-Some.ensures.steps).room) c.well_formed.1.1.1.1.1.1.1.0.1

pub loop-a-preserved : goal.loop-a-preserved
unfolding on
loop-a-preserved c =
    let l = c.loop-a in
    let a = c.args in
    let v = get_or a.froms.now c.in-Some.a 0 in
    let flag = flag_is a.words.now a.marks.leftmost c.in-Some.a (passes a.words.now c.requires.0) c.requires.1.leftmost_is (writing-turn c.loop-a.invariant c.requires.4 c.in-Some.ensures.steps).ruled in
    writing-again l.invariant c.requires.4 c.in-Some.ensures.steps
    (λ i. lists (set l.ids l.n (c.rule_id.ensures i)) (set l.offsets l.n a.end)
    (set l.starts l.n ((c.start_of.ensures ∙ ap (λ (b : Bool). in_stream (cond b (from v) none)) flag) i))
    (set l.relatives l.n ((to_z-of_z w64 c.relative.result (record { sfits = c.relative.type_inv }) ∙ c.relative.ensures ∙ ap (λ (b : Bool). from_offset a.marks.first (cond b (from v) none)) flag) i)))

pub returns : goal.returns
returns c =
    let a = c.args in
    let w = automaton a.words.now in
    writing-done c.loop-a.invariant c.requires.4 c.in-None.ensures.steps.0
    (ap (λ (x : ℕ). bit_or a.reported (bit_and a.ending x)) c.requires.1.single_is
    ∙ marks-words w a.ending a.reported c.ranges.reported.fits)
