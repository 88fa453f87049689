-- `stream::reports::write_run` meets its contract: each turn writes the report of the lowest rule
-- that is left (`Writing`).
use mathlib.Core.Path.{sym, ap, ◌∙◌, subst}
use Prim.Native.Nat.{ℕ, ◌^◌, ◌<◌}
use lib.Bits.{bit_and, bit_or}
use lib.ListN.{set}
use Rattle.table.specs.Automaton.{automaton}
use Rattle.table.proofs.Test.{passes}
use Rattle.steps.proofs.TableSets.{id-word}
use Rattle.stream.specs.Byte.{given}
use Rattle.stream.specs.Calls.{lists}
use Rattle.stream.proofs.Bounds.{rules-few}
use Rattle.stream.proofs.Lists.{place-ids, place-offsets}
use Rattle.stream.proofs.Runs.{marks-words, writing_start, writing-long, writing-turn, writing-again, writing-done}
use Rattle.stream.proofs.reports.write_run.Goals as goal

pub loop-a-init : goal.loop-a-init
loop-a-init c =
    let a = c.args in
    let w = automaton a.words.now in
    writing_start w a.ending a.reported (given w a.end) a.from (lists a.ids.now a.offsets.now)
    c.ranges.ending.fits c.ranges.reported.fits c.requires.2
    (rules-few a.words.now (passes a.words.now c.requires.0).rules) (ap (λ d. d.0) c.into_iter-a-iterator.ensures.into_iter_gives)

pub overflow_cast-ids : goal.overflow_cast-ids
unfolding automaton
overflow_cast-ids c =
    let g = c.in-Some.ensures.steps in
    let id = c.rule_id.ensures ∙ sym (id-word c.args.words.now c.in-Some.a g.2) in
    record { fits = subst (λ (x : ℕ). x < 2 ^ 32) (sym id) ((passes c.args.words.now c.requires.0).small c.in-Some.a (writing-turn c.loop-a.invariant c.requires.3 g).ruled) }

pub offset_bounds-ids-n : goal.offset_bounds-ids-n
offset_bounds-ids-n c = (writing-turn c.loop-a.invariant c.requires.3 c.in-Some.ensures.steps).ids_fit c.well_formed.1.1.1.1.1.1.0.1

pub bounds-ids-n : goal.bounds-ids-n
bounds-ids-n c = place-ids (writing-long c.loop-a.invariant c.requires.3) (writing-turn c.loop-a.invariant c.requires.3 c.in-Some.ensures.steps).room

pub offset_bounds-offsets-n : goal.offset_bounds-offsets-n
offset_bounds-offsets-n c =
    (writing-turn c.loop-a.invariant c.requires.3 c.in-Some.ensures.steps).offsets_fit c.well_formed.1.1.1.1.1.1.1.0.1

pub bounds-offsets-n : goal.bounds-offsets-n
bounds-offsets-n c = place-offsets (writing-long c.loop-a.invariant c.requires.3) (writing-turn c.loop-a.invariant c.requires.3 c.in-Some.ensures.steps).room

pub overflow_add-n : goal.overflow_add-n
overflow_add-n c = (writing-turn c.loop-a.invariant c.requires.3 c.in-Some.ensures.steps).next_fits c.well_formed.1.1.1.1.1.1.0.1

pub loop-a-preserved : goal.loop-a-preserved
loop-a-preserved c =
    let l = c.loop-a in
    writing-again l.invariant c.requires.3 c.in-Some.ensures.steps
    (ap (λ (x : ℕ). lists (set l.ids l.n x) (set l.offsets l.n c.args.end))
    c.rule_id.ensures)

pub returns : goal.returns
returns c =
    let a = c.args in
    let w = automaton a.words.now in
    writing-done c.loop-a.invariant c.requires.3 c.in-None.ensures.steps.0
    (ap (λ (x : ℕ). bit_or a.reported (bit_and a.ending x)) c.requires.1
    ∙ marks-words w a.ending a.reported c.ranges.reported.fits)
