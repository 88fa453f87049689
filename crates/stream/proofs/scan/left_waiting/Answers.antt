-- `stream::scan::left_waiting` meets its contract: nothing waits after any byte but a newline, and
-- no pair before the first byte.
use lib.ListN.{length}
use Rattle.table.specs.Automaton.{automaton}
use Rattle.stream.specs.Invariants.{state_of}
use Rattle.stream.proofs.Bounds.{positions-word}
use Rattle.stream.proofs.Answers.{none-held, none-pending, line-held, start-pending, line-pending}
use Rattle.stream.proofs.scan.left_waiting.Goals as goal

pub returns-then-byte-ne-NEWLINE : goal.returns-then-byte-ne-NEWLINE
returns-then-byte-ne-NEWLINE c =
    let c-start = c in
    let c-if1 = c.if-byte-ne-NEWLINE in
    let c-empty = c.empty-held in
    let a = c-start.args in
    let w = automaton a.words.now in
    let s = state_of a.live 0 a.before a.taken in
    record {
      held = none-held w s a.byte c-if1.true c-empty.result c-empty.ensures;
      pending = none-pending w s a.byte c-if1.true;
    }

pub bounds-words-2 : goal.bounds-words-2
bounds-words-2 c =
    let c-start = c in
    positions-word (length c-start.args.words.now) c-start.requires

pub returns-then-taken-eq0 : goal.returns-then-taken-eq0
returns-then-taken-eq0 c =
    let c-start = c in
    let c-if1 = c.if-byte-ne-NEWLINE in
    let c-side-of = c.side_of in
    let c-step = c.line_step-held in
    let c-if2 = c.if-taken-eq0 in
    let a = c-start.args in
    let t = a.words.now in
    let s = state_of a.live 0 a.before a.taken in
    record {
      held = line-held t c-start.requires s a.byte c-if1.false c-side-of.result c-side-of.ensures c-step.result c-step.ensures;
      pending = start-pending t c-start.requires s a.byte c-if1.false c-if2.true;
    }

pub returns : goal.returns
returns c =
    let stepped = c in
    let c-start = stepped.before.before.before.before.before in
    let c-if1 = stepped.if-byte-ne-NEWLINE in
    let c-side-of = stepped.side_of in
    let c-step = stepped.line_step-held in
    let c-if2 = c.if-taken-eq0 in
    let c-line-ending = c.line_ending in
    let a = c-start.args in
    let t = a.words.now in
    let s = state_of a.live 0 a.before a.taken in
    record {
      held = line-held t c-start.requires s a.byte c-if1.false c-side-of.result c-side-of.ensures c-step.result c-step.ensures;
      pending = line-pending t c-start.requires s a.byte c-if1.false c-if2.false c-line-ending.result c-line-ending.ensures;
    }
