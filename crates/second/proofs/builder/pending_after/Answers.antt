-- `second::builder::pending_after` meets its contract: no pair is held after any byte but a
-- newline, nor before the first byte.
use Rattle.table.specs.Automaton.{automaton}
use Rattle.table.proofs.Test.{passes}
use Rattle.stream.proofs.Answers.{none-pending, start-pending, line-pending}
use Rattle.second.specs.Entries.{state_at}
use Rattle.second.proofs.builder.pending_after.Goals as goal

pub returns-then-byte-ne-NEWLINE : goal.returns-then-byte-ne-NEWLINE
returns-then-byte-ne-NEWLINE c =
    none-pending (automaton c.args.words.now) (state_at c.args.e c.args.k) c.args.byte c.if-byte-ne-NEWLINE.true

pub returns-then-e-eq0 : goal.returns-then-e-eq0
returns-then-e-eq0 c =
    start-pending c.args.words.now (passes c.args.words.now c.requires).long (state_at c.args.e c.args.k) c.args.byte c.if-byte-ne-NEWLINE.false c.if-e-eq0.true

pub returns : goal.returns
returns c =
    line-pending c.args.words.now (passes c.args.words.now c.requires).long (state_at c.args.e c.args.k) c.args.byte c.if-byte-ne-NEWLINE.false c.if-e-eq0.false c.line_ending.result c.line_ending.ensures
