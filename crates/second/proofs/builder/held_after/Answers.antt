-- `second::builder::held_after` meets its contract: nothing is held after any byte but a newline.
use native.Mathlib.Omega.{arith}
use Rattle.table.specs.Automaton.{automaton}
use Rattle.table.proofs.Test.{passes}
use Rattle.stream.proofs.Answers.{none-held, line-held}
use Rattle.second.specs.Entries.{state_at}
use Rattle.second.proofs.builder.held_after.Goals as goal

pub returns-then-byte-ne-NEWLINE : goal.returns-then-byte-ne-NEWLINE
returns-then-byte-ne-NEWLINE c =
    none-held (automaton c.args.words.now) (state_at c.args.e c.args.k) c.args.byte c.if-byte-ne-NEWLINE.true c.empty.result c.empty.ensures

pub bounds-words-2 : goal.bounds-words-2
bounds-words-2 c =
    omega (arith, (passes c.args.words.now c.requires).long)

pub returns : goal.returns
returns c =
    line-held c.args.words.now (passes c.args.words.now c.requires).long (state_at c.args.e c.args.k) c.args.byte c.if-byte-ne-NEWLINE.false c.side_of.result c.side_of.ensures c.line_step.result c.line_step.ensures
