-- `copies::again` meets its contract: each call has moved or copied its part.
use Rattle.automaton.specs.Invariants.{moved_part}
use Rattle.automaton.proofs.copies.again.Goals as goal

pub returns : goal.returns
unfolding moved_part
returns c = record {
  fragment = cc (c.moved.ensures, c.moved-2.ensures);
  follows = c.copy_follow.ensures;
  takes = c.copy_takes.ensures;
}
