-- `stream::Stream::busy` meets its contract: it is the size of the live set as the state has it.
use Rattle.stream.proofs.Stream.busy.Goals as goal

pub returns : goal.returns
returns c = c.size.ensures
