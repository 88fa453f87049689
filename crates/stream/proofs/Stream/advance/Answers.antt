-- `stream::Stream::advance` meets its contract: what the loop leaves is put back into the state.
use lib.ListN.{length}
use Rattle.table.proofs.Test.{passes}
use Rattle.stream.proofs.Bounds.{sum_fits}
use Rattle.stream.proofs.Answers.{advanced, left-fits}
use Rattle.stream.proofs.Stream.advance.Goals as goal

pub run-r-requires : goal.run-r-requires
run-r-requires c = c.requires

pub waiting_after-waits-requires : goal.waiting_after-waits-requires
waiting_after-waits-requires c =
    ((passes c.args.words.now c.requires.0).long, c.run-r.ensures.running.inside, c.requires.2)

pub overflow_add-taken : goal.overflow_add-taken
overflow_add-taken c =
    let a = c.args in
    sum_fits a.self.taken c.run-r.result.at (length a.block.now) c.requires.2 c.run-r.ensures.running.inside

pub returns : goal.returns
returns c = advanced c.run-r.ensures c.waiting_after-waits.ensures

pub overflow_sub-result : goal.overflow_sub-result
overflow_sub-result c = left-fits c.run-r.ensures c.waiting_after-waits.ensures
