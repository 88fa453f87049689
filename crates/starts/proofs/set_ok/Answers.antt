-- `starts::set_ok` meets its contract: the four words of the set, one after the other.
use Rattle.starts.proofs.Checking.{set-order}
use Rattle.starts.proofs.set_ok.Goals as goal

pub returns : goal.returns
returns c =
    let a = c.args in
    set-order a.starts.now a.set a.taken c.block_ok.result c.block_ok-2.result c.block_ok-3.result c.block_ok-4.result
    c.block_ok.ensures c.block_ok-2.ensures c.block_ok-3.ensures c.block_ok-4.ensures
