-- `stream::scan::pass_over` meets its contract: the bytes up to where `ahead` comes change nothing.
use mathlib.Core.Path.{refl}
use Prim.Native.Nat.{◌+◌, ◌-◌, min}
use native.Mathlib.Nat.{le_trans}
use lib.ListN.{length}
use Rattle.stream.proofs.Bounds.{short-end, paid_for}
use Rattle.stream.proofs.scan.pass_over.Goals as goal

pub ahead-to-requires : goal.ahead-to-requires
ahead-to-requires c = c.requires

pub passed_side-side-requires : goal.passed_side-side-requires
passed_side-side-requires c =
    let n = length c.args.block.now in
    let paid = c.args.z.at + c.args.z.left in
    le_trans c.ahead-to.ensures.inside (short-end (min n paid) n paid refl)

pub overflow_sub-skipped : goal.overflow_sub-skipped
overflow_sub-skipped c = c.ahead-to.ensures.rises

pub overflow_sub-left : goal.overflow_sub-left
overflow_sub-left c =
    let z = c.args.z in
    let n = length c.args.block.now in
    paid_for z.at c.ahead-to.result (min n (z.at + z.left)) n z.left c.ahead-to.ensures.inside refl

pub returns : goal.returns
returns c =
    let came = c in
    let to = came.ahead-to.result in
    let z = c.args.z in
    record {
      skipped = came.ahead-to.ensures;
      is = λ i. record {
        live = z.live;
        before = c.passed-before.ensures i;
        reported = z.reported;
        side = c.passed_side-side.ensures i;
        waits = z.waits;
        at = to;
        count = z.count;
        left = z.left - (to - z.at);
      };
    }
