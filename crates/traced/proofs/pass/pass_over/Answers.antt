-- `traced::pass::pass_over` meets its contract: the bytes up to where a pass ends change nothing.
use Prim.Native.Nat.{◌+◌, ◌-◌, ◌^◌, ◌<◌}
use native.Mathlib.Omega.{arith}
use borrow.Author.Rules.{rules}
use lib.ListN.{length}
use Rattle.traced.proofs.Bounds.{pass_fits}
use Rattle.traced.proofs.Passing.{passed}
use Rattle.traced.proofs.pass.pass_over.Goals as goal

pub passed_side-requires : goal.passed_side-requires
passed_side-requires c = let e = (c.pass_end-to.ensures.inside c.requires.0).unopened.inside in omega (arith, e)

pub overflow_sub-passed : goal.overflow_sub-passed
overflow_sub-passed c = (c.pass_end-to.ensures.inside c.requires.0).unopened.rises

pub overflow_add-result : goal.overflow_add-result
overflow_add-result c =
    let a = c.args in
    let e = (c.pass_end-to.ensures.inside c.requires.0).unopened.inside in
    pass_fits a.y.stream.taken (length a.block.now) a.y.at c.pass_end-to.result c.requires.1 (omega (arith, e))

pub overflow_sub-result : goal.overflow_sub-result
overflow_sub-result c = let e = (c.pass_end-to.ensures.inside c.requires.0).unopened.inside in omega (arith, e)

pub returns : goal.returns
returns c =
    let y = c.args.y in
    let to = c.pass_end-to.result in
    let small : y.stream.reported < 2 ^ 64 = search rules in
    passed c.is_quiet-quiet.result c.is_quiet-quiet.ensures.so (c.pass_end-to.ensures.inside c.requires.0) small _
    (λ i. record {
      stream = record {
        live = y.stream.live;
        held = c.passed_set.ensures i;
        reported = y.stream.reported;
        pending = c.passed_pairs.ensures i;
        last = c.passed_side.ensures i;
        taken = y.stream.taken + (to - y.at);
        rules = y.stream.rules;
        positions = y.stream.positions;
        closed = y.stream.closed;
      };
      at = to;
      count = y.count;
      left = y.left - (to - y.at);
      some = y.some;
      waits = y.waits;
    })
