-- `second::builder::fill` meets its contract. The loop's invariant: the words of the bytes before
-- `n` are written.
use mathlib.Core.Path.{◌≡◌, ◌∙◌}
use Prim.Native.Nat.{◌+◌, ◌*◌, ◌/◌, ◌<◌}
use native.Mathlib.Omega.{arith}
use Rattle.table.specs.Automaton.{automaton}
use Rattle.table.proofs.Over.{written_none, written-up, written_all}
use Rattle.second.specs.Layout.{max_entries}
use Rattle.second.proofs.Found.{found-few}
use Rattle.second.proofs.Gathered.{target-in, recorded-still}
use Rattle.second.proofs.builder.fill.Goals as goal

pub loop-n-init : goal.loop-n-init
loop-n-init c = written_none (omega arith)

pub overflow_mul-n-end : goal.overflow_mul-n-end
overflow_mul-n-end c =
    omega (arith, c.requires.2, (found-few (automaton c.args.words.now) (max_entries * 256)).1)

pub target_of-requires : goal.target_of-requires
target_of-requires c =
    let a = c.args in
    let w = automaton a.words.now in
    let l = c.loop-n in
    (c.requires.0, omega (arith, c.requires.1, l.invariant.long), omega (arith, c.requires.2, (found-few w (max_entries * 256)).1), omega arith)

pub overflow_add-second : goal.overflow_add-second
overflow_add-second c =
    omega (arith, c.requires.2, (found-few (automaton c.args.words.now) (max_entries * 256)).1, c.requires.1, c.loop-n.invariant.long)

pub offset_bounds-second-n : goal.offset_bounds-second-n
offset_bounds-second-n c =
    omega (arith, c.requires.2, (found-few (automaton c.args.words.now) (max_entries * 256)).1, c.requires.1, c.loop-n.invariant.long)

pub bounds-second-n : goal.bounds-second-n
bounds-second-n c =
    omega (arith, c.requires.2, (found-few (automaton c.args.words.now) (max_entries * 256)).1, c.requires.1, c.loop-n.invariant.long)

pub loop-n-preserved : goal.loop-n-preserved
loop-n-preserved c =
    let a = c.args in
    let w = automaton a.words.now in
    let l = c.loop-n in
    let row : l.n / 256 < a.count = omega arith in
    let kept = recorded-still w a.second.now l.second (4096 + l.n) c.requires.3 l.invariant in
    let up : 4096 + (l.n + 1) ≡ 4096 + l.n + 1 = omega arith in
    written-up l.invariant (omega arith) (omega (arith, c.requires.1, c.requires.2, (found-few w (max_entries * 256)).1)) up (c.target_of.ensures ∙ target-in w l.second a.count c.requires.2 kept l.n row)

pub returns : goal.returns
returns c =
    let e : 4096 + c.loop-n.n ≡ 4096 + c.args.count * 256 = omega (arith, c.loop-n-test.false) in
    written_all c.loop-n.invariant e
