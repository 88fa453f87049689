-- `look` meets its contract. The invariant: the values of the first j rows are right.
use mathlib.Core.Path.{◌≡◌, refl, ◌∙◌}
use Prim.Native.Nat.{suc, ◌+◌}
use native.Mathlib.Omega.{arith}
use lib.ListN.{length-set}
use Rattle.marks.proofs.Passes.{through, looked-none, looked-more, looked-to}
use Rattle.marks.proofs.moves.look.Goals as goal

pub loop-j-init : goal.loop-j-init
loop-j-init c =
    record { cores = refl; ends = refl; looked = λ u v. looked-none c.args.parts.now c.args.g c.args.marks.now c.args.cores.now c.args.ends.now }

pub core-c-requires : goal.core-c-requires
core-c-requires c =
    (omega (arith, c.requires.0), c.requires.1)

pub offset_bounds-cores-j : goal.offset_bounds-cores-j
offset_bounds-cores-j c =
    omega (arith, c.requires.0)

pub bounds-cores-j : goal.bounds-cores-j
bounds-cores-j c =
    omega (arith, c.requires.0)

pub overflow_mul-j : goal.overflow_mul-j
overflow_mul-j c =
    omega (arith, c.requires.0)

pub overflow_add-j : goal.overflow_add-j
overflow_add-j c =
    omega (arith, c.requires.0)

pub has-requires : goal.has-requires
has-requires c =
    c.requires.1

pub offset_bounds-ends-j : goal.offset_bounds-ends-j
offset_bounds-ends-j c =
    omega (arith, c.requires.0)

pub bounds-ends-j : goal.bounds-ends-j
bounds-ends-j c =
    omega (arith, c.requires.0)

pub loop-j-preserved : goal.loop-j-preserved
loop-j-preserved c =
    let inv = c.loop-j.invariant in
    let e : suc c.loop-j.j ≡ c.loop-j.j + 1 = omega arith in record {
      cores = length-set c.loop-j.cores c.loop-j.j c.core-c.result ∙ inv.cores;
      ends = length-set c.loop-j.ends c.loop-j.j c.only.result ∙ inv.ends;
      looked = λ u v. looked-to c.args.parts.now c.args.g c.args.marks.now _ _ e
          (looked-more c.args.parts.now c.args.g c.args.marks.now c.loop-j.cores c.loop-j.ends c.loop-j.j c.core-c.result c.only.result
          (omega (arith, c.requires.0, inv.cores)) (omega (arith, c.requires.0, inv.ends)) c.core-c.ensures
          (through c.args.parts.now c.loop-j.j 6 c.args.g c.word.ensures c.has.ensures refl c.only.ensures) (inv.looked u v));
    }

pub returns : goal.returns
returns c =
    let inv = c.loop-j.invariant in
    let e : c.loop-j.j ≡ c.args.n = omega arith in
    record { cores = inv.cores; ends = inv.ends; looked = λ u v. looked-to c.args.parts.now c.args.g c.args.marks.now c.loop-j.cores c.loop-j.ends e (inv.looked u v) }
