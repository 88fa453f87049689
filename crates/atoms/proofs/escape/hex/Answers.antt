-- `atoms::escape::hex` meets its contract: the byte at the place is an opening brace or not.
use native.Mathlib.Omega.{arith}
use borrow.Author.Tests.{eq-eqb, ne_eqb}
use Rattle.atoms.specs.Escape.{hex_of}
use Rattle.atoms.proofs.Suffixes.{first, inside}
use Rattle.atoms.proofs.escape.hex.Goals as goal

pub braced-requires : goal.braced-requires
braced-requires c =
    let args = c.args in
    let s = args.s.now in
    let at = args.at in
    record {
      base_nonzero = omega arith;
      at_in_bounds = inside s at (λ z. omega (arith, c.peek.ensures));
    }

pub returns-then-peek-eq123 : goal.returns-then-peek-eq123
unfolding hex_of
returns-then-peek-eq123 c =
    let args = c.args in
    let s = args.s.now in
    let at = args.at in
    rw (first s at, ← c.peek.ensures, eq-eqb _ _ c.if-peek-eq123.true) c.braced.ensures

pub returns : goal.returns
unfolding hex_of
returns c =
    let args = c.args in
    let s = args.s.now in
    let at = args.at in
    rw (first s at, ← c.peek.ensures, ne_eqb _ _ c.if-peek-eq123.false) c.short.ensures
