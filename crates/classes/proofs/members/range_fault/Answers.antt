-- `classes::members::range_fault` meets its contract: the definition, read at the two ends, goes by
-- the tests of the code.
use Rattle.std.proofs.Common.{◌≡◌, ◌∙◌, ap, refl, sym}
use Rattle.std.specs.Result.{is_ok}
use Rattle.atoms.specs.Answer.{atom_of}
use Rattle.classes.specs.Class.{is_type, byte_of}
use Rattle.classes.proofs.Ranges.{range-fault-told}
use Rattle.classes.proofs.members.range_fault.Goals as goal

pub returns-then-is_type : goal.returns-then-is_type
returns-then-is_type c =
    let m = c.args.m.atom in
    let n = c.args.n.atom in
    rw (
      range-fault-told c.args.m c.args.n c.is_type.result c.is_type-2.result (is_ok m) (is_ok n) (byte_of (atom_of m)) (byte_of (atom_of n))
          (c.is_type.ensures ∙ ap is_type c.atom_of-low.ensures) (c.is_type-2.ensures ∙ ap is_type c.atom_of-high.ensures) refl refl refl refl,
      c.if-is_type.true,
    )

pub returns-then-is_ok-byte_of : goal.returns-then-is_ok-byte_of
returns-then-is_ok-byte_of c =
    rw (
      range-fault-told c.args.m c.args.n c.is_type.result c.is_type-2.result c.is_ok.result c.is_ok-2.result c.byte_of-2.result c.byte_of.result
          (c.is_type.ensures ∙ ap is_type c.atom_of-low.ensures) (c.is_type-2.ensures ∙ ap is_type c.atom_of-high.ensures)
          (c.byte_of-2.ensures ∙ ap byte_of c.atom_of-low.ensures) (c.byte_of.ensures ∙ ap byte_of c.atom_of-high.ensures)
          c.is_ok.ensures.value c.is_ok-2.ensures.value,
      c.if-is_type.false,
      c.if-is_ok-byte_of.true,
    )

pub returns : goal.returns
returns c =
    rw (
      range-fault-told c.args.m c.args.n c.is_type.result c.is_type-2.result c.is_ok.result c.is_ok-2.result c.byte_of-2.result c.byte_of.result
          (c.is_type.ensures ∙ ap is_type c.atom_of-low.ensures) (c.is_type-2.ensures ∙ ap is_type c.atom_of-high.ensures)
          (c.byte_of-2.ensures ∙ ap byte_of c.atom_of-low.ensures) (c.byte_of.ensures ∙ ap byte_of c.atom_of-high.ensures)
          c.is_ok.ensures.value c.is_ok-2.ensures.value,
      c.if-is_type.false,
      c.if-is_ok-byte_of.false,
    )
