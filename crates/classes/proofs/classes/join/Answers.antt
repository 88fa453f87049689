-- `classes::classes::join` meets its contract, by cases on what the member starts with.
use borrow.Enum.Refused.{opened}
use Rattle.classes.specs.Class.{joined}
use Rattle.classes.proofs.Keys.{joined-other}
use Rattle.classes.proofs.classes.join.Goals as goal

pub returns-in-Byte : goal.returns-in-Byte
unfolding joined
returns-in-Byte c =
    rw (c.in-Byte.is, ← c.byte_of.ensures) c.insert_range.ensures

pub returns-in-OfKind : goal.returns-in-OfKind
unfolding joined
returns-in-OfKind c =
    rw (c.in-OfKind.is, ← c.of_kind.ensures) c.union.ensures

pub returns-in-NotOfKind : goal.returns-in-NotOfKind
unfolding joined
returns-in-NotOfKind c =
    rw (c.in-NotOfKind.is, ← c.not_of_kind.ensures) c.union-in-NotOfKind.ensures

pub returns-in_default : goal.returns-in_default
returns-in_default c =
    let args = c.args in
    joined-other args.set args.low args.high (opened c.in_default.in_default-own.keys4)
