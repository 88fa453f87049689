-- `classes::members::is_type` meets its contract: the atom is a type, or another.
use borrow.Enum.Refused.{opened}
use Rattle.classes.proofs.Keys.{type-is, no-type-is}
use Rattle.classes.proofs.members.is_type.Goals as goal

pub returns-in-OfKind : goal.returns-in-OfKind
returns-in-OfKind c = type-is c.args.atom c.in-OfKind.in-OfKind-own.keys1

pub returns-in_default : goal.returns-in_default
returns-in_default c = no-type-is c.args.atom (opened c.in_default.in_default-own.keys2)
