-- `classes::members::byte_of` meets its contract: the atom is a byte, or another.
use borrow.Enum.Refused.{opened}
use Rattle.classes.proofs.Keys.{no-byte-is}
use Rattle.classes.proofs.members.byte_of.Goals as goal

pub returns-in-Byte : goal.returns-in-Byte
returns-in-Byte c = rw c.in-Byte.is

pub returns-in_default : goal.returns-in_default
returns-in_default c = no-byte-is c.args.atom (opened c.in_default.in_default-own.keys2)
