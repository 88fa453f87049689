-- `atoms::escape::type_escape` meets its contract: the byte is one of the ten letters, or none of
-- them.
use borrow.Author.Tests.{ne_eqb}
use Rattle.atoms.specs.Escape.{type_of}
use Rattle.atoms.proofs.escape.type_escape.Goals as goal

pub returns-in-100 : goal.returns-in-100
unfolding type_of
returns-in-100 c = rw c.in-100.is c.sound.ensures

pub returns-in-119 : goal.returns-in-119
unfolding type_of
returns-in-119 c = rw c.in-119.is c.sound-in-119.ensures

pub returns-in-115 : goal.returns-in-115
unfolding type_of
returns-in-115 c = rw c.in-115.is c.sound-in-115.ensures

pub returns-in-104 : goal.returns-in-104
unfolding type_of
returns-in-104 c = rw c.in-104.is c.sound-in-104.ensures

pub returns-in-118 : goal.returns-in-118
unfolding type_of
returns-in-118 c = rw c.in-118.is c.sound-in-118.ensures

pub returns-in-68 : goal.returns-in-68
unfolding type_of
returns-in-68 c = rw c.in-68.is c.sound-in-68.ensures

pub returns-in-87 : goal.returns-in-87
unfolding type_of
returns-in-87 c = rw c.in-87.is c.sound-in-87.ensures

pub returns-in-83 : goal.returns-in-83
unfolding type_of
returns-in-83 c = rw c.in-83.is c.sound-in-83.ensures

pub returns-in-72 : goal.returns-in-72
unfolding type_of
returns-in-72 c = rw c.in-72.is c.sound-in-72.ensures

pub returns-in-86 : goal.returns-in-86
unfolding type_of
returns-in-86 c = rw c.in-86.is c.sound-in-86.ensures

pub returns-in_default : goal.returns-in_default
unfolding type_of
returns-in_default c =
    let other = c.in_default.in_default-own.rest in
    rw (
      ne_eqb _ _ other.0.0.0.0.0.0.0.0.0.1,
      ne_eqb _ _ other.0.0.0.0.0.0.0.0.1,
      ne_eqb _ _ other.0.0.0.0.0.0.0.1,
      ne_eqb _ _ other.0.0.0.0.0.0.1,
      ne_eqb _ _ other.0.0.0.0.0.1,
      ne_eqb _ _ other.0.0.0.0.1,
      ne_eqb _ _ other.0.0.0.1,
      ne_eqb _ _ other.0.0.1,
      ne_eqb _ _ other.0.1,
      ne_eqb _ _ other.1,
    )
