-- `atoms::escape::named_escape` meets its contract: the byte is one of the six letters, or none of
-- them.
use borrow.Author.Tests.{ne_eqb}
use Rattle.atoms.specs.Escape.{named_of}
use Rattle.atoms.proofs.escape.named_escape.Goals as goal

pub returns-in-97 : goal.returns-in-97
unfolding named_of
returns-in-97 c = rw c.in-97.is c.sound.ensures

pub returns-in-101 : goal.returns-in-101
unfolding named_of
returns-in-101 c = rw c.in-101.is c.sound-in-101.ensures

pub returns-in-102 : goal.returns-in-102
unfolding named_of
returns-in-102 c = rw c.in-102.is c.sound-in-102.ensures

pub returns-in-110 : goal.returns-in-110
unfolding named_of
returns-in-110 c = rw c.in-110.is c.sound-in-110.ensures

pub returns-in-114 : goal.returns-in-114
unfolding named_of
returns-in-114 c = rw c.in-114.is c.sound-in-114.ensures

pub returns-in-116 : goal.returns-in-116
unfolding named_of
returns-in-116 c = rw c.in-116.is c.sound-in-116.ensures

pub returns-in_default : goal.returns-in_default
unfolding named_of
returns-in_default c =
    let other = c.in_default.in_default-own.rest in
    rw (
      ne_eqb _ _ other.0.0.0.0.0.1,
      ne_eqb _ _ other.0.0.0.0.1,
      ne_eqb _ _ other.0.0.0.1,
      ne_eqb _ _ other.0.0.1,
      ne_eqb _ _ other.0.1,
      ne_eqb _ _ other.1,
    )
