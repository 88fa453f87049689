-- `atoms::escape::placed_escape` meets its contract: inside a class the byte is `b` or not, outside
-- it is `N`, `A`, `Z`, `z`, `b`, `B` or none of them.
use borrow.Author.Tests.{ne_eqb}
use Rattle.atoms.specs.Escape.{placed_of}
use Rattle.atoms.proofs.escape.placed_escape.Goals as goal

pub returns-then-c-eq98 : goal.returns-then-c-eq98
unfolding placed_of
returns-then-c-eq98 c = rw (c.if-inside.true, c.if-c-eq98.true) c.sound.ensures

pub returns-then-inside : goal.returns-then-inside
unfolding placed_of
returns-then-inside c = rw (c.if-inside.true, ne_eqb _ _ c.if-c-eq98.false) c.faulty.ensures

pub returns-in-78 : goal.returns-in-78
unfolding placed_of
returns-in-78 c = rw (c.if-inside.false, c.in-78.is) c.sound-in-78.ensures

pub returns-in-65 : goal.returns-in-65
unfolding placed_of
returns-in-65 c = rw (c.if-inside.false, c.in-65.is) c.sound-in-65.ensures

pub returns-in-90 : goal.returns-in-90
unfolding placed_of
returns-in-90 c = rw (c.if-inside.false, c.in-90.is) c.sound-in-90.ensures

pub returns-in-122 : goal.returns-in-122
unfolding placed_of
returns-in-122 c = rw (c.if-inside.false, c.in-122.is) c.sound-in-122.ensures

pub returns-in-98 : goal.returns-in-98
unfolding placed_of
returns-in-98 c = rw (c.if-inside.false, c.in-98.is) c.sound-in-98.ensures

pub returns-in-66 : goal.returns-in-66
unfolding placed_of
returns-in-66 c = rw (c.if-inside.false, c.in-66.is) c.sound-in-66.ensures

pub returns-in_default : goal.returns-in_default
unfolding placed_of
returns-in_default c =
    let other = c.in_default.in_default-own.rest in
    rw (
      c.if-inside.false,
      ne_eqb _ _ other.0.0.0.0.0.1,
      ne_eqb _ _ other.0.0.0.0.1,
      ne_eqb _ _ other.0.0.0.1,
      ne_eqb _ _ other.0.0.1,
      ne_eqb _ _ other.0.1,
      ne_eqb _ _ other.1,
    ) c.faulty-in_default.ensures
