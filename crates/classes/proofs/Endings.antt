-- A bad escape is the reason with the number 6.
use mathlib.Core.Path.{◌≡◌, refl}
use lib.Dec.{eqb}
use denote.Enum.Bare.{sameb}
use Rattle.refusals.specs.contracts.Refusal as reason
use Rattle.refusals.specs.declared.Refusal.{Refusal}
use Rattle.refusals.specs.declared.Refusal.TheVariants.{NoTable, BadFlag, IdTaken, TableFull, LongPattern, BadEscape, BigEscape, OpenClass, BadRange, BadQuantifier, BadCount, BadGroup, DeepGroup, Unsupported, EmptyMatch, LargeRule, LargeTable, BadState, Closed, SmallSpace, LongStream, BadLine, RawByte, SingleStart, NotKept, BadWindow, NoBlock, LongLog, SmallSecond}
use Rattle.refusals.specs.Refusal.{number_of}

pub bad-escape : (r : Refusal) → sameb reason.the_type r BadEscape ≡ eqb (number_of r) 6
bad-escape NoTable = refl
bad-escape BadFlag = refl
bad-escape IdTaken = refl
bad-escape TableFull = refl
bad-escape LongPattern = refl
bad-escape BadEscape = refl
bad-escape BigEscape = refl
bad-escape OpenClass = refl
bad-escape BadRange = refl
bad-escape BadQuantifier = refl
bad-escape BadCount = refl
bad-escape BadGroup = refl
bad-escape DeepGroup = refl
bad-escape Unsupported = refl
bad-escape EmptyMatch = refl
bad-escape LargeRule = refl
bad-escape LargeTable = refl
bad-escape BadState = refl
bad-escape Closed = refl
bad-escape SmallSpace = refl
bad-escape LongStream = refl
bad-escape BadLine = refl
bad-escape RawByte = refl
bad-escape SingleStart = refl
bad-escape NotKept = refl
bad-escape BadWindow = refl
bad-escape NoBlock = refl
bad-escape LongLog = refl
bad-escape SmallSecond = refl
