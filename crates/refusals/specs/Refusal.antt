-- The numbers of the table "When the watcher says no". Assumes nothing: these are definitions.
use Rattle.std.specs.Prelude.{ℕ, Option, None, Some, Result, Ok, Err}
use Rattle.refusals.specs.declared.Refusal.{Refusal}
use Rattle.refusals.specs.declared.Refusal.TheVariants.{NoTable, BadFlag, IdTaken, TableFull, LongPattern, BadEscape, BigEscape, OpenClass, BadRange, BadQuantifier, BadCount, BadGroup, DeepGroup, Unsupported, EmptyMatch, LargeRule, LargeTable, BadState, Closed, SmallSpace, LongStream, BadLine, RawByte, SingleStart, NotKept, BadWindow, NoBlock, LongLog, SmallSecond}

-- the number of a reason
abbrev pub number_of : Refusal → ℕ
number_of NoTable = 1
number_of BadFlag = 2
number_of IdTaken = 3
number_of TableFull = 4
number_of LongPattern = 5
number_of BadEscape = 6
number_of BigEscape = 7
number_of OpenClass = 8
number_of BadRange = 9
number_of BadQuantifier = 10
number_of BadCount = 11
number_of BadGroup = 12
number_of DeepGroup = 13
number_of Unsupported = 14
number_of EmptyMatch = 15
number_of LargeRule = 16
number_of LargeTable = 17
number_of BadState = 18
number_of Closed = 19
number_of SmallSpace = 20
number_of LongStream = 21
number_of BadLine = 22
number_of RawByte = 23
number_of SingleStart = 24
number_of NotKept = 25
number_of BadWindow = 26
number_of NoBlock = 27
number_of LongLog = 28
number_of SmallSecond = 29

-- the number that answers a call: "0 is accepted"
abbrev pub code_of : {T : Type 0} → Result T Refusal → ℕ
code_of (Ok x) = 0
code_of (Err r) = number_of r

-- the number of a reason, or 0 where there is none
abbrev pub number_if : Option Refusal → ℕ
number_if None = 0
number_if (Some r) = number_of r
