-- No number is 0, and no two reasons have the same.
use Rattle.std.specs.Prelude.{◌≡◌, ◌∷◌, [], List, ℕ, zero, suc, ◌<◌, ◌-◌}
use Rattle.std.proofs.Common.{refl, ap, sym, ◌∙◌, arith}
use Rattle.refusals.specs.Refusal.{number_of}
use Rattle.refusals.specs.declared.Refusal.{Refusal}
use Rattle.refusals.specs.declared.Refusal.TheVariants.{NoTable, BadFlag, IdTaken, TableFull, LongPattern, BadEscape, BigEscape, OpenClass, BadRange, BadQuantifier, BadCount, BadGroup, DeepGroup, Unsupported, EmptyMatch, LargeRule, LargeTable, BadState, Closed, SmallSpace, LongStream, BadLine, RawByte, SingleStart, NotKept, BadWindow, NoBlock, LongLog, SmallSecond}

-- the reason in a place of a list; `NoTable` past its end
pick : List Refusal → ℕ → Refusal
pick [] n = NoTable
pick (r ∷ rs) zero = r
pick (r ∷ rs) (suc n) = pick rs n

-- the reason that a number names
reason_of : ℕ → Refusal
reason_of n = pick (NoTable ∷ BadFlag ∷ IdTaken ∷ TableFull ∷ LongPattern ∷ BadEscape ∷ BigEscape ∷ OpenClass ∷ BadRange ∷ BadQuantifier ∷ BadCount ∷ BadGroup ∷ DeepGroup ∷ Unsupported ∷ EmptyMatch ∷ LargeRule ∷ LargeTable ∷ BadState ∷ Closed ∷ SmallSpace ∷ LongStream ∷ BadLine ∷ RawByte ∷ SingleStart ∷ NotKept ∷ BadWindow ∷ NoBlock ∷ LongLog ∷ SmallSecond ∷ []) (n - 1)

named : (r : Refusal) → reason_of (number_of r) ≡ r
unfolding reason_of pick
named NoTable = refl
named BadFlag = refl
named IdTaken = refl
named TableFull = refl
named LongPattern = refl
named BadEscape = refl
named BigEscape = refl
named OpenClass = refl
named BadRange = refl
named BadQuantifier = refl
named BadCount = refl
named BadGroup = refl
named DeepGroup = refl
named Unsupported = refl
named EmptyMatch = refl
named LargeRule = refl
named LargeTable = refl
named BadState = refl
named Closed = refl
named SmallSpace = refl
named LongStream = refl
named BadLine = refl
named RawByte = refl
named SingleStart = refl
named NotKept = refl
named BadWindow = refl
named NoBlock = refl
named LongLog = refl
named SmallSecond = refl

pub numbers-differ : (r q : Refusal) → number_of r ≡ number_of q → r ≡ q
numbers-differ r q e = sym (named r) ∙ (ap reason_of e ∙ named q)

pub number-above : (r : Refusal) → 0 < number_of r
number-above NoTable = omega arith
number-above BadFlag = omega arith
number-above IdTaken = omega arith
number-above TableFull = omega arith
number-above LongPattern = omega arith
number-above BadEscape = omega arith
number-above BigEscape = omega arith
number-above OpenClass = omega arith
number-above BadRange = omega arith
number-above BadQuantifier = omega arith
number-above BadCount = omega arith
number-above BadGroup = omega arith
number-above DeepGroup = omega arith
number-above Unsupported = omega arith
number-above EmptyMatch = omega arith
number-above LargeRule = omega arith
number-above LargeTable = omega arith
number-above BadState = omega arith
number-above Closed = omega arith
number-above SmallSpace = omega arith
number-above LongStream = omega arith
number-above BadLine = omega arith
number-above RawByte = omega arith
number-above SingleStart = omega arith
number-above NotKept = omega arith
number-above BadWindow = omega arith
number-above NoBlock = omega arith
number-above LongLog = omega arith
number-above SmallSecond = omega arith
