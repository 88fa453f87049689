-- `kinds::word_digits` meets its contract: each constant is computed from the rule.
use mathlib.Core.Path.{sym}
use native.Mathlib.Omega.{arith}
use Rattle.kinds.proofs.Sides.{low, high, above}
use Rattle.kinds.proofs.word_digits.Goals as goal

pub returns-then-b-lt64 : goal.returns-then-b-lt64
returns-then-b-lt64 c = sym (low _ c.if-b-lt64.true)

pub returns-then-b-lt128 : goal.returns-then-b-lt128
returns-then-b-lt128 c = sym (high _ c.if-b-lt64.false c.if-b-lt128.true)

pub returns : goal.returns
returns c = sym (above _ c.if-b-lt128.false (omega arith))
