-- `lines::field_at` meets its contract: its tests are the four properties of a field, and a field's
-- number is below the cap and its space within the line.
use mathlib.Core.Path.{◌≡◌}
use native.Mathlib.Omega.{arith}
use borrow.Author.Tests.{leb-true, leb-false, eqb-true, eqb-false}
use lib.ListN.{get_or, drop}
use Rattle.lines.proofs.Fields.{Good, Read, field-good, field-bad, space-at, accepted, value_of, next_of, space-within}
use Rattle.lines.proofs.field_at.Goals as goal
use Rattle.lines.proofs.field_at.Goals.{else-size-ge1-via-then-size-ge1+then-size-le-MOST_DIGITS+then-value-le-LARGEST+else-after-eq-SPACE, else-size-ge1-via-then-size-ge1+then-size-le-MOST_DIGITS+else-value-le-LARGEST, else-size-ge1-via-then-size-ge1+else-size-le-MOST_DIGITS, else-size-ge1-via-else-size-ge1}

-- how a branch's test tells of its numbers
ruleset tests = (arith, leb-true, leb-false, eqb-true, eqb-false)

-- the tests, passed and failed
good : (c : goal.Then-after-eq-SPACE) → Good (drop c.args.from c.args.line.now)
good c =
    let x = c.args in
    let d = c.digits_at-digits in
    let b = c.byte_at-after in
    let e : b.result ≡ get_or x.line.now d.result.end 0 = b.ensures in
    accepted x.line.now x.from d.result.value d.result.end (d.ensures.value, d.ensures.end)
    (omega tests)
    (omega tests)
    (omega tests)
    (omega tests)

bad : (c : goal.Joined-else-size-ge1) → Good (drop c.args.from c.args.line.now) → ⊥
bad c g =
    let x = c.args in
    let d = c.digits_at-digits in
    let s = space-at x.line.now x.from d.result.value d.result.end (d.ensures.value, d.ensures.end) in
    let e : c.byte_at-after.result ≡ get_or x.line.now d.result.end 0 = c.byte_at-after.ensures in
    elim c.else-size-ge1.branch [
      | else-size-ge1-via-then-size-ge1+then-size-le-MOST_DIGITS+then-value-le-LARGEST+else-after-eq-SPACE w ↦ omega tests
      | else-size-ge1-via-then-size-ge1+then-size-le-MOST_DIGITS+else-value-le-LARGEST w ↦ omega tests
      | else-size-ge1-via-then-size-ge1+else-size-le-MOST_DIGITS w ↦ omega tests
      | else-size-ge1-via-else-size-ge1 w ↦ omega tests
    ]

pub overflow_cast-result : goal.overflow_cast-result
overflow_cast-result c = omega (arith, (good c).small)

pub overflow_add-result : goal.overflow_add-result
overflow_add-result c = omega (arith, space-within _ _ _ _ (c.digits_at-digits.ensures.value, c.digits_at-digits.ensures.end) (good c))

pub returns-then-after-eq-SPACE : goal.returns-then-after-eq-SPACE
returns-then-after-eq-SPACE c =
    let x = c.args in
    let d = c.digits_at-digits in
    let r : Read x.line.now x.from d.result.value d.result.end = (d.ensures.value, d.ensures.end) in
    (field-good _ (good c), (value_of _ _ _ _ r (good c), next_of _ _ _ _ r))

pub returns : goal.returns
returns c = field-bad _ (bad c)
