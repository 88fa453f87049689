-- `read_all` meets its contract: each return is one law of `Whole` about what the reader of the
-- branches said, and the two figures are asked of the tree that it names.
use mathlib.Core.Path.{sym, ◌∙◌}
use native.Mathlib.Omega.{arith}
use Rattle.std.proofs.lemmas.Result.{err_from_is_err_and}
use Rattle.refusals.specs.declared.Refusal.TheVariants.{LongPattern, BadGroup, EmptyMatch, LargeRule}
use Rattle.pattern.specs.Read.{options_of}
use Rattle.pattern.proofs.Whole as whole
use Rattle.pattern.proofs.read_all.Goals as goal

pub returns-then-length-gt-LONGEST : goal.returns-then-length-gt-LONGEST
returns-then-length-gt-LONGEST c =
    let x = c.args in
    whole.refusal-answer x.pattern.now (options_of x.flags) LongPattern _ (whole.too_long_lem x.pattern.now (options_of x.flags) c.if-length-gt-LONGEST.true)

pub returns-in_err-root : goal.returns-in_err-root
returns-in_err-root c =
    let x = c.args in
    let p = err_from_is_err_and c.from_residual.result c.from_residual.ensures.1 in
    let f = c.in_err-root.field-0.0 in
    rw (p.1, p.2) (whole.refusal-answer x.pattern.now (options_of x.flags) f.refusal f.place (whole.whole-no x.pattern.now (options_of x.flags) c.branches.new.self f c.if-length-gt-LONGEST.false (rw (c.options_of.ensures, c.new.ensures) at c.in_err-root.ensures)))

pub returns-then-parser-length : goal.returns-then-parser-length
returns-then-parser-length c =
    let x = c.args in
    whole.refusal-answer x.pattern.now (options_of x.flags) BadGroup _ (whole.whole-left x.pattern.now (options_of x.flags) c.branches.new.self c.in_ok-root.root c.if-length-gt-LONGEST.false (rw (c.options_of.ensures, c.new.ensures) at c.in_ok-root.ensures) c.if-parser-length.true)

pub slice_bounds-nullable-end : goal.slice_bounds-nullable-end
slice_bounds-nullable-end c =
    let x = c.args in
    whole.whole_room x.pattern.now (options_of x.flags) c.branches.new.self c.in_ok-root.root c.if-length-gt-LONGEST.false (rw (c.options_of.ensures, c.new.ensures) at c.in_ok-root.ensures)

pub returns-then-nullable : goal.returns-then-nullable
returns-then-nullable c =
    let x = c.args in
    whole.refusal-answer x.pattern.now (options_of x.flags) EmptyMatch _ (whole.whole-empty x.pattern.now (options_of x.flags) c.branches.new.self c.in_ok-root.root c.if-length-gt-LONGEST.false (rw (c.options_of.ensures, c.new.ensures) at c.in_ok-root.ensures) c.if-parser-length.false (sym c.nullable.ensures ∙ c.if-nullable.true))

pub slice_bounds-count-end : goal.slice_bounds-count-end
slice_bounds-count-end c =
    let x = c.args in
    whole.whole_room x.pattern.now (options_of x.flags) c.branches.new.self c.in_ok-root.root c.if-length-gt-LONGEST.false (rw (c.options_of.ensures, c.new.ensures) at c.in_ok-root.ensures)

pub returns-then-positions-gt256 : goal.returns-then-positions-gt256
returns-then-positions-gt256 c =
    let x = c.args in
    whole.refusal-answer x.pattern.now (options_of x.flags) LargeRule _ (whole.whole-many x.pattern.now (options_of x.flags) c.branches.new.self c.in_ok-root.root c.if-length-gt-LONGEST.false (rw (c.options_of.ensures, c.new.ensures) at c.in_ok-root.ensures) c.if-parser-length.false (sym c.nullable.ensures ∙ c.if-nullable.false) (omega (arith, c.if-positions-gt256.true, c.count-positions.ensures)))

pub returns : goal.returns
returns c =
    let x = c.args in
    whole.whole-answer x.pattern.now (options_of x.flags) c.branches.new.self c.in_ok-root.root c.if-length-gt-LONGEST.false (rw (c.options_of.ensures, c.new.ensures) at c.in_ok-root.ensures) c.if-parser-length.false (sym c.nullable.ensures ∙ c.if-nullable.false) c.count-positions.result c.count-positions.ensures (omega (arith, c.if-positions-gt256.false))
