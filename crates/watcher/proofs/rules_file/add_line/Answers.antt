-- `watcher::rules_file::add_line` meets its contract: a malformed line adds nothing, a rule line's
-- pattern lies within it.
use Rattle.std.proofs.Common.{refl, []}
use Rattle.watcher.proofs.Keeping.{rest-is, pattern-inside, malformed-line, rule-line-adds}
use Rattle.watcher.proofs.rules_file.add_line.Goals as goal

pub returns-in_default : goal.returns-in_default
returns-in_default c =
    let both = malformed-line _ _ _ c.in_default.ensures refl in
    record { answer = both.0; words = both.1 }

pub slice_bounds-add-count : goal.slice_bounds-add-count
slice_bounds-add-count c = pattern-inside [] _ _ c.in-Some.ensures

pub slice_bounds-add-start : goal.slice_bounds-add-start
slice_bounds-add-start c = pattern-inside [] _ _ c.in-Some.ensures

pub returns : goal.returns
returns c =
    let both = rule-line-adds _ _ _ c.in-Some.ensures refl _ _ _ (rest-is c.args.line.now c.in-Some.rule.pattern) c.add.ensures in
    record { answer = both.0; words = both.1 }
