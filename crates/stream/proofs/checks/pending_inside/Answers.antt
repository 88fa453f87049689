-- `stream::checks::pending_inside` meets its contract: shifted by the number of rules, nothing is
-- left.
use borrow.Author.Tests.{le-leb}
use mathlib.Core.Path.{◌∙◌}
use Rattle.stream.proofs.Accepting.{none-past, past-test}
use Rattle.stream.proofs.checks.pending_inside.Goals as goal

pub returns-then-rules-ge-MAX_RULES : goal.returns-then-rules-ge-MAX_RULES
returns-then-rules-ge-MAX_RULES c =
    let c-start = c in
    let c-if1 = c.if-rules-ge-MAX_RULES in
    le-leb 64 c-start.args.rules c-if1.true ∙ none-past c-start.args.pending c-start.args.rules c-if1.true

pub returns-else-rules-ge-MAX_RULES : goal.returns-else-rules-ge-MAX_RULES
returns-else-rules-ge-MAX_RULES c =
    let c-start = c in
    past-test c-start.args.pending c-start.args.rules c-start.ranges.pending.fits
