-- `atoms::quote::mark_at` meets its contract: past the end no byte is a backslash.
use Rattle.std.proofs.Common.{le-ltb}
use lib.ListN.{get_or-eq_default}
use Rattle.atoms.specs.Quote.{is_mark}
use Rattle.atoms.proofs.quote.mark_at.Goals as goal

pub returns-else-at-s : goal.returns-else-at-s
unfolding is_mark
returns-else-at-s c = rw (le-ltb _ _ c.if-at-s.false, get_or-eq_default c.args.s.now 0 c.if-at-s.false)
