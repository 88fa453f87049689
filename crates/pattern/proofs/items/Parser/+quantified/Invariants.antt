-- The measure is the unread length.
use Prim.Native.Nat.{◌-◌}
use lib.ListN.{length}
use Rattle.pattern.proofs.items.Parser.+quantified.Given as goal

abbrev pub decreases-quantified : goal.decreases-quantified
decreases-quantified l = length l.s.now - l.self.now.at
