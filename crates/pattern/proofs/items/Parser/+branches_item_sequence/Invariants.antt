-- The measure is three for each unread byte, and the order of the calls at one place.
use Prim.Native.Nat.{◌+◌, ◌*◌, ◌-◌}
use lib.ListN.{length}
use Rattle.pattern.proofs.items.Parser.+branches_item_sequence.Given as goal

abbrev pub decreases-branches : goal.decreases-branches
decreases-branches l = 3 * (length l.s.now - l.self.now.at) + 2

abbrev pub decreases-item : goal.decreases-item
decreases-item l = 3 * (length l.s.now - l.self.now.at)

abbrev pub decreases-sequence : goal.decreases-sequence
decreases-sequence l = 3 * (length l.s.now - l.self.now.at) + 1
