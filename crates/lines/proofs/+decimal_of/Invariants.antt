-- `lines::decimal_of` ends: it calls itself with a smaller number.
use Rattle.lines.proofs.+decimal_of.Given as goal

abbrev pub decreases-decimal_of : goal.decreases-decimal_of
decreases-decimal_of l = l.n
