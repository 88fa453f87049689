-- `atoms::number::digit_of` meets its contract: in each range of the match a byte is worth what the
-- definition says, and 16 outside them.
use Rattle.std.proofs.Common.{arith, sym}
use Rattle.atoms.proofs.Digits.{worth-decimal, worth-upper, worth-lower, worth-none}
use Rattle.atoms.proofs.number.digit_of.Goals as goal

pub returns-in-48-to-57 : goal.returns-in-48-to-57
returns-in-48-to-57 c = omega (arith, worth-decimal c.args.b (omega arith) (omega arith), c.from.ensures)

pub returns-in-65-to-70 : goal.returns-in-65-to-70
returns-in-65-to-70 c = omega (arith, worth-upper c.args.b (omega arith) (omega arith))

pub returns-in-97-to-102 : goal.returns-in-97-to-102
returns-in-97-to-102 c = omega (arith, worth-lower c.args.b (omega arith) (omega arith))

pub returns-in_default : goal.returns-in_default
returns-in_default c = sym (worth-none c.args.b (λ h. omega arith) (λ h. omega arith) (λ h. omega arith))

pub returns-in_default-2 : goal.returns-in_default-2
returns-in_default-2 c = sym (worth-none c.args.b (λ h. omega arith) (λ h. omega arith) (λ h. omega arith))

pub returns-in_default-3 : goal.returns-in_default-3
returns-in_default-3 c = sym (worth-none c.args.b (λ h. omega arith) (λ h. omega arith) (λ h. omega arith))

pub returns-in_default-4 : goal.returns-in_default-4
returns-in_default-4 c = sym (worth-none c.args.b (λ h. omega arith) (λ h. omega arith) (λ h. omega arith))
