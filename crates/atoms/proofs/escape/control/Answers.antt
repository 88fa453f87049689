-- `atoms::escape::control` meets its contract: the byte at the place, 0 past the end, is from 32 to
-- 126 or not.
use Rattle.std.proofs.Common.{arith, ap, ◌∙◌, ◌≡◌, ◌≤◌, ◌<◌, ℕ, drop, le-leb}
use Rattle.atoms.specs.Answer.{part}
use Rattle.atoms.specs.Escape.{good, flipped64, control_of}
use Rattle.atoms.specs.declared.Atom.TheVariants.{Byte}
use Rattle.atoms.proofs.Digits.{outside}
use Rattle.atoms.proofs.Escapes.{control-is}
use Rattle.atoms.proofs.escape.control.Goals as goal
use Rattle.atoms.proofs.escape.control.Goals.{in_default-via-then-peek-lt32, in_default-via-else-peek-lt32+else-this-lt127}

pub returns-in-32-to-126 : goal.returns-in-32-to-126
returns-in-32-to-126 c =
    let from : 32 ≤ c.peek.result = omega arith in
    let to : c.peek.result ≤ 126 = omega arith in
    rw (control-is c.args.s.now c.args.at c.peek.result c.peek.ensures, le-leb 32 _ from, le-leb _ 126 to)
    (c.sound.ensures ∙ ap (λ (x : ℕ). good 3 (Byte x)) (c.flip_64.ensures ∙ ap flipped64 c.raise.ensures))

pub returns-in_default : goal.returns-in_default
returns-in_default c =
    let refused : (32 ≤ c.peek.result → 126 < c.peek.result) → part c.faulty.result ≡ control_of (drop c.args.at c.args.s.now)
    = λ h. rw (control-is c.args.s.now c.args.at c.peek.result c.peek.ensures, outside 32 126 c.peek.result h) c.faulty.ensures in
    elim c.in_default.branch [
      | in_default-via-then-peek-lt32 w ↦ refused (λ h. omega arith)
      | in_default-via-else-peek-lt32+else-this-lt127 w ↦ refused (λ h. omega arith)
    ]
