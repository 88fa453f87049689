-- `copies::copy_takes` meets its contract: the words are copied in one piece.
use mathlib.Core.Path.{◌≡◌, ap, ◌∙◌}
use Prim.Native.Nat.{◌+◌, ◌-◌, ◌*◌}
use native.Mathlib.Omega.{arith}
use lib.ListN.{drop, length-drop}
use lib.Seq.{paste}
use Rattle.automaton.proofs.Moving.{pasted}
use Rattle.automaton.proofs.copies.copy_takes.Goals as goal

pub returns : goal.returns
returns c =
    let a = c.args in
    let t = a.rows.now in
    let size : (a.c + a.n) * 4 - a.c * 4 ≡ a.n * 4 = omega arith in
    c.copy_within.ensures.after ∙ ap (paste t ((a.c + a.n) * 4) (drop (a.c * 4) t)) size
    ∙ pasted t (drop (a.c * 4) t) ((a.c + a.n) * 4) (a.n * 4) (omega (arith, length-drop (a.c * 4) t)) (omega arith)
