-- `repeats::endless` meets its contract: the copy is what building the part once more would give,
-- and the rest is built behind it.
use mathlib.Core.Path.{◌≡◌}
use mathlib.Core.Bool.{true}
use Prim.Native.Nat.{ℕ, ◌<◌}
use native.Mathlib.Omega.{arith}
use borrow.Author.Tests.{eq-eqb, ne_eqb}
use Rattle.nodes.specs.Invariants.{child_form}
use Rattle.nodes.proofs.Forms as forms
use Rattle.automaton.proofs.Steps as steps
use Rattle.automaton.proofs.Standing as standing
use Rattle.automaton.proofs.repeats.+endless.Goals as goal

some : (n : ℕ) → 0 < n → n ≡ 0 → ⊥
some n h e = omega arith

pub again-g-requires : goal.again-g-requires
again-g-requires t c =
    let v = c.args in
    let p = c.requires in
    let one = steps.one-fits (child_form v.a.now v.k v.x) v.n true 0 (some v.n p.0) in
    (omega (arith, one, standing.stands-size p.2), p.2.wide)

pub returns-then-n-eq1 : goal.returns-then-n-eq1
returns-then-n-eq1 t c =
    let v = c.args in
    let p = c.requires in
    let copy = child_form v.a.now v.k v.x in
    let one = steps.one-fits copy v.n true 0 (some v.n p.0) in
    let built = standing.built-again p.2 c.again-g.ensures (omega (arith, one)) in
    steps.built-as (forms.repeat_many copy v.n true 0 (eq-eqb v.n 1 c.if-n-eq1.true)) (steps.built-plus built c.many.ensures)

pub endless-h-requires : goal.endless-h-requires
endless-h-requires t c =
    let v = c.args in
    let p = c.requires in
    let sum = forms.repeat-positions (child_form v.a.now v.k v.x) v.n true 0 (some v.n p.0) (ne_eqb v.n 1 c.if-n-eq1.false) in
    let next = standing.stands-again p.2 c.again-g.ensures (omega (arith, sum)) in
    (omega arith, (omega arith, omega (arith, sum, standing.stands-size next), next))

pub then-requires : goal.then-requires
then-requires t c =
    let v = c.args in
    let p = c.requires in
    let sum = forms.repeat-positions (child_form v.a.now v.k v.x) v.n true 0 (some v.n p.0) (ne_eqb v.n 1 c.if-n-eq1.false) in
    steps.two-fit (standing.built-again p.2 c.again-g.ensures (omega (arith, sum))) c.endless-h.ensures (omega (arith, sum))

pub returns : goal.returns
returns t c =
    let v = c.args in
    let p = c.requires in
    let copy = child_form v.a.now v.k v.x in
    let sum = forms.repeat-positions copy v.n true 0 (some v.n p.0) (ne_eqb v.n 1 c.if-n-eq1.false) in
    steps.built-seq (standing.built-again p.2 c.again-g.ensures (omega (arith, sum))) c.endless-h.ensures
    (forms.repeat-step copy v.n true 0 (some v.n p.0) (ne_eqb v.n 1 c.if-n-eq1.false))
    c.then.ensures.0 c.then.ensures.1
