-- `repeats::bounded` meets its contract: the copy is what building the part once more would give,
-- and the rest is built behind it.
use mathlib.Core.Path.{refl}
use mathlib.Core.Bool.{false}
use Prim.Native.Nat.{◌+◌}
use native.Mathlib.Omega.{arith}
use Rattle.nodes.specs.Invariants.{child_form}
use Rattle.nodes.proofs.Forms as forms
use Rattle.automaton.proofs.Steps as steps
use Rattle.automaton.proofs.Standing as standing
use Rattle.automaton.proofs.repeats.+bounded.Goals as goal

pub nested-requires : goal.nested-requires
nested-requires t c =
    let v = c.args in
    let p = c.requires in
    let all = forms.repeat-nested (child_form v.a.now v.k v.x) v.n false v.j c.if-n-eq0.true refl in
    (steps.room_as (v.c + v.f.size) all p.0, p.1)

pub returns-then-n-eq0 : goal.returns-then-n-eq0
returns-then-n-eq0 t c =
    let v = c.args in
    steps.built-as (forms.repeat-nested (child_form v.a.now v.k v.x) v.n false v.j c.if-n-eq0.true refl) c.nested.ensures

pub again-g-requires : goal.again-g-requires
again-g-requires t c =
    let v = c.args in
    let p = c.requires in
    let one = steps.one-fits (child_form v.a.now v.k v.x) v.n false v.j c.if-n-eq0.false in
    (omega (arith, one, standing.stands-size p.1), p.1.wide)

pub bounded-h-requires : goal.bounded-h-requires
bounded-h-requires t c =
    let v = c.args in
    let p = c.requires in
    let sum = forms.repeat-positions (child_form v.a.now v.k v.x) v.n false v.j c.if-n-eq0.false refl in
    let next = standing.stands-again p.1 c.again-g.ensures (omega (arith, sum)) in
    (omega arith, (omega (arith, sum, standing.stands-size next), next))

pub then-requires : goal.then-requires
then-requires t c =
    let v = c.args in
    let p = c.requires in
    let sum = forms.repeat-positions (child_form v.a.now v.k v.x) v.n false v.j c.if-n-eq0.false refl in
    steps.two-fit (standing.built-again p.1 c.again-g.ensures (omega (arith, sum))) c.bounded-h.ensures (omega (arith, sum))

pub returns : goal.returns
returns t c =
    let v = c.args in
    let p = c.requires in
    let copy = child_form v.a.now v.k v.x in
    let sum = forms.repeat-positions copy v.n false v.j c.if-n-eq0.false refl in
    steps.built-seq (standing.built-again p.1 c.again-g.ensures (omega (arith, sum))) c.bounded-h.ensures
    (forms.repeat-step copy v.n false v.j c.if-n-eq0.false refl)
    c.then.ensures.0 c.then.ensures.1
