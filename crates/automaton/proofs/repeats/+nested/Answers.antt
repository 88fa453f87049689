-- `repeats::nested` meets its contract: the copy is what building the part once more would give,
-- and the rest is built behind it.
use mathlib.Core.Path.{refl}
use native.Mathlib.Omega.{arith}
use Rattle.nodes.specs.Invariants.{child_form}
use Rattle.nodes.proofs.Forms as forms
use Rattle.automaton.proofs.Steps as steps
use Rattle.automaton.proofs.Standing as standing
use Rattle.automaton.proofs.repeats.+nested.Goals as goal

pub returns-then-j-eq0 : goal.returns-then-j-eq0
returns-then-j-eq0 t c =
    let v = c.args in
    steps.built-eps (forms.nested-none (child_form v.a.now v.k v.x) v.j c.if-j-eq0.true) c.bare.ensures

pub again-g-requires : goal.again-g-requires
again-g-requires t c =
    let v = c.args in
    let s = c.requires.1 in
    let sum = forms.nested-positions (child_form v.a.now v.k v.x) v.j c.if-j-eq0.false in
    (omega (arith, sum, standing.stands-size s), s.wide)

pub nested-h-requires : goal.nested-h-requires
nested-h-requires t c =
    let v = c.args in
    let s = c.requires.1 in
    let sum = forms.nested-positions (child_form v.a.now v.k v.x) v.j c.if-j-eq0.false in
    let next = standing.stands-again s c.again-g.ensures (omega (arith, sum)) in
    (omega arith, (omega (arith, sum, standing.stands-size next), next))

pub then-requires : goal.then-requires
then-requires t c =
    let v = c.args in
    let s = c.requires.1 in
    let sum = forms.nested-positions (child_form v.a.now v.k v.x) v.j c.if-j-eq0.false in
    steps.two-fit (standing.built-again s c.again-g.ensures (omega (arith, sum))) c.nested-h.ensures (omega (arith, sum))

pub returns : goal.returns
returns t c =
    let v = c.args in
    let s = c.requires.1 in
    let copy = child_form v.a.now v.k v.x in
    let sum = forms.nested-positions copy v.j c.if-j-eq0.false in
    let one = standing.built-again s c.again-g.ensures (omega (arith, sum)) in
    steps.built-opt (forms.nested-step copy v.j c.if-j-eq0.false)
    (steps.built-seq one c.nested-h.ensures refl c.then.ensures.0 c.then.ensures.1)
    c.optional.ensures
