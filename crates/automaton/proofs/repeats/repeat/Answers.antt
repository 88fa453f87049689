-- `repeats::repeat` meets its contract: the first copy is built, and the others behind it. Each
-- return is one law that puts the parts' promises together.
use mathlib.Core.Path.{◌≡◌, refl, sym, ap, ◌∙◌}
use mathlib.Core.Bool.{true, false, ◌&&◌}
use Prim.Native.Nat.{ℕ, ◌<◌}
use native.Mathlib.Omega.{arith}
use borrow.Author.Tests.{eq-eqb, ne_eqb}
use lib.Dec.{eqb}
use Rattle.std.specs.Prelude.{Option}
use Rattle.meaning.specs.Form.{repeated}
use Rattle.nodes.specs.Node.{extra_in, number_in}
use Rattle.nodes.specs.Invariants.{Written, child_at, child_form}
use Rattle.automaton.specs.Invariants.{Extends}
use Rattle.nodes.proofs.Forms as forms
use Rattle.automaton.proofs.Steps as steps
use Rattle.automaton.proofs.Standing.{stands-size}
use Rattle.automaton.proofs.repeats.repeat.Goals as goal

-- what `more` turned out to be
turned-out : (f : Written) (n : ℕ) {m o : Option ℕ} → m ≡ o → repeated f n (extra_in m) ≡ repeated f n (extra_in o)
turned-out f n e = ap (λ (m : Option ℕ). repeated f n (extra_in m)) e

-- more than one copy
some : (n : ℕ) → 1 < n → n ≡ 0 → ⊥
some n h e = omega arith

several : (n : ℕ) → 1 < n → n ≡ 1 → ⊥
several n h e = omega arith

-- not `{0}`
first-copy : (n : ℕ) {m o : Option ℕ} → m ≡ o → (eqb n 0 && eqb (number_in m) 0) ≡ false → n ≡ 0 → number_in o ≡ 0 → ⊥
first-copy n {o = o} e h = steps.some-copy n (number_in o) (sym (ap (λ (m : Option ℕ). eqb n 0 && eqb (number_in m) 0) e) ∙ h)

pub returns-then-n-eq0 : goal.returns-then-n-eq0
unfolding Extends
returns-then-n-eq0 c =
    let v = c.args in
    let copy = child_form v.a.now v.k v.x in
    let any = turned-out copy v.n c.in-None.is ∙ forms.repeat-any copy v.n true 0 c.if-n-eq0.true refl in
    λ o u h. steps.built-opt any (steps.built-plus h c.many.ensures) c.optional.ensures

pub returns-then-n-le1 : goal.returns-then-n-le1
unfolding Extends
returns-then-n-le1 c =
    let v = c.args in
    let copy = child_form v.a.now v.k v.x in
    let one = turned-out copy v.n c.in-None.is ∙ forms.repeat_many copy v.n true 0 (eq-eqb v.n 1 (omega arith)) in
    λ o u h. steps.built-as one (steps.built-plus h c.many.ensures)

pub returns-then-f-eq0 : goal.returns-then-f-eq0
unfolding Extends
returns-then-f-eq0 c =
    let v = c.args in
    λ o u h. steps.settled-repeat (child_at v.a.now v.k v.x) h c.if-f-eq0.true v.n (extra_in v.more) (some v.n c.if-n-le1.false)

pub endless-g-requires : goal.endless-g-requires
endless-g-requires c =
    let v = c.args in
    let p = c.requires in
    let copy = child_form v.a.now v.k v.x in
    let room = steps.room_as v.b (turned-out copy v.n c.in-None.is) p.1 in
    let sum = forms.repeat-positions copy v.n true 0 (some v.n c.if-n-le1.false) (ne_eqb v.n 1 (several v.n c.if-n-le1.false)) in
    (omega arith, omega (arith, room, sum, stands-size p.2), p.2)

pub then-requires : goal.then-requires
then-requires c =
    let v = c.args in
    let p = c.requires in
    let copy = child_form v.a.now v.k v.x in
    let room = steps.room_as v.b (turned-out copy v.n c.in-None.is) p.1 in
    let sum = forms.repeat-positions copy v.n true 0 (some v.n c.if-n-le1.false) (ne_eqb v.n 1 (several v.n c.if-n-le1.false)) in
    omega (arith, room, sum, stands-size p.2, steps.size_of c.endless-g.ensures)

pub returns-else-f-eq0 : goal.returns-else-f-eq0
unfolding Extends
returns-else-f-eq0 c =
    let v = c.args in
    let copy = child_form v.a.now v.k v.x in
    let first = forms.repeat-step copy v.n true 0 (some v.n c.if-n-le1.false) (ne_eqb v.n 1 (several v.n c.if-n-le1.false)) in
    λ o u h. steps.built-seq h c.endless-g.ensures (turned-out copy v.n c.in-None.is ∙ first) c.then.ensures.0 c.then.ensures.1

pub returns-then-f-eq0-2 : goal.returns-then-f-eq0-2
unfolding Extends
returns-then-f-eq0-2 c =
    let v = c.args in
    let j = c.in-Some.j in
    let copy = child_form v.a.now v.k v.x in
    let all = turned-out copy v.n c.in-Some.is ∙ forms.repeat-nested copy v.n false j c.if-n-eq0-2.true refl in
    λ o u h. steps.built-as all (steps.settled-nested (child_at v.a.now v.k v.x) h c.if-f-eq0-2.true j c.optional-alone.ensures)

pub nested-g-requires : goal.nested-g-requires
nested-g-requires c =
    let v = c.args in
    let p = c.requires in
    let j = c.in-Some.j in
    let copy = child_form v.a.now v.k v.x in
    let all = turned-out copy v.n c.in-Some.is ∙ forms.repeat-nested copy v.n false j c.if-n-eq0-2.true refl in
    let sum = forms.nested-positions copy j (first-copy v.n c.in-Some.is p.0 c.if-n-eq0-2.true) in
    (omega (arith, steps.room_as v.b all p.1, sum, stands-size p.2), p.2)

pub then-requires-then-n-eq0-2 : goal.then-requires-then-n-eq0-2
then-requires-then-n-eq0-2 c =
    let v = c.args in
    let p = c.requires in
    let j = c.in-Some.j in
    let copy = child_form v.a.now v.k v.x in
    let all = turned-out copy v.n c.in-Some.is ∙ forms.repeat-nested copy v.n false j c.if-n-eq0-2.true refl in
    let sum = forms.nested-positions copy j (first-copy v.n c.in-Some.is p.0 c.if-n-eq0-2.true) in
    omega (arith, steps.room_as v.b all p.1, sum, stands-size p.2, steps.size_of c.nested-g.ensures)

pub returns-then-n-eq0-2 : goal.returns-then-n-eq0-2
unfolding Extends
returns-then-n-eq0-2 c =
    let v = c.args in
    let j = c.in-Some.j in
    let copy = child_form v.a.now v.k v.x in
    let all = turned-out copy v.n c.in-Some.is ∙ forms.repeat-nested copy v.n false j c.if-n-eq0-2.true refl in
    let first = forms.nested-step copy j (first-copy v.n c.in-Some.is c.requires.0 c.if-n-eq0-2.true) in
    λ o u h. steps.built-opt (all ∙ first)
    (steps.built-seq h c.nested-g.ensures refl c.then-then-n-eq0-2.ensures.0 c.then-then-n-eq0-2.ensures.1)
    c.optional-then-n-eq0-2.ensures

pub returns-then-f-eq0-3 : goal.returns-then-f-eq0-3
unfolding Extends
returns-then-f-eq0-3 c =
    let v = c.args in
    λ o u h. steps.settled-repeat (child_at v.a.now v.k v.x) h c.if-f-eq0-3.true v.n (extra_in v.more) c.if-n-eq0-2.false

pub bounded-g-requires : goal.bounded-g-requires
bounded-g-requires c =
    let v = c.args in
    let p = c.requires in
    let copy = child_form v.a.now v.k v.x in
    let room = steps.room_as v.b (turned-out copy v.n c.in-Some.is) p.1 in
    let sum = forms.repeat-positions copy v.n false c.in-Some.j c.if-n-eq0-2.false refl in
    (omega (arith, room, sum, stands-size p.2), p.2)

pub then-requires-in-Some : goal.then-requires-in-Some
then-requires-in-Some c =
    let v = c.args in
    let p = c.requires in
    let copy = child_form v.a.now v.k v.x in
    let room = steps.room_as v.b (turned-out copy v.n c.in-Some.is) p.1 in
    let sum = forms.repeat-positions copy v.n false c.in-Some.j c.if-n-eq0-2.false refl in
    omega (arith, room, sum, stands-size p.2, steps.size_of c.bounded-g.ensures)

pub returns-else-f-eq0-3 : goal.returns-else-f-eq0-3
unfolding Extends
returns-else-f-eq0-3 c =
    let v = c.args in
    let copy = child_form v.a.now v.k v.x in
    let first = forms.repeat-step copy v.n false c.in-Some.j c.if-n-eq0-2.false refl in
    λ o u h. steps.built-seq h c.bounded-g.ensures (turned-out copy v.n c.in-Some.is ∙ first) c.then-in-Some.ensures.0 c.then-in-Some.ensures.1
