-- The two functions that walk the nodes meet their contracts: each return is one law that puts the
-- parts' promises together.
use mathlib.Core.Path.{◌≡◌, refl, sym, ap, ◌∙◌}
use mathlib.Core.Bool.{Bool, true, false, true≢false, ◌&&◌, and-false}
use Prim.Native.Nat.{ℕ, ◌≤◌}
use native.Mathlib.Omega.{arith}
use native.Mathlib.Decide.{ℕ_discrete}
use borrow.Author.Tests.{eqb-true, ne_eqb}
use lib.Dec.{eqb}
use Rattle.std.specs.Prelude.{Option, Some, None}
use Rattle.std.specs.Option.{option_eq}
use Rattle.nodes.specs.Node.{extra_in, number_in}
use Rattle.nodes.specs.Invariants.{Written, child_form}
use Rattle.meaning.specs.Form.{eps, positions, repeated}
use Rattle.automaton.specs.Invariants.{Extends}
use Rattle.nodes.proofs.Forms as forms
use Rattle.nodes.proofs.Nodes.{empty-is, item-is, item-size, assertion-is, then-is, then-size, or-is, or-size, repeat-is}
use Rattle.automaton.proofs.Steps as steps
use Rattle.automaton.proofs.Standing as standing
use Rattle.automaton.proofs.forms.+child_node.Goals as goal
use Rattle.automaton.proofs.forms.+child_node.Goals.{node-else-least-eq0-via-then-least-eq0+else-eq, node-else-least-eq0-via-else-least-eq0}

-- the test for no copies more
is-zero : (m : Option ℕ) → option_eq eqb m (Some 0) ≡ true → m ≡ Some 0
is-zero None h = absurd (true≢false (sym h))
is-zero (Some j) h = ap Some (eqb-true j 0 h)

not-zero : (m : Option ℕ) → option_eq eqb m (Some 0) ≡ false → m ≡ Some 0 → ⊥
not-zero m h e = true≢false (sym (ap (λ (o : Option ℕ). option_eq eqb o (Some 0)) e) ∙ h)

-- a repeat that is not `{0}` has room for its first copy
more-than-none : (n : ℕ) (m : Option ℕ) → (n ≡ 0 → m ≡ Some 0 → ⊥) → (eqb n 0 && eqb (number_in m) 0) ≡ false
more-than-none n None h = and-false (eqb n 0)
more-than-none n (Some j) h = go (ℕ_discrete n 0)
  where
    go : Dec (n ≡ 0) → (eqb n 0 && eqb j 0) ≡ false
    go (yes z) = ap (λ (b : Bool). eqb n 0 && b) (ne_eqb j 0 (λ e. h z (ap Some e))) ∙ and-false (eqb n 0)
    go (no z) = ap (λ (b : Bool). b && eqb j 0) (ne_eqb n 0 z)

first-fits : (f : Written) (n : ℕ) (m : Option ℕ) → (eqb n 0 && eqb (number_in m) 0) ≡ false → positions f ≤ positions (repeated f n (extra_in m))
first-fits f n None h = steps.first_fits f n true (number_in None) h
first-fits f n (Some j) h = steps.first_fits f n false j h

-- and `{0}` is nothing
no-copies : (f : Written) (n : ℕ) {m : Option ℕ} → n ≡ 0 → m ≡ Some 0 → repeated f n (extra_in m) ≡ eps
no-copies f n z e =
    ap (λ (m : Option ℕ). repeated f n (extra_in m)) e ∙ forms.repeat-nested f n false 0 z refl ∙ forms.nested-none f 0 refl

pub child-node-requires : goal.child-node-requires
child-node-requires t c =
    let v = c.args in
    (omega arith, (steps.room_as v.b (forms.child-is v.a.now v.k v.x c.if-x-k.true) c.requires.0, c.requires.1))

pub child-returns-then-x-k : goal.child-returns-then-x-k
child-returns-then-x-k t c =
    let v = c.args in
    steps.built-as (forms.child-is v.a.now v.k v.x c.if-x-k.true) c.node.ensures

pub child-returns : goal.child-returns
child-returns t c =
    let v = c.args in
    steps.built-eps (forms.child-none v.a.now v.k v.x c.if-x-k.false) c.bare.ensures

pub node-put-requires : goal.node-put-requires
node-put-requires t c =
    omega (arith, item-size c.args.a.now c.args.k c.node_at.ensures.is c.in-Item.is)

pub node-one-requires : goal.node-one-requires
node-one-requires t c =
    omega (arith, item-size c.args.a.now c.args.k c.node_at.ensures.is c.in-Item.is)

pub node-returns-in-Empty : goal.node-returns-in-Empty
node-returns-in-Empty t c =
    steps.built-eps (empty-is c.args.a.now c.args.k c.node_at.ensures.is c.in-Empty.is) c.bare.ensures

pub node-returns-in-Item : goal.node-returns-in-Item
node-returns-in-Item t c =
    steps.built-take (item-is c.args.a.now c.args.k c.node_at.ensures.is c.in-Item.is) c.set_of.ensures c.put.ensures c.one.ensures

pub node-returns-in-Assertion : goal.node-returns-in-Assertion
node-returns-in-Assertion t c =
    steps.built-check (assertion-is c.args.a.now c.args.k c.node_at.ensures.is c.in-Assertion.is) c.holds.ensures c.bare-in-Assertion.ensures

pub node-child-f-requires : goal.node-child-f-requires
node-child-f-requires t c =
    let v = c.args in
    (omega arith, (omega (arith, then-size v.a.now v.k c.node_at.ensures.is c.in-Then.is), c.requires.1))

pub node-overflow_add-b : goal.node-overflow_add-b
node-overflow_add-b t c =
    let v = c.args in
    omega (arith, then-size v.a.now v.k c.node_at.ensures.is c.in-Then.is, steps.size_of c.child-f.ensures)

pub node-child-g-requires : goal.node-child-g-requires
node-child-g-requires t c =
    let v = c.args in
    let sum = then-size v.a.now v.k c.node_at.ensures.is c.in-Then.is in
    (omega arith, (omega (arith, sum, steps.size_of c.child-f.ensures), standing.fresh-behind c.child-f.ensures c.requires.1))

pub node-then-requires : goal.node-then-requires
node-then-requires t c =
    let v = c.args in
    steps.two-fit c.child-f.ensures c.child-g.ensures (omega (arith, then-size v.a.now v.k c.node_at.ensures.is c.in-Then.is))

pub node-returns-in-Then : goal.node-returns-in-Then
node-returns-in-Then t c =
    let v = c.args in
    steps.built-seq c.child-f.ensures c.child-g.ensures
    (then-is v.a.now v.k c.node_at.ensures.is c.in-Then.is)
    c.then.ensures.0 c.then.ensures.1

pub node-child-f-requires-in-Or : goal.node-child-f-requires-in-Or
node-child-f-requires-in-Or t c =
    let v = c.args in
    (omega arith, (omega (arith, or-size v.a.now v.k c.node_at.ensures.is c.in-Or.is), c.requires.1))

pub node-overflow_add-b-in-Or : goal.node-overflow_add-b-in-Or
node-overflow_add-b-in-Or t c =
    let v = c.args in
    omega (arith, or-size v.a.now v.k c.node_at.ensures.is c.in-Or.is, steps.size_of c.child-f-in-Or.ensures)

pub node-child-g-requires-in-Or : goal.node-child-g-requires-in-Or
node-child-g-requires-in-Or t c =
    let v = c.args in
    let sum = or-size v.a.now v.k c.node_at.ensures.is c.in-Or.is in
    (omega arith, (omega (arith, sum, steps.size_of c.child-f-in-Or.ensures), standing.fresh-behind c.child-f-in-Or.ensures c.requires.1))

pub node-choice-requires : goal.node-choice-requires
node-choice-requires t c =
    let v = c.args in
    steps.two-fit c.child-f-in-Or.ensures c.child-g-in-Or.ensures (omega (arith, or-size v.a.now v.k c.node_at.ensures.is c.in-Or.is))

pub node-returns-in-Or : goal.node-returns-in-Or
node-returns-in-Or t c =
    let v = c.args in
    steps.built-alt c.child-f-in-Or.ensures c.child-g-in-Or.ensures
    (or-is v.a.now v.k c.node_at.ensures.is c.in-Or.is) c.choice.ensures

pub node-returns-then-eq : goal.node-returns-then-eq
node-returns-then-eq t c =
    let v = c.args in
    let none = no-copies (child_form v.a.now v.k c.in-Repeat.x) c.in-Repeat.least c.if-least-eq0.true (is-zero c.in-Repeat.more (sym c.eq.ensures ∙ c.if-eq.true)) in
    steps.built-eps (repeat-is v.a.now v.k c.node_at.ensures.is c.in-Repeat.is ∙ none) c.bare-then-eq.ensures

pub node-child-f-requires-in-Repeat : goal.node-child-f-requires-in-Repeat
node-child-f-requires-in-Repeat t c =
    let v = c.args in
    let some = more-than-none c.in-Repeat.least c.in-Repeat.more
    (elim c.else-least-eq0.branch [
      | node-else-least-eq0-via-then-least-eq0+else-eq w ↦ λ z e. not-zero c.in-Repeat.more (sym w.eq.ensures ∙ w.if-eq.false) e
      | node-else-least-eq0-via-else-least-eq0 w ↦ λ z e. absurd (w.if-least-eq0.false z)
    ]) in
    let all = steps.room_as v.b (repeat-is v.a.now v.k c.node_at.ensures.is c.in-Repeat.is) c.requires.0 in
    let one = first-fits (child_form v.a.now v.k c.in-Repeat.x) c.in-Repeat.least c.in-Repeat.more some in
    (omega arith, (omega (arith, all, one), c.requires.1))

pub node-repeat-requires : goal.node-repeat-requires
node-repeat-requires t c =
    let v = c.args in
    let some = more-than-none c.in-Repeat.least c.in-Repeat.more
    (elim c.else-least-eq0.branch [
      | node-else-least-eq0-via-then-least-eq0+else-eq w ↦ λ z e. not-zero c.in-Repeat.more (sym w.eq.ensures ∙ w.if-eq.false) e
      | node-else-least-eq0-via-else-least-eq0 w ↦ λ z e. absurd (w.if-least-eq0.false z)
    ]) in
    let all = steps.room_as v.b (repeat-is v.a.now v.k c.node_at.ensures.is c.in-Repeat.is) c.requires.0 in
    let one = first-fits (child_form v.a.now v.k c.in-Repeat.x) c.in-Repeat.least c.in-Repeat.more some in
    (some, all, standing.stands c.child-f-in-Repeat.ensures c.requires.1 (omega (arith, all, one)))

pub node-returns-else-least-eq0 : goal.node-returns-else-least-eq0
unfolding Extends
node-returns-else-least-eq0 t c =
    let v = c.args in
    steps.built-as (repeat-is v.a.now v.k c.node_at.ensures.is c.in-Repeat.is) (c.repeat.ensures _ _ c.child-f-in-Repeat.ensures)
