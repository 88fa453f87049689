-- The three functions that write the form out meet their contracts: each return is one law that
-- puts the rows of the parts together.
use mathlib.Core.Path.{refl, ap, ◌∙◌}
use mathlib.Core.Bool.{false}
use Prim.Native.Nat.{ℕ, ◌-◌}
use native.Mathlib.Omega.{arith}
use Rattle.meaning.specs.Form.{write, positions, repeated}
use Rattle.std.specs.Prelude.{Option}
use Rattle.nodes.specs.Node.{extra_in}
use Rattle.nodes.specs.Invariants.{child_at, child_form, extra}
use Rattle.nodes.proofs.Forms.{child-is, child-none}
use Rattle.nodes.proofs.Nodes.{empty-is, item-is, item-size, assertion-is, then-is, then-size, or-is, or-size, repeat-is}
use Rattle.marks.proofs.Made.{rows-some, rows-most, made_as, made-eps, made-check, made-take, room-part, room-second, room_joined, both-seq, both-alt, copies-none, copies-bare, copies-round, copies-low, copies-opt, copies_then, fewer, sum-0, sum-n}
use Rattle.marks.proofs.write_out.+child_copies_node.Goals as goal

pub child-node-requires : goal.child-node-requires
child-node-requires t c =
    let v = c.args in
    (omega (arith, c.if-x-k.true), room-part c.requires (omega (arith, ap positions (child-is v.a.now v.k v.x c.if-x-k.true))))

pub child-returns-then-x-k : goal.child-returns-then-x-k
child-returns-then-x-k t c =
    let v = c.args in
    made_as v.a.now v.b v.at v.out.now (child-is v.a.now v.k v.x c.if-x-k.true) c.node.ensures

pub child-returns-else-x-k : goal.child-returns-else-x-k
child-returns-else-x-k t c =
    let v = c.args in
    made_as v.a.now v.b v.at v.out.now (child-none v.a.now v.k v.x c.if-x-k.false) (made-eps v.a.now v.b v.at v.out.now refl refl)

pub copies-returns-then-n-j : goal.copies-returns-then-n-j
copies-returns-then-n-j t c =
    let v = c.args in
    copies-none (child_at v.a.now v.k v.x) v.n v.endless v.j c.if-n-j.true refl refl

pub copies-child-f-requires : goal.copies-child-f-requires
copies-child-f-requires t c =
    let v = c.args in
    (omega arith, room-part c.requires.2 (copies-low (child_at v.a.now v.k v.x) v.n v.endless v.j c.if-n-j.false))

pub copies-returns-then-f-eq0 : goal.copies-returns-then-f-eq0
copies-returns-then-f-eq0 t c =
    let v = c.args in
    copies-bare (child_at v.a.now v.k v.x) v.n v.endless v.j c.child-f.ensures c.if-f-eq0.true refl c.open_if-null.ensures

pub copies-rows-requires : goal.copies-rows-requires
copies-rows-requires t c =
    let v = c.args in
    omega (arith, c.child-f.ensures.size, copies-low (child_at v.a.now v.k v.x) v.n v.endless v.j c.if-n-j.false, c.requires.2.positions, c.requires.2.rows)

pub copies-overflow_add-at : goal.copies-overflow_add-at
copies-overflow_add-at t c =
    let v = c.args in
    omega (arith, c.child-f.ensures.size, copies-low (child_at v.a.now v.k v.x) v.n v.endless v.j c.if-n-j.false, c.requires.2.positions, c.requires.2.rows, c.rows.ensures, rows-most c.child-f.result.size)

pub copies-widen-requires : goal.copies-widen-requires
copies-widen-requires t c =
    let v = c.args in
    omega (arith, c.child-f.ensures.size, copies-low (child_at v.a.now v.k v.x) v.n v.endless v.j c.if-n-j.false, c.requires.2.positions, c.requires.2.rows, c.rows.ensures, rows-some c.child-f.result.size c.if-f-eq0.false)

pub copies-returns-then-endless-n : goal.copies-returns-then-endless-n
copies-returns-then-endless-n t c =
    let v = c.args in
    copies-round (child_at v.a.now v.k v.x) v.n v.endless v.j c.child-f.ensures c.requires.2 c.if-endless-n.true c.if-f-eq0.false c.rows.ensures c.widen.ensures refl c.open_if-null.ensures

pub copies-rows-requires-2 : goal.copies-rows-requires-2
copies-rows-requires-2 t c =
    let v = c.args in
    omega (arith, c.child-f.ensures.size, copies-low (child_at v.a.now v.k v.x) v.n v.endless v.j c.if-n-j.false, c.requires.2.positions, c.requires.2.rows)

pub copies-overflow_add-next : goal.copies-overflow_add-next
copies-overflow_add-next t c =
    let v = c.args in
    omega (arith, c.child-f.ensures.size, copies-low (child_at v.a.now v.k v.x) v.n v.endless v.j c.if-n-j.false, c.requires.2.positions, c.requires.2.rows, c.rows-2.ensures, rows-most c.child-f.result.size)

pub copies-copies-g-requires : goal.copies-copies-g-requires
copies-copies-g-requires t c =
    let v = c.args in
    (omega (arith, fewer (child_at v.a.now v.k v.x) v.n v.endless v.j c.if-n-j.false c.if-endless-n.false c.if-n-eq0.true), (omega arith, omega (arith, c.requires.1), room-second c.requires.2 (repeated (write (child_at v.a.now v.k v.x)) 0 (extra false (v.j - 1))) (sum-0 (child_at v.a.now v.k v.x) v.n v.endless v.j c.if-n-j.false c.if-endless-n.false c.if-n-eq0.true) c.child-f.ensures c.rows-2.ensures))

pub copies-then-r-requires : goal.copies-then-r-requires
copies-then-r-requires t c =
    let v = c.args in
    room_joined c.requires.2 (repeated (write (child_at v.a.now v.k v.x)) 0 (extra false (v.j - 1))) (sum-0 (child_at v.a.now v.k v.x) v.n v.endless v.j c.if-n-j.false c.if-endless-n.false c.if-n-eq0.true) c.child-f.ensures c.rows-2.result c.copies-g.ensures

pub copies-returns-then-n-eq0 : goal.copies-returns-then-n-eq0
copies-returns-then-n-eq0 t c =
    let v = c.args in
    copies-opt (child_at v.a.now v.k v.x) v.n v.endless v.j c.if-n-j.false c.if-endless-n.false c.requires.2 c.child-f.ensures c.rows-2.ensures c.if-n-eq0.true c.copies-g.ensures c.then-r.ensures refl refl

pub copies-copies-g-requires-2 : goal.copies-copies-g-requires-2
copies-copies-g-requires-2 t c =
    let v = c.args in
    (omega (arith, c.if-n-eq0.false), (omega (arith, c.requires.0), c.requires.1, room-second c.requires.2 (repeated (write (child_at v.a.now v.k v.x)) (v.n - 1) (extra v.endless v.j)) (sum-n (child_at v.a.now v.k v.x) v.n v.endless v.j c.if-n-j.false c.if-endless-n.false c.if-n-eq0.false) c.child-f.ensures c.rows-2.ensures))

pub copies-then-requires : goal.copies-then-requires
copies-then-requires t c =
    let v = c.args in
    room_joined c.requires.2 (repeated (write (child_at v.a.now v.k v.x)) (v.n - 1) (extra v.endless v.j)) (sum-n (child_at v.a.now v.k v.x) v.n v.endless v.j c.if-n-j.false c.if-endless-n.false c.if-n-eq0.false) c.child-f.ensures c.rows-2.result c.copies-g-2.ensures

pub copies-returns : goal.copies-returns
copies-returns t c =
    let v = c.args in
    copies_then (child_at v.a.now v.k v.x) v.n v.endless v.j c.if-n-j.false c.if-endless-n.false c.requires.2 c.child-f.ensures c.rows-2.ensures c.if-n-eq0.false c.copies-g-2.ensures c.then.ensures

pub node-returns-in-Empty : goal.node-returns-in-Empty
node-returns-in-Empty t c =
    let v = c.args in
    made_as v.a.now v.b v.at v.out.now (empty-is v.a.now v.k c.node_at.ensures.is c.in-Empty.is) (made-eps v.a.now v.b v.at v.out.now refl refl)

pub node-put-requires : goal.node-put-requires
node-put-requires t c =
    let v = c.args in
    omega (arith, item-size v.a.now v.k c.node_at.ensures.is c.in-Item.is, c.requires.positions, c.requires.rows)

pub node-returns-in-Item : goal.node-returns-in-Item
node-returns-in-Item t c =
    let v = c.args in
    made_as v.a.now v.b v.at v.out.now (item-is v.a.now v.k c.node_at.ensures.is c.in-Item.is) (made-take v.a.now v.b v.at v.out.now v.k (omega (arith, item-size v.a.now v.k c.node_at.ensures.is c.in-Item.is, c.requires.positions, c.requires.rows, c.requires.words)) c.put.ensures refl refl)

pub node-returns-in-Assertion : goal.node-returns-in-Assertion
node-returns-in-Assertion t c =
    let v = c.args in
    made_as v.a.now v.b v.at v.out.now (assertion-is v.a.now v.k c.node_at.ensures.is c.in-Assertion.is) (made-check v.a.now v.b v.at v.out.now refl c.assertion.ensures)

pub node-child-f-requires : goal.node-child-f-requires
node-child-f-requires t c =
    let v = c.args in
    (omega arith, room-part c.requires (omega (arith, (then-size v.a.now v.k c.node_at.ensures.is c.in-Then.is))))

pub node-overflow_add-b : goal.node-overflow_add-b
node-overflow_add-b t c =
    let v = c.args in
    omega (arith, c.child-f.ensures.size, (then-size v.a.now v.k c.node_at.ensures.is c.in-Then.is), c.requires.positions, c.requires.rows)

pub node-rows-requires : goal.node-rows-requires
node-rows-requires t c =
    let v = c.args in
    omega (arith, c.child-f.ensures.size, (then-size v.a.now v.k c.node_at.ensures.is c.in-Then.is), c.requires.positions, c.requires.rows)

pub node-overflow_add-at : goal.node-overflow_add-at
node-overflow_add-at t c =
    let v = c.args in
    omega (arith, c.child-f.ensures.size, (then-size v.a.now v.k c.node_at.ensures.is c.in-Then.is), c.requires.positions, c.requires.rows, c.rows.ensures, rows-most c.child-f.result.size)

pub node-child-g-requires : goal.node-child-g-requires
node-child-g-requires t c =
    let v = c.args in
    (omega arith, room-second c.requires (child_form v.a.now v.k c.in-Then.y) (then-size v.a.now v.k c.node_at.ensures.is c.in-Then.is) c.child-f.ensures c.rows.ensures)

pub node-then-requires : goal.node-then-requires
node-then-requires t c =
    let v = c.args in
    room_joined c.requires (child_form v.a.now v.k c.in-Then.y) (then-size v.a.now v.k c.node_at.ensures.is c.in-Then.is) c.child-f.ensures c.rows.result c.child-g.ensures

pub node-returns-in-Then : goal.node-returns-in-Then
node-returns-in-Then t c =
    let v = c.args in
    both-seq c.requires (child_form v.a.now v.k c.in-Then.y) (then-size v.a.now v.k c.node_at.ensures.is c.in-Then.is) c.child-f.ensures c.rows.ensures (then-is v.a.now v.k c.node_at.ensures.is c.in-Then.is) c.child-g.ensures c.then.ensures

pub node-child-f-requires-in-Or : goal.node-child-f-requires-in-Or
node-child-f-requires-in-Or t c =
    let v = c.args in
    (omega arith, room-part c.requires (omega (arith, (or-size v.a.now v.k c.node_at.ensures.is c.in-Or.is))))

pub node-overflow_add-b-in-Or : goal.node-overflow_add-b-in-Or
node-overflow_add-b-in-Or t c =
    let v = c.args in
    omega (arith, c.child-f-in-Or.ensures.size, (or-size v.a.now v.k c.node_at.ensures.is c.in-Or.is), c.requires.positions, c.requires.rows)

pub node-rows-requires-in-Or : goal.node-rows-requires-in-Or
node-rows-requires-in-Or t c =
    let v = c.args in
    omega (arith, c.child-f-in-Or.ensures.size, (or-size v.a.now v.k c.node_at.ensures.is c.in-Or.is), c.requires.positions, c.requires.rows)

pub node-overflow_add-at-in-Or : goal.node-overflow_add-at-in-Or
node-overflow_add-at-in-Or t c =
    let v = c.args in
    omega (arith, c.child-f-in-Or.ensures.size, (or-size v.a.now v.k c.node_at.ensures.is c.in-Or.is), c.requires.positions, c.requires.rows, c.rows-in-Or.ensures, rows-most c.child-f-in-Or.result.size)

pub node-child-g-requires-in-Or : goal.node-child-g-requires-in-Or
node-child-g-requires-in-Or t c =
    let v = c.args in
    (omega arith, room-second c.requires (child_form v.a.now v.k c.in-Or.y) (or-size v.a.now v.k c.node_at.ensures.is c.in-Or.is) c.child-f-in-Or.ensures c.rows-in-Or.ensures)

pub node-or-requires : goal.node-or-requires
node-or-requires t c =
    let v = c.args in
    room_joined c.requires (child_form v.a.now v.k c.in-Or.y) (or-size v.a.now v.k c.node_at.ensures.is c.in-Or.is) c.child-f-in-Or.ensures c.rows-in-Or.result c.child-g-in-Or.ensures

pub node-returns-in-Or : goal.node-returns-in-Or
node-returns-in-Or t c =
    let v = c.args in
    both-alt c.requires (child_form v.a.now v.k c.in-Or.y) (or-size v.a.now v.k c.node_at.ensures.is c.in-Or.is) c.child-f-in-Or.ensures c.rows-in-Or.ensures (or-is v.a.now v.k c.node_at.ensures.is c.in-Or.is) c.child-g-in-Or.ensures c.or.ensures

pub node-copies-requires : goal.node-copies-requires
node-copies-requires t c =
    let v = c.args in
    let small = c.in-Repeat.ensures.small in
    let same = repeat-is v.a.now v.k c.node_at.ensures.is c.in-Repeat.is ∙ ap (λ (m : Option ℕ). repeated (child_form v.a.now v.k c.in-Repeat.child) c.in-Repeat.least (extra_in m)) c.in-None.is in
    (omega arith, (omega arith, omega arith, room-part c.requires (omega (arith, ap positions same))))

pub node-returns-in-None : goal.node-returns-in-None
node-returns-in-None t c =
    let v = c.args in
    let same = repeat-is v.a.now v.k c.node_at.ensures.is c.in-Repeat.is ∙ ap (λ (m : Option ℕ). repeated (child_form v.a.now v.k c.in-Repeat.child) c.in-Repeat.least (extra_in m)) c.in-None.is in
    made_as v.a.now v.b v.at v.out.now same c.copies.ensures

pub node-copies-requires-in-Some : goal.node-copies-requires-in-Some
node-copies-requires-in-Some t c =
    let v = c.args in
    let small = c.in-Repeat.ensures.small in
    let low = rw c.in-Some.is at small.2 in
    let same = repeat-is v.a.now v.k c.node_at.ensures.is c.in-Repeat.is ∙ ap (λ (m : Option ℕ). repeated (child_form v.a.now v.k c.in-Repeat.child) c.in-Repeat.least (extra_in m)) c.in-Some.is in
    (omega arith, (omega arith, omega arith, room-part c.requires (omega (arith, ap positions same))))

pub node-returns-in-Some : goal.node-returns-in-Some
node-returns-in-Some t c =
    let v = c.args in
    let same = repeat-is v.a.now v.k c.node_at.ensures.is c.in-Repeat.is ∙ ap (λ (m : Option ℕ). repeated (child_form v.a.now v.k c.in-Repeat.child) c.in-Repeat.least (extra_in m)) c.in-Some.is in
    made_as v.a.now v.b v.at v.out.now same c.copies-in-Some.ensures
