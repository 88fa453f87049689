-- `write_rule` meets its contract: the root's form is the rule's, unless it has too many positions.
use mathlib.Core.Path.{◌≡◌, ◌∙◌}
use mathlib.Core.List.{List}
use Prim.Native.Nat.{ℕ, ◌≤◌, ◌<◌}
use native.Mathlib.Omega.{arith}
use lib.ListN.{replicate, length-replicate}
use Rattle.meaning.specs.Form.{positions}
use Rattle.meaning.specs.Count.{limit, saturating}
use Rattle.meaning.proofs.Counted.{within-limit, above-limit}
use Rattle.nodes.specs.Nodes.{tree_at}
use Rattle.nodes.specs.Invariants.{form_at}
use Rattle.marks.specs.Invariants.{Room}
use Rattle.marks.proofs.Made.{plays-of}
use Rattle.marks.proofs.write_out.write_rule.Goals as goal

-- by the count of its positions a rule is too large, or there is room for it
too_many : (a : List ℕ) (root n : ℕ) → n ≡ saturating (tree_at a root) → 256 < n → positions (form_at a root) ≤ 256 → ⊥
too_many a root n e h few =
    let more : limit < saturating (tree_at a root) = omega arith in
    omega (arith, (above-limit (tree_at a root)).0 more)

room : (a : List ℕ) (root n : ℕ) → n ≡ saturating (tree_at a root) → n ≤ 256 → Room (form_at a root) 0 0 (replicate 4096 0)
room a root n e h =
    let few : saturating (tree_at a root) ≤ limit = omega arith in
    record { positions = omega (arith, within-limit (tree_at a root) few); rows = omega arith; words = length-replicate {A = ℕ} 4096 0 }

pub returns-then-count-gt256 : goal.returns-then-count-gt256
returns-then-count-gt256 c =
    let a = c.args in
    record { words = length-replicate {A = ℕ} 4096 0; plays = λ few. absurd (too_many a.a.now a.root c.count.result c.count.ensures c.if-count-gt256.true few) }

pub node-piece-requires : goal.node-piece-requires
node-piece-requires c = room c.args.a.now c.args.root c.count.result c.count.ensures c.if-count-gt256.false

pub rows-requires : goal.rows-requires
rows-requires c = omega (arith, c.node-piece.ensures.size, (room c.args.a.now c.args.root c.count.result c.count.ensures c.if-count-gt256.false).positions)

pub returns : goal.returns
returns c =
    let made = c.node-piece.ensures in
    let space = room c.args.a.now c.args.root c.count.result c.count.ensures c.if-count-gt256.false in
    record { words = made.length ∙ space.words; plays = λ few. plays-of space made c.rows.ensures }
