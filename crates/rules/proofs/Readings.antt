-- What a pattern that reads as a tree is, each reason to refuse it taken away. The reader's
-- definition goes by cases, so each law does.
use mathlib.Core.Path.{◌≡◌, refl, sym, ap, ◌∙◌, subst}
use mathlib.Core.Bool.{Bool, true, false, cond}
use mathlib.Core.Logic.{◌↔◌}
use mathlib.Core.List.{List}
use Prim.Native.Nat.{ℕ, ◌≤◌}
use native.Mathlib.Omega.{arith}
use lib.Dec.{ltb}
use lib.ListN.{length}
use borrow.Author.Tests.{ltb-false, le-ltb}
use Rattle.tokens.specs.declared.Options.{Options}
use Rattle.meaning.specs.Count.{limit, saturating, nullable}
use Rattle.nodes.specs.Nodes.{Syntax}
use Rattle.pattern.specs.Walk.{Read, tree, refused, walk, begin}
use Rattle.pattern.specs.Read.{too_long, judged, read_of, limited_read, answer_of}
use Rattle.pattern.proofs.Answers.{accepted-tree}

-- a refusal is no tree
not-tree : {A : Type 0} (number place : ℕ) (x : Syntax) → refused number place ≡ tree x → A
not-tree number place x h = let z : ◌≡◌ {A = ℕ} 0 1 = ap (λ (r : Read). elim r [ tree y ↦ 1 | refused i j ↦ 0 ]) h in absurd (omega arith)

judged-tree : (n : ℕ) (r : Read) (x : Syntax) → judged n r ≡ tree x → (r ≡ tree x) × (nullable x ≡ false) × (saturating x ≤ limit)
unfolding judged
judged-tree n (refused number place) x h = not-tree number place x h
judged-tree n (tree t) x h = test (nullable t) (ltb limit (saturating t)) refl refl h
  where
    test : (b c : Bool) → nullable t ≡ b → ltb limit (saturating t) ≡ c → cond b (refused 15 n) (cond c (refused 16 n) (tree t)) ≡ tree x
        → (tree t ≡ tree x) × (nullable x ≡ false) × (saturating x ≤ limit)
    test true c p q e = not-tree 15 n x e
    test false true p q e = not-tree 16 n x e
    test false false p q e =
        let same : t ≡ x = cc in
        (e, subst (λ (y : Syntax). nullable y ≡ false) same p, subst (λ (y : Syntax). saturating y ≤ limit) same (ltb-false limit (saturating t) q))

tree-judged : (n : ℕ) (x : Syntax) → nullable x ≡ false → saturating x ≤ limit → judged n (tree x) ≡ tree x
unfolding judged
tree-judged n x a b = rw (a, le-ltb limit (saturating x) b)

-- what a pattern that reads as the tree x is
pub record Reads (s : List ℕ) (o : Options) (x : Syntax) : Type 0 where
  pub walks : walk s 0 0 (begin o) ≡ tree x
  pub full : nullable x ≡ false
  pub fits : saturating x ≤ limit

pub reads : (s : List ℕ) (o : Options) (x : Syntax) → (read_of s o ≡ tree x) ↔ Reads s o x
unfolding read_of
reads s o x = (
  λ h. let j = judged-tree (length s) (walk s 0 0 (begin o)) x h in record { walks = j.0; full = j.1; fits = j.2 },
  λ r. rw r.walks (tree-judged (length s) x r.full r.fits),
)

-- a refusal has a number
pub refusal-numbered : (s : List ℕ) (o : Options) (number place : ℕ) → too_long s ≡ false → read_of s o ≡ refused number place → number ≡ 0 → ⊥
unfolding answer_of limited_read
refusal-numbered s o number place short e z =
    let q : limited_read s o ≡ refused number place = rw short e in
    let t = accepted-tree s o (answer_of (limited_read s o)) refl (ap (λ (r : Read). (answer_of r).number) q ∙ z) in
    not-tree number place t.0 (sym q ∙ t.1)
