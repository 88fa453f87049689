-- `rules::write::put_openers` meets its contract: the loop writes a word for each byte, and leaves
-- the sets that it reads.
use mathlib.Core.Path.{◌≡◌, sym, ap, ◌∙◌}
use mathlib.Core.List.{List}
use Prim.Native.Nat.{ℕ, ◌+◌, ◌-◌, ◌<◌}
use native.Mathlib.Omega.{arith}
use Rattle.table.specs.Layout.{bytes, first_at, opener_at, takers_at, row_has}
use Rattle.table.specs.Gaps.{inner_gaps}
use Rattle.table.proofs.Rows.{row_same}
use Rattle.table.proofs.Over.{written_none, written-up, written-above, written_below, written_all}
use Rattle.rules.specs.Invariants.{inner_rows, opener_of, openers_put}
use Rattle.rules.proofs.Steps.{opener-same, inner-same}
use Rattle.rules.proofs.write.put_openers.Invariants.{Opened}
use Rattle.rules.proofs.write.put_openers.Goals as goal

module _ (t s : List ℕ) (x : ℕ) (o : Opened t x s) where
  firsts : (g q : ℕ) → g < inner_gaps → row_has s (first_at g) q ≡ row_has t (first_at g) q
  firsts g q h = row_same s t (first_at g) (first_at g) (λ i l. written_below o (first_at g + i) (omega arith)) q

  openings-kept : inner_rows s (first_at 0) ≡ inner_rows t (first_at 0)
  openings-kept = inner-same s t (first_at 0) firsts

  opener-kept : x < bytes → opener_of s x ≡ opener_of t x
  opener-kept h = opener-same s t x (λ q. row_same s t (takers_at x) (takers_at x) (λ i l. written-above o (takers_at x + i) (omega arith)) q) firsts

pub loop-x-init : goal.loop-x-init
loop-x-init c = written_none (omega arith)

pub opener-requires : goal.opener-requires
opener-requires c =
    let l = c.loop-x in
    let t = c.args.words.now in
    (c.inner_rows-first.ensures ∙ sym (openings-kept t l.words l.x l.invariant), omega arith)

pub bounds-words-x : goal.bounds-words-x
bounds-words-x c = omega (arith, c.loop-x.invariant.long)

pub loop-x-preserved : goal.loop-x-preserved
loop-x-preserved c =
    let l = c.loop-x in
    let t = c.args.words.now in
    let e : l.x ≡ opener_at l.x - opener_at 0 = omega arith in
    written-up l.invariant (omega arith) (omega arith) (omega arith)
    (c.opener.ensures ∙ opener-kept t l.words l.x l.invariant (omega arith) ∙ ap (opener_of t) e)

pub returns : goal.returns
unfolding openers_put
returns c =
    let l = c.loop-x in
    let e : opener_at l.x ≡ opener_at bytes = omega arith in
    written_all l.invariant e
