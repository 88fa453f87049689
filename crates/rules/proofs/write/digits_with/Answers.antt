-- `rules::write::digits_with` meets its contract: each turn asks one place and sets its digit.
use mathlib.Core.Path.{◌≡◌, sym, ap, ap₂, ◌∙◌}
use mathlib.Core.Bool.{Bool, ◌&&◌}
use Prim.Native.Nat.{ℕ}
use native.Mathlib.Omega.{arith}
use lib.Bits.{bit_or}
use lib.Dec.{ltb}
use borrow.Author.Tests.{lt-ltb}
use Rattle.sets.proofs.Bits.{shl_one, word_of-ext}
use Rattle.table.proofs.Members.{places_below, places-none, places-hit, places-miss}
use Rattle.rules.specs.Words.{digits_with}
use Rattle.rules.proofs.write.digits_with.Invariants.{digit}
use Rattle.rules.proofs.write.digits_with.Goals as goal
use Rattle.rules.proofs.write.digits_with.Goals.{then-digit_at, else-digit_at}

whole : (k : ℕ) (new : Bool) (old a : ℕ) → a ≡ 64 → places_below a (digit k new old) ≡ digits_with k new old
unfolding digits_with
whole k new old a e =
    word_of-ext 64 (λ i. ltb i a && digit k new old i) (digit k new old) (λ i h. ap (λ (b : Bool). b && digit k new old i) (lt-ltb i a (omega arith)))

pub loop-a-init : goal.loop-a-init
loop-a-init c = places-none (digit c.args.k c.args.new c.args.old)

pub loop-a-preserved : goal.loop-a-preserved
loop-a-preserved c =
    let a = c.args in
    let l = c.loop-a in
    let f = digit a.k a.new a.old in
    let asked = c.digit_at in
    elim c.if-digit_at.branch [
      | then-digit_at w ↦ w.found-is ∙ ap₂ bit_or l.invariant (shl_one l.a (omega arith)) ∙ places-hit f l.a (omega arith) (sym asked.ensures ∙ w.if-digit_at.true)
      | else-digit_at w ↦ w.found-is ∙ l.invariant ∙ places-miss f l.a (sym asked.ensures ∙ w.if-digit_at.false)
    ]

pub returns : goal.returns
returns c =
    let a = c.args in
    let l = c.loop-a in
    l.invariant ∙ whole a.k a.new a.old l.a (omega arith)
