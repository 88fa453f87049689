-- `tokens::quantifier::marked_form` meets its contract: the mark gives a fault or a byte more, and
-- the lower fault decides.
use Rattle.std.proofs.Common.{◌≡◌, ◌∙◌, ap, sym, arith, cond, ℕ, Some, eq-eqb, ne_eqb}
use mathlib.Core.Path.{ap₂}
use lib.Dec.{eqb}
use Rattle.refusals.specs.Refusal.{code_of}
use Rattle.refusals.proofs.Laws.{number-above}
use Rattle.atoms.specs.Fault.{lower}
use Rattle.atoms.specs.Answer.{fault}
use Rattle.tokens.specs.Answer.{quantifier}
use Rattle.tokens.proofs.Tokens.{err-fault, marked-sound, marked-faulty}
use Rattle.tokens.proofs.quantifier.marked_form.Goals as goal
use Rattle.tokens.proofs.quantifier.marked_form.Goals.{then-mark-eq43, else-mark-eq43, then-mark-eq63, else-mark-eq63}

-- a choice by a test, as the code makes it
chosen : (mark k a b x : ℕ) → mark ≡ k → x ≡ a → x ≡ cond (eqb mark k) a b
chosen mark k a b x e h = rw (eq-eqb _ k e) h

passed : (mark k a b x : ℕ) → (mark ≡ k → ⊥) → x ≡ b → x ≡ cond (eqb mark k) a b
passed mark k a b x e h = rw (ne_eqb _ k e) h

pub returns-in-None : goal.returns-in-None
returns-in-None c =
    let p : fault c.if-mark-eq43.possessive ≡ cond (eqb c.args.mark 43) 14 0 = elim c.if-mark-eq43.branch [ then-mark-eq43 w ↦ chosen c.args.mark 43 14 0 _ w.if-mark-eq43.true (ap fault w.possessive-is) | else-mark-eq43 w ↦ passed c.args.mark 43 14 0 _ w.if-mark-eq43.false (ap fault w.possessive-is) ] in
    let l : c.if-mark-eq63.lazy ≡ cond (eqb c.args.mark 63) 1 0 = elim c.if-mark-eq63.branch [ then-mark-eq63 w ↦ chosen c.args.mark 63 1 0 _ w.if-mark-eq63.true w.lazy-is | else-mark-eq63 w ↦ passed c.args.mark 63 1 0 _ w.if-mark-eq63.false w.lazy-is ] in
    let f : fault c.lower.result ≡ lower (code_of c.args.q.copies) (cond (eqb c.args.mark 43) 14 0) = c.lower.ensures ∙ ap₂ lower (ap fault c.err.ensures.value ∙ err-fault c.args.q.copies) p in
    marked-sound (quantifier (Some c.args.q)) c.args.mark c.if-mark-eq63.lazy l (sym f ∙ ap fault c.in-None.is)

pub returns-in-Some : goal.returns-in-Some
returns-in-Some c =
    let p : fault c.if-mark-eq43.possessive ≡ cond (eqb c.args.mark 43) 14 0 = elim c.if-mark-eq43.branch [ then-mark-eq43 w ↦ chosen c.args.mark 43 14 0 _ w.if-mark-eq43.true (ap fault w.possessive-is) | else-mark-eq43 w ↦ passed c.args.mark 43 14 0 _ w.if-mark-eq43.false (ap fault w.possessive-is) ] in
    let f : fault c.lower.result ≡ lower (code_of c.args.q.copies) (cond (eqb c.args.mark 43) 14 0) = c.lower.ensures ∙ ap₂ lower (ap fault c.err.ensures.value ∙ err-fault c.args.q.copies) p in
    marked-faulty (quantifier (Some c.args.q)) c.args.mark _ (ap fault (sym c.in-Some.is) ∙ f) (λ e. omega (arith, number-above c.in-Some.refusal))
