-- `carried::least_word` meets its contract: each turn takes in the start of the lowest position that
-- is left, if it has the owner.
use Rattle.std.proofs.Common.{rules, ◌≡◌, ◌∙◌, subst, sym, ap, Bool, cond, min, ◌+◌, ◌*◌, get_or}
use borrow.Author.Tests.{eq-eqb, ne_eqb}
use Rattle.steps.proofs.Carrying.{LeastLeft, least-none, least-turn, least-all}
use Rattle.carried.proofs.least_word.Goals as goal

pub loop-k-init : goal.loop-k-init
loop-k-init c =
    let a = c.args in
    subst (λ d. LeastLeft a.words.now a.owner a.starts.now a.word a.i a.least d.0 a.least) (sym c.into_iter-k-iterator.ensures.into_iter_gives)
    (least-none a.words.now a.owner a.starts.now a.word a.i a.least c.ranges.word.fits)

-- a start of the owner is taken in, and another is not
pub loop-k-preserved-then-words-p : goal.loop-k-preserved-then-words-p
loop-k-preserved-then-words-p c =
    let a = c.args in
    let l = c.loop-k in
    let start = get_or a.starts.now (a.i * 64 + c.in-Some.k) 0 in
    let is : c.min-least.result ≡ min l.least start = search rules in
    least-turn a.words.now a.owner a.starts.now a.word a.i a.least l.least l.invariant c.in-Some.ensures.steps c.requires.1 c.min-least.result
    (is ∙ sym (ap (λ (b : Bool). cond b (min l.least start) l.least) (eq-eqb _ _ c.if-words-p.true)))

pub loop-k-preserved : goal.loop-k-preserved
loop-k-preserved c =
    let a = c.args in
    let l = c.loop-k in
    let start = get_or a.starts.now (a.i * 64 + c.in-Some.k) 0 in
    least-turn a.words.now a.owner a.starts.now a.word a.i a.least l.least l.invariant c.in-Some.ensures.steps c.requires.1 l.least
    (sym (ap (λ (b : Bool). cond b (min l.least start) l.least) (ne_eqb _ _ c.if-words-p.false)))

pub returns : goal.returns
returns c =
    let a = c.args in
    least-all a.words.now a.owner a.starts.now a.word a.i a.least c.loop-k.k-iterator.0 c.loop-k.least c.loop-k.invariant c.in-None.ensures.steps.0
