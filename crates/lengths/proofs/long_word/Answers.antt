-- `lengths::long_word` meets its contract: each turn looks at the lowest position that is left
-- (`SiftLeft`).
use Rattle.std.proofs.Common.{◌≡◌, ◌∙◌, ap, sym, true, false, ◌+◌, ◌*◌}
use Rattle.steps.proofs.Sifting.{sift-none, sift-turn, sift-done, is-asked, stays-there, is-dropped}
use Rattle.lengths.specs.Invariants.{long_at, long_word}
use Rattle.lengths.proofs.Long.{stays-if, asked-if}
use Rattle.lengths.proofs.long_word.Invariants.{passes}
use Rattle.lengths.proofs.long_word.Goals as goal
use Rattle.lengths.proofs.long_word.Goals.{After-is_long-long}

pub loop-k-init : goal.loop-k-init
loop-k-init c =
    let a = c.args in
    sift-none a.keeping (passes a.words.now a.starts.now a.end a.keeping a.i)
    (λ k l e. stays-if a.keeping (λ k. long_at a.words.now a.starts.now a.end (a.i * 64 + k)) k e)
    a.word c.into_iter-k-iterator.result.0 c.ranges.word.fits (ap (λ d. d.0) c.into_iter-k-iterator.ensures.into_iter_gives)

-- the position that the turn looks at passes if it is long enough
passes_if : (c : After-is_long-long) → passes c.args.words.now c.args.starts.now c.args.end c.args.keeping c.args.i c.in-Some.k ≡ c.is_long-long.result
passes_if c =
    let a = c.args in
    asked-if a.keeping (λ k. long_at a.words.now a.starts.now a.end (a.i * 64 + k)) c.in-Some.k (is-asked a.keeping _ c.loop-k.invariant c.in-Some.ensures.steps)
    ∙ sym c.is_long-long.ensures

pub loop-k-preserved-then-not-long : goal.loop-k-preserved-then-not-long
loop-k-preserved-then-not-long c =
    let a = c.args in
    let l = c.loop-k in
    let g = c.in-Some.ensures.steps in
    sift-turn a.keeping (passes a.words.now a.starts.now a.end a.keeping a.i) l.invariant g false
    (passes_if (goal.at.loop-k-preserved-then-not-long c).After-is_long-long ∙ c.if-not-long.true) (is-dropped l.found c.in-Some.k l.auto.found-fits.fits g.2)

pub loop-k-preserved : goal.loop-k-preserved
loop-k-preserved c =
    let a = c.args in
    let l = c.loop-k in
    let g = c.in-Some.ensures.steps in
    sift-turn a.keeping (passes a.words.now a.starts.now a.end a.keeping a.i) l.invariant g true
    (passes_if (goal.at.loop-k-preserved c).After-is_long-long ∙ c.if-not-long.false) (stays-there l.found c.in-Some.k l.auto.found-fits.fits)

pub returns : goal.returns
unfolding long_word
returns c =
    let a = c.args in
    sift-done a.keeping (passes a.words.now a.starts.now a.end a.keeping a.i) c.loop-k.invariant c.in-None.ensures.steps.0
