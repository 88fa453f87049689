-- `steps::windows::sift_all` meets its contract: each turn looks at the lowest rule that is left.
use Rattle.std.proofs.Common.{ap, ◌∙◌, true, false}
use Rattle.table.specs.Layout.{windowed_of}
use Rattle.steps.proofs.Sifting.{sift-none, sift-turn, sift-done, is-asked, inside, windowed-pass, others-pass, stays-there, is-dropped}
use Rattle.steps.proofs.windows.sift_all.Goals as goal

pub loop-a-init : goal.loop-a-init
loop-a-init c =
    let t = c.args.words.now in
    sift-none (windowed_of t) (inside t c.args.end) (others-pass t c.args.end) c.args.rules c.into_iter-a-iterator.result.0 c.ranges.rules.fits
    (ap (λ d. d.0) c.into_iter-a-iterator.ensures.into_iter_gives ∙ c.requires.1)

-- a rule whose window has not the offset is dropped, and another stays
pub loop-a-preserved-then-not-inside : goal.loop-a-preserved-then-not-inside
loop-a-preserved-then-not-inside c =
    let t = c.args.words.now in
    let g = c.in-Some.ensures.steps in
    let l = c.loop-a in
    sift-turn (windowed_of t) (inside t c.args.end) l.invariant g false
    (windowed-pass t c.args.end c.in-Some.a g.2 (is-asked _ _ l.invariant g) ∙ c.if-not-inside.true) (is-dropped l.found c.in-Some.a l.auto.found-fits.fits g.2)

pub loop-a-preserved : goal.loop-a-preserved
loop-a-preserved c =
    let t = c.args.words.now in
    let g = c.in-Some.ensures.steps in
    let l = c.loop-a in
    sift-turn (windowed_of t) (inside t c.args.end) l.invariant g true
    (windowed-pass t c.args.end c.in-Some.a g.2 (is-asked _ _ l.invariant g) ∙ c.if-not-inside.false) (stays-there l.found c.in-Some.a l.auto.found-fits.fits)

pub returns : goal.returns
returns c =
    let t = c.args.words.now in
    sift-done (windowed_of t) (inside t c.args.end) c.loop-a.invariant c.in-None.ensures.steps.0
