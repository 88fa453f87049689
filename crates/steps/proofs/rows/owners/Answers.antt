-- `steps::rows::owners` meets its contract: word by word.
use Rattle.std.proofs.Common.{◌≡◌, ap, ◌∙◌, ◌+◌, ◌*◌}
use native.Mathlib.Omega.{arith}
use Rattle.steps.specs.Invariants.{owners_of}
use Rattle.steps.proofs.Bounds.{words-good}
use Rattle.steps.proofs.Owned.{owned-none, owned-word}
use Rattle.steps.proofs.rows.owners.Goals as goal

pub loop-i-init : goal.loop-i-init
loop-i-init c = owned-none c.args.words.now c.args.rules c.requires.1 c.args.set

pub loop-i-preserved : goal.loop-i-preserved
loop-i-preserved c =
    let a = c.args in
    let l = c.loop-i in
    let own = words-good a.set _ c.well_formed.0 in
    let end : l.i * 64 + 64 ≡ (l.i + 1) * 64 = omega arith in
    c.owner_word-found.ensures ∙ owned-word a.words.now a.rules c.requires.1 a.set l.i (own.small l.i (omega arith)) l.found l.invariant
    ∙ ap (owners_of a.words.now a.rules a.set) end

pub returns : goal.returns
returns c =
    let a = c.args in
    let end : c.loop-i.i * 64 ≡ 256 = omega arith in
    c.loop-i.invariant ∙ ap (owners_of a.words.now a.rules a.set) end
