-- `run` meets its contract. The invariant: the marks, what can end and the reports are those after
-- k bytes.
use mathlib.Core.Path.{◌≡◌, refl, ap, ◌∙◌}
use Prim.Native.Nat.{suc, ◌+◌}
use native.Mathlib.Omega.{arith}
use Rattle.plain.specs.Run.{marks_at, own_at, up_to, lent}
use Rattle.nodes.specs.Invariants.{form_at}
use Rattle.plain.specs.Invariants.{choice_of}
use Rattle.plain.proofs.Reports.{delivered-none, delivered-few, delivered-as, alike-back}
use Rattle.plain.proofs.Runs.{runs_on, up-alike}
use Rattle.plain.proofs.run.Run.run.Goals as goal

pub loop-k-init : goal.loop-k-init
unfolding own_at up_to
loop-k-init c =
    (c.requires.1, refl, record { offsets = refl; starts = refl }, delivered-none c.args.self.now.wanted (lent c.args.offsets.now c.args.starts.now))

pub step-t-requires : goal.step-t-requires
step-t-requires c =
    let inv = c.loop-k.invariant in
    (runs_on c.requires.0 (omega (arith, c.requires.0.within)) inv.2, record { marks = inv.0; own = inv.1; few = delivered-few inv.3 })

pub loop-k-preserved : goal.loop-k-preserved
loop-k-preserved c =
    let inv = c.loop-k.invariant in
    let e : suc c.loop-k.k ≡ c.loop-k.k + 1 = omega arith in
    let f = form_at c.args.self.now.nodes.now c.args.self.now.root in
    let log = c.args.self.now.log.now in
    let d = delivered-as (ap (up_to (choice_of c.args.self.now.wanted) log f) e) (c.step-t.ensures.reports (lent c.args.offsets.now c.args.starts.now) (alike-back inv.2) inv.3) in
    (c.step-t.ensures.marks ∙ ap (marks_at log f) e, c.step-t.ensures.own ∙ ap (own_at log f) e, up-alike c.requires.0 (omega (arith, c.requires.0.within)) d, d)

pub returns : goal.returns
returns c =
    let inv = c.loop-k.invariant in
    let e : c.loop-k.k ≡ c.args.n = omega arith in
    let f = form_at c.args.self.now.nodes.now c.args.self.now.root in
    let log = c.args.self.now.log.now in
    record {
      marks = inv.0 ∙ ap (marks_at log f) e;
      own = inv.1 ∙ ap (own_at log f) e;
      reports = delivered-as (ap (up_to (choice_of c.args.self.now.wanted) log f) e) inv.3;
    }
