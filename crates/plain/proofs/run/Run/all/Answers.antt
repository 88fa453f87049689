-- `all` meets its contract: all bytes but the last, the last, the closing.
use mathlib.Core.Path.{◌≡◌, refl}
use Prim.Native.Nat.{suc, ◌-◌}
use native.Mathlib.Omega.{arith}
use lib.ListN.{length}
use Rattle.plain.specs.Run.{marks_at, closed, lent}
use Rattle.plain.proofs.Reports.{delivered-none}
use Rattle.plain.proofs.Runs.{last_runs, last-stands, closing-runs, closing-asks, whole_is}
use Rattle.plain.proofs.run.Run.all.Goals as goal

pub returns-then-n-eq0 : goal.returns-then-n-eq0
unfolding closed
returns-then-n-eq0 c =
    let c-if1 = c.if-n-eq0 in
    let e : length c.args.self.now.log.now ≡ 0 = c-if1.true in
    rw e (delivered-none c.args.self.now.wanted (lent c.args.offsets.now c.args.starts.now))

pub run-t-requires : goal.run-t-requires
unfolding marks_at
run-t-requires c =
    (record { room = c.requires.room; plays = c.requires.plays; within = omega arith; short = c.requires.short; space = c.requires.space }, refl)

pub step-all-requires : goal.step-all-requires
step-all-requires c =
    let last : suc (length c.args.self.now.log.now - 1) ≡ length c.args.self.now.log.now = omega (arith, c.if-n-eq0.false) in
    (last_runs c.requires last c.run-t.ensures, last-stands c.requires last c.run-t.ensures)

pub close-requires : goal.close-requires
close-requires c =
    let last : suc (length c.args.self.now.log.now - 1) ≡ length c.args.self.now.log.now = omega (arith, c.if-n-eq0.false) in
    (closing-runs c.requires last c.run-t.ensures c.step-all.ensures, closing-asks c.requires last c.run-t.ensures c.step-all.ensures)

pub returns : goal.returns
returns c =
    let last : suc (length c.args.self.now.log.now - 1) ≡ length c.args.self.now.log.now = omega (arith, c.if-n-eq0.false) in
    whole_is c.requires last c.run-t.ensures c.step-all.ensures c.close.ensures
