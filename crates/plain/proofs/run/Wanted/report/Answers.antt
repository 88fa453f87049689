-- `report` meets its contract: the slot `count` of both lists is written where the report is due
-- and allowed, and there is one.
use native.Mathlib.Omega.{arith}
use Rattle.plain.specs.Run.{lent}
use Rattle.plain.proofs.Reports.{report-room, report-made, report-not}
use Rattle.plain.proofs.run.Wanted.report.Goals as goal

pub bounds-offsets-count : goal.bounds-offsets-count
bounds-offsets-count c =
    let c-inside = c.inside in
    let c-if1 = c.if-due-self in
    omega (arith, (report-room c.args.self c.args.new c.args.e c.args.x c.args.count (lent c.args.offsets.now c.args.starts.now) c-inside.ensures c-if1.true c.requires).offsets)

pub bounds-starts-count : goal.bounds-starts-count
bounds-starts-count c =
    let c-inside = c.inside in
    let c-if1 = c.if-due-self in
    omega (arith, (report-room c.args.self c.args.new c.args.e c.args.x c.args.count (lent c.args.offsets.now c.args.starts.now) c-inside.ensures c-if1.true c.requires).starts)

pub returns-then-due-self : goal.returns-then-due-self
returns-then-due-self c =
    let c-inside = c.inside in
    let c-if1 = c.if-due-self in
    let c-start-of = c.start_of in
    report-made c.args.self c.args.new c.args.e c.args.x c.args.count (lent c.args.offsets.now c.args.starts.now) c-inside.ensures c-if1.true c-start-of.ensures (omega arith)

pub returns : goal.returns
returns c =
    let c-inside = c.inside in
    let c-if1 = c.if-due-self in
    report-not c.args.self c.args.new c.args.e c.args.x c.args.count (lent c.args.offsets.now c.args.starts.now) c-inside.ensures c-if1.false
