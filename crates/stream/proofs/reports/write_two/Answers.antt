-- `stream::reports::write_two` meets its contract: the second run is written behind the first. Room
-- for both is room for each.
use Rattle.sets.specs.Set.{on}
use Rattle.table.specs.Automaton.{automaton}
use Rattle.stream.specs.Byte.{given}
use Rattle.stream.specs.Calls.{lists}
use Rattle.stream.proofs.TwoRuns.{first-room, second-room, wrote-two}
use Rattle.stream.proofs.reports.write_two.Goals as goal

pub write_run-one-requires : goal.write_run-one-requires
write_run-one-requires c =
    let a = c.args in
    let p = c.requires in
    let w = automaton a.words.now in (
      p.0,
      p.1,
      p.2,
      first-room w (on a.first) (on a.second) a.reported (given w a.earlier)
          (given w a.later) (lists a.ids.now a.offsets.now) p.4,
    )

pub write_run-requires : goal.write_run-requires
write_run-requires c =
    let p = c.requires in
    (p.0, p.1, p.3, second-room c.write_run-one.ensures (on c.args.second) (given (automaton c.args.words.now) c.args.later) p.4)

pub returns : goal.returns
returns c =
    wrote-two c.write_run-one.ensures (on c.args.second) (given (automaton c.args.words.now) c.args.later)
    c.requires.4 c.write_run.ensures
