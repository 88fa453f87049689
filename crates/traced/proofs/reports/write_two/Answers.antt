-- `traced::reports::write_two` meets its contract: the second run is written behind the first.
use Rattle.sets.specs.Set.{on}
use Rattle.table.specs.Automaton.{automaton}
use Rattle.traced.specs.Byte.{given}
use Rattle.traced.specs.Calls.{lists}
use Rattle.traced.specs.Invariants.{at}
use Rattle.traced.proofs.Runs.{first-room, second-room, wrote-two}
use Rattle.traced.proofs.reports.write_two.Goals as goal

pub write_run-r-requires : goal.write_run-r-requires
write_run-r-requires c =
    let a = c.args in
    let p = c.requires in
    let w = automaton a.words.now in (
      p.0,
      p.1,
      p.2,
      p.4,
      first-room w (on a.first) (on a.second) a.reported (given w a.earlier (at a.one.now))
          (given (automaton c.args.words.now) c.args.later (at c.args.two.now)) (lists a.ids.now a.offsets.now a.starts.now a.relatives.now) p.6,
    )

pub write_run-requires : goal.write_run-requires
write_run-requires c =
    let p = c.requires in
    (p.0, p.1, p.3, p.5, second-room c.write_run-r.ensures (on c.args.second) (given (automaton c.args.words.now) c.args.later (at c.args.two.now)) p.6)

pub returns : goal.returns
returns c =
    wrote-two c.write_run-r.ensures (on c.args.second) (given (automaton c.args.words.now) c.args.later (at c.args.two.now)) c.requires.6 c.write_run.ensures
