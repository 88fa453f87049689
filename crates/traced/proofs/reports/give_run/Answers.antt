-- `traced::reports::give_run` meets its contract: the run is written with the starts that were
-- worked out for it (`wrote_by`).
use Rattle.table.specs.Automaton.{automaton}
use Rattle.table.proofs.Test.{passes}
use Rattle.steps.specs.Step.{start_at}
use Rattle.stream.proofs.Bounds.{rules-few}
use Rattle.traced.specs.Calls.{lists, space}
use Rattle.traced.proofs.Delivering.{start_under, starts-small, run_room, wrote_by}
use Rattle.traced.proofs.reports.give_run.Goals as goal

pub starts_of-froms-requires : goal.starts_of-froms-requires
starts_of-froms-requires c = (passes c.args.words.now c.requires.0).long

pub write_run-requires : goal.write_run-requires
write_run-requires c =
    let a = c.args in
    let w = automaton a.words.now in
    let p = c.requires in
    let few = rules-few a.words.now (passes a.words.now p.0).rules in
    let give = start_at w a.gap a.set a.live.now a.end in
    let froms = c.starts_of-froms in (
      p.0,
      p.1,
      starts-small a.end froms.ensures (start_under w a.gap a.set a.live.now a.end) p.2,
      p.3,
      run_room w few a.marks.leftmost p.1.leftmost_is a.ending a.reported a.end give froms.result froms.ensures
          a.place (space (lists a.ids.now a.offsets.now a.starts.now a.relatives.now)) p.4,
    )

pub returns : goal.returns
returns c =
    let a = c.args in
    let w = automaton a.words.now in
    let p = c.requires in
    let few = rules-few a.words.now (passes a.words.now p.0).rules in
    let give = start_at w a.gap a.set a.live.now a.end in
    let froms = c.starts_of-froms in
    wrote_by w few a.marks.leftmost p.1.leftmost_is a.ending a.reported a.end give froms.result froms.ensures
    c.write_run.ensures
