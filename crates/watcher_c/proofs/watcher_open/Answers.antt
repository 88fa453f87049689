-- `watcher_c::watcher_open` meets its contract: what the opening hands back is stored, also when it
-- is refused.
use mathlib.Core.Path.{ap, ◌∙◌}
use Rattle.stream.specs.Calls.{Opened, opened}
use Rattle.states.specs.State.{stream_form}
use Rattle.states.specs.Call.{stored_in}
use Rattle.states.proofs.Answers.{open-short, open-long, store-short}
use Rattle.watcher_c.proofs.watcher_open.Goals as goal

pub returns-then-state-lt-WORDS : goal.returns-then-state-lt-WORDS
returns-then-state-lt-WORDS c =
    let a = c.args in
    let o = opened a.table.now in
    record {
      answer = open-short stream_form a.state.now o.number c.if-state-lt-WORDS.true;
      state = store-short stream_form a.state.now o.stream c.if-state-lt-WORDS.true;
    }

pub returns : goal.returns
returns c =
    let a = c.args in
    let o = opened a.table.now in
    let e = c.open-opened.ensures in
    record {
      answer = c.number_if.ensures ∙ ap (λ (r : Opened). r.number) e ∙ open-long stream_form a.state.now o.number c.if-state-lt-WORDS.false;
      state = c.store.ensures ∙ ap (λ (r : Opened). stored_in stream_form r.stream a.state.now) e;
    }
