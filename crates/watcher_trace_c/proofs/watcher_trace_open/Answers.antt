-- `watcher_trace_c::watcher_trace_open` meets its contract: what the opening hands back is stored,
-- also when it is refused.
use mathlib.Core.Path.{ap, ◌∙◌}
use Rattle.traced.specs.Calls.{Opened, opened}
use Rattle.states.specs.State.{traced_form}
use Rattle.states.specs.Call.{stored_in}
use Rattle.states.proofs.Answers.{open-short, open-long, store-short}
use Rattle.watcher_trace_c.proofs.watcher_trace_open.Goals as goal

pub returns-then-state-lt-WORDS : goal.returns-then-state-lt-WORDS
returns-then-state-lt-WORDS c =
    let a = c.args in
    let o = opened a.table.now in
    record {
      answer = open-short traced_form a.state.now o.number c.if-state-lt-WORDS.true;
      state = store-short traced_form a.state.now o.traced c.if-state-lt-WORDS.true;
    }

pub returns : goal.returns
returns c =
    let a = c.args in
    let o = opened a.table.now in
    let e = c.open-opened.ensures in
    record {
      answer = c.number_if.ensures ∙ ap (λ (r : Opened). r.number) e ∙ open-long traced_form a.state.now o.number c.if-state-lt-WORDS.false;
      state = c.store.ensures ∙ ap (λ (r : Opened). stored_in traced_form r.traced a.state.now) e;
    }
