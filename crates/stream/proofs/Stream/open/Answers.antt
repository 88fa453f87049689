-- `stream::Stream::open` meets its contract: a table has the words that are read.
use mathlib.Core.Path.{sym, ◌∙◌}
use native.Mathlib.Omega.{arith}
use Rattle.table.proofs.Test.{passes}
use Rattle.stream.proofs.Answers.{opened-refused, opened-is}
use Rattle.stream.proofs.Stream.open.Goals as goal

pub returns-then-not-is_table : goal.returns-then-not-is_table
returns-then-not-is_table c =
    let c-start = c in
    let c-fresh-state = c.fresh_state in
    let c-is-table = c.is_table in
    let c-if1 = c.if-not-is_table in
    opened-refused c-start.args.words.now c-fresh-state.result (sym c-is-table.ensures ∙ c-if1.true) c-fresh-state.ensures

pub bounds-words-1 : goal.bounds-words-1
bounds-words-1 c =
    let c-start = c in
    let c-is-table = c.is_table in
    let c-if1 = c.if-not-is_table in
    omega (arith, passes c-start.args.words.now (sym c-is-table.ensures ∙ c-if1.false))

pub bounds-words-2 : goal.bounds-words-2
bounds-words-2 c =
    let c-start = c in
    let c-is-table = c.is_table in
    let c-if1 = c.if-not-is_table in
    omega (arith, passes c-start.args.words.now (sym c-is-table.ensures ∙ c-if1.false))

pub returns : goal.returns
returns c =
    let c-start = c in
    let c-fresh-state2 = c.fresh_state-2 in
    let c-is-table = c.is_table in
    let c-if1 = c.if-not-is_table in
    opened-is c-start.args.words.now c-fresh-state2.result (sym c-is-table.ensures ∙ c-if1.false) c-fresh-state2.ensures
