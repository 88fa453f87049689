-- `stream::Stream::close` meets its contract: the number settles which way it goes, and both runs
-- are written.
use mathlib.Core.Path.{refl, subst}
use Prim.Native.Nat.{ℕ, ◌*◌, ◌≤◌}
use Rattle.std.proofs.lemmas.Result.{err_from_is_err_and}
use Rattle.refusals.specs.Refusal.{number_of}
use Rattle.table.specs.Layout.{rules_of}
use Rattle.stream.specs.Calls.{lists, space}
use Rattle.stream.proofs.Accepting.{taken-up, close-numbered}
use Rattle.stream.proofs.Answers.{close_refused, close_accepted}
use Rattle.stream.proofs.Stream.close.Goals as goal

pub returns-in_err-refusal : goal.returns-in_err-refusal
returns-in_err-refusal c =
    let a = c.args in
    let t = a.words.now in
    let lent = lists a.ids.now a.offsets.now in
    let r = c.in_err-refusal in
    let number = close-numbered t a.self c.min.result (space lent) (number_of r.field-0.0) r.ensures c.min.ensures in
    let both = close_refused t a.self lent r.field-0.0 number in
    let p = err_from_is_err_and c.from_residual.result c.from_residual.ensures.1 in
    rw (p.1, p.2) (record { answer = both.0; lists = both.1 })

pub write_closing-reports-requires : goal.write_closing-reports-requires
write_closing-reports-requires c =
    let a = c.args in
    let t = a.words.now in
    let r = c.in_ok-refusal in
    let ok = taken-up t a.self 0 c.min.result 0 r.ensures refl in
    (ok.table, ok.state.pending, subst (λ (n : ℕ). 2 * rules_of t ≤ n) c.min.ensures ok.space)

pub returns : goal.returns
returns c =
    let a = c.args in
    let t = a.words.now in
    let lent = lists a.ids.now a.offsets.now in
    let r = c.in_ok-refusal in
    let number = close-numbered t a.self c.min.result (space lent) 0 r.ensures c.min.ensures in
    let done = c.write_closing-reports in
    let last = lists done.new.ids done.new.offsets in
    let both = close_accepted t a.self lent number done.result last done.ensures in
    record { answer = both.0; lists = both.1 }
