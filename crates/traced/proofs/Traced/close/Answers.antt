-- `traced::Traced::close` meets its contract: it is refused and leaves all as it was, or both runs
-- of the closing are written and the stream is closed.
use mathlib.Core.Path.{sym, ap, ◌∙◌}
use Prim.Native.Nat.{ℕ, ◌^◌, ◌<◌, ◌≤◌}
use native.Mathlib.Omega.{arith}
use Rattle.std.proofs.lemmas.Result.{err_from_is_err_and}
use Rattle.stream.specs.Valid.{stream_limit}
use Rattle.traced.specs.Calls.{lists, space, scan_number}
use Rattle.traced.proofs.Accepting.{accepted, close-number}
use Rattle.traced.proofs.Closing.{pairs_small, refused-close, accepted-close}
use Rattle.traced.proofs.Traced.close.Goals as goal

small : (n : ℕ) → n ≤ stream_limit → n < 2 ^ 63
small n h = omega arith

pub returns-in_err-refusal : goal.returns-in_err-refusal
returns-in_err-refusal c =
    let a = c.args in
    let t = a.words.now in
    let lent = lists a.ids.now a.offsets.now a.starts.now a.relatives.now in
    let r = c.in_err-refusal in
    let both = refused-close t a.self lent r.field-0.0 (r.ensures ∙ ap (scan_number t a.self 0) c.shortest-space.ensures ∙ close-number t a.self (space lent)) in
    let p = err_from_is_err_and c.from_residual.result c.from_residual.ensures.1 in
    rw (p.1, p.2) (record { answer = both.0; lists = both.1 })

pub write_closing-reports-requires : goal.write_closing-reports-requires
write_closing-reports-requires c =
    let a = c.args in
    let t = a.words.now in
    let lent = lists a.ids.now a.offsets.now a.starts.now a.relatives.now in
    let z = a.self in
    let h = accepted t z 0 (space lent) (sym (c.in_ok-refusal.ensures ∙ ap (scan_number t z 0) c.shortest-space.ensures)) in
    let few = small z.stream.taken h.state.limit in
    (h.table, h.state.pending, few, pairs_small z h.ordered few, h.space)

pub returns : goal.returns
returns c =
    let a = c.args in
    let t = a.words.now in
    let lent = lists a.ids.now a.offsets.now a.starts.now a.relatives.now in
    let number = c.in_ok-refusal.ensures ∙ ap (scan_number t a.self 0) c.shortest-space.ensures ∙ close-number t a.self (space lent) in
    let done = c.write_closing-reports in
    let both = accepted-close t a.self lent number done.result _ done.ensures in
    record { answer = both.0; lists = both.1 }
