-- `traced::Traced::scan` meets its contract: it is refused and leaves all as it was, or the loop
-- over the block gives the answer.
use mathlib.Core.Path.{◌≡◌, sym, ap, ◌∙◌}
use Prim.Native.Nat.{ℕ, ◌+◌, ◌≤◌}
use native.Mathlib.Omega.{arith}
use lib.ListN.{length}
use Rattle.std.proofs.lemmas.Result.{err_from_is_err_and}
use Rattle.table.specs.Layout.{max_positions}
use Rattle.table.proofs.Test.{passes}
use Rattle.traced.specs.Calls.{call, lists, space, scan_number}
use Rattle.traced.proofs.Accepting.{accepted, in_order_lem}
use Rattle.traced.proofs.Carrying.{all-zero}
use Rattle.traced.proofs.Closing.{refused-scan, accepted-scan}
use Rattle.traced.proofs.Traced.scan.Goals as goal

paid : (a b n : ℕ) → a + b ≡ n → a ≤ n
paid a b n e = omega arith

pub returns-in_err-refusal : goal.returns-in_err-refusal
returns-in_err-refusal c =
    let a = c.args in
    let handed = call a.allowance a.block.now (lists a.ids.now a.offsets.now a.starts.now a.relatives.now) in
    let r = c.in_err-refusal in
    let both = refused-scan a.words.now a.self handed r.field-0.0 (r.ensures ∙ ap (scan_number a.words.now a.self (length a.block.now)) c.shortest-space.ensures) in
    let p = err_from_is_err_and c.from_residual.result c.from_residual.ensures.1 in
    rw (p.1, p.2) (record { answer = both.0; lists = both.1 })

pub gates_of-requires : goal.gates_of-requires
gates_of-requires c =
    let a = c.args in
    let t = a.words.now in
    let handed = call a.allowance a.block.now (lists a.ids.now a.offsets.now a.starts.now a.relatives.now) in
    let number = c.in_ok-refusal.ensures ∙ ap (scan_number t a.self (length a.block.now)) c.shortest-space.ensures in
    let holds = accepted t a.self (length a.block.now) (space handed.slots) (sym number) in
    (passes t holds.table).long

pub run-r-requires : goal.run-r-requires
run-r-requires c =
    let a = c.args in
    let t = a.words.now in
    let handed = call a.allowance a.block.now (lists a.ids.now a.offsets.now a.starts.now a.relatives.now) in
    let number = c.in_ok-refusal.ensures ∙ ap (scan_number t a.self (length a.block.now)) c.shortest-space.ensures in
    let holds = accepted t a.self (length a.block.now) (space handed.slots) (sym number) in
    let g = c.well_formed.0.1.1.1.0.1.1 in
    let live-long = g.0.1.0.1 in
    let held-long = g.1.0.1.0.1 in
    let pairs-long = g.1.1.0.1.0.1 in (
      holds.table,
      c.gates_of.ensures,
      holds.short,
      in_order_lem a.self holds.ordered live-long held-long pairs-long,
      all-zero max_positions,
    )

pub overflow_sub-result : goal.overflow_sub-result
overflow_sub-result c = paid c.run-r.result.left _ c.args.allowance c.run-r.ensures.running.paid

pub returns : goal.returns
returns c =
    let a = c.args in
    let t = a.words.now in
    let handed = call a.allowance a.block.now (lists a.ids.now a.offsets.now a.starts.now a.relatives.now) in
    let number = c.in_ok-refusal.ensures ∙ ap (scan_number t a.self (length a.block.now)) c.shortest-space.ensures in
    let both = accepted-scan t a.self handed number c.run-r.result _ _ c.run-r.ensures in
    record { answer = both.0; lists = both.1 }
