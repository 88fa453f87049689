-- `traced::scan::run` meets its contract: each turn passes over the bytes that change nothing and
-- offers one more.
use mathlib.Core.Path.{◌≡◌, sym, ◌∙◌}
use mathlib.Core.Bool.{not, ◌||◌}
use mathlib.Core.List.{List}
use Prim.Native.Nat.{ℕ, ◌+◌, ◌-◌, ◌^◌, ◌<◌, ◌≤◌}
use native.Mathlib.Omega.{arith}
use lib.Dec.{eqb}
use lib.ListN.{length}
use Rattle.table.specs.Automaton.{Automaton, automaton}
use Rattle.stream.specs.Valid.{stream_limit}
use Rattle.traced.specs.declared.Starts.{Starts}
use Rattle.traced.specs.declared.Traced.{Traced}
use Rattle.traced.specs.declared.scan.Turn.{Turn}
use Rattle.traced.specs.Calls.{Lists, lists}
use Rattle.traced.specs.Invariants.{state_by, Running}
use Rattle.traced.proofs.Lists.{filled-inside}
use Rattle.traced.proofs.Carrying.{empty-if, none-if}
use Rattle.traced.proofs.Passing.{running-over, pass-rises}
use Rattle.traced.proofs.Taking.{running-start, turned, turn-less, ran, taken-now}
use Rattle.traced.proofs.scan.run.Goals as goal

-- a stream within its limit
within : (now taken at n : ℕ) → now ≡ taken + at → at ≤ n → taken + n ≤ stream_limit → now + (n - at) ≤ stream_limit
within now taken at n e h l = omega arith

small : (taken n : ℕ) → taken + n ≤ stream_limit → taken < 2 ^ 63
small taken n h = omega arith

pub bytes-init : goal.bytes-init
bytes-init c =
    let a = c.args in
    let live = c.is_empty in
    let held = c.is_empty-2 in (
      running-start (automaton a.words.now) (state_by a.s a.kept.now) a.allowance a.block.now
          (lists a.ids.now a.offsets.now a.starts.now a.relatives.now)
          (not live.result) (not held.result || not (eqb a.s.pending 0))
          (λ e. sym live.ensures ∙ empty-if live.result e)
          (λ e. let both = none-if held.result a.s.pending e in (sym held.ensures ∙ both.0, both.1)) c.requires.3,
      c.requires.4,
    )

-- the limit where a turn begins
limit : (w : Automaton) (z : Traced) (allowance : ℕ) (block : List ℕ) (lent : Lists) → z.stream.taken + length block ≤ stream_limit → {y : Turn} {k : Starts} {l : Lists}
    → Running w z allowance block lent y k l → y.stream.taken + (length block - y.at) ≤ stream_limit
limit w z allowance block lent h {y} r = within y.stream.taken z.stream.taken y.at (length block) (taken-now r) r.inside h

pub pass_over-y-requires : goal.pass_over-y-requires
pass_over-y-requires c =
    let a = c.args in
    let r = c.bytes.invariant.0 in
    (r.inside, limit (automaton a.words.now) (state_by a.s a.kept.now) a.allowance a.block.now (lists a.ids.now a.offsets.now a.starts.now a.relatives.now) c.requires.2 r)

pub take_byte-requires : goal.take_byte-requires
take_byte-requires c =
    let a = c.args in
    let p = c.requires in
    let r = running-over c.bytes.invariant.0 c.pass_over-y.ensures in (
      p.0,
      p.1,
      filled-inside r.filled,
      small a.s.taken (length a.block.now) p.2,
      limit (automaton a.words.now) (state_by a.s a.kept.now) a.allowance a.block.now (lists a.ids.now a.offsets.now a.starts.now a.relatives.now) p.2 r,
      r.live_none,
      r.wait_none,
      r.only,
      c.bytes.invariant.1,
    )

pub bytes-smaller : goal.bytes-smaller
bytes-smaller c = turn-less c.in-Some.ensures.turn c.bytes.y.at (pass-rises c.pass_over-y.ensures)

pub bytes-preserved : goal.bytes-preserved
bytes-preserved c =
    (turned (running-over c.bytes.invariant.0 c.pass_over-y.ensures) c.in-Some.ensures.turn, c.in-Some.ensures.spare ∙ c.bytes.invariant.1)

pub returns-in-None : goal.returns-in-None
returns-in-None c = ran (running-over c.bytes.invariant.0 c.pass_over-y.ensures) c.in-None.ensures.turn
