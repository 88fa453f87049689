-- `stream::reports::deliver` meets its contract: as many reports are due as both runs have, and
-- they are written where they fit.
use mathlib.Core.Path.{◌≡◌}
use mathlib.Core.Bool.{not, ◌&&◌}
use Prim.Native.Nat.{ℕ, suc, ◌+◌, ◌≤◌, ◌<◌}
use native.Mathlib.Numerals.{add-one}
use native.Mathlib.Omega.{arith}
use lib.Bits.{bit_and, bit_or}
use Rattle.sets.specs.Set.{on}
use Rattle.sets.proofs.Laws.{count-le}
use Rattle.table.specs.Automaton.{automaton}
use Rattle.table.proofs.Test.{passes}
use Rattle.stream.specs.Byte.{given}
use Rattle.stream.proofs.Bounds.{rules-few, dues-fit}
use Rattle.stream.proofs.TwoRuns.{due-two, delivered-full, delivered-runs}
use Rattle.stream.proofs.reports.deliver.Goals as goal

-- as many as are due, and the space as it was measured
few : {n m : ℕ} → n ≡ m → m ≤ 64 → n ≤ 64
few e h = omega arith

over : {n m room space : ℕ} → n ≡ m → room ≡ space → room < n → space < m
over e f h = omega arith

within : {n m room space : ℕ} → n ≡ m → room ≡ space → n ≤ room → m ≤ space
within e f h = omega arith

pub overflow_add-due : goal.overflow_add-due
overflow_add-due c =
    let a = c.args in
    let marks = bit_or a.reported (bit_and a.late a.singles) in
    dues-fit c.due.result c.due-2.result
    (few c.due.ensures (count-le 64 (λ k. on a.late k && not (on a.reported k))))
    (few c.due-2.ensures (count-le 64 (λ k. on a.own k && not (on marks k))))

pub returns-then-min-due : goal.returns-then-min-due
returns-then-min-due c =
    let a = c.args in
    let t = a.words.now in
    let w = automaton t in
    delivered-full (over (due-two w a.late a.own a.reported (given w a.before) (given w (suc a.before)) c.ranges.reported.fits (rules-few t (passes t c.requires.0).rules) c.requires.2 c.requires.3 a.singles c.requires.1 c.due.ensures c.due-2.ensures) c.min.ensures c.if-min-due.true)

pub overflow_add-before : goal.overflow_add-before
overflow_add-before c = record { fits = c.requires.4 }

pub write_two-run-requires : goal.write_two-run-requires
write_two-run-requires c =
    let a = c.args in
    let t = a.words.now in
    let w = automaton t in
    let p = c.requires in
    (p.0, p.1, p.2, p.3, within (due-two w a.late a.own a.reported (given w a.before) (given w (a.before + 1)) c.ranges.reported.fits (rules-few t (passes t c.requires.0).rules) c.requires.2 c.requires.3 a.singles c.requires.1 c.due.ensures c.due-2.ensures) c.min.ensures c.if-min-due.false)

pub returns : goal.returns
returns c =
    let a = c.args in
    let t = a.words.now in
    let w = automaton t in
    delivered-runs (within (due-two w a.late a.own a.reported (given w a.before) (given w (suc a.before)) c.ranges.reported.fits (rules-few t (passes t c.requires.0).rules) c.requires.2 c.requires.3 a.singles c.requires.1 c.due.ensures c.due-2.ensures) c.min.ensures c.if-min-due.false) (rw (add-one a.before) at c.write_two-run.ensures)
