-- `quiet::pass_end` meets its contract: it does not begin, or goes up to the next opener
-- and back over the newlines before that.
use mathlib.Core.Path.{refl, subst}
use mathlib.Core.Bool.{Bool}
use mathlib.Core.List.{List}
use Prim.Native.Nat.{ℕ, ◌+◌, ◌≤◌, min}
use native.Mathlib.Nat.{le_trans}
use native.Mathlib.Omega.{arith}
use lib.ListN.{length}
use Rattle.table.specs.Automaton.{automaton}
use Rattle.stream.proofs.Bounds.{short-end, from_end}
use Rattle.stream.proofs.Quiet.{unopened-none}
use Rattle.quiet.specs.Pass.{PassEnd, Ends}
use Rattle.quiet.proofs.Ending.{pass-none, pass-back}
use Rattle.quiet.proofs.pass_end.Goals as goal

stays : (t block : List ℕ) (quiet : Bool) (from units : ℕ) → Ends (automaton t) quiet block from units from
stays t block quiet from units =
    let w = automaton t in
    let n = length block in
    let end = min n (from + units) in record {
      inside = λ h. pass-none w quiet block from end (unopened-none w block from end (from_end from end n units h refl));
      past = λ h. refl;
    }

pub returns-then-not-quiet : goal.returns-then-not-quiet
returns-then-not-quiet c = let a = c.args in stays a.words.now a.block.now a.quiet a.from a.units

pub returns-then-block-from : goal.returns-then-block-from
returns-then-block-from c = let a = c.args in stays a.words.now a.block.now a.quiet a.from a.units

-- the place is in the block
pub at_newlines-requires : goal.at_newlines-requires
at_newlines-requires c = omega (arith, c.if-block-from.false)

pub returns-then-at_newlines : goal.returns-then-at_newlines
returns-then-at_newlines c = let a = c.args in stays a.words.now a.block.now a.quiet a.from a.units

pub payable-end-requires : goal.payable-end-requires
payable-end-requires c = omega (arith, c.if-block-from.false)

pub next_opener-requires : goal.next_opener-requires
next_opener-requires c =
    let a = c.args in
    let n = length a.block.now in
    let h : a.from ≤ n = omega (arith, c.if-block-from.false) in
    let e = c.payable-end.ensures in (
      from_end a.from c.payable-end.result n a.units h e,
      short-end c.payable-end.result n (a.from + a.units) e,
    )

pub before_newlines-requires : goal.before_newlines-requires
before_newlines-requires c =
    let a = c.args in
    let o = c.next_opener.ensures in
    (o.rises, le_trans o.inside (short-end c.payable-end.result (length a.block.now) (a.from + a.units) c.payable-end.ensures))

pub returns : goal.returns
returns c =
    let a = c.args in
    let h : a.from ≤ length a.block.now = omega (arith, c.if-block-from.false) in
    record {
      inside = λ l. subst (λ (m : ℕ). PassEnd (automaton a.words.now) a.quiet a.block.now a.from m c.before_newlines.result) c.payable-end.ensures
          (pass-back c.if-not-quiet.false c.next_opener.ensures c.before_newlines.ensures);
      past = λ l. absurd (omega arith);
    }
