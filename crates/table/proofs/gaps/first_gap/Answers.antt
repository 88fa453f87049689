-- `table::gaps::first_gap` meets its contract: at the stream's start the gap has its own numbers.
use Rattle.std.proofs.Common.{◌≡◌, ℕ, Bool, true, false, cond, sym, ap, ◌∙◌, ap₂, eq-eqb, ne_eqb}
use Rattle.kinds.specs.declared.Side.{Side}
use Rattle.table.specs.Gaps.{start_of_last, at_the_start, gap_of, first_gap}
use Rattle.table.proofs.gaps.first_gap.Goals as goal

module _ (line : Bool) (taken : ℕ) (s t : Side) where
  at_first : (b : Bool) → taken ≡ 0 → line ≡ b → cond b start_of_last (at_the_start t) ≡ first_gap line taken s t
  unfolding first_gap
  at_first b e l = sym (ap₂ (λ (x y : Bool). cond x (cond y start_of_last (at_the_start t)) (gap_of line s t)) (eq-eqb taken 0 e) l)

  later : (taken ≡ 0 → ⊥) → gap_of line s t ≡ first_gap line taken s t
  unfolding first_gap
  later e = sym (ap (λ (x : Bool). cond x (cond line start_of_last (at_the_start t)) (gap_of line s t)) (ne_eqb taken 0 e))

pub returns-then-line : goal.returns-then-line
returns-then-line c =
    let a = c.args in
    at_first a.line a.taken a.before a.after true c.if-taken-eq0.true c.if-line.true

pub returns-else-line : goal.returns-else-line
returns-else-line c =
    let a = c.args in
    c.at_start.ensures ∙ at_first a.line a.taken a.before a.after false c.if-taken-eq0.true c.if-line.false

pub returns-else-taken-eq0 : goal.returns-else-taken-eq0
returns-else-taken-eq0 c =
    let a = c.args in
    c.gap_of.ensures ∙ later a.line a.taken a.before a.after c.if-taken-eq0.false
