-- `tokens::members::spelled_at` meets its contract: the member has no end, or it is joined to
-- another, or it stands alone. What it takes stands in the pattern, so no sum wraps.
use Rattle.std.proofs.Common.{◌∙◌, refl, sym, arith, ◌+◌, ◌<◌, ◌^◌, drop}
use borrow.Author.Tests.{eqb-false, not-true, not-false}
use Rattle.atoms.specs.Answer.{part}
use Rattle.classes.specs.Class.{joint_of}
use Rattle.classes.specs.Invariants.{joint}
use Rattle.classes.proofs.Ranges.{joined-some, joined-none, part-fits, part-inside, joint-inside, spelled-alone, spelled-single, spelled-range}
use Rattle.classes.proofs.members.spelled_at.Goals as goal

pub returns-then-not-has_end : goal.returns-then-not-has_end
returns-then-not-has_end c =
    rw (
    spelled-alone c.args.s.now c.args.at c.args.caseless c.args.quoted (part c.member_part-m.result) c.member_part-m.ensures
    (not-false _ (sym c.has_end.ensures ∙ c.if-not-has_end.true))
    ) c.single.ensures

pub overflow_add-end : goal.overflow_add-end
overflow_add-end c = omega (
  arith,
  part-inside c.args.s.now c.args.at c.args.caseless c.args.quoted (part c.member_part-m.result) c.member_part-m.ensures
      (eqb-false _ 6 (not-true _ (sym c.has_end.ensures ∙ c.if-not-has_end.false))),
)

pub joint_at-requires : goal.joint_at-requires
joint_at-requires c =
    part-inside c.args.s.now c.args.at c.args.caseless c.args.quoted (part c.member_part-m.result) c.member_part-m.ensures
    (eqb-false _ 6 (not-true _ (sym c.has_end.ensures ∙ c.if-not-has_end.false)))

pub overflow_add-end-in-Some : goal.overflow_add-end-in-Some
overflow_add-end-in-Some c = omega (
  arith,
  joint-inside c.args.s.now c.args.at c.args.caseless c.args.quoted (part c.member_part-m.result) c.member_part-m.ensures (joint c.in-Some.j)
      (eqb-false _ 6 (not-true _ (sym c.has_end.ensures ∙ c.if-not-has_end.false))) (joined-some c.args.quoted (drop (c.args.at + c.member_part-m.result.size) c.args.s.now) c.in-Some.j c.in-Some.ensures) refl,
)

pub range-requires : goal.range-requires
range-requires c =
    let s = c.args.s.now in
    let m = part c.member_part-m.result in
    let j = joint c.in-Some.j in
    let n = part c.member_part.result in
    let fits : m.size + (j.size + n.size) < 2 ^ 63 =
    omega (
      arith,
      joint-inside c.args.s.now c.args.at c.args.caseless c.args.quoted (part c.member_part-m.result) c.member_part-m.ensures j
          (eqb-false _ 6 (not-true _ (sym c.has_end.ensures ∙ c.if-not-has_end.false))) (joined-some c.args.quoted (drop (c.args.at + c.member_part-m.result.size) c.args.s.now) c.in-Some.j c.in-Some.ensures) refl,
      part-fits s (c.args.at + m.size + j.size) c.args.caseless j.quoted n c.member_part.ensures,
      c.well_formed,
    ) in
    fits

pub returns-in-Some : goal.returns-in-Some
returns-in-Some c =
    rw (
    spelled-range c.args.s.now c.args.at c.args.caseless c.args.quoted (part c.member_part-m.result) c.member_part-m.ensures
    (joint c.in-Some.j) (joined-some c.args.quoted (drop (c.args.at + c.member_part-m.result.size) c.args.s.now) c.in-Some.j c.in-Some.ensures) (not-true _ (sym c.has_end.ensures ∙ c.if-not-has_end.false)) refl
    (part c.member_part.result) c.member_part.ensures
    ) c.range.ensures

pub returns-in-None : goal.returns-in-None
returns-in-None c =
    rw (
    spelled-single c.args.s.now c.args.at c.args.caseless c.args.quoted (part c.member_part-m.result) c.member_part-m.ensures
    (joint_of c.args.quoted (drop (c.args.at + c.member_part-m.result.size) c.args.s.now)) refl (not-true _ (sym c.has_end.ensures ∙ c.if-not-has_end.false))
    (joined-none c.args.quoted (drop (c.args.at + c.member_part-m.result.size) c.args.s.now) c.in-None.ensures)
    ) c.single-in-None.ensures
