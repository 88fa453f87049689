-- `atoms::number::numeral_at` meets its contract: blanks, digits and blanks, each where those before
-- it end.
use Rattle.std.proofs.Common.{◌∙◌, sym, ap, arith}
use Rattle.atoms.specs.Number.{blanks}
use Rattle.atoms.specs.Answer.{numeral}
use Rattle.atoms.specs.Invariants.{made_of}
use Rattle.atoms.proofs.Blanks.{blanks-are}
use Rattle.atoms.proofs.Digits.{before-fits, digits-inside, after-fits, whole-number}
use Rattle.atoms.proofs.number.numeral_at.Goals as goal

pub overflow_add-at : goal.overflow_add-at
overflow_add-at c = omega (
  arith,
  before-fits c.args.base c.args.s.now c.args.at c.blanks-before.result (c.blanks-before.ensures ∙ sym (blanks-are _) ∙ ap blanks c.rest.ensures),
)

pub overflow_add-size : goal.overflow_add-size
overflow_add-size c =
    let s = c.args.s.now in
    let eb = c.blanks-before.ensures ∙ sym (blanks-are _) ∙ ap blanks c.rest.ensures in
    let en = c.digits-number.ensures ∙ ap (made_of c.args.base) c.rest-2.ensures in
    omega (
      arith,
      before-fits c.args.base s c.args.at c.blanks-before.result eb,
      digits-inside c.args.base s c.args.at c.blanks-before.result eb (numeral c.digits-number.result) en,
    )

pub overflow_add-at-2 : goal.overflow_add-at-2
overflow_add-at-2 c =
    let s = c.args.s.now in
    let eb = c.blanks-before.ensures ∙ sym (blanks-are _) ∙ ap blanks c.rest.ensures in
    let en = c.digits-number.ensures ∙ ap (made_of c.args.base) c.rest-2.ensures in
    omega (
      arith,
      before-fits c.args.base s c.args.at c.blanks-before.result eb,
      digits-inside c.args.base s c.args.at c.blanks-before.result eb (numeral c.digits-number.result) en,
    )

pub overflow_add-result : goal.overflow_add-result
overflow_add-result c =
    let s = c.args.s.now in
    let n = numeral c.digits-number.result in
    let eb = c.blanks-before.ensures ∙ sym (blanks-are _) ∙ ap blanks c.rest.ensures in
    let en = c.digits-number.ensures ∙ ap (made_of c.args.base) c.rest-2.ensures in
    let ea = c.blanks-after.ensures ∙ sym (blanks-are _) ∙ ap blanks c.rest-3.ensures in
    omega (
      arith,
      before-fits c.args.base s c.args.at c.blanks-before.result eb,
      digits-inside c.args.base s c.args.at c.blanks-before.result eb n en,
      after-fits c.args.base s c.args.at c.blanks-before.result eb n en c.blanks-after.result ea,
    )

pub returns : goal.returns
returns c =
    let eb = c.blanks-before.ensures ∙ sym (blanks-are _) ∙ ap blanks c.rest.ensures in
    let en = c.digits-number.ensures ∙ ap (made_of c.args.base) c.rest-2.ensures in
    let ea = c.blanks-after.ensures ∙ sym (blanks-are _) ∙ ap blanks c.rest-3.ensures in
    whole-number c.args.base c.args.s.now c.args.at c.blanks-before.result eb (numeral c.digits-number.result) en c.blanks-after.result ea
