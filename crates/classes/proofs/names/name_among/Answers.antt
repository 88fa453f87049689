-- `classes::names::name_among` meets its contract. The invariant: the names from the number on give
-- what all of them give.
use mathlib.Core.Path.{refl, sym, ◌∙◌}
use native.Mathlib.Omega.{arith}
use lib.ListN.{drop, length-drop}
use Rattle.classes.proofs.Spellings.{spelled-fits, among_none, among-found, among_next}
use Rattle.classes.proofs.names.name_among.Goals as goal

pub loop-number-init : goal.loop-number-init
loop-number-init c = refl

pub spelled-size-requires : goal.spelled-size-requires
spelled-size-requires c = c.requires.0

pub overflow_add-lead : goal.overflow_add-lead
overflow_add-lead c =
    let args = c.args in
    let s = args.s.now in
    let at = args.at in
    let spelled = c.spelled-size in
    omega (
      arith,
      c.requires,
      spelled-fits _ (drop at s) spelled.result spelled.ensures,
      length-drop at s,
    )

pub returns-then-size-ne0 : goal.returns-then-size-ne0
returns-then-size-ne0 c =
    let args = c.args in
    let s = args.s.now in
    let at = args.at in
    let row = c.row-name in
    let spelled = c.spelled-size in
    let loop = c.loop-number in
    let e = rw row.ensures.0 at spelled.ensures in
    c.sound.ensures
    ∙ rw (c.atom_of.ensures, row.ensures.1)
    (sym (among-found args.caseless args.negated args.lead (drop at s) loop.number spelled.result
    (omega arith) e c.if-size-ne0.true) ∙ loop.invariant)

pub loop-number-preserved : goal.loop-number-preserved
loop-number-preserved c =
    let args = c.args in
    let s = args.s.now in
    let at = args.at in
    let row = c.row-name in
    let spelled = c.spelled-size in
    let loop = c.loop-number in
    let e = rw row.ensures.0 at spelled.ensures in
    sym (among_next args.caseless args.negated args.lead (drop at s) loop.number spelled.result
    (omega arith) e c.if-size-ne0.false)
    ∙ loop.invariant

pub returns : goal.returns
returns c =
    let args = c.args in
    let s = args.s.now in
    let at = args.at in
    let loop = c.loop-number in
    c.faulty.ensures
    ∙ sym (among_none args.caseless args.negated args.lead (drop at s) loop.number (omega arith))
    ∙ loop.invariant
