-- `classes::names::spelled` meets its contract. The invariant: the bytes of the text before k were
-- seen at the place.
use mathlib.Core.Path.{◌≡◌, sym, ◌∙◌}
use Prim.Native.Nat.{◌≤◌}
use native.Mathlib.Omega.{arith}
use borrow.Author.Tests.{eq-eqb, ne_eqb}
use lib.ListN.{length, get_or-eq_default}
use Rattle.classes.proofs.Spellings.{spell-start, spell-end, spell-more}
use Rattle.classes.proofs.names.spelled.Goals as goal

pub loop-k-init : goal.loop-k-init
loop-k-init c =
    let args = c.args in
    let s = args.s.now in
    let at = args.at in
    spell-start s args.text at

pub returns-then-c-eq0 : goal.returns-then-c-eq0
returns-then-c-eq0 c =
    let args = c.args in
    let s = args.s.now in
    let at = args.at in
    let loop = c.loop-k in
    sym (spell-end s args.text at loop.k c.if-c-eq0.true) ∙ loop.invariant

pub returns-then-peek-c : goal.returns-then-peek-c
returns-then-peek-c c =
    let args = c.args in
    let s = args.s.now in
    let at = args.at in
    let loop = c.loop-k in
    let peek = c.peek in
    sym (spell-more s args.text at loop.k peek.result c.if-c-eq0.false peek.ensures ∙ rw
    (ne_eqb _ _ (λ e. c.if-peek-c.true (sym e))))
    ∙ loop.invariant

pub loop-k-preserved : goal.loop-k-preserved
loop-k-preserved c =
    let args = c.args in
    let s = args.s.now in
    let at = args.at in
    let loop = c.loop-k in
    let peek = c.peek in
    sym (spell-more s args.text at loop.k peek.result c.if-c-eq0.false peek.ensures ∙ rw
    (eq-eqb _ _ (sym c.if-peek-c.false))) ∙ loop.invariant

pub returns : goal.returns
returns c =
    let args = c.args in
    let s = args.s.now in
    let at = args.at in
    let loop = c.loop-k in
    let size : length args.text ≤ 8 = omega (arith, c.well_formed) in
    let end : loop.k ≡ 8 = omega arith in
    let past = spell-end s args.text at 8 (get_or-eq_default args.text 0 (size)) in
    sym past ∙ rw end at loop.invariant
