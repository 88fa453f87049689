-- `classes::members::member_part` meets its contract: the pattern ends, or its next byte is quoted,
-- starts an escape or a class by name, or stands for itself.
use mathlib.Core.Path.{sym, ◌∙◌}
use borrow.Author.Tests.{ne_eqb}
use Rattle.classes.proofs.Ranges.{member-end, member_is}
use Rattle.classes.proofs.members.member_part.Goals as goal

pub returns-then-s-at : goal.returns-then-s-at
returns-then-s-at c =
    let args = c.args in
    let s = args.s.now in
    let at = args.at in
    c.faulty.ensures ∙ sym (member-end s at args.caseless args.quoted c.if-s-at.true)

pub returns-then-quoted : goal.returns-then-quoted
returns-then-quoted c =
    let args = c.args in
    let s = args.s.now in
    let at = args.at in
    rw (member_is s at args.caseless args.quoted c.if-s-at.false, c.if-quoted.true) c.sound.ensures

pub returns-in-92 : goal.returns-in-92
returns-in-92 c =
    let args = c.args in
    let s = args.s.now in
    let at = args.at in
    rw (
      member_is s at args.caseless args.quoted c.if-s-at.false,
      c.if-quoted.false,
      c.in-92.is,
    ) c.escape_at.ensures

pub returns-in-91 : goal.returns-in-91
returns-in-91 c =
    let args = c.args in
    let s = args.s.now in
    let at = args.at in
    rw (
      member_is s at args.caseless args.quoted c.if-s-at.false,
      c.if-quoted.false,
      c.in-91.is,
    ) c.bracket.ensures

pub returns-in_default : goal.returns-in_default
returns-in_default c =
    let args = c.args in
    let s = args.s.now in
    let at = args.at in
    let other = c.in_default.in_default-own.rest in
    rw (
      member_is s at args.caseless args.quoted c.if-s-at.false,
      c.if-quoted.false,
      ne_eqb _ _ other.0.1,
      ne_eqb _ _ other.1,
    ) c.sound-in_default.ensures
