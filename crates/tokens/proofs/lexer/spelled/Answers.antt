-- `tokens::lexer::spelled` meets its contract: the pattern ends, or a mark of a quote stands there,
-- or a quoted byte, or what its byte starts.
use mathlib.Core.Path.{sym, ◌∙◌}
use Rattle.tokens.proofs.Lexemes.{spelled-end, spelled_is, spelled-unquoted}
use Rattle.tokens.proofs.lexer.spelled.Goals as goal

pub returns-then-s-at : goal.returns-then-s-at
returns-then-s-at c =
    let args = c.args in
    let s = args.s.now in
    let at = args.at in
    c.plain.ensures ∙ sym (spelled-end s at args.options c.if-s-at.true)

pub returns-then-is_mark : goal.returns-then-is_mark
returns-then-is_mark c =
    let args = c.args in
    let s = args.s.now in
    let at = args.at in
    let peek = c.peek-d in
    rw (
      spelled_is s at args.options peek.result c.if-s-at.false peek.ensures,
      ← c.is_mark.ensures,
      c.if-is_mark.true,
    ) c.plain-then-is_mark.ensures

pub returns-then-options : goal.returns-then-options
returns-then-options c =
    let args = c.args in
    let s = args.s.now in
    let at = args.at in
    let peek = c.peek-d in
    rw (
      spelled_is s at args.options peek.result c.if-s-at.false peek.ensures,
      ← c.is_mark.ensures,
      c.if-is_mark.false,
      c.if-options.true,
    ) c.plain-then-options.ensures

pub unquoted-requires : goal.unquoted-requires
unquoted-requires c = c.if-s-at.false

pub returns : goal.returns
returns c =
    let args = c.args in
    let s = args.s.now in
    let at = args.at in
    let peek = c.peek-d in
    c.unquoted.ensures
    ∙ sym (spelled-unquoted s at args.options peek.result c.if-s-at.false peek.ensures
    (sym c.is_mark.ensures ∙ c.if-is_mark.false) c.if-options.false)
