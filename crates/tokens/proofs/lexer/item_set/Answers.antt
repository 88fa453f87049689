-- `tokens::lexer::item_set` meets its contract, by cases on what the item stands for.
use borrow.Enum.Refused.{opened}
use mathlib.Core.Path.{◌≡◌, refl, ◌∙◌}
use mathlib.Core.Bool.{true, false}
use mathlib.Core.List.{[], ◌∷◌}
use types.Run.{OneOf, miss}
use denote.Enum.Declared.{tag_of}
use Rattle.sets.specs.Set.{empty_set}
use Rattle.atoms.specs.contracts.Atom as atom
use Rattle.atoms.specs.declared.Atom.{Atom}
use Rattle.atoms.specs.declared.Atom.TheVariants.{Byte, OfKind, NotOfKind, Dot, NotNewline, Start, LastLine, End, Caret, Dollar, WordEdge, NoWordEdge}
use Rattle.tokens.specs.declared.Options.{Options}
use Rattle.tokens.specs.Token.{item_set}
use Rattle.tokens.proofs.lexer.item_set.Goals as goal

-- all but the atoms that take a byte
assertion : (o : Options) (a : Atom) → OneOf (5 ∷ 6 ∷ 7 ∷ 8 ∷ 9 ∷ 10 ∷ 11 ∷ []) (tag_of atom.the_type a) → empty_set ≡ item_set o a
unfolding item_set
assertion o (Byte b) h = absurd (miss (5 ∷ 6 ∷ 7 ∷ 8 ∷ 9 ∷ 10 ∷ 11 ∷ []) 0 tt h)
assertion o (OfKind k) h = absurd (miss (5 ∷ 6 ∷ 7 ∷ 8 ∷ 9 ∷ 10 ∷ 11 ∷ []) 1 tt h)
assertion o (NotOfKind k) h = absurd (miss (5 ∷ 6 ∷ 7 ∷ 8 ∷ 9 ∷ 10 ∷ 11 ∷ []) 2 tt h)
assertion o Dot h = absurd (miss (5 ∷ 6 ∷ 7 ∷ 8 ∷ 9 ∷ 10 ∷ 11 ∷ []) 3 tt h)
assertion o NotNewline h = absurd (miss (5 ∷ 6 ∷ 7 ∷ 8 ∷ 9 ∷ 10 ∷ 11 ∷ []) 4 tt h)
assertion o Start h = refl
assertion o LastLine h = refl
assertion o End h = refl
assertion o Caret h = refl
assertion o Dollar h = refl
assertion o WordEdge h = refl
assertion o NoWordEdge h = refl

pub returns-then-options : goal.returns-then-options
unfolding item_set
returns-then-options c =
    let args = c.args in
    let all : args.options.dotall ≡ true = c.if-options.true in
    rw (c.in-Dot.is, all) c.full.ensures

pub returns-in-Byte : goal.returns-in-Byte
unfolding item_set
returns-in-Byte c =
    rw (c.in-Byte.is, ← c.empty.ensures, ← c.insert.ensures) c.cased.ensures

pub returns-in-OfKind : goal.returns-in-OfKind
unfolding item_set
returns-in-OfKind c = rw c.in-OfKind.is c.of_kind.ensures

pub returns-in-NotOfKind : goal.returns-in-NotOfKind
unfolding item_set
returns-in-NotOfKind c = rw c.in-NotOfKind.is c.not_of_kind.ensures

pub returns-else-options : goal.returns-else-options
unfolding item_set
returns-else-options c =
    let args = c.args in
    let all : args.options.dotall ≡ false = c.if-options.false in
    rw (c.in-Dot.is, all) c.all_but_newline.ensures

pub returns-in-NotNewline : goal.returns-in-NotNewline
unfolding item_set
returns-in-NotNewline c = rw c.in-NotNewline.is c.all_but_newline-in-NotNewline.ensures

pub returns-in_default : goal.returns-in_default
returns-in_default c =
    let args = c.args in
    c.empty-in_default.ensures ∙ assertion args.options args.atom (opened c.in_default.in_default-own.keys6)
