-- The token at a place outside a class, and the set of bytes that an item takes. Assumes nothing:
-- these are definitions.
use Rattle.std.specs.Prelude.{Bool, false, cond, List, [], ◌∷◌, ℕ, eqb, get_or}
use Rattle.sets.specs.Set.{set_of, empty_set, full_set, inserted, complement_of}
use Rattle.kinds.specs.Kind.{is_kind, is_not_kind}
use Rattle.kinds.specs.Case.{case_closed}
use Rattle.atoms.specs.declared.Atom.{Atom}
use Rattle.atoms.specs.declared.Atom.TheVariants.{Byte, OfKind, NotOfKind, Dot, NotNewline, Start, LastLine, End, Caret, Dollar, WordEdge, NoWordEdge}
use Rattle.atoms.specs.Escape.{Part}
use Rattle.tokens.specs.declared.Options.{Options}
use Rattle.tokens.specs.Lexeme.{Token}
use Rattle.tokens.specs.Lexeme.{Finish, Bar, Close, Class, One, Open, Set, Note, Unclosed, Repeat, Bad}
use Rattle.tokens.specs.Lexeme.{Lexeme}
use Rattle.atoms.specs.Escape.{escape_of}
use Rattle.atoms.specs.Quote.{is_mark, opens_quote}
use Rattle.atoms.specs.Raw.{with_raw}
use Rattle.tokens.specs.Option.{plain, faulty, opening_of}
use Rattle.tokens.specs.Quantifier.{form_of, quantifier_of}

-- an escape as a token
unfoldable pub escaped : Part → Lexeme
escaped p = cond (eqb p.fault 0) (plain p.size (One p.atom)) (faulty p.fault)

-- the options with a quote open or not
abbrev pub with_quoted : Bool → Options → Options
with_quoted b o = record { caseless = o.caseless; dotall = o.dotall; lines = o.lines; quoted = b }

-- "A token is a byte, an escape, a quantifier with its mark, .. an opening, an option setting."
-- What the byte c starts outside a quote, with v after it, where o are the options there. "A byte
-- stands for itself. .. `]` and `}` outside a class are literal."
unfoldable pub unquoted_of : Options → (c : ℕ) → List ℕ → Lexeme
unquoted_of o c v =
    cond (eqb c 92) (escaped (escape_of false v))
    (cond (eqb c 91) (plain 1 Class)
    (cond (eqb c 40) (opening_of o v)
    (cond (eqb c 41) (plain 1 Close)
    (cond (eqb c 124) (plain 1 Bar)
    (cond (eqb c 46) (plain 1 (One Dot))
    (cond (eqb c 94) (plain 1 (One Caret))
    (cond (eqb c 36) (plain 1 (One Dollar))
    (cond (form_of (c ∷ v)).is (quantifier_of (c ∷ v))
    (plain 1 (One (Byte c)))))))))))

-- The token at the front of v, where o are the options there, with its faults but that of a raw
-- control byte. The marks of quotes are notes, as comments are: "An empty quote and a lone `\E`
-- count as comments". In a quote each byte stands for itself; "the literal interpretation continues
-- to the end of the pattern" where no `\E` ends it (source document 000).
unfoldable pub spelled_of : Options → List ℕ → Lexeme
spelled_of o [] = plain 0 Finish
spelled_of o (c ∷ v) =
    cond (is_mark o.quoted c (get_or v 0 0)) (plain 2 (Note (with_quoted (opens_quote (get_or v 0 0)) o)))
    (cond o.quoted (plain 1 (One (Byte c)))
    (unquoted_of o c v))

-- A token with this fault. A quantifier stays one: it also has the fault of what stands before it.
abbrev pub faulty_as : ℕ → Token → Lexeme
faulty_as fault Finish = faulty fault
faulty_as fault Bar = faulty fault
faulty_as fault Close = faulty fault
faulty_as fault Class = faulty fault
faulty_as fault (One a) = faulty fault
faulty_as fault (Open o) = faulty fault
faulty_as fault (Set o) = faulty fault
faulty_as fault (Note o) = faulty fault
faulty_as fault Unclosed = faulty fault
faulty_as fault (Repeat least extra) = record { fault = fault; size = 0; token = Repeat 0 0 }
faulty_as fault Bad = faulty fault

-- the token at the front of v, with the fault of a raw control byte in it
unfoldable pub lexeme_of : Options → List ℕ → Lexeme
lexeme_of o v =
    let l : Lexeme = spelled_of o v in
    let fault : ℕ = with_raw l.fault l.size v in
    cond (eqb fault 0) l (faulty_as fault l.token)

-- all bytes but 10
abbrev pub all_but_newline : List ℕ
all_but_newline = complement_of (inserted empty_set 10)

-- The bytes that an item takes, with its options resolved. Caseless: "adds the other case of each
-- member". "`.` is any byte but 10, or any byte under dot-all. `\N` is any byte but 10 always." An
-- assertion takes none.
unfoldable pub item_set : Options → Atom → List ℕ
item_set o (Byte b) = cond o.caseless (case_closed (inserted empty_set b)) (inserted empty_set b)
item_set o (OfKind k) = set_of (is_kind k)
item_set o (NotOfKind k) = set_of (is_not_kind k)
item_set o Dot = cond o.dotall full_set all_but_newline
item_set o NotNewline = all_but_newline
item_set o Start = empty_set
item_set o LastLine = empty_set
item_set o End = empty_set
item_set o Caret = empty_set
item_set o Dollar = empty_set
item_set o WordEdge = empty_set
item_set o NoWordEdge = empty_set
