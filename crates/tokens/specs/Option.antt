-- What begins with `(`: openings, option settings, comments, and what is refused. Assumes nothing:
-- these are definitions.
use Rattle.std.specs.Prelude.{Bool, true, false, cond, List, [], ◌∷◌, ℕ, suc, ◌+◌, eqb, ltb, length, get_or, drop}
use Rattle.tokens.specs.declared.Options.{Options}
use Rattle.tokens.specs.Lexeme.{Token}
use Rattle.tokens.specs.Lexeme.{Open, Set, Note, Unclosed, Bad}
use Rattle.tokens.specs.Lexeme.{Lexeme}

-- a token of so many bytes
abbrev pub plain : ℕ → Token → Lexeme
plain size token = record { fault = 0; size = size; token = token }

-- a faulty token
abbrev pub faulty : ℕ → Lexeme
faulty fault = record { fault = fault; size = 0; token = Bad }

-- the options with `i` on or off
abbrev pub with_caseless : Bool → Options → Options
with_caseless b o = record { caseless = b; dotall = o.dotall; lines = o.lines; quoted = o.quoted }

-- the options with `s` on or off
abbrev pub with_dot_all : Bool → Options → Options
with_dot_all b o = record { caseless = o.caseless; dotall = b; lines = o.lines; quoted = o.quoted }

-- "Add flag 4 and option `m`": the options with `m` on or off
abbrev pub with_lines : Bool → Options → Options
with_lines b o = record { caseless = o.caseless; dotall = o.dotall; lines = b; quoted = o.quoted }

-- "Options `i` and `s`: `(?is-i)`, `(?i:..)`, at least one letter, at most one hyphen, applied left
-- to right", and 14 lets `m` through. v is the pattern after the bytes read so far, `size` their
-- number from the `(` on, `on` until a hyphen, `any` once a letter was read; 14, "any other `(?`",
-- for anything else.
unfoldable pub letters_of : (on any : Bool) → Options → (size : ℕ) → List ℕ → Lexeme
letters_of on any o size [] = faulty 14
letters_of on any o size (c ∷ v) =
    let caseless : Lexeme = letters_of on true (with_caseless on o) (size + 1) v in
    let dot_all : Lexeme = letters_of on true (with_dot_all on o) (size + 1) v in
    let lines : Lexeme = letters_of on true (with_lines on o) (size + 1) v in
    let off : Lexeme = letters_of false any o (size + 1) v in
    cond (eqb c 105) caseless
    (cond (eqb c 115) dot_all
    (cond (eqb c 109) lines
    (cond (eqb c 45) (cond on off (faulty 14))
    (cond (eqb c 41) (cond any (plain (size + 1) (Set o)) (faulty 14))
    (cond (eqb c 58) (cond any (plain (size + 1) (Open o)) (faulty 14))
    (faulty 14))))))

-- how many bytes stand before the first `)`
unfoldable pub before_close : List ℕ → ℕ
before_close [] = 0
before_close (c ∷ v) = cond (eqb c 41) 0 (suc (before_close v))

-- "`(?#..)`": v is the pattern after `(?#`. A comment ends at the first `)`; one without it has the
-- rest of the pattern.
unfoldable pub comment_of : Options → List ℕ → Lexeme
comment_of o v =
    cond (ltb (before_close v) (length v)) (plain (4 + before_close v) (Note o)) (plain (3 + before_close v) Unclosed)

-- What stands at a `(` with v after it: "Groups `(..)`, `(?:..)`"; "any other `(?`; `(*`" are 14.
unfoldable pub opening_of : Options → List ℕ → Lexeme
opening_of o v =
    cond (eqb (get_or v 0 0) 42) (faulty 14)
    (cond (eqb (get_or v 0 0) 63)
    (cond (eqb (get_or v 1 0) 58) (plain 3 (Open o))
    (cond (eqb (get_or v 1 0) 35) (comment_of o (drop 2 v))
    (letters_of true false o 2 (drop 1 v))))
    (plain 1 (Open o)))
