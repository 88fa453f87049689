-- What a token is. Assumes nothing: these are definitions.
use Rattle.std.specs.Prelude.{ℕ}
use Rattle.atoms.specs.declared.Atom.{Atom}
use Rattle.tokens.specs.declared.Options.{Options}

-- what stands at a place outside a class
pub data Token : Type 0 where
  -- nothing: the pattern has ended
  Finish : Token
  -- `|`, `)` and `[`
  Bar : Token
  Close : Token
  Class : Token
  -- a byte, an escape or `.`: an item, or an assertion
  One : Atom → Token
  -- a group's opening, and the options inside it
  Open : Options → Token
  -- an option setting, and the options after it
  Set : Options → Token
  -- a comment, or a quote's mark, and the options after it
  Note : Options → Token
  -- a comment that is not closed
  Unclosed : Token
  -- a quantifier: the least number of copies, and how many more
  Repeat : (least extra : ℕ) → Token
  -- none of these
  Bad : Token

-- a token with its own lowest fault or 0, and the bytes it takes; 0 bytes where it is faulty
pub record Lexeme : Type 0 where
  pub fault : ℕ
  pub size : ℕ
  pub token : Token
