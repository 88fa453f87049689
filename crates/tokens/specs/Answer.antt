-- What the answers of the functions stand for, in the words of the definitions. Assumes nothing:
-- these are definitions.
use Rattle.std.specs.Prelude.{true, ℕ, Option, Some, None, Result, Ok, Err}
use Rattle.refusals.specs.declared.Refusal.{Refusal}
use Rattle.refusals.specs.Refusal.{number_of, code_of}
use Rattle.tokens.specs.declared as declared
use Rattle.tokens.specs.declared.Copies.{Copies}
use Rattle.tokens.specs.declared.Token.TheVariants as code
use Rattle.tokens.specs.Lexeme.{Token, Lexeme, Finish, Bar, Close, Class, One, Open, Set, Note, Unclosed, Repeat, Bad}
use Rattle.tokens.specs.Quantifier.{Form, no_form}

-- a quantifier's numbers, both 0 where it is faulty
abbrev pub least_of : Result Copies Refusal → ℕ
least_of (Ok c) = c.least
least_of (Err r) = 0

abbrev pub extra_of : Result Copies Refusal → ℕ
extra_of (Ok c) = c.extra
extra_of (Err r) = 0

-- a quantifier without its mark, where one stands
abbrev pub quantifier : Option declared.Form.Form → Form
quantifier None = no_form
quantifier (Some f) = record { is = true; size = f.size; fault = code_of f.copies; least = least_of f.copies; extra = extra_of f.copies }

-- a token that is not faulty, or is a quantifier
abbrev pub token : declared.Token.Token → Token
token code.Finish = Finish
token code.Bar = Bar
token code.Close = Close
token code.Class = Class
token (code.One a) = One a
token (code.Open o) = Open o
token (code.Set o) = Set o
token (code.Note o) = Note o
token code.Unclosed = Unclosed
token (code.Repeat c) = Repeat (least_of c) (extra_of c)

-- its fault
abbrev pub own_fault : declared.Token.Token → ℕ
own_fault code.Finish = 0
own_fault code.Bar = 0
own_fault code.Close = 0
own_fault code.Class = 0
own_fault (code.One a) = 0
own_fault (code.Open o) = 0
own_fault (code.Set o) = 0
own_fault (code.Note o) = 0
own_fault code.Unclosed = 0
own_fault (code.Repeat c) = code_of c

-- the same of what a place gives, which is none where it is faulty
abbrev pub token_of : Result declared.Token.Token Refusal → Token
token_of (Ok t) = token t
token_of (Err r) = Bad

abbrev pub fault_of : Result declared.Token.Token Refusal → ℕ
fault_of (Ok t) = own_fault t
fault_of (Err r) = number_of r

-- a token of so many bytes
abbrev pub told : ℕ → Result declared.Token.Token Refusal → Lexeme
told size t = record { fault = fault_of t; size = size; token = token_of t }

abbrev pub lexeme : declared.Lexeme.Lexeme → Lexeme
lexeme l = told l.size l.token
