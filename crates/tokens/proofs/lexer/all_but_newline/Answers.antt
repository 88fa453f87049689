-- `tokens::lexer::all_but_newline` meets its contract, by those of the functions that it calls.
use Rattle.tokens.proofs.lexer.all_but_newline.Goals as goal

pub returns : goal.returns
returns c = rw (← c.empty.ensures, ← c.insert.ensures) c.complement.ensures
