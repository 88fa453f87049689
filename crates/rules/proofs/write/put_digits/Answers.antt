-- `rules::write::put_digits` meets its contract: the word of the digits is written anew.
use Rattle.rules.proofs.Blocks.{one-put}
use Rattle.rules.proofs.Steps.{digits-is}
use Rattle.rules.proofs.write.put_digits.Goals as goal

pub returns : goal.returns
returns c =
    let a = c.args in
    let new = c.digits_with in
    digits-is a.at a.k a.new new.result a.words.now _ new.ensures (one-put a.at new.result a.words.now c.requires)
