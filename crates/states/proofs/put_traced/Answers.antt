-- `states::put_traced` meets its contract: each list of starts goes where the words before it end.
use Rattle.std.proofs.Common.{rules}
use Rattle.states.proofs.Words.{all_stored}
use Rattle.states.proofs.put_traced.Goals as goal

pub returns : goal.returns
returns c =
    let a = c.args in
    all_stored a.z a.words.now c.put_state.ensures c.copy_from_slice.ensures.after c.copy_from_slice-2.ensures.after c.copy_from_slice-3.ensures.after
    (search rules) (search rules) (search rules)
