-- `states::put_state` meets its contract: the words of the state are copied over the first ones.
use mathlib.Core.Path.{ap, ◌∙◌}
use mathlib.Core.List.{List, ◌++◌}
use lib.ListN.{drop}
use Rattle.states.proofs.Words.{laid, stored_is}
use Rattle.states.proofs.put_state.Goals as goal

pub returns : goal.returns
returns c =
    let a = c.args in
    ap (λ (l : List _). l ++ drop 15 a.words.now) (c.copy_from_slice.ensures.after ∙ laid a.s c.from.result c.from.ensures)
    ∙ stored_is a.s a.words.now
