-- `second::builder::key_at` meets its contract: the key is read from the entry's words.
use Rattle.second.specs.Layout.{entry_pending}
use Rattle.second.proofs.builder.key_at.Goals as goal

pub returns : goal.returns
returns c =
    λ i. record { live = c.words_at-live.ensures i; held = c.words_at-held.ensures i; pending = entry_pending c.args.second.now c.args.e; last = c.from-last.ensures i }
