-- `second::builder::put_entry` meets its contract: the sixteen words are those of the key.
use mathlib.Core.Path.{ap, ◌∙◌}
use mathlib.Core.List.{List}
use Prim.Native.Nat.{ℕ}
use Rattle.table.specs.Invariants.{copied}
use Rattle.table.proofs.Test.{passes}
use Rattle.second.specs.Layout.{record_at}
use Rattle.second.proofs.Gathering.{record_is}
use Rattle.second.proofs.builder.put_entry.Goals as goal

pub returns : goal.returns
returns c =
    let a = c.args in
    let t = a.words.now in
    c.put_record.ensures ∙ ap (λ (l : List ℕ). copied (record_at a.e) 16 l a.second.now)
    (record_is t (passes t c.requires.0).long a.k c.from-side.result c.ending-own.result c.late_ending-other.result c.late_ending-word.result c.late_ending-newline.result c.size-busy.result c.from-side.ensures c.ending-own.ensures c.late_ending-other.ensures c.late_ending-word.ensures c.late_ending-newline.ensures c.size-busy.ensures)
