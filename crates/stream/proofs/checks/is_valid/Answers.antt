-- `stream::checks::is_valid` meets its contract: both tests of `valid`.
use mathlib.Core.Path.{ap, ap₂, ◌∙◌}
use mathlib.Core.Bool.{Bool, not, ◌&&◌}
use lib.ListN.{length}
use borrow.Author.Tests.{le-leb}
use Rattle.table.specs.Layout.{table_words}
use Rattle.table.specs.Automaton.{automaton}
use Rattle.stream.specs.Valid.{needs_starts, valid}
use Rattle.stream.proofs.checks.is_valid.Goals as goal

pub fits_table-requires : goal.fits_table-requires
fits_table-requires c = c.requires

pub returns : goal.returns
unfolding valid
returns c =
    let start = c in
    let t = start.args.words.now in
    ap₂ (λ (a b : Bool). a && not b) c.fits_table.ensures
    (c.needs_starts.ensures ∙ ap (λ (b : Bool). b && needs_starts (automaton t)) (le-leb table_words (length t) start.requires))
