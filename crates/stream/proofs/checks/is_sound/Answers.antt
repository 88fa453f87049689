-- `stream::checks::is_sound` meets its contract: with words enough it is the test of a table.
use mathlib.Core.Path.{sym, ap, ◌∙◌}
use mathlib.Core.Bool.{Bool, ◌&&◌}
use lib.ListN.{length}
use borrow.Author.Tests.{lt-leb, le-leb}
use Rattle.table.specs.Layout.{table_words}
use Rattle.table.specs.Automaton.{automaton}
use Rattle.stream.specs.Valid.{sound}
use Rattle.stream.proofs.checks.is_sound.Goals as goal

pub returns-then-words-lt-TABLE_WORDS : goal.returns-then-words-lt-TABLE_WORDS
returns-then-words-lt-TABLE_WORDS c =
    let c-if1 = c.if-words-lt-TABLE_WORDS in
    let c-start = c in
    let a = c-start.args in
    let t = a.words.now in
    sym (ap (λ (b : Bool). b && sound (automaton t) a.s) (lt-leb table_words (length t) c-if1.true))

pub fits_table-requires : goal.fits_table-requires
fits_table-requires c =
    let c-if1 = c.if-words-lt-TABLE_WORDS in
    c-if1.false

pub returns : goal.returns
returns c =
    let c-fits-table = c.fits_table in
    let c-if1 = c.if-words-lt-TABLE_WORDS in
    let c-start = c in
    let a = c-start.args in
    let t = a.words.now in
    c-fits-table.ensures
    ∙ sym (ap (λ (b : Bool). b && sound (automaton t) a.s) (le-leb table_words (length t) c-if1.false))
