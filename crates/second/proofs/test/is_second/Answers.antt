-- `second::test::is_second` meets its contract: the header settles it, or what the entries name.
use native.Mathlib.Omega.{arith}
use lib.ListN.{length}
use borrow.Author.Tests.{lt-leb}
use Rattle.second.specs.Layout.{second_words}
use Rattle.second.proofs.Passing.{too_few, few-entries, header-fails, header-holds}
use Rattle.second.proofs.test.is_second.Goals as goal

pub returns-then-second-lt-SECOND_WORDS : goal.returns-then-second-lt-SECOND_WORDS
returns-then-second-lt-SECOND_WORDS c =
    too_few c.args.words.now c.args.second.now (lt-leb second_words (length c.args.second.now) c.if-second-lt-SECOND_WORDS.true)

pub returns-then-not-second-counts : goal.returns-then-not-second-counts
returns-then-not-second-counts c =
    let t = c.args.words.now in
    let b = c.args.second.now in
    header-fails t b c.word-rules.result c.word-positions.result c.word-rules.ensures c.word-positions.ensures (omega (arith, c.if-second-lt-SECOND_WORDS.false))
    c.if-not-second-counts.true

pub names-all-requires : goal.names-all-requires
names-all-requires c =
    let t = c.args.words.now in
    let b = c.args.second.now in (
      omega arith,
      few-entries t b c.word-rules.result c.word-positions.result c.word-rules.ensures c.word-positions.ensures
          c.if-not-second-counts.false,
    )

pub returns : goal.returns
returns c =
    let t = c.args.words.now in
    let b = c.args.second.now in
    header-holds t b c.word-rules.result c.word-positions.result c.word-rules.ensures c.word-positions.ensures (omega (arith, c.if-second-lt-SECOND_WORDS.false))
    c.if-not-second-counts.false
    c.names-all.result c.names-all.ensures c.inside.result c.pending_inside.result c.inside.ensures c.pending_inside.ensures
