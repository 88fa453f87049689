-- `table::empty` meets its contract: words too few are left alone; else the format is written, and
-- zeros from there on up to the end of the table.
use Rattle.std.proofs.Common.{◌≡◌, length, take, drop, set, arith, length-take, length-drop, length-set}
use Rattle.table.specs.Layout.{format}
use Rattle.table.proofs.Emptying.{emptied-short, number-long, filled-is}
use Rattle.table.proofs.empty.Goals as goal

pub returns-then-words-lt-TABLE_WORDS : goal.returns-then-words-lt-TABLE_WORDS
returns-then-words-lt-TABLE_WORDS c = emptied-short c.args.words.now c.if-words-lt-TABLE_WORDS.true

pub returns : goal.returns
returns c =
    let t = c.args.words.now in
    let n : length (take 16383 (drop 1 (set t 0 format))) ≡ 16383 =
    omega (arith, length-take 16383 (drop 1 (set t 0 format)), length-drop 1 (set t 0 format), length-set t 0 format) in
    (number-long t (omega arith), filled-is t c.fill.new.self _ (omega arith) n (c.fill.ensures.after (λ y h. h)))
