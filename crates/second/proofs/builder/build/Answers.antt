-- `second::builder::build` meets its contract: the parts are laid one after the other.
use mathlib.Core.Path.{refl, sym, ◌∙◌}
use Prim.Native.Nat.{◌≤◌}
use native.Mathlib.Omega.{arith}
use lib.ListN.{length}
use Rattle.table.specs.Automaton.{automaton}
use Rattle.table.proofs.Test.{passes}
use Rattle.second.specs.Layout.{second_words}
use Rattle.second.proofs.Laying.{some, first-long, next-long, recorded, third-long, last-long, laid-all, no_table, too_short, all-built}
use Rattle.second.proofs.builder.build.Goals as goal

pub returns-then-not-is_table : goal.returns-then-not-is_table
returns-then-not-is_table c =
    let both =
    no_table c.args.words.now c.args.second.now (sym c.is_table.ensures ∙ c.if-not-is_table.true) in
    record { number = both.0; words = both.1 }

pub returns-then-second-lt-SECOND_WORDS : goal.returns-then-second-lt-SECOND_WORDS
returns-then-second-lt-SECOND_WORDS c =
    let both =
    let t = c.args.words.now in
    let b = c.args.second.now in
    let table = sym c.is_table.ensures ∙ c.if-not-is_table.false in
    too_short t b table c.if-second-lt-SECOND_WORDS.true in
    record { number = both.0; words = both.1 }

pub gather-count-requires : goal.gather-count-requires
gather-count-requires c =
    let t = c.args.words.now in
    let b = c.args.second.now in
    let table = sym c.is_table.ensures ∙ c.if-not-is_table.false in
    let long : second_words ≤ length b = omega (arith, c.if-second-lt-SECOND_WORDS.false) in
    (table, long)

pub overflow_mul-count : goal.overflow_mul-count
overflow_mul-count c =
    let t = c.args.words.now in
    let b = c.args.second.now in
    let table = sym c.is_table.ensures ∙ c.if-not-is_table.false in
    let long : second_words ≤ length b = omega (arith, c.if-second-lt-SECOND_WORDS.false) in
    let w = automaton t in
    let few = some w b long c.gather-count.result c.gather-count.ensures.count c.gather-count.new.second c.gather-count.ensures.words in
    omega (arith, few)

pub overflow_add-count : goal.overflow_add-count
overflow_add-count c =
    let t = c.args.words.now in
    let b = c.args.second.now in
    let table = sym c.is_table.ensures ∙ c.if-not-is_table.false in
    let long : second_words ≤ length b = omega (arith, c.if-second-lt-SECOND_WORDS.false) in
    let w = automaton t in
    let few = some w b long c.gather-count.result c.gather-count.ensures.count c.gather-count.new.second c.gather-count.ensures.words in
    omega (arith, few)

pub clear-requires : goal.clear-requires
clear-requires c =
    let t = c.args.words.now in
    let b = c.args.second.now in
    let table = sym c.is_table.ensures ∙ c.if-not-is_table.false in
    let long : second_words ≤ length b = omega (arith, c.if-second-lt-SECOND_WORDS.false) in
    let w = automaton t in
    let few = some w b long c.gather-count.result c.gather-count.ensures.count c.gather-count.new.second c.gather-count.ensures.words in
    (omega (arith, few), omega (arith, first-long w b long c.gather-count.result c.gather-count.ensures.count c.gather-count.new.second c.gather-count.ensures.words, long))

pub fill-requires : goal.fill-requires
fill-requires c =
    let t = c.args.words.now in
    let b = c.args.second.now in
    let table = sym c.is_table.ensures ∙ c.if-not-is_table.false in
    let long : second_words ≤ length b = omega (arith, c.if-second-lt-SECOND_WORDS.false) in
    let w = automaton t in
    let few = some w b long c.gather-count.result c.gather-count.ensures.count c.gather-count.new.second c.gather-count.ensures.words in
    (table, omega (arith, next-long w b long c.gather-count.result c.gather-count.ensures.count c.gather-count.new.second c.gather-count.ensures.words c.clear.new.second c.clear.ensures, long), c.gather-count.ensures.count, recorded w b long c.gather-count.result c.gather-count.ensures.count c.gather-count.new.second c.gather-count.ensures.words c.clear.new.second c.clear.ensures)

pub overflow_mul-count-2 : goal.overflow_mul-count-2
overflow_mul-count-2 c =
    let t = c.args.words.now in
    let b = c.args.second.now in
    let table = sym c.is_table.ensures ∙ c.if-not-is_table.false in
    let long : second_words ≤ length b = omega (arith, c.if-second-lt-SECOND_WORDS.false) in
    let w = automaton t in
    let few = some w b long c.gather-count.result c.gather-count.ensures.count c.gather-count.new.second c.gather-count.ensures.words in
    omega (arith, few)

pub overflow_add-count-2 : goal.overflow_add-count-2
overflow_add-count-2 c =
    let t = c.args.words.now in
    let b = c.args.second.now in
    let table = sym c.is_table.ensures ∙ c.if-not-is_table.false in
    let long : second_words ≤ length b = omega (arith, c.if-second-lt-SECOND_WORDS.false) in
    let w = automaton t in
    let few = some w b long c.gather-count.result c.gather-count.ensures.count c.gather-count.new.second c.gather-count.ensures.words in
    omega (arith, few)

pub clear-requires-2 : goal.clear-requires-2
clear-requires-2 c =
    let t = c.args.words.now in
    let b = c.args.second.now in
    let table = sym c.is_table.ensures ∙ c.if-not-is_table.false in
    let long : second_words ≤ length b = omega (arith, c.if-second-lt-SECOND_WORDS.false) in
    let w = automaton t in
    let few = some w b long c.gather-count.result c.gather-count.ensures.count c.gather-count.new.second c.gather-count.ensures.words in
    (omega (arith, few), omega (arith, third-long w b long c.gather-count.result c.gather-count.ensures.count c.gather-count.new.second c.gather-count.ensures.words c.clear.new.second c.clear.ensures c.fill.new.second c.fill.ensures, long))

pub resting_row-other-requires : goal.resting_row-other-requires
resting_row-other-requires c =
    let t = c.args.words.now in
    let b = c.args.second.now in
    let table = sym c.is_table.ensures ∙ c.if-not-is_table.false in
    let long : second_words ≤ length b = omega (arith, c.if-second-lt-SECOND_WORDS.false) in
    let w = automaton t in
    let few = some w b long c.gather-count.result c.gather-count.ensures.count c.gather-count.new.second c.gather-count.ensures.words in
    (omega (arith, last-long w b long c.gather-count.result c.gather-count.ensures.count c.gather-count.new.second c.gather-count.ensures.words c.clear.new.second c.clear.ensures c.fill.new.second c.fill.ensures c.clear-2.new.second c.clear-2.ensures, long), few)

pub resting_row-word-requires : goal.resting_row-word-requires
resting_row-word-requires c =
    let t = c.args.words.now in
    let b = c.args.second.now in
    let table = sym c.is_table.ensures ∙ c.if-not-is_table.false in
    let long : second_words ≤ length b = omega (arith, c.if-second-lt-SECOND_WORDS.false) in
    let w = automaton t in
    let few = some w b long c.gather-count.result c.gather-count.ensures.count c.gather-count.new.second c.gather-count.ensures.words in
    (omega (arith, last-long w b long c.gather-count.result c.gather-count.ensures.count c.gather-count.new.second c.gather-count.ensures.words c.clear.new.second c.clear.ensures c.fill.new.second c.fill.ensures c.clear-2.new.second c.clear-2.ensures, long), few)

pub resting_row-newline-requires : goal.resting_row-newline-requires
resting_row-newline-requires c =
    let t = c.args.words.now in
    let b = c.args.second.now in
    let table = sym c.is_table.ensures ∙ c.if-not-is_table.false in
    let long : second_words ≤ length b = omega (arith, c.if-second-lt-SECOND_WORDS.false) in
    let w = automaton t in
    let few = some w b long c.gather-count.result c.gather-count.ensures.count c.gather-count.new.second c.gather-count.ensures.words in
    (omega (arith, last-long w b long c.gather-count.result c.gather-count.ensures.count c.gather-count.new.second c.gather-count.ensures.words c.clear.new.second c.clear.ensures c.fill.new.second c.fill.ensures c.clear-2.new.second c.clear-2.ensures, long), few)

pub bounds-words-1 : goal.bounds-words-1
bounds-words-1 c =
    let t = c.args.words.now in
    let b = c.args.second.now in
    let table = sym c.is_table.ensures ∙ c.if-not-is_table.false in
    omega (arith, (passes t table).long)

pub bounds-words-2 : goal.bounds-words-2
bounds-words-2 c =
    let t = c.args.words.now in
    let b = c.args.second.now in
    let table = sym c.is_table.ensures ∙ c.if-not-is_table.false in
    omega (arith, (passes t table).long)

pub put_record-requires : goal.put_record-requires
put_record-requires c =
    let t = c.args.words.now in
    let b = c.args.second.now in
    let table = sym c.is_table.ensures ∙ c.if-not-is_table.false in
    let long : second_words ≤ length b = omega (arith, c.if-second-lt-SECOND_WORDS.false) in
    let w = automaton t in
    let few = some w b long c.gather-count.result c.gather-count.ensures.count c.gather-count.new.second c.gather-count.ensures.words in
    omega (arith, last-long w b long c.gather-count.result c.gather-count.ensures.count c.gather-count.new.second c.gather-count.ensures.words c.clear.new.second c.clear.ensures c.fill.new.second c.fill.ensures c.clear-2.new.second c.clear-2.ensures, long)

pub returns : goal.returns
unfolding automaton
returns c =
    let both =
    let t = c.args.words.now in
    let b = c.args.second.now in
    let table = sym c.is_table.ensures ∙ c.if-not-is_table.false in
    let long : second_words ≤ length b = omega (arith, c.if-second-lt-SECOND_WORDS.false) in
    let w = automaton t in
    let few = some w b long c.gather-count.result c.gather-count.ensures.count c.gather-count.new.second c.gather-count.ensures.words in
    all-built t b table long c.put_record.new.second
    (laid-all w b long c.gather-count.result c.gather-count.ensures.count c.gather-count.new.second c.gather-count.ensures.words c.clear.new.second c.clear.ensures c.fill.new.second c.fill.ensures c.clear-2.new.second c.clear-2.ensures _ _ c.resting_row-other.result c.resting_row-word.result c.resting_row-newline.result refl refl c.resting_row-other.ensures c.resting_row-word.ensures c.resting_row-newline.ensures c.put_record.new.second c.put_record.ensures) in
    record { number = both.0; words = both.1 }
