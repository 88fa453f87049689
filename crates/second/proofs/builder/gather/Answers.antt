-- `second::builder::gather` meets its contract. The loop's invariant: the records after the first
-- are those of the entries found so far.
use mathlib.Core.Path.{◌≡◌, sym, ap, ◌∙◌}
use Prim.Native.Nat.{ℕ, ◌+◌, ◌*◌, ◌≤◌}
use native.Mathlib.Omega.{arith}
use lib.ListN.{length}
use Rattle.table.specs.Automaton.{automaton}
use Rattle.table.proofs.Over.{written_none, written_all}
use Rattle.second.specs.Layout.{max_entries}
use Rattle.second.specs.Entries.{found, entries, second_word}
use Rattle.second.proofs.Found.{found-few}
use Rattle.second.proofs.Gathered.{gather-start, gather-count, gather-more, words-in, found-start, parts}
use Rattle.second.proofs.builder.gather.Goals as goal

pub put_entry-requires : goal.put_entry-requires
put_entry-requires c =
    (c.requires.0, c.requires.1, omega arith)

pub loop-n-init : goal.loop-n-init
loop-n-init c =
    (sym (found-start (automaton c.args.words.now)), written_none (omega arith))

pub visit-count-requires : goal.visit-count-requires
visit-count-requires c =
    let a = c.args in
    let w = automaton a.words.now in
    let t = a.second.now in
    let t₀ = c.put_entry.new.second in
    let first = gather-start w t t₀ c.requires.1 c.start_entry.result c.start_entry.ensures c.put_entry.ensures in
    (c.requires.0, omega (arith, c.requires.1, c.loop-n.invariant.1.long, first.long), omega (arith, c.loop-n.invariant.0, (found-few w c.loop-n.n).1))

pub loop-n-preserved : goal.loop-n-preserved
loop-n-preserved c =
    let a = c.args in
    let w = automaton a.words.now in
    let t = a.second.now in
    let t₀ = c.put_entry.new.second in
    let first = gather-start w t t₀ c.requires.1 c.start_entry.result c.start_entry.ensures c.put_entry.ensures in
    let l = c.loop-n in
    let one : 1 ≤ l.count = omega (arith, l.invariant.0, (found-few w l.n).0) in
    let read = words-in w t t₀ l.second l.count c.requires.1 one (omega (arith, l.invariant.0, (found-few w l.n).1)) first l.invariant.1 in (
      gather-count w l.second l.n (omega arith) l.count l.invariant.0 read c.visit-count.result c.visit-count.ensures.count,
      gather-more w l.second l.n (omega arith) l.count l.invariant.0 read 32 t₀ (omega arith) l.invariant.1 c.visit-count.result c.visit-count.new.second c.visit-count.ensures.count c.visit-count.ensures.words,
    )

pub returns : goal.returns
returns c =
    let a = c.args in
    let w = automaton a.words.now in
    let t = a.second.now in
    let t₀ = c.put_entry.new.second in
    let first = gather-start w t t₀ c.requires.1 c.start_entry.result c.start_entry.ensures c.put_entry.ensures in
    let l = c.loop-n in
    let one : 1 ≤ l.count = omega (arith, l.invariant.0, (found-few w l.n).0) in
    let so_far = parts w 16 32 (16 + l.count * 16) (second_word w (entries w)) t t₀ l.second (omega arith) (omega arith) first l.invariant.1 in
    let all : l.n ≡ max_entries * 256 = omega arith in
    let count : l.count ≡ length (entries w) = l.invariant.0 ∙ ap (λ (m : ℕ). length (found w m)) all in
    record {
      count = count;
      words = written_all so_far (ap (λ (m : ℕ). 16 + m * 16) count);
    }
