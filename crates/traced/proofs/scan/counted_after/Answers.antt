-- `traced::scan::counted_after` meets its contract: no rule has a smallest length, or the starts
-- after the byte say which positions count.
use mathlib.Core.Path.{◌≡◌, sym, ap, ap₂, ◌∙◌}
use mathlib.Core.Bool.{false}
use mathlib.Core.List.{List}
use Prim.Native.Nat.{ℕ, suc, ◌+◌, ◌<◌, ◌≤◌}
use native.Mathlib.Numerals.{add-one}
use native.Mathlib.Omega.{arith}
use lib.ListN.{length}
use Rattle.sets.specs.Set.{intersection_of}
use Rattle.kinds.specs.declared.Side.{Side}
use Rattle.kinds.specs.Side.{side_of}
use Rattle.table.specs.Layout.{table_words, max_positions, lengths_at}
use Rattle.table.specs.Automaton.{Automaton, automaton}
use Rattle.table.proofs.Test.{passes}
use Rattle.steps.specs.Step.{keepers_of, stepped_starts}
use Rattle.steps.proofs.Bounds.{words-good}
use Rattle.steps.proofs.Carrying.{list_on_lem}
use Rattle.steps.proofs.TableSets.{set_on_lem}
use Rattle.lengths.specs.Long.{long_in}
use Rattle.lengths.proofs.Long.{all-long}
use Rattle.stream.specs.declared.Stream.{Stream}
use Rattle.traced.specs.Byte.{live_next}
use Rattle.traced.proofs.scan.counted_after.Goals as goal

word-there : (n : ℕ) → table_words ≤ n → lengths_at < n
word-there n h = omega arith

-- the starts after a byte, by the parts that they are worked out of
by_parts : (w : Automaton) (s : Stream) (next live : List ℕ) (x : ℕ) {was reached keepers : List ℕ} {side : Side} → keepers ≡ keepers_of w
    → was ≡ intersection_of s.live keepers → reached ≡ intersection_of next keepers → side ≡ side_of x
    → stepped_starts w false s.last side was live reached s.taken
    ≡ stepped_starts w false s.last (side_of x) (intersection_of s.live (keepers_of w)) live (intersection_of next (keepers_of w)) s.taken
by_parts w s next live x e f g h = cc

pub bounds-words-707 : goal.bounds-words-707
bounds-words-707 c = let t = c.args.words.now in word-there (length t) (passes t c.requires.0).long

pub returns-then-words-eq0 : goal.returns-then-words-eq0
returns-then-words-eq0 c =
    let a = c.args in
    let t = a.words.now in
    all-long t a.next (live_next (automaton t) a.s a.live.now a.byte) (suc a.s.taken) (words-good a.next _ c.well_formed.1.1.0) c.if-words-eq0.true

pub overflow_add-s : goal.overflow_add-s
overflow_add-s c = omega (arith, c.requires.3)

pub returns : goal.returns
returns c =
    let a = c.args in
    let t = a.words.now in
    let long = (passes t c.requires.0).long in
    let w = automaton t in
    let starts =
    c.step_starts-stepped.ensures
    ∙ sym (list_on_lem t max_positions (stepped_starts w false a.s.last c.side_of.result c.intersection-was.result a.live.now c.intersection-reached.result a.s.taken) long)
    ∙ by_parts w a.s a.next a.live.now a.byte c.requires.1.keepers_are c.intersection-was.ensures c.intersection-reached.ensures c.side_of.ensures
    ∙ ap (λ (n : List ℕ). stepped_starts w false a.s.last (side_of a.byte) (intersection_of a.s.live (keepers_of w)) a.live.now (intersection_of n (keepers_of w)) a.s.taken) c.requires.2 in
    c.long_in.ensures ∙ set_on_lem t (long_in w a.next c.step_starts-stepped.result (a.s.taken + 1)) long
    ∙ ap₂ (λ (l : List ℕ) (n : ℕ). long_in w a.next l n) starts (add-one a.s.taken)
