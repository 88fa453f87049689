-- `traced::scan::left_waiting` meets its contract: nothing waits after any byte but a newline, and
-- no pair before the first byte.
use mathlib.Core.Path.{ap, ◌∙◌}
use mathlib.Core.List.{List}
use Prim.Native.Nat.{ℕ}
use lib.ListN.{length}
use Rattle.kinds.specs.declared.Side.TheVariants.{Newline}
use Rattle.table.specs.Gaps.{between, before_last}
use Rattle.table.specs.Automaton.{Automaton, automaton}
use Rattle.steps.specs.Step.{ends_newly, number_on, rules_where}
use Rattle.steps.proofs.TableSets.{set_on_lem}
use Rattle.lengths.specs.Long.{long_in}
use Rattle.stream.specs.declared.Stream.{Stream}
use Rattle.stream.proofs.Bounds.{positions-word}
use Rattle.stream.proofs.Answers.{none-held, none-pending, line-held, start-pending, line-pending}
use Rattle.traced.specs.Byte.{counted}
use Rattle.traced.proofs.scan.left_waiting.Goals as goal

pub returns-then-byte-ne-NEWLINE : goal.returns-then-byte-ne-NEWLINE
returns-then-byte-ne-NEWLINE c =
    let c-empty = c.empty in
    let c-if1 = c.if-byte-ne-NEWLINE in
    let c-start = c in
    let a = c-start.args in
    let w = automaton a.words.now in
    record {
      held = none-held w a.s a.byte c-if1.true c-empty.result c-empty.ensures;
      pending = none-pending w (counted w a.s a.live.now) a.byte c-if1.true;
    }

pub bounds-words-2 : goal.bounds-words-2
bounds-words-2 c =
    let c-start = c in
    positions-word (length c-start.args.words.now) c-start.requires

pub returns-then-s-eq0 : goal.returns-then-s-eq0
returns-then-s-eq0 c =
    let c-if2 = c.if-s-eq0 in
    let c-line-step = c.line_step-held in
    let c-side-of = c.side_of in
    let c-if1 = c.if-byte-ne-NEWLINE in
    let back = c in
    let c-start = c in
    let a = c-start.args in
    let t = a.words.now in
    let w = automaton t in record {
      held = line-held t c-start.requires a.s a.byte c-if1.false c-side-of.result c-side-of.ensures c-line-step.result c-line-step.ensures;
      pending = start-pending t c-start.requires (counted w a.s a.live.now) a.byte c-if1.false c-if2.true;
    }

-- the rules that end before a newline that is the last byte
abbrev line_rules : Automaton → Stream → (live : List ℕ) → ℕ
line_rules w s live = rules_where w (ends_newly w (before_last s.last) live (between s.last Newline) live)

pub returns : goal.returns
returns c =
    let c-line-ending = c.line_ending in
    let c-long-in = c.long_in-counts in
    let c-if2 = c.if-s-eq0 in
    let c-line-step = c.line_step-held in
    let c-side-of = c.side_of in
    let back = c in
    let c-if1 = back.if-byte-ne-NEWLINE in
    let c-start = c in
    let a = c-start.args in
    let t = a.words.now in
    let w = automaton t in
    let counts = long_in w a.s.live a.live.now a.s.taken in record {
      held = line-held t c-start.requires a.s a.byte c-if1.false c-side-of.result c-side-of.ensures c-line-step.result c-line-step.ensures;
      pending = line-pending t c-start.requires (counted w a.s a.live.now) a.byte c-if1.false c-if2.false c-line-ending.result
          (c-line-ending.ensures ∙ ap (λ (l : List ℕ). number_on t (line_rules w a.s l)) (c-long-in.ensures ∙ set_on_lem t counts c-start.requires));
    }
