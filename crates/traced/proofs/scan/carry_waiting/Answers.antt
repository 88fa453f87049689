-- `traced::scan::carry_waiting` meets its contract: nothing keeps a start before the byte nor after
-- it, or the starts are stepped.
use mathlib.Core.Path.{◌≡◌, refl, sym, ap, ap₂, ◌∙◌}
use mathlib.Core.Bool.{Bool, true, false, not, ◌||◌}
use mathlib.Core.List.{List}
use Prim.Native.Nat.{ℕ}
use lib.Bits.{bit_and}
use lib.Dec.{eqb}
use Rattle.sets.specs.Set.{intersection_of, is_empty}
use Rattle.kinds.specs.Side.{side_of}
use Rattle.table.specs.Layout.{max_positions, max_rules}
use Rattle.table.specs.Automaton.{automaton}
use Rattle.table.proofs.Test.{passes}
use Rattle.steps.specs.Step.{stepped_starts, start_at, rules_where}
use Rattle.steps.proofs.Carrying.{list_on_lem}
use Rattle.stream.specs.declared.Stream.{Stream}
use Rattle.stream.specs.Byte.{next_held}
use Rattle.traced.specs.Byte.{keeping, held_next, pairs_next, pending_long}
use Rattle.traced.specs.Invariants.{zeros, RuleStarts}
use Rattle.traced.proofs.Carrying.{stepped-none, pairs-are, pairs-none, neither, none-if}
use mathlib.Core.Path.{subst}
use Rattle.traced.proofs.scan.carry_waiting.Goals as goal

-- where nothing that is reached keeps a start
none : (t : List ℕ) (s : Stream) (live : List ℕ) (x pending leftmost : ℕ) (reached : List ℕ) (empty : Bool) → reached ≡ keeping (automaton t) (next_held (automaton t) s x) → empty ≡ is_empty reached
    → pending ≡ pending_long (automaton t) s live x → leftmost ≡ rules_where (automaton t) (automaton t).leftmost → (not empty || not (eqb (bit_and pending leftmost) 0)) ≡ false
    → (held_next (automaton t) s live x ≡ zeros max_positions) × (pairs_next (automaton t) s live x ≡ zeros max_rules)
none t s live x pending leftmost reached empty r f p l e =
    let w = automaton t in
    let both = none-if empty (bit_and pending leftmost) e in (
      stepped-none w true s.last (side_of x) (keeping w s.live) live (keeping w (next_held w s x)) s.taken
          (sym (ap is_empty r) ∙ sym f ∙ both.0),
      pairs-none w s live x pending leftmost p l both.1,
    )

pub returns-then-not-some-more : goal.returns-then-not-some-more
returns-then-not-some-more c =
    let a = c.args in
    let s = a.s in
    let t = a.words.now in
    let both = neither a.some (not c.is_empty.result || not (eqb (bit_and a.waiting.pending a.gates.leftmost) 0)) c.if-not-some-more.true-raw in
    let was = c.requires.4 both.0 in
    let all = none t s a.kept.now.live a.byte a.waiting.pending a.gates.leftmost c.intersection-reached.result c.is_empty.result (c.intersection-reached.ensures ∙ ap₂ intersection_of c.requires.2 c.requires.1.keepers_are) c.is_empty.ensures c.requires.3 c.requires.1.leftmost_is both.1 in
    record {
      live = refl;
      held = was.0 ∙ sym all.0;
      pairs = was.1 ∙ sym all.1;
      none = λ e. was;
    }

pub starts_of-paired-requires : goal.starts_of-paired-requires
starts_of-paired-requires c = (passes c.args.words.now c.requires.0).long

pub returns : goal.returns
returns c =
    let a = c.args in
    let s = a.s in
    let t = a.words.now in
    let w = automaton t in
    let reached = (c.intersection-reached.ensures ∙ ap₂ intersection_of c.requires.2 c.requires.1.keepers_are) in
    let held = c.step_starts-stepped.ensures
    ∙ sym (list_on_lem t max_positions (stepped_starts w true s.last c.side_of.result c.intersection-was.result a.kept.now.live c.intersection-reached.result s.taken) (passes t c.requires.0).long)
    ∙ (λ i. stepped_starts w true s.last (c.side_of.ensures i) ((c.intersection-was.ensures ∙ ap (intersection_of s.live) c.requires.1.keepers_are) i) a.kept.now.live (reached i) s.taken) in
    let pairs = pairs-are w s a.kept.now.live a.byte a.waiting.pending a.gates.leftmost c.requires.3 c.requires.1.leftmost_is c.starts_of-paired.result
    (subst (λ (g : ℕ). RuleStarts (bit_and a.waiting.pending a.gates.leftmost) (start_at w g s.live a.kept.now.live s.taken) c.starts_of-paired.result) c.before_last.ensures c.starts_of-paired.ensures) in
    record {
      live = refl;
      held = held;
      pairs = pairs;
      none = λ e.
          let all = none t s a.kept.now.live a.byte a.waiting.pending a.gates.leftmost c.intersection-reached.result c.is_empty.result reached c.is_empty.ensures c.requires.3 c.requires.1.leftmost_is e in
          (held ∙ all.0, pairs ∙ all.1);
    }
