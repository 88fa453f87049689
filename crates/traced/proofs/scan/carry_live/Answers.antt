-- `traced::scan::carry_live` meets its contract: nothing keeps a start before the byte nor after
-- it, or the starts are stepped.
use mathlib.Core.Path.{◌≡◌, refl, sym, ap, ap₂, ◌∙◌}
use mathlib.Core.Bool.{Bool, true, false, not}
use mathlib.Core.List.{List}
use Prim.Native.Nat.{ℕ}
use Rattle.sets.specs.Set.{intersection_of, is_empty}
use Rattle.kinds.specs.Side.{side_of}
use Rattle.table.specs.Layout.{max_positions}
use Rattle.table.specs.Automaton.{automaton}
use Rattle.table.proofs.Test.{passes}
use Rattle.steps.specs.Step.{stepped_starts}
use Rattle.steps.proofs.Carrying.{list_on_lem}
use Rattle.stream.specs.declared.Stream.{Stream}
use Rattle.stream.specs.Byte.{next_live}
use Rattle.traced.specs.Byte.{keeping, live_next}
use Rattle.traced.specs.Invariants.{zeros}
use Rattle.traced.proofs.Carrying.{stepped-none, neither, empty-if}
use Rattle.traced.proofs.scan.carry_live.Goals as goal

-- where nothing that is reached keeps a start
none : (t : List ℕ) (s : Stream) (live : List ℕ) (x : ℕ) (reached : List ℕ) (empty : Bool) → reached ≡ keeping (automaton t) (next_live (automaton t) s x) → empty ≡ is_empty reached → empty ≡ true
    → live_next (automaton t) s live x ≡ zeros max_positions
none t s live x reached empty r f e =
    let w = automaton t in
    stepped-none w false s.last (side_of x) (keeping w s.live) live (keeping w (next_live w s x)) s.taken
    (sym (ap is_empty r) ∙ sym f ∙ e)

pub returns-then-not-some-more : goal.returns-then-not-some-more
returns-then-not-some-more c =
    let a = c.args in
    let empty = c.is_empty-more in
    let both = neither a.some (not empty.result) c.if-not-some-more.true-raw in
    let was = c.requires.3 both.0 in
    record {
      is = was ∙ sym (none a.words.now a.s a.live.now a.byte c.intersection-reached.result empty.result (c.intersection-reached.ensures ∙ ap₂ intersection_of c.requires.2 c.requires.1.keepers_are) empty.ensures (empty-if empty.result both.1));
      none = (λ e. was);
      spare = refl;
    }

pub returns : goal.returns
returns c =
    let a = c.args in
    let s = a.s in
    let t = a.words.now in
    let w = automaton t in
    let empty = c.is_empty-more in
    let reached = (c.intersection-reached.ensures ∙ ap₂ intersection_of c.requires.2 c.requires.1.keepers_are) in
    let is = c.carry_starts.ensures.starts_are c.requires.5 c.requires.4
    ∙ sym (list_on_lem t max_positions (stepped_starts w false s.last c.side_of.result c.intersection-was.result a.live.now c.intersection-reached.result s.taken) (passes t c.requires.0).long)
    ∙ (λ i. stepped_starts w false s.last (c.side_of.ensures i) ((c.intersection-was.ensures ∙ ap (intersection_of s.live) c.requires.1.keepers_are) i) a.live.now (reached i) s.taken) in
    record {
      is = is;
      none = (λ e. is ∙ none t s a.live.now a.byte c.intersection-reached.result empty.result reached empty.ensures (empty-if empty.result e));
      spare = c.carry_starts.ensures.spare_is c.requires.5;
    }
