-- `traced::scan::late_rules` meets its contract: a live set that does not meet the positions that
-- wait for the next byte ends no rule late.
use mathlib.Core.Path.{◌≡◌, sym, ap, ap₂, ◌∙◌}
use mathlib.Core.Bool.{Bool, false, ◌&&◌}
use mathlib.Core.List.{List}
use Prim.Native.Nat.{ℕ}
use Rattle.sets.specs.Set.{has, any}
use Rattle.kinds.specs.declared.Side.{Side}
use Rattle.kinds.specs.Side.{side_of}
use Rattle.table.specs.Layout.{max_positions}
use Rattle.table.specs.Gaps.{between, unsettled}
use Rattle.table.specs.Automaton.{Automaton, automaton}
use Rattle.table.proofs.Test.{passes}
use Rattle.steps.specs.Step.{ends_newly, late_in, lates_of, rules_where}
use Rattle.steps.proofs.TableSets.{set_on_lem, number-on}
use Rattle.steps.proofs.Sifting.{window-is}
use Rattle.stream.specs.declared.Stream.{Stream}
use Rattle.lengths.specs.Long.{long_in}
use Rattle.lengths.proofs.Long.{long-meets}
use Rattle.stream.proofs.Runs.{rules-none}
use Rattle.stream.proofs.Quiet.{late-gate}
use Rattle.traced.specs.Byte.{late_long}
use Rattle.traced.proofs.scan.late_rules.Goals as goal

late-none : (w : Automaton) (s : Stream) (live : List ℕ) (x : ℕ) (late : List ℕ) → late ≡ lates_of w → any max_positions (λ q. has s.live q && has late q) ≡ false
    → 0 ≡ rules_where w (late_long w s live x)
late-none w s live x late is e =
    rules-none w (late_long w s live x)
    (λ a h. ap (λ (b : Bool). b && w.inside a s.taken)
    (late-gate w (long_in w s.live live s.taken) (between s.last (side_of x)) unsettled a
    (long-meets w s.live live s.taken (lates_of w) (ap (λ (l : List ℕ). any max_positions (λ q. has s.live q && has l q)) (sym is) ∙ e))))

pub returns-then-meets : goal.returns-then-meets
returns-then-meets c =
    let a = c.args in
    let s = a.s in
    let t = a.words.now in
    let w = automaton t in
    let long = (passes t c.requires.0).long in
    let counts = long_in w s.live a.live.now s.taken in
    let here = c.long_in-counts in
    window-is t (ends_newly w (between s.last (side_of a.byte)) (late_in w counts) unsettled counts) s.taken long
    (c.late_ending.ensures
    ∙ number-on t (rules_where w (ends_newly w (between s.last c.side_of.result) (late_in w here.result) unsettled here.result)) long
    ∙ ap₂ (λ (y : Side) (l : List ℕ). rules_where w (ends_newly w (between s.last y) (late_in w l) unsettled l)) c.side_of.ensures (here.ensures ∙ set_on_lem t counts long))
    c.in_window.ensures

pub returns-else-meets : goal.returns-else-meets
returns-else-meets c =
    let a = c.args in
    late-none (automaton a.words.now) a.s a.live.now a.byte a.gates.late c.requires.1.late_is (sym c.meets.ensures ∙ c.if-meets.false)
