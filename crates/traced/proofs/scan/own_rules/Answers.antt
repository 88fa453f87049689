-- `traced::scan::own_rules` meets its contract: a live set that does not meet the last positions
-- ends no rule.
use mathlib.Core.Path.{◌≡◌, sym, ap, ◌∙◌}
use mathlib.Core.Bool.{Bool, false, ◌&&◌}
use mathlib.Core.List.{List}
use Rattle.sets.specs.Set.{has, any}
use Rattle.table.specs.Layout.{max_positions}
use Rattle.table.specs.Gaps.{unsettled}
use Rattle.table.specs.Automaton.{Automaton, automaton}
use Rattle.table.proofs.Test.{passes}
use Rattle.steps.specs.Step.{ends, lasts_of, rules_where, windowed}
use Rattle.steps.proofs.TableSets.{number-on}
use Rattle.steps.proofs.Sifting.{window-is}
use Prim.Native.Nat.{ℕ, suc, ◌+◌}
use native.Mathlib.Numerals.{add-one}
use native.Mathlib.Omega.{arith}
use Rattle.lengths.specs.Long.{long_in}
use Rattle.lengths.proofs.Long.{long-meets}
use Rattle.stream.specs.declared.Stream.{Stream}
use Rattle.traced.specs.Byte.{live_next}
use Rattle.stream.proofs.Runs.{rules-none}
use Rattle.stream.proofs.Quiet.{gate}
use Rattle.traced.proofs.scan.own_rules.Goals as goal

own-none : (w : Automaton) (s : Stream) (next starts last : List ℕ) → last ≡ lasts_of w → any max_positions (λ q. has next q && has last q) ≡ false
    → (end : ℕ) → 0 ≡ rules_where w (windowed w (ends w unsettled (long_in w next starts end)) end)
own-none w s next starts last is e end =
    rules-none w (windowed w (ends w unsettled (long_in w next starts end)) end)
    (λ a h. ap (λ (b : Bool). b && w.inside a end)
    (gate w (long_in w next starts end) a (long-meets w next starts end (lasts_of w) (ap (λ (l : List ℕ). any max_positions (λ q. has next q && has l q)) (sym is) ∙ e))))

-- the test, by the set that is live after the byte
abbrev test : Automaton → Stream → (next live : List ℕ) → ℕ → ℕ
test w s next live x = rules_where w (windowed w (ends w unsettled (long_in w next (live_next w s live x) (suc s.taken))) (suc s.taken))

pub counted_after-counts-requires : goal.counted_after-counts-requires
counted_after-counts-requires c = c.requires

pub overflow_add-s : goal.overflow_add-s
overflow_add-s c = let back = c in omega (arith, back.requires.3)

pub returns-then-meets : goal.returns-then-meets
returns-then-meets c =
    let c-counted = c.counted_after-counts in
    let back = c in
    let c-start = c in
    let a = c-start.args in
    let s = a.s in
    let t = a.words.now in
    let w = automaton t in
    let long = (passes t c-start.requires.0).long in
    let counts = long_in w a.next (live_next w s a.live.now a.byte) (suc s.taken) in
    window-is t (ends w unsettled counts) (s.taken + 1) long
    (c.ending.ensures ∙ number-on t (rules_where w (ends w unsettled c-counted.result)) long
    ∙ ap (λ (l : List ℕ). rules_where w (ends w unsettled l)) c-counted.ensures) c.in_window.ensures
    ∙ ap (λ (e : ℕ). rules_where w (windowed w (ends w unsettled counts) e)) (add-one s.taken)
    ∙ ap (λ (n : List ℕ). test w s n a.live.now a.byte) c-start.requires.2

pub returns-else-meets : goal.returns-else-meets
returns-else-meets c =
    let c-if1 = c.if-meets in
    let c-meets = c.meets in
    let c-start = c in
    let a = c-start.args in
    let s = a.s in
    let w = automaton a.words.now in
    own-none w s a.next (live_next w s a.live.now a.byte) a.gates.last c-start.requires.1.last_is (sym c-meets.ensures ∙ c-if1.false) (suc s.taken)
    ∙ ap (λ (n : List ℕ). test w s n a.live.now a.byte) c-start.requires.2
