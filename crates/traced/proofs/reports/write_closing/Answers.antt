-- `traced::reports::write_closing` meets its contract: the held pairs, then those that need the
-- end.
use mathlib.Core.Path.{◌≡◌, ap, ap₂, ◌∙◌}
use mathlib.Core.Bool.{Bool}
use mathlib.Core.List.{List}
use Prim.Native.Nat.{ℕ, ◌*◌, ◌^◌, ◌<◌, ◌≤◌}
use borrow.Author.Rules.{rules}
use Rattle.sets.specs.Set.{on, union_of}
use Rattle.kinds.specs.declared.Side.{Side}
use Rattle.table.specs.Layout.{rules_of}
use Rattle.table.specs.Gaps.{unsettled, at_the_end}
use Rattle.table.specs.Automaton.{Automaton, automaton, single}
use Rattle.table.proofs.Test.{passes}
use Rattle.steps.specs.Step.{ends_newly, rules_where, windowed}
use Rattle.steps.proofs.TableSets.{set_on_lem, number-on}
use Rattle.steps.proofs.Sifting.{window-is}
use Rattle.lengths.specs.Long.{long_in}
use Rattle.stream.specs.Byte.{held_test}
use Rattle.stream.proofs.Bounds.{rules-few}
use Rattle.stream.proofs.Accepting.{pending-rules}
use Rattle.stream.proofs.Runs.{alone}
use Rattle.traced.specs.Byte.{end_long}
use Rattle.traced.specs.Calls.{lists, space}
use Rattle.traced.specs.Invariants.{state_by}
use Rattle.traced.proofs.Delivering.{starts-small}
use Rattle.traced.proofs.Closing.{end-under, closing-room, ended}
use Rattle.traced.proofs.reports.write_closing.Goals as goal

abbrev ends-late : Automaton → Side → (live held : List ℕ) → ℕ → Bool
ends-late w last live held = ends_newly w (at_the_end last) (union_of live held) unsettled live

twice : (t : List ℕ) (n : ℕ) → 2 * rules_of t ≤ n → 2 * (automaton t).rules ≤ n
unfolding automaton
twice t n h = h

pub end_starts-ends-requires : goal.end_starts-ends-requires
end_starts-ends-requires c = (passes c.args.words.now c.requires.0).long

pub write_two-run-requires : goal.write_two-run-requires
write_two-run-requires c =
    let a = c.args in
    let s = a.s in
    let state = state_by s a.kept.now in
    let t = a.words.now in
    let w = automaton t in
    let p = c.requires in
    let long = (passes t p.0).long in
    let few = rules-few t (passes t p.0).rules in
    let counts = long_in w s.live state.starts.live s.taken in
    let waits = long_in w s.held state.starts.held s.taken in
    let found-is : c.in_window-found.result ≡ rules_where w (end_long w state) =
    window-is t (ends-late w s.last counts waits) s.taken long
    (c.closing.ensures ∙ number-on t (rules_where w (ends-late w s.last c.long_in-counts.result c.long_in-waits.result)) long
    ∙ ap₂ (λ (l h : List ℕ). rules_where w (ends-late w s.last l h)) (c.long_in-counts.ensures ∙ set_on_lem t counts long) (c.long_in-waits.ensures ∙ set_on_lem t waits long)) c.in_window-found.ensures in
    let small : s.pending < 2 ^ 64 = search rules in
    let kept-is : c.in_window-held_pairs.result ≡ rules_where w (held_test w s) =
    window-is t (on s.pending) c.saturating_sub-earlier.result long (pending-rules w s p.1 small) c.in_window-held_pairs.ensures
    ∙ ap (λ (e : ℕ). rules_where w (windowed w (on s.pending) e)) c.saturating_sub-earlier.ensures in
    let flags : c.leftmosts-leftmost.result ≡ rules_where w w.leftmost = c.leftmosts-leftmost.ensures ∙ number-on t (rules_where w w.leftmost) long in
    let before = c.saturating_sub-earlier in (
      p.0,
      record { single_is = c.singles.ensures ∙ number-on t (rules_where w (single w)) long; leftmost_is = flags; first_small = p.2 },
      p.3,
      starts-small s.taken c.end_starts-ends.ensures (end-under w state) p.2,
      alone w (held_test w s) kept-is,
      alone w (end_long w state) found-is,
      closing-room w few state c.in_window-held_pairs.result c.in_window-found.result c.leftmosts-leftmost.result kept-is found-is flags
          before.result before.ensures c.end_starts-ends.result c.end_starts-ends.ensures _ (twice t (space (lists a.ids.now a.offsets.now a.starts.now a.relatives.now)) p.4),
    )

pub returns : goal.returns
returns c =
    let a = c.args in
    let s = a.s in
    let state = state_by s a.kept.now in
    let t = a.words.now in
    let w = automaton t in
    let p = c.requires in
    let long = (passes t p.0).long in
    let few = rules-few t (passes t p.0).rules in
    let counts = long_in w s.live state.starts.live s.taken in
    let waits = long_in w s.held state.starts.held s.taken in
    let found-is : c.in_window-found.result ≡ rules_where w (end_long w state) =
    window-is t (ends-late w s.last counts waits) s.taken long
    (c.closing.ensures ∙ number-on t (rules_where w (ends-late w s.last c.long_in-counts.result c.long_in-waits.result)) long
    ∙ ap₂ (λ (l h : List ℕ). rules_where w (ends-late w s.last l h)) (c.long_in-counts.ensures ∙ set_on_lem t counts long) (c.long_in-waits.ensures ∙ set_on_lem t waits long)) c.in_window-found.ensures in
    let small : s.pending < 2 ^ 64 = search rules in
    let kept-is : c.in_window-held_pairs.result ≡ rules_where w (held_test w s) =
    window-is t (on s.pending) c.saturating_sub-earlier.result long (pending-rules w s p.1 small) c.in_window-held_pairs.ensures
    ∙ ap (λ (e : ℕ). rules_where w (windowed w (on s.pending) e)) c.saturating_sub-earlier.ensures in
    let flags : c.leftmosts-leftmost.result ≡ rules_where w w.leftmost = c.leftmosts-leftmost.ensures ∙ number-on t (rules_where w w.leftmost) long in
    let before = c.saturating_sub-earlier in
    ended w few state c.in_window-held_pairs.result c.in_window-found.result c.leftmosts-leftmost.result kept-is found-is flags
    before.result before.ensures c.end_starts-ends.result c.end_starts-ends.ensures c.write_two-run.ensures
