-- `traced::scan::report` meets its contract: the reports do not fit, or the late run is written,
-- the starts are carried along, and the byte's own run is written.
use mathlib.Core.Path.{◌≡◌, refl, sym, ap, subst, ◌∙◌}
use mathlib.Core.Bool.{not, ◌&&◌}
use mathlib.Core.List.{List}
use Prim.Native.Nat.{ℕ, suc, ◌+◌, ◌^◌, ◌<◌, ◌≤◌}
use native.Mathlib.Numerals.{add-one}
use native.Mathlib.Omega.{arith}
use borrow.Author.Rules.{rules}
use borrow.Author.Tests.{ltb-true, ltb-false}
use lib.Bits.{bit_and, bit_or}
use lib.ListN.{length}
use Rattle.sets.specs.Set.{on, count}
use Rattle.table.specs.Gaps.{unsettled}
use Rattle.table.specs.Automaton.{Automaton, automaton}
use Rattle.table.proofs.Test.{passes}
use Rattle.steps.specs.Step.{start_at}
use Rattle.stream.specs.Byte.{run_reports, next_live}
use Rattle.stream.proofs.Bounds.{rules-few}
use Rattle.traced.specs.declared.Starts.{Starts}
use Rattle.traced.specs.declared.Traced.{Traced}
use Rattle.traced.specs.Byte.{Report, given, own_start, next_starts}
use Rattle.traced.specs.Calls.{Lists, lists}
use Rattle.traced.specs.Invariants.{state_by, Wrote}
use Rattle.traced.proofs.Delivering.{late-alone, own_alone, due-is, late-room, own_room, gone}
use Rattle.traced.proofs.scan.report.Goals as goal

within : {n m room space : ℕ} → n ≡ m → room ≡ space → n ≤ room → m ≤ space
within e f h = omega arith

beyond : {n m room space : ℕ} → n ≡ m → room ≡ space → room < n → space < m
beyond e f h = omega arith

pub late_rules-late-requires : goal.late_rules-late-requires
late_rules-late-requires c = (c.requires.0.table, c.requires.0.gates_are)

pub own_rules-own-requires : goal.own_rules-own-requires
own_rules-own-requires c =
    let p = c.requires in
    (p.0.table, p.0.gates_are, p.0.next_is, p.2)

pub returns-then-too_many : goal.returns-then-too_many
returns-then-too_many c =
    let a = c.args in
    let t = a.words.now in
    let w = automaton t in
    let b = c.requires in
    let state = state_by a.s a.kept.now in
    let lent = lists a.ids.now a.offsets.now a.starts.now a.relatives.now in
    let few = rules-few t (passes t b.0.table).rules in
    let late = c.late_rules-late in
    let own = c.own_rules-own in
    let small : a.s.reported < 2 ^ 64 = search rules in
    let due-now = count 64 (λ k. on late.result k && not (on a.s.reported k)) + count 64 (λ k. on own.result k && not (on (bit_or a.s.reported (bit_and late.result a.gates.single)) k)) in
    let counted = due-is w few state a.byte late.result own.result late.ensures own.ensures small a.gates.single b.0.gates_are.single_is refl refl in
    record {
      spare = refl;
      reports = (beyond counted c.shortest-space.ensures (ltb-true c.shortest-space.result due-now (sym c.too_many.ensures ∙ c.if-too_many.true)), refl, refl);
    }

small_one : (n : ℕ) → n + 1 < 2 ^ 63 → n < 2 ^ 63
small_one n h = omega arith

pub late_run-one-requires : goal.late_run-one-requires
late_run-one-requires c =
    let a = c.args in
    let t = a.words.now in
    let w = automaton t in
    let b = c.requires in
    let state = state_by a.s a.kept.now in
    let lent = lists a.ids.now a.offsets.now a.starts.now a.relatives.now in
    let few = rules-few t (passes t b.0.table).rules in
    let late = c.late_rules-late in
    let own = c.own_rules-own in
    let small : a.s.reported < 2 ^ 64 = search rules in
    let due-now = count 64 (λ k. on late.result k && not (on a.s.reported k)) + count 64 (λ k. on own.result k && not (on (bit_or a.s.reported (bit_and late.result a.gates.single)) k)) in
    let counted = due-is w few state a.byte late.result own.result late.ensures own.ensures small a.gates.single b.0.gates_are.single_is refl refl in
    let room = within counted c.shortest-space.ensures (ltb-false c.shortest-space.result due-now (sym c.too_many.ensures ∙ c.if-too_many.false)) in (
      b.0.table,
      b.0.gates_are,
      b.1,
      small_one a.s.taken b.2,
      late-alone w few state a.byte late.result own.result late.ensures own.ensures,
      late-room w few state a.byte late.result own.result late.ensures own.ensures lent room,
    )

pub carry-more-requires : goal.carry-more-requires
carry-more-requires c = (c.requires.0, c.requires.3)

pub overflow_add-s : goal.overflow_add-s
overflow_add-s c = omega (arith, c.requires.2)

-- what the byte's own run gives
module _ (w : Automaton) (z : Traced) (next : List ℕ) (x own : ℕ) (next_is : next ≡ next_live w z.stream x) where
  given-own : (live : List ℕ) → live ≡ (next_starts w z x).live
      → given w (z.stream.taken + 1) (start_at w unsettled next live (z.stream.taken + 1))
      ≡ given w (suc z.stream.taken) (own_start w z x)
  given-own live e = λ i. given w (add-one z.stream.taken i) (start_at w unsettled (next_is i) (e i) (add-one z.stream.taken i))

  own-fits : (from marks room : ℕ) (live : List ℕ) → live ≡ (next_starts w z x).live
      → from + length (run_reports (on own) marks (given w (suc z.stream.taken) (own_start w z x)) w.rules) ≤ room
      → from + length (run_reports (on own) marks (given w (z.stream.taken + 1) (start_at w unsettled next live (z.stream.taken + 1))) w.rules) ≤ room
  own-fits from marks room live e =
      subst (λ (g : ℕ → Report). from + length (run_reports (on own) marks g w.rules) ≤ room) (sym (given-own live e))

  own-wrote : {marks first n to marks' : ℕ} {l l' : Lists} (live : List ℕ) → live ≡ (next_starts w z x).live
      → Wrote w (on own) marks (given w (z.stream.taken + 1) (start_at w unsettled next live (z.stream.taken + 1))) first n l to marks' l'
      → Wrote w (on own) marks (given w (suc z.stream.taken) (own_start w z x)) first n l to marks' l'
  own-wrote {marks} {first} {n} {to} {marks'} {l} {l'} live e =
      subst (λ (g : ℕ → Report). Wrote w (on own) marks g first n l to marks' l') (given-own live e)

pub own_run-two-requires : goal.own_run-two-requires
own_run-two-requires c =
    let a = c.args in
    let t = a.words.now in
    let w = automaton t in
    let b = c.requires in
    let state = state_by a.s a.kept.now in
    let lent = lists a.ids.now a.offsets.now a.starts.now a.relatives.now in
    let few = rules-few t (passes t b.0.table).rules in
    let late = c.late_rules-late in
    let own = c.own_rules-own in
    let small : a.s.reported < 2 ^ 64 = search rules in
    let due-now = count 64 (λ k. on late.result k && not (on a.s.reported k)) + count 64 (λ k. on own.result k && not (on (bit_or a.s.reported (bit_and late.result a.gates.single)) k)) in
    let counted = due-is w few state a.byte late.result own.result late.ensures own.ensures small a.gates.single b.0.gates_are.single_is refl refl in
    let room = within counted c.shortest-space.ensures (ltb-false c.shortest-space.result due-now (sym c.too_many.ensures ∙ c.if-too_many.false)) in
    let one = c.late_run-one in (
      b.0.table,
      b.0.gates_are,
      b.1,
      b.2,
      own_alone w few state a.byte late.result own.result late.ensures own.ensures,
      own-fits w state a.next a.byte own.result b.0.next_is one.result.next one.result.reported _ _ (ap (λ (u : Starts). u.live) c.carry-more.ensures.starts.starts_are)
          (own_room w few state a.byte late.result own.result late.ensures own.ensures room one.ensures),
    )

pub returns : goal.returns
returns c =
    let a = c.args in
    let t = a.words.now in
    let w = automaton t in
    let b = c.requires in
    let state = state_by a.s a.kept.now in
    let lent = lists a.ids.now a.offsets.now a.starts.now a.relatives.now in
    let few = rules-few t (passes t b.0.table).rules in
    let late = c.late_rules-late in
    let own = c.own_rules-own in
    let small : a.s.reported < 2 ^ 64 = search rules in
    let due-now = count 64 (λ k. on late.result k && not (on a.s.reported k)) + count 64 (λ k. on own.result k && not (on (bit_or a.s.reported (bit_and late.result a.gates.single)) k)) in
    let counted = due-is w few state a.byte late.result own.result late.ensures own.ensures small a.gates.single b.0.gates_are.single_is refl refl in
    let room = within counted c.shortest-space.ensures (ltb-false c.shortest-space.result due-now (sym c.too_many.ensures ∙ c.if-too_many.false)) in
    record {
      spare = c.carry-more.ensures.spare;
      reports = (
        room,
        gone w few state a.byte late.result own.result late.ensures own.ensures room c.late_run-one.ensures
            (own-wrote w state a.next a.byte own.result b.0.next_is _ (ap (λ (u : Starts). u.live) c.carry-more.ensures.starts.starts_are) c.own_run-two.ensures) c.carry-more.ensures.starts,
      );
    }
