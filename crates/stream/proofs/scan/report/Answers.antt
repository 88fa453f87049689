-- `stream::scan::report` meets its contract: where the gate is shut no rule ends, and else the
-- rules of both runs are those of the definition.
use mathlib.Core.Path.{◌≡◌, refl, sym, ap, ◌∙◌}
use mathlib.Core.Bool.{Bool, true, false, true≢false, ◌||◌, ◌&&◌}
use mathlib.Core.List.{List}
use Prim.Native.Nat.{ℕ, suc, ◌+◌, ◌^◌, ◌<◌, ◌≤◌}
use native.Mathlib.Numerals.{add-one}
use Rattle.sets.specs.Set.{on, has, any, union_of}
use Rattle.kinds.specs.declared.Side.{Side}
use Rattle.table.specs.Layout.{max_positions}
use Rattle.table.specs.Table.{is_table}
use Rattle.table.specs.Gaps.{between, unsettled}
use Rattle.table.specs.Automaton.{Automaton, automaton}
use Rattle.table.proofs.Test.{passes}
use Rattle.table.proofs.Members.{on-places}
use Rattle.steps.specs.Step.{ends, ends_newly, lasts_of, lates_of, late_in, rules_where, windowed}
use Rattle.stream.specs.Byte.{given}
use Rattle.stream.specs.Calls.{Lists, lists}
use Rattle.stream.specs.Invariants.{waits_in, Delivered}
use Rattle.stream.proofs.Bounds.{rules-few}
use Rattle.stream.proofs.Runs.{alone}
use Rattle.stream.proofs.Quiet.{gate, late-gate, none_end}
use Rattle.stream.proofs.TwoRuns.{delivered-quiet, delivered-ext}
use Rattle.stream.proofs.scan.report.Goals as goal

module _ (w : Automaton) (live next : List ℕ) (old new : Side) (marks gap : ℕ) (l : Lists) where
  abbrev late-test : ℕ → Bool
  late-test = windowed w (ends_newly w (between old new) (late_in w live) unsettled live) gap

  abbrev own-test : ℕ → Bool
  own-test = windowed w (ends w unsettled next) (suc gap)

  -- no position waits for the byte, and none can end a match with it
  module _ (waits some : Bool) (enders : List ℕ) (waits_is : waits ≡ waits_in w live) (enders_is : enders ≡ union_of (lasts_of w) (lates_of w))
      (some_is : some ≡ any max_positions (λ q. has next q && has enders q)) (shut : (waits || some) ≡ false) where
    neither : (waits ≡ false) × (some ≡ false)
    neither = go waits some shut
      where
        go : (x y : Bool) → (x || y) ≡ false → (x ≡ false) × (y ≡ false)
        go true y e = absurd (true≢false e)
        go false y e = (refl, e)

    none : (any max_positions (λ q. has next q && has (lasts_of w) q) ≡ false) × (waits_in w next ≡ false)
    none = none_end w next (ap (λ (s : List ℕ). any max_positions (λ q. has next q && has s q)) (sym enders_is) ∙ sym some_is ∙ neither.1)

    quiet-waits : false ≡ waits_in w next
    quiet-waits = sym none.1

    quiet : marks < 2 ^ 64 → Delivered w late-test own-test marks (given w gap) (given w (suc gap)) l false 0 marks l
    quiet small =
        delivered-quiet w marks (given w gap) (given w (suc gap)) l late-test own-test
        (λ a h. ap (λ (b : Bool). b && w.inside a gap) (late-gate w live (between old new) unsettled a (sym waits_is ∙ neither.0)))
        (λ a h. ap (λ (b : Bool). b && w.inside a (suc gap)) (gate w next a none.0)) small

  -- the words of the rules that end say what the tests say
  module _ (few : w.rules ≤ 64) (late own : ℕ) (late_is : late ≡ rules_where w late-test) (own_is : own ≡ rules_where w own-test) where
    late-alone : late ≡ rules_where w (on late)
    late-alone = alone w late-test late_is

    own_alone : own ≡ rules_where w (on own)
    own_alone = alone w own-test own_is

    looked : (full : Bool) (reports marks' : ℕ) (l' : Lists) → Delivered w (on late) (on own) marks (given w gap) (given w (suc gap)) l full reports marks' l'
        → Delivered w late-test own-test marks (given w gap) (given w (suc gap)) l full reports marks' l'
    looked full reports marks' l' d =
        delivered-ext w marks (given w gap) (given w (suc gap)) l (on late) late-test (on own) own-test
        (λ a h. ap (λ (x : ℕ). on x a) late_is ∙ on-places late-test w.rules a h few)
        (λ a h. ap (λ (x : ℕ). on x a) own_is ∙ on-places own-test w.rules a h few) full reports marks' l' d

pub returns-then-not-waits-meets : goal.returns-then-not-waits-meets
returns-then-not-waits-meets c =
    let a = c.args in
    let w = automaton a.words.now in
    let shut : (a.waits || c.meets.result) ≡ false = c.if-not-waits-meets.true in
    let l = lists a.ids.now a.offsets.now in record {
      waits = quiet-waits w a.live a.next a.old a.new a.reported a.offset l a.waits c.meets.result a.sets.enders c.requires.2 c.requires.1.enders_is c.meets.ensures shut;
      reports = quiet w a.live a.next a.old a.new a.reported a.offset l a.waits c.meets.result a.sets.enders c.requires.2 c.requires.1.enders_is c.meets.ensures shut
          c.ranges.reported.fits;
    }

pub late_rules-requires : goal.late_rules-requires
late_rules-requires c = (c.requires.0, c.requires.2)

pub overflow_add-offset : goal.overflow_add-offset
overflow_add-offset c = record { fits = c.requires.3 }

pub own_rules-requires : goal.own_rules-requires
own_rules-requires c = c.requires.0

-- what is known where both words of rules were found
own-found : (t next : List ℕ) (offset own : ℕ) → own ≡ rules_where (automaton t) (windowed (automaton t) (ends (automaton t) unsettled next) (offset + 1))
    → own ≡ rules_where (automaton t) (windowed (automaton t) (ends (automaton t) unsettled next) (suc offset))
own-found t next offset own e = e ∙ ap (λ (n : ℕ). rules_where (automaton t) (windowed (automaton t) (ends (automaton t) unsettled next) n)) (add-one offset)

pub deliver-run-requires : goal.deliver-run-requires
deliver-run-requires c =
    let a = c.args in
    let t = a.words.now in
    let lent = lists a.ids.now a.offsets.now in
    let few = rules-few t (passes t c.requires.0).rules in
    let late = c.late_rules in
    let own = own-found t a.next a.offset c.own_rules.result c.own_rules.ensures in (
      c.requires.0,
      c.requires.1.single_is,
      late-alone (automaton t) a.live a.next a.old a.new a.reported a.offset lent few late.result c.own_rules.result late.ensures own,
      own_alone (automaton t) a.live a.next a.old a.new a.reported a.offset lent few late.result c.own_rules.result late.ensures own,
      c.requires.3,
    )

-- what each arm hands on
module _ (t live next : List ℕ) (old new : Side) (marks offset : ℕ) (l : Lists) (long : is_table t ≡ true) (late own : ℕ)
    (late_is : late ≡ rules_where (automaton t) (late-test (automaton t) live next old new marks offset l))
    (own_is : own ≡ rules_where (automaton t) (windowed (automaton t) (ends (automaton t) unsettled next) (offset + 1))) where
  given-by : {full : Bool} {reports marks' : ℕ} {l' : Lists} → Delivered (automaton t) (on late) (on own) marks (given (automaton t) offset) (given (automaton t) (suc offset)) l full reports marks' l'
      → Delivered (automaton t) (late-test (automaton t) live next old new marks offset l) (own-test (automaton t) live next old new marks offset l) marks (given (automaton t) offset) (given (automaton t) (suc offset)) l full reports marks' l'
  given-by {full} {reports} {marks'} {l'} d =
      looked (automaton t) live next old new marks offset l (rules-few t (passes t long).rules) late own late_is (own-found t next offset own own_is) full reports marks' l' d

pub returns-in-Some : goal.returns-in-Some
returns-in-Some c =
    let a = c.args in
    record {
      waits = c.meets-waits.ensures ∙ ap (λ (s : List ℕ). any max_positions (λ q. has a.next q && has s q)) c.requires.1.late_is;
      reports = given-by a.words.now a.live a.next a.old a.new a.reported a.offset (lists a.ids.now a.offsets.now) c.requires.0 c.late_rules.result c.own_rules.result c.late_rules.ensures c.own_rules.ensures c.in-Some.ensures;
    }

pub returns-in-None : goal.returns-in-None
returns-in-None c =
    let a = c.args in
    record {
      waits = c.meets-waits.ensures ∙ ap (λ (s : List ℕ). any max_positions (λ q. has a.next q && has s q)) c.requires.1.late_is;
      reports = given-by a.words.now a.live a.next a.old a.new a.reported a.offset (lists a.ids.now a.offsets.now) c.requires.0 c.late_rules.result c.own_rules.result c.late_rules.ensures c.own_rules.ensures c.in-None.ensures;
    }
