-- `carried::rule_starts` meets its contract: each turn gives the lowest rule that is left its start.
use Rattle.std.proofs.Common.{subst, sym, refl, ◌∙◌, get_or}
use lib.ListN.{replicate}
use Rattle.sets.specs.Set.{set_of}
use Rattle.table.specs.Automaton.{automaton}
use Rattle.steps.specs.Step.{start_at, starts_at}
use Rattle.steps.proofs.Carrying.{RulesLeft, rules-none-yet, rules-turn, rules-all, least-ending, list_on_lem, list-off, zeros-length, zeros-at}
use Rattle.carried.proofs.rule_starts.Invariants.{give}
use Rattle.carried.proofs.rule_starts.Goals as goal

pub returns-then-words-lt-TABLE_WORDS : goal.returns-then-words-lt-TABLE_WORDS
returns-then-words-lt-TABLE_WORDS c =
    let a = c.args in
    let t = a.words.now in
    list-off t 64 (starts_at (automaton t) a.rules a.gap a.set a.starts.now a.from.now)
    (replicate 64 0) c.if-words-lt-TABLE_WORDS.true (zeros-length 64) (λ q lt. zeros-at 64 q)

pub loop-a-init : goal.loop-a-init
loop-a-init c =
    let a = c.args in
    let given = give a.words.now c.ending_in-found.result a.starts.now a.from.now in
    subst (λ d. RulesLeft given a.rules d.0 (replicate 64 0)) (sym c.into_iter-a-iterator.ensures.into_iter_gives)
    (rules-none-yet given a.rules (replicate 64 0) c.ranges.rules.fits (zeros-length 64) (λ q lt. zeros-at 64 q))

pub loop-a-preserved : goal.loop-a-preserved
loop-a-preserved c =
    let a = c.args in
    rules-turn (give a.words.now c.ending_in-found.result a.starts.now a.from.now)
    a.rules c.loop-a.new c.loop-a.invariant c.in-Some.ensures.steps c.least_start.result c.least_start.ensures

pub returns : goal.returns
unfolding starts_at
returns c =
    let a = c.args in
    let t = a.words.now in
    let w = automaton t in
    let starts = a.starts.now in
    let from = a.from.now in
    let found = c.ending_in-found.result in
    rules-all (give t found starts from) a.rules c.loop-a.a-iterator.0 c.loop-a.new c.loop-a.invariant
    c.in-None.ensures.steps.0 (λ b. start_at w a.gap a.set starts (get_or from b 0) b)
    (λ b. least-ending t a.gap a.set (set_of (w.ending a.gap)) found starts b (get_or from b 0) refl c.ending_in-found.ensures)
    ∙ list_on_lem t 64 (starts_at w a.rules a.gap a.set starts from) c.if-words-lt-TABLE_WORDS.false
