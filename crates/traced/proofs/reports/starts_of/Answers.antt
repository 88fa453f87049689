-- `traced::reports::starts_of` meets its contract: each place begins with the same number.
use mathlib.Core.Path.{◌≡◌, sym, ap, ◌∙◌}
use mathlib.Core.Bool.{cond}
use mathlib.Core.List.{List}
use Prim.Native.Nat.{ℕ}
use native.Mathlib.Nat.{zero-add}
use lib.ListN.{length, get_or, replicate, get_or-replicate}
use Rattle.sets.specs.Set.{on}
use Rattle.table.specs.Layout.{max_rules}
use Rattle.table.specs.Automaton.{Automaton, automaton}
use Rattle.steps.specs.Step.{start_at, starts_at}
use Rattle.steps.proofs.Carrying.{list_on_lem, list_length, list_at}
use Rattle.traced.specs.Invariants.{RuleStarts}
use Rattle.traced.proofs.reports.starts_of.Goals as goal

given-each : (w : Automaton) (rules gap : ℕ) (set starts : List ℕ) (d : ℕ) (r : List ℕ) → r ≡ starts_at w rules gap set starts (replicate 64 d)
    → RuleStarts rules (start_at w gap set starts d) r
unfolding starts_at
given-each w rules gap set starts d r e = record {
  as_long = ap length e ∙ list_length 0 max_rules (λ a. cond (on rules a) (start_at w gap set starts (get_or (replicate 64 d) a 0) a) 0);
  each = λ a lt.
      ap (λ (l : List ℕ). get_or l a 0) e
      ∙ list_at 0 max_rules (λ a. cond (on rules a) (start_at w gap set starts (get_or (replicate 64 d) a 0) a) 0) a lt
      ∙ ap (λ (b : ℕ). cond (on rules b) (start_at w gap set starts (get_or (replicate 64 d) b 0) b) 0) (zero-add a)
      ∙ ap (λ (x : ℕ). cond (on rules a) (start_at w gap set starts x a) 0) (get_or-replicate 64 a d 0 lt);
}

pub returns : goal.returns
returns c =
    let c-rule-starts = c.rule_starts in
    let c-start = c in
    let a = c-start.args in
    let t = a.words.now in
    given-each (automaton t) a.rules a.gap a.set a.starts.now a.least c-rule-starts.result
    (c-rule-starts.ensures
    ∙ sym (list_on_lem t max_rules (starts_at (automaton t) a.rules a.gap a.set a.starts.now (replicate 64 a.least)) c-start.requires))
