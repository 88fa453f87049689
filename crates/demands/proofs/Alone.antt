-- One rule does not disturb another. Both joined lists are the ordered lists of their rules (demand
-- 3), the ordered list kept to one id is that of the rule alone, and there is only one. The rule
-- alone is accepted, since what an addition needs is less in an emptied table.
use mathlib.Core.Path.{◌≡◌, refl, subst, ap, ◌∙◌}
use mathlib.Core.Logic.{inl, inr}
use mathlib.Core.Bool.{Bool, cond}
use mathlib.Core.List.Memᴰ
use mathlib.Core.List.{List, [], ◌∷◌, map}
use Prim.Native.Nat.{ℕ}
use native.Mathlib.Omega.{arith}
use borrow.Author.Tests.{eq-eqb}
use Rattle.table.specs.Automaton.{automaton}
use Rattle.meaning.specs.Ordered.{Ordered, of_id}
use Rattle.meaning.proofs.Alone.{alone}
use Rattle.meaning.proofs.OneList.{one_answer}
use Rattle.rules.specs.Add.{Addition, reading_of}
use Rattle.rules.specs.Additions.{Accepted, rule_of, used, next_answer, with_new, after_next, accepted_after}
use Rattle.rules.proofs.Additions.{narrow_at, Accepts, accepts}
use Rattle.rules.proofs.Encodes.{distinct}
use Rattle.demands.specs.Kinds.{Kind, short, traces}
use Rattle.demands.specs.Chain.{additions_of}
use Rattle.demands.specs.Demands.{table_in, accepted_in, rules_in, taken, joined, Demand3}
use Rattle.demands.specs.Alone.{Undisturbed, AllUndisturbed, AcceptedAlone}
use Rattle.demands.proofs.Others.{narrow-ids}
use Rattle.demands.proofs.Origins.{came}
use Rattle.demands.proofs.Theorems.{built, short-streams, traced_streams}

undisturbed : {S L C S' L' C' : Type 0} (k : Kind S L C) (j : Kind S' L' C') → Demand3 k → Demand3 j → Undisturbed k j
undisturbed k j p q c d r there only items others a b ca cb same =
    one_answer (rule_of r ∷ []) (taken j d others) (of_id r.id (joined k c items)) (joined j d others)
    (subst (λ (l : List ℕ). Ordered (rule_of r ∷ []) l (of_id r.id (joined k c items))) same
    (alone (rules_in c) (distinct (automaton (table_in c)) (accepted_in c) (built c a.0).encodes) (rule_of r) (Memᴰ.map rule_of there) (taken k c items) (joined k c items) (p c items a ca)))
    (subst (λ (rs : List Accepted). Ordered (map rule_of rs) (taken j d others) (joined j d others)) only (q d others b cb))

pub all-undisturbed : AllUndisturbed
all-undisturbed =
    let p = short-streams.demand3 in
    let q = traced_streams.demand3 in
    record {
      by_short = undisturbed short short p p;
      by_traces = undisturbed traces traces q q;
      from_traces = undisturbed traces short q p;
      to_traces = undisturbed short traces p q;
    }

-- what one table accepts, an emptied one does
accepts-first : (rs : List Accepted) (a : Addition) → Accepts rs a → (next_answer [] a).number ≡ 0
unfolding used Rattle.rules.specs.Additions.taken
accepts-first rs a h = (accepts [] a).1 (record { known = h.known; not_both = h.not_both; free = refl; few = omega arith; short = h.short; open_window = h.open_window; read = h.read; reading = h.reading; room = omega (arith, h.room) })

pub accepted-alone : AcceptedAlone
unfolding accepted_after after_next
accepted-alone c r there = elim (came r (additions_of c.steps) [] there) [
  | inl n ↦ absurd (Memᴰ.not-nil n)
  | inr g ↦ (g.0, g.1, narrow_at (additions_of c.steps) (narrow-ids c.steps) g.0 g.1, ap (λ (b : Bool). cond b (with_new [] g.0 (reading_of g.0)) []) (eq-eqb (next_answer [] g.0).number 0 (accepts-first g.2.0 g.0 g.2.1)) ∙ g.2.2)
]
