-- One rule does not disturb another: what a table of many rules reports of one of them is what a
-- table with that rule alone reports.
use Rattle.std.specs.Prelude.{◌≡◌, ◌^◌, ◌<◌}
use mathlib.Core.List.{List, [], ◌∷◌, Memᴰ}
use Rattle.meaning.specs.Ordered.{of_id}
use Rattle.rules.specs.Add.{Addition}
use Rattle.rules.specs.Additions.{Accepted, accepted_after}
use Rattle.demands.specs.Kinds.{Kind, short, traces}
use Rattle.demands.specs.Chain.{additions_of, Item}
use Rattle.demands.specs.Demands.{Setting, accepted_in, Calls, HasClosing, taken, joined}

-- "the joined list, kept to one id, is the list of a table with that rule alone, on the same
-- stream. Both are lists of calls as demand 3 takes them; space, allowances and cutting may
-- differ." So may the kinds of the two streams.
abbrev pub Undisturbed : {S L C S' L' C' : Type 0} → Kind S L C → Kind S' L' C' → Type 0
Undisturbed {S} {L} {C} {S'} {L'} {C'} k j =
    (c d : Setting) (r : Accepted) → Memᴰ r (accepted_in c) → accepted_in d ≡ r ∷ []
    → (items : List (Item L C)) (others : List (Item L' C')) → Calls k c items → Calls j d others
    → HasClosing k c items → HasClosing j d others → taken k c items ≡ taken j d others
    → of_id r.id (joined k c items) ≡ joined j d others

pub record AllUndisturbed : Type 0 where
  pub by_short : Undisturbed short short
  pub by_traces : Undisturbed traces traces
  pub from_traces : Undisturbed traces short
  pub to_traces : Undisturbed short traces

-- There is such a table: the addition by which a rule came is accepted by an emptied table too, and
-- gives the same rule.
abbrev pub AcceptedAlone : Type 0
AcceptedAlone = (c : Setting) (r : Accepted) → Memᴰ r (accepted_in c)
    → (a : Addition) × Memᴰ a (additions_of c.steps) × (a.id < 2 ^ 32) × (accepted_after [] (a ∷ []) ≡ r ∷ [])
