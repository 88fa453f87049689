-- `kinds::close_case` meets its contract: the loop collects each byte that is in the set or whose
-- other case is.
use Rattle.std.proofs.Common.{◌≡◌, ℕ, ◌+◌, Bool, true, false, List, sym, ◌∙◌, arith}
use Rattle.sets.specs.Set.{has}
use Rattle.kinds.specs.Case.{other_case, case_closed}
use Rattle.kinds.specs.Invariants.{Ruled}
use Rattle.kinds.proofs.Collect.{members_below, begun, grown, kept, collected}
use Rattle.kinds.proofs.close_case.Invariants.{entered}
use Rattle.kinds.proofs.close_case.Goals as goal
use Rattle.kinds.proofs.close_case.Goals.{then-contains, then-contains-via-then-contains, then-contains-via-else-contains+then-contains-2, else-contains+else-contains-2}

-- what the two questions tell
itself : (s : List ℕ) (b : ℕ) → has s b ≡ true → entered s b ≡ true
itself s b e = rw e

its-other : (s : List ℕ) (b o : ℕ) (t : Bool) → has s b ≡ false → o ≡ other_case b → has s o ≡ t → entered s b ≡ t
its-other s b o t e f g = rw (e, ← f, g)

pub loop-b-init : goal.loop-b-init
loop-b-init c = c.empty-t.ensures ∙ begun (entered c.args.s)

pub swap_case-requires : goal.swap_case-requires
unfolding Ruled
swap_case-requires c = c.kind_table-kinds.ensures c.loop-b.b (omega arith)

pub loop-b-preserved : goal.loop-b-preserved
loop-b-preserved c =
    let s = c.args.s in
    let b = c.loop-b.b in
    elim c.if-contains.branch [
      | then-contains w ↦
          let member : entered s b ≡ true =
          elim w.then-contains.branch [
            | then-contains-via-then-contains v ↦ itself s b (sym c.contains.ensures ∙ v.if-contains.true)
            | then-contains-via-else-contains+then-contains-2 v ↦
                its-other s b v.swap_case.result true (sym c.contains.ensures ∙ v.if-contains.false) v.swap_case.ensures
                (sym v.contains-else-contains.ensures ∙ v.if-contains-2.true)
          ] in
          w.t-is ∙ w.insert-u.ensures ∙ grown (entered s) b c.loop-b.invariant member
      | else-contains+else-contains-2 w ↦
          w.t-is
          ∙ kept (entered s) b c.loop-b.invariant
          (its-other s b w.swap_case.result false (sym c.contains.ensures ∙ w.if-contains.false) w.swap_case.ensures
          (sym w.contains-else-contains.ensures ∙ w.if-contains-2.false))
    ]

-- after the last byte
pub returns-after-contains : goal.returns-after-contains
unfolding case_closed
returns-after-contains c =
    let s = c.args.s in
    let b = c.loop-b.b in
    let all : c.if-contains.t ≡ members_below (entered s) (b + 1) =
    elim c.if-contains.branch [
      | then-contains w ↦
          let member : entered s b ≡ true =
          elim w.then-contains.branch [
            | then-contains-via-then-contains v ↦ itself s b (sym c.contains.ensures ∙ v.if-contains.true)
            | then-contains-via-else-contains+then-contains-2 v ↦
                its-other s b v.swap_case.result true (sym c.contains.ensures ∙ v.if-contains.false) v.swap_case.ensures
                (sym v.contains-else-contains.ensures ∙ v.if-contains-2.true)
          ] in
          w.t-is ∙ w.insert-u.ensures ∙ grown (entered s) b c.loop-b.invariant member
      | else-contains+else-contains-2 w ↦
          w.t-is
          ∙ kept (entered s) b c.loop-b.invariant
          (its-other s b w.swap_case.result false (sym c.contains.ensures ∙ w.if-contains.false) w.swap_case.ensures
          (sym w.contains-else-contains.ensures ∙ w.if-contains-2.false))
    ] in
    collected (entered s) (b + 1) all (omega arith)
