-- A scan in two parts: some bytes of a block, and then an accepted scan of the rest with what they
-- leave of the allowance and the lists. Over any machine.
use mathlib.Core.Path.{◌≡◌, sym, ap, ◌∙◌}
use mathlib.Core.Logic.{inl, inr}
use mathlib.Core.List.{List}
use Prim.Native.Nat.{ℕ, ◌+◌, ◌-◌, ◌≤◌}
use native.Mathlib.Omega.{arith}
use lib.ListN.{length, drop, length-drop, length-append}
use Rattle.stream.specs.declared.Stream.{Stream}
use Rattle.stream.specs.declared.Progress.{Progress}
use Rattle.stream.specs.Byte.{Report, Machine, after, reports_by, cost_by}
use Rattle.stream.specs.Calls.{Lists, space}
use Rattle.stream.specs.Invariants.{free, back, Filled, Over, AdvancedBy}
use Rattle.stream.proofs.Lists.{free-space, filled-space, filled-inside, filled-part, filled-same}
use Rattle.stream.proofs.Machines.{after-later, reports-later, cost-later}

module _ {S : Type 0} (m : Machine S Report) (s : S) (allowance : ℕ) (block : List ℕ) (l₀ l : Lists) (j count left : ℕ) (inside : j ≤ length block)
    (paid : left + cost_by m s block j ≡ allowance) (filled : Filled (reports_by m s block j) l₀ count l) where
  abbrev z : S
  z = after m s block j

  abbrev rest : List ℕ
  rest = drop j block

  later-over : (k : ℕ) → Over m z left rest (space (free count l)) (k + 1) → Over m s allowance block (space l₀) (j + k + 1)
  later-over k (inl g) =
      let e : j + k + 1 ≡ j + (k + 1) = omega arith in
      inl (omega (
        arith,
        ap (λ (i : ℕ). length (reports_by m s block i)) e,
        ap length (reports-later m s block j (k + 1)),
        length-append (reports_by m s block j) (reports_by m z rest (k + 1)),
        free-space l count (filled-inside filled),
        filled-space filled,
        filled.count_is,
      ))
  later-over k (inr g) =
      let e : j + k + 1 ≡ j + (k + 1) = omega arith in
      inr (omega (arith, ap (cost_by m s block) e, cost-later m s block j (k + 1), paid))

  module _ (out : S → Stream) (r : Progress) (last : Lists) (h : AdvancedBy m out z left rest (free count l) r last) where
    -- both stay within the block and the space
    pub parts-inside : j + r.taken ≤ length block
    parts-inside = omega (arith, h.inside, length-drop j block)

    pub parts-room : count + r.reports ≤ space l₀
    parts-room = omega (arith, h.filled.room, free-space l count (filled-inside filled), filled-space filled)

    pub parts : AdvancedBy m out s allowance block l₀
        (record { taken = j + r.taken; reports = count + r.reports; used = allowance - left + r.used; stream = r.stream }) (back count l last)
    parts = record {
      inside = parts-inside;
      used_is = omega (arith, h.used_is, paid, cost-later m s block j r.taken);
      paid = omega (arith, h.paid, paid);
      stream_is = h.stream_is ∙ ap out (sym (after-later m s block j r.taken));
      filled = filled-same (sym (reports-later m s block j r.taken)) (filled-part filled (reports_by m z rest r.taken) r.reports last h.filled);
      stops = λ b. later-over r.taken (h.stops (omega (arith, length-drop j block)));
    }
