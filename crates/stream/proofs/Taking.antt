-- A byte that is offered: it is taken, or the turn stops before it, by what the parts of the code
-- promise.
use mathlib.Core.Path.{◌≡◌, refl, sym, ap, ◌∙◌, subst}
use mathlib.Core.Bool.{Bool, true, false, cond}
use mathlib.Core.Logic.{inl, inr}
use mathlib.Core.List.{List, []}
use Prim.Native.Nat.{ℕ, suc, ◌+◌, ◌-◌, ◌<◌, ◌≤◌}
use native.Mathlib.Omega.{arith}
use lib.Dec.{ltb}
use lib.ListN.{length, get_or}
use borrow.Author.Tests.{ltb-true, ltb-false}
use Rattle.std.specs.Prelude.{None, Some}
use Rattle.sets.specs.Set.{size_of}
use Rattle.kinds.specs.declared.Side.{Side}
use Rattle.kinds.specs.Side.{side_of}
use Rattle.table.specs.Gaps.{between, unsettled}
use Rattle.table.specs.Automaton.{Automaton}
use Rattle.steps.specs.Step.{ends, ends_newly, late_in, windowed}
use Rattle.stream.specs.declared.Stream.{Stream}
use Rattle.stream.specs.declared.scan.Turn.{Turn}
use Rattle.stream.specs.Byte.{given, next_live, late_test, own_test, byte_reports, byte_state}
use Rattle.stream.specs.Calls.{Lists, space, written}
use Rattle.stream.specs.Invariants.{waits_in, written_at, free, back, here_at, Delivered, Offered}
use Rattle.stream.proofs.Lists.{written-part, written-at-none, free-space}

module _ (w : Automaton) (taken : ℕ) (block : List ℕ) (z : Turn) (l : Lists) where
  abbrev here : Stream
  here = here_at taken z

  abbrev x : ℕ
  x = get_or block z.at 0

  -- the end of the block, or too few units
  pub offered-end : length block ≤ z.at → Offered w here block z l None l
  offered-end h = record { over = λ b. absurd (omega arith); lists_are = refl }

  pub offered-unpaid : (turns : ℕ) → turns ≡ size_of z.live → z.left < 1 + turns → Offered w here block z l None l
  offered-unpaid turns e h = record { over = λ b. inr (omega (arith, e)); lists_are = refl }

-- what was written into the free part of the lists once a step was taken: the next live set, the
-- side of the byte, what the byte's runs came to, and whether a position waits for the next byte
pub record Told (w : Automaton) (taken : ℕ) (block : List ℕ) (z : Turn) (l : Lists) (next : List ℕ) (new : Side) (full : Bool) (reports marks : ℕ) (waits : Bool) (last : Lists) : Type 0 where
  pub step : next ≡ next_live w (here_at taken z) (get_or block z.at 0)
  pub side : new ≡ side_of (get_or block z.at 0)
  pub room : z.count ≤ space l
  pub wait : waits ≡ waits_in w next
  pub delivered : Delivered w (windowed w (ends_newly w (between z.side new) (late_in w z.live) unsettled z.live) (taken + z.at))
      (windowed w (ends w unsettled next) (suc (taken + z.at))) z.reported
      (given w (taken + z.at)) (given w (suc (taken + z.at))) (free z.count l) full reports marks last

module _ {w : Automaton} {taken : ℕ} {block : List ℕ} {z : Turn} {l : Lists} {next : List ℕ} {new : Side} {full : Bool} {reports marks : ℕ} {waits : Bool} {last : Lists}
    (h : Told w taken block z l next new full reports marks waits last) where
  abbrev there : Stream
  there = here_at taken z

  abbrev byte : ℕ
  byte = get_or block z.at 0

  -- they are the runs of the definition
  runs : Delivered w (late_test w there byte) (own_test w there byte) z.reported (given w (taken + z.at)) (given w (suc (taken + z.at))) (free z.count l) full reports marks last
  runs =
      subst (λ (y : Side). Delivered w (windowed w (ends_newly w (between z.side y) (late_in w z.live) unsettled z.live) (taken + z.at)) (own_test w there byte) z.reported
      (given w (taken + z.at)) (given w (suc (taken + z.at))) (free z.count l) full reports marks last) h.side
      (subst (λ (y : List ℕ). Delivered w (windowed w (ends_newly w (between z.side new) (late_in w z.live) unsettled z.live) (taken + z.at)) (windowed w (ends w unsettled y) (suc (taken + z.at))) z.reported
      (given w (taken + z.at)) (given w (suc (taken + z.at))) (free z.count l) full reports marks last) h.step h.delivered)

  full_if : full ≡ ltb (space (free z.count l)) (length (byte_reports w there byte))
  unfolding byte_reports
  full_if = runs.full_if

  reports_are : full ≡ false → reports ≡ length (byte_reports w there byte)
  unfolding byte_reports
  reports_are e = runs.reports_are ∙ ap (λ (b : Bool). length (cond b [] (byte_reports w there byte))) e

  marks_are : full ≡ false → marks ≡ (byte_state w there byte).reported
  unfolding byte_state
  marks_are e = runs.marks_are ∙ ap (λ (b : Bool). cond b z.reported (byte_state w there byte).reported) e

  wrote : (b : Bool) → full ≡ b → back z.count l last ≡ written_at z.count (cond b [] (byte_reports w there byte)) l
  unfolding byte_reports
  wrote b e =
      written-part l z.count (cond b [] (byte_reports w there byte)) last h.room
      (runs.lists_are ∙ ap (λ (y : Bool). written (cond y [] (byte_reports w there byte)) (free z.count l)) e)

  pub offered-full : full ≡ true → Offered w there block z l None (back z.count l last)
  offered-full e = record {
    over = λ b. inl (omega (arith, ltb-true (space (free z.count l)) (length (byte_reports w there byte)) (sym full_if ∙ e), free-space l z.count h.room));
    lists_are = wrote true e ∙ written-at-none l z.count;
  }

  pub taken-room : full ≡ false → z.count + reports ≤ space l
  taken-room e =
      omega (
        arith,
        ltb-false (space (free z.count l)) (length (byte_reports w there byte)) (sym full_if ∙ e),
        free-space l z.count h.room,
        reports_are e,
      )

  pub offered-taken : z.at < length block → full ≡ false → (turns : ℕ) → turns ≡ size_of z.live → 1 + turns ≤ z.left
      → Offered w there block z l
      (Some (record { live = next; before = z.live; reported = marks; side = new; waits = waits; at = z.at + 1; count = z.count + reports; left = z.left - (1 + turns) }))
      (back z.count l last)
  offered-taken inside e turns size paid =
      let cost : 1 + turns ≡ suc (size_of z.live) = omega (arith, size) in
      record {
        inside = inside;
        room = omega (arith, taken-room e, reports_are e);
        paid = omega (arith, cost);
        is =
            λ i. record {
              live = h.step i;
              before = z.live;
              reported = marks_are e i;
              side = h.side i;
              waits = (h.wait ∙ ap (waits_in w) h.step) i;
              at = z.at + 1;
              count = z.count + reports_are e i;
              left = z.left - cost i;
            };
        lists_are = wrote false e;
      }
