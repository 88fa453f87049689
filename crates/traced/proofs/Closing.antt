-- The reports of a closing, and what an accepted call gives.
use mathlib.Core.Path.{◌≡◌, refl, sym, ap, subst, ◌∙◌}
use mathlib.Core.Bool.{Bool, true, false, cond, not, and-eq-true_iff}
use mathlib.Core.List.{List}
use Prim.Native.Nat.{ℕ, ◌+◌, ◌*◌, ◌-◌, ◌^◌, ◌<◌, ◌≤◌}
use native.Mathlib.Nat.{zero-add, le_trans}
use native.Mathlib.Omega.{arith}
use lib.Bits.{bit_and}
use lib.ListN.{length, get_or}
use borrow.Author.Tests.{eq-eqb, ne_eqb, ltb-true, eqb-true, not-true}
use Rattle.std.specs.Prelude.{Ok, Err}
use Rattle.refusals.specs.declared.Refusal.{Refusal}
use Rattle.refusals.specs.Refusal.{number_of}
use Rattle.refusals.proofs.Laws.{number-above}
use Rattle.sets.specs.Set.{on, has, any}
use Rattle.sets.proofs.Laws.{any_none}
use Rattle.table.specs.Layout.{max_rules, max_positions}
use Rattle.table.specs.Gaps.{at_the_end}
use Rattle.table.specs.Automaton.{Automaton, automaton}
use Rattle.table.proofs.Members.{on-places}
use Rattle.steps.specs.Step.{rules_where, start_at, starts_at}
use Rattle.steps.proofs.Carrying.{list_length, list_at}
use Rattle.stream.specs.declared.Stream.{Stream}
use Rattle.stream.specs.Byte.{after, reports_by, cost_by, two_reports, held_test}
use Rattle.stream.specs.Calls.{shut}
use Rattle.stream.proofs.Machines.{fits-is}
use Rattle.stream.proofs.TwoRuns.{two-ext, two-few}
use Rattle.traced.specs.declared.Starts.{Starts}
use Rattle.traced.specs.declared.Traced.{Traced}
use Rattle.traced.specs.declared.scan.Turn.{Turn}
use Rattle.traced.specs.Byte.{Report, given, end_long, end_start, close_reports, traced}
use Rattle.starts.specs.Order.{start_ok, starts_ok}
use Rattle.traced.specs.Calls.{Lists, Call, space, written, taken_by, call_number, scanned, scanned_of, scanned_lists, close_number, closed, closed_of, closed_lists}
use Rattle.traced.specs.Invariants.{at, Small, RuleStarts, WroteTwo, Ended, Ran}
use Rattle.traced.proofs.Accepting.{in_order}
use Rattle.traced.proofs.Carrying.{empty-if}
use Rattle.traced.proofs.Delivering.{two-give, give-same, start_under}

-- ---- the starts at closing

-- the held positions come after the live ones
pub ends-each : (w : Automaton) (z : Traced) (rules gap : ℕ) (alive r : List ℕ) → gap ≡ at_the_end z.stream.last
    → RuleStarts rules (start_at w gap z.stream.live z.starts.live z.stream.taken) alive
    → r ≡ starts_at w rules gap z.stream.held z.starts.held alive → RuleStarts rules (end_start w z) r
unfolding starts_at
ends-each w z rules gap alive r is h e =
    subst (λ (g : ℕ). RuleStarts rules (ending g) r) is
    (record {
      as_long = ap length e ∙ list_length 0 max_rules (λ a. cond (on rules a) (waits gap (get_or alive a 0) a) 0);
      each = λ a lt.
          ap (λ (l : List ℕ). get_or l a 0) e
          ∙ list_at 0 max_rules (λ a. cond (on rules a) (waits gap (get_or alive a 0) a) 0) a lt
          ∙ ap (λ (b : ℕ). cond (on rules b) (waits gap (get_or alive b 0) b) 0) (zero-add a)
          ∙ go a lt (on rules a) refl;
    })
  where
    waits : ℕ → ℕ → ℕ → ℕ
    waits g d a = start_at w g z.stream.held z.starts.held d a

    ending : ℕ → ℕ → ℕ
    ending g a = waits g (start_at w g z.stream.live z.starts.live z.stream.taken a) a

    go : (a : ℕ) → a < max_rules → (b : Bool) → on rules a ≡ b → cond b (waits gap (get_or alive a 0) a) 0 ≡ cond b (ending gap a) 0
    go a lt true f =
        ap (λ (d : ℕ). waits gap d a)
        (h.each a lt ∙ ap (λ (b : Bool). cond b (start_at w gap z.stream.live z.starts.live z.stream.taken a) 0) f)
    go a lt false f = refl

pub end-under : (w : Automaton) (z : Traced) (a : ℕ) → end_start w z a ≤ z.stream.taken
end-under w z a =
    le_trans (start_under w (at_the_end z.stream.last) z.stream.held z.starts.held (start_at w (at_the_end z.stream.last) z.stream.live z.starts.live z.stream.taken a) a)
    (start_under w (at_the_end z.stream.last) z.stream.live z.starts.live z.stream.taken a)

-- ---- both runs

module _ (w : Automaton) (few : w.rules ≤ 64) (z : Traced) (kept found leftmost : ℕ) (kept-is : kept ≡ rules_where w (held_test w z.stream)) (found-is : found ≡ rules_where w (end_long w z))
    (flags : leftmost ≡ rules_where w w.leftmost) (d : ℕ) (before : d ≡ z.stream.taken - 1) (ends : List ℕ)
    (h : RuleStarts (bit_and found leftmost) (end_start w z) ends) where
  abbrev s : Stream
  s = z.stream

  pub closing-by : two_reports w (on kept) (on found) s.reported (given w d (at z.starts.pairs)) (given w s.taken (at ends)) ≡ close_reports w z
  unfolding close_reports
  closing-by =
      ap (λ (n : ℕ). two_reports w (on kept) (on found) s.reported (given w n (at z.starts.pairs)) (given w s.taken (at ends))) before
      ∙ two-give w (on kept) (on found) s.reported (given w (s.taken - 1) (at z.starts.pairs)) (given w (s.taken - 1) (at z.starts.pairs))
      (given w s.taken (at ends)) (given w s.taken (end_start w z)) (λ a l e. refl) (give-same w few leftmost flags found (end_start w z) ends h s.taken)
      ∙ two-ext w (on kept) (held_test w s) (on found) (end_long w z) s.reported (λ a l. ap (λ (x : ℕ). on x a) kept-is ∙ on-places (held_test w s) w.rules a l few)
      (λ a l. ap (λ (x : ℕ). on x a) found-is ∙ on-places (end_long w z) w.rules a l few)
      (given w (s.taken - 1) (at z.starts.pairs)) (given w s.taken (end_start w z))

  pub closing-room : (n : ℕ) → 2 * w.rules ≤ n
      → length (two_reports w (on kept) (on found) s.reported (given w d (at z.starts.pairs)) (given w s.taken (at ends))) ≤ n
  closing-room n l = le_trans (two-few w (on kept) (on found) s.reported (given w d (at z.starts.pairs)) (given w s.taken (at ends))) l

  pub ended : {l : Lists} {reports marks : ℕ} {l' : Lists}
      → WroteTwo w (on kept) (on found) s.reported (given w d (at z.starts.pairs)) (given w s.taken (at ends)) s.taken l reports marks l'
      → Ended w z l reports l'
  ended {l} wrote = record {
    reports_are = wrote.reports_are ∙ ap length closing-by;
    lists_are = wrote.lists_are ∙ ap (λ (r : List Report). written s.taken r l) closing-by;
  }

-- the starts of held pairs of a valid state fit a signed number
pub pairs_small : (z : Traced) → in_order z ≡ true → z.stream.taken < 2 ^ 63 → Small z.starts.pairs
unfolding starts_ok
pairs_small z e small a lt =
    go (on z.stream.pending a)
    (empty-if (start_ok (on z.stream.pending a) z.stream.taken (get_or z.starts.pairs a 0)) (any_none max_rules (λ q. not (start_ok (on z.stream.pending q) z.stream.taken (get_or z.starts.pairs q 0)))
    (not-true (any max_rules (λ q. not (start_ok (on z.stream.pending q) z.stream.taken (get_or z.starts.pairs q 0)))) last) a lt))
  where
    last : starts_ok max_rules (on z.stream.pending) z.stream.taken z.starts.pairs ≡ true
    last =
        ((and-eq-true_iff (starts_ok max_positions (has z.stream.held) z.stream.taken z.starts.held) _).0
        ((and-eq-true_iff (starts_ok max_positions (has z.stream.live) z.stream.taken z.starts.live) _).0 e).1).1

    go : (b : Bool) → start_ok b z.stream.taken (get_or z.starts.pairs a 0) ≡ true → get_or z.starts.pairs a 0 < 2 ^ 63
    go true q = below (get_or z.starts.pairs a 0) z.stream.taken (ltb-true (get_or z.starts.pairs a 0) z.stream.taken q) small
      where
        below : (a b : ℕ) → a < b → b < 2 ^ 63 → a < 2 ^ 63
        below a b h l = omega arith
    go false q = none (get_or z.starts.pairs a 0) (eqb-true (get_or z.starts.pairs a 0) 0 q)
      where
        none : (n : ℕ) → n ≡ 0 → n < 2 ^ 63
        none n e = omega arith

-- ---- the answers

module _ (t : List ℕ) (z : Traced) (c : Call) where
  pub refused-scan : (r : Refusal) → number_of r ≡ call_number t z c → (scanned_of z (Err r) ≡ scanned t z c) × (c.slots ≡ scanned_lists t z c)
  unfolding scanned scanned_lists
  refused-scan r is =
      let no = ne_eqb (call_number t z c) 0 (λ e. omega (arith, number-above r, is, e)) in
      (ap (λ (n : ℕ). record { number = n; taken = 0; reports = 0; used = 0; traced = z }) is ∙ sym (rw no), sym (rw no))

  pub accepted-scan : 0 ≡ call_number t z c → (r : Turn) (k : Starts) (l' : Lists) → Ran (automaton t) z c.allowance c.block c.slots r k l'
      → (scanned_of z (Ok (record { taken = r.at; reports = r.count; used = c.allowance - r.left; traced = record { stream = r.stream; starts = k } })) ≡ scanned t z c)
      × (l' ≡ scanned_lists t z c)
  unfolding scanned scanned_lists taken_by
  accepted-scan ok r k l' h =
      let w : Automaton = automaton t in
      let run = h.running in
      let reports : List Report = reports_by (traced w) z c.block r.at in
      let taken : taken_by t z c ≡ r.at =
      fits-is (traced w) z c.block c.allowance (space c.slots) r.at (length c.block) run.inside
      (subst (λ (n : ℕ). n ≤ space c.slots) run.filled.count_is run.filled.room)
      (paid r.left (cost_by (traced w) z c.block r.at) c.allowance run.paid) h.rests in
      let yes = eq-eqb (call_number t z c) 0 (sym ok) in (
        (λ i. record {
          number = 0;
          taken = sym taken i;
          reports = (run.filled.count_is ∙ ap (λ (n : ℕ). length (reports_by (traced w) z c.block n)) (sym taken)) i;
          used = (used r.left (cost_by (traced w) z c.block r.at) c.allowance run.paid ∙ ap (cost_by (traced w) z c.block) (sym taken)) i;
          traced = (run.state_is ∙ ap (after (traced w) z c.block) (sym taken)) i;
        }) ∙ sym (rw yes),
        run.filled.lists_are ∙ ap (λ (n : ℕ). written z.stream.taken (reports_by (traced w) z c.block n) c.slots) (sym taken) ∙ sym (rw yes),
      )
    where
      paid : (a b n : ℕ) → a + b ≡ n → b ≤ n
      paid a b n e = omega arith

      used : (a b n : ℕ) → a + b ≡ n → n - a ≡ b
      used a b n e = omega arith

module _ (t : List ℕ) (z : Traced) (l : Lists) where
  pub refused-close : (r : Refusal) → number_of r ≡ close_number t z (space l) → (closed_of z (Err r) ≡ closed t z l) × (l ≡ closed_lists t z l)
  unfolding closed closed_lists
  refused-close r is =
      let no = ne_eqb (close_number t z (space l)) 0 (λ e. omega (arith, number-above r, is, e)) in
      (ap (λ (n : ℕ). record { number = n; reports = 0; traced = z }) is ∙ sym (rw no), sym (rw no))

  pub accepted-close : 0 ≡ close_number t z (space l) → (reports : ℕ) (l' : Lists) → Ended (automaton t) z l reports l'
      → (closed_of z (Ok (record { reports = reports; traced = record { stream = shut z.stream; starts = z.starts } })) ≡ closed t z l) × (l' ≡ closed_lists t z l)
  unfolding closed closed_lists
  accepted-close ok reports l' h =
      let yes = eq-eqb (close_number t z (space l)) 0 (sym ok) in (
        ap (λ (n : ℕ). record { number = 0; reports = n; traced = record { stream = shut z.stream; starts = z.starts } }) h.reports_are ∙ sym (rw yes),
        h.lists_are ∙ sym (rw yes),
      )
