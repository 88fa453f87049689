-- The answers of the calls, from what their parts promise. What waits for the stream's end is
-- what the last byte taken leaves; each call's definition is then settled by its number.
use mathlib.Core.Path.{◌≡◌, refl, sym, ap, ap₂, ◌∙◌, subst}
use mathlib.Core.Bool.{Bool, true, false, cond, ◌&&◌, and-false}
use mathlib.Core.List.{List}
use Prim.Native.Nat.{ℕ, ◌+◌, ◌-◌, ◌<◌, ◌≤◌}
use native.Mathlib.Omega.{arith}
use lib.Dec.{eqb, ltb}
use lib.ListN.{length, get_or}
use borrow.Author.Tests.{eq-eqb, ne_eqb, eqb-true, eqb-false, lt-ltb}
use Rattle.std.specs.Prelude.{Ok, Err}
use Rattle.refusals.specs.declared.Refusal.{Refusal}
use Rattle.refusals.specs.Refusal.{number_of}
use Rattle.refusals.proofs.Laws.{number-above}
use Rattle.sets.specs.Set.{empty_set}
use Rattle.kinds.specs.declared.Side.{Side}
use Rattle.kinds.specs.declared.Side.TheVariants.{Newline}
use Rattle.kinds.specs.Side.{side_of}
use Rattle.table.specs.Layout.{table_words, rules_of, positions_of}
use Rattle.table.specs.Table.{is_table}
use Rattle.table.specs.Gaps.{between, before_last}
use Rattle.table.specs.Automaton.{Automaton, automaton}
use Rattle.steps.specs.Step.{set_on, number_on, stepped, ends_newly, rules_where}
use Rattle.steps.proofs.TableSets.{set_on_lem, number-on}
use Rattle.stream.specs.declared.Stream.{Stream}
use Rattle.stream.specs.declared.Progress.{Progress}
use Rattle.stream.specs.declared.scan.Turn.{Turn}
use Rattle.stream.specs.Byte.{Report, Machine, after, fits_by, next_held, next_pending, byte_state, plain, state_after, reports_of, cost_of}
use Rattle.stream.specs.Calls.{Lists, Call, fresh, opened, space, close_number, call_number, taken_by, written, scanned, scanned_of, scanned_lists, shut, closed, closed_of, closed_lists}
use Rattle.stream.specs.Invariants.{state_of, side_at, Left, Ended, Running, Ran, AdvancedBy, Advanced}
use Rattle.stream.proofs.Machines.{after_more, fits-is}
use Rattle.stream.proofs.Blocks.{taken-after, last-after, rules-after, positions-after, closed_after}
use Rattle.stream.proofs.Counting.{counting, held-alike, pending-alike}

-- ---- what waits for the stream's end

-- the rules with a pair before a byte that may end the last line
abbrev line_rules : Automaton → Stream → ℕ
line_rules w s = rules_where w (ends_newly w (before_last s.last) s.live (between s.last Newline) s.live)

-- only a newline may end the last line
module _ (w : Automaton) (s : Stream) (x : ℕ) (other : x ≡ 10 → ⊥) where
  pub none-held : (held : List ℕ) → held ≡ empty_set → held ≡ next_held w s x
  unfolding next_held
  none-held held e =
      e ∙ ap (λ (b : Bool). cond b (stepped w true s.last (side_of x) w.positions s.live s.taken x) empty_set) (sym (ne_eqb x 10 other))

  pub none-pending : 0 ≡ next_pending w s x
  unfolding next_pending
  none-pending = ap (λ (b : Bool). cond (b && ltb 0 s.taken) (line_rules w s) 0) (sym (ne_eqb x 10 other))

module _ (t : List ℕ) (long : table_words ≤ length t) (s : Stream) (x : ℕ) (newline : x ≡ 10) where
  pub line-held : (side : Side) → side ≡ side_of x → (held : List ℕ) → held ≡ set_on t (stepped (automaton t) true s.last side (positions_of t) s.live s.taken x)
      → held ≡ next_held (automaton t) s x
  unfolding next_held automaton
  line-held side is held e =
      e ∙ set_on_lem t (stepped (automaton t) true s.last side (positions_of t) s.live s.taken x) long
      ∙ ap₂ (λ (b : Bool) (y : Side). cond b (stepped (automaton t) true s.last y (positions_of t) s.live s.taken x) empty_set) (sym (eq-eqb x 10 newline)) is

  -- before the first byte no pair ends
  pub start-pending : s.taken ≡ 0 → 0 ≡ next_pending (automaton t) s x
  unfolding next_pending
  start-pending e = ap (λ (b : Bool). cond b (line_rules (automaton t) s) 0) (sym (ap (λ (n : ℕ). eqb x 10 && ltb 0 n) e ∙ and-false (eqb x 10)))

  pub line-pending : (s.taken ≡ 0 → ⊥) → (pending : ℕ) → pending ≡ number_on t (line_rules (automaton t) s) → pending ≡ next_pending (automaton t) s x
  unfolding next_pending
  line-pending later pending e =
      e ∙ number-on t (line_rules (automaton t) s) long
      ∙ ap (λ (b : Bool). cond b (line_rules (automaton t) s) 0)
      (sym (ap₂ (λ (b c : Bool). b && c) (eq-eqb x 10 newline) (lt-ltb 0 s.taken (omega (arith, later)))))

module _ (w : Automaton) (s : Stream) (block before : List ℕ) (n : ℕ) where
  -- before the last of n bytes, as far as it counts for what waits
  abbrev before_last_byte : Stream
  before_last_byte = state_of before 0 (side_at s.last block (n - 1)) (s.taken + (n - 1))

  pub left-none : n ≡ 0 → Left w s block before n s.held s.pending
  left-none e = record {
    held_is = ap (λ (b : Bool). cond b s.held (next_held w before_last_byte (get_or block (n - 1) 0))) (sym (eq-eqb n 0 e));
    pending_is = ap (λ (b : Bool). cond b s.pending (next_pending w before_last_byte (get_or block (n - 1) 0))) (sym (eq-eqb n 0 e));
  }

  pub left-some : (n ≡ 0 → ⊥) → (side : Side) → side ≡ side_at s.last block (n - 1) → (held : List ℕ) (pending : ℕ)
      → held ≡ next_held w (state_of before 0 side (s.taken + (n - 1))) (get_or block (n - 1) 0)
      → pending ≡ next_pending w (state_of before 0 side (s.taken + (n - 1))) (get_or block (n - 1) 0) → Left w s block before n held pending
  left-some e side is held pending h p = record {
    held_is =
        h ∙ ap₂ (λ (b : Bool) (y : Side). cond b s.held (next_held w (state_of before 0 y (s.taken + (n - 1))) (get_or block (n - 1) 0))) (sym (ne_eqb n 0 e)) is;
    pending_is =
        p ∙ ap₂ (λ (b : Bool) (y : Side). cond b s.pending (next_pending w (state_of before 0 y (s.taken + (n - 1))) (get_or block (n - 1) 0))) (sym (ne_eqb n 0 e)) is;
  }

-- what waits after some bytes of a block
pub record Waits (w : Automaton) (s : Stream) (block : List ℕ) (taken : ℕ) (held : List ℕ) (pending : ℕ) : Type 0 where
  pub held_is : held ≡ (state_after w s block taken).held
  pub pending_is : pending ≡ (state_after w s block taken).pending

-- what the state had, where there are none
none-wait : (w : Automaton) (s : Stream) (block : List ℕ) → Waits w s block 0 s.held s.pending
unfolding after
none-wait w s block = record { held_is = refl; pending_is = refl }

-- what the last of them leaves, from the live set before it
module _ (w : Automaton) (s : Stream) (allowance : ℕ) (block : List ℕ) (l l' : Lists) (r : Turn) (ran : Running w s allowance block l r l') where
  last-waits : 0 < r.at
      → Waits w s block r.at (next_held w (before_last_byte w s block r.before r.at) (get_or block (r.at - 1) 0)) (next_pending w (before_last_byte w s block r.before r.at) (get_or block (r.at - 1) 0))
  last-waits some =
      let j : ℕ = r.at - 1 in
      let x : ℕ = get_or block j 0 in
      let y : Stream = state_after w s block j in
      let z : Stream = state_of r.before y.reported (side_at s.last block j) (s.taken + j) in
      let alike : counting y ≡ counting z = λ i. state_of (sym (ran.before_is some) i) y.reported (last-after w s block j i) (taken-after w s block j i) in
      let one : j + 1 ≡ r.at = omega arith in
      let more : byte_state w y x ≡ state_after w s block r.at = sym (after_more (plain w) s block j) ∙ ap (state_after w s block) one in
      record {
        held_is = held-alike w y z alike x ∙ ap (λ (z : Stream). z.held) more;
        pending_is = pending-alike w y z alike x ∙ ap (λ (z : Stream). z.pending) more;
      }

  -- what the loop left, and what came after it
  pub waits : (held : List ℕ) (pending : ℕ) → Left w s block r.before r.at held pending → Waits w s block r.at held pending
  waits held pending left = go (eqb r.at 0) refl
    where
      go : (b : Bool) → eqb r.at 0 ≡ b → Waits w s block r.at held pending
      go true e =
          let none = subst (λ (n : ℕ). Waits w s block n s.held s.pending) (sym (eqb-true r.at 0 e)) (none-wait w s block) in
          record {
            held_is = left.held_is ∙ ap (λ (b : Bool). cond b s.held (next_held w (before_last_byte w s block r.before r.at) (get_or block (r.at - 1) 0))) e ∙ none.held_is;
            pending_is = left.pending_is ∙ ap (λ (b : Bool). cond b s.pending (next_pending w (before_last_byte w s block r.before r.at) (get_or block (r.at - 1) 0))) e ∙ none.pending_is;
          }
      go false e =
          let last = last-waits (omega (arith, eqb-false r.at 0 e)) in
          record {
            held_is = left.held_is ∙ ap (λ (b : Bool). cond b s.held (next_held w (before_last_byte w s block r.before r.at) (get_or block (r.at - 1) 0))) e ∙ last.held_is;
            pending_is = left.pending_is ∙ ap (λ (b : Bool). cond b s.pending (next_pending w (before_last_byte w s block r.before r.at) (get_or block (r.at - 1) 0))) e ∙ last.pending_is;
          }

-- ---- opening

pub opened-refused : (t : List ℕ) (z : Stream) → is_table t ≡ false → z ≡ fresh 0 0 true → record { number = 1; stream = z } ≡ opened t
unfolding opened
opened-refused t z e f = ap (λ (x : Stream). record { number = 1; stream = x }) f ∙ sym (rw e)

pub opened-is : (t : List ℕ) (z : Stream) → is_table t ≡ true → z ≡ fresh (rules_of t) (positions_of t) false → record { number = 0; stream = z } ≡ opened t
unfolding opened
opened-is t z e f = ap (λ (x : Stream). record { number = 0; stream = x }) f ∙ sym (rw e)

-- ---- scanning

-- a scan takes as many bytes as fit
pub advanced-fits : {S : Type 0} (m : Machine S Report) (out : S → Stream) (s : S) (allowance : ℕ) (block : List ℕ) (l : Lists) (r : Progress) (l' : Lists)
    → AdvancedBy m out s allowance block l r l' → r.taken ≡ fits_by m s allowance block (space l) (length block)
advanced-fits m out s allowance block l r l' h =
    sym (fits-is m s block allowance (space l) r.taken (length block) h.inside (omega (arith, h.filled.count_is, h.filled.room)) (omega (arith, h.used_is, h.paid)) h.stops)

-- what the loop left, put back into the state
module _ {w : Automaton} {s : Stream} {allowance : ℕ} {block : List ℕ} {l l' : Lists} {r : Turn} {held : List ℕ} {pending : ℕ}
    (ran : Ran w s allowance block l r l') (left : Left w s block r.before r.at held pending) where
  abbrev come : Stream
  come = record { live = r.live; held = held; reported = r.reported; pending = pending; last = r.side; taken = s.taken + r.at; rules = s.rules; positions = s.positions; closed = s.closed }

  state_is : come ≡ state_after w s block r.at
  state_is =
      let h = ran.running in
      let wait = waits w s allowance block l l' r h held pending left in
      (λ i. record {
        live = h.live_is i;
        held = wait.held_is i;
        reported = h.marks_are i;
        pending = wait.pending_is i;
        last = (ran.running.side_is ∙ sym (last-after w s block r.at)) i;
        taken = sym (taken-after w s block r.at) i;
        rules = sym (rules-after w s block r.at) i;
        positions = sym (positions-after w s block r.at) i;
        closed = sym (closed_after w s block r.at) i;
      })

  -- what is left is at most the allowance
  pub left-fits : r.left ≤ allowance
  left-fits = omega (arith, ran.running.paid)

  pub advanced : Advanced w s allowance block l (record { taken = r.at; reports = r.count; used = allowance - r.left; stream = come }) l'
  advanced = record {
    inside = ran.running.inside;
    used_is = omega (arith, ran.running.paid);
    paid = omega arith;
    stream_is = state_is;
    filled = ran.running.filled;
    stops = ran.stops;
  }

module _ (t : List ℕ) (s : Stream) (c : Call) where
  -- a refused scan gives its number and leaves all else
  module _ (r : Refusal) (is : number_of r ≡ call_number t s c) where
    shut-test : eqb (call_number t s c) 0 ≡ false
    shut-test = ne_eqb (call_number t s c) 0 (λ z. omega (arith, number-above r, is, z))

    pub scan_refused : (scanned_of s (Err r) ≡ scanned t s c) × (c.slots ≡ scanned_lists t s c)
    unfolding scanned scanned_lists
    scan_refused =
        (ap (λ (n : ℕ). record { number = n; taken = 0; reports = 0; used = 0; stream = s }) is ∙ sym (rw shut-test), sym (rw shut-test))

  -- an accepted scan gives what its definition says
  module _ (accepted : 0 ≡ call_number t s c) (r : Progress) (l' : Lists) (done : Advanced (automaton t) s c.allowance c.block c.slots r l') where
    open-test : eqb (call_number t s c) 0 ≡ true
    open-test = eq-eqb (call_number t s c) 0 (sym accepted)

    taken_is : r.taken ≡ taken_by t s c
    unfolding taken_by
    taken_is = advanced-fits (plain (automaton t)) (λ s. s) s c.allowance c.block c.slots r l' done

    answer-is : scanned_of s (Ok r) ≡ scanned t s c
    unfolding scanned
    answer-is =
        (λ i. record {
          number = 0;
          taken = taken_is i;
          reports = (done.filled.count_is ∙ ap (λ (k : ℕ). length (reports_of (automaton t) s c.block k)) taken_is) i;
          used = (done.used_is ∙ ap (cost_of (automaton t) s c.block) taken_is) i;
          stream = (done.stream_is ∙ ap (state_after (automaton t) s c.block) taken_is) i;
        })
        ∙ sym (rw open-test)

    lists_are : l' ≡ scanned_lists t s c
    unfolding scanned_lists
    lists_are = done.filled.lists_are ∙ ap (λ (k : ℕ). written (reports_of (automaton t) s c.block k) c.slots) taken_is ∙ sym (rw open-test)

    pub scan_accepted : (scanned_of s (Ok r) ≡ scanned t s c) × (l' ≡ scanned_lists t s c)
    scan_accepted = (answer-is, lists_are)

-- ---- closing

module _ (t : List ℕ) (s : Stream) (l : Lists) where
  -- a refused closing gives its number and leaves all else
  module _ (r : Refusal) (is : number_of r ≡ close_number t s (space l)) where
    kept_test : eqb (close_number t s (space l)) 0 ≡ false
    kept_test = ne_eqb (close_number t s (space l)) 0 (λ z. omega (arith, number-above r, is, z))

    pub close_refused : (closed_of s (Err r) ≡ closed t s l) × (l ≡ closed_lists t s l)
    unfolding closed closed_lists
    close_refused = (ap (λ (n : ℕ). record { number = n; reports = 0; stream = s }) is ∙ sym (rw kept_test), sym (rw kept_test))

  -- an accepted closing gives its runs and sets the mark
  module _ (accepted : 0 ≡ close_number t s (space l)) (reports : ℕ) (l' : Lists) (end : Ended (automaton t) s l reports l') where
    pass-test : eqb (close_number t s (space l)) 0 ≡ true
    pass-test = eq-eqb (close_number t s (space l)) 0 (sym accepted)

    pub close_accepted : (closed_of s (Ok (record { reports = reports; stream = shut s })) ≡ closed t s l) × (l' ≡ closed_lists t s l)
    unfolding closed closed_lists
    close_accepted =
        (ap (λ (n : ℕ). record { number = 0; reports = n; stream = shut s }) end.reports_are ∙ sym (rw pass-test), end.lists_are ∙ sym (rw pass-test))
