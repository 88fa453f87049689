-- A byte that is offered: it is taken, or the turn stops before it, by what the parts of the code
-- promise. Some bytes: `Running` says what holds once they are taken, and where the loop stops one
-- more byte would not fit.
use mathlib.Core.Path.{◌≡◌, refl, sym, ap, subst, ◌∙◌}
use mathlib.Core.Bool.{Bool, true, false}
use mathlib.Core.Logic.{◌⊎◌, inl, inr}
use mathlib.Core.List.{List, [], ◌++◌}
use Prim.Native.Nat.{ℕ, zero, suc, ◌+◌, ◌-◌, ◌<◌, ◌≤◌, zero-le}
use native.Mathlib.Nat.{add-zero, add-suc}
use native.Mathlib.Numerals.{add-one}
use native.Mathlib.Omega.{arith}
use lib.ListN.{length, get_or, length-append}
use Rattle.std.specs.Prelude.{None, Some}
use Rattle.sets.specs.Set.{is_empty}
use Rattle.kinds.specs.Side.{side_of}
use Rattle.table.specs.Automaton.{Automaton}
use Rattle.steps.specs.Step.{OnlyIn}
use Rattle.stream.specs.declared.Stream.{Stream}
use Rattle.stream.specs.Byte.{after, reports_by, cost_by, next_live, next_held, busy_of}
use Rattle.stream.specs.Invariants.{Over}
use Rattle.stream.proofs.Machines.{after_more, reports-more, cost-more}
use Rattle.traced.specs.declared.Starts.{Starts}
use Rattle.traced.specs.declared.Traced.{Traced}
use Rattle.traced.specs.declared.scan.Turn.{Turn}
use Rattle.traced.specs.declared.scan.Delivery.{Delivery}
use Rattle.traced.specs.Byte.{pending_long, stream_next, next_starts, next_state, byte_reports, traced}
use Rattle.traced.specs.Calls.{Lists, space}
use Rattle.traced.specs.Invariants.{InOrder, free, back, Filled, Gone, Delivered, Stops, Takes, Running, Ran}
use Rattle.traced.proofs.Carrying.{only_next, none_only, none-pairs}
use Rattle.traced.proofs.Lists.{written_none, written-part, written-at-none, free-space, filled-start, filled-space, filled_more, filled-same}

module _ (w : Automaton) (z : Traced) (first : ℕ) (block : List ℕ) (y : Turn) (l : Lists) where
  abbrev x : ℕ
  x = get_or block y.at 0

  -- the loop stops, all as it was
  pub offered-stop : (k : Starts) (l' : Lists) → k ≡ z.starts → l' ≡ l
      → (y.at < length block → (space l < y.count + length (byte_reports w z x)) ⊎ (y.left < suc (busy_of z.stream))) → Stops w z block y l k l'
  offered-stop k l' same lists over = record { over = over; starts_are = same; lists_are = lists }

  pub offered-end : length block ≤ y.at → Stops w z block y l z.starts l
  offered-end h = offered-stop z.starts l refl refl (λ b. absurd (omega arith))

  pub offered-unpaid : (turns : ℕ) → turns ≡ busy_of z.stream → y.left < 1 + turns → Stops w z block y l z.starts l
  offered-unpaid turns e h = offered-stop z.starts l refl refl (λ b. inr (less y.left turns (busy_of z.stream) e h))
    where
      less : (left n m : ℕ) → n ≡ m → left < 1 + n → left < suc m
      less left n m e h = omega arith

  -- what the runs came to, in what is free of the lists
  module _ (room : y.count ≤ space l) (k : Starts) (last : Lists) where
    pub offered-full : Delivered w z x first (free y.count l) None k last → Stops w z block y l k (back y.count l last)
    offered-full h =
        offered-stop k (back y.count l last) h.1
        (written-part first l y.count [] last room (h.2 ∙ sym (written_none first (free y.count l))) ∙ written-at-none first l y.count)
        (λ b. inl (over y.count (space (free y.count l)) (space l) (length (byte_reports w z x)) (free-space first l y.count room) h.0))
      where
        over : (n f s m : ℕ) → n + f ≡ s → f < m → s < n + m
        over n f s m e h = omega arith

    module _ (d : Delivery) (h : Delivered w z x first (free y.count l) (Some d) k last) where
      done : Gone w z x first (free y.count l) d.reports d.reported d.some d.waits k last
      done = h.1

      pub enough : y.count + length (byte_reports w z x) ≤ space l
      enough = in-space y.count (space (free y.count l)) (space l) (length (byte_reports w z x)) (free-space first l y.count room) h.0
        where
          in-space : (n f s m : ℕ) → n + f ≡ s → m ≤ f → n + m ≤ s
          in-space n f s m e h = omega arith

      pub enough-reports : y.count + d.reports ≤ space l
      enough-reports = subst (λ (n : ℕ). y.count + n ≤ space l) (sym done.reports_are) enough

      pub offered-taken : y.at < length block → (turns : ℕ) → turns ≡ busy_of z.stream → 1 + turns ≤ y.left
          → (stream : Stream) → stream ≡ record {
            live = next_live w z.stream x;
            held = next_held w z.stream x;
            reported = d.reported;
            pending = pending_long w z.stream z.starts.live x;
            last = side_of x;
            taken = z.stream.taken + 1;
            rules = z.stream.rules;
            positions = z.stream.positions;
            closed = z.stream.closed;
          }
          → Takes w z first block y l
          (record { stream = stream; at = y.at + 1; count = y.count + d.reports; left = y.left - (1 + turns); some = d.some; waits = d.waits })
          k (back y.count l last)
      unfolding stream_next
      offered-taken inside turns size paid stream is =
          let cost : 1 + turns ≡ suc (busy_of z.stream) = units turns (busy_of z.stream) size in
          record {
            inside = inside;
            room = enough;
            paid = subst (λ (n : ℕ). n ≤ y.left) cost paid;
            stream_is =
                is
                ∙ (λ i. record {
                  live = next_live w z.stream x;
                  held = next_held w z.stream x;
                  reported = done.marks_are i;
                  pending = pending_long w z.stream z.starts.live x;
                  last = side_of x;
                  taken = add-one z.stream.taken i;
                  rules = z.stream.rules;
                  positions = z.stream.positions;
                  closed = z.stream.closed;
                });
            at_is = refl;
            count_is = ap (λ (n : ℕ). y.count + n) done.reports_are;
            left_is = ap (λ (n : ℕ). y.left - n) cost;
            starts_are = done.starts_are;
            lists_are = written-part first l y.count (byte_reports w z x) last room done.lists_are;
            live_none = done.live_none;
            wait_none = done.wait_none;
          }
        where
          units : (n m : ℕ) → n ≡ m → 1 + n ≡ suc m
          units n m e = omega arith

-- ---- some bytes

-- where the loop begins
abbrev pub start_turn : Stream → (some waits : Bool) → (allowance : ℕ) → Turn
start_turn s some waits allowance = record { stream = s; at = 0; count = 0; left = allowance; some = some; waits = waits }

abbrev state_of : Stream → Starts → Traced
state_of s k = record { stream = s; starts = k }

module _ (w : Automaton) (z : Traced) (allowance : ℕ) (block : List ℕ) (l₀ : Lists) where
  -- nothing is live or held, or a start may not be 0
  pub running-start : (some waits : Bool) → (some ≡ false → is_empty z.stream.live ≡ true) → (waits ≡ false → (is_empty z.stream.held ≡ true) × (z.stream.pending ≡ 0))
      → InOrder z.stream z.starts → Running w z allowance block l₀ (start_turn z.stream some waits allowance) z.starts l₀
  unfolding after reports_by cost_by
  running-start some waits lives holds order = record {
    inside = zero-le;
    state_is = refl;
    paid = add-zero allowance;
    filled = filled-start z.stream.taken l₀;
    only = order.live;
    live_none = λ e. none_only order.live (lives e);
    wait_none = λ e. (none_only order.held (holds e).0, none-pairs order (holds e).1);
  }

  module _ (y : Turn) (k : Starts) (l : Lists) (h : Running w z allowance block l₀ y k l) where
    abbrev here : Traced
    here = state_of y.stream k

    abbrev byte : ℕ
    byte = get_or block y.at 0

    state-next : next_state w here byte ≡ after (traced w) z block (y.at + 1)
    state-next = ap (λ (u : Traced). next_state w u byte) h.state_is ∙ sym (after_more (traced w) z block y.at)

    reports-next : reports_by (traced w) z block y.at ++ byte_reports w here byte ≡ reports_by (traced w) z block (y.at + 1)
    reports-next =
        ap (λ (u : Traced). reports_by (traced w) z block y.at ++ byte_reports w u byte) h.state_is ∙ sym (reports-more (traced w) z block y.at)

    cost-next : cost_by (traced w) z block (y.at + 1) ≡ cost_by (traced w) z block y.at + suc (busy_of y.stream)
    cost-next = cost-more (traced w) z block y.at ∙ ap (λ (u : Traced). cost_by (traced w) z block y.at + suc (busy_of u.stream)) (sym h.state_is)

    -- a byte that is taken
    pub running-take : (r : Turn) (k' : Starts) (l' : Lists) → Takes w here z.stream.taken block y l r k' l' → Running w z allowance block l₀ r k' l'
    unfolding next_state stream_next
    running-take r k' l' t =
        let at : r.at ≡ y.at + 1 = t.at_is in
        record {
          inside = step-inside r.at y.at (length block) at t.inside;
          state_is =
              (λ i. state_of (t.stream_is i) (t.starts_are i)) ∙ state-next ∙ ap (after (traced w) z block) (sym at);
          paid =
              paid-on r.left y.left (suc (busy_of y.stream)) (cost_by (traced w) z block r.at) (cost_by (traced w) z block y.at) allowance
              t.left_is t.paid (ap (cost_by (traced w) z block) at ∙ cost-next) h.paid;
          filled =
              subst (λ (n : ℕ). Filled z.stream.taken (reports_by (traced w) z block r.at) l₀ n l') (sym t.count_is)
              (filled-same (reports-next ∙ ap (reports_by (traced w) z block) (sym at))
              (filled_more h.filled (byte_reports w here byte) l' t.lists_are t.room));
          only =
              subst (λ (u : Starts). OnlyIn r.stream.live u.live) (sym t.starts_are)
              (subst (λ (s : Stream). OnlyIn s.live (next_starts w here byte).live) (sym t.stream_is) (only_next w here byte));
          live_none = t.live_none;
          wait_none = t.wait_none;
        }
      where
        step-inside : (a b n : ℕ) → a ≡ b + 1 → b < n → a ≤ n
        step-inside a b n e h = omega arith

        paid-on : (left' left u c' c a : ℕ) → left' ≡ left - u → u ≤ left → c' ≡ c + u → left + c ≡ a → left' + c' ≡ a
        paid-on left' left u c' c a e p f g = omega arith

    -- the loop stops
    module _ (k' : Starts) (l' : Lists) (t : Stops w here block y l k' l') where
      pub running-stop : Running w z allowance block l₀ y k' l'
      running-stop =
          subst (λ (u : Starts). Running w z allowance block l₀ y u l') (sym t.starts_are)
          (subst (λ (u : Lists). Running w z allowance block l₀ y k u) (sym t.lists_are) h)

      pub stop-over : y.at < length block → Over (traced w) z allowance block (space l₀) (y.at + 1)
      stop-over b = go (t.over b)
        where
          many : (s s₀ c m n t : ℕ) → s ≡ s₀ → c ≡ n → t ≡ n + m → s < c + m → s₀ < t
          many s s₀ c m n t e f g h = omega arith

          much : (left u c c' a : ℕ) → left + c ≡ a → c' ≡ c + u → left < u → a < c'
          much left u c c' a e f h = omega arith

          go : (space l < y.count + length (byte_reports w here byte)) ⊎ (y.left < suc (busy_of y.stream)) → Over (traced w) z allowance block (space l₀) (y.at + 1)
          go (inl g) =
              inl (many (space l) (space l₀) y.count (length (byte_reports w here byte)) (length (reports_by (traced w) z block y.at)) (length (reports_by (traced w) z block (y.at + 1)))
              (filled-space h.filled) h.filled.count_is
              (sym (ap length reports-next) ∙ length-append (reports_by (traced w) z block y.at) (byte_reports w here byte)) g)
          go (inr g) =
              inr (much y.left (suc (busy_of y.stream)) (cost_by (traced w) z block y.at) (cost_by (traced w) z block (y.at + 1)) allowance h.paid cost-next g)

-- ---- the loop

module _ {w : Automaton} {z : Traced} {allowance : ℕ} {block : List ℕ} {l₀ : Lists} {y : Turn} {k k' : Starts} {l l' : Lists} (h : Running w z allowance block l₀ y k l) where
  pub turned : {r : Turn} → Takes w (state_of y.stream k) z.stream.taken block y l r k' l' → Running w z allowance block l₀ r k' l'
  turned {r} t = running-take w z allowance block l₀ y k l h r k' l' t

  pub ran : Stops w (state_of y.stream k) block y l k' l' → Ran w z allowance block l₀ y k' l'
  ran t = record { running = running-stop w z allowance block l₀ y k l h k' l' t; rests = stop-over w z allowance block l₀ y k l h k' l' t }

-- the loop's measure, from a place before the byte
pub turn-less : {w : Automaton} {z : Traced} {first : ℕ} {block : List ℕ} {y r : Turn} {l l' : Lists} {k : Starts} → Takes w z first block y l r k l'
    → (at : ℕ) → at ≤ y.at → length block - r.at < length block - at
turn-less t at before = omega (arith, t.at_is, t.inside)

-- the bytes taken so far
pub taken-after : (w : Automaton) (z : Traced) (block : List ℕ) (n : ℕ) → (after (traced w) z block n).stream.taken ≡ z.stream.taken + n
unfolding after next_state stream_next
taken-after w z block zero = sym (add-zero z.stream.taken)
taken-after w z block (suc n) = ap suc (taken-after w z block n) ∙ sym (add-suc z.stream.taken n)

pub taken-now : {w : Automaton} {z : Traced} {allowance : ℕ} {block : List ℕ} {l₀ : Lists} {y : Turn} {k : Starts} {l : Lists} → Running w z allowance block l₀ y k l
    → y.stream.taken ≡ z.stream.taken + y.at
taken-now {w} {z} {block = block} {y = y} h = ap (λ (u : Traced). u.stream.taken) h.state_is ∙ taken-after w z block y.at
