-- What ends a stream, on any table and any state. An accepted addition leaves words that pass the
-- test again with one rule more, so the counts that a state carries differ; an accepted closing
-- hands back a valid state with the closed mark.
use mathlib.Core.Path.{◌≡◌, refl, sym, ap, ◌∙◌}
use mathlib.Core.Bool.{Bool, true, false, cond}
use mathlib.Core.List.{List}
use Prim.Native.Nat.{ℕ, ◌^◌, ◌<◌}
use native.Mathlib.Omega.{arith}
use lib.ListN.{length}
use Rattle.table.specs.Layout.{rules_of}
use Rattle.table.specs.Table.{is_table}
use Rattle.table.specs.Automaton.{automaton}
use Rattle.rules.specs.Add.{Addition, add_answer, add_words}
use Rattle.rules.proofs.Checks.{accepted-rules, accepted-passes}
use Rattle.stream.specs.declared.Stream.{Stream}
use Rattle.stream.specs.Valid.{sound, valid}
use Rattle.stream.specs.Calls.{Closed, space, space_number, scan_number, close_number, closed, over_limit}
use Rattle.stream.proofs.Accepting.{fitting, valid-parts, accepted, close-number}
use Rattle.stream.proofs.Results.{scan-number, close-number-is, accepted-close, closed-valid}
use Rattle.traced.specs.declared.Traced.{Traced}
use Rattle.traced.specs.Valid.{valid as traced-valid}
use Rattle.traced.specs.Calls as traced
use Rattle.traced.proofs.Accepting.{Accepted, valid-parts as traced-parts}
use Rattle.demands.specs.Kinds.{short, traces}
use Rattle.demands.specs.Demands.{AdditionEndsStreams, ClosingEndsStream}
use Rattle.demands.proofs.Carried.{rules-at}
use Rattle.demands.proofs.Traced.{scan-number as trace-number, close-number-is as trace-close-number, close-holds as trace-holds, close_state as trace-ended, close-valid as trace-close-valid}

-- the number of a call whose table passes: by the state
module _ (y z : Bool) (n : ℕ) (table : y ≡ true) where
  unfit : z ≡ false → cond y (cond z n 18) 1 ≡ 18
  unfit f = rw (table, f)

  fit : z ≡ true → cond y (cond z n 18) 1 ≡ n
  fit f = rw (table, f)

-- ---- an accepted addition

module _ (t : List ℕ) (a : Addition) (narrow : a.id < 2 ^ 32) (ok : (add_answer t a).number ≡ 0) where
  abbrev u : List ℕ
  u = add_words t a

  table : is_table u ≡ true
  table = accepted-passes t a ok narrow

  -- a stream that was sound has the old count
  not_sound : (s : Stream) → sound (automaton t) s ≡ true → sound (automaton u) s ≡ true → ⊥
  not_sound s old new =
      let was : s.rules ≡ rules_of t = (fitting (automaton t) s old).rules_same ∙ rules-at t in
      let is : s.rules ≡ rules_of u = (fitting (automaton u) s new).rules_same ∙ rules-at u in
      omega (arith, accepted-rules t a ok, was, is)

-- one that is not true
refuted : (b : Bool) → ¬ (b ≡ true) → b ≡ false
refuted true h = absurd (h refl)
refuted false h = refl

pub addition_ends_streams : AdditionEndsStreams short
unfolding scan_number close_number
addition_ends_streams t a narrow ok s fits c =
    let v : List ℕ = add_words t a in
    let bad : valid (automaton v) s ≡ false = refuted (valid (automaton v) s) (λ e. not_sound t a narrow ok s (valid-parts (automaton t) s fits).0 (valid-parts (automaton v) s e).0) in (
      scan-number v s c ∙ unfit (is_table v) (valid (automaton v) s) _ (table t a narrow ok) bad,
      close-number-is v s c.slots ∙ unfit (is_table v) (valid (automaton v) s) _ (table t a narrow ok) bad,
    )

pub addition-ends-traces : AdditionEndsStreams traces
unfolding traced.scan_number traced.close_number
addition-ends-traces t a narrow ok z fits c =
    let v : List ℕ = add_words t a in
    let bad : traced-valid (automaton v) z ≡ false =
    refuted (traced-valid (automaton v) z) (λ e. not_sound t a narrow ok z.stream (traced-parts (automaton t) z fits).0 (traced-parts (automaton v) z e).0) in (
      trace-number v z c ∙ unfit (is_table v) (traced-valid (automaton v) z) _ (table t a narrow ok) bad,
      trace-close-number v z c.slots ∙ unfit (is_table v) (traced-valid (automaton v) z) _ (table t a narrow ok) bad,
    )

-- ---- an accepted closing

pub closing_ends_stream : ClosingEndsStream short
unfolding scan_number close_number
closing_ends_stream t s slots ok c = (
  scan-number t after c ∙ fit (is_table t) (valid (automaton t) after) _ is-table fits
      ∙ ap (λ (b : Bool). cond b 19 (cond (over_limit after (length c.block)) 21 (space_number t (space c.slots)))) shut,
  close-number-is t after c.slots ∙ fit (is_table t) (valid (automaton t) after) _ is-table fits
      ∙ ap (λ (b : Bool). cond b 19 (space_number t (space c.slots))) shut,
)
  where
    after : Stream
    after = (closed t s slots).stream

    number : close_number t s (space slots) ≡ 0
    number = sym (close-number-is t s slots) ∙ ok

    is-table : is_table t ≡ true
    is-table = (accepted t s 0 (space slots) (close-number t s (space slots) ∙ number)).table

    fits : valid (automaton t) after ≡ true
    fits = closed-valid t s slots ok

    shut : after.closed ≡ true
    shut = ap (λ (c : Closed). c.stream.closed) (accepted-close t s slots number)

pub closing-ends-trace : ClosingEndsStream traces
unfolding traced.scan_number traced.close_number
closing-ends-trace t z slots ok c = (
  trace-number t after c ∙ fit (is_table t) (traced-valid (automaton t) after) _ is-table fits
      ∙ ap (λ (b : Bool). cond b 19 (cond (over_limit after.stream (length c.block)) 21 (space_number t (traced.space c.slots)))) shut,
  trace-close-number t after c.slots ∙ fit (is_table t) (traced-valid (automaton t) after) _ is-table fits
      ∙ ap (λ (b : Bool). cond b 19 (space_number t (traced.space c.slots))) shut,
)
  where
    after : Traced
    after = (traced.closed t z slots).traced

    held : Accepted t z 0 (traced.space slots)
    held = trace-holds t z slots ok

    is-table : is_table t ≡ true
    is-table = held.table

    fits : traced-valid (automaton t) after ≡ true
    fits = trace-close-valid t z slots ok

    shut : after.stream.closed ≡ true
    shut = ap (λ (y : Traced). y.stream.closed) (trace-ended t z slots ok)
