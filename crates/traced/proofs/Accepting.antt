-- When a call is accepted: its number is settled by the first test that fails, and number 0 says
-- that all of them hold (`Accepted`).
use mathlib.Core.Path.{◌≡◌, refl, sym, ap, ap₂, ◌∙◌}
use mathlib.Core.Bool.{Bool, true, false, cond, not, ◌&&◌, and-false, and-eq-true_iff}
use mathlib.Core.List.{List}
use Prim.Native.Nat.{ℕ, ◌+◌, ◌*◌, ◌<◌, ◌≤◌}
use native.Mathlib.Omega.{arith}
use lib.Dec.{ltb}
use lib.ListN.{length, get_or}
use borrow.Author.Tests.{lt-ltb, le-ltb, ltb-false, eqb-true, not-true, not-false}
use Rattle.sets.specs.Set.{on, has, any}
use Rattle.sets.proofs.Laws.{any_none}
use Rattle.table.specs.Layout.{max_rules, max_positions, rules_of}
use Rattle.table.specs.Table.{is_table}
use Rattle.table.specs.Automaton.{Automaton, automaton}
use Rattle.stream.specs.declared.Stream.{Stream}
use Rattle.stream.specs.Valid.{stream_limit, sound}
use Rattle.stream.specs.Calls.{space_number}
use Rattle.stream.proofs.Accepting.{Fitting, fitting}
use Rattle.starts.specs.Order as order
use Rattle.starts.specs.Order.{start_ok, starts_ok}
use Rattle.traced.specs.declared.Traced.{Traced}
use Rattle.traced.specs.Valid.{valid}
use Rattle.traced.specs.Calls.{scan_number, close_number}
use Rattle.traced.specs.Invariants.{InOrder}

-- ---- a state

-- its starts are in order
abbrev pub in_order : Traced → Bool
in_order z = order.in_order z.stream z.starts.live z.starts.held z.starts.pairs

module _ (w : Automaton) (z : Traced) where
  pub not_sound : sound w z.stream ≡ false → valid w z ≡ false
  unfolding valid
  not_sound e = ap (λ (b : Bool). b && in_order z) e

  pub not-ordered : in_order z ≡ false → valid w z ≡ false
  unfolding valid
  not-ordered e = ap (λ (b : Bool). sound w z.stream && b) e ∙ and-false (sound w z.stream)

  pub both : sound w z.stream ≡ true → in_order z ≡ true → valid w z ≡ true
  unfolding valid
  both s o = ap₂ (λ (a b : Bool). a && b) s o

  pub valid-parts : valid w z ≡ true → (sound w z.stream ≡ true) × (in_order z ≡ true)
  unfolding valid
  valid-parts e = (and-eq-true_iff (sound w z.stream) (in_order z)).0 e

-- where there is no start, it is 0
none-there : (n : ℕ) (there : ℕ → Bool) (taken : ℕ) (starts : List ℕ) → starts_ok n there taken starts ≡ true → (q : ℕ) → q < n → there q ≡ false → get_or starts q 0 ≡ 0
unfolding starts_ok
none-there n there taken starts e q lt off =
    eqb-true (get_or starts q 0) 0
    (sym (ap (λ (b : Bool). start_ok b taken (get_or starts q 0)) off)
    ∙ not-false (start_ok (there q) taken (get_or starts q 0))
    (any_none n (λ q. not (start_ok (there q) taken (get_or starts q 0))) (not-true (any n (λ q. not (start_ok (there q) taken (get_or starts q 0)))) e) q lt))

pub in_order_lem : (z : Traced) → in_order z ≡ true → length z.starts.live ≡ max_positions → length z.starts.held ≡ max_positions → length z.starts.pairs ≡ max_rules
    → InOrder z.stream z.starts
in_order_lem z e live held pairs =
    let s : Stream = z.stream in
    let one = (and-eq-true_iff (starts_ok max_positions (has s.live) s.taken z.starts.live) _).0 e in
    let two = (and-eq-true_iff (starts_ok max_positions (has s.held) s.taken z.starts.held) _).0 one.1 in
    record {
      live = record { as_long = live; none = none-there max_positions (has s.live) s.taken z.starts.live one.0 };
      held = record { as_long = held; none = none-there max_positions (has s.held) s.taken z.starts.held two.0 };
      as_many = pairs;
      pairs = none-there max_rules (on s.pending) s.taken z.starts.pairs two.1;
    }

-- a state is sound as it was asked, of a table
pub sound-on : (t : List ℕ) (s : Stream) (r : Bool) → is_table t ≡ true → (b : Bool) → r ≡ (b && sound (automaton t) s) → b ≡ true → r ≡ sound (automaton t) s
sound-on t s r table b e long = e ∙ ap (λ (x : Bool). x && sound (automaton t) s) long

-- ---- the number of a call

module _ (t : List ℕ) (z : Traced) (len room : ℕ) where
  pub refused-table : is_table t ≡ false → 1 ≡ scan_number t z len room
  unfolding scan_number
  refused-table e = rw e

  module _ (table : is_table t ≡ true) where
    pub refused-state : valid (automaton t) z ≡ false → 18 ≡ scan_number t z len room
    unfolding scan_number
    refused-state e = rw (table, e)

    module _ (state : valid (automaton t) z ≡ true) where
      pub refused-closed : z.stream.closed ≡ true → 19 ≡ scan_number t z len room
      unfolding scan_number
      refused-closed e = rw (table, state, e)

      module _ (open-still : z.stream.closed ≡ false) where
        pub refused-long : stream_limit < z.stream.taken + len → 21 ≡ scan_number t z len room
        unfolding scan_number
        refused-long h = rw (table, state, open-still, lt-ltb stream_limit (z.stream.taken + len) h)

        module _ (short : z.stream.taken + len ≤ stream_limit) where
          pub refused-space : room < 2 * rules_of t → 20 ≡ scan_number t z len room
          unfolding scan_number space_number
          refused-space h = rw (table, state, open-still, le-ltb stream_limit (z.stream.taken + len) short, lt-ltb room (2 * rules_of t) h)

          pub not-refused : 2 * rules_of t ≤ room → 0 ≡ scan_number t z len room
          unfolding scan_number space_number
          not-refused h = rw (table, state, open-still, le-ltb stream_limit (z.stream.taken + len) short, le-ltb room (2 * rules_of t) h)

-- number 0 says that all holds
pub record Accepted (t : List ℕ) (z : Traced) (len room : ℕ) : Type 0 where
  pub table : is_table t ≡ true
  pub state : Fitting (automaton t) z.stream
  pub ordered : in_order z ≡ true
  pub still_open : z.stream.closed ≡ false
  pub short : z.stream.taken + len ≤ stream_limit
  pub space : 2 * rules_of t ≤ room

pub accepted : (t : List ℕ) (z : Traced) (len room : ℕ) → scan_number t z len room ≡ 0 → Accepted t z len room
unfolding scan_number space_number
accepted t z len room e =
    go (is_table t) refl (valid (automaton t) z) refl z.stream.closed refl (ltb stream_limit (z.stream.taken + len)) refl (ltb room (2 * rules_of t)) refl e
  where
    go : (a : Bool) → is_table t ≡ a → (b : Bool) → valid (automaton t) z ≡ b → (c : Bool) → z.stream.closed ≡ c
        → (d : Bool) → ltb stream_limit (z.stream.taken + len) ≡ d → (f : Bool) → ltb room (2 * rules_of t) ≡ f
        → ◌≡◌ {A = ℕ} (cond a (cond b (cond c 19 (cond d 21 (cond f 20 0))) 18) 1) 0 → Accepted t z len room
    go true a true b false c false d false f q =
        record {
          table = a;
          state = fitting (automaton t) z.stream (valid-parts (automaton t) z b).0;
          ordered = (valid-parts (automaton t) z b).1;
          still_open = c;
          short = ltb-false stream_limit (z.stream.taken + len) d;
          space = ltb-false room (2 * rules_of t) f;
        }
    go true a true b false c false d true f q = absurd (omega arith)
    go true a true b false c true d f g q = absurd (omega arith)
    go true a true b true c d f g h q = absurd (omega arith)
    go true a false b c d f g h i q = absurd (omega arith)
    go false a b c d f g h i j q = absurd (omega arith)

-- a closing is numbered as a scan of no bytes
pub close-number : (t : List ℕ) (z : Traced) (room : ℕ) → scan_number t z 0 room ≡ close_number t z room
unfolding scan_number close_number
close-number t z room =
    ap (λ (n : ℕ). cond (is_table t) n 1) (go (valid (automaton t) z) refl)
  where
    go : (b : Bool) → valid (automaton t) z ≡ b
        → cond b (cond z.stream.closed 19 (cond (ltb stream_limit (z.stream.taken + 0)) 21 (space_number t room))) 18
        ≡ cond b (cond z.stream.closed 19 (space_number t room)) 18
    go true e =
        ap (λ (c : Bool). cond z.stream.closed 19 (cond c 21 (space_number t room)))
        (le-ltb stream_limit (z.stream.taken + 0)
        (omega (arith, (fitting (automaton t) z.stream (valid-parts (automaton t) z e).0).limit)))
    go false e = refl
