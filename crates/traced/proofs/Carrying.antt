-- The starts along a byte. Where no position that is reached keeps one, all are 0.
use mathlib.Core.Path.{◌≡◌, refl, sym, ap, ap₂, ◌∙◌}
use mathlib.Core.Bool.{Bool, true, false, true≢false, cond, not, ◌&&◌, ◌||◌}
use mathlib.Core.List.{List}
use Prim.Native.Nat.{ℕ, ◌<◌}
use native.Mathlib.Nat.{zero-add}
use lib.Bits.{bit_and}
use lib.Dec.{eqb, ltb}
use lib.ListN.{length, replicate}
use borrow.Author.Tests.{eqb-true, not-true}
use Rattle.sets.specs.Set.{on, has, any, is_empty}
use Rattle.sets.proofs.Bits.{on_and, on-zero, on-word_of}
use Rattle.sets.proofs.Laws.{any_none, has-intersection}
use Rattle.kinds.specs.declared.Side.{Side}
use Rattle.kinds.specs.Side.{side_of}
use Rattle.table.specs.Layout.{max_rules, max_positions}
use Rattle.kinds.specs.declared.Side.TheVariants.{Newline}
use Rattle.table.specs.Gaps.{between, before_last}
use Rattle.table.specs.Automaton.{Automaton}
use Rattle.steps.specs.Step.{list_from, ends_newly, keepers_of, rules_where, start_after, stepped_starts, start_at, OnlyIn}
use Rattle.steps.proofs.Carrying.{list-is, list_length, list_at, stepped-at, zeros-length, zeros-at}
use Rattle.stream.specs.declared.Stream.{Stream}
use Rattle.stream.specs.Byte.{next_live, next_pending}
use Rattle.traced.specs.declared.Starts.{Starts}
use Rattle.traced.specs.declared.Traced.{Traced}
use Rattle.traced.specs.Byte.{keeping, counted, pending_long, pairs_next, next_starts}
use Rattle.traced.specs.Invariants.{zeros, RuleStarts, InOrder}

-- lists of which each number is the same
pub list_ext : (n : ℕ) (f g : ℕ → ℕ) → ((q : ℕ) → q < n → f q ≡ g q) → list_from 0 n f ≡ list_from 0 n g
list_ext n f g e = list-is n (list_from 0 n f) g (list_length 0 n f) (λ q lt. list_at 0 n f q lt ∙ ap f (zero-add q) ∙ e q lt)

-- no position keeps a start
pub stepped-none : (w : Automaton) (line : Bool) (before after : Side) (live starts next : List ℕ) (taken : ℕ) → is_empty next ≡ true
    → stepped_starts w line before after live starts next taken ≡ zeros max_positions
unfolding stepped_starts is_empty
stepped-none w line before after live starts next taken e =
    list_ext max_positions (λ q. cond (has next q) (start_after w line before after live starts taken q) 0) (λ q. 0)
    (λ q lt. ap (λ (b : Bool). cond b (start_after w line before after live starts taken q) 0) (any_none max_positions (has next) (not-true (any max_positions (has next)) e) q lt))

stepped-long : (w : Automaton) (line : Bool) (before after : Side) (live starts next : List ℕ) (taken : ℕ) → length (stepped_starts w line before after live starts next taken) ≡ max_positions
unfolding stepped_starts
stepped-long w line before after live starts next taken = list_length 0 max_positions (λ q. cond (has next q) (start_after w line before after live starts taken q) 0)

-- only positions that are live after a byte have a start then
pub only_next : (w : Automaton) (z : Traced) (x : ℕ) → OnlyIn (next_live w z.stream x) (next_starts w z x).live
unfolding next_starts
only_next w z x =
    let s : Stream = z.stream in
    let next : List ℕ = keeping w (next_live w s x) in
    record {
      as_long = stepped-long w false s.last (side_of x) (keeping w s.live) z.starts.live next s.taken;
      none = λ q lt e.
          stepped-at w false s.last (side_of x) (keeping w s.live) z.starts.live next s.taken q lt
          ∙ ap (λ (b : Bool). cond b (start_after w false s.last (side_of x) (keeping w s.live) z.starts.live s.taken q) 0)
          (has-intersection (next_live w s x) (keepers_of w) q lt ∙ ap (λ (b : Bool). b && has (keepers_of w) q) e);
    }

-- an array of 0 is as many zeros
pub all-zero : (n : ℕ) → replicate n 0 ≡ zeros n
all-zero n = list-is n (replicate n 0) (λ q. 0) (zeros-length n) (λ q lt. zeros-at n q)

-- where a set is empty, no position has a start; and where no digit is, no rule has one
pub none_only : {set starts : List ℕ} → OnlyIn set starts → is_empty set ≡ true → starts ≡ zeros max_positions
unfolding is_empty
none_only {set} {starts} h e =
    list-is max_positions starts (λ q. 0) h.as_long (λ q lt. h.none q lt (any_none max_positions (has set) (not-true (any max_positions (has set)) e) q lt))

pub none-pairs : {s : Stream} {k : Starts} → InOrder s k → s.pending ≡ 0 → k.pairs ≡ zeros max_rules
none-pairs {s} {k} h e = list-is max_rules k.pairs (λ a. 0) h.as_many (λ a lt. h.pairs a lt (ap (λ (n : ℕ). on n a) e ∙ on-zero a))

-- ---- held pairs

-- a pair is held of rules alone
module _ (w : Automaton) (test : ℕ → Bool) (a : ℕ) (lt : a < max_rules) where
  twice : (r y z : Bool) → ((r && y) && (r && z)) ≡ ((r && y) && z)
  twice true y z = refl
  twice false y z = refl

  ruled : (b : Bool) → (on (cond b (rules_where w test) 0) a && (ltb a w.rules && w.leftmost a)) ≡ (on (cond b (rules_where w test) 0) a && w.leftmost a)
  ruled true =
      let is : on (rules_where w test) a ≡ (ltb a w.rules && test a) = on-word_of 64 (λ a. ltb a w.rules && test a) a lt in
      ap (λ (d : Bool). d && (ltb a w.rules && w.leftmost a)) is ∙ twice (ltb a w.rules) (test a) (w.leftmost a)
      ∙ sym (ap (λ (d : Bool). d && w.leftmost a) is)
  ruled false =
      ap (λ (d : Bool). d && (ltb a w.rules && w.leftmost a)) (on-zero a) ∙ sym (ap (λ (d : Bool). d && w.leftmost a) (on-zero a))

pub pending-ruled : (w : Automaton) (s : Stream) (x a : ℕ) → a < max_rules → (on (next_pending w s x) a && (ltb a w.rules && w.leftmost a)) ≡ (on (next_pending w s x) a && w.leftmost a)
unfolding next_pending
pending-ruled w s x a lt =
    ruled w (ends_newly w (before_last s.last) s.live (between s.last Newline) s.live) a lt (eqb x 10 && ltb 0 s.taken)

module _ (w : Automaton) (s : Stream) (live : List ℕ) (x pending leftmost : ℕ) (is : pending ≡ pending_long w s live x) (flags : leftmost ≡ rules_where w w.leftmost) where
  -- the digits of the rules that are asked
  asked : (a : ℕ) → a < max_rules → on (bit_and pending leftmost) a ≡ (on (pending_long w s live x) a && w.leftmost a)
  asked a lt =
      on_and pending leftmost a
      ∙ ap₂ (λ (p f : ℕ). on p a && on f a) is flags
      ∙ ap (λ (b : Bool). on (pending_long w s live x) a && b) (on-word_of 64 (λ a. ltb a w.rules && w.leftmost a) a lt)
      ∙ pending-ruled w (counted w s live) x a lt

  pub pairs-are : (froms : List ℕ) → RuleStarts (bit_and pending leftmost) (start_at w (before_last s.last) s.live live s.taken) froms → froms ≡ pairs_next w s live x
  pairs-are froms h =
      list-is max_rules froms (λ a. cond (on (pending_long w s live x) a && w.leftmost a) (start_at w (before_last s.last) s.live live s.taken a) 0) h.as_long
      (λ a lt. h.each a lt ∙ ap (λ (b : Bool). cond b (start_at w (before_last s.last) s.live live s.taken a) 0) (asked a lt))

  pub pairs-none : bit_and pending leftmost ≡ 0 → pairs_next w s live x ≡ zeros max_rules
  pairs-none e =
      list_ext max_rules (λ a. cond (on (pending_long w s live x) a && w.leftmost a) (start_at w (before_last s.last) s.live live s.taken a) 0) (λ a. 0)
      (λ a lt. ap (λ (b : Bool). cond b (start_at w (before_last s.last) s.live live s.taken a) 0)
      (sym (asked a lt) ∙ ap (λ (n : ℕ). on n a) e ∙ on-zero a))

-- a test that fails of both, and one that fails of a set alone
pub neither : (a b : Bool) → not (a || b) ≡ true → (a ≡ false) × (b ≡ false)
neither true b e = absurd (true≢false (sym e))
neither false true e = absurd (true≢false (sym e))
neither false false e = (refl, refl)

pub empty-if : (b : Bool) → not b ≡ false → b ≡ true
empty-if true e = refl
empty-if false e = absurd (true≢false e)

pub none-if : (b : Bool) (n : ℕ) → (not b || not (eqb n 0)) ≡ false → (b ≡ true) × (n ≡ 0)
none-if b n = go b (eqb n 0) refl
  where
    go : (b d : Bool) → eqb n 0 ≡ d → (not b || not d) ≡ false → (b ≡ true) × (n ≡ 0)
    go true true e f = (refl, eqb-true n 0 e)
    go true false e f = absurd (true≢false f)
    go false d e f = absurd (true≢false f)
