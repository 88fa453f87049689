-- The entries of a built second table: there are no more than there may be, each set has four
-- words, and they name positions and rules of the table alone.
use mathlib.Core.Path.{◌≡◌, refl, sym, ap, ◌∙◌}
use mathlib.Core.Bool.{Bool, true, false, true≢false, cond, not, ◌&&◌, ◌||◌}
use mathlib.Core.List.{List, [], ◌∷◌, ◌++◌}
use Prim.Native.Nat.{ℕ, zero, suc, ◌/◌, ◌%◌, ◌<◌, ◌≤◌}
use native.Mathlib.Decide.{dec_lt}
use native.Mathlib.Omega.{arith}
use lib.Dec.{leb, ltb}
use lib.ListN.{length, get_or, length-append}
use borrow.Author.Tests.{le-leb, not-true}
use Rattle.sets.specs.Set.{on, has, set_of, any, empty_set, intersection_of, complement_of}
use Rattle.sets.proofs.Bits.{on-zero}
use Rattle.sets.proofs.Laws.{Words, words-set_of, has-empty, has-intersection, has-complement, any-never, any_none}
use Rattle.table.specs.Layout.{max_positions}
use Rattle.table.specs.Automaton.{Automaton}
use Rattle.steps.specs.Step.{keepers_of}
use Rattle.stream.specs.declared.Stream.{Stream}
use Rattle.stream.specs.Byte.{next_live, next_held}
use Rattle.stream.specs.Valid.{live_inside, held_inside, pending_inside}
use Rattle.stream.proofs.Results.{inside-next, held_next, pending_next}
use Rattle.second.specs.declared.Key.{Key}
use Rattle.second.specs.Layout.{max_entries, words_at}
use Rattle.second.specs.Second.{positions_in, rules_in}
use Rattle.second.specs.Entries.{start_key, state_at, apart, next_key, keeps_start, place_of, with_key, found}

more_room : (n : ℕ) → leb max_entries n ≡ false → n < max_entries
more_room n e = go (dec_lt n max_entries)
  where
    go : Dec (n < max_entries) → n < max_entries
    go (yes h) = h
    go (no h) = absurd (true≢false (sym (le-leb max_entries n (omega arith)) ∙ e))

-- ---- an entry in order

pub record Good (w : Automaton) (k : Key) : Type 0 where
  pub live_words : Words k.live
  pub live_apart : keeps_start w k.live ≡ false
  pub live_four : words_at k.live 0 ≡ k.live
  pub held_four : words_at k.held 0 ≡ k.held
  pub live_in : positions_in w.positions k.live ≡ true
  pub held_in : positions_in w.positions k.held ≡ true
  pub pending_in : rules_in w.rules k.pending ≡ true

four-set : (f : ℕ → Bool) → words_at (set_of f) 0 ≡ set_of f
unfolding set_of
four-set f = refl

empty-in : (n : ℕ) → positions_in n empty_set ≡ true
unfolding positions_in
empty-in n = ap not (any-never max_positions (λ q. has empty_set q && leb n q) (λ q h. ap (λ (b : Bool). b && leb n q) (has-empty q h)))

pub zero_in : (n : ℕ) → rules_in n 0 ≡ true
unfolding rules_in
zero_in n = ap not (any-never 64 (λ a. on 0 a && not (ltb a n)) (λ a h. ap (λ (b : Bool). b && not (ltb a n)) (on-zero a)))

module _ (w : Automaton) where
  start-good : Good w start_key
  unfolding empty_set
  start-good = record {
    live_words = words-set_of (λ q. false);
    live_apart = any-never max_positions (λ q. has empty_set q && has (keepers_of w) q) (λ q h. ap (λ (b : Bool). b && has (keepers_of w) q) (has-empty q h));
    live_four = four-set (λ q. false);
    held_four = four-set (λ q. false);
    live_in = empty-in w.positions;
    held_in = empty-in w.positions;
    pending_in = zero_in w.rules;
  }

  -- a set without the positions that keep a start
  apart-four : (l : List ℕ) → words_at (apart w l) 0 ≡ apart w l
  unfolding intersection_of
  apart-four l = four-set _

  apart_words : (l : List ℕ) → Words (apart w l)
  unfolding intersection_of
  apart_words l = words-set_of _

  apart-free : (l : List ℕ) → keeps_start w (apart w l) ≡ false
  apart-free l =
      any-never max_positions (λ q. has (apart w l) q && has (keepers_of w) q)
      (λ q h. ap (λ (b : Bool). b && has (keepers_of w) q) (has-intersection l (complement_of (keepers_of w)) q h ∙ ap (λ (b : Bool). has l q && b) (has-complement (keepers_of w) q h))
      ∙ out (has l q) (has (keepers_of w) q))
    where
      out : (a b : Bool) → ((a && not b) && b) ≡ false
      out true true = refl
      out true false = refl
      out false b = refl

  apart_in : (l : List ℕ) → not (any max_positions (λ q. has l q && leb w.positions q)) ≡ true → positions_in w.positions (apart w l) ≡ true
  unfolding positions_in
  apart_in l e =
      ap not (any-never max_positions (λ q. has (apart w l) q && leb w.positions q)
      (λ q h. ap (λ (b : Bool). b && leb w.positions q) (has-intersection l (complement_of (keepers_of w)) q h)
      ∙ less (has l q) (has (complement_of (keepers_of w)) q) (leb w.positions q)
      (any_none max_positions (λ q. has l q && leb w.positions q) (not-true (any max_positions (λ q. has l q && leb w.positions q)) e) q h)))
    where
      less : (a b c : Bool) → (a && c) ≡ false → ((a && b) && c) ≡ false
      less true true c h = h
      less true false c h = refl
      less false b c h = refl

  module _ (e : ℕ) (k : Key) (x : ℕ) where
    abbrev s : Stream
    s = state_at e k

    next-good : Good w (next_key w e k x)
    unfolding next_key live_inside held_inside pending_inside rules_in
    next-good = record {
      live_words = apart_words (next_live w s x);
      live_apart = apart-free (next_live w s x);
      live_four = apart-four (next_live w s x);
      held_four = apart-four (next_held w s x);
      live_in = apart_in (next_live w s x) (inside-next w (λ a. false) (λ a. false) s s x);
      held_in = apart_in (next_held w s x) (held_next w (λ a. false) (λ a. false) s s x);
      pending_in = pending_next w (λ a. false) (λ a. false) s s x;
    }

  -- ---- the entries

  abbrev AllGood : List Key → Type 0
  AllGood es = (e : ℕ) → Good w (get_or es e start_key)

  abbrev Few : List Key → Type 0
  Few es = (1 ≤ length es) × (length es ≤ max_entries)

  last-or-before : (es : List Key) (k : Key) → AllGood es → Good w k → AllGood (es ++ k ∷ [])
  last-or-before [] k all good zero = good
  last-or-before [] k all good (suc e) = start-good
  last-or-before (j ∷ es) k all good zero = all 0
  last-or-before (j ∷ es) k all good (suc e) = last-or-before es k (λ i. all (suc i)) good e

  with-good : (es : List Key) (k : Key) → AllGood es → Good w k → AllGood (with_key w es k)
  unfolding with_key
  with-good es k all good = go (ltb (place_of w es k) (length es) || leb max_entries (length es))
    where
      go : (b : Bool) → AllGood (cond b es (es ++ k ∷ []))
      go true = all
      go false = last-or-before es k all good

  with-few : (es : List Key) (k : Key) → Few es → Few (with_key w es k)
  unfolding with_key
  with-few es k few = go (ltb (place_of w es k) (length es)) (leb max_entries (length es)) refl
    where
      go : (a b : Bool) → leb max_entries (length es) ≡ b → Few (cond (a || b) es (es ++ k ∷ []))
      go true b e = few
      go false true e = few
      go false false e =
          let n = length-append es (k ∷ []) in
          (omega (arith, n), omega (arith, n, more_room (length es) e))

  pub found-good : (n : ℕ) → AllGood (found w n)
  unfolding found
  found-good zero = last-or-before [] start_key (λ e. start-good) start-good
  found-good (suc n) = go (ltb (n / 256) (length (found w n))) (found-good n)
    where
      go : (b : Bool) → AllGood (found w n) → AllGood (cond b (with_key w (found w n) (next_key w (n / 256) (get_or (found w n) (n / 256) start_key) (n % 256))) (found w n))
      go true all = with-good (found w n) (next_key w (n / 256) (get_or (found w n) (n / 256) start_key) (n % 256)) all (next-good (n / 256) (get_or (found w n) (n / 256) start_key) (n % 256))
      go false all = all

  pub found-few : (n : ℕ) → Few (found w n)
  unfolding found
  found-few zero = (omega arith, omega arith)
  found-few (suc n) = go (ltb (n / 256) (length (found w n))) (found-few n)
    where
      go : (b : Bool) → Few (found w n) → Few (cond b (with_key w (found w n) (next_key w (n / 256) (get_or (found w n) (n / 256) start_key) (n % 256))) (found w n))
      go true few = with-few (found w n) (next_key w (n / 256) (get_or (found w n) (n / 256) start_key) (n % 256)) few
      go false few = few
