-- The same of a stream with starts: after a byte by an entry each start is 0, which is below the
-- bytes taken.
use mathlib.Core.Path.{◌≡◌, refl, sym, ap, ap₂, ◌∙◌}
use mathlib.Core.Bool.{Bool, true, false, cond, not, ◌&&◌}
use mathlib.Core.List.{List, [], ◌∷◌}
use Prim.Native.Nat.{ℕ, zero, suc, ◌+◌, ◌%◌, ◌<◌, ◌≤◌}
use native.Mathlib.Nat.{add-zero, add-suc}
use native.Mathlib.Omega.{arith}
use lib.Dec.{eqb}
use lib.ListN.{length, get_or}
use borrow.Author.Tests.{lt-ltb}
use Rattle.sets.specs.Set.{on, has}
use Rattle.sets.proofs.Laws.{any-never}
use Rattle.table.specs.Layout.{max_positions, max_rules}
use Rattle.table.specs.Automaton.{Automaton, automaton}
use Rattle.steps.specs.Step.{list_from}
use Rattle.steps.proofs.Carrying.{list_at}
use Rattle.stream.specs.declared.Stream.{Stream}
use Rattle.stream.specs.Byte.{after, reports_by, cost_by, fits_by}
use Rattle.stream.specs.Valid.{stream_limit}
use Rattle.stream.proofs.Accepting.{Fitting, fitted}
use Rattle.stream.proofs.Results.{fitting-next}
use Rattle.stream.proofs.Machines.{fits_le}
use Rattle.starts.specs.Order.{start_ok, starts_ok}
use Rattle.traced.specs.declared.Traced.{Traced}
use Rattle.traced.specs.Byte.{counted, late_long, own_long, stream_next, next_state}
use Rattle.traced.specs.Calls.{Scanned, Call, space, scan_number, no_starts}
use Rattle.traced.specs.Valid.{valid}
use Rattle.traced.proofs.Accepting.{accepted, in_order}
use Rattle.traced.proofs.Ordered.{order-after}
use Rattle.second.specs.Layout.{entries_of}
use Rattle.following.specs.Follow.{Place, at, resting, away, stretch, leads, arrives, rest_entry, step_to}
use Rattle.following.specs.Starts.{Placed, looked_up, by_entry, next_at, next_followed, following, follow_number, followed_number, follow_takes, followed}
use Rattle.following.proofs.Staying.{There, all_there, fitting-step, taken-up}

-- starts that are all 0 are in order once a byte is taken
zeros-order : (n : ℕ) (there : ℕ → Bool) (taken : ℕ) → starts_ok n there (suc taken) (list_from 0 n (λ q. 0)) ≡ true
unfolding starts_ok
zeros-order n there taken =
    ap not (any-never n (λ q. not (start_ok (there q) (suc taken) (get_or (list_from 0 n (λ q. 0)) q 0)))
    (λ q h. ap (λ (m : ℕ). not (start_ok (there q) (suc taken) m)) (list_at 0 n (λ q. 0) q h) ∙ go (there q)))
  where
    go : (b : Bool) → not (start_ok b (suc taken) 0) ≡ false
    go true = ap not (lt-ltb 0 (suc taken) (omega arith))
    go false = refl

module _ (w : Automaton) (c : List ℕ) (there : (e : ℕ) → e < entries_of c → There w c e) where
  abbrev Fits : Traced → Type 0
  Fits z = Fitting w z.stream × (in_order z ≡ true)

  module _ (z : Traced) (h : Fits z) (room : suc z.stream.taken ≤ stream_limit) (x : ℕ) where
    abbrev s : Stream
    s = z.stream

    old-way : Fits (next_state w z x)
    unfolding next_state stream_next after
    old-way = (
      fitting-next w (late_long w s z.starts.live x) (own_long w s z.starts.live x) s (counted w s z.starts.live) x refl h.0 room,
      order-after w z (x ∷ []) h.1 1,
    )

    entry-fits : (e : ℕ) → Fits (by_entry w c e z x).traced
    unfolding by_entry step_to
    entry-fits e = go (leads c e x) refl
      where
        go : (b : Bool) → leads c e x ≡ b
            → Fits (cond {A = Placed} b (record { traced = record { stream = step_to w c s e x; starts = no_starts }; place = arrives c e x }) (record { traced = next_state w z x; place = away })).traced
        go true l = (
          fitting-step w c there s h.0 room e x l,
          ap₂ (λ (p q : Bool). p && q) (zeros-order max_positions (has (step_to w c s e x).live) s.taken)
              (ap₂ (λ (p q : Bool). p && q) (zeros-order max_positions (has (step_to w c s e x).held) s.taken) (zeros-order max_rules (on (step_to w c s e x).pending) s.taken)),
        )
        go false l = old-way

    place-fits : (p : Place) → Fits (next_at w c p z x).traced
    unfolding next_at
    place-fits (at e) = entry-fits e
    place-fits resting = go (w.opens x)
      where
        go : (b : Bool) → Fits (cond {A = Placed} b (by_entry w c (rest_entry c s.last) z x) (record { traced = next_state w z x; place = resting })).traced
        go true = entry-fits (rest_entry c s.last)
        go false = old-way
    place-fits away = old-way

  next_fits : (u : Placed) → Fits u.traced → suc u.traced.stream.taken ≤ stream_limit → (x : ℕ) → Fits (next_followed w c u x).traced
  unfolding next_followed
  next_fits u h room x = go (eqb ((next_at w c u.place u.traced x).traced.stream.taken % stretch) 0)
    where
      go : (b : Bool) → Fits (cond {A = Placed} b (looked_up c (next_at w c u.place u.traced x).traced) (next_at w c u.place u.traced x)).traced
      go true = place-fits u.traced h room x u.place
      go false = place-fits u.traced h room x u.place

  entry-taken : (e : ℕ) (z : Traced) (x : ℕ) → (by_entry w c e z x).traced.stream.taken ≡ suc z.stream.taken
  unfolding by_entry step_to next_state stream_next
  entry-taken e z x = go (leads c e x)
    where
      go : (b : Bool) → (cond {A = Placed} b (record { traced = record { stream = step_to w c z.stream e x; starts = no_starts }; place = arrives c e x }) (record { traced = next_state w z x; place = away })).traced.stream.taken ≡ suc z.stream.taken
      go true = refl
      go false = refl

  place-taken : (p : Place) (z : Traced) (x : ℕ) → (next_at w c p z x).traced.stream.taken ≡ suc z.stream.taken
  unfolding next_at next_state stream_next
  place-taken (at e) z x = entry-taken e z x
  place-taken resting z x = go (w.opens x)
    where
      go : (b : Bool) → (cond {A = Placed} b (by_entry w c (rest_entry c z.stream.last) z x) (record { traced = next_state w z x; place = resting })).traced.stream.taken ≡ suc z.stream.taken
      go true = entry-taken (rest_entry c z.stream.last) z x
      go false = refl
  place-taken away z x = refl

  next-taken : (u : Placed) (x : ℕ) → (next_followed w c u x).traced.stream.taken ≡ suc u.traced.stream.taken
  unfolding next_followed
  next-taken u x = go (eqb ((next_at w c u.place u.traced x).traced.stream.taken % stretch) 0)
    where
      go : (b : Bool) → (cond {A = Placed} b (looked_up c (next_at w c u.place u.traced x).traced) (next_at w c u.place u.traced x)).traced.stream.taken ≡ suc u.traced.stream.taken
      go true = place-taken u.place u.traced x
      go false = place-taken u.place u.traced x

  module _ (z : Traced) (h : Fits z) (block : List ℕ) where
    taken-after : (k : ℕ) → (after (following w c) (looked_up c z) block k).traced.stream.taken ≡ z.stream.taken + k
    unfolding after
    taken-after zero = sym (add-zero z.stream.taken)
    taken-after (suc k) = next-taken (after (following w c) (looked_up c z) block k) (get_or block k 0) ∙ ap suc (taken-after k) ∙ sym (add-suc z.stream.taken k)

    pub fits_after : (k : ℕ) → z.stream.taken + k ≤ stream_limit → Fits (after (following w c) (looked_up c z) block k).traced
    unfolding after
    fits_after zero l = h
    fits_after (suc k) l = next_fits (after (following w c) (looked_up c z) block k) (fits_after k (omega arith)) (omega (arith, taken-after k)) (get_or block k 0)

-- the state that an accepted scan hands back is valid, whatever second table it was given
pub stays-valid : (t c : List ℕ) (z : Traced) (a : Call) → followed_number t c z a ≡ 0 → valid (automaton t) (followed t c z a).traced ≡ true
unfolding follow_number followed follow_takes valid
stays-valid t c z a e =
    let up = taken-up t c (scan_number t z (length a.block) (space a.slots)) e in
    let h = accepted t z (length a.block) (space a.slots) up.scan in
    let w : Automaton = automaton t in
    let k : ℕ = fits_by (following w c) (looked_up c z) a.allowance a.block (space a.slots) (length a.block) in
    let few = fits_le (following w c) (looked_up c z) a.block a.allowance (space a.slots) (length a.block) in
    let y : Traced = (after (following w c) (looked_up c z) a.block k).traced in
    let fits = fits_after w c (all_there t c up.passes) z (h.state, h.ordered) a.block k (omega (arith, h.short, few)) in
    ap (λ (n : ℕ). valid w (cond {A = Scanned} (eqb n 0) (record { number = 0; taken = k; reports = length (reports_by (following w c) (looked_up c z) a.block k); used = cost_by (following w c) (looked_up c z) a.block k; traced = y })
    (record { number = n; taken = 0; reports = 0; used = 0; traced = z })).traced) e
    ∙ ap₂ (λ (p q : Bool). p && q) (fitted w y.stream fits.0) fits.1
