-- Whatever second table passes, a stream that follows it keeps a state that fits its table: what
-- the entries name is there, and no pair is held before the second byte.
use mathlib.Core.Path.{◌≡◌, refl, sym, ap, ◌∙◌}
use mathlib.Core.Bool.{Bool, true, false, cond, not, ◌&&◌, ◌||◌, or-true, and-eq-true_iff}
use mathlib.Core.List.{List}
use Prim.Native.Nat.{ℕ, zero, suc, ◌+◌, ◌%◌, ◌<◌, ◌≤◌}
use native.Mathlib.Nat.{add-zero, add-suc}
use native.Mathlib.Omega.{arith}
use lib.Dec.{eqb, leb, ltb}
use lib.ListN.{length, get_or}
use borrow.Author.Tests.{lt-ltb, le-leb, eqb-false}
use Rattle.sets.specs.Set.{on, any, is_empty}
use Rattle.sets.proofs.Bits.{on-zero}
use Rattle.sets.proofs.Laws.{any-never}
use Rattle.table.specs.Layout.{rules_of, positions_of}
use Rattle.table.specs.Table.{is_table}
use Rattle.table.specs.Automaton.{Automaton, automaton}
use Rattle.table.proofs.Test.{all-at}
use Rattle.stream.specs.declared.Stream.{Stream}
use Rattle.stream.specs.Byte.{after, reports_by, cost_by, fits_by, byte_state}
use Rattle.stream.specs.Calls.{Scanned, Call, space, scan_number}
use Rattle.stream.specs.Valid.{stream_limit, live_inside, marks_single, held_inside, pending_inside, pending_late, begun, valid}
use Rattle.stream.proofs.Accepting.{Fitting, accepted, fitted, valid-is}
use Rattle.stream.proofs.Results.{fitting-next}
use Rattle.stream.proofs.Machines.{fits_le}
use Rattle.second.specs.Layout.{second_words, second_format, second_rules, second_positions, max_entries, entries_of, entry_live, entry_held, entry_pending, names_entry, target_word}
use Rattle.second.specs.Second.{positions_in, rules_in, entry_ok, is_second}
use Rattle.following.specs.Follow.{Place, at, resting, away, Placed, stretch, leads, next_entry, arrives, rest_entry, looked_up, late_by, own_by, step_to, by_entry, next_at, next_followed, following}
use Rattle.following.specs.Calls.{follow_number, followed_number, follow_takes, followed}
use Rattle.following.proofs.Following.{named-inside}

-- what an entry of a second table that passes names is there
pub record There (w : Automaton) (c : List ℕ) (e : ℕ) : Type 0 where
  pub live : positions_in w.positions (entry_live c e) ≡ true
  pub held : positions_in w.positions (entry_held c e) ≡ true
  pub pending : rules_in w.rules (entry_pending c e) ≡ true

pub all_there : (t c : List ℕ) → is_second t c ≡ true → (e : ℕ) → e < entries_of c → There (automaton t) c e
unfolding is_second entry_ok automaton
all_there t c h e l =
    let p = (and-eq-true_iff (leb second_words (length c)) _).0 h in
    let q = (and-eq-true_iff (eqb (get_or c 0 0) second_format) _).0 p.1 in
    let r = (and-eq-true_iff (eqb (second_rules c) (rules_of t)) _).0 q.1 in
    let u = (and-eq-true_iff (eqb (second_positions c) (positions_of t)) _).0 r.1 in
    let v = (and-eq-true_iff (leb (entries_of c) max_entries) _).0 u.1 in
    let ok = all-at (entry_ok (rules_of t) (positions_of t) c) (entries_of c) v.1 e l in
    let a = (and-eq-true_iff (positions_in (positions_of t) (entry_live c e)) _).0 ok in
    let b = (and-eq-true_iff (positions_in (positions_of t) (entry_held c e)) _).0 a.1 in
    let d = (and-eq-true_iff (rules_in (rules_of t) (entry_pending c e)) _).0 b.1 in
    record { live = a.0; held = b.0; pending = d.0 }

module _ (w : Automaton) (c : List ℕ) (there : (e : ℕ) → e < entries_of c → There w c e) where
  -- ---- by an entry

  module _ (s : Stream) (h : Fitting w s) (room : suc s.taken ≤ stream_limit) (e x : ℕ) (l : leads c e x ≡ true) where
    abbrev j : ℕ
    j = next_entry c e x

    inside : j < entries_of c
    unfolding leads
    inside = named-inside (entries_of c) (target_word c e x) ((and-eq-true_iff (ltb e (entries_of c)) (names_entry (entries_of c) (target_word c e x))).0 l).1

    abbrev pending : ℕ
    pending = cond (eqb s.taken 0) 0 (entry_pending c j)

    pending_in : not (any 64 (λ a. on pending a && not (ltb a w.rules))) ≡ true
    unfolding rules_in
    pending_in = go (eqb s.taken 0)
      where
        go : (b : Bool) → not (any 64 (λ a. on (cond b 0 (entry_pending c j)) a && not (ltb a w.rules))) ≡ true
        go true = ap not (any-never 64 (λ a. on 0 a && not (ltb a w.rules)) (λ a k. ap (λ (b : Bool). b && not (ltb a w.rules)) (on-zero a)))
        go false = (there j inside).pending

    late-enough : (eqb pending 0 || leb 2 (suc s.taken)) ≡ true
    late-enough = go (eqb s.taken 0) refl
      where
        go : (b : Bool) → eqb s.taken 0 ≡ b → (eqb (cond b 0 (entry_pending c j)) 0 || leb 2 (suc s.taken)) ≡ true
        go true k = refl
        go false k =
            ap (λ (b : Bool). eqb (entry_pending c j) 0 || b) (le-leb 2 (suc s.taken) (omega (arith, eqb-false s.taken 0 k))) ∙ or-true (eqb (entry_pending c j) 0)

    pub fitting-step : Fitting w (step_to w c s e x)
    unfolding step_to live_inside marks_single held_inside pending_inside pending_late begun positions_in
    fitting-step =
        let old = fitting-next w (late_by w c s e x) (own_by w c s e x) s s x refl h room in
        record {
          rules_same = h.rules_same;
          positions_same = h.positions_same;
          live = (there j inside).live;
          marks = old.marks;
          limit = room;
          held = (there j inside).held;
          pending = pending_in;
          late = late-enough;
          after_first =
              ap (λ (b : Bool). (is_empty (entry_live c j) && is_empty (entry_held c j)) || b) (lt-ltb 0 (suc s.taken) (omega arith))
              ∙ or-true (is_empty (entry_live c j) && is_empty (entry_held c j));
        }

  -- ---- wherever it stands

  module _ (s : Stream) (h : Fitting w s) (room : suc s.taken ≤ stream_limit) (x : ℕ) where
    old-way : Fitting w (byte_state w s x)
    unfolding byte_state
    old-way = fitting-next w _ _ s s x refl h room

    entry-fits : (e : ℕ) → Fitting w (by_entry w c e s x).stream
    unfolding by_entry
    entry-fits e = go (leads c e x) refl
      where
        go : (b : Bool) → leads c e x ≡ b → Fitting w (cond {A = Placed} b (record { stream = step_to w c s e x; place = arrives c e x }) (record { stream = byte_state w s x; place = away })).stream
        go true l = fitting-step s h room e x l
        go false l = old-way

    place-fits : (p : Place) → Fitting w (next_at w c p s x).stream
    unfolding next_at
    place-fits (at e) = entry-fits e
    place-fits resting = go (w.opens x)
      where
        go : (b : Bool) → Fitting w (cond {A = Placed} b (by_entry w c (rest_entry c s.last) s x) (record { stream = byte_state w s x; place = resting })).stream
        go true = entry-fits (rest_entry c s.last)
        go false = old-way
    place-fits away = old-way

  module _ (z : Placed) (h : Fitting w z.stream) (room : suc z.stream.taken ≤ stream_limit) (x : ℕ) where
    pub next_fits : Fitting w (next_followed w c z x).stream
    unfolding next_followed
    next_fits = go (eqb ((next_at w c z.place z.stream x).stream.taken % stretch) 0)
      where
        go : (b : Bool) → Fitting w (cond {A = Placed} b (looked_up c (next_at w c z.place z.stream x).stream) (next_at w c z.place z.stream x)).stream
        go true = place-fits z.stream h room x z.place
        go false = place-fits z.stream h room x z.place

  -- some bytes
  module _ (s : Stream) (h : Fitting w s) (block : List ℕ) where
    taken-after : (k : ℕ) → (after (following w c) (looked_up c s) block k).stream.taken ≡ s.taken + k
    unfolding after next_followed next_at by_entry step_to byte_state
    taken-after zero = sym (add-zero s.taken)
    taken-after (suc k) = step (after (following w c) (looked_up c s) block k) (get_or block k 0) ∙ ap suc (taken-after k) ∙ sym (add-suc s.taken k)
      where
        entry : (e : ℕ) (y : Stream) (x : ℕ) → (by_entry w c e y x).stream.taken ≡ suc y.taken
        entry e y x = go (leads c e x)
          where
            go : (b : Bool) → (cond {A = Placed} b (record { stream = step_to w c y e x; place = arrives c e x }) (record { stream = byte_state w y x; place = away })).stream.taken ≡ suc y.taken
            go true = refl
            go false = refl

        place : (p : Place) (y : Stream) (x : ℕ) → (next_at w c p y x).stream.taken ≡ suc y.taken
        place (at e) y x = entry e y x
        place resting y x = go (w.opens x)
          where
            go : (b : Bool) → (cond {A = Placed} b (by_entry w c (rest_entry c y.last) y x) (record { stream = byte_state w y x; place = resting })).stream.taken ≡ suc y.taken
            go true = entry (rest_entry c y.last) y x
            go false = refl
        place away y x = refl

        step : (z : Placed) (x : ℕ) → (next_followed w c z x).stream.taken ≡ suc z.stream.taken
        step z x = go (eqb ((next_at w c z.place z.stream x).stream.taken % stretch) 0)
          where
            go : (b : Bool) → (cond {A = Placed} b (looked_up c (next_at w c z.place z.stream x).stream) (next_at w c z.place z.stream x)).stream.taken ≡ suc z.stream.taken
            go true = place z.place z.stream x
            go false = place z.place z.stream x

    pub fits_after : (k : ℕ) → s.taken + k ≤ stream_limit → Fitting w (after (following w c) (looked_up c s) block k).stream
    unfolding after
    fits_after zero l = h
    fits_after (suc k) l = next_fits (after (following w c) (looked_up c s) block k) (fits_after k (omega arith)) (omega (arith, taken-after k)) (get_or block k 0)

-- ---- a call

-- why a scan that is given a second table is accepted
pub record Taken (t c : List ℕ) (number : ℕ) : Type 0 where
  pub passes : is_second t c ≡ true
  pub scan : number ≡ 0

pub taken-up : (t c : List ℕ) (number : ℕ) → cond (is_table t) (cond (is_second t c) number 29) 1 ≡ 0 → Taken t c number
taken-up t c number = go (is_table t) (is_second t c) refl
  where
    go : (p q : Bool) → is_second t c ≡ q → ◌≡◌ {A = ℕ} (cond p (cond q number 29) 1) 0 → Taken t c number
    go true true q e = record { passes = q; scan = e }
    go true false q e = absurd (omega arith)
    go false q r e = absurd (omega arith)

-- the state that an accepted scan hands back is valid, whatever second table it was given
pub stays-valid : (t c : List ℕ) (s : Stream) (a : Call) → followed_number t c s a ≡ 0 → valid (automaton t) (followed t c s a).stream ≡ true
unfolding follow_number followed follow_takes
stays-valid t c s a e =
    let up = taken-up t c (scan_number t s (length a.block) (space a.slots)) e in
    let h = accepted t s (length a.block) (space a.slots) up.scan in
    let w : Automaton = automaton t in
    let k : ℕ = fits_by (following w c) (looked_up c s) a.allowance a.block (space a.slots) (length a.block) in
    let few = fits_le (following w c) (looked_up c s) a.block a.allowance (space a.slots) (length a.block) in
    let z : Stream = (after (following w c) (looked_up c s) a.block k).stream in
    ap (λ (n : ℕ). valid w (cond {A = Scanned} (eqb n 0) (record { number = 0; taken = k; reports = length (reports_by (following w c) (looked_up c s) a.block k); used = cost_by (following w c) (looked_up c s) a.block k; stream = z })
    (record { number = n; taken = 0; reports = 0; used = 0; stream = s })).stream) e
    ∙ valid-is w z (fitted w z (fits_after w c (all_there t c up.passes) s h.state a.block k (omega (arith, h.short, few)))) h.none_has_starts
