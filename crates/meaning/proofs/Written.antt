-- A tree means what its written-out form matches, both ways. Everything but repeats is the same
-- text; a repeat is taken apart by the number of copies it used. Assumes nothing.
use mathlib.Core.Path.{◌≡◌, refl, sym, subst}
use mathlib.Core.Logic.{inl, inr, ◌↔◌}
use Prim.Native.Nat.{ℕ, zero, suc, ◌+◌, ◌-◌, ◌≤◌}
use native.Mathlib.Nat.{zero-add, suc-add}
use native.Mathlib.Omega.{arith}
use Rattle.meaning.specs.Tree.{Tree, empty, item, assertion, then, or, repeat, Extra, at_most, unbounded, Text, Times, Allows, Means}
use Rattle.meaning.specs.Form.{Form, plus, Star, done, more, Match, copies, optionals, repeated, write}

module _ (R : ℕ → ℕ → Type 0) where
  times_snoc : (k s m e : ℕ) → Times R k s m → R m e → Times R (suc k) s e
  unfolding Times
  times_snoc zero s m e h r = (e, subst (λ (x : ℕ). R x e) (sym h) r, refl)
  times_snoc (suc k) s m e h r = (h.0, h.1, times_snoc k h.0 m e h.2 r)

  times-join : (j k s m e : ℕ) → Times R j s m → Times R k m e → Times R (j + k) s e
  unfolding Times
  times-join zero k s m e h r = rw zero-add (subst (λ (x : ℕ). Times R k x e) (sym h) r)
  times-join (suc j) k s m e h r = rw suc-add (h.0, h.1, times-join j k h.0 m e h.2 r)

  times_cut : (j k s e : ℕ) → Times R (j + k) s e → (m : ℕ) × Times R j s m × Times R k m e
  unfolding Times
  times_cut zero k s e h = (s, refl, rw zero-add at h)
  times_cut (suc j) k s e h =
      let h' : Times R (suc (j + k)) s e = rw suc-add at h in
      let c : (m : ℕ) × Times R j h'.0 m × Times R k m e = times_cut j k h'.0 e h'.2 in
      (c.0, (h'.0, h'.1, c.1), c.2)

  star-times : (s e : ℕ) → Star R s e → (k : ℕ) × Times R k s e
  unfolding Times
  star-times s e done = (0, refl)
  star-times s e (more {m = m} l r) =
      let c : (k : ℕ) × Times R k s m = star-times s m l in
      (suc c.0, times_snoc c.0 s m e c.1 r)

  star-cons : (s m e : ℕ) → R s m → Star R m e → Star R s e
  star-cons s m e r done = more done r
  star-cons s m e r (more {m = n} l x) = more (star-cons s m n r l) x

  times-star : (k s e : ℕ) → Times R k s e → Star R s e
  unfolding Times
  times-star zero s e h = subst (λ (x : ℕ). Star R s x) h done
  times-star (suc k) s e h = star-cons s h.0 e h.1 (times-star k h.0 e h.2)

times-map : (R S : ℕ → ℕ → Type 0) → ((s e : ℕ) → R s e → S s e) → (k s e : ℕ) → Times R k s e → Times S k s e
unfolding Times
times-map R S to zero s e h = h
times-map R S to (suc k) s e h = (h.0, to s h.0 h.1, times-map R S to k h.0 e h.2)

module _ {C A : Type 0} (t : Text C A) where
  copies-to : (n : ℕ) (f g : Form C A) (s m e : ℕ) → Times (Match t f) n s m → Match t g m e → Match t (copies n f g) s e
  unfolding Times Match copies
  copies-to zero f g s m e h r = subst (λ (x : ℕ). Match t g x e) (sym h) r
  copies-to (suc n) f g s m e h r = (h.0, h.1, copies-to n f g h.0 m e h.2 r)

  copies-from : (n : ℕ) (f g : Form C A) (s e : ℕ) → Match t (copies n f g) s e → (m : ℕ) × Times (Match t f) n s m × Match t g m e
  unfolding Times Match copies
  copies-from zero f g s e h = (s, refl, h)
  copies-from (suc n) f g s e h =
      let c : (m : ℕ) × Times (Match t f) n h.0 m × Match t g m e = copies-from n f g h.0 e h.2 in
      (c.0, (h.0, h.1, c.1), c.2)

  optionals-to : (j : ℕ) (f : Form C A) (k s e : ℕ) → k ≤ j → Times (Match t f) k s e → Match t (optionals j f) s e
  unfolding Times Match optionals
  optionals-to zero f zero s e le h = h
  optionals-to zero f (suc k) s e le h = absurd (omega arith)
  optionals-to (suc j) f zero s e le h = inl h
  optionals-to (suc j) f (suc k) s e le h = inr (h.0, h.1, optionals-to j f k h.0 e (omega arith) h.2)

  optionals-from : (j : ℕ) (f : Form C A) (s e : ℕ) → Match t (optionals j f) s e → (k : ℕ) × (k ≤ j) × Times (Match t f) k s e
  unfolding Times Match optionals
  optionals-from zero f s e h = (0, omega arith, h)
  optionals-from (suc j) f s e (inl h) = (0, omega arith, h)
  optionals-from (suc j) f s e (inr h) =
      let c : (k : ℕ) × (k ≤ j) × Times (Match t f) k h.0 e = optionals-from j f h.0 e h.2 in
      (suc c.0, omega arith, (h.0, h.1, c.2))

  -- one or more, by their number
  plus-to : (f : Form C A) (k s e : ℕ) → Times (Match t f) (suc k) s e → Match t (plus f) s e
  unfolding Match Times
  plus-to f k s e h =
      let one : suc k ≡ k + 1 = omega arith in
      let c : (m : ℕ) × Times (Match t f) k s m × Times (Match t f) 1 m e =
      times_cut (Match t f) k 1 s e (subst (λ (n : ℕ). Times (Match t f) n s e) one h) in
      (c.0, times-star (Match t f) k s c.0 c.1, subst (λ (x : ℕ). Match t f c.0 x) c.2.2 c.2.1)

  plus-from : (f : Form C A) (s e : ℕ) → Match t (plus f) s e → (k : ℕ) × Times (Match t f) (suc k) s e
  unfolding Match
  plus-from f s e h =
      let c : (k : ℕ) × Times (Match t f) k s h.0 = star-times (Match t f) s h.0 h.1 in
      (c.0, times_snoc (Match t f) c.0 s h.0 e c.1 h.2)

  repeated-to : (f : Form C A) (n : ℕ) (j : Extra) (k s e : ℕ) → Allows n j k → Times (Match t f) k s e → Match t (repeated f n j) s e
  unfolding Match repeated Times Allows
  repeated-to f n (at_most j) k s e a h =
      let cut : k ≡ n + (k - n) = omega arith in
      let c : (m : ℕ) × Times (Match t f) n s m × Times (Match t f) (k - n) m e =
      times_cut (Match t f) n (k - n) s e (subst (λ (i : ℕ). Times (Match t f) i s e) cut h) in
      copies-to n f (optionals j f) s c.0 e c.1 (optionals-to j f (k - n) c.0 e (omega arith) c.2)
  repeated-to f zero unbounded zero s e a h = inl h
  repeated-to f zero unbounded (suc k) s e a h = inr (plus-to f k s e h)
  repeated-to f (suc n) unbounded k s e a h =
      let cut : k ≡ n + suc (k - suc n) = omega arith in
      let c : (m : ℕ) × Times (Match t f) n s m × Times (Match t f) (suc (k - suc n)) m e =
      times_cut (Match t f) n (suc (k - suc n)) s e (subst (λ (i : ℕ). Times (Match t f) i s e) cut h) in
      copies-to n f (plus f) s c.0 e c.1 (plus-to f (k - suc n) c.0 e c.2)

  repeated-from : (f : Form C A) (n : ℕ) (j : Extra) (s e : ℕ) → Match t (repeated f n j) s e → (k : ℕ) × Allows n j k × Times (Match t f) k s e
  unfolding Match repeated Times Allows
  repeated-from f n (at_most j) s e h =
      let c : (m : ℕ) × Times (Match t f) n s m × Match t (optionals j f) m e = copies-from n f (optionals j f) s e h in
      let d : (k : ℕ) × (k ≤ j) × Times (Match t f) k c.0 e = optionals-from j f c.0 e c.2 in
      (n + d.0, omega arith, times-join (Match t f) n d.0 s c.0 e c.1 d.2)
  repeated-from f zero unbounded s e (inl h) = (0, omega arith, h)
  repeated-from f zero unbounded s e (inr h) = let c = plus-from f s e h in (suc c.0, omega arith, c.1)
  repeated-from f (suc n) unbounded s e h =
      let c : (m : ℕ) × Times (Match t f) n s m × Match t (plus f) m e = copies-from n f (plus f) s e h in
      let d : (k : ℕ) × Times (Match t f) (suc k) c.0 e = plus-from f c.0 e c.2 in
      (n + suc d.0, omega arith, times-join (Match t f) n (suc d.0) s c.0 e c.1 d.1)

  pub written : (x : Tree C A) (s e : ℕ) → Means t x s e → Match t (write x) s e
  unfolding Match Means write
  written empty s e h = h
  written (item c) s e h = h
  written (assertion a) s e h = h
  written (then x y) s e h = (h.0, written x s h.0 h.1, written y h.0 e h.2)
  written (or x y) s e (inl h) = inl (written x s e h)
  written (or x y) s e (inr h) = inr (written y s e h)
  written (repeat x n j) s e h =
      repeated-to (write x) n j h.0 s e h.1 (times-map (Means t x) (Match t (write x)) (λ a b r. written x a b r) h.0 s e h.2)

  pub unwritten : (x : Tree C A) (s e : ℕ) → Match t (write x) s e → Means t x s e
  unfolding Match Means write
  unwritten empty s e h = h
  unwritten (item c) s e h = h
  unwritten (assertion a) s e h = h
  unwritten (then x y) s e h = (h.0, unwritten x s h.0 h.1, unwritten y h.0 e h.2)
  unwritten (or x y) s e (inl h) = inl (unwritten x s e h)
  unwritten (or x y) s e (inr h) = inr (unwritten y s e h)
  unwritten (repeat x n j) s e h =
      let c : (k : ℕ) × Allows n j k × Times (Match t (write x)) k s e = repeated-from (write x) n j s e h in
      (c.0, c.1, times-map (Match t (write x)) (Means t x) (λ a b r. unwritten x a b r) c.0 s e c.2)

  -- The tree's direct meaning and its written-out form's meaning agree.
  pub meaning : (x : Tree C A) (s e : ℕ) → Means t x s e ↔ Match t (write x) s e
  meaning x s e = (λ h. written x s e h, λ h. unwritten x s e h)
