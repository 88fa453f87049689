-- A form by its part. What takes no byte only lets pass or not at a gap, so it narrows a door; one
-- or more of a form opens the way round. Each law says so for one way to put forms together.
-- Assumes nothing.
use mathlib.Core.Path.{◌≡◌, refl, sym, ap, ap₂, ◌∙◌}
use mathlib.Core.Logic.{◌⊎◌, inl, inr}
use mathlib.Core.Bool.{Bool, true, false, ◌&&◌, ◌||◌}
use mathlib.Core.List.{List}
use Prim.Native.Nat.{ℕ, ◌+◌, ◌*◌, min, ◌≤◌, ◌<◌}
use native.Mathlib.Omega.{arith}
use borrow.Author.Tests.{lt-ltb}
use lib.Bits.{bit_and, bit_or}
use lib.ListN.{get_or, set}
use lib.Seq.{set_comm}
use Rattle.sets.specs.Set.{on, has}
use Rattle.sets.proofs.Laws.{on_or, on_and, on-zero, on-ones}
use Rattle.meaning.specs.Form.{take, seq, alt, plus, opt, positions}
use Rattle.meaning.specs.Automaton.{null}
use Rattle.marks.specs.Marks.{none, when, ends, past, moved}
use Rattle.marks.specs.Parts.{world_of, all, Doors, Part, one, then, or, doors_of, size_of, last_of, core_p, ends_p, entered_p, moved_p}
use Rattle.nodes.specs.Invariants.{Written, set_at}
use Rattle.marks.specs.Invariants.{has_byte, hits_of, Passes, Says}
use Rattle.marks.proofs.Least.{when-low}
use Rattle.marks.proofs.Moving.{ends_low, moved-outside}
use Rattle.marks.proofs.Skips.{when-none, ends-none, moved_none, min-none, none-min, when-and, past-none}

-- ---- masks

pub on-all : (g : ℕ) → g < 24 → on all g ≡ true
on-all g h = on-ones 24 g ∙ lt-ltb g 24 h

-- ---- sizes and rows

pub size-pos : (p : Part) → 1 ≤ size_of p
unfolding size_of
size-pos (one d k) = omega arith
size-pos (then d l r x y) = omega (arith, size-pos x)
size-pos (or d x y) = omega (arith, size-pos x)

pub rows-size : (p : Part) → last_of p + 2 ≡ 2 * size_of p
unfolding size_of last_of
rows-size (one d k) = refl
rows-size (then d l r x y) = omega (arith, rows-size x, rows-size y)
rows-size (or d x y) = omega (arith, rows-size x, rows-size y)

-- ---- a part with other doors

abbrev pub with_doors : Part → Doors → Part
with_doors (one d k) e = one e k
with_doors (then d l r x y) e = then e l r x y
with_doors (or d x y) e = or e x y

module _ (p : Part) (e : Doors) where
  pub with_size : size_of (with_doors p e) ≡ size_of p
  unfolding size_of
  with_size = go p
    where
      go : (q : Part) → size_of (with_doors q e) ≡ size_of q
      go (one d k) = refl
      go (then d l r x y) = refl
      go (or d x y) = refl

  pub with-last : last_of (with_doors p e) ≡ last_of p
  unfolding last_of
  with-last = go p
    where
      go : (q : Part) → last_of (with_doors q e) ≡ last_of q
      go (one d k) = refl
      go (then d l r x y) = refl
      go (or d x y) = refl

  pub with-doors : doors_of (with_doors p e) ≡ e
  with-doors = go p
    where
      go : (q : Part) → doors_of (with_doors q e) ≡ e
      go (one d k) = refl
      go (then d l r x y) = refl
      go (or d x y) = refl

  pub with-core : (g b : ℕ) (ms : List ℕ) → core_p g (with_doors p e) b ms ≡ core_p g p b ms
  unfolding core_p
  with-core g b ms = go p
    where
      go : (q : Part) → core_p g (with_doors q e) b ms ≡ core_p g q b ms
      go (one d k) = refl
      go (then d l r x y) = refl
      go (or d x y) = refl

-- what comes to the inside decides what is moved
module _ (g : ℕ) (hits : ℕ → Bool) where
  inward : Part → (b j : ℕ) → (rs ms : List ℕ) → List ℕ
  inward (one d k) b j rs ms = set ms b (when (hits k) j)
  inward (then d l r x y) b j rs ms =
      moved_p g hits x b j rs (moved_p g hits y (b + size_of x) (min (when (on l g) j) (ends_p g x b rs)) rs ms)
  inward (or d x y) b j rs ms = moved_p g hits x b j rs (moved_p g hits y (b + size_of x) j rs ms)

  moved-inward : (p : Part) (b i : ℕ) (rs ms : List ℕ) → moved_p g hits p b i rs ms ≡ inward p b (entered_p g p b i rs) rs ms
  unfolding moved_p inward
  moved-inward (one d k) b i rs ms = refl
  moved-inward (then d l r x y) b i rs ms = refl
  moved-inward (or d x y) b i rs ms = refl

  with-inward : (p : Part) (e : Doors) (b j : ℕ) (rs ms : List ℕ) → inward (with_doors p e) b j rs ms ≡ inward p b j rs ms
  unfolding inward
  with-inward (one d k) e b j rs ms = refl
  with-inward (then d l r x y) e b j rs ms = refl
  with-inward (or d x y) e b j rs ms = refl

  -- other doors that let the same come to the inside
  pub moved-with : (p : Part) (e : Doors) (b i j : ℕ) (rs ms : List ℕ)
      → min (when (on e.front g) i) (when (on e.round g) (core_p g p b rs)) ≡ entered_p g p b j rs
      → moved_p g hits (with_doors p e) b i rs ms ≡ moved_p g hits p b j rs ms
  moved-with p e b i j rs ms h =
      moved-inward (with_doors p e) b i rs ms
      ∙ ap (λ (v : ℕ). inward (with_doors p e) b v rs ms)
      (ap₂ (λ (d : Doors) (c : ℕ). min (when (on d.front g) i) (when (on d.round g) c)) (with-doors p e) (with-core p e g b rs) ∙ h)
      ∙ with-inward p e b (entered_p g p b j rs) rs ms
      ∙ sym (moved-inward p b j rs ms)

-- ---- the order of moving makes no difference

module _ (g : ℕ) (hits : ℕ → Bool) (rs : List ℕ) where
  set-moved : (p : Part) (b i q v : ℕ) (ms : List ℕ) → (q < b) ⊎ (b + size_of p ≤ q)
      → moved_p g hits p b i rs (set ms q v) ≡ set (moved_p g hits p b i rs ms) q v
  unfolding moved_p size_of
  set-moved (one d k) b i q v ms h = set_comm ms q b v (when (hits k) (entered_p g (one d k) b i rs)) (λ e. elim h [ inl l ↦ omega arith | inr l ↦ omega arith ])
  set-moved (then d l r x y) b i q v ms h =
      let c = entered_p g (then d l r x y) b i rs in
      let m = min (when (on l g) c) (ends_p g x b rs) in
      ap (moved_p g hits x b c rs) (set-moved y (b + size_of x) m q v ms (elim h [ inl k ↦ inl (omega arith) | inr k ↦ inr (omega arith) ]))
      ∙ set-moved x b c q v (moved_p g hits y (b + size_of x) m rs ms) (elim h [ inl k ↦ inl (omega arith) | inr k ↦ inr (omega arith) ])
  set-moved (or d x y) b i q v ms h =
      let c = entered_p g (or d x y) b i rs in
      ap (moved_p g hits x b c rs) (set-moved y (b + size_of x) c q v ms (elim h [ inl k ↦ inl (omega arith) | inr k ↦ inr (omega arith) ]))
      ∙ set-moved x b c q v (moved_p g hits y (b + size_of x) c rs ms) (elim h [ inl k ↦ inl (omega arith) | inr k ↦ inr (omega arith) ])

  swap : (x y : Part) (b c i j : ℕ) (ms : List ℕ) → b + size_of x ≤ c → moved_p g hits x b i rs (moved_p g hits y c j rs ms) ≡ moved_p g hits y c j rs (moved_p g hits x b i rs ms)
  unfolding moved_p
  swap x (one d k) b c i j ms h = set-moved x b i c (when (hits k) (entered_p g (one d k) c j rs)) ms (inr h)
  swap x (then d l r u v) b c i j ms h =
      let e = entered_p g (then d l r u v) c j rs in
      let m = min (when (on l g) e) (ends_p g u c rs) in
      swap x u b c i e (moved_p g hits v (c + size_of u) m rs ms) h ∙ ap (moved_p g hits u c e rs) (swap x v b (c + size_of u) i m ms (omega arith))
  swap x (or d u v) b c i j ms h =
      let e = entered_p g (or d u v) c j rs in
      swap x u b c i e (moved_p g hits v (c + size_of u) e rs ms) h ∙ ap (moved_p g hits u c e rs) (swap x v b (c + size_of u) i e ms (omega arith))

-- a part reads its own marks alone
module _ (g : ℕ) where
  abbrev Agree : (b n : ℕ) (rs us : List ℕ) → Type 0
  Agree b n rs us = (q : ℕ) → b ≤ q → q < b + n → get_or rs q 0 ≡ get_or us q 0

  core-same : (p : Part) (b : ℕ) (rs us : List ℕ) → Agree b (size_of p) rs us → core_p g p b rs ≡ core_p g p b us
  unfolding core_p size_of
  core-same (one d k) b rs us h = ap (λ (v : ℕ). min v none) (h b (omega arith) (omega arith))
  core-same (then d l r x y) b rs us h =
      ap₂ (λ (u v : ℕ). min (when (on r g) (when (on (doors_of x).back g) u)) (when (on (doors_of y).back g) v))
      (core-same x b rs us (λ q i j. h q i (omega arith))) (core-same y (b + size_of x) rs us (λ q i j. h q (omega arith) (omega arith)))
  core-same (or d x y) b rs us h =
      ap₂ (λ (u v : ℕ). min (when (on (doors_of x).back g) u) (when (on (doors_of y).back g) v))
      (core-same x b rs us (λ q i j. h q i (omega arith))) (core-same y (b + size_of x) rs us (λ q i j. h q (omega arith) (omega arith)))

  module _ (hits : ℕ → Bool) where
    moved_same : (p : Part) (b i : ℕ) (rs us ms : List ℕ) → Agree b (size_of p) rs us → moved_p g hits p b i rs ms ≡ moved_p g hits p b i us ms
    unfolding moved_p size_of
    moved_same (one d k) b i rs us ms h =
        ap (λ (c : ℕ). set ms b (when (hits k) (min (when (on d.front g) i) (when (on d.round g) c)))) (core-same (one d k) b rs us h)
    moved_same (then d l r x y) b i rs us ms h =
        let hx : Agree b (size_of x) rs us = λ q u v. h q u (omega arith) in
        let hy : Agree (b + size_of x) (size_of y) rs us = λ q u v. h q (omega arith) (omega arith) in
        let e : entered_p g (then d l r x y) b i rs ≡ entered_p g (then d l r x y) b i us =
        ap (λ (c : ℕ). min (when (on d.front g) i) (when (on d.round g) c)) (core-same (then d l r x y) b rs us h) in
        ap₂ (λ (c m : ℕ). moved_p g hits x b c rs (moved_p g hits y (b + size_of x) m rs ms)) e
        (ap₂ (λ (c u : ℕ). min (when (on l g) c) (when (on (doors_of x).back g) u)) e (core-same x b rs us hx))
        ∙ moved_same x b (entered_p g (then d l r x y) b i us) rs us _ hx
        ∙ ap (moved_p g hits x b (entered_p g (then d l r x y) b i us) us) (moved_same y (b + size_of x) _ rs us ms hy)
    moved_same (or d x y) b i rs us ms h =
        let hx : Agree b (size_of x) rs us = λ q u v. h q u (omega arith) in
        let hy : Agree (b + size_of x) (size_of y) rs us = λ q u v. h q (omega arith) (omega arith) in
        let e : entered_p g (or d x y) b i rs ≡ entered_p g (or d x y) b i us =
        ap (λ (c : ℕ). min (when (on d.front g) i) (when (on d.round g) c)) (core-same (or d x y) b rs us h) in
        ap (λ (c : ℕ). moved_p g hits x b c rs (moved_p g hits y (b + size_of x) c rs ms)) e
        ∙ moved_same x b (entered_p g (or d x y) b i us) rs us _ hx
        ∙ ap (moved_p g hits x b (entered_p g (or d x y) b i us) us) (moved_same y (b + size_of x) (entered_p g (or d x y) b i us) rs us ms hy)

-- ---- forms

abbrev pub open-doors : Doors
open-doors = record { front = all; back = all; round = 0 }

abbrev pub shut-front : Part → ℕ → Doors
shut-front p m = record { front = bit_and (doors_of p).front m; back = (doors_of p).back; round = (doors_of p).round }

abbrev pub shut-back : Part → ℕ → Doors
shut-back p m = record { front = (doors_of p).front; back = bit_and (doors_of p).back m; round = (doors_of p).round }

abbrev pub open-round : Part → Doors
open-round p = record { front = (doors_of p).front; back = (doors_of p).back; round = bit_or (doors_of p).round (bit_and (doors_of p).front (doors_of p).back) }

module _ (a : List ℕ) where
  -- doors that are open, and the way round shut
  opened : (g x y : ℕ) → g < 24 → x ≤ none → min (when (on all g) x) (when (on 0 g) y) ≡ x
  unfolding when
  opened g x y h l = rw (on-all g h, on-zero g) (omega arith)

  ends_open : (g x : ℕ) → g < 24 → when (on all g) x ≡ x
  unfolding when
  ends_open g x h = rw (on-all g h)

  pub says-take : (k : ℕ) → Says a (one open-doors k) (take (set_at a k))
  unfolding size_of core_p moved_p positions ends moved
  says-take k = record {
    size = refl;
    ends = λ g h b ms. ends_open g (min (get_or ms b 0) none) h;
    moved = λ g h x b i ms l. ap (λ (v : ℕ). set ms b (when (has (set_at a k) x) v)) (opened g i (min (get_or ms b 0) none) h l);
  }

  -- a part moved, where it reads the marks before
  second : {p : Part} {f e : Written} → Says a p e → (g : ℕ) → g < 24 → (x b i j : ℕ) (ms : List ℕ) → j ≤ none → {q : Part} → Says a q f
      → moved_p g (hits_of a x) p (b + size_of q) j ms (moved (world_of g) (has_byte x) f b i ms)
      ≡ moved (world_of g) (has_byte x) e (b + positions f) j (moved (world_of g) (has_byte x) f b i ms)
  second {p} {f} {e} sp g h x b i j ms l {q} sq =
      moved_same g (hits_of a x) p (b + size_of q) j ms (moved (world_of g) (has_byte x) f b i ms) (moved (world_of g) (has_byte x) f b i ms)
      (λ u lo hi. sym (moved-outside (world_of g) (has_byte x) f b i ms u (λ m. omega (arith, sq.size))))
      ∙ sp.moved g h x (b + size_of q) j (moved (world_of g) (has_byte x) f b i ms) l
      ∙ ap (λ (n : ℕ). moved (world_of g) (has_byte x) e (b + n) j (moved (world_of g) (has_byte x) f b i ms)) sq.size

  module _ {x y : Part} {f e : Written} (sx : Says a x f) (sy : Says a y e) where
    pub says-seq : (l r : ℕ) → Passes l f → Passes r e → Says a (then open-doors l r x y) (seq f e)
    unfolding size_of core_p moved_p positions ends moved past
    says-seq l r pl pr = record {
      size = ap₂ ◌+◌ sx.size sy.size;
      ends = λ g h b ms. ends_open g _ h
          ∙ ap₂ (λ (u v : ℕ). min (when (on r g) u) v) (sx.ends g h b ms) (sy.ends g h (b + size_of x) ms)
          ∙ ap₂ (λ (u : Bool) (n : ℕ). min (when u (ends (world_of g) f b ms)) (ends (world_of g) e (b + n) ms)) (pr g h) sx.size;
      moved = λ g h t b i ms lo.
          let w = world_of g in
          let c = core_p g (then open-doors l r x y) b ms in
          let m = min (when (null w f) i) (ends w f b ms) in
          let inner : min (when (on all g) i) (when (on 0 g) c) ≡ i = opened g i c h lo in
          let come : min (when (on l g) (min (when (on all g) i) (when (on 0 g) c))) (ends_p g x b ms) ≡ m =
          ap₂ (λ (u v : ℕ). min (when (on l g) u) v) inner (sx.ends g h b ms) ∙ ap (λ (u : Bool). min (when u i) (ends w f b ms)) (pl g h) in
          let low : m ≤ none = omega (arith, ends_low w f b ms) in
          ap₂ (λ (u v : ℕ). moved_p g (hits_of a t) x b u ms (moved_p g (hits_of a t) y (b + size_of x) v ms ms)) inner come
          ∙ swap g (hits_of a t) ms x y b (b + size_of x) i m ms (omega arith)
          ∙ ap (moved_p g (hits_of a t) y (b + size_of x) m ms) (sx.moved g h t b i ms lo)
          ∙ second sy g h t b i m ms low sx;
    }

    pub says-alt : Says a (or open-doors x y) (alt f e)
    unfolding size_of core_p moved_p positions ends moved
    says-alt = record {
      size = ap₂ ◌+◌ sx.size sy.size;
      ends = λ g h b ms. ends_open g _ h
          ∙ ap₂ (λ (u v : ℕ). min u v) (sx.ends g h b ms) (sy.ends g h (b + size_of x) ms)
          ∙ ap (λ (n : ℕ). min (ends (world_of g) f b ms) (ends (world_of g) e (b + n) ms)) sx.size;
      moved = λ g h t b i ms lo.
          let c = core_p g (or open-doors x y) b ms in
          let inner : min (when (on all g) i) (when (on 0 g) c) ≡ i = opened g i c h lo in
          ap (λ (u : ℕ). moved_p g (hits_of a t) x b u ms (moved_p g (hits_of a t) y (b + size_of x) u ms ms)) inner
          ∙ swap g (hits_of a t) ms x y b (b + size_of x) i i ms (omega arith)
          ∙ ap (moved_p g (hits_of a t) y (b + size_of x) i ms) (sx.moved g h t b i ms lo)
          ∙ second sy g h t b i i ms lo sx;
    }

  -- ---- what takes no byte

  ends_with : (g : ℕ) (p : Part) (d : Doors) (b : ℕ) (ms : List ℕ) → ends_p g (with_doors p d) b ms ≡ when (on d.back g) (core_p g p b ms)
  ends_with g p d b ms = ap₂ (λ (e : Doors) (c : ℕ). when (on e.back g) c) (with-doors p d) (with-core p d g b ms)

  module _ {p : Part} {f e : Written} (bare : positions f ≡ 0) (s : Says a p e) where
    pub says-before : (m : ℕ) → Passes m f → Says a (with_doors p (shut-front p m)) (seq f e)
    unfolding positions ends moved
    says-before m pm = record {
      size = with_size p (shut-front p m) ∙ s.size ∙ omega (arith, bare);
      ends = λ g h b ms.
          let w = world_of g in
          let at : b ≡ b + positions f = omega arith in
          ends_with g p (shut-front p m) b ms ∙ s.ends g h b ms
          ∙ sym (none-min w (ends w e b ms) (ends_low w e b ms))
          ∙ ap₂ (λ (u v : ℕ). min u (ends w e v ms)) (sym (no-first g b ms (null w e))) at;
      moved = λ g h t b i ms lo.
          let w = world_of g in
          let at : b ≡ b + positions f = omega arith in
          let c = core_p g p b ms in
          let gate : when (on (bit_and (doors_of p).front m) g) i ≡ when (on (doors_of p).front g) (when (null w f) i) =
          ap (λ (v : Bool). when v i) (on_and (doors_of p).front m g ∙ ap (λ (v : Bool). on (doors_of p).front g && v) (pm g h) ∙ and-swap (on (doors_of p).front g) (null w f))
          ∙ sym (when-and w (null w f) (on (doors_of p).front g) i) in
          moved-with g (hits_of a t) p (shut-front p m) b i (when (null w f) i) ms ms (ap (λ (v : ℕ). min v (when (on (doors_of p).round g) c)) gate)
          ∙ s.moved g h t b (when (null w f) i) ms (when-low (null w f) i lo)
          ∙ ap (λ (v : ℕ). moved w (has_byte t) e b v ms) (sym (past-none w f b i ms bare lo))
          ∙ ap₂ (λ (n : ℕ) (u : List ℕ). moved w (has_byte t) e n (past w f b i ms) u) at (sym (moved_none w (has_byte t) f b i ms bare));
    }
      where
        and-swap : (u v : Bool) → (u && v) ≡ (v && u)
        and-swap true true = refl
        and-swap true false = refl
        and-swap false true = refl
        and-swap false false = refl

        no-first : (g b : ℕ) (ms : List ℕ) (v : Bool) → when v (ends (world_of g) f b ms) ≡ none
        no-first g b ms v = ap (when v) (ends-none (world_of g) f b ms bare) ∙ when-none v

    pub says-left : Says a p (alt f e)
    unfolding positions ends moved
    says-left = record {
      size = s.size ∙ omega (arith, bare);
      ends = λ g h b ms.
          let w = world_of g in
          let at : b ≡ b + positions f = omega arith in
          s.ends g h b ms ∙ sym (none-min w (ends w e b ms) (ends_low w e b ms)) ∙ ap₂ (λ (u v : ℕ). min u (ends w e v ms)) (sym (ends-none w f b ms bare)) at;
      moved = λ g h t b i ms lo.
          let w = world_of g in
          let at : b ≡ b + positions f = omega arith in
          s.moved g h t b i ms lo ∙ ap₂ (λ (n : ℕ) (u : List ℕ). moved w (has_byte t) e n i u) at (sym (moved_none w (has_byte t) f b i ms bare));
    }

  module _ {p : Part} {f e : Written} (s : Says a p f) (bare : positions e ≡ 0) where
    pub says-behind : (m : ℕ) → Passes m e → Says a (with_doors p (shut-back p m)) (seq f e)
    unfolding positions ends moved
    says-behind m pm = record {
      size = with_size p (shut-back p m) ∙ s.size ∙ omega (arith, bare);
      ends = λ g h b ms.
          let w = world_of g in
          ends_with g p (shut-back p m) b ms
          ∙ ap (λ (v : Bool). when v (core_p g p b ms)) (on_and (doors_of p).back m g ∙ ap (λ (v : Bool). on (doors_of p).back g && v) (pm g h))
          ∙ sym (when-and w (on (doors_of p).back g) (null w e) (core_p g p b ms))
          ∙ ap (when (null w e)) (s.ends g h b ms)
          ∙ sym (min-none w (when (null w e) (ends w f b ms)) (when-low (null w e) (ends w f b ms) (ends_low w f b ms)))
          ∙ ap (min (when (null w e) (ends w f b ms))) (sym (ends-none w e (b + positions f) ms bare));
      moved = λ g h t b i ms lo.
          let w = world_of g in
          moved-with g (hits_of a t) p (shut-back p m) b i i ms ms refl
          ∙ s.moved g h t b i ms lo
          ∙ sym (moved_none w (has_byte t) e (b + positions f) (past w f b i ms) (moved w (has_byte t) f b i ms) bare);
    }

    pub says-right : Says a p (alt f e)
    unfolding positions ends moved
    says-right = record {
      size = s.size ∙ omega (arith, bare);
      ends = λ g h b ms.
          let w = world_of g in
          s.ends g h b ms ∙ sym (min-none w (ends w f b ms) (ends_low w f b ms)) ∙ ap (min (ends w f b ms)) (sym (ends-none w e (b + positions f) ms bare));
      moved = λ g h t b i ms lo.
          let w = world_of g in
          s.moved g h t b i ms lo ∙ sym (moved_none w (has_byte t) e (b + positions f) i (moved w (has_byte t) f b i ms) bare);
    }

  -- ---- repeats

  pub says-opt : {p : Part} {f : Written} → Says a p f → Says a p (opt f)
  unfolding positions ends moved
  says-opt s = record { size = s.size; ends = s.ends; moved = s.moved }

  -- the doors of what comes again
  again : (front back round : Bool) (i c : ℕ) → i ≤ none
      → min (when front i) (when (round || (front && back)) c) ≡ min (when front (min i (when back c))) (when round c)
  unfolding when
  again true true true i c h = omega arith
  again true true false i c h = omega arith
  again true false true i c h = omega arith
  again true false false i c h = omega arith
  again false true true i c h = refl
  again false true false i c h = refl
  again false false true i c h = refl
  again false false false i c h = refl

  pub says-plus : {p : Part} {f : Written} → Says a p f → Says a (with_doors p (open-round p)) (plus f)
  unfolding positions ends moved
  says-plus {p} {f} s = record {
    size = with_size p (open-round p) ∙ s.size;
    ends = λ g h b ms. ends_with g p (open-round p) b ms ∙ s.ends g h b ms;
    moved = λ g h t b i ms lo.
        let w = world_of g in
        let c = core_p g p b ms in
        let d = doors_of p in
        let e : on (bit_or d.round (bit_and d.front d.back)) g ≡ (on d.round g || (on d.front g && on d.back g)) =
        on_or d.round (bit_and d.front d.back) g ∙ ap (λ (v : Bool). on d.round g || v) (on_and d.front d.back g) in
        moved-with g (hits_of a t) p (open-round p) b i (min i (ends_p g p b ms)) ms ms
        (ap (λ (v : Bool). min (when (on d.front g) i) (when v c)) e ∙ again (on d.front g) (on d.back g) (on d.round g) i c lo)
        ∙ s.moved g h t b (min i (ends_p g p b ms)) ms (omega arith)
        ∙ ap (λ (v : ℕ). moved w (has_byte t) f b (min i v) ms) (s.ends g h b ms);
  }
