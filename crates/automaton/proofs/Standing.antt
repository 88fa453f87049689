-- A part that stands in the rows, and its copies. What is built over empty rows stands there,
-- behind it
-- the rows are empty again, and its copy is what building it once more would give.
use mathlib.Core.Path.{◌≡◌, sym, ap, ap₂, ◌∙◌}
use mathlib.Core.Bool.{Bool, ◌&&◌, ◌||◌, and-false}
use mathlib.Core.Logic.{inl, inr}
use mathlib.Core.List.{List, ◌++◌, append_assoc}
use Prim.Native.Nat.{ℕ, ◌+◌, ◌-◌, ◌*◌, ◌≤◌, ◌<◌}
use native.Mathlib.Decide.{dec_lt}
use native.Mathlib.Omega.{arith}
use lib.ListN.{length, take, drop}
use lib.Seq.{sets, sets-eq, length-sets, length-take-le, drop_at, take_at}
use Rattle.meaning.specs.Form.{positions}
use Rattle.meaning.specs.Rule.{Assertion}
use Rattle.meaning.specs.Automaton.{first, last, follow, items}
use Rattle.meaning.proofs.Computed.{items-length}
use Rattle.automaton.specs.Parts.{flat, world_of}
use Rattle.automaton.specs.declared.fragments.Fragment.{Fragment}
use Rattle.nodes.specs.Invariants.{Written}
use Rattle.automaton.specs.Invariants.{fragment_of, has_at, Room, Built, among, moved_part, Again, Fresh, Stands}
use Rattle.automaton.proofs.Shifted.{first_on, last_on, follow-on, no-first-at, no-last-at, no-follow-at, no-follow-to}
use Rattle.automaton.proofs.Moving.{among_in, among_below, among-above, moved-set}
use Rattle.automaton.proofs.Steps.{size_of, length-flat}

-- ---- what is built stands, and leaves the rows behind it empty

module _ {world : ℕ} {f : Written} {b : ℕ} {r r' t t' : List ℕ} {x : Fragment}
    (h : Built world f b r r' t t' x) (o : Fresh r t b) where
  still-wide : length t' ≡ 1024
  still-wide = ap length h.takes ∙ length-sets t (b * 4) (flat (items f)) ∙ o.wide

  rows_are : (p q : ℕ) → p < 256 → q < 256 → b ≤ p → has_at r' p q ≡ follow (world_of world) f b p q
  rows_are p q i l m =
      h.follows o.full p q i l ∙ ap (λ (v : Bool). v || follow (world_of world) f b p q)
      (o.clear p q i l m)

  pub fresh-behind : Fresh r' t' (b + x.size)
  fresh-behind = record {
    full = h.long ∙ o.full;
    wide = still-wide;
    clear =
        λ p q i l m. rows_are p q i l (omega arith)
        ∙ no-follow-at (world_of world) f b p q (inr (omega (arith, size_of h)));
  }

  pub stands : Room f b → Stands world f b r' t' x
  stands room = record {
    full = h.long ∙ o.full;
    wide = still-wide;
    fragment = h.fragment;
    follows = rows_are;
    takes = read_back;
  }
    where
      size : length (flat (items f)) ≡ positions f * 4
      size = length-flat (items f) ∙ ap (λ (n : ℕ). n * 4) (items-length f)

      read_back : take (positions f * 4) (drop (b * 4) t') ≡ flat (items f)
      read_back =
          let behind : List ℕ = drop (b * 4 + length (flat (items f))) t in
          let e : t' ≡ take (b * 4) t ++ (flat (items f) ++ behind) =
          h.takes ∙ sets-eq (flat (items f)) t (b * 4) (omega (arith, o.wide, size))
          ∙ append_assoc (take (b * 4) t) (flat (items f)) behind in
          ap (λ (l : List ℕ). take (positions f * 4) (drop (b * 4) l)) e
          ∙ ap (take (positions f * 4))
          (drop_at (take (b * 4) t) (flat (items f) ++ behind) (b * 4)
          (length-take-le (b * 4) t (omega (arith, o.wide))))
          ∙ take_at (flat (items f)) behind (positions f * 4) size

module _ {world : ℕ} {f : Written} {c : ℕ} {r t : List ℕ} {x : Fragment}
    (s : Stands world f c r t x) where
  pub stands-size : x.size ≡ positions f
  unfolding fragment_of
  stands-size = ap (λ (g : Fragment). g.size) s.fragment

  -- behind a part that stands the rows are empty
  pub fresh-after : Fresh r t (c + x.size)
  fresh-after = record {
    full = s.full;
    wide = s.wide;
    clear = λ p q i l m.
        s.follows p q i l (omega arith) ∙ no-follow-at (world_of world) f c p q
        (inr (omega (arith, stands-size)));
  }

-- ---- a copy is what building it once more would give

moved-part : (world : ℕ) (f : Written) (c : ℕ) → Room f (c + positions f)
    → moved_part c (fragment_of world f c) ≡ fragment_of world f (c + positions f)
unfolding moved_part fragment_of
moved-part world f c room =
    let w = world_of world in
    let n = positions f in
    cc (
      moved-set (first w f c) (first w f (c + n)) c n room (first_on w n f c)
          (no-first-at w f (c + n)),
      moved-set (last w f c) (last w f (c + n)) c n room (last_on w n f c) (no-last-at w f (c + n)),
    )

-- the pairs of the copy
moved-pairs : {world : ℕ} {f : Written} {c : ℕ} {r t : List ℕ} {x : Fragment}
    → Stands world f c r t x → (n : ℕ) → n ≡ positions f → (p q : ℕ) → p < 256 → q < 256
    → (among (c + n) n p && (among (c + n) n q && has_at r (p - n) (q - n))) ≡ follow (world_of world)
    f (c + n) p q
moved-pairs {world} {f} {c} {r} s n e p q h l =
    go (dec_lt p (c + n)) (dec_lt p (c + n + n)) (dec_lt q (c + n)) (dec_lt q (c + n + n))
  where
    w : Assertion → Bool
    w = world_of world

    go : Dec (p < c + n) → Dec (p < c + n + n) → Dec (q < c + n) → Dec (q < c + n + n)
        → (among (c + n) n p && (among (c + n) n q && has_at r (p - n) (q - n))) ≡ follow
        (world_of world) f (c + n) p q
    go (yes i) d j k = rw (among_below (c + n) n p i) (sym (no-follow-at w f (c + n) p q (inl i)))
    go (no i) (no d) j k =
        rw (among-above (c + n) n p (omega arith))
        (sym (no-follow-at w f (c + n) p q (inr (omega arith))))
    go (no i) (yes d) (yes j) k =
        rw (among_below (c + n) n q j)
        (and-false (among (c + n) n p) ∙ sym (no-follow-to w f (c + n) p q (inl j)))
    go (no i) (yes d) (no j) (no k) =
        rw (among-above (c + n) n q (omega arith))
        (and-false (among (c + n) n p) ∙ sym (no-follow-to w f (c + n) p q (inr (omega arith))))
    go (no i) (yes d) (no j) (yes k) =
        let u : p - n + n ≡ p = omega arith in
        let v : q - n + n ≡ q = omega arith in
        rw (among_in (c + n) n p (omega arith) d, among_in (c + n) n q (omega arith) k)
        (s.follows (p - n) (q - n) (omega arith) (omega arith) (omega arith)
        ∙ sym (follow-on w n f c (p - n) (q - n)) ∙ ap₂ (follow w f (c + n)) u v)

module _ {world : ℕ} {f : Written} {c : ℕ} {r r' t t' : List ℕ} {x y : Fragment}
    (s : Stands world f c r t x) where
  pub built-again : Again c x r r' t t' y → Room f (c + x.size)
      → Built world f (c + x.size) r r' t t' y
  built-again a room = record {
    fragment =
        a.fragment ∙ ap (moved_part c) s.fragment ∙ moved-part world f c (omega (arith, size))
        ∙ ap (λ (n : ℕ). fragment_of world f (c + n)) (sym size);
    long = a.follows.long;
    follows = λ full p q i l.
        a.follows.member full p q i l ∙ ap (λ (v : Bool). has_at r p q || v)
        (moved-pairs s x.size size p q i l);
    takes =
        a.takes
        ∙ ap (sets t ((c + x.size) * 4))
        (ap (λ (n : ℕ). take (n * 4) (drop (c * 4) t)) size ∙ s.takes);
  }
    where
      size : x.size ≡ positions f
      size = stands-size s

  -- and it stands there, so that it can be copied again
  pub stands-again : Again c x r r' t t' y → Room f (c + x.size)
      → Stands world f (c + x.size) r' t' y
  stands-again a room = stands (built-again a room) (fresh-after s) room
