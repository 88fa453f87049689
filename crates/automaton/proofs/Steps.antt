-- What is built, part by part: the promises of the functions that walk the nodes, put together. A
-- repeat is taken apart by its first copy.
use mathlib.Core.Path.{◌≡◌, refl, sym, ap, ap₂, ◌∙◌}
use mathlib.Core.Bool.{Bool, true, false, true≢false, ◌&&◌, ◌||◌, or-false, or_assoc}
use mathlib.Core.List.{List, [], ◌∷◌, ◌++◌, append_assoc}
use Prim.Native.Nat.{ℕ, suc, ◌+◌, ◌*◌, ◌-◌, ◌≤◌, ◌<◌}
use native.Mathlib.Omega.{arith}
use native.Mathlib.Decide.{ℕ_discrete}
use borrow.Author.Tests.{lt-ltb, eq-eqb}
use lib.Dec.{eqb}
use lib.ListN.{length, length-append}
use lib.Seq.{sets}
use Rattle.sets.specs.Set.{has}
use Rattle.sets.proofs.Laws.{has-set_of}
use Rattle.meaning.specs.Tree.{Extra, at_most}
use Rattle.meaning.specs.Form.{eps, take, check, seq, alt, plus, opt, write, positions, copies, optionals, repeated}
use Rattle.meaning.specs.Rule.{Assertion, ByteSet}
use Rattle.meaning.specs.Automaton.{first, last, follow, items}
use Rattle.meaning.proofs.Computed.{items-length}
use Rattle.nodes.specs.Nodes.{Syntax}
use Rattle.automaton.specs.Parts.{four_words, flat, world_of}
use Rattle.automaton.specs.declared.fragments.Fragment.{Fragment}
use Rattle.nodes.specs.Invariants.{Written, extra}
use Rattle.automaton.specs.Invariants.{bare_of, one_of, in_turn, choice_of, optional_of, fragment_of, has_at, Joined, Room, Built}
use Rattle.nodes.proofs.Forms.{nested-positions, repeat-any, repeat-nested, repeat_many, repeat-positions}
use Rattle.automaton.proofs.Words.{sets-append}
use Rattle.automaton.proofs.Pieces.{piece-eps, piece-check, piece-take, piece-seq, piece-alt, piece-opt, piece-plus, no-follow, no_items, repeated-bare, piece-repeated, piece-nested}

-- ---- the byte sets of two parts stand one after the other

flat_append : (x y : List ByteSet) → flat (x ++ y) ≡ flat x ++ flat y
unfolding flat
flat_append [] y = refl
flat_append (c ∷ x) y = ap (λ (l : List ℕ). four_words c ++ l) (flat_append x y) ∙ sym (append_assoc (four_words c) (flat x) (flat y))

pub length-flat : (x : List ByteSet) → length (flat x) ≡ length x * 4
unfolding flat
length-flat [] = refl
length-flat (c ∷ x) = omega (arith, length-append (four_words c) (flat x), length-flat x)

takes-both : (f g : Written) (b : ℕ) (t t1 t2 : List ℕ) → t1 ≡ sets t (b * 4) (flat (items f)) → t2 ≡ sets t1 ((b + positions f) * 4) (flat (items g))
    → t2 ≡ sets t (b * 4) (flat (items f ++ items g))
takes-both f g b t t1 t2 h i =
    let e : (b + positions f) * 4 ≡ b * 4 + length (flat (items f)) = omega (arith, length-flat (items f), items-length f) in
    i ∙ ap₂ (λ (l : List ℕ) (k : ℕ). sets l k (flat (items g))) h e
    ∙ sets-append (flat (items f)) (flat (items g)) t (b * 4) ∙ ap (sets t (b * 4)) (sym (flat_append (items f) (items g)))

-- ---- room

pub room_as : {w f : Written} (b : ℕ) → w ≡ f → Room w b → Room f b
room_as b e h = rw e at h

pub room-opt : {w f : Written} (b : ℕ) → w ≡ opt f → Room w b → Room f b
unfolding positions
room-opt b e h = rw e at h

-- ---- a join of two forms adds the pairs of a last and a first position

joined-pairs : (world : ℕ) (f g : Written) (b m : ℕ) (x y : Fragment) (r r' : List ℕ) → x ≡ fragment_of world f b → y ≡ fragment_of world g m → Joined x.last y.first 256 r r'
    → length r ≡ 1024 → (p q : ℕ) → p < 256 → q < 256 → has_at r' p q ≡ (has_at r p q || (last (world_of world) f b p && first (world_of world) g m q))
unfolding fragment_of
joined-pairs world f g b m x y r r' ex ey j full p q h i =
    j.member full p q h i ∙ ap (λ (v : Bool). has_at r p q || (v && (has x.last p && has y.first q))) (lt-ltb p 256 h)
    ∙ ap₂ (λ (u v : Bool). has_at r p q || (u && v))
    (ap (λ (z : Fragment). has z.last p) ex ∙ has-set_of (last (world_of world) f b) p h)
    (ap (λ (z : Fragment). has z.first q) ey ∙ has-set_of (first (world_of world) g m) q i)

-- ---- one part

module _ {world : ℕ} {b : ℕ} {r r' t t' : List ℕ} where
  pub size_of : {f : Written} {x : Fragment} → Built world f b r r' t t' x → x.size ≡ positions f
  unfolding fragment_of
  size_of h = ap (λ (g : Fragment). g.size) h.fragment

  pub built-as : {w f : Written} {x : Fragment} → w ≡ f → Built world f b r r' t t' x → Built world w b r r' t t' x
  built-as e h = rw e h

  pub built-opt : {w f : Written} {x z : Fragment} → w ≡ opt f → Built world f b r r' t t' x → z ≡ optional_of x → Built world w b r r' t t' z
  unfolding follow items
  built-opt {w} {f} e h i = rw e (record {
    fragment = i ∙ ap optional_of h.fragment ∙ piece-opt world f b;
    long = h.long;
    follows = h.follows;
    takes = h.takes;
  })

  pub built-plus : {f : Written} {x : Fragment} {r2 : List ℕ} → Built world f b r r' t t' x → Joined x.last x.first 256 r' r2 → Built world (plus f) b r r2 t t' x
  unfolding follow items
  built-plus {f} {x} {r2} h j = record {
    fragment = h.fragment ∙ piece-plus world f b;
    long = j.long ∙ h.long;
    follows = λ full p q l m.
        joined-pairs world f f b b x x r' r2 h.fragment h.fragment j (h.long ∙ full) p q l m
        ∙ ap (λ (v : Bool). v || (last (world_of world) f b p && first (world_of world) f b q)) (h.follows full p q l m)
        ∙ or_assoc (has_at r p q) (follow (world_of world) f b p q) (last (world_of world) f b p && first (world_of world) f b q);
    takes = h.takes;
  }

module _ {world : ℕ} {b : ℕ} {r t : List ℕ} {w : Written} {z : Fragment} where
  built-none : (f : Written) → w ≡ f → positions f ≡ 0 → z ≡ fragment_of world f b → Built world w b r r t t z
  unfolding flat
  built-none f e bare i = rw e (record {
    fragment = i;
    long = refl;
    follows = λ full p q l m. sym (or-false (has_at r p q)) ∙ ap (λ (v : Bool). has_at r p q || v) (sym (no-follow f bare (world_of world) b p q));
    takes = ap (λ (l : List ByteSet). sets t (b * 4) (flat l)) (sym (no_items f bare));
  })

  pub built-eps : w ≡ eps → z ≡ bare_of true → Built world w b r r t t z
  unfolding positions
  built-eps e i = built-none eps e refl (i ∙ piece-eps world b)

  pub built-check : {a : Assertion} {n : Bool} → w ≡ check a → n ≡ world_of world a → z ≡ bare_of n → Built world w b r r t t z
  unfolding positions
  built-check {a} e h i = built-none (check a) e refl (i ∙ ap bare_of h ∙ piece-check world a b)

  pub built-take : {c s : ByteSet} {t' : List ℕ} → w ≡ take c → s ≡ four_words c → t' ≡ sets t (b * 4) (four_words s) → z ≡ one_of b → Built world w b r r t t' z
  unfolding follow items flat
  built-take {c} e i j l = rw e (record {
    fragment = l ∙ piece-take world c b;
    long = refl;
    follows = λ full p q h m. sym (or-false (has_at r p q));
    takes = j ∙ ap (λ (v : List ℕ). sets t (b * 4) (four_words v)) i;
  })

-- ---- two parts

-- their sizes fit where their positions do, wherever each is numbered from
pub two-fit : {world : ℕ} {f g : Written} {b c : ℕ} {r r1 r2 t t1 t2 : List ℕ} {x y : Fragment} → Built world f b r r1 t t1 x → Built world g c r1 r2 t1 t2 y
    → b + (positions f + positions g) ≤ 256 → x.size + y.size ≤ 256
two-fit h i m = omega (arith, size_of h, size_of i)

module _ {world : ℕ} {f g : Written} {b : ℕ} {r r1 r2 t t1 t2 : List ℕ} {x y : Fragment} (h : Built world f b r r1 t t1 x) (i : Built world g (b + x.size) r1 r2 t1 t2 y) where
  after : Built world g (b + positions f) r1 r2 t1 t2 y
  after = rw (size_of h) at i

  pub built-seq : {w : Written} {z : Fragment} {r3 : List ℕ} → w ≡ seq f g → z ≡ in_turn x y → Joined x.last y.first 256 r2 r3 → Built world w b r r3 t t2 z
  unfolding follow items
  built-seq {w} {z} {r3} e j l =
      let n = b + positions f in
      rw e (record {
        fragment = j ∙ ap₂ in_turn h.fragment after.fragment ∙ piece-seq world f g b;
        long = l.long ∙ after.long ∙ h.long;
        follows = λ full p q k m.
            joined-pairs world f g b n x y r2 r3 h.fragment after.fragment l (after.long ∙ h.long ∙ full) p q k m
            ∙ ap (λ (v : Bool). v || (last (world_of world) f b p && first (world_of world) g n q)) (after.follows (h.long ∙ full) p q k m)
            ∙ ap (λ (v : Bool). v || follow (world_of world) g n p q || (last (world_of world) f b p && first (world_of world) g n q)) (h.follows full p q k m)
            ∙ joined-or (has_at r p q) (follow (world_of world) f b p q) (follow (world_of world) g n p q) (last (world_of world) f b p && first (world_of world) g n q);
        takes = takes-both f g b t t1 t2 h.takes after.takes;
      })
    where
      joined-or : (o u v s : Bool) → (((o || u) || v) || s) ≡ (o || (u || (v || s)))
      joined-or true u v s = refl
      joined-or false true v s = refl
      joined-or false false v s = refl

  pub built-alt : {w : Written} {z : Fragment} → w ≡ alt f g → z ≡ choice_of x y → Built world w b r r2 t t2 z
  unfolding follow items
  built-alt e j =
      let n = b + positions f in
      rw e (record {
        fragment = j ∙ ap₂ choice_of h.fragment after.fragment ∙ piece-alt world f g b;
        long = after.long ∙ h.long;
        follows = λ full p q k m.
            after.follows (h.long ∙ full) p q k m ∙ ap (λ (v : Bool). v || follow (world_of world) g n p q) (h.follows full p q k m)
            ∙ or_assoc (has_at r p q) (follow (world_of world) f b p q) (follow (world_of world) g n p q);
        takes = takes-both f g b t t1 t2 h.takes after.takes;
      })

-- ---- repeats

-- a repeat that is not `{0}` has a first copy
pub some-copy : (n j : ℕ) → (eqb n 0 && eqb j 0) ≡ false → n ≡ 0 → j ≡ 0 → ⊥
some-copy n j h z e = true≢false (sym (ap₂ (λ (u v : Bool). u && v) (eq-eqb n 0 z) (eq-eqb j 0 e)) ∙ h)

module _ (f : Written) (n : ℕ) (endless : Bool) (j : ℕ) where
  -- there is room for one copy where there is any
  pub one-fits : (n ≡ 0 → ⊥) → positions f ≤ positions (repeated f n (extra endless j))
  unfolding positions
  one-fits z = go (endless && eqb n 1) refl
    where
      go : (v : Bool) → (endless && eqb n 1) ≡ v → positions f ≤ positions (repeated f n (extra endless j))
      go true e = omega (arith, ap positions (repeat_many f n endless j e))
      go false e = omega (arith, repeat-positions f n endless j z e)

  pub first_fits : (eqb n 0 && eqb j 0) ≡ false → positions f ≤ positions (repeated f n (extra endless j))
  unfolding positions
  first_fits h = go (ℕ_discrete n 0) endless refl
    where
      go : Dec (n ≡ 0) → (v : Bool) → endless ≡ v → positions f ≤ positions (repeated f n (extra endless j))
      go (yes z) true e = omega (arith, ap positions (repeat-any f n endless j z e))
      go (yes z) false e = omega (arith, ap positions (repeat-nested f n endless j z e), nested-positions f j (some-copy n j h z))
      go (no z) v e = one-fits z

-- a copy without positions stands for all
module _ (s : Syntax) {world : ℕ} {b : ℕ} {r r' t t' : List ℕ} {x : Fragment} (h : Built world (write s) b r r' t t' x) (z : x.size ≡ 0) where
  bare : positions (write s) ≡ 0
  bare = sym (size_of h) ∙ z

  instead : (w : Written) {y : Fragment} → positions w ≡ 0 → y ≡ fragment_of world w b → Built world w b r r' t t' y
  instead w e i = record {
    fragment = i;
    long = h.long;
    follows = λ full p q l m.
        h.follows full p q l m ∙ ap (λ (v : Bool). has_at r p q || v) (no-follow (write s) bare (world_of world) b p q ∙ sym (no-follow w e (world_of world) b p q));
    takes = h.takes ∙ ap (λ (l : List ByteSet). sets t (b * 4) (flat l)) (no_items (write s) bare ∙ sym (no_items w e));
  }

  pub settled-repeat : (n : ℕ) (j : Extra) → (n ≡ 0 → ⊥) → Built world (repeated (write s) n j) b r r' t t' x
  settled-repeat n j i =
      let e : suc (n - 1) ≡ n = omega arith in
      instead (repeated (write s) n j) (repeated-bare s bare n j)
      (h.fragment ∙ piece-repeated s bare world (n - 1) j b ∙ ap (λ (m : ℕ). fragment_of world (repeated (write s) m j) b) e)

  pub settled-nested : (j : ℕ) {y : Fragment} → y ≡ optional_of x → Built world (optionals j (write s)) b r r' t t' y
  unfolding repeated copies
  settled-nested j i =
      instead (optionals j (write s)) (repeated-bare s bare 0 (at_most j)) (i ∙ ap optional_of h.fragment ∙ piece-nested s bare world j b)
