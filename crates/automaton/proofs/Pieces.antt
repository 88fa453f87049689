-- The fragment of a form by the fragments of its parts. Sets are known by their members, so each
-- equation is one between tests of positions; and a form without positions has empty sets, so that
-- only where it matches nothing is left to say of it.
use mathlib.Core.Path.{◌≡◌, refl, sym, ap, ◌∙◌}
use mathlib.Core.Bool.{Bool, true, false, ◌&&◌, ◌||◌, or-false, or_comm, and_comm}
use mathlib.Core.List.{List, [], ◌∷◌}
use Prim.Native.Nat.{ℕ, suc, ◌+◌, ◌*◌}
use native.Mathlib.Nat.{mul-zero}
use native.Mathlib.Omega.{arith}
use lib.ListN.{length}
use Rattle.sets.specs.Set.{set_of, empty_set, union_of}
use Rattle.sets.proofs.Laws.{set_of-ext, union-set_of, inserted-set_of}
use Rattle.meaning.specs.Tree.{Extra, at_most, repeat}
use Rattle.meaning.specs.Form.{eps, take, check, seq, alt, plus, opt, write, positions, copies, optionals, repeated}
use Rattle.meaning.specs.Count.{copied, exact}
use Rattle.meaning.specs.Rule.{Assertion, ByteSet}
use Rattle.meaning.specs.Automaton.{null, first, last, follow, items}
use Rattle.meaning.proofs.Logic.{false-T}
use Rattle.meaning.proofs.Computed.{first-T, last-T, follow-T, items-length}
use Rattle.meaning.proofs.Range.{first-inside, last-inside, follow-inside}
use Rattle.meaning.proofs.Counted.{counted, repeated-null, repeated-none}
use Rattle.nodes.specs.Nodes.{Syntax}
use Rattle.automaton.specs.Parts.{world_of}
use Rattle.automaton.specs.declared.fragments.Fragment.{Fragment}
use Rattle.nodes.specs.Invariants.{Written}
use Rattle.automaton.specs.Invariants.{bare_of, one_of, also, in_turn, choice_of, optional_of, fragment_of}

-- ---- what the operations make, set by set

pub in-turn-is : (f g : Fragment) {a b : List ℕ}
    → a ≡ also f.null f.first g.first
    → b ≡ also g.null g.last f.last
    → record { size = f.size + g.size; null = f.null && g.null; first = a; last = b } ≡ in_turn f g
unfolding in_turn
in-turn-is f g h i = cc

pub choice-is : (f g : Fragment) {a b : List ℕ}
    → a ≡ union_of f.first g.first
    → b ≡ union_of f.last g.last
    → record { size = f.size + g.size; null = f.null || g.null; first = a; last = b } ≡ choice_of f g
unfolding choice_of
choice-is f g h i = cc

-- ---- parts

pub piece-eps : (world b : ℕ) → bare_of true ≡ fragment_of world eps b
unfolding bare_of fragment_of positions null first last empty_set
piece-eps world b = refl

pub piece-check : (world : ℕ) (a : Assertion) (b : ℕ) → bare_of (world_of world a) ≡ fragment_of world (check a) b
unfolding bare_of fragment_of positions null first last empty_set
piece-check world a b = refl

pub piece-take : (world : ℕ) (c : ByteSet) (b : ℕ) → one_of b ≡ fragment_of world (take c) b
unfolding one_of fragment_of positions null first last empty_set
piece-take world c b = rw (inserted-set_of (λ q. false) b)

-- t too where b is; the set of what comes first is joined so
also-after : (b : Bool) (f g : ℕ → Bool) → also b (set_of f) (set_of g) ≡ set_of (λ q. f q || (b && g q))
also-after true f g = union-set_of f g
also-after false f g = set_of-ext f (λ q. f q || false) (λ q h. sym (or-false (f q)))

-- and what comes last, from the other side
also-before : (b : Bool) (f g : ℕ → Bool) → also b (set_of g) (set_of f) ≡ set_of (λ q. (f q && b) || g q)
also-before b f g =
    also-after b g f
    ∙ set_of-ext (λ q. g q || (b && f q)) (λ q. (f q && b) || g q)
    (λ q h. or_comm (g q) (b && f q) ∙ ap (λ (v : Bool). v || g q) (and_comm b (f q)))

pub piece-seq : (world : ℕ) (f g : Written) (b : ℕ) → in_turn (fragment_of world f b) (fragment_of world g (b + positions f)) ≡ fragment_of world (seq f g) b
unfolding in_turn fragment_of positions null first last
piece-seq world f g b =
    let n = b + positions f in
    cc (
      also-after (null (world_of world) f) (first (world_of world) f b) (first (world_of world) g n),
      also-before (null (world_of world) g) (last (world_of world) f b) (last (world_of world) g n),
    )

pub piece-alt : (world : ℕ) (f g : Written) (b : ℕ) → choice_of (fragment_of world f b) (fragment_of world g (b + positions f)) ≡ fragment_of world (alt f g) b
unfolding choice_of fragment_of positions null first last
piece-alt world f g b =
    let n = b + positions f in
    cc (
      union-set_of (first (world_of world) f b) (first (world_of world) g n),
      union-set_of (last (world_of world) f b) (last (world_of world) g n),
    )

pub piece-opt : (world : ℕ) (f : Written) (b : ℕ) → optional_of (fragment_of world f b) ≡ fragment_of world (opt f) b
unfolding optional_of fragment_of positions null first last
piece-opt world f b = refl

pub piece-plus : (world : ℕ) (f : Written) (b : ℕ) → fragment_of world f b ≡ fragment_of world (plus f) b
unfolding fragment_of positions null first last
piece-plus world f b = refl

-- ---- forms without positions

module _ (f : Written) (bare : positions f ≡ 0) where
  no-first : (w : Assertion → Bool) (b q : ℕ) → first w f b q ≡ false
  no-first w b q = false-T (first w f b q) (λ h. omega (arith, first-inside w f b q ((first-T w f b q).0 h)))

  no_last : (w : Assertion → Bool) (b q : ℕ) → last w f b q ≡ false
  no_last w b q = false-T (last w f b q) (λ h. omega (arith, last-inside w f b q ((last-T w f b q).0 h)))

  pub no-follow : (w : Assertion → Bool) (b p q : ℕ) → follow w f b p q ≡ false
  no-follow w b p q = false-T (follow w f b p q) (λ h. omega (arith, follow-inside w f b p q ((follow-T w f b p q).0 h)))

  pub no_items : items f ≡ []
  no_items = go (items f) (items-length f ∙ bare)
    where
      go : (l : List ByteSet) → length l ≡ 0 → l ≡ []
      go [] e = refl
      go (x ∷ l) e = absurd (omega arith)

  piece-bare : (world b : ℕ) → fragment_of world f b ≡ bare_of (null (world_of world) f)
  unfolding fragment_of bare_of empty_set
  piece-bare world b =
      cc (
        bare,
        set_of-ext (first (world_of world) f b) (λ q. false) (λ q h. no-first (world_of world) b q),
        set_of-ext (last (world_of world) f b) (λ q. false) (λ q h. no_last (world_of world) b q),
      )

-- ---- repeats of a tree without positions

module _ (t : Syntax) (bare : positions (write t) ≡ 0) where
  pub repeated-bare : (n : ℕ) (j : Extra) → positions (repeated (write t) n j) ≡ 0
  unfolding write exact
  repeated-bare n j = counted (repeat t n j) ∙ ap (λ (m : ℕ). copied n j * m) (sym (counted t) ∙ bare) ∙ mul-zero (copied n j)

  pub piece-repeated : (world n : ℕ) (j : Extra) (b : ℕ) → fragment_of world (write t) b ≡ fragment_of world (repeated (write t) (suc n) j) b
  piece-repeated world n j b =
      piece-bare (write t) bare world b
      ∙ ap bare_of (sym (repeated-null (world_of world) (write t) n j))
      ∙ sym (piece-bare (repeated (write t) (suc n) j) (repeated-bare (suc n) j) world b)

  pub piece-nested : (world j b : ℕ) → optional_of (fragment_of world (write t) b) ≡ fragment_of world (optionals j (write t)) b
  unfolding optional_of repeated copies bare_of
  piece-nested world j b =
      ap optional_of (piece-bare (write t) bare world b)
      ∙ cc (repeated-none (world_of world) (write t) (at_most j))
      ∙ sym (piece-bare (repeated (write t) 0 (at_most j)) (repeated-bare 0 (at_most j)) world b)
