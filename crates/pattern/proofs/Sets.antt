-- The sets of items: four 64-bit words each, since every operation makes its result by `set_of`; and
-- where a class ends, by induction on the bytes after its bracket. Assumes nothing.
use mathlib.Core.Path.{◌≡◌}
use mathlib.Core.Bool.{Bool, true, false, cond, not, ◌&&◌, ◌||◌, and-eq-true_iff}
use mathlib.Core.List.{List, [], ◌∷◌}
use Prim.Native.Nat.{ℕ, zero, suc, pred, ◌+◌, ◌≤◌, ◌<◌}
use native.Mathlib.Omega.{arith}
use borrow.Author.Tests.{eqb-true, eqb-false}
use lib.Dec.{eqb}
use lib.ListN.{length, get_or, drop, length-drop}
use Rattle.sets.specs.Set.{empty_set, full_set, inserted, inserted_range, union_of, complement_of}
use Rattle.sets.proofs.Laws.{Words, words-set_of}
use Rattle.kinds.specs.Case.{case_closed}
use Rattle.atoms.specs.declared.Atom.{Atom}
use Rattle.atoms.specs.declared.Atom.TheVariants.{Byte, OfKind, NotOfKind, Dot, NotNewline, Start, LastLine, End, Caret, Dollar, WordEdge, NoWordEdge}
use Rattle.classes.specs.Class.{Class}
use Rattle.atoms.specs.declared.Gap.{Gap}
use Rattle.classes.specs.Class.{Member}
use Rattle.tokens.specs.declared.Options.{Options}
use Rattle.classes.specs.Class.{member_at, joined, settled, members_of, class_of}
use Rattle.atoms.specs.Quote.{is_mark, opens_quote, gap_of}
use Rattle.tokens.specs.Token.{item_set}
use Rattle.atoms.proofs.Suffixes.{inside}
use Rattle.pattern.proofs.Base.{either}

words-cond : (b : Bool) (s t : List ℕ) → Words s → Words t → Words (cond b s t)
words-cond true s t v w = v
words-cond false s t v w = w

words-empty : Words empty_set
unfolding empty_set
words-empty = words-set_of _

words-inserted : (s : List ℕ) (b : ℕ) → Words (inserted s b)
unfolding inserted
words-inserted s b = words-set_of _

words-closed : (s : List ℕ) → Words (case_closed s)
unfolding case_closed
words-closed s = words-set_of _

words-complement : (s : List ℕ) → Words (complement_of s)
unfolding complement_of
words-complement s = words-set_of _

pub words-item : (o : Options) (a : Atom) → Words (item_set o a)
unfolding item_set full_set
words-item o (Byte b) = words-cond o.caseless _ _ (words-closed _) (words-inserted _ _)
words-item o (OfKind k) = words-set_of _
words-item o (NotOfKind k) = words-set_of _
words-item o Dot = words-cond o.dotall _ _ (words-set_of _) (words-complement _)
words-item o NotNewline = words-complement _
words-item o Start = words-empty
words-item o LastLine = words-empty
words-item o End = words-empty
words-item o Caret = words-empty
words-item o Dollar = words-empty
words-item o WordEdge = words-empty
words-item o NoWordEdge = words-empty

words-joined : (s : List ℕ) (lo hi : Atom) → Words s → Words (joined s lo hi)
unfolding joined inserted_range union_of
words-joined s (Byte b) hi w = words-set_of _
words-joined s (OfKind k) hi w = words-set_of _
words-joined s (NotOfKind k) hi w = words-set_of _
words-joined s Dot hi w = w
words-joined s NotNewline hi w = w
words-joined s Start hi w = w
words-joined s LastLine hi w = w
words-joined s End hi w = w
words-joined s Caret hi w = w
words-joined s Dollar hi w = w
words-joined s WordEdge hi w = w
words-joined s NoWordEdge hi w = w

words-settled : (caseless negated : Bool) (s : List ℕ) → Words s → Words (settled caseless negated s)
unfolding settled
words-settled caseless negated s w = words-cond negated _ _ (words-complement _) (words-cond caseless _ _ (words-closed s) w)

-- a class that is read ends after its bracket and inside the pattern
pub record Closed (v : List ℕ) (at : ℕ) (c : Class) : Type 0 where
  pub on : at < c.place
  pub inside : c.place ≤ at + length v
  pub words : Words c.set

later : (c : ℕ) (v : List ℕ) (at : ℕ) (d : Class) → Closed v (at + 1) d → Closed (c ∷ v) at d
later c v at d r = record { on = omega (arith, r.on); inside = omega (arith, r.inside); words = r.words }

-- a class that has no number, or is read
abbrev Reads : List ℕ → ℕ → Class → Type 0
Reads v at d = d.number ≡ 0 → Closed v at d

members-closed : (caseless negated first quoted : Bool) (s : List ℕ) (skip : ℕ) (v : List ℕ) (at : ℕ) → Words s → Reads v at (members_of caseless negated first quoted s skip v at)
unfolding members_of
members-closed caseless negated first quoted s skip [] at w = λ e. absurd (omega arith)
members-closed caseless negated first quoted s (suc k) (c ∷ v) at w = λ e. later c v at _ (members-closed caseless negated first quoted s k v (at + 1) w e)
members-closed caseless negated first quoted s zero (c ∷ v) at w =
    let m : Member = member_at caseless quoted (c ∷ v) in
    let t : List ℕ = joined s m.low m.high in
    either (Reads (c ∷ v) at) (is_mark quoted c (get_or v 0 0))
    (λ d e. later c v at _ (members-closed caseless negated first (opens_quote (get_or v 0 0)) s 1 v (at + 1) w e))
    (λ d. either (Reads (c ∷ v) at) (eqb c 93 && not (first || quoted))
    (λ e z. record { on = omega arith; inside = omega arith; words = words-settled caseless negated s w })
    (λ e. either (Reads (c ∷ v) at) (eqb m.fault 0)
    (λ f z. later c v at _ (members-closed caseless negated false m.quoted t (pred m.size) v (at + 1) (words-joined s m.low m.high w) z))
    (λ f z. absurd (eqb-false m.fault 0 f z))))

pub class-closed : (caseless : Bool) (v : List ℕ) (at : ℕ) → Reads v at (class_of caseless v at)
unfolding class_of
class-closed caseless v at =
    let g : Gap = gap_of false v in
    let n : ℕ = g.size + 1 in
    either (Reads v at) (eqb (get_or v g.size 0) 94 && not g.quoted)
    (λ e.
    let b = eqb-true (get_or v g.size 0) 94 ((and-eq-true_iff (eqb (get_or v g.size 0) 94) (not g.quoted)).0 e).0 in
    let l : g.size < length v = inside v g.size (λ z. omega arith) in
    λ z.
    let r = members-closed caseless true true false empty_set 0 (drop n v) (at + n) words-empty z in
    record { on = omega (arith, r.on); inside = omega (arith, r.inside, length-drop n v); words = r.words })
    (λ e. members-closed caseless false true false empty_set 0 v at words-empty)
