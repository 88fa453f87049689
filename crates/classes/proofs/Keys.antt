-- What an arm of a match knows, by the atoms that it takes: all but those of the arms before it.
use mathlib.Core.Path.{◌≡◌, refl}
use mathlib.Core.Bool.{true, false}
use mathlib.Core.List.{List, [], ◌∷◌}
use Prim.Native.Nat.{ℕ}
use types.Run.{OneOf, miss}
use denote.Enum.Declared.{tag_of}
use Rattle.atoms.specs.contracts.Atom as atom
use Rattle.atoms.specs.declared.Atom.{Atom}
use Rattle.atoms.specs.declared.Atom.TheVariants.{Byte, OfKind, NotOfKind, Dot, NotNewline, Start, LastLine, End, Caret, Dollar, WordEdge, NoWordEdge}
use Rattle.classes.specs.Class.{is_type, byte_of, joined}

abbrev Among : List ℕ → Atom → Type 0
Among keys a = OneOf keys (tag_of atom.the_type a)

-- all but bytes and types: no member stands for these
pub joined-other : (set : List ℕ) (a high : Atom) → Among (3 ∷ 4 ∷ 5 ∷ 6 ∷ 7 ∷ 8 ∷ 9 ∷ 10 ∷ 11 ∷ []) a → set ≡ joined set a high
unfolding joined
joined-other set (Byte b) high h = absurd (miss (3 ∷ 4 ∷ 5 ∷ 6 ∷ 7 ∷ 8 ∷ 9 ∷ 10 ∷ 11 ∷ []) 0 tt h)
joined-other set (OfKind k) high h = absurd (miss (3 ∷ 4 ∷ 5 ∷ 6 ∷ 7 ∷ 8 ∷ 9 ∷ 10 ∷ 11 ∷ []) 1 tt h)
joined-other set (NotOfKind k) high h = absurd (miss (3 ∷ 4 ∷ 5 ∷ 6 ∷ 7 ∷ 8 ∷ 9 ∷ 10 ∷ 11 ∷ []) 2 tt h)
joined-other set Dot high h = refl
joined-other set NotNewline high h = refl
joined-other set Start high h = refl
joined-other set LastLine high h = refl
joined-other set End high h = refl
joined-other set Caret high h = refl
joined-other set Dollar high h = refl
joined-other set WordEdge high h = refl
joined-other set NoWordEdge high h = refl

-- the types, and all others
pub type-is : (a : Atom) → Among (1 ∷ 2 ∷ []) a → true ≡ is_type a
type-is (Byte b) h = absurd (miss (1 ∷ 2 ∷ []) 0 tt h)
type-is (OfKind k) h = refl
type-is (NotOfKind k) h = refl
type-is Dot h = absurd (miss (1 ∷ 2 ∷ []) 3 tt h)
type-is NotNewline h = absurd (miss (1 ∷ 2 ∷ []) 4 tt h)
type-is Start h = absurd (miss (1 ∷ 2 ∷ []) 5 tt h)
type-is LastLine h = absurd (miss (1 ∷ 2 ∷ []) 6 tt h)
type-is End h = absurd (miss (1 ∷ 2 ∷ []) 7 tt h)
type-is Caret h = absurd (miss (1 ∷ 2 ∷ []) 8 tt h)
type-is Dollar h = absurd (miss (1 ∷ 2 ∷ []) 9 tt h)
type-is WordEdge h = absurd (miss (1 ∷ 2 ∷ []) 10 tt h)
type-is NoWordEdge h = absurd (miss (1 ∷ 2 ∷ []) 11 tt h)

pub no-type-is : (a : Atom) → Among (0 ∷ 3 ∷ 4 ∷ 5 ∷ 6 ∷ 7 ∷ 8 ∷ 9 ∷ 10 ∷ 11 ∷ []) a → false ≡ is_type a
no-type-is (Byte b) h = refl
no-type-is (OfKind k) h = absurd (miss (0 ∷ 3 ∷ 4 ∷ 5 ∷ 6 ∷ 7 ∷ 8 ∷ 9 ∷ 10 ∷ 11 ∷ []) 1 tt h)
no-type-is (NotOfKind k) h = absurd (miss (0 ∷ 3 ∷ 4 ∷ 5 ∷ 6 ∷ 7 ∷ 8 ∷ 9 ∷ 10 ∷ 11 ∷ []) 2 tt h)
no-type-is Dot h = refl
no-type-is NotNewline h = refl
no-type-is Start h = refl
no-type-is LastLine h = refl
no-type-is End h = refl
no-type-is Caret h = refl
no-type-is Dollar h = refl
no-type-is WordEdge h = refl
no-type-is NoWordEdge h = refl

-- all but bytes
pub no-byte-is : (a : Atom) → Among (1 ∷ 2 ∷ 3 ∷ 4 ∷ 5 ∷ 6 ∷ 7 ∷ 8 ∷ 9 ∷ 10 ∷ 11 ∷ []) a → 0 ≡ byte_of a
no-byte-is (Byte b) h = absurd (miss (1 ∷ 2 ∷ 3 ∷ 4 ∷ 5 ∷ 6 ∷ 7 ∷ 8 ∷ 9 ∷ 10 ∷ 11 ∷ []) 0 tt h)
no-byte-is (OfKind k) h = refl
no-byte-is (NotOfKind k) h = refl
no-byte-is Dot h = refl
no-byte-is NotNewline h = refl
no-byte-is Start h = refl
no-byte-is LastLine h = refl
no-byte-is End h = refl
no-byte-is Caret h = refl
no-byte-is Dollar h = refl
no-byte-is WordEdge h = refl
no-byte-is NoWordEdge h = refl
