-- Classes by name, `[:alpha:]` and `[:^alpha:]`. Assumes nothing: these are definitions.
use Rattle.std.specs.Prelude.{Bool, true, false, cond, not, ◌&&◌, List, [], ◌∷◌, ◌++◌, ℕ, ◌+◌, eqb, length, get_or, drop}
use Prim.Native.Char.{code}
use Prim.Native.String.{String}
use Rattle.kinds.specs.Kind.{is_kind}
use Rattle.kinds.specs.Case.{uncased}
use Rattle.kinds.specs.declared.Kind.{Kind}
use Rattle.kinds.specs.declared.Kind.TheVariants.{Digit, Word, Space, Alpha, Lower, Upper, Alnum, Ascii, Blank, Cntrl, Graph, Print, Punct, Xdigit}
use Rattle.atoms.specs.declared.Atom.{Atom}
use Rattle.atoms.specs.declared.Atom.TheVariants.{OfKind, NotOfKind}
use Rattle.atoms.specs.Escape.{Part}
use Rattle.atoms.specs.Escape.{good, bad}

-- the bytes of a text: each character is the byte of its code, so `é` is 233
unfoldable pub bytes : String → List ℕ
bytes Prim.Native.String.[] = []
bytes (Prim.Native.String.◌∷◌ c text) = code c ∷ bytes text

-- a name with the `:]` that closes it, as it stands in a class after `[:`; and the kind of its
-- bytes
pub record Name : Type 0 where
  pub text : List ℕ
  pub kind : Kind

abbrev pub name : String → Kind → Name
name text kind = record { text = bytes text ++ bytes ":]"; kind = kind }

-- "all fourteen PCRE2 names"
unfoldable pub names : List Name
names =
    name "alpha" Alpha
    ∷ name "lower" Lower
    ∷ name "upper" Upper
    ∷ name "alnum" Alnum
    ∷ name "ascii" Ascii
    ∷ name "blank" Blank
    ∷ name "cntrl" Cntrl
    ∷ name "digit" Digit
    ∷ name "graph" Graph
    ∷ name "print" Print
    ∷ name "punct" Punct
    ∷ name "space" Space
    ∷ name "word" Word
    ∷ name "xdigit" Xdigit
    ∷ []

-- v begins with these bytes
unfoldable pub begins : List ℕ → List ℕ → Bool
begins [] v = true
begins (b ∷ bs) [] = false
begins (b ∷ bs) (c ∷ v) = eqb b c && begins bs v

-- "plain and negated"; "Under caseless, upper and lower read as alpha before their own negation."
unfoldable pub named : (caseless negated : Bool) → Kind → Atom
named caseless negated k =
    let read : Kind = cond caseless (uncased k) k in
    cond negated (NotOfKind read) (OfKind read)

-- The name of the list that v begins with, after `lead` bytes; "An unknown name .. stay 14".
unfoldable pub name_among : List Name → (caseless negated : Bool) (lead : ℕ) → List ℕ → Part
name_among [] caseless negated lead v = bad 14 2
name_among (n ∷ ns) caseless negated lead v =
    cond (begins n.text v) (good (lead + length n.text) (named caseless negated n.kind)) (name_among ns caseless negated lead v)

-- a class by name: v is what follows `[:`
unfoldable pub name_of : Bool → List ℕ → Part
name_of caseless v = cond (eqb (get_or v 0 0) 94) (name_among names caseless true 3 (drop 1 v)) (name_among names caseless false 2 v)

-- name number i; past the last, the last
unfoldable pub name_at : ℕ → Name
name_at i = get_or names i (name "xdigit" Xdigit)

-- ---- "One rule over the whole name table": a class of one name has the bytes of its kind, or all
-- others

-- a class of this name alone, after its `[`
abbrev pub class_text : (negated : Bool) → Name → List ℕ
class_text true n = 91 ∷ 58 ∷ 94 ∷ (n.text ++ (93 ∷ []))
class_text false n = 91 ∷ 58 ∷ (n.text ++ (93 ∷ []))

-- the bytes that a name stands for
abbrev pub named_byte : (caseless negated : Bool) → Kind → ℕ → Bool
named_byte caseless negated k b =
    let is : Bool = is_kind (cond caseless (uncased k) k) b in
    cond negated (not is) is
