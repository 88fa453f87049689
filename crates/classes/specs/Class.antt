-- Classes: members, ranges, and the whole class. Assumes nothing: these are definitions.
use Rattle.std.specs.Prelude.{Bool, true, false, cond, not, ◌&&◌, ◌||◌, List, [], ◌∷◌, ℕ, zero, suc, pred, ◌+◌, eqb, ltb, length, get_or, drop}
use Rattle.sets.specs.Set.{set_of, empty_set, inserted_range, union_of, complement_of}
use Rattle.kinds.specs.Kind.{is_kind, is_not_kind}
use Rattle.kinds.specs.Case.{case_closed}
use Rattle.atoms.specs.declared.Atom.{Atom}
use Rattle.atoms.specs.declared.Atom.TheVariants.{Byte, OfKind, NotOfKind, Dot, NotNewline, Start, LastLine, End, Caret, Dollar, WordEdge, NoWordEdge}
use Rattle.atoms.specs.Escape.{Part}
use Rattle.atoms.specs.declared.Gap.{Gap}
use Rattle.atoms.specs.Fault.{lower}
use Rattle.atoms.specs.Raw.{with_raw}
use Rattle.atoms.specs.Escape.{good, bad, escape_of}
use Rattle.atoms.specs.Quote.{is_mark, opens_quote, gap_of}
use Rattle.classes.specs.Name.{name_of}

-- What `[` begins in a class, with v after it: a class by name after `[:`, "`[.` and `[=` stay 14",
-- else a byte that stands for itself.
unfoldable pub bracket_of : Bool → List ℕ → Part
bracket_of caseless v =
    cond (eqb (get_or v 0 0) 58) (name_of caseless (drop 1 v))
    (cond (eqb (get_or v 0 0) 46 || eqb (get_or v 0 0) 61) (bad 14 2)
    (good 1 (Byte 91)))

-- The member at the front of v, or an end of a range: in a quote a byte that stands for itself;
-- else an escape, a class by name, or such a byte. (At the pattern's end there is none: nothing
-- asks.)
unfoldable pub member_of : (caseless quoted : Bool) → List ℕ → Part
member_of caseless quoted [] = bad 6 0
member_of caseless quoted (c ∷ v) =
    cond quoted (good 1 (Byte c))
    (cond (eqb c 92) (escape_of true v)
    (cond (eqb c 91) (bracket_of caseless v)
    (good 1 (Byte c))))

-- "a type such as `\d`"
abbrev pub is_type : Atom → Bool
is_type (Byte b) = false
is_type (OfKind k) = true
is_type (NotOfKind k) = true
is_type Dot = false
is_type NotNewline = false
is_type Start = false
is_type LastLine = false
is_type End = false
is_type Caret = false
is_type Dollar = false
is_type WordEdge = false
is_type NoWordEdge = false

-- the byte that an atom stands for, else 0
abbrev pub byte_of : Atom → ℕ
byte_of (Byte b) = b
byte_of (OfKind k) = 0
byte_of (NotOfKind k) = 0
byte_of Dot = 0
byte_of NotNewline = 0
byte_of Start = 0
byte_of LastLine = 0
byte_of End = 0
byte_of Caret = 0
byte_of Dollar = 0
byte_of WordEdge = 0
byte_of NoWordEdge = 0

-- 9, "range falling, or with a type such as `\d` at either end": the fault of the two ends as a
-- range. A faulty end is no type, and its byte is not compared.
unfoldable pub range_fault : Part → Part → ℕ
range_fault m n =
    cond (is_type m.atom || is_type n.atom) 9
    (cond (eqb m.fault 0 && (eqb n.fault 0 && ltb (byte_of n.atom) (byte_of m.atom))) 9 0)

-- What may join two members to a range, the hyphen and the marks around it: whether it does, the
-- bytes up to the second end, and whether that stands in a quote.
pub record Joint : Type 0 where
  pub is : Bool
  pub size : ℕ
  pub quoted : Bool

-- "Hyphen is literal first (or after `^`), last, or right after a range; any other hyphen makes a
-- range from the member before it, a literal hyphen included." Here v is what follows a member: a
-- hyphen, and then something other than `]`, make a range. A hyphen that is first, or right after a
-- range, follows no member: it is read as a member itself. Quotes' marks around the hyphen are as
-- not there; a quoted hyphen makes no range, and a quoted `]` is the end of one.
unfoldable pub joint_of : Bool → List ℕ → Joint
joint_of quoted v =
    let g : Gap = gap_of quoted v in
    let h : Gap = gap_of false (drop (g.size + 1) v) in
    let n : ℕ = g.size + (1 + h.size) in
    record {
      is = not g.quoted && (eqb (get_or v g.size 0) 45 && (ltb n (length v) && (h.quoted || not (eqb (get_or v n 0) 93))));
      size = n;
      quoted = h.quoted;
    }

-- A class member, or a range with both its ends: its lowest fault or 0, the bytes it takes, what it
-- adds, the bytes from low to high or a type, and whether a quote is open after it.
pub record Member : Type 0 where
  pub fault : ℕ
  pub size : ℕ
  pub low : Atom
  pub high : Atom
  pub quoted : Bool

-- a member by itself
abbrev pub as_member : Bool → Part → Member
as_member quoted m = record { fault = m.fault; size = m.size; low = m.atom; high = m.atom; quoted = quoted }

-- a range, its two ends and what joins them: the lowest of its faults
abbrev pub as_range : Part → Joint → Part → Member
as_range m j n = record {
  fault = lower m.fault (lower n.fault (range_fault m n));
  size = m.size + (j.size + n.size);
  low = m.atom;
  high = n.atom;
  quoted = j.quoted;
}

-- The member or range at the front of v: "a class member, a range with both its ends". A member
-- with fault 6 is all there is: it has no end after which a hyphen could stand, and no fault of a
-- second end would be lower.
unfoldable pub spelled_at : (caseless quoted : Bool) → List ℕ → Member
spelled_at caseless quoted v =
    let m : Part = member_of caseless quoted v in
    let j : Joint = joint_of quoted (drop m.size v) in
    cond (eqb m.fault 6) (as_member quoted m)
    (cond j.is (as_range m j (member_of caseless j.quoted (drop (m.size + j.size) v))) (as_member quoted m))

-- the same with the fault of a raw control byte in it
unfoldable pub member_at : (caseless quoted : Bool) → List ℕ → Member
member_at caseless quoted v =
    let m : Member = spelled_at caseless quoted v in
    record { fault = with_raw m.fault m.size v; size = m.size; low = m.low; high = m.high; quoted = m.quoted }

-- the set with what a member adds; a member is a byte or a type, so the other atoms do not occur
unfoldable pub joined : List ℕ → Atom → Atom → List ℕ
joined set (Byte lo) high = inserted_range set lo (byte_of high)
joined set (OfKind k) high = union_of set (set_of (is_kind k))
joined set (NotOfKind k) high = union_of set (set_of (is_not_kind k))
joined set Dot high = set
joined set NotNewline high = set
joined set Start high = set
joined set LastLine high = set
joined set End high = set
joined set Caret high = set
joined set Dollar high = set
joined set WordEdge high = set
joined set NoWordEdge high = set

-- a class: number 0, the place after its `]`, and its set; or the refusal's number and place
pub record Class : Type 0 where
  pub number : ℕ
  pub place : ℕ
  pub set : List ℕ

-- a refusal's number and place
abbrev pub refused_class : ℕ → ℕ → Class
refused_class number place = record { number = number; place = place; set = empty_set }

-- the place after the closing bracket, and the set
abbrev pub closed_class : ℕ → List ℕ → Class
closed_class place set = record { number = 0; place = place; set = set }

-- "Caseless adds the other case of each member before negation."
unfoldable pub settled : Bool → Bool → List ℕ → List ℕ
settled caseless negated set =
    let s : List ℕ = cond caseless (case_closed set) set in
    cond negated (complement_of s) s

-- The members from left to right: v the bytes from place `at` on, of which `skip` belong to a
-- member or a quote's mark that was read; `first` where no member was read yet, "A `]` first (or
-- after `^`) is literal"; `quoted` where a quote is open; `set` what was collected. 8, "class not
-- closed", has the pattern's length as its place.
unfoldable pub members_of : (caseless negated first quoted : Bool) (set : List ℕ) (skip : ℕ) (v : List ℕ) (at : ℕ) → Class
members_of caseless negated first quoted set skip [] at = refused_class 8 at
members_of caseless negated first quoted set (suc k) (c ∷ v) at = members_of caseless negated first quoted set k v (at + 1)
members_of caseless negated first quoted set zero (c ∷ v) at =
    let m : Member = member_at caseless quoted (c ∷ v) in
    let mark : Class = members_of caseless negated first (opens_quote (get_or v 0 0)) set 1 v (at + 1) in
    let rest : Class = members_of caseless negated false m.quoted (joined set m.low m.high) (pred m.size) v (at + 1) in
    cond (is_mark quoted c (get_or v 0 0)) mark
    (cond (eqb c 93 && not (first || quoted)) (closed_class (at + 1) (settled caseless negated set))
    (cond (eqb m.fault 0) rest (refused_class m.fault at)))

-- "Classes `[..]`, `[^..]`": v the bytes from place `at` on, after the `[`. Marks before the `^`
-- are "as not there".
unfoldable pub class_of : Bool → List ℕ → ℕ → Class
class_of caseless v at =
    let g : Gap = gap_of false v in
    let n : ℕ = g.size + 1 in
    cond (eqb (get_or v g.size 0) 94 && not g.quoted) (members_of caseless true true false empty_set 0 (drop n v) (at + n))
    (members_of caseless false true false empty_set 0 v at)
