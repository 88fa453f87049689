-- What is known at a gap between two bytes, and the text of some bytes. Assumes nothing: these are
-- definitions.
use Rattle.std.specs.Prelude.{Bool, true, false, cond, ◌&&◌, List, [], ◌∷◌, ℕ, eqb, ltb, length, get_or, take, drop}
use Rattle.kinds.specs.declared.Side.{Side}
use Rattle.kinds.specs.Side.{side_of}
use Rattle.meaning.specs.Tree.{Text}

-- the bytes before the gap, the bytes known after it, and whether the stream is known to end after
-- those
pub record Gap : Type 0 where
  pub before : List ℕ
  pub after : List ℕ
  pub ended : Bool

-- The gap before offset k of these bytes. Only k up to their number matter: a match with a byte in
-- it lies between offset 0 and the length.
abbrev pub gap : List ℕ → Bool → ℕ → Gap
gap bytes ended k = record { before = take k bytes; after = drop k bytes; ended = ended }

-- the text of these bytes, where `has c x` says that set c has byte x, and `holds a g` that
-- assertion a is known to hold at gap g
abbrev pub text : {C A : Type 0} → (C → ℕ → Bool) → (A → Gap → Bool) → List ℕ → Bool → Text C A
text has holds bytes ended = record {
  hit = λ c k. ltb k (length bytes) && has c (get_or bytes k 0);
  known = λ a k. holds a (gap bytes ended k);
}

-- there are no bytes here, or a newline alone
abbrev pub last_line : List ℕ → Bool
last_line [] = true
last_line (x ∷ []) = eqb x 10
last_line (x ∷ y ∷ l) = false

-- What is known of one side of a gap: the byte there, the stream's start or end, or nothing yet.
pub data Known : Type 0 where
  byte : Side → Known
  edge : Known
  unknown : Known

-- the side before a gap: the last of the bytes before it, or the stream's start
unfoldable pub known_before : List ℕ → Known
known_before [] = edge
known_before (x ∷ []) = byte (side_of x)
known_before (x ∷ y ∷ l) = known_before (y ∷ l)

-- the side after it: the first of the bytes after it, or the stream's end once it has ended
abbrev pub known_after : List ℕ → Bool → Known
known_after [] ended = cond ended edge unknown
known_after (x ∷ l) ended = byte (side_of x)
