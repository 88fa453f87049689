-- What the functions promise one another, and what they ask. No public contract of the matcher
-- cites it.
use Rattle.std.specs.Prelude.{◌≡◌, ◌⊎◌, Bool, cond, not, ◌&&◌, List, [], ◌∷◌, ℕ, suc, ◌+◌, ◌*◌, ◌-◌, min, ◌≤◌, ◌<◌, eqb, length, get_or, set}
use Rattle.std.specs.Int.Bits.{bit_and, bit_or}
use Rattle.std.proofs.lemmas.List.Edits.{sets}
use Rattle.sets.specs.Set.{on, has}
use Rattle.meaning.specs.Form.{positions}
use Rattle.meaning.specs.Rule.{Assertion, ByteSet}
use Rattle.meaning.specs.Automaton.{null}
use Rattle.nodes.specs.Invariants.{Written, form_at, set_at}
use Rattle.marks.specs.Marks.{none, when, ends, moved}
use Rattle.marks.specs.Gaps.{inner_world, outer_world, taken}
use Rattle.marks.specs.Parts.{world_of, all, Doors, Part, one, then, or, size_of, last_of, core_p, ends_p, moved_p}
use Rattle.marks.specs.declared.byte.Ends.{Ends}
use Rattle.marks.specs.declared.write_out.Piece.{Piece}
use Rattle.marks.specs.declared.parts.Kind.{Kind}
use Rattle.marks.specs.declared.parts.Kind.TheVariants.{Item, Then, Or}

-- ---- gaps

-- gap g is one at which the assertions of w hold
pub record Shows (g : ℕ) (w : Assertion → Bool) : Type 0 where
  pub low : g < 24
  pub same : world_of g ≡ w

-- ---- what a part says of a form

-- the sets that have a byte, and the items whose sets do
abbrev pub has_byte : ℕ → ByteSet → Bool
has_byte x c = has c x

abbrev pub hits_of : List ℕ → ℕ → ℕ → Bool
hits_of a x k = has (set_at a k) x

-- a mask has the gaps at which a form can be passed without a byte
abbrev pub Passes : ℕ → Written → Type 0
Passes mask f = (g : ℕ) → g < 24 → on mask g ≡ null (world_of g) f

-- the part does to the marks what the form does, at every gap
pub record Says (a : List ℕ) (p : Part) (f : Written) : Type 0 where
  pub size : size_of p ≡ positions f
  pub ends : (g : ℕ) → g < 24 → (b : ℕ) (ms : List ℕ) → ends_p g p b ms ≡ ends (world_of g) f b ms
  pub moved : (g : ℕ) → g < 24 → (x b i : ℕ) (ms : List ℕ) → i ≤ none
      → moved_p g (hits_of a x) p b i ms ms ≡ moved (world_of g) (has_byte x) f b i ms

-- ---- rows

-- the words of row j
abbrev pub at : List ℕ → (j i : ℕ) → ℕ
at ps j i = get_or ps (j * 8 + i) 0

pub record Row (ps : List ℕ) (j what x y : ℕ) (d : Doors) : Type 0 where
  pub is : at ps j 0 ≡ what
  pub first : at ps j 1 ≡ x
  pub second : at ps j 2 ≡ y
  pub front : at ps j 5 ≡ d.front
  pub back : at ps j 6 ≡ d.back
  pub round : at ps j 7 ≡ d.round

-- what row j says, and the words that say it, the doors open but the way round
abbrev pub kind_in : List ℕ → ℕ → Kind
kind_in ps j =
    cond (eqb (at ps j 0) 0) (Item (at ps j 1) (at ps j 2))
    (cond (eqb (at ps j 0) 1) (Then (at ps j 3) (at ps j 4) (at ps j 1) (at ps j 2))
    (Or (at ps j 3) (at ps j 4)))

abbrev pub words_of : Kind → List ℕ
words_of (Item node position) = 0 ∷ node ∷ position ∷ 0 ∷ 0 ∷ all ∷ all ∷ 0 ∷ []
words_of (Then left right x y) = 1 ∷ x ∷ y ∷ left ∷ right ∷ all ∷ all ∷ 0 ∷ []
words_of (Or left right) = 2 ∷ 0 ∷ 0 ∷ left ∷ right ∷ all ∷ all ∷ 0 ∷ []

-- the part stands in the rows from n on, its positions numbered from b on
unfoldable pub Laid : List ℕ → (n b : ℕ) → Part → Type 0
Laid ps n b (one d k) = Row ps n 0 k b d
Laid ps n b (then d l r x y) =
    Row ps (n + (suc (last_of x) + suc (last_of y))) 1 l r d
    × (at ps (n + (suc (last_of x) + suc (last_of y))) 3 ≡ n + last_of x)
    × (at ps (n + (suc (last_of x) + suc (last_of y))) 4 ≡ n + suc (last_of x) + last_of y)
    × Laid ps n b x
    × Laid ps (n + suc (last_of x)) (b + size_of x) y
Laid ps n b (or d x y) =
    Row ps (n + (suc (last_of x) + suc (last_of y))) 2 0 0 d
    × (at ps (n + (suc (last_of x) + suc (last_of y))) 3 ≡ n + last_of x)
    × (at ps (n + (suc (last_of x) + suc (last_of y))) 4 ≡ n + suc (last_of x) + last_of y)
    × Laid ps n b x
    × Laid ps (n + suc (last_of x)) (b + size_of x) y

-- how many rows so many positions have
abbrev pub rows_of : ℕ → ℕ
rows_of size = cond (eqb size 0) 0 (2 * size - 1)

-- there is room for the positions from b on and for the rows from n on
pub record Room (f : Written) (b n : ℕ) (ps : List ℕ) : Type 0 where
  pub positions : b + positions f ≤ 256
  pub rows : n ≤ 2 * b
  pub words : length ps ≡ 4096

-- rows outside those from n on, as many as the size has, are as they were
abbrev pub Kept : List ℕ → List ℕ → (n size : ℕ) → Type 0
Kept ps qs n size =
    (q : ℕ) → (q < n * 8) ⊎ ((n + rows_of size) * 8 ≤ q) → get_or qs q 0 ≡ get_or ps q 0

-- the form is written out from row n on
pub record Made (a : List ℕ) (f : Written) (b n : ℕ) (ps qs : List ℕ) (r : Piece) : Type 0 where
  pub size : r.size ≡ positions f
  pub null : Passes r.null f
  pub length : length qs ≡ length ps
  pub kept : Kept ps qs n r.size
  pub part : 0 < r.size → (p : Part) × Says a p f × Laid qs n b p

-- two pieces behind each other
pub record Joined (f g : Piece) (n : ℕ) : Type 0 where
  pub size : f.size + g.size ≤ 256
  pub rows : n + 2 * (f.size + g.size) ≤ 512

abbrev pub open_if : Bool → ℕ → ℕ
open_if b mask = cond b all mask

abbrev pub narrowed : List ℕ → (j i mask : ℕ) → List ℕ
narrowed ps j i mask = set ps (j * 8 + i) (bit_and (at ps j i) mask)

abbrev pub widened : List ℕ → ℕ → List ℕ
widened ps j = set ps (j * 8 + 7) (bit_or (at ps j 7) (bit_and (at ps j 5) (at ps j 6)))

abbrev pub placed : List ℕ → (j what x y left right : ℕ) → List ℕ
placed ps j what x y left right =
    sets ps (j * 8) (what ∷ x ∷ y ∷ left ∷ right ∷ all ∷ all ∷ 0 ∷ [])

abbrev pub seq_piece : Piece → Piece → Piece
seq_piece f g = record { size = f.size + g.size; null = bit_and f.null g.null }

abbrev pub seq_rows : Piece → Piece → (n : ℕ) → List ℕ → List ℕ
seq_rows f g n ps =
    cond (eqb f.size 0)
    (cond (eqb g.size 0) ps (narrowed ps (n + rows_of g.size - 1) 5 f.null))
    (cond (eqb g.size 0) (narrowed ps (n + rows_of f.size - 1) 6 g.null)
    (placed ps (n + rows_of f.size + rows_of g.size) 1 f.null g.null
    (n + rows_of f.size - 1) (n + rows_of f.size + rows_of g.size - 1)))

abbrev pub alt_piece : Piece → Piece → Piece
alt_piece f g = record { size = f.size + g.size; null = bit_or f.null g.null }

abbrev pub alt_rows : Piece → Piece → (n : ℕ) → List ℕ → List ℕ
alt_rows f g n ps =
    cond (not (eqb f.size 0) && not (eqb g.size 0))
    (placed ps (n + rows_of f.size + rows_of g.size) 2 0 0
    (n + rows_of f.size - 1) (n + rows_of f.size + rows_of g.size - 1))
    ps

-- the whole rule is written out
pub record Plays (a : List ℕ) (root : ℕ) (ps : List ℕ) (rows : ℕ) : Type 0 where
  pub low : rows < 512
  pub bare : rows ≡ 0 → positions (form_at a root) ≡ 0
  pub part : 0 < rows → (p : Part) × Says a p (form_at a root) × Laid ps 0 0 p × (rows ≡ suc (last_of p))

pub record Wrote (a : List ℕ) (root : ℕ) (ps : List ℕ) (rows : ℕ) : Type 0 where
  pub words : length ps ≡ 4096
  pub plays : positions (form_at a root) ≤ 256 → Plays a root ps rows

-- ---- a gap

-- what can end in row j, from what can end in those below
abbrev pub core_word : List ℕ → (j g : ℕ) → (ms es : List ℕ) → ℕ
core_word ps j g ms es =
    cond (eqb (at ps j 0) 0) (min (get_or ms (at ps j 2) 0) none)
    (cond (eqb (at ps j 0) 1)
    (min (when (on (at ps j 2) g) (get_or es (at ps j 3) 0)) (get_or es (at ps j 4) 0))
    (min (get_or es (at ps j 3) 0) (get_or es (at ps j 4) 0)))

-- what can end in the parts of the first n rows
unfoldable pub Looked : List ℕ → (n g : ℕ) → (ms cs es : List ℕ) → Type 0
Looked ps n g ms cs es =
    (p : Part) (k b : ℕ) → Laid ps k b p → k + last_of p < n
    → (get_or cs (k + last_of p) 0 ≡ core_p g p b ms) × (get_or es (k + last_of p) 0 ≡ ends_p g p b ms)

pub record Looks (ps : List ℕ) (n g : ℕ) (ms cs cs' es es' : List ℕ) : Type 0 where
  pub cores : length cs' ≡ length cs
  pub ends : length es' ≡ length es
  pub looked : length cs ≡ 512 → length es ≡ 512 → Looked ps n g ms cs' es'

abbrev pub top_of : ℕ → List ℕ → ℕ
top_of rows es = cond (eqb rows 0) none (get_or es (rows - 1) 0)

-- what comes to the inside of row j, and what that hands to the rows of its parts
abbrev pub entered_at : List ℕ → (j g : ℕ) → (cs is : List ℕ) → ℕ
entered_at ps j g cs is = min (when (on (at ps j 5) g) (get_or is j 0)) (when (on (at ps j 7) g) (get_or cs j 0))

abbrev pub handed_down : List ℕ → (j g : ℕ) → (es is : List ℕ) → ℕ → List ℕ
handed_down ps j g es is i =
    set (set is (at ps j 3) i) (at ps j 4)
    (cond (eqb (at ps j 0) 1) (min (when (on (at ps j 1) g) i) (get_or es (at ps j 3) 0)) i)

-- one row
pub record Turned (a ps : List ℕ) (j g x : ℕ) (cs es ms ns is us : List ℕ) : Type 0 where
  pub marks : ns ≡ cond (eqb (at ps j 0) 0) (set ms (at ps j 2) (when (hits_of a x (at ps j 1)) (entered_at ps j g cs is))) ms
  pub comes : us ≡ cond (eqb (at ps j 0) 0) is (handed_down ps j g es is (entered_at ps j g cs is))

pub record Moving (ps : List ℕ) (n g : ℕ) (ms cs es : List ℕ) : Type 0 where
  pub low : n < 512
  pub gap : g < 24
  pub looked : Looked ps n g ms cs es

abbrev pub Moved : (a ps : List ℕ) (n g x : ℕ) (ms ns : List ℕ) (i : ℕ) → Type 0
Moved a ps n g x ms ns i =
    (n ≡ 0 → ns ≡ ms)
    × ((p : Part) → Laid ps 0 0 p → n ≡ suc (last_of p) → ns ≡ moved_p g (hits_of a x) p 0 i ms ms)

-- ---- a log

-- the rule is written out, and the log has the byte at offset k and is not too long
abbrev pub Taking : (a : List ℕ) (root : ℕ) (ps : List ℕ) (rows : ℕ) (bytes : List ℕ) (k : ℕ) → Type 0
Taking a root ps rows bytes k = Plays a root ps rows × (k < length bytes) × (length bytes ≤ 1024)

-- what the byte at offset k brings; `last` says that the log is known to end with it
pub record Took (f : Written) (bytes : List ℕ) (k : ℕ) (last : Bool) (ms ns : List ℕ) (r : Ends) : Type 0 where
  pub late : r.late ≡ ends (inner_world bytes last k) f 0 ms
  pub marks : ns ≡ moved (inner_world bytes last k) (taken bytes k) f 0 k ms
  pub own : r.own ≡ ends (outer_world bytes last k) f 0 ns
