-- Quotes: "`\Q..\E` inside and outside classes". Assumes nothing: these are definitions.
use Rattle.std.specs.Prelude.{Bool, cond, not, ◌&&◌, ◌||◌, List, [], ◌∷◌, ℕ, ◌+◌, eqb}
use Rattle.atoms.specs.declared.Gap.{Gap}

-- The two bytes that open or end a quote: `\Q` where none is open, and `\E`, which counts as a
-- comment where none is open.
unfoldable pub is_mark : (quoted : Bool) (c d : ℕ) → Bool
is_mark quoted c d = eqb c 92 && (eqb d 69 || (eqb d 81 && not quoted))

-- a quote is open after the mark whose second byte is d
abbrev pub opens_quote : ℕ → Bool
opens_quote d = eqb d 81

-- nothing but what follows, where a quote is open or not
abbrev pub no_gap : Bool → Gap
no_gap quoted = record { size = 0; quoted = quoted }

-- two bytes more
abbrev pub wider : Gap → Gap
wider g = record { size = 2 + g.size; quoted = g.quoted }

-- The marks at the front of v: how many bytes they take, and whether a quote is open after them. An
-- empty quote and a lone `\E` are "in a class as not there"; so are the marks around quoted
-- members, since the bytes between them alone are literal.
unfoldable pub gap_of : Bool → List ℕ → Gap
gap_of quoted [] = no_gap quoted
gap_of quoted (c ∷ []) = no_gap quoted
gap_of quoted (c ∷ d ∷ v) = cond (is_mark quoted c d) (wider (gap_of (opens_quote d) v)) (no_gap quoted)
