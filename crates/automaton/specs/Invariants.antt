-- What the private functions promise one another, and what they ask. No public contract cites it.
use Rattle.std.specs.Prelude.{◌≡◌, Bool, true, false, cond, ◌&&◌, ◌||◌, List, ℕ, ◌+◌, ◌-◌, ◌*◌, ◌≤◌, ◌<◌, leb, ltb, length, take, drop}
use Rattle.std.proofs.lemmas.List.Edits.{sets}
use Rattle.sets.specs.Set.{has, set_of, empty_set, union_of, inserted}
use Rattle.meaning.specs.Form.{positions}
use Rattle.meaning.specs.Automaton.{null, first, last, follow, items}
use Rattle.nodes.specs.Invariants.{Written}
use Rattle.automaton.specs.Parts.{four_words, flat, world_of}
use Rattle.automaton.specs.declared.fragments.Fragment.{Fragment}

-- ---- fragments

-- no positions
unfoldable pub bare_of : Bool → Fragment
bare_of n = record { size = 0; null = n; first = empty_set; last = empty_set }

-- the one position b
unfoldable pub one_of : ℕ → Fragment
one_of b = record { size = 1; null = false; first = inserted empty_set b; last = inserted empty_set b }

-- s, and t too where b
abbrev pub also : Bool → List ℕ → List ℕ → List ℕ
also b s t = cond b (union_of s t) s

-- f, then g
unfoldable pub in_turn : Fragment → Fragment → Fragment
in_turn f g = record {
  size = f.size + g.size;
  null = f.null && g.null;
  first = also f.null f.first g.first;
  last = also g.null g.last f.last;
}

-- f, or g
unfoldable pub choice_of : Fragment → Fragment → Fragment
choice_of f g = record {
  size = f.size + g.size;
  null = f.null || g.null;
  first = union_of f.first g.first;
  last = union_of f.last g.last;
}

-- f, or nothing
unfoldable pub optional_of : Fragment → Fragment
optional_of f = record { size = f.size; null = true; first = f.first; last = f.last }

-- the fragment of a form in a world, its positions numbered from b on
unfoldable pub fragment_of : (world : ℕ) → Written → ℕ → Fragment
fragment_of world f b = record {
  size = positions f;
  null = null (world_of world) f;
  first = set_of (first (world_of world) f b);
  last = set_of (last (world_of world) f b);
}

-- ---- rows

-- q is in row p
unfoldable pub has_at : List ℕ → ℕ → ℕ → Bool
has_at r p q = has (four_words (drop (p * 4) r)) q

-- row p, with s
unfoldable pub added_to : List ℕ → ℕ → List ℕ → List ℕ
added_to r p s = sets r (p * 4) (four_words (union_of (four_words (drop (p * 4) r)) s))

-- the rows r, with s in the row of each position of l that is below n
pub record Joined (l s : List ℕ) (n : ℕ) (r r' : List ℕ) : Type 0 where
  pub long : length r' ≡ length r
  pub member : length r ≡ 1024 → (p q : ℕ) → p < 256 → q < 256 → has_at r' p q ≡ (has_at r p q || (ltb p n && (has l p && has s q)))

-- ---- the walk over the nodes

-- positions from b on stay below 256
abbrev pub Room : Written → ℕ → Type 0
Room f b = b + positions f ≤ 256

-- the fragment of f; its follow pairs are added to the rows r, and its byte sets are written into
-- the rows t
pub record Built (world : ℕ) (f : Written) (b : ℕ) (r r' t t' : List ℕ) (g : Fragment) : Type 0 where
  pub fragment : g ≡ fragment_of world f b
  pub long : length r' ≡ length r
  pub follows : length r ≡ 1024 → (p q : ℕ) → p < 256 → q < 256 → has_at r' p q ≡ (has_at r p q || follow (world_of world) f b p q)
  pub takes : t' ≡ sets t (b * 4) (flat (items f))

-- ---- copies

-- q is one of the n numbers from c on
abbrev pub among : (c n q : ℕ) → Bool
among c n q = leb c q && ltb q (c + n)

-- those of the first i numbers from c on that are in s, each n further on
unfoldable pub moved_on : (c n i : ℕ) → List ℕ → List ℕ
moved_on c n i s = set_of (λ q. among (c + n) i q && has s (q - n))

-- the fragment x, numbered from c on, right behind itself
unfoldable pub moved_part : ℕ → Fragment → Fragment
moved_part c x = record {
  size = x.size;
  null = x.null;
  first = moved_on c x.size x.size x.first;
  last = moved_on c x.size x.size x.last;
}

-- the rows r, where the first i rows from c on stand again n further on, their members moved
-- likewise
pub record Copied (c n i : ℕ) (r r' : List ℕ) : Type 0 where
  pub long : length r' ≡ length r
  pub member : length r ≡ 1024 → (p q : ℕ) → p < 256 → q < 256
      → has_at r' p q ≡ (has_at r p q || (among (c + n) i p && (among (c + n) n q && has_at r (p - n) (q - n))))

-- the part x that stands from c on, once more right behind itself: y
pub record Again (c : ℕ) (x : Fragment) (r r' t t' : List ℕ) (y : Fragment) : Type 0 where
  pub fragment : y ≡ moved_part c x
  pub follows : Copied c x.size x.size r r'
  pub takes : t' ≡ sets t ((c + x.size) * 4) (take (x.size * 4) (drop (c * 4) t))

-- there are 256 rows of each kind, and those of r from b on are empty
pub record Fresh (r t : List ℕ) (b : ℕ) : Type 0 where
  pub full : length r ≡ 1024
  pub wide : length t ≡ 1024
  pub clear : (p q : ℕ) → p < 256 → q < 256 → b ≤ p → has_at r p q ≡ false

-- the form f is built from c on, as x, and the rows of r from there on have nothing else
pub record Stands (world : ℕ) (f : Written) (c : ℕ) (r t : List ℕ) (x : Fragment) : Type 0 where
  pub full : length r ≡ 1024
  pub wide : length t ≡ 1024
  pub fragment : x ≡ fragment_of world f c
  pub follows : (p q : ℕ) → p < 256 → q < 256 → c ≤ p → has_at r p q ≡ follow (world_of world) f c p q
  pub takes : take (positions f * 4) (drop (c * 4) t) ≡ flat (items f)

-- where the form f is built from b on, as x, all of w is built now
unfoldable pub Extends : (world : ℕ) (f w : Written) (b : ℕ) (r r' t t' : List ℕ) (x y : Fragment) → Type 0
Extends world f w b r r' t t' x y = (o u : List ℕ) → Built world f b o r u t x → Built world w b o r' u t' y
