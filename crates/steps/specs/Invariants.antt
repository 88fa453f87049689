-- What the private functions promise, where that is not an equation with a definition that a reader
-- must believe. Assumes nothing: these are definitions.
use Rattle.std.specs.Prelude.{◌≡◌, Bool, cond, not, ◌&&◌, ◌||◌, List, ℕ, zero, suc, ◌+◌, ◌*◌, ◌/◌, ◌%◌, ◌^◌, ◌<◌, eqb, leb, ltb, length, get_or}
use Rattle.std.specs.Int.Bits.{bit_or}
use Rattle.sets.specs.Set.{on, has, set_of, word_of, any, smallest, union_of}
use Rattle.table.specs.Layout.{max_positions, owner_at, lowest_at, highest_at, row_has}
use Rattle.steps.specs.Walk.{asked}

-- a set joined with the rows, which begin at word `rows`, of the positions that the first n turns
-- of the walk over a word ask; digit k of the word is position base + k
unfoldable pub joined : (t : List ℕ) → (rows word base : ℕ) → (from : List ℕ) → ℕ → List ℕ
joined t rows word base from zero = from
joined t rows word base from (suc n) = union_of (joined t rows word base from n) (set_of (row_has t (rows + (base + asked word n) * 4)))

-- a word of rules with the digit of place a, if that is one of the rules
unfoldable pub with_owner : (rules a found : ℕ) → ℕ
with_owner rules a found = cond (ltb a rules) (bit_or found (2 ^ a)) found

-- a word of rules with the owners of the positions that the first n turns of the walk over a word
-- ask; digit k of the word is position base + k
unfoldable pub collected : (t : List ℕ) → (rules word base found : ℕ) → ℕ → ℕ
collected t rules word base found zero = found
collected t rules word base found (suc n) = with_owner rules (get_or t (owner_at (base + asked word n)) 0) (collected t rules word base found n)

-- the rules that own a position of a set, of the positions below n
unfoldable pub owners_of : (t : List ℕ) → (rules : ℕ) → (set : List ℕ) → ℕ → ℕ
owners_of t rules set n = word_of 64 (λ a. ltb a rules && any n (λ p. has set p && eqb (get_or t (owner_at p) 0) a))

-- the end offset is within the two words that the rule in place a has for its window
abbrev pub window_has : (t : List ℕ) → (a end : ℕ) → Bool
window_has t a end = leb (get_or t (lowest_at a) 0) end && leb end (get_or t (highest_at a) 0)

-- r is a word of rules without the digit of place a, unless that stays
pub record Sifted (found a : ℕ) (stays : Bool) (r : ℕ) : Type 0 where
  pub small : r < 2 ^ 64
  pub each : (k : ℕ) → k < 64 → on r k ≡ (on found k && (stays || not (eqb k a)))

-- ---- starts

-- of two starts the new one, or the smaller
abbrev pub chosen_of : (keep : Bool) → (old new : ℕ) → ℕ
chosen_of keep old new = cond (keep && ltb old new) old new

-- position q is a digit of the word i of a set
abbrev pub in_word : (word i q : ℕ) → Bool
in_word word i q = eqb (q / 64) i && on word (q % 64)

-- each of the starts is what f makes of it, by its position
pub record Changed (f : ℕ → ℕ → ℕ) (old new : List ℕ) : Type 0 where
  pub as_long : length new ≡ length old
  pub each : length old ≡ max_positions → (q : ℕ) → q < max_positions → get_or new q 0 ≡ f q (get_or old q 0)

-- the start is put in for the positions that pass a test
abbrev pub Put : (ℕ → Bool) → (keep : Bool) → (start : ℕ) → (old new : List ℕ) → Type 0
Put test keep start = Changed (λ q x. cond (test q) (chosen_of keep x start) x)

-- for each position of `next`, the smaller of its own and of the starts in `from` of the positions
-- that pass a test and whose row has it
abbrev pub Followed : (ℕ → Bool) → (next from : List ℕ) → (rows : ℕ) → (t : List ℕ) → (old new : List ℕ) → Type 0
Followed test next from rows t =
    Changed (λ q x. cond (has next q) (smallest max_positions (λ p. test p && row_has t (rows + p * 4) q) (λ p. get_or from p 0) x) x)

-- the starts of the positions that pass a test are those in `from`
abbrev pub Copied : (ℕ → Bool) → (from old new : List ℕ) → Type 0
Copied test from = Changed (λ q x. cond (test q) (get_or from q 0) x)

-- the smallest of d and of the starts of the positions that pass a test and have this owner
unfoldable pub least_owned : (t : List ℕ) → (ℕ → Bool) → (a : ℕ) → (starts : List ℕ) → (d : ℕ) → ℕ
least_owned t test a starts d = smallest max_positions (λ p. test p && eqb (get_or t (owner_at p) 0) a) (λ p. get_or starts p 0) d
