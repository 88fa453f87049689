-- Sets of numbers below 256 (bytes, or positions of the automaton), each held in four 64-bit words.
-- `has` says what a member is. What each operation makes is said by its members alone: `set_of`
-- gives the one list of words that has them.
use Rattle.std.specs.Prelude.{Bool, true, false, cond, not, ◌||◌, ◌&&◌, List, [], ◌∷◌, ℕ, zero, suc, ◌+◌, ◌*◌, ◌/◌, ◌%◌, ◌^◌, min, eqb, leb, ltb, get_or}

-- binary digit k of w is 1
unfoldable pub on : ℕ → ℕ → Bool
on w k = eqb (w / 2 ^ k % 2) 1

-- q is a member of the set in the words s: digit q % 64 of word q / 64 is 1
unfoldable pub has : List ℕ → ℕ → Bool
has s q = on (get_or s (q / 64) 0) (q % 64)

-- a test as a binary digit
abbrev pub as_one : Bool → ℕ
as_one true = 1
as_one false = 0

-- the number whose binary digit k, for k below n, is 1 where f k holds: the lowest digit, and those
-- above it
unfoldable pub word_of : ℕ → (ℕ → Bool) → ℕ
word_of zero f = 0
word_of (suc n) f = as_one (f zero) + word_of n (λ k. f (suc k)) * 2

-- the four words whose members are the q below 256 where f q holds: digit k of word i says it of i
-- * 64 + k
unfoldable pub set_of : (ℕ → Bool) → List ℕ
set_of f = word_of 64 (λ k. f (0 + k)) ∷ word_of 64 (λ k. f (64 + k)) ∷ word_of 64 (λ k. f (128 + k)) ∷ word_of 64 (λ k. f (192 + k)) ∷ []

-- some q below n where f q holds
unfoldable pub any : ℕ → (ℕ → Bool) → Bool
any zero f = false
any (suc n) f = any n f || f n

-- the number of q below n where f q holds
unfoldable pub count : ℕ → (ℕ → Bool) → ℕ
count zero f = 0
count (suc n) f = count n f + as_one (f n)

-- the smallest of d and of the g q for the q below n where f q holds
unfoldable pub smallest : ℕ → (ℕ → Bool) → (ℕ → ℕ) → ℕ → ℕ
smallest zero f g d = d
smallest (suc n) f g d = cond (f n) (min (g n) (smallest n f g d)) (smallest n f g d)

-- no members
unfoldable pub empty_set : List ℕ
empty_set = set_of (λ q. false)

-- every number below 256
unfoldable pub full_set : List ℕ
full_set = set_of (λ q. true)

-- s with b
unfoldable pub inserted : List ℕ → ℕ → List ℕ
inserted s b = set_of (λ q. has s q || eqb q b)

-- s with lo up to hi, both included; s itself where lo is above hi
unfoldable pub inserted_range : List ℕ → ℕ → ℕ → List ℕ
inserted_range s lo hi = set_of (λ q. has s q || (leb lo q && leb q hi))

-- what is in s or in t
unfoldable pub union_of : List ℕ → List ℕ → List ℕ
union_of s t = set_of (λ q. has s q || has t q)

-- what is in both s and t
unfoldable pub intersection_of : List ℕ → List ℕ → List ℕ
intersection_of s t = set_of (λ q. has s q && has t q)

-- what is not in s
unfoldable pub complement_of : List ℕ → List ℕ
complement_of s = set_of (λ q. not (has s q))

-- what is in s and below n
unfoldable pub kept_below : List ℕ → ℕ → List ℕ
kept_below s n = set_of (λ q. has s q && ltb q n)

-- s has no member
unfoldable pub is_empty : List ℕ → Bool
is_empty s = not (any 256 (has s))

-- how many members s has; of a live set, this is the busy figure
unfoldable pub size_of : List ℕ → ℕ
size_of s = count 256 (has s)
