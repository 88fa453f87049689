-- What the private functions promise, where that is not an equation with a definition that a reader
-- must believe. Assumes nothing: these are definitions.
use Rattle.std.specs.Prelude.{Bool, not, ◌&&◌, ◌||◌, List, ℕ, ◌+◌, ◌*◌, leb, get_or}
use Rattle.sets.specs.Set.{on, word_of}
use Rattle.table.specs.Layout.{shortest_at}

-- the longest match that has reached position q is long enough
abbrev pub long_at : (t starts : List ℕ) → (end q : ℕ) → Bool
long_at t starts end q = leb (get_or starts q 0 + get_or t (shortest_at q) 0) end

-- of the positions of a word, the word i of a set, those that keep no start or are long enough
unfoldable pub long_word : (t starts : List ℕ) → (end word keeping i : ℕ) → ℕ
long_word t starts end word keeping i =
    word_of 64 (λ k. on word k && (not (on keeping k) || long_at t starts end (i * 64 + k)))
