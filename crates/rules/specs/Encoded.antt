-- The words that lists of additions leave, and the words of a list of rules. Assumes nothing: these
-- are definitions.
use Rattle.std.specs.Prelude.{List, [], ◌∷◌, ℕ}
use Rattle.table.specs.Layout.{positions_of}
use Rattle.rules.specs.Gaps.{parts_at}
use Rattle.rules.specs.Words.{added_in}
use Rattle.rules.specs.Add.{Addition, add_words}
use Rattle.rules.specs.Additions.{Accepted}

-- the words after a list of additions, each as its call leaves them
unfoldable pub add_all : List ℕ → List Addition → List ℕ
add_all t [] = t
add_all t (a ∷ l) = add_all (add_words t a) l

-- the words of some rules, each added to those before it
unfoldable pub encode : List ℕ → List Accepted → List ℕ
encode t [] = t
encode t (r ∷ rs) =
    encode (added_in t r.id r.flags r.windows (parts_at r.tree (positions_of t))) rs
