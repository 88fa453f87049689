-- What the private functions promise one another: the first checks, and the words with a part of
-- them written anew. No public contract cites it.
use Rattle.std.specs.Prelude.{Bool, cond, not, ◌&&◌, ◌||◌, List, [], ◌∷◌, ℕ, zero, suc, ◌+◌, ◌-◌, ◌*◌, ◌/◌, ◌%◌, leb, ltb, get_or}
use Rattle.sets.specs.Set.{has, set_of, empty_set, any, as_one, count}
use Rattle.table.specs.Layout.{max_rules, max_positions, bytes, rules_of, leftmosts_at, keepers_at, first_at, id_at, id_word, opener_at, owner_at, last_at, lates_at, follow_at, takers_at, row_has, from_to}
use Rattle.table.specs.Gaps.{last_gaps, follow_gaps, inner_gaps, unsettled}
use Rattle.table.specs.Table.{is_table}
use Rattle.table.specs.Invariants.{over, copied, moved_up}
use Rattle.automaton.specs.declared.Parts.{Parts}
use Rattle.rules.specs.Words.{digits_with, owner_with}
use Rattle.rules.specs.Add.{unknown_flag, single_start, has_id}

-- ---- the checks of table, flags and id

-- the number of the first of 1, 2, 24, 3 and 4 that is due, or 0
unfoldable pub first_fault : List ℕ → (id flags : ℕ) → ℕ
first_fault t id flags =
    cond (is_table t)
    (cond (unknown_flag flags) 2
    (cond (single_start flags) 24
    (cond (has_id t id) 3
    (cond (leb max_rules (rules_of t)) 4 0))))
    1

-- ---- the writers

-- the words of the set at `at` kept to the positions below n, and some new ones
unfoldable pub merged_row : List ℕ → (at n : ℕ) → List ℕ → List ℕ
merged_row t at n new = set_of (λ q. (ltb q n && row_has t at q) || has new q)

unfoldable pub merged : (at n : ℕ) → List ℕ → List ℕ → List ℕ
merged at n new t = over at (at + 4) (λ w. get_or (merged_row t at n new) (w - at) 0) t

-- so for `rows` sets, one after the other from `at` on: word w of them
unfoldable pub rows_word : (at n : ℕ) → (ℕ → List ℕ) → List ℕ → ℕ → ℕ
rows_word at n new t w = get_or (merged_row t (at + (w - at) / 4 * 4) n (new ((w - at) / 4))) ((w - at) % 4) 0

unfoldable pub merged_rows : (at rows n : ℕ) → (ℕ → List ℕ) → List ℕ → List ℕ
merged_rows at rows n new t = over at (at + rows * 4) (rows_word at n new t) t

unfoldable pub masked_rows : (at rows n : ℕ) → List ℕ → List ℕ
masked_rows at rows n t = merged_rows at rows n (λ k. empty_set) t

-- the rule in place a has a smaller id
abbrev pub smaller : List ℕ → (id a : ℕ) → Bool
smaller t id a = ltb (id_word t a) id

-- a number in place k of those that stand from `at` on, with those after it one up
unfoldable pub number_put : (at rules k new : ℕ) → List ℕ → List ℕ
number_put at rules k new t = copied (at + k) 1 (new ∷ []) (moved_up (at + k) (rules - k) t)

-- the digits of some rules, in the word at `at`, with that of the rule in place k
unfoldable pub digits_put : (at k : ℕ) → Bool → List ℕ → List ℕ
digits_put at k new t = copied at 1 (digits_with k new (get_or t at 0) ∷ []) t

-- the owners of the positions, with the rule in place k
unfoldable pub owners_put : (n more k : ℕ) → List ℕ → List ℕ
owners_put n more k t = over (owner_at 0) (owner_at max_positions) (λ w. owner_with n more k (w - owner_at 0) (get_or t w 0)) t

-- the positions that keep a start, with those of the new rule if they do
unfoldable pub new_keepers : (n more : ℕ) → Bool → List ℕ
new_keepers n more keeping = set_of (λ q. keeping && from_to n (n + more) q)

unfoldable pub keepers_put : (n more : ℕ) → Bool → List ℕ → List ℕ
keepers_put n more keeping t = merged keepers_at n (new_keepers n more keeping) t

-- all these, for a rule in the place of its id; the single-match rules have word 3
unfoldable pub place_put : (rules n more id : ℕ) → (single leftmost keeping : Bool) → List ℕ → List ℕ
place_put rules n more id single leftmost keeping t =
    let k : ℕ = count rules (smaller t id) in
    keepers_put n more keeping (owners_put n more k
    (digits_put leftmosts_at k leftmost (digits_put 3 k single (number_put (id_at 0) rules k id t))))

-- follow sets from `at` on: those of the n old positions, and after them the new ones
unfoldable pub follow_put : (at n : ℕ) → List ℕ → ℕ → List ℕ → List ℕ
follow_put at n follow more t = copied (at + n * 4) (more * 4) follow (masked_rows at n n t)

-- the new positions, from n on, that take byte x
unfoldable pub new_takers : List ℕ → (n more x : ℕ) → List ℕ
new_takers takes n more x = set_of (λ q. from_to n (n + more) q && row_has takes ((q - n) * 4) x)

unfoldable pub takers_put : ℕ → List ℕ → ℕ → List ℕ → List ℕ
takers_put n takes more t = merged_rows (takers_at 0) bytes n (new_takers takes n more) t

-- the sets of the parts at one gap: the first positions, those that can end a match, and what
-- follows each
unfoldable pub gap_put : (gap n : ℕ) → Parts → List ℕ → List ℕ
gap_put g n parts t =
    let first : List ℕ = merged (first_at g) n parts.first t in
    let last : List ℕ = cond (ltb g last_gaps) (merged (last_at g) n parts.last first) first in
    cond (ltb g follow_gaps) (follow_put (follow_at g 0) n parts.follow parts.positions last) last

-- and at the first m gaps
unfoldable pub gaps_put : (m n : ℕ) → (ℕ → Parts) → List ℕ → List ℕ
gaps_put zero n parts t = t
gaps_put (suc m) n parts t = gap_put m n (parts m) (gaps_put m n parts t)

-- what some set has of those of the gaps between two bytes, which stand from `at` on
unfoldable pub inner_rows : List ℕ → (at : ℕ) → List ℕ
inner_rows t at = set_of (λ q. any inner_gaps (λ g. row_has t (at + g * 4) q))

-- the positions with which a match can end only where the next byte allows it
unfoldable pub late_set : List ℕ → List ℕ
late_set t = set_of (λ q. any inner_gaps (λ g. row_has t (last_at g) q) && not (row_has t (last_at unsettled) q))

unfoldable pub lates_put : List ℕ → List ℕ
lates_put t = copied lates_at 4 (late_set t) t

-- a match can begin with byte x inside a stream
unfoldable pub opener_of : List ℕ → ℕ → ℕ
opener_of t x = as_one (any max_positions (λ q. row_has t (takers_at x) q && any inner_gaps (λ g. row_has t (first_at g) q)))

unfoldable pub openers_put : List ℕ → List ℕ
openers_put t = over (opener_at 0) (opener_at bytes) (λ w. opener_of t (w - opener_at 0)) t

unfoldable pub counts_put : (rules positions : ℕ) → List ℕ → List ℕ
counts_put rules positions t = copied 1 2 (rules ∷ positions ∷ []) t
