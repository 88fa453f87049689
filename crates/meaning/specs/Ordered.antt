-- Moments, and the one ordered list of reports that some rules and a stream's bytes give. It names
-- no table, no state and no automaton. Assumes nothing: these are definitions.
use Rattle.std.specs.Prelude.{◌≡◌, ◌⊎◌, ◌↔◌, Bool, cond, ℕ, suc, ◌≤◌, ◌<◌, T, eqb, ltb, length, take}
use mathlib.Core.List.{List, [], ◌∷◌, map, Memᴰ}
use Rattle.meaning.specs.Tree.{Text, Means}
use Rattle.meaning.specs.Rule.{Rule, Assertion, ByteSet, InWindows, stream, MatchEnds}

-- "Its moments are the bytes in order, then the closing": moment m, from 1 to n, comes when m bytes
-- are taken, and n + 1 is the closing. No pair falls at moment 0.
abbrev pub closing_moment : List ℕ → ℕ
closing_moment bytes = suc (length bytes)

-- What is known at a moment: the first bytes and nothing after them; at the closing all bytes and
-- the end.
abbrev pub end_known : List ℕ → ℕ → Bool
end_known bytes m = ltb (length bytes) m

abbrev pub seen : List ℕ → ℕ → Text ByteSet Assertion
seen bytes m = stream (take m bytes) (end_known bytes m)

-- moment j and offset d stand before moment m and offset e
abbrev pub Earlier : (j d m e : ℕ) → Type 0
Earlier j d m e = (j < m) ⊎ ((j ≡ m) × (d < e))

-- s is the smallest number that has P
pub record Least (P : ℕ → Type 0) (s : ℕ) : Type 0 where
  pub there : P s
  pub least : (u : ℕ) → P u → s ≤ u

module _ (bytes : List ℕ) (r : Rule) where
  -- "A match is settled once one way of it has every assertion, taken singly, known to hold": the
  -- rule matches from an earlier start s up to e by what is known at m.
  abbrev pub SettledFrom : (m e s : ℕ) → Type 0
  SettledFrom m e s = (s < e) × Means (seen bytes m) r.tree s e

  -- "when one way of one of its matches has every assertion known to hold", "as soon as one such
  -- start is settled": some start is settled up to e, and the rule's windows hold of it.
  pub record Settled (m e : ℕ) : Type 0 where
    pub start : ℕ
    pub earlier : start < e
    pub matched : Means (seen bytes m) r.tree start e
    pub inside : InWindows r.windows start e

  -- "A pair falls at the first moment, from its last byte on, when" it is settled.
  pub record Falls (m e : ℕ) : Type 0 where
    pub from_last : e ≤ m
    pub by_closing : m ≤ closing_moment bytes
    pub settled : Settled m e
    pub not_before : (j : ℕ) → e ≤ j → j < m → ¬ Settled j e

  -- "Of a single-match rule only the first stays": its pair (j, d) hides a later pair (m, e).
  -- "Single match counts only pairs inside the window": no other pair falls.
  abbrev pub Hides : (j d m e : ℕ) → Type 0
  Hides j d m e = T r.single × Earlier j d m e

  pub record Stays (m e : ℕ) : Type 0 where
    pub falls : Falls m e
    pub first : (j d : ℕ) → Falls j d → ¬ Hides j d m e

  -- The start that a pair given at moment m is reported with: "the smallest start whose match is
  -- settled then"; "A rule without the flag gives 0".
  pub record StartIs (m e s : ℕ) : Type 0 where
    pub leftmost : T r.starts → Least (SettledFrom m e) s
    pub without : ¬ T r.starts → s ≡ 0

-- Demand 2's meaning: the pair of the rule's id and e is reported, "exactly when some earlier start
-- matches the rule up to there under its flags"; "A single-match rule reports the pair first
-- delivered, perhaps not its smallest offset."
abbrev pub Reported : Rule → List ℕ → ℕ → Type 0
Reported r bytes e =
    MatchEnds r bytes e
    × (T r.single → (m j d : ℕ) → Falls bytes r m e → Falls bytes r j d → ¬ Earlier j d m e)

-- the start of that report: the one of the moment at which the pair falls
abbrev pub StartOf : Rule → List ℕ → (e s : ℕ) → Type 0
StartOf r bytes e s = (m : ℕ) → Falls bytes r m e → StartIs bytes r m e s

-- a report with the moment at which it is given
pub data Entry : Type 0 where
  entry : (moment offset id start : ℕ) → Entry

-- "Pairs stand by moment, then end offset, then rising id"
abbrev pub Before : Entry → Entry → Type 0
Before (entry m e i s) (entry n d j u) = (m < n) ⊎ ((m ≡ n) × ((e < d) ⊎ ((e ≡ d) × (i < j))))

-- every entry stands before all later ones
unfoldable pub Rising : List Entry → Type 0
Rising [] = Unit {0}
Rising (x ∷ l) = ((y : Entry) → Memᴰ y l → Before x y) × Rising l

-- the entry is owed by one of the rules
abbrev pub Owed : List Rule → List ℕ → Entry → Type 0
Owed rules bytes (entry m e i s) =
    (r : Rule)
    × Memᴰ r rules
    × (r.id ≡ i)
    × Stays bytes r m e
    × StartIs bytes r m e s

-- "Demand 3's one ordered list", with its moments
pub record IsList (rules : List Rule) (bytes : List ℕ) (l : List Entry) : Type 0 where
  pub rising : Rising l
  pub exactly : (x : Entry) → Memᴰ x l ↔ Owed rules bytes x

-- a report: rule id, end offset, and start in the stream
abbrev pub Report : Type 0
Report = ℕ × ℕ × ℕ

abbrev pub report : Entry → Report
report (entry m e i s) = (i, e, s)

-- the pair of a report: rule id and end offset
abbrev pub Pair : Type 0
Pair = ℕ × ℕ

abbrev pub pair : Report → Pair
pair p = (p.0, p.1)

-- no pair stands twice
unfoldable pub Once : List Pair → Type 0
Once [] = Unit {0}
Once (p ∷ l) = (¬ Memᴰ p l) × Once l

-- the reports alone: "Demand 3 covers the stream start"
pub record Ordered (rules : List Rule) (bytes : List ℕ) (reports : List Report) : Type 0 where
  pub list : List Entry
  pub is_list : IsList rules bytes list
  pub given : map report list ≡ reports

-- the reports of one id, in their order
unfoldable pub of_id : ℕ → List Report → List Report
of_id i [] = []
of_id i (p ∷ l) = cond (eqb p.0 i) (p ∷ of_id i l) (of_id i l)
