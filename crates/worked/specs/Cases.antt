-- The worked cases that the product's rules mark P, "proved together, in one table", and those of
-- line mode, word edges and windows: each rule alone in an emptied table, and all of them in one.
-- The rules are pattern bytes and flags, the logs are cut as the rules cut them, and all else is
-- worked out by the definitions of the calls. The theorem is `worked-cases` of proofs/Cases.antt.
-- Assumes nothing: these are definitions.
use Rattle.std.specs.Prelude.{◌≡◌, ℕ, suc, ◌*◌, ◌≤◌, length}
use mathlib.Core.List.{List, [], ◌∷◌, map, Memᴰ}
use Prim.Native.String.{String}
use Rattle.table.specs.Layout.{table_words, max_rules}
use Rattle.table.specs.Table.{emptied}
use Rattle.stream.specs.Calls.{Lists, Call, call, opened, space}
use Rattle.meaning.specs.Rule.{Windows, no_windows}
use Rattle.meaning.specs.Ordered.{Pair, Report}
unfoldable pub use Rattle.classes.specs.Name.{bytes}
use Rattle.rules.specs.declared.Added.{Added}
use Rattle.rules.specs.Add.{Addition, addition, addition_in, answer, add_answer, add_words}
use Rattle.rules.specs.Encoded.{add_all}
use Rattle.demands.specs.Chain.{Item, scan, close, Outcome, by_scan, by_close, outcomes_of}
use Rattle.demands.specs.Kinds.{without_start, short}

-- ---- what a case says

-- a log: each block with the reports of its scan, and the reports of the closing
pub record Log : Type 0 where
  pub blocks : List (String × List Report)
  pub closing : List Report

-- what is said of a rule: the number and place of its refusal, or the logs to try
pub data Verdict : Type 0 where
  refused : (number place : ℕ) → Verdict
  accepted : List Log → Verdict

pub record Case : Type 0 where
  pub rule : Addition
  pub verdict : Verdict

-- ---- what it means that a case holds

-- the calls of a log: a scan of each block as it is cut, with units for any bytes of its length,
-- then a closing; call i is lent the two lists `lent i`
unfoldable pub calls_on : List (String × List Report) → (lent : ℕ → Lists) → List (Item Lists Call)
calls_on [] lent = close (lent 0) ∷ []
calls_on (b ∷ bs) lent = scan (call (257 * length (bytes b.0)) (bytes b.0) (lent 0)) ∷ calls_on bs (λ i. lent (suc i))

-- every call is accepted, every scan takes its whole block, and the reports are those of the log
unfoldable pub expected : List (String × List Report) → List Report → List Outcome
expected [] closing = by_close 0 closing ∷ []
expected (b ∷ bs) closing = by_scan 0 (length (bytes b.0)) b.1 ∷ expected bs closing

-- the opening on a table is accepted, and the calls after it give this, whatever the lists hold
-- before, if both have two slots for each rule that a table may have
abbrev pub Gives : List ℕ → Log → Type 0
Gives t log = ((opened t).number ≡ 0)
    × ((lent : ℕ → Lists) → ((i : ℕ) → 2 * max_rules ≤ space (lent i))
    → outcomes_of short t (short.begun t) (calls_on log.blocks lent)
    ≡ expected log.blocks log.closing)

abbrev pub AllGive : List ℕ → List Log → Type 0
AllGive t logs = (log : Log) → Memᴰ log logs → Gives t log

abbrev pub answer_in : Verdict → Added
answer_in (refused number place) = answer number place
answer_in (accepted logs) = answer 0 0

abbrev pub logs_in : Verdict → List Log
logs_in (refused number place) = []
logs_in (accepted logs) = logs

-- the rule alone, added to any words that were emptied
abbrev pub Alone : Case → Type 0
Alone k = (words : List ℕ) → table_words ≤ length words
    → (add_answer (emptied words) k.rule ≡ answer_in k.verdict)
    × AllGive (add_all (emptied words) (k.rule ∷ [])) (logs_in k.verdict)

-- the answers of a list of additions, one after the other
unfoldable pub answers_of : List ℕ → List Addition → List Added
answers_of t [] = []
answers_of t (a ∷ l) = add_answer t a ∷ answers_of (add_words t a) l

abbrev pub additions_in : List Case → List Addition
additions_in cases = map (λ (k : Case). k.rule) cases

-- the rules of all cases, one after the other in one table: each answer is as for the rule alone,
-- and each log gives the reports of all the accepted rules
abbrev pub Together : List Case → List Log → Type 0
Together cases logs = (words : List ℕ) → table_words ≤ length words
    → (answers_of (emptied words) (additions_in cases) ≡ map (λ (k : Case). answer_in k.verdict) cases)
    × AllGive (add_all (emptied words) (additions_in cases)) logs

-- ---- the table

abbrev pub rule : (id flags : ℕ) → String → Addition
rule id flags pattern = addition id flags (bytes pattern)

-- the end offsets of the one rule that there is
abbrev ends : ℕ → List ℕ → List Report
ends id offsets = map (λ (e : ℕ). without_start (id, e)) offsets

abbrev log : ℕ → List (String × List ℕ) → (closing : List ℕ) → Log
log id blocks closing = record { blocks = map (λ (b : String × List ℕ). (b.0, ends id b.1)) blocks; closing = ends id closing }

abbrev hits : (id flags : ℕ) → String → List Log → Case
hits id flags pattern logs = record { rule = rule id flags pattern; verdict = accepted logs }

-- the same of a rule with a window of end offsets
abbrev ends_in : (lowest highest : ℕ) → Windows
ends_in lowest highest = record {
  smallest_end = lowest;
  largest_end = highest;
  smallest_length = no_windows.smallest_length;
}

abbrev hits_in : (id flags lowest highest : ℕ) → String → List Log → Case
hits_in id flags lowest highest pattern logs =
    record { rule = addition_in id flags (ends_in lowest highest) (bytes pattern); verdict = accepted logs }

abbrev refuses_in : (id flags lowest highest : ℕ) → String → (number place : ℕ) → Case
refuses_in id flags lowest highest pattern number place =
    record { rule = addition_in id flags (ends_in lowest highest) (bytes pattern); verdict = refused number place }

abbrev refuses : (id flags : ℕ) → String → (number place : ℕ) → Case
refuses id flags pattern number place = record { rule = rule id flags pattern; verdict = refused number place }

unfoldable pub cases : List Case
cases =
    -- "`foo.*bar` on `fooxyzbar`, `baz`, `qbar`: 9, 16."
    hits 7 0 "foo.*bar" (log 7 (("fooxyzbar", 9 ∷ []) ∷ ("baz", []) ∷ ("qbar", 16 ∷ []) ∷ []) [] ∷ [])
    -- "`ab+` on `abbb`: 2, 3, 4; with flag 8: 2."
    ∷ hits 5 0 "ab+" (log 5 (("abbb", 2 ∷ 3 ∷ 4 ∷ []) ∷ []) [] ∷ [])
    ∷ hits 6 8 "ab+" (log 6 (("abbb", 2 ∷ []) ∷ []) [] ∷ [])
    -- "`(a(?i)b|c)` on `aBC`: 2, 3; on `AB`: none."
    ∷ hits 4 0 "(a(?i)b|c)" (log 4 (("aBC", 2 ∷ 3 ∷ []) ∷ []) [] ∷ log 4 (("AB", []) ∷ []) [] ∷ [])
    -- "`{,}` on itself: 3. `aX{,4}` on `aXX`: 1, 2, 3."
    ∷ hits 9 0 "{,}" (log 9 (("{,}", 3 ∷ []) ∷ []) [] ∷ [])
    ∷ hits 8 0 "aX{,4}" (log 8 (("aXX", 1 ∷ 2 ∷ 3 ∷ []) ∷ []) [] ∷ [])
    -- "`a\z` on `aa`: 2 at closing. `a|a\z`: 1, 2 by scanning, none at closing."
    ∷ hits 2 0 "a\\z" (log 2 (("aa", []) ∷ []) (2 ∷ []) ∷ [])
    ∷ hits 3 0 "a|a\\z" (log 3 (("aa", 1 ∷ 2 ∷ []) ∷ []) [] ∷ [])
    -- "`^a` on `aa`: 1. `[]a]` on `]`: 1."
    ∷ hits 1 0 "^a" (log 1 (("aa", 1 ∷ []) ∷ []) [] ∷ [])
    ∷ hits 12 0 "[]a]" (log 12 (("]", 1 ∷ []) ∷ []) [] ∷ [])
    -- "`a$` on `a` and byte 10", of which "`a$` now gives 1, at closing"
    ∷ hits 11 0 "a$" (log 11 (("a\n", []) ∷ []) (1 ∷ []) ∷ [])
    -- "a pair with none settled waits, as `a(?:\b|\B)` and `ba\b|a\B` do"
    ∷ hits 15 0 "a(?:\\b|\\B)" (log 15 (("a", []) ∷ ("b", 1 ∷ []) ∷ []) [] ∷ [])
    ∷ hits 16 0 "ba\\b|a\\B" (log 16 (("ba", []) ∷ ("-", 2 ∷ []) ∷ []) [] ∷ [])
    -- "delivered when that byte is taken, or at closing, before the pairs of the newer offset": so
    -- of a single-match rule it is the one that stays
    ∷ hits 13 8 "a\\b|a-" (log 13 (("a-", 1 ∷ []) ∷ []) [] ∷ log 13 (("a", []) ∷ []) (1 ∷ []) ∷ [])
    -- "Add flag 4": "`^` also holds after a byte 10 that isn't the stream's last byte"
    ∷ hits 14 4 "\\n^" (log 14 (("\n\n", 1 ∷ []) ∷ []) [] ∷ [])
    -- Hyperscan's guide, extended parameters: `foo.*bar` with min_offset 10 and max_offset 15 gives
    -- nothing on `foobar` and `foo0123456789bar`, and matches on `foo0123bar` and `foo0123456bar`
    ∷ hits_in 30 0 10 15 "foo.*bar" (log 30 (("foobar", []) ∷ []) [] ∷ log 30 (("foo0123bar", 10 ∷ []) ∷ []) []
    ∷ log 30 (("foo0123456bar", 13 ∷ []) ∷ []) [] ∷ log 30 (("foo0123456789bar", []) ∷ []) [] ∷ [])
    -- "Single match counts only pairs inside the window."
    ∷ hits_in 31 8 2 no_windows.largest_end "a" (log 31 (("aa", 2 ∷ []) ∷ []) [] ∷ [])
    -- "A smallest offset above the largest is refused with 26, right after 5, place 0."
    ∷ refuses_in 28 0 3 2 "(" 26 0
    -- "`[z-a]` 9 at 1; `a*+` 14 at 1; `a)` 12 at 1; `(a` 12 at 2; `\x{100}` 7 at 0; `X{,4}` 15 at
    -- 5; empty pattern 15 at 0."
    ∷ refuses 21 0 "[z-a]" 9 1
    ∷ refuses 22 0 "a*+" 14 1
    ∷ refuses 23 0 "a)" 12 1
    ∷ refuses 24 0 "(a" 12 2
    ∷ refuses 25 0 "\\x{100}" 7 0
    ∷ refuses 26 0 "X{,4}" 15 5
    ∷ refuses 27 0 "" 15 0
    ∷ []

abbrev cut : List (String × List Pair) → (closing : List Pair) → Log
cut blocks closing = record {
  blocks = map (λ (b : String × List Pair). (b.0, map without_start b.1)) blocks;
  closing = map without_start closing;
}

-- logs of these cases with all the rules in one table: by rising id within a byte, whatever the order of
-- their addition
unfoldable pub logs : List Log
logs =
    cut (("fooxyzbar", (3, 8) ∷ (8, 8) ∷ (12, 8) ∷ (31, 8) ∷ (15, 8) ∷ (16, 8) ∷ (7, 9) ∷ []) ∷ ("baz", (3, 11) ∷ (8, 11) ∷ (12, 11) ∷ (15, 11) ∷ (16, 11) ∷ []) ∷ ("qbar", (3, 15) ∷ (8, 15) ∷ (12, 15) ∷ (15, 15) ∷ (16, 15) ∷ (7, 16) ∷ []) ∷ []) []
    ∷ cut (("abbb", (1, 1) ∷ (3, 1) ∷ (8, 1) ∷ (12, 1) ∷ (15, 1) ∷ (16, 1) ∷ (4, 2) ∷ (5, 2) ∷ (6, 2) ∷ (5, 3) ∷ (5, 4) ∷ []) ∷ []) []
    ∷ cut (("aBC", (1, 1) ∷ (3, 1) ∷ (8, 1) ∷ (12, 1) ∷ (15, 1) ∷ (16, 1) ∷ (4, 2) ∷ (4, 3) ∷ []) ∷ []) []
    ∷ cut (("AB", []) ∷ []) []
    ∷ cut (("{,}", (9, 3) ∷ []) ∷ []) []
    ∷ cut (("aXX", (1, 1) ∷ (3, 1) ∷ (8, 1) ∷ (12, 1) ∷ (15, 1) ∷ (16, 1) ∷ (8, 2) ∷ (8, 3) ∷ []) ∷ []) []
    ∷ cut (("aa", (1, 1) ∷ (3, 1) ∷ (8, 1) ∷ (12, 1) ∷ (15, 1) ∷ (16, 1) ∷ (3, 2) ∷ (8, 2) ∷ (12, 2) ∷ (31, 2) ∷ []) ∷ []) ((2, 2) ∷ (11, 2) ∷ (13, 2) ∷ (15, 2) ∷ [])
    ∷ cut (("]", (12, 1) ∷ []) ∷ []) []
    ∷ cut (("a\n", (1, 1) ∷ (3, 1) ∷ (8, 1) ∷ (12, 1) ∷ (13, 1) ∷ (15, 1) ∷ []) ∷ []) ((11, 1) ∷ [])
    ∷ cut (("ba", (3, 2) ∷ (8, 2) ∷ (12, 2) ∷ (31, 2) ∷ []) ∷ ("-", (13, 2) ∷ (15, 2) ∷ (16, 2) ∷ []) ∷ []) []
    ∷ cut (("a-", (1, 1) ∷ (3, 1) ∷ (8, 1) ∷ (12, 1) ∷ (13, 1) ∷ (15, 1) ∷ []) ∷ []) []
    ∷ cut (("\n\n", (14, 1) ∷ []) ∷ []) []
    ∷ []

-- every case holds, the rule alone; and all of them hold together
abbrev pub WorkedCases : Type 0
WorkedCases = ((k : Case) → Memᴰ k cases → Alone k) × Together cases logs
