-- One list of calls that meets what demand 3 asks for, so that the theorem is seen to speak of
-- something: refused additions, other refused calls before the opening and after it, report space
-- for two reports only, an allowance too small for a byte, refused scans and closings, an empty
-- block, and calls after the closing. The theorem is `instance` of proofs/Example.antt. Assumes
-- nothing: these are definitions.
use Rattle.std.specs.Prelude.{◌≡◌, List, [], ◌∷◌, ℕ, ◌≤◌, length}
use Rattle.std.proofs.Common.{arith}
use Rattle.table.specs.Layout.{table_words}
use Rattle.stream.specs.Calls.{Lists, lists, Call, call}
use Rattle.meaning.specs.Ordered.{Report, Ordered}
use Rattle.demands.specs.Chain.{this, those, adding, scanning, Step, addition, another, Item, scan, close, other, Outcome, by_scan, by_close, outcomes_of}
use Rattle.demands.specs.Kinds.{short}
use Rattle.demands.specs.Demands.{Setting, table_in, stream_in, rules_in, Calls, HasClosing, taken, joined}
use Rattle.worked.specs.Cases.{bytes, rule}

-- a list with one slot, fewer than one rule needs, and one with two
abbrev slot : List ℕ
slot = 0 ∷ []

abbrev slots : List ℕ
slots = 0 ∷ 0 ∷ []

unfoldable pub steps : List Step
steps =
    addition (rule 5 0 "ab+") (omega arith)
    -- refused with 18: the state that a refused opening hands back has other counts
    ∷ another (scanning this (short.begun []) (call 257 (bytes "ab") (lists slot slot)))
    -- refused, 10 at 2
    ∷ addition (rule 8 0 "a**") (omega arith)
    ∷ []

unfoldable pub items : List (Item Lists Call)
items =
    -- takes 3 bytes, for 5 units: the fourth has a third report
    scan (call 10 (bytes "abbb") (lists slots slots))
    -- refused with 3: the id is in the table
    ∷ other (adding this (rule 5 0 "a"))
    -- refused with 20: report space for one report
    ∷ scan (call 257 (bytes "b") (lists slots slot))
    -- refused with 1: no table
    ∷ other (scanning (those []) (short.begun []) (call 257 (bytes "ab") (lists slot slot)))
    -- an empty block
    ∷ scan (call 257 [] (lists slots slots))
    ∷ close (lists slot slots)
    -- takes nothing: the byte costs two units
    ∷ scan (call 1 (bytes "b") (lists slots slots))
    ∷ scan (call 2 (bytes "b") (lists slots slots))
    ∷ close (lists slots slots)
    -- refused with 19: the stream is closed
    ∷ scan (call 257 (bytes "b") (lists slots slots))
    ∷ close (lists slots slots)
    ∷ []

-- what the scans and closings among them give
unfoldable pub outcomes : List Outcome
outcomes =
    by_scan 0 3 ((5, 2, 0) ∷ (5, 3, 0) ∷ [])
    ∷ by_scan 20 0 []
    ∷ by_scan 0 0 []
    ∷ by_close 20 []
    ∷ by_scan 0 0 []
    ∷ by_scan 0 1 ((5, 4, 0) ∷ [])
    ∷ by_close 0 []
    ∷ by_scan 19 0 []
    ∷ by_close 19 []
    ∷ []

-- "`ab+` on `abbb`: 2, 3, 4"
abbrev pub list : List Report
list = (5, 2, 0) ∷ (5, 3, 0) ∷ (5, 4, 0) ∷ []

module _ (words : List ℕ) (long : table_words ≤ length words) where
  abbrev pub setting : Setting
  setting = record { words = words; long = long; steps = steps }

  pub record Instance : Type 0 where
    -- demand 3's hypotheses hold
    pub calls : Calls short setting items
    pub closing : HasClosing short setting items
    -- each call gives this, so all bytes are taken and the joined reports are these
    pub each : outcomes_of short (table_in setting) (stream_in short setting) items ≡ outcomes
    pub all_taken : taken short setting items ≡ bytes "abbb"
    pub all_reports : joined short setting items ≡ list
    -- and by demand 3 they are the ordered list of the one accepted rule
    pub ordered : Ordered (rules_in setting) (bytes "abbb") list
