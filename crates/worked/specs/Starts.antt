-- Worked cases of rules that need starts, on streams that keep them: the rule stands alone in its
-- table, and the log may be cut in any way, by any calls that demand 3 takes. The theorem is
-- `worked-starts` of proofs/Starts.antt. Assumes nothing: these are definitions.
use Rattle.std.specs.Prelude.{◌≡◌, List, [], ◌∷◌, ℕ, ◌≤◌, length}
use Rattle.table.specs.Layout.{table_words}
use Rattle.table.specs.Table.{emptied}
use Rattle.traced.specs.Calls.{Lists, Call, space}
use Rattle.meaning.specs.Rule.{Windows, no_windows}
use Rattle.meaning.specs.Ordered.{Report}
use Rattle.rules.specs.Add.{Addition, addition_in, answer, add_answer}
use Rattle.demands.specs.Chain.{additions_of, Item, Roomy, offering}
use Rattle.demands.specs.Kinds.{traces}
use Rattle.demands.specs.Demands.{Setting, Between, table_in, stream_in, Calls, HasClosing, taken, joined}
use Rattle.worked.specs.Cases.{bytes, rule}

module _ (a : Addition) (log : List ℕ) (list : List Report) where
  -- the table's additions are this one
  abbrev pub Alone : Setting → Type 0
  Alone c = additions_of c.steps ≡ a ∷ []

  pub record Gives : Type 0 where
    -- an emptied table accepts it
    pub accepted : (words : List ℕ) → table_words ≤ length words
        → add_answer (emptied words) a ≡ answer 0 0
    -- what is not taken of the log is offered again, with units for any byte and room for any two
    -- reports: the joined reports are these
    pub offered : (c : Setting) → Alone c → Between c → (turns : List Call) (slots : Lists)
        → length log ≤ length turns → Roomy traces 2 turns → 2 ≤ space slots
        → joined traces c (offering traces (table_in c) (stream_in traces c) log turns slots) ≡ list
    -- and so they are of any calls that take the log and close the stream
    pub by_any : (c : Setting) (items : List (Item Lists Call)) → Alone c → Calls traces c items
        → HasClosing traces c items → taken traces c items ≡ log → joined traces c items ≡ list

-- a smallest length alone
abbrev length_from : ℕ → Windows
length_from n = record {
  smallest_end = no_windows.smallest_end;
  largest_end = no_windows.largest_end;
  smallest_length = n;
}

pub record WorkedStarts : Type 0 where
  -- "`a|ba\z` on `ba` gives offset 2 with start 1"
  pub settled : Gives (rule 1 256 "a|ba\\z") (bytes "ba") ((1, 2, 1) ∷ [])
  -- "as soon as one such start is settled": of length 2 is the match from 0 alone, which waits for
  -- the byte after it
  pub long : Gives (addition_in 1 256 (length_from 2) (bytes "a|ba\\b")) (bytes "ba-") ((1, 2, 0) ∷ [])
  -- through a position that is live only if the newline is the last byte
  pub held : Gives (rule 1 256 "(?:xa$)?\\n$") (bytes "xa\n") ((1, 3, 0) ∷ [])
  -- from such a position: it is held, and no start of it is ever live
  pub from_held : Gives (rule 1 256 "$\\n") (bytes "x\n") ((1, 2, 1) ∷ [])
