-- What the private functions promise one another, and what they ask. No public contract cites it.
use Rattle.std.specs.Prelude.{◌≡◌, Bool, cond, not, ◌&&◌, List, ◌++◌, ℕ, suc, min, ◌≤◌, eqb, ltb, length, set}
use Rattle.std.specs.Int.Bits.{bit_and}
use Rattle.meaning.specs.Form.{positions}
use Rattle.meaning.specs.Rule.{Windows}
use Rattle.nodes.specs.Invariants.{Written, form_at}
use Rattle.pattern.specs.Windows.{windows_of, size_fault as pattern_fault}
use Rattle.pattern.specs.declared.bounds.Bounds.{Bounds}
use Rattle.marks.specs.Invariants.{Plays}
use Rattle.plain.specs.Run.{marks_at, own_at, late_at, Hit, shown, inside, Choice, pick, up_to, closed, kept, Lent, lent, filled}
use Rattle.plain.specs.Answer.{Question, known_flags, has_single, has_leftmost, longest_log, least_space}
use Rattle.plain.specs.declared.run.Taken.{Taken}
use Rattle.plain.specs.declared.run.Wanted.{Wanted}

-- ---- reports

abbrev pub choice_of : Wanted → Choice
choice_of w = (w.leftmost, windows_of w.bounds)

-- offset e with start x is due; it is written, unless the rule has reported and reports once
abbrev pub due : Wanted → (new : Bool) (e x : ℕ) → Bool
due w new e x = new && inside (windows_of w.bounds) e x

abbrev pub writes : Wanted → (new : Bool) (e x count : ℕ) → Bool
writes w new e x count = due w new e x && not (w.single && ltb 0 count)

-- slot i of both lists
abbrev pub put : Lent → ℕ → Hit → Lent
put v i h = lent (set v.offsets i h.0) (set v.starts i h.1)

-- both lists have n slots; two pairs of lists have as many
pub record Slots (v : Lent) (n : ℕ) : Type 0 where
  pub offsets : n ≤ length v.offsets
  pub starts : n ≤ length v.starts

pub record Alike (v u : Lent) : Type 0 where
  pub offsets : length v.offsets ≡ length u.offsets
  pub starts : length v.starts ≡ length u.starts

-- one report
pub record Reported (w : Wanted) (new : Bool) (e x count : ℕ) (old : Lent) (r : ℕ) (now : Lent) : Type 0 where
  pub counted : r ≡ cond (writes w new e x count) (suc count) count
  pub written : now ≡ cond (writes w new e x count) (put old count (e, shown w.leftmost x)) old

-- the reports l stand at the front of the lent lists
pub record Delivered (w : Wanted) (old now : Lent) (count : ℕ) (l : List Hit) : Type 0 where
  pub counted : count ≡ length (kept w.single l)
  pub written : now ≡ filled old (kept w.single l)

-- the reports m instead of l, whatever the lists were at first
abbrev pub Goes : Wanted → (count : ℕ) (old : Lent) (r : ℕ) (now : Lent) (l m : List Hit) → Type 0
Goes w count old r now l m =
    (start : Lent) → Alike start old → Delivered w start old count l → Delivered w start now r m

-- two more reports where they are due, whatever was reported before
abbrev pub Both : (w : Wanted) (first second : Bool) (k x y count : ℕ) (old : Lent) (r : ℕ) (now : Lent) → Type 0
Both w first second k x y count old r now =
    (l : List Hit)
    → Goes w count old r now l ((l ++ pick (choice_of w) first k x) ++ pick (choice_of w) second (suc k) y)

-- what a run asks: a log and lists that are neither too long nor too short
pub record Runs (a : List ℕ) (root : ℕ) (ps : List ℕ) (rows : ℕ) (bytes : List ℕ) (n : ℕ) (old : Lent) : Type 0 where
  pub room : positions (form_at a root) ≤ 256
  pub plays : Plays a root ps rows
  pub within : n ≤ length bytes
  pub short : length bytes ≤ 1024
  pub space : Slots old 1024

-- the same before the pattern is written out
pub record Asks (a : List ℕ) (root : ℕ) (bytes : List ℕ) (old : Lent) : Type 0 where
  pub room : positions (form_at a root) ≤ 256
  pub short : length bytes ≤ 1024
  pub space : Slots old 1024

-- where a run is after k bytes
pub record Stands (f : Written) (w : Wanted) (bytes : List ℕ) (k : ℕ) (ms : List ℕ) (t : Taken) : Type 0 where
  pub marks : ms ≡ marks_at bytes f k
  pub own : t.own ≡ own_at bytes f k
  pub few : t.count ≤ length (up_to (choice_of w) bytes f k)

-- one byte more
pub record Stepped (f : Written) (w : Wanted) (bytes : List ℕ) (k : ℕ) (t : Taken) (old now : Lent) (ms : List ℕ) (r : Taken) : Type 0 where
  pub marks : ms ≡ marks_at bytes f (suc k)
  pub late : r.late ≡ late_at bytes f k
  pub own : r.own ≡ own_at bytes f (suc k)
  pub reports : Goes w t.count old r.count now (up_to (choice_of w) bytes f k) (up_to (choice_of w) bytes f (suc k))

-- what the closing asks: where the run was before the last byte, and is with it
pub record Closes (f : Written) (w : Wanted) (bytes : List ℕ) (k : ℕ) (ms : List ℕ) (prior : ℕ) (t : Taken) : Type 0 where
  pub marks : ms ≡ marks_at bytes f k
  pub before : prior ≡ own_at bytes f k
  pub late : t.late ≡ late_at bytes f k
  pub own : t.own ≡ own_at bytes f (suc k)
  pub few : t.count ≤ length (up_to (choice_of w) bytes f (suc k))

abbrev pub Closed : (f : Written) (w : Wanted) (bytes : List ℕ) (k : ℕ) (t : Taken) (old : Lent) (r : ℕ) (now : Lent) → Type 0
Closed f w bytes k t old r now =
    Goes w t.count old r now (up_to (choice_of w) bytes f (suc k)) (closed (choice_of w) bytes f (suc k))

-- after the first n bytes
pub record Ran (f : Written) (w : Wanted) (bytes : List ℕ) (n : ℕ) (old now : Lent) (ms : List ℕ) (r : Taken) : Type 0 where
  pub marks : ms ≡ marks_at bytes f n
  pub own : r.own ≡ own_at bytes f n
  pub reports : Delivered w old now r.count (up_to (choice_of w) bytes f n)

-- the checks before the pattern is read: the number of the first that fails, or 0
unfoldable pub flag_fault : (flags : ℕ) → ℕ
flag_fault flags =
    cond (not (eqb (bit_and flags known_flags) flags)) 2 (cond (has_leftmost flags && has_single flags) 24 0)

unfoldable pub size_fault : (pattern : ℕ) (w : Windows) (log space : ℕ) → ℕ
size_fault pattern w log space =
    cond (eqb (pattern_fault pattern w) 0)
    (cond (ltb longest_log log) 28 (cond (ltb space least_space) 20 0)) (pattern_fault pattern w)

unfoldable pub first_fault : Question → (space : ℕ) → ℕ
first_fault q space =
    cond (eqb (flag_fault q.flags) 0)
    (size_fault (length q.pattern) q.windows (length q.log) space) (flag_fault q.flags)

-- they are passed, where these lists are lent
abbrev pub Checked : Question → Lent → Type 0
Checked q old = first_fault q (min (length old.offsets) (length old.starts)) ≡ 0

-- what is wanted of the run
abbrev pub wanted_by : (flags : ℕ) → Bounds → Wanted
wanted_by flags bounds = record { single = has_single flags; leftmost = has_leftmost flags; bounds = bounds }
