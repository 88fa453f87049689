-- The number that two sides give a gap is one that the sets of a table go by, so a set that is
-- looked up by it is there. By cases on the sides.
use Rattle.std.proofs.Common.{ℕ, ◌<◌, Bool, true, false, cond, eqb, lt_trans, lit<}
use Rattle.kinds.specs.declared.Side.{Side}
use Rattle.kinds.specs.declared.Side.TheVariants.{Other, Word, Newline}
use Rattle.table.specs.Gaps.{between, before_last, at_the_end, at_the_start, start_of_last, gap_of, first_gap, inner_gaps, follow_gaps, last_gaps, first_gaps}

pub between-inner : (s t : Side) → between s t < inner_gaps
unfolding between
between-inner Other Other = lit< tt
between-inner Word Word = lit< tt
between-inner Other Word = lit< tt
between-inner Word Other = lit< tt
between-inner Other Newline = lit< tt
between-inner Word Newline = lit< tt
between-inner Newline Newline = lit< tt
between-inner Newline Other = lit< tt
between-inner Newline Word = lit< tt

pub before_last-follow : (s : Side) → before_last s < follow_gaps
unfolding before_last
before_last-follow Other = lit< tt
before_last-follow Word = lit< tt
before_last-follow Newline = lit< tt

pub at_end-last : (s : Side) → at_the_end s < last_gaps
unfolding at_the_end
at_end-last Other = lit< tt
at_end-last Word = lit< tt
at_end-last Newline = lit< tt

pub at_start-first : (s : Side) → at_the_start s < first_gaps
unfolding at_the_start
at_start-first Other = lit< tt
at_start-first Word = lit< tt
at_start-first Newline = lit< tt

pub gap_of-follow : (line : Bool) (s t : Side) → gap_of line s t < follow_gaps
unfolding gap_of
gap_of-follow true s t = before_last-follow s
gap_of-follow false s t = lt_trans (between-inner s t) (lit< tt)

pub first_gap-first : (line : Bool) (taken : ℕ) (s t : Side) → first_gap line taken s t < first_gaps
unfolding first_gap
first_gap-first line taken s t = go (eqb taken 0) line
  where
    go : (start line : Bool) → cond start (cond line start_of_last (at_the_start t)) (gap_of line s t) < first_gaps
    go true true = lit< tt
    go true false = at_start-first t
    go false line = lt_trans (gap_of-follow line s t) (lit< tt)
