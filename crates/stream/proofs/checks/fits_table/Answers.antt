-- `stream::checks::fits_table` meets its contract: it joins the tests of `sound`, both sets' in
-- one.
use mathlib.Core.Path.{ap, ◌∙◌}
use mathlib.Core.Bool.{not, ◌&&◌, ◌||◌}
use mathlib.Core.List.{List}
use Prim.Native.Nat.{ℕ}
use lib.Dec.{eqb, leb, ltb}
use lib.ListN.{length}
use Rattle.sets.specs.Set.{has, any, is_empty}
use Rattle.table.specs.Layout.{max_positions, rules_of, positions_of}
use Rattle.table.specs.Automaton.{automaton}
use Rattle.stream.specs.Valid.{stream_limit, same_counts, marks_single, under_limit, pending_inside, pending_late}
use Rattle.stream.proofs.Bounds.{rules-word, positions-word}
use Rattle.stream.proofs.Accepting.{sound-order}
use Rattle.stream.proofs.checks.fits_table.Goals as goal

pub bounds-words-1 : goal.bounds-words-1
bounds-words-1 c =
    let c-start = c in
    rules-word (length c-start.args.words.now) c-start.requires

pub bounds-words-2 : goal.bounds-words-2
bounds-words-2 c =
    let c-start = c in
    positions-word (length c-start.args.words.now) c-start.requires

pub marks_single-marked-requires : goal.marks_single-marked-requires
marks_single-marked-requires c = c.requires

pub returns : goal.returns
unfolding same_counts marks_single under_limit pending_inside pending_late automaton
returns c =
    let c-empty = c.is_empty in
    let c-pending = c in
    let c-marks = c-pending.marks_single-marked in
    let c-inside = c-pending.inside-positioned in
    let s = c.args.s in
    let t = c.args.words.now in
    let inside =
    c-inside.ensures
    ∙ ap (λ (x : List ℕ). not (any max_positions (λ q. has x q && leb (positions_of t) q)))
    c.union-both.ensures in
    let empty = c-empty.ensures ∙ ap is_empty c.union-both.ensures in
    (λ i. (eqb s.rules (rules_of t) && eqb s.positions (positions_of t))
    && (inside i && (c-marks.ensures i && (leb s.taken stream_limit
    && ((c-pending.pending_inside.ensures i && (eqb s.pending 0 || leb 2 s.taken))
    && (empty i || ltb 0 s.taken))))))
    ∙ sound-order (automaton t) s
