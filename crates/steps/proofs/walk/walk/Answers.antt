-- `steps::walk::walk` meets its contract: the walks over the four words, one after the other.
use mathlib.Core.Path.{◌≡◌, sym, subst}
use mathlib.Core.List.{List}
use Prim.Native.Nat.{ℕ, ◌<◌, ◌≤◌}
use lib.Count.{ones}
use lib.Dec.{lit<, lit≤}
use lib.ListN.{get_or}
use Rattle.sets.proofs.Laws.{Words}
use Rattle.steps.proofs.Asked.{few}
use Rattle.steps.proofs.Bounds.{words-good, two-turns, three-turns, four-turns}
use Rattle.steps.proofs.Walked.{turns-all, walked_all}
use Rattle.steps.proofs.walk.walk.Goals as goal

turns : {live : List ℕ} → Words live → (i : ℕ) → i < 4 → {n : ℕ} → n ≡ ones (get_or live i 0) → n ≤ 64
turns {live} w i h {n} e = subst (λ (x : ℕ). x ≤ 64) (sym e) (few (get_or live i 0) (w.small i h))

pub bounds-live-0 : goal.bounds-live-0
bounds-live-0 c = lit< tt

pub walk_word-a-requires : goal.walk_word-a-requires
walk_word-a-requires c =
    (c.requires.0, lit≤ tt, c.requires.1)

pub bounds-live-1 : goal.bounds-live-1
bounds-live-1 c = lit< tt

pub walk_word-b-requires : goal.walk_word-b-requires
walk_word-b-requires c =
    (c.requires.0, lit≤ tt, c.requires.1)

pub bounds-live-2 : goal.bounds-live-2
bounds-live-2 c = lit< tt

pub walk_word-c-requires : goal.walk_word-c-requires
walk_word-c-requires c =
    (c.requires.0, lit≤ tt, c.requires.1)

pub bounds-live-3 : goal.bounds-live-3
bounds-live-3 c = lit< tt

pub walk_word-d-requires : goal.walk_word-d-requires
walk_word-d-requires c =
    (c.requires.0, lit≤ tt, c.requires.1)

pub overflow_add-result : goal.overflow_add-result
overflow_add-result c =
    let own = words-good c.args.live _ c.well_formed.0 in
    two-turns c.walk_word-a.result.turns c.walk_word-b.result.turns (turns own 0 (lit< tt) c.walk_word-a.ensures.0) (turns own 1 (lit< tt) c.walk_word-b.ensures.0)

pub overflow_add-result-2 : goal.overflow_add-result-2
overflow_add-result-2 c =
    let own = words-good c.args.live _ c.well_formed.0 in
    three-turns c.walk_word-a.result.turns c.walk_word-b.result.turns c.walk_word-c.result.turns (turns own 0 (lit< tt) c.walk_word-a.ensures.0) (turns own 1 (lit< tt) c.walk_word-b.ensures.0) (turns own 2 (lit< tt) c.walk_word-c.ensures.0)

pub overflow_add-result-3 : goal.overflow_add-result-3
overflow_add-result-3 c =
    let own = words-good c.args.live _ c.well_formed.0 in
    four-turns c.walk_word-a.result.turns c.walk_word-b.result.turns c.walk_word-c.result.turns c.walk_word-d.result.turns (turns own 0 (lit< tt) c.walk_word-a.ensures.0) (turns own 1 (lit< tt) c.walk_word-b.ensures.0) (turns own 2 (lit< tt) c.walk_word-c.ensures.0) (turns own 3 (lit< tt) c.walk_word-d.ensures.0)

pub returns : goal.returns
returns c =
    let live = c.args.live in
    let from = c.args.from in
    let own = words-good live _ c.well_formed.0 in record {
      turns = turns-all live own c.walk_word-a.result.turns c.walk_word-b.result.turns c.walk_word-c.result.turns c.walk_word-d.result.turns
          c.walk_word-a.ensures.0 c.walk_word-b.ensures.0 c.walk_word-c.ensures.0 c.walk_word-d.ensures.0;
      set = walked_all c.args.words.now c.args.rows live from c.walk_word-a.result.set c.walk_word-b.result.set c.walk_word-c.result.set c.walk_word-d.result.set own (words-good from _ c.well_formed.1.0)
          c.walk_word-a.ensures.1 c.walk_word-b.ensures.1 c.walk_word-c.ensures.1 c.walk_word-d.ensures.1;
    }
