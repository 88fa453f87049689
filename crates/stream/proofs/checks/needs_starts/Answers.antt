-- `stream::checks::needs_starts` meets its contract: it asks for a keeper that is a position, and
-- for a rule that reports starts.
use mathlib.Core.Path.{◌≡◌, sym, ap, ◌∙◌}
use mathlib.Core.Bool.{Bool, true, not, ◌||◌, ◌&&◌}
use mathlib.Core.List.{List}
use Prim.Native.Nat.{ℕ, ◌≤◌}
use lib.Dec.{eqb, leb}
use borrow.Author.Tests.{le-leb, lt-leb}
use lib.ListN.{length}
use Rattle.sets.specs.Set.{kept_below, is_empty}
use Rattle.table.specs.Layout.{table_words, positions_of}
use Rattle.table.specs.Automaton.{automaton}
use Rattle.steps.specs.Step.{keepers_of, rules_where, set_on, number_on}
use Rattle.steps.proofs.TableSets.{set_on_lem, number-on}
use Rattle.stream.specs.Valid.{needs_starts}
use Rattle.stream.proofs.Bounds.{positions-word}
use Rattle.stream.proofs.Accepting.{starts_test, none_below}
use Rattle.stream.proofs.checks.needs_starts.Goals as goal

-- the test, by what is asked of the keepers below the number of positions
tested : (t keepers : List ℕ) (reporting : ℕ) → table_words ≤ length t → keepers ≡ set_on t (keepers_of (automaton t))
    → reporting ≡ number_on t (rules_where (automaton t) (automaton t).leftmost) → (none : Bool) → none ≡ is_empty (kept_below keepers (positions_of t))
    → (not none || not (eqb reporting 0)) ≡ (leb table_words (length t) && needs_starts (automaton t))
unfolding automaton
tested t keepers reporting long k r none is =
    let keeping = k ∙ set_on_lem t (keepers_of (automaton t)) long in
    ap (λ (b : Bool). not b || not (eqb reporting 0)) is
    ∙ starts_test (automaton t) (kept_below keepers (positions_of t)) reporting (ap (λ (s : List ℕ). kept_below s (positions_of t)) keeping)
    (r ∙ number-on t (rules_where (automaton t) (automaton t).leftmost) long)
    ∙ sym (ap (λ (b : Bool). b && needs_starts (automaton t)) (le-leb table_words (length t) long))

pub returns-then-words-lt-TABLE_WORDS : goal.returns-then-words-lt-TABLE_WORDS
returns-then-words-lt-TABLE_WORDS c =
    let t = c.args.words.now in
    sym (ap (λ (b : Bool). b && needs_starts (automaton t)) (lt-leb table_words (length t) c.if-words-lt-TABLE_WORDS.true))

pub returns-then-is_empty : goal.returns-then-is_empty
returns-then-is_empty c =
    let t = c.args.words.now in
    let k = c.keepers-keeping in
    let r = c.leftmosts-reporting in
    tested t k.result r.result c.if-words-lt-TABLE_WORDS.false k.ensures r.ensures true (sym (none_below k.result (positions_of t) (sym c.is_empty.ensures ∙ c.if-is_empty.true)))

pub bounds-words-2 : goal.bounds-words-2
bounds-words-2 c = positions-word (length c.args.words.now) c.if-words-lt-TABLE_WORDS.false

pub returns : goal.returns
returns c =
    let t = c.args.words.now in
    let k = c.keepers-keeping in
    let r = c.leftmosts-reporting in
    tested t k.result r.result c.if-words-lt-TABLE_WORDS.false k.ensures r.ensures c.is_empty-2.result (c.is_empty-2.ensures ∙ ap is_empty c.below.ensures)
