-- `lengths::long_in` meets its contract: no rule has a smallest length, or the set is looked at
-- word by word.
use mathlib.Core.Path.{◌≡◌, sym, ◌∙◌}
use mathlib.Core.List.{[], ◌∷◌}
use Prim.Native.Nat.{ℕ}
use Rattle.table.specs.Automaton.{automaton}
use Rattle.steps.proofs.Bounds.{words-good}
use Rattle.steps.proofs.TableSets.{set_on_lem, set-off}
use Rattle.lengths.specs.Long.{long_in}
use Rattle.lengths.proofs.Long.{all-long, long-words}
use Rattle.lengths.proofs.long_in.Goals as goal

list_of : {a b c d a' b' c' d' : ℕ} → a ≡ a' → b ≡ b' → c ≡ c' → d ≡ d' → a ∷ b ∷ c ∷ d ∷ [] ≡ a' ∷ b' ∷ c' ∷ d' ∷ []
list_of e f g h = cc

pub returns-then-words-lt-TABLE_WORDS : goal.returns-then-words-lt-TABLE_WORDS
returns-then-words-lt-TABLE_WORDS c =
    let a = c.args in
    let t = a.words.now in
    c.empty.ensures ∙ sym (set-off t (long_in (automaton t) a.set a.starts.now a.end) c.if-words-lt-TABLE_WORDS.true)

pub returns-then-words-eq0 : goal.returns-then-words-eq0
returns-then-words-eq0 c =
    let a = c.args in
    let t = a.words.now in
    all-long t a.set a.starts.now a.end (words-good a.set _ c.well_formed.0) c.if-words-eq0.true
    ∙ sym (set_on_lem t (long_in (automaton t) a.set a.starts.now a.end) c.if-words-lt-TABLE_WORDS.false)

pub returns : goal.returns
returns c =
    let a = c.args in
    let t = a.words.now in
    list_of c.long_word-a.ensures c.long_word-b.ensures c.long_word-c.ensures c.long_word-d.ensures
    ∙ long-words t a.set a.starts.now a.end c.if-words-eq0.false
    ∙ sym (set_on_lem t (long_in (automaton t) a.set a.starts.now a.end) c.if-words-lt-TABLE_WORDS.false)
