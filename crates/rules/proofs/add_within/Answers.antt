-- `rules::add_within` meets its contract: one law for each return, by the checks before it. The
-- windows are put in first, and the rule into the words that come of it.
use mathlib.Core.Path.{◌≡◌, refl, sym, ap, ap₂, subst, ◌∙◌}
use mathlib.Core.Bool.{Bool}
use mathlib.Core.List.{List}
use Prim.Native.Nat.{ℕ, ◌+◌, ◌≤◌, ◌<◌}
use native.Mathlib.Omega.{arith}
use lib.ListN.{length}
use Rattle.std.specs.Prelude.{Ok, Err}
use Rattle.refusals.proofs.Laws.{number-above}
use Rattle.table.specs.Layout.{table_words, max_rules, max_positions, rules_of, positions_of}
use Rattle.meaning.specs.Form.{write, positions}
use Rattle.nodes.specs.Nodes.{tree_at}
use Rattle.pattern.specs.Read.{Answer, answered}
use Rattle.pattern.specs.declared.bounds.Bounds.{Bounds}
use Rattle.pattern.specs.Windows.{windows_of}
use Rattle.rules.specs.Gaps.{parts_at}
use Rattle.rules.specs.Words.{added}
use Rattle.rules.specs.Add.{Addition, addition_in}
use Rattle.rules.proofs.Answer.{early, unfit, passed-table, passed-few, unread, too_many, long-room, few-room, fits-room, accepted}
use Rattle.rules.proofs.add_within.Goals as goal

-- what is added
abbrev new : (id flags : ℕ) → Bounds → List ℕ → Addition
new id flags bounds pattern = addition_in id flags (windows_of bounds) pattern

pub returns-then-fault-ne0 : goal.returns-then-fault-ne0
returns-then-fault-ne0 c =
    let a = c.args in
    early a.words.now (new a.id a.flags a.bounds a.pattern.now) c.first_fault-fault.result c.first_fault-fault.ensures c.if-fault-ne0.true

-- the first checks are passed
pub returns-then-size-ne0 : goal.returns-then-size-ne0
returns-then-size-ne0 c =
    let a = c.args in
    let checked = sym c.if-fault-ne0.false ∙ c.first_fault-fault.ensures in
    unfit a.words.now (new a.id a.flags a.bounds a.pattern.now) checked c.code-size.result (c.code-size.ensures ∙ c.size_fault.ensures) c.if-size-ne0.true

-- those of length and window are
pub returns-in-Err : goal.returns-in-Err
returns-in-Err c =
    let a = c.args in
    let checked = sym c.if-fault-ne0.false ∙ c.first_fault-fault.ensures in
    let sized = sym c.if-size-ne0.false ∙ (c.code-size.ensures ∙ c.size_fault.ensures) in
    rw c.number.ensures
    (unread a.words.now (new a.id a.flags a.bounds a.pattern.now) checked sized (answered (Err c.in-Err.fault)) c.in-Err.ensures
    (λ z. omega (arith, number-above c.in-Err.fault.refusal)))

pub bounds-words-2 : goal.bounds-words-2
bounds-words-2 c =
    let a = c.args in
    let p = passed-table a.words.now (new a.id a.flags a.bounds a.pattern.now) (sym c.if-fault-ne0.false ∙ c.first_fault-fault.ensures) in
    omega arith

pub overflow_add-words : goal.overflow_add-words
overflow_add-words c =
    let a = c.args in
    let p = passed-table a.words.now (new a.id a.flags a.bounds a.pattern.now) (sym c.if-fault-ne0.false ∙ c.first_fault-fault.ensures) in
    omega arith

-- the pattern is read
pub returns-then-words-reading-gt-MAX_POSITIONS : goal.returns-then-words-reading-gt-MAX_POSITIONS
returns-then-words-reading-gt-MAX_POSITIONS c =
    let a = c.args in
    let checked = sym c.if-fault-ne0.false ∙ c.first_fault-fault.ensures in
    let sized = sym c.if-size-ne0.false ∙ (c.code-size.ensures ∙ c.size_fault.ensures) in
    too_many a.words.now (new a.id a.flags a.bounds a.pattern.now) checked sized (answered (Ok c.in-Ok.reading)) c.in-Ok.ensures refl
    c.if-words-reading-gt-MAX_POSITIONS.true

-- there is room for its positions
pub put_window-requires : goal.put_window-requires
put_window-requires c =
    let a = c.args in
    let n = new a.id a.flags a.bounds a.pattern.now in
    let checked = sym c.if-fault-ne0.false ∙ c.first_fault-fault.ensures in
    let table = passed-table a.words.now n checked in
    (table.long, passed-few a.words.now n checked, table.positions)

-- the words with the windows
abbrev Ready : Answer → List ℕ → Type 0
Ready r s = (table_words ≤ length s) × (rules_of s < max_rules) × (positions_of s + positions (write (tree_at r.nodes r.root)) ≤ max_positions)

pub add_rule-requires : goal.add_rule-requires
add_rule-requires c =
    let a = c.args in
    let t = a.words.now in
    let n = new a.id a.flags a.bounds a.pattern.now in
    let checked = sym c.if-fault-ne0.false ∙ c.first_fault-fault.ensures in
    let sized = sym c.if-size-ne0.false ∙ (c.code-size.ensures ∙ c.size_fault.ensures) in
    let r = answered (Ok c.in-Ok.reading) in
    let is = c.in-Ok.ensures in
    let good = refl in
    let few = c.if-words-reading-gt-MAX_POSITIONS.false in
    subst (Ready r) (sym c.put_window.ensures)
    (long-room t n checked sized r is good few, few-room t n checked sized r is good few, fits-room t n checked sized r is good few)

pub returns : goal.returns
returns c =
    let a = c.args in
    let checked = sym c.if-fault-ne0.false ∙ c.first_fault-fault.ensures in
    let sized = sym c.if-size-ne0.false ∙ (c.code-size.ensures ∙ c.size_fault.ensures) in
    let r = answered (Ok c.in-Ok.reading) in
    accepted a.words.now (new a.id a.flags a.bounds a.pattern.now) checked sized r c.in-Ok.ensures refl
    c.if-words-reading-gt-MAX_POSITIONS.false c.add_rule.new.words
    (c.add_rule.ensures ∙ ap₂ (λ (s : List ℕ) (k : Bool). added s a.id a.flags k (parts_at (tree_at r.nodes r.root) (positions_of s)))
    c.put_window.ensures c.needs_start.ensures)
