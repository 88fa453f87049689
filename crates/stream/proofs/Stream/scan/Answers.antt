-- `stream::Stream::scan` meets its contract: the number settles which way it goes.
use mathlib.Core.Path.{◌≡◌, refl, ◌∙◌, subst}
use mathlib.Core.Bool.{true}
use mathlib.Core.List.{List}
use Prim.Native.Nat.{ℕ, zero-le}
use lib.ListN.{length, take}
use Rattle.std.proofs.lemmas.Result.{err_from_is_err_and}
use Rattle.refusals.specs.Refusal.{number_of}
use Rattle.table.specs.Layout.{table_words}
use Rattle.table.specs.Table.{is_table}
use Rattle.table.specs.Automaton.{Automaton}
use Rattle.table.proofs.Test.{passes}
use Rattle.table.proofs.Local.{first-automaton, first-table}
use Rattle.stream.specs.Calls.{lists, call, space}
use Rattle.stream.specs.Invariants.{Advanced}
use Rattle.stream.proofs.Bounds.{short-fits}
use Rattle.stream.proofs.Accepting.{taken-up, numbered}
use Rattle.stream.proofs.Answers.{scan_refused, scan_accepted}
use Rattle.stream.proofs.Stream.scan.Goals as goal

pub returns-in_err-refusal : goal.returns-in_err-refusal
returns-in_err-refusal c =
    let a = c.args in
    let t = a.words.now in
    let b = a.block.now in
    let inputs = call a.allowance b (lists a.ids.now a.offsets.now) in
    let r = c.in_err-refusal in
    let number = numbered t a.self (length b) c.min.result (number_of r.field-0.0) r.ensures (space inputs.slots) c.min.ensures in
    let both = scan_refused t a.self inputs r.field-0.0 number in
    let p = err_from_is_err_and c.from_residual.result c.from_residual.ensures.1 in
    rw (p.1, p.2) (record { answer = both.0; lists = both.1 })

-- the words of the table are there, and are a table by themselves
whole : (t : List ℕ) → is_table t ≡ true → is_table (take table_words t) ≡ true
whole t e = first-table t ∙ e

pub slice_bounds-table-count : goal.slice_bounds-table-count
slice_bounds-table-count c = zero-le

pub slice_bounds-table-start : goal.slice_bounds-table-start
slice_bounds-table-start c = zero-le

pub slice_bounds-table-end : goal.slice_bounds-table-end
slice_bounds-table-end c = (passes c.args.words.now (taken-up c.args.words.now c.args.self (length c.args.block.now) c.min.result 0 c.in_ok-refusal.ensures refl).table).long

pub sets_of-requires : goal.sets_of-requires
sets_of-requires c = (passes (take table_words c.args.words.now) (whole c.args.words.now (taken-up c.args.words.now c.args.self (length c.args.block.now) c.min.result 0 c.in_ok-refusal.ensures refl).table)).long

pub advance-requires : goal.advance-requires
advance-requires c =
    let ok = taken-up c.args.words.now c.args.self (length c.args.block.now) c.min.result 0 c.in_ok-refusal.ensures refl in
    (whole c.args.words.now ok.table, c.sets_of.ensures, short-fits c.args.self.taken (length c.args.block.now) ok.short)

pub returns : goal.returns
returns c =
    let a = c.args in
    let t = a.words.now in
    let b = a.block.now in
    let inputs = call a.allowance b (lists a.ids.now a.offsets.now) in
    let r = c.in_ok-refusal in
    let number = numbered t a.self (length b) c.min.result 0 r.ensures (space inputs.slots) c.min.ensures in
    let done = c.advance in
    let last = lists done.new.ids done.new.offsets in
    let both =
    scan_accepted t a.self inputs number done.result last
    (subst (λ (w : Automaton). Advanced w a.self inputs.allowance b inputs.slots done.result last) (first-automaton t) done.ensures) in
    record { answer = both.0; lists = both.1 }
