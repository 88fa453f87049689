-- `table::ids_ok` meets its contract: the loop joins what tells of each id and the next that they
-- are in order (`Seen`).
use Rattle.std.proofs.Common.{◌≡◌, ℕ, suc, ◌+◌, ◌-◌, get_or, sym, ap, ◌∙◌, subst, arith}
use Rattle.table.specs.Layout.{id_at, id_word}
use Rattle.table.specs.Table.{id_ok, all}
use Rattle.table.specs.Invariants.{Unordered}
use Rattle.table.proofs.Test.{all_none}
use Rattle.table.proofs.Ids.{Seen, seen_first, seen_more, seen_all}
use Rattle.table.proofs.ids_ok.Goals as goal

pub returns-then-rules-eq0 : goal.returns-then-rules-eq0
returns-then-rules-eq0 c =
    let a = c.args in
    sym (ap (λ (n : ℕ). all n (id_ok a.words.now)) c.if-rules-eq0.true ∙ all_none (id_ok a.words.now))

pub loop-a-init : goal.loop-a-init
loop-a-init c = seen_first c.args.words.now (c.args.rules - 1)

pub loop-a-preserved : goal.loop-a-preserved
loop-a-preserved c =
    let l = c.loop-a in
    let t = c.args.words.now in
    let next : id_at l.a + 1 ≡ id_at (suc l.a) = omega arith in
    seen_more t (c.args.rules - 1) l.a l.joined c.unordered-joined.result l.invariant c.loop-a-test.true
    (subst (λ (i : ℕ). Unordered (id_word t l.a) (get_or t i 0) c.unordered-joined.result) next c.unordered-joined.ensures)

pub returns : goal.returns
returns c =
    let l = c.loop-a in
    let t = c.args.words.now in
    let last = c.args.rules - 1 in
    let done : l.a ≡ last = omega (arith, l.invariant.inside) in
    let whole : suc last ≡ c.args.rules = omega arith in
    seen_all t last l.joined (subst (λ (a : ℕ). Seen t last a l.joined) done l.invariant) ∙ ap (λ (n : ℕ). all n (id_ok t)) whole
