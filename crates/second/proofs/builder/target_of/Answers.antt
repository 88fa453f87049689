-- `second::builder::target_of` meets its contract: by cases on where the byte leads.
use mathlib.Core.Path.{◌≡◌, sym, ap, ◌∙◌}
use Prim.Native.Nat.{◌/◌, ◌%◌}
use native.Mathlib.Nat.{add-zero}
use native.Mathlib.Omega.{arith}
use Rattle.table.specs.Automaton.{automaton}
use Rattle.second.specs.declared.Key.{Key}
use Rattle.second.specs.Layout.{row_at}
use Rattle.second.specs.Entries.{first_of, needs_old}
use Rattle.second.specs.Invariants.{key_in, has_key, place_in}
use Rattle.second.proofs.Gathering.{leads-to, target-old, target_none, target-some}
use Rattle.second.proofs.builder.target_of.Goals as goal

pub key_at-k-requires : goal.key_at-k-requires
key_at-k-requires c =
    (c.requires.1, omega (arith, c.requires.2, c.requires.3))

pub needs_old-requires : goal.needs_old-requires
needs_old-requires c =
    c.requires.0

pub returns-then-needs_old : goal.returns-then-needs_old
returns-then-needs_old c =
    let a = c.args in
    let w = automaton a.words.now in
    let b = a.second.now in
    let asks = c.needs_old.ensures ∙ ap (λ (k : Key). needs_old w (a.n / 256) k (a.n % 256)) c.key_at-k.ensures in
    target-old w b a.count a.n (sym asks ∙ c.if-needs_old.true)

pub reach-requires : goal.reach-requires
reach-requires c =
    c.requires.0

pub without_starts-requires : goal.without_starts-requires
without_starts-requires c =
    c.requires.0

pub place-next-requires : goal.place-next-requires
place-next-requires c =
    (c.requires.1, c.requires.2)

pub returns-then-count-next : goal.returns-then-count-next
returns-then-count-next c =
    let a = c.args in
    let w = automaton a.words.now in
    let b = a.second.now in
    let asks = c.needs_old.ensures ∙ ap (λ (k : Key). needs_old w (a.n / 256) k (a.n % 256)) c.key_at-k.ensures in
    let where-is : c.place-next.result ≡ place_in w b a.count a.n = c.place-next.ensures ∙ ap (λ (k : Key). first_of a.count (has_key b k))
    (leads-to w (a.n / 256) (a.n % 256) (key_in b (a.n / 256)) c.key_at-k.result c.key_at-k.ensures c.reach.result c.reach.ensures c.without_starts.result c.without_starts.ensures) in
    target_none w b a.count a.n (sym asks ∙ c.if-needs_old.false) c.place-next.result where-is c.if-count-next.true

pub overflow_mul-row : goal.overflow_mul-row
overflow_mul-row c =
    omega (arith, c.requires.2, c.if-count-next.false)

pub overflow_add-row : goal.overflow_add-row
overflow_add-row c =
    omega (arith, c.requires.2, c.if-count-next.false)

pub is_quiet-requires : goal.is_quiet-requires
is_quiet-requires c =
    (c.requires.1, omega (arith, c.requires.2, c.requires.3), omega (arith, c.requires.2, c.if-count-next.false))

pub overflow_add-result : goal.overflow_add-result
overflow_add-result c =
    omega (arith, c.requires.2, c.if-count-next.false)

pub returns-then-is_quiet : goal.returns-then-is_quiet
returns-then-is_quiet c =
    let a = c.args in
    let w = automaton a.words.now in
    let b = a.second.now in
    let asks = c.needs_old.ensures ∙ ap (λ (k : Key). needs_old w (a.n / 256) k (a.n % 256)) c.key_at-k.ensures in
    let where-is : c.place-next.result ≡ place_in w b a.count a.n = c.place-next.ensures ∙ ap (λ (k : Key). first_of a.count (has_key b k))
    (leads-to w (a.n / 256) (a.n % 256) (key_in b (a.n / 256)) c.key_at-k.result c.key_at-k.ensures c.reach.result c.reach.ensures c.without_starts.result c.without_starts.ensures) in
    sym (add-zero (row_at c.place-next.result)) ∙ target-some w b a.count a.n (sym asks ∙ c.if-needs_old.false) c.place-next.result where-is (omega (arith, c.if-count-next.false)) _ (sym c.is_quiet.ensures ∙ c.if-is_quiet.true)

pub returns-else-is_quiet : goal.returns-else-is_quiet
returns-else-is_quiet c =
    let a = c.args in
    let w = automaton a.words.now in
    let b = a.second.now in
    let asks = c.needs_old.ensures ∙ ap (λ (k : Key). needs_old w (a.n / 256) k (a.n % 256)) c.key_at-k.ensures in
    let where-is : c.place-next.result ≡ place_in w b a.count a.n = c.place-next.ensures ∙ ap (λ (k : Key). first_of a.count (has_key b k))
    (leads-to w (a.n / 256) (a.n % 256) (key_in b (a.n / 256)) c.key_at-k.result c.key_at-k.ensures c.reach.result c.reach.ensures c.without_starts.result c.without_starts.ensures) in
    target-some w b a.count a.n (sym asks ∙ c.if-needs_old.false) c.place-next.result where-is (omega (arith, c.if-count-next.false)) _ (sym c.is_quiet.ensures ∙ c.if-is_quiet.false)
