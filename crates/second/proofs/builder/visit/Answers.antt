-- `second::builder::visit` meets its contract: each test that it makes settles whether there is one
-- entry more.
use mathlib.Core.Path.{◌≡◌, ap, ◌∙◌}
use mathlib.Core.Bool.{false, true}
use Prim.Native.Nat.{◌+◌, ◌/◌, ◌%◌, ◌<◌}
use native.Mathlib.Omega.{arith}
use Rattle.table.specs.Automaton.{automaton}
use Rattle.table.specs.Invariants.{copied}
use Rattle.second.specs.declared.Key.{Key}
use Rattle.second.specs.Layout.{record_at}
use Rattle.second.specs.Entries.{first_of, record_of}
use Rattle.second.specs.Invariants.{key_in, has_key, key_after, place_in, grows}
use Rattle.second.proofs.Gathering.{leads-to, asked-out, asked-known, asked-full, asked-new, number-if, number-if-not, words-if, words-if-not}
use Rattle.second.proofs.builder.visit.Goals as goal

pub returns-then-count-e : goal.returns-then-count-e
returns-then-count-e c =
    let a = c.args in
    let w = automaton a.words.now in
    let b = a.second.now in
    let g = grows w b a.count a.n in
    let more = copied (record_at a.count) 16 (record_of w (key_after w b a.count a.n)) b in
    let none : g ≡ false = asked-out w b a.count a.n (omega (arith, c.if-count-e.true)) in
    record {
      count = number-if-not g (a.count + 1) a.count none;
      words = words-if-not g more b none;
    }

pub key_at-requires : goal.key_at-requires
key_at-requires c =
    (c.requires.1, omega (arith, c.if-count-e.false, c.requires.2))

pub reach-requires : goal.reach-requires
reach-requires c =
    c.requires.0

pub without_starts-k-requires : goal.without_starts-k-requires
without_starts-k-requires c =
    c.requires.0

pub place-requires : goal.place-requires
place-requires c =
    (c.requires.1, c.requires.2)

pub returns-then-place-count : goal.returns-then-place-count
returns-then-place-count c =
    let a = c.args in
    let w = automaton a.words.now in
    let b = a.second.now in
    let g = grows w b a.count a.n in
    let more = copied (record_at a.count) 16 (record_of w (key_after w b a.count a.n)) b in
    let key : c.without_starts-k.result ≡ key_after w b a.count a.n = leads-to w (a.n / 256) (a.n % 256) (key_in b (a.n / 256)) c.key_at.result c.key_at.ensures c.reach.result c.reach.ensures c.without_starts-k.result c.without_starts-k.ensures in
    let where-is : c.place.result ≡ place_in w b a.count a.n = c.place.ensures ∙ ap (λ (k : Key). first_of a.count (has_key b k)) key in
    let inside : a.n / 256 < a.count = omega (arith, c.if-count-e.false) in
    let none : g ≡ false = asked-known w b a.count a.n inside (omega (arith, where-is, c.if-place-count.true)) in
    record {
      count = number-if-not g (a.count + 1) a.count none;
      words = words-if-not g more b none;
    }

pub returns-then-count-ge-MAX_ENTRIES : goal.returns-then-count-ge-MAX_ENTRIES
returns-then-count-ge-MAX_ENTRIES c =
    let a = c.args in
    let w = automaton a.words.now in
    let b = a.second.now in
    let g = grows w b a.count a.n in
    let more = copied (record_at a.count) 16 (record_of w (key_after w b a.count a.n)) b in
    let key : c.without_starts-k.result ≡ key_after w b a.count a.n = leads-to w (a.n / 256) (a.n % 256) (key_in b (a.n / 256)) c.key_at.result c.key_at.ensures c.reach.result c.reach.ensures c.without_starts-k.result c.without_starts-k.ensures in
    let where-is : c.place.result ≡ place_in w b a.count a.n = c.place.ensures ∙ ap (λ (k : Key). first_of a.count (has_key b k)) key in
    let inside : a.n / 256 < a.count = omega (arith, c.if-count-e.false) in
    let none : g ≡ false = asked-full w b a.count a.n inside (omega (arith, c.if-count-ge-MAX_ENTRIES.true)) in
    record {
      count = number-if-not g (a.count + 1) a.count none;
      words = words-if-not g more b none;
    }

pub put_entry-requires : goal.put_entry-requires
put_entry-requires c =
    (c.requires.0, c.requires.1, omega (arith, c.if-count-ge-MAX_ENTRIES.false))

pub returns : goal.returns
returns c =
    let a = c.args in
    let w = automaton a.words.now in
    let b = a.second.now in
    let g = grows w b a.count a.n in
    let more = copied (record_at a.count) 16 (record_of w (key_after w b a.count a.n)) b in
    let key : c.without_starts-k.result ≡ key_after w b a.count a.n = leads-to w (a.n / 256) (a.n % 256) (key_in b (a.n / 256)) c.key_at.result c.key_at.ensures c.reach.result c.reach.ensures c.without_starts-k.result c.without_starts-k.ensures in
    let where-is : c.place.result ≡ place_in w b a.count a.n = c.place.ensures ∙ ap (λ (k : Key). first_of a.count (has_key b k)) key in
    let inside : a.n / 256 < a.count = omega (arith, c.if-count-e.false) in
    let new : g ≡ true = asked-new w b a.count a.n inside (omega (arith, where-is, c.if-place-count.false)) (omega (arith, c.if-count-ge-MAX_ENTRIES.false)) in
    record {
      count = number-if g (a.count + 1) a.count new;
      words = c.put_entry.ensures ∙ ap (λ (k : Key). copied (record_at a.count) 16 (record_of w k) b) key ∙ words-if g more b new;
    }
