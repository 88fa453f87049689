-- The test of a second table: what some entries name is tested at once, joined; and how the tests
-- of the header settle it.
use mathlib.Core.Path.{◌≡◌, refl, sym, ap, ap₂, ◌∙◌}
use mathlib.Core.Bool.{Bool, true, false, true≢false, not, ◌&&◌, ◌||◌, and-false}
use mathlib.Core.List.{List}
use Prim.Native.Nat.{ℕ, zero, suc, ◌+◌, ◌≤◌}
use native.Mathlib.Numerals.{add-one}
use lib.Bits.{bit_or}
use lib.Dec.{eqb, leb, ltb}
use lib.ListN.{length, get_or}
use borrow.Author.Tests.{le-leb, leb-true}
use Rattle.sets.specs.Set.{on, has, any, empty_set, union_of, size_of}
use Rattle.sets.proofs.Bits.{on_or, on-zero}
use Rattle.sets.proofs.Laws.{has-empty, has-union, any-ext, any-never}
use Rattle.kinds.specs.declared.Side.TheVariants.{Other, Word, Newline}
use Rattle.table.specs.Layout.{max_positions, rules_of, positions_of}
use Rattle.table.specs.Table.{all}
use Rattle.second.specs.declared.test.Named.{Named}
use Rattle.second.specs.Layout.{second_words, second_format, second_rules, second_positions, max_entries, entries_of, entry_live, entry_held, entry_pending, entry_own, entry_late, entry_busy}
use Rattle.second.specs.Second.{positions_in, rules_in, entry_ok, is_second}
use Rattle.second.specs.Invariants.{named_by, named_by_all, joined}

-- ---- joined tests

any-either : (n : ℕ) (f g : ℕ → Bool) → any n (λ q. f q || g q) ≡ (any n f || any n g)
unfolding any
any-either zero f g = refl
any-either (suc n) f g = ap (λ (b : Bool). b || (f n || g n)) (any-either n f g) ∙ go (any n f) (any n g) (f n) (g n)
  where
    go : (a b p q : Bool) → ((a || b) || (p || q)) ≡ ((a || p) || (b || q))
    go true b p q = refl
    go false true true q = refl
    go false true false q = refl
    go false false p q = refl

not-either : (a b : Bool) → not (a || b) ≡ (not a && not b)
not-either true b = refl
not-either false b = refl

either-and : (a b c : Bool) → ((a || b) && c) ≡ ((a && c) || (b && c))
either-and true true true = refl
either-and true true false = refl
either-and true false true = refl
either-and true false false = refl
either-and false b c = refl

-- a test of the members of two sets, and of the digits of two words
positions-join : (n : ℕ) (s t : List ℕ) → positions_in n (union_of s t) ≡ (positions_in n s && positions_in n t)
unfolding positions_in
positions-join n s t =
    ap not (any-ext max_positions (λ q. has (union_of s t) q && leb n q) (λ q. (has s q && leb n q) || (has t q && leb n q))
    (λ q h. ap (λ (b : Bool). b && leb n q) (has-union s t q h) ∙ either-and (has s q) (has t q) (leb n q))
    ∙ any-either max_positions (λ q. has s q && leb n q) (λ q. has t q && leb n q))
    ∙ not-either (any max_positions (λ q. has s q && leb n q)) (any max_positions (λ q. has t q && leb n q))

rules-join : (n a b : ℕ) → rules_in n (bit_or a b) ≡ (rules_in n a && rules_in n b)
unfolding rules_in
rules-join n a b =
    ap not (any-ext 64 (λ k. on (bit_or a b) k && not (ltb k n)) (λ k. (on a k && not (ltb k n)) || (on b k && not (ltb k n)))
    (λ k h. ap (λ (d : Bool). d && not (ltb k n)) (on_or a b k) ∙ either-and (on a k) (on b k) (not (ltb k n)))
    ∙ any-either 64 (λ k. on a k && not (ltb k n)) (λ k. on b k && not (ltb k n)))
    ∙ not-either (any 64 (λ k. on a k && not (ltb k n))) (any 64 (λ k. on b k && not (ltb k n)))

-- ---- what entries name

module _ (rules positions : ℕ) where
  -- what is named is there
  abbrev pub there : Named → Bool
  there m = positions_in positions m.set && (rules_in rules m.rules && m.counted)

  join-there : (a b : Named) → there (joined a b) ≡ (there a && there b)
  join-there a b =
      ap₂ (λ (p r : Bool). p && (r && (a.counted && b.counted))) (positions-join positions a.set b.set) (rules-join rules a.rules b.rules)
      ∙ go (positions_in positions a.set) (rules_in rules a.rules) a.counted (positions_in positions b.set) (rules_in rules b.rules) b.counted
    where
      go : (p r c u v d : Bool) → ((p && u) && ((r && v) && (c && d))) ≡ ((p && (r && c)) && (u && (v && d)))
      go false r c u v d = refl
      go true false c u v d = and-false u
      go true true false u true d = and-false u
      go true true false u false d = and-false u
      go true true true u v d = refl

  module _ (c : List ℕ) where
    entry-there : (e : ℕ) → there (named_by c e) ≡ entry_ok rules positions c e
    unfolding named_by entry_ok
    entry-there e =
        let late = rules-join rules (bit_or (entry_late c e Other) (entry_late c e Word)) (entry_late c e Newline)
        ∙ ap (λ (b : Bool). b && rules_in rules (entry_late c e Newline)) (rules-join rules (entry_late c e Other) (entry_late c e Word)) in
        let named = rules-join rules (bit_or (entry_pending c e) (entry_own c e)) (bit_or (bit_or (entry_late c e Other) (entry_late c e Word)) (entry_late c e Newline))
        ∙ ap₂ (λ (a b : Bool). a && b) (rules-join rules (entry_pending c e) (entry_own c e)) late in
        ap₂ (λ (p r : Bool). p && (r && eqb (entry_busy c e) (size_of (entry_live c e)))) (positions-join positions (entry_live c e) (entry_held c e)) named
        ∙ go (positions_in positions (entry_live c e)) (positions_in positions (entry_held c e)) (rules_in rules (entry_pending c e)) (rules_in rules (entry_own c e))
        (rules_in rules (entry_late c e Other)) (rules_in rules (entry_late c e Word)) (rules_in rules (entry_late c e Newline)) (eqb (entry_busy c e) (size_of (entry_live c e)))
      where
        go : (a b p o x y z n : Bool) → ((a && b) && (((p && o) && ((x && y) && z)) && n)) ≡ (a && (b && (p && (o && (x && (y && (z && n)))))))
        go false b p o x y z n = refl
        go true false p o x y z n = refl
        go true true false o x y z n = refl
        go true true true false x y z n = refl
        go true true true true false y z n = refl
        go true true true true true false z n = refl
        go true true true true true true z n = refl

    none-there : there (named_by_all c 0) ≡ true
    unfolding named_by_all positions_in rules_in
    none-there =
        ap₂ (λ (a b : Bool). a && (b && true))
        (ap not (any-never max_positions (λ q. has empty_set q && leb positions q) (λ q h. ap (λ (b : Bool). b && leb positions q) (has-empty q h))))
        (ap not (any-never 64 (λ a. on 0 a && not (ltb a rules)) (λ a h. ap (λ (b : Bool). b && not (ltb a rules)) (on-zero a))))

    pub all_there : (n : ℕ) → there (named_by_all c n) ≡ all n (entry_ok rules positions c)
    unfolding all named_by_all
    all_there zero = none-there
    all_there (suc n) = join-there (named_by_all c n) (named_by c n) ∙ ap₂ (λ (a b : Bool). a && b) (all_there n) (entry-there n)

pub named_more : (c : List ℕ) (n : ℕ) → joined (named_by_all c n) (named_by c n) ≡ named_by_all c (n + 1)
unfolding named_by_all
named_more c n = ap (named_by_all c) (sym (add-one n))

pub named_none : (c : List ℕ) → record { set = empty_set; rules = 0; counted = true } ≡ named_by_all c 0
unfolding named_by_all
named_none c = refl

-- ---- the test

module _ (t c : List ℕ) where
  pub too_few : leb second_words (length c) ≡ false → false ≡ is_second t c
  unfolding is_second
  too_few e = sym (rw e)

  -- the header's tests, as they are asked
  abbrev header : Bool
  header = eqb (get_or c 0 0) second_format && ((eqb (second_rules c) (rules_of t) && eqb (second_positions c) (positions_of t)) && leb (entries_of c) max_entries)

  module _ (rules positions : ℕ) (rules_are : rules ≡ rules_of t) (positions_are : positions ≡ positions_of t) where
    abbrev pub asked : Bool
    asked = eqb (get_or c 0 0) second_format && ((eqb (second_rules c) rules && eqb (second_positions c) positions) && leb (entries_of c) max_entries)

    asked_is : asked ≡ header
    asked_is = λ i. eqb (get_or c 0 0) second_format && ((eqb (second_rules c) (rules_are i) && eqb (second_positions c) (positions_are i)) && leb (entries_of c) max_entries)

    pub few-entries : asked ≡ true → entries_of c ≤ max_entries
    few-entries e = go (eqb (get_or c 0 0) second_format) (eqb (second_rules c) rules && eqb (second_positions c) positions) e
      where
        go : (a b : Bool) → (a && (b && leb (entries_of c) max_entries)) ≡ true → entries_of c ≤ max_entries
        go true true h = leb-true (entries_of c) max_entries h
        go true false h = absurd (true≢false (sym h))
        go false b h = absurd (true≢false (sym h))

    module _ (long : second_words ≤ length c) where
      by-header : (header && all (entries_of c) (entry_ok (rules_of t) (positions_of t) c)) ≡ is_second t c
      unfolding is_second
      by-header =
          go (eqb (get_or c 0 0) second_format) (eqb (second_rules c) (rules_of t)) (eqb (second_positions c) (positions_of t)) (leb (entries_of c) max_entries) (all (entries_of c) (entry_ok (rules_of t) (positions_of t) c))
          ∙ sym (rw (le-leb second_words (length c) long))
        where
          go : (a b d e f : Bool) → ((a && ((b && d) && e)) && f) ≡ (a && (b && (d && (e && f))))
          go false b d e f = refl
          go true false d e f = refl
          go true true false e f = refl
          go true true true e f = refl

      pub header-fails : asked ≡ false → false ≡ is_second t c
      header-fails e = sym (ap (λ (b : Bool). b && all (entries_of c) (entry_ok (rules_of t) (positions_of t) c)) (sym asked_is ∙ e)) ∙ by-header

      -- what the entries name settles it
      pub header-holds : asked ≡ true → (m : Named) → m ≡ named_by_all c (entries_of c) → (within ruled : Bool)
          → within ≡ not (any max_positions (λ q. has m.set q && leb positions q)) → ruled ≡ not (any 64 (λ a. on m.rules a && not (ltb a rules)))
          → (within && (ruled && m.counted)) ≡ is_second t c
      unfolding positions_in rules_in
      header-holds e m named within ruled within-is ruled-is =
          ap₂ (λ (p r : Bool). p && (r && m.counted)) within-is ruled-is
          ∙ (λ i. there (rules_are i) (positions_are i) (named i)) ∙ all_there (rules_of t) (positions_of t) c (entries_of c)
          ∙ sym (ap (λ (b : Bool). b && all (entries_of c) (entry_ok (rules_of t) (positions_of t) c)) (sym asked_is ∙ e)) ∙ by-header
