-- One rule over the whole table of names: each of its names is read, plain and negated, caseless or
-- not, and a class of it alone has exactly the bytes of its kind. What the table must have for that
-- is computed over all its rows.
use mathlib.Core.Path.{◌≡◌, refl, sym, ap}
use mathlib.Core.Bool.{Bool, true, false, cond, ◌&&◌, and-eq-true_iff, true≢false}
use mathlib.Core.List.{List, [], ◌∷◌, ◌++◌}
use Prim.Native.Nat.{ℕ, zero, suc, ◌+◌, ◌<◌}
use native.Mathlib.Omega.{arith}
use borrow.Author.Tests.{eqb-true, eq-eqb, ne_eqb}
use lib.Dec.{eqb}
use lib.ListN.{length, get_or}
use Rattle.sets.specs.Set.{on, has, word_of, set_of, empty_set, union_of, complement_of}
use Rattle.kinds.specs.Kind.{is_digit, is_lower, is_upper, is_word, is_space, is_alpha, is_alnum, is_ascii, is_blank, is_cntrl, is_graph, is_print}
use Rattle.kinds.specs.Kind.{is_punct, is_xdigit}
use Rattle.kinds.specs.Case.{other_case, case_closed}
use Rattle.kinds.specs.declared.Kind.TheVariants.{Xdigit}
use Rattle.atoms.specs.Fault.{lower}
use Rattle.atoms.specs.Raw.{any_raw, with_raw}
use Rattle.atoms.specs.Escape.{good}
use Rattle.classes.specs.Name.{Name, name, names, bytes, begins, named, name_among, name_of, name_at, class_text, named_byte}
use Rattle.atoms.specs.Quote.{is_mark, gap_of}
use Rattle.classes.specs.Class.{bracket_of, member_of, joint_of, member_at, joined, closed_class, settled, members_of, class_of, spelled_at}
use Rattle.classes.specs.Class.{Class}
use Rattle.classes.proofs.Spellings.{every, every-row, rows, row-rule, name-letter}

-- ---- each name is read

begins-itself : (text rest : List ℕ) → begins text (text ++ rest) ≡ true
unfolding begins
begins-itself [] rest = refl
begins-itself (c ∷ text) rest = rw (eq-eqb c c refl) (begins-itself text rest)

-- the texts differ before either ends
unfoldable apart : List ℕ → List ℕ → Bool
apart [] u = false
apart (b ∷ t) [] = false
apart (b ∷ t) (c ∷ u) = cond (eqb b c) (apart t u) true

apart-begins : (t u rest : List ℕ) → apart t u ≡ true → begins t (u ++ rest) ≡ false
unfolding apart begins
apart-begins [] u rest e = absurd (true≢false (sym e))
apart-begins (b ∷ t) [] rest e = absurd (true≢false (sym e))
apart-begins (b ∷ t) (c ∷ u) rest e = go (eqb b c) e (apart-begins t u rest)
  where
    go : (z : Bool) → cond z (apart t u) true ≡ true → (apart t u ≡ true → begins t (u ++ rest) ≡ false) → (z && begins t (u ++ rest)) ≡ false
    go true y f = f y
    go false y f = refl

-- no name is the beginning of another
unfoldable distinct : List Name → Bool
distinct [] = true
distinct (n ∷ ns) = every (λ m. apart n.text m.text) ns && distinct ns

module _ (caseless negated : Bool) (lead : ℕ) (rest : List ℕ) where
  among-read : (ns : List Name) (d : Name) (i : ℕ) → distinct ns ≡ true → i < length ns
      → name_among ns caseless negated lead ((get_or ns i d).text ++ rest)
      ≡ good (lead + length (get_or ns i d).text) (named caseless negated (get_or ns i d).kind)
  unfolding name_among distinct
  among-read [] d i t l = absurd (omega arith)
  among-read (n ∷ ns) d zero t l = rw (begins-itself n.text rest)
  among-read (n ∷ ns) d (suc i) t l =
      let parts = (and-eq-true_iff (every (λ m. apart n.text m.text) ns) (distinct ns)).0 t in
      let other = every-row (λ m. apart n.text m.text) ns d i parts.0 (omega arith) in
      rw (apart-begins n.text (get_or ns i d).text rest other) (among-read ns d i parts.1 (omega arith))

  row_read : (i : ℕ) → i < 14
      → name_among names caseless negated lead ((name_at i).text ++ rest)
      ≡ good (lead + length (name_at i).text) (named caseless negated (name_at i).kind)
  unfolding name_at names distinct every apart bytes
  row_read i l = among-read names (name "xdigit" Xdigit) i refl (rows l)

-- a letter is no `^`
no-hat : (text rest : List ℕ) → 94 < get_or text 0 0 → eqb (get_or (text ++ rest) 0 0) 94 ≡ false
no-hat [] rest h = absurd (omega arith)
no-hat (c ∷ text) rest h = ne_eqb c 94 (λ e. omega arith)

module _ (caseless : Bool) (rest : List ℕ) (i : ℕ) (l : i < 14) where
  -- each name is read after `[:`, whatever follows
  pub plain-read : name_of caseless ((name_at i).text ++ rest) ≡ good (2 + length (name_at i).text) (named caseless false (name_at i).kind)
  unfolding name_of
  plain-read = rw (no-hat (name_at i).text rest (name-letter i l)) (row_read caseless false 2 rest i l)

  -- and after `[:^`
  pub negated-read : name_of caseless (94 ∷ ((name_at i).text ++ rest)) ≡ good (3 + length (name_at i).text) (named caseless true (name_at i).kind)
  unfolding name_of
  negated-read = row_read caseless true 3 rest i l

-- ---- and stands for the bytes of its kind

-- two lists of words are the same
unfoldable same : List ℕ → List ℕ → Bool
same [] [] = true
same [] (y ∷ ys) = false
same (x ∷ xs) [] = false
same (x ∷ xs) (y ∷ ys) = eqb x y && same xs ys

same_true : (xs ys : List ℕ) → same xs ys ≡ true → xs ≡ ys
unfolding same
same_true [] [] e = refl
same_true [] (y ∷ ys) e = absurd (true≢false (sym e))
same_true (x ∷ xs) [] e = absurd (true≢false (sym e))
same_true (x ∷ xs) (y ∷ ys) e =
    let parts = (and-eq-true_iff (eqb x y) (same xs ys)).0 e in
    let head : x ≡ y = eqb-true x y parts.0 in
    rw head (ap (λ (zs : List ℕ). y ∷ zs) (same_true xs ys parts.1))

-- the class ends after its bracket, with the bytes of the name
unfoldable classed : (caseless negated : Bool) → Name → Bool
classed caseless negated n =
    let c : Class = class_of caseless (class_text negated n) 0 in
    eqb c.number 0 && (eqb c.place (length (class_text negated n)) && same c.set (set_of (named_byte caseless negated n.kind)))

-- so does each name's class
table : (caseless negated : Bool) → every (classed caseless negated) names ≡ true
unfolding every classed same class_of members_of any_raw with_raw lower spelled_at member_at member_of bracket_of name_of name_among names begins named bytes gap_of is_mark joint_of joined settled
    union_of complement_of set_of word_of has on empty_set case_closed other_case is_digit is_lower is_upper is_word is_space is_alpha is_alnum is_ascii is_blank is_cntrl
    is_graph is_print is_punct is_xdigit
table true true = refl
table true false = refl
table false true = refl
table false false = refl

module _ (caseless negated : Bool) (i : ℕ) (l : i < 14) where
  pub class-named : class_of caseless (class_text negated (name_at i)) 0
      ≡ closed_class (length (class_text negated (name_at i))) (set_of (named_byte caseless negated (name_at i).kind))
  unfolding classed
  class-named =
      let n = name_at i in
      let c = class_of caseless (class_text negated n) 0 in
      let all = row-rule (classed caseless negated) (table caseless negated) i l in
      let parts = (and-eq-true_iff (eqb c.number 0) _).0 all in
      let more = (and-eq-true_iff (eqb c.place (length (class_text negated n))) _).0 parts.1 in
      let number : c.number ≡ 0 = eqb-true c.number 0 parts.0 in
      let place : c.place ≡ length (class_text negated n) = eqb-true c.place (length (class_text negated n)) more.0 in
      let set : c.set ≡ set_of (named_byte caseless negated n.kind) = same_true c.set (set_of (named_byte caseless negated n.kind)) more.1 in
      λ k. record { number = number k; place = place k; set = set k }
