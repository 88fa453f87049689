-- What passing the test gives, and the other way round. `is_table` is a chain of tests, so words
-- pass exactly where each link holds (`Passes`): a call that refuses shows that one link fails
-- (`refused`), and a proof about accepted words takes the facts from `passes`.
use Rattle.std.proofs.Common.{◌≡◌, ℕ, zero, suc, ◌+◌, ◌^◌, ◌<◌, ◌≤◌, Bool, true, false, ◌&&◌, eqb, ltb, leb, List, length, get_or, sym, refl, ap, ◌∙◌, subst, ap₂, ⊎_elim, true≢false, zero-le, lt_trans, le_of_suc-le-suc, not-suc-le-zero, eq-or-lt_of_le, add-one, arith, ltb-true, lt-ltb, eq-eqb, eqb-true, le-leb, leb-true}
use mathlib.Core.Bool.{and-eq-true_iff}
use Rattle.table.specs.Layout.{table_words, max_rules, max_positions, format, rules_of, positions_of, id_word}
use Rattle.table.specs.Table.{least_id, id_ok, all, is_table}

-- ---- a test of every number below n

pub all_none : (f : ℕ → Bool) → all 0 f ≡ true
unfolding all
all_none f = refl

pub all_more : (f : ℕ → Bool) (k : ℕ) → all k f ≡ true → f k ≡ true → all (k + 1) f ≡ true
unfolding all
all_more f k a b = ap (λ (n : ℕ). all n f) (add-one k) ∙ ap₂ (λ (x y : Bool). x && y) a b

pub all-at : (f : ℕ → Bool) (n : ℕ) → all n f ≡ true → (k : ℕ) → k < n → f k ≡ true
unfolding all
all-at f zero e k h = absurd (not-suc-le-zero h)
all-at f (suc n) e k h =
    let each = (and-eq-true_iff (all n f) (f n)).0 e in
    ⊎_elim (λ l. ap f l ∙ each.1) (λ l. all-at f n each.0 k l) (eq-or-lt_of_le (le_of_suc-le-suc h))

pub at_all : (f : ℕ → Bool) (n : ℕ) → ((k : ℕ) → k < n → f k ≡ true) → all n f ≡ true
unfolding all
at_all f zero h = refl
at_all f (suc n) h = ap₂ (λ (x y : Bool). x && y) (at_all f n (λ k l. h k (omega arith))) (h n (omega arith))

pub all-false : (f : ℕ → Bool) (n k : ℕ) → k < n → f k ≡ false → all n f ≡ false
all-false f n k h e = go (all n f) refl
  where
    go : (b : Bool) → all n f ≡ b → all n f ≡ false
    go true p = absurd (true≢false (sym (all-at f n p k h) ∙ e))
    go false p = p

-- ---- one id

pub record Fine (t : List ℕ) (a : ℕ) : Type 0 where
  pub least : least_id t a ≤ id_word t a
  pub small : id_word t a < 2 ^ 32

pub fine : (t : List ℕ) (a : ℕ) → id_ok t a ≡ true → Fine t a
unfolding id_ok
fine t a e =
    let p = (and-eq-true_iff (leb (least_id t a) (id_word t a)) (ltb (id_word t a) (2 ^ 32))).0 e in
    record { least = leb-true (least_id t a) (id_word t a) p.0; small = ltb-true (id_word t a) (2 ^ 32) p.1 }

pub fine-ok : (t : List ℕ) (a : ℕ) → Fine t a → id_ok t a ≡ true
unfolding id_ok
fine-ok t a f = ap₂ (λ (x y : Bool). x && y) (le-leb (least_id t a) (id_word t a) f.least) (lt-ltb (id_word t a) (2 ^ 32) f.small)

-- ---- the whole test

pub record Passes (t : List ℕ) : Type 0 where
  pub long : table_words ≤ length t
  pub marked : get_or t 0 0 ≡ format
  pub rules : rules_of t ≤ max_rules
  pub positions : positions_of t ≤ max_positions
  pub rising : (a b : ℕ) → a < b → b < rules_of t → id_word t a < id_word t b
  pub small : (a : ℕ) → a < rules_of t → id_word t a < 2 ^ 32

-- ids that rise from each to the next rise from each to every later one
pub rise : (t : List ℕ) (n : ℕ) → ((a : ℕ) → a < n → least_id t a ≤ id_word t a) → (a b : ℕ) → a < b → b < n → id_word t a < id_word t b
rise t n f a zero h l = absurd (not-suc-le-zero h)
rise t n f a (suc b) h l =
    ⊎_elim (λ e. subst (λ (c : ℕ). id_word t c < id_word t (suc b)) (sym e) next)
    (λ m. lt_trans (rise t n f a b m (omega arith)) next) (eq-or-lt_of_le (le_of_suc-le-suc h))
  where
    next : id_word t b < id_word t (suc b)
    next = f (suc b) l

pub passes : (t : List ℕ) → is_table t ≡ true → Passes t
unfolding is_table
passes t e =
    let p = (and-eq-true_iff (leb table_words (length t)) _).0 e in
    let q = (and-eq-true_iff (eqb (get_or t 0 0) format) _).0 p.1 in
    let r = (and-eq-true_iff (leb (rules_of t) max_rules) _).0 q.1 in
    let s = (and-eq-true_iff (leb (positions_of t) max_positions) _).0 r.1 in
    let each : ((a : ℕ) → a < rules_of t → Fine t a) = λ a h. fine t a (all-at (id_ok t) (rules_of t) s.1 a h) in
    record {
      long = leb-true table_words (length t) p.0;
      marked = eqb-true (get_or t 0 0) format q.0;
      rules = leb-true (rules_of t) max_rules r.0;
      positions = leb-true (positions_of t) max_positions s.0;
      rising = rise t (rules_of t) (λ a h. (each a h).least);
      small = λ a h. (each a h).small;
    }

-- with a header in order, the ids decide
pub by-ids : (t : List ℕ) → table_words ≤ length t → get_or t 0 0 ≡ format → rules_of t ≤ max_rules → positions_of t ≤ max_positions
    → is_table t ≡ all (rules_of t) (id_ok t)
unfolding is_table
by-ids t l m r p =
    rw (le-leb table_words (length t) l, eq-eqb (get_or t 0 0) format m, le-leb (rules_of t) max_rules r, le-leb (positions_of t) max_positions p)

pub accepted : (t : List ℕ) → Passes t → is_table t ≡ true
accepted t p =
    by-ids t p.long p.marked p.rules p.positions
    ∙ at_all (id_ok t) (rules_of t) (λ a h. fine-ok t a (record {
      least = least a h;
      small = p.small a h;
    }))
  where
    least : (a : ℕ) → a < rules_of t → least_id t a ≤ id_word t a
    least zero h = zero-le
    least (suc a) h = p.rising a (suc a) (omega arith) h

pub refused : (t : List ℕ) → (Passes t → ⊥) → is_table t ≡ false
refused t h = go (is_table t) refl
  where
    go : (b : Bool) → is_table t ≡ b → is_table t ≡ false
    go true e = absurd (h (passes t e))
    go false e = e
