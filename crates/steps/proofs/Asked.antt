-- The walk over a word's set digits asks each once, in as many turns as there are ones. After n
-- turns the digits below some place are cleared and n of them were set; while one is left, the next
-- turn moves that place past the lowest.
use mathlib.Core.Path.{◌≡◌, refl, sym, ap, ap₂, ◌∙◌, subst}
use mathlib.Core.Bool.{Bool, true, false, true≢false}
use Prim.Native.Nat.{ℕ, zero, suc, ◌+◌, ◌-◌, ◌*◌, ◌/◌, ◌^◌, ◌<◌, ◌≤◌}
use native.Mathlib.Nat.{lt_of_le_of_lt, div-mul-le_self}
use native.Mathlib.Numerals.{add-one}
use native.Mathlib.Omega.{arith}
use native.Mathlib.Decide.{dec_lt, ℕ_discrete}
use lib.Count.{ones}
use Rattle.sets.specs.Set.{on, as_one, count}
use Rattle.sets.proofs.Bits.{on-zero, count_add, count-le, ones-count, zeros-off, zeros-on, clear-low, cleared-shr, cleared-on, cleared-off}
use Rattle.steps.specs.Walk.{left, asked, AsksEachOnce}
use Rattle.table.proofs.Members.{count-below}

module _ (word : ℕ) (fits : word < 2 ^ 64) where
  -- the digits below this place are cleared after n turns
  unfoldable pub place : ℕ → ℕ
  place zero = 0
  place (suc n) = suc (asked word n)

  place-suc : (n : ℕ) → place (suc n) ≡ suc (asked word n)
  unfolding place
  place-suc n = refl

  pub record After (n : ℕ) : Type 0 where
    pub cleared : left word n ≡ word / 2 ^ place n * 2 ^ place n
    pub inside : place n ≤ 64
    pub counted : count (place n) (on word) ≡ n

  -- what is left is a word, whose digits from the place on are the word's
  module _ (n : ℕ) (a : After n) where
    small : left word n < 2 ^ 64
    small = lt_of_le_of_lt (subst (λ (x : ℕ). x ≤ word) (sym a.cleared) (div-mul-le_self word (2 ^ place n))) fits

    pub above : (k : ℕ) → place n ≤ k → on (left word n) k ≡ on word k
    above k h =
        let at : place n + (k - place n) ≡ k = omega arith in
        ap₂ on a.cleared (sym at) ∙ cleared-on word (place n) (k - place n) ∙ ap (on word) at

    below : (k : ℕ) → k < place n → on (left word n) k ≡ false
    below k h = ap (λ (x : ℕ). on x k) a.cleared ∙ cleared-off (word / 2 ^ place n) (place n) k h

    module _ (some : 0 < left word n) where
      pub lowest-inside : asked word n < 64
      lowest-inside = (zeros-on 64 (left word n) small some).0

      lowest-left : on (left word n) (asked word n) ≡ true
      lowest-left = (zeros-on 64 (left word n) small some).1

      pub from_place : place n ≤ asked word n
      from_place = go (dec_lt (asked word n) (place n))
        where
          go : Dec (asked word n < place n) → place n ≤ asked word n
          go (yes l) = absurd (true≢false (sym lowest-left ∙ below (asked word n) l))
          go (no l) = omega arith

      pub lowest_set : on word (asked word n) ≡ true
      lowest_set = sym (above (asked word n) from_place) ∙ lowest-left

      pub between : (k : ℕ) → place n ≤ k → k < asked word n → on word k ≡ false
      between k h l = sym (above k h) ∙ zeros-off 64 (left word n) k l

  after-start : After 0
  unfolding left place count
  after-start = record { cleared = omega arith; inside = omega arith; counted = refl }

  -- a turn
  after_next : (n : ℕ) → After n → 0 < left word n → After (suc n)
  unfolding left place count
  after_next n a some =
      let z : ℕ = asked word n in
      let at : place n + (suc z - place n) ≡ suc z = omega (arith, from_place n a some) in
      record {
        cleared =
            clear-low 64 (left word n) (small n a) some
            ∙ ap (λ (x : ℕ). x * 2 ^ suc z)
            (ap₂ (λ (x k : ℕ). x / 2 ^ k) a.cleared (sym at) ∙ cleared-shr word (place n) (suc z - place n) ∙ ap (λ (k : ℕ). word / 2 ^ k) at);
        inside = lowest-inside n a some;
        counted =
            ap₂ (λ (x : ℕ) (b : Bool). x + as_one b)
            (count-below (place n) z (on word) (from_place n a some) (between n a some) ∙ a.counted) (lowest_set n a some)
            ∙ add-one n;
      }

  -- nothing is left: all were counted
  all-counted : (n : ℕ) → After n → left word n ≡ 0 → count 64 (on word) ≡ n
  all-counted n a e =
      count-below (place n) 64 (on word) a.inside (λ k h l. sym (above n a k h) ∙ ap (λ (x : ℕ). on x k) e ∙ on-zero k) ∙ a.counted

  number : ones word ≡ count 64 (on word)
  number = ones-count 64 word fits

  pub some_left : (n : ℕ) → After n → n < ones word → 0 < left word n
  some_left n a h = go (left word n) refl
    where
      go : (x : ℕ) → left word n ≡ x → 0 < x
      go zero e = absurd (omega (arith, all-counted n a e, number))
      go (suc x) e = omega arith

  pub after : (n : ℕ) → n ≤ ones word → After n
  after zero h = after-start
  after (suc n) h = let a = after n (omega arith) in after_next n a (some_left n a h)

  -- no more than there are ones
  pub turns-bound : (n : ℕ) → After n → n ≤ ones word
  turns-bound n a =
      let whole : count (place n + (64 - place n)) (on word) ≡ count (place n) (on word) + count (64 - place n) (λ k. on word (place n + k)) = count_add (place n) (64 - place n) (on word) in
      let end : place n + (64 - place n) ≡ 64 = omega (arith, a.inside) in
      let all : count 64 (on word) ≡ count (place n) (on word) + count (64 - place n) (λ k. on word (place n + k)) = ap (λ (i : ℕ). count i (on word)) (sym end) ∙ whole in
      omega (arith, all, number, a.counted)

  pub nothing_left : left word (ones word) ≡ 0
  nothing_left = go (left word (ones word)) refl
    where
      last : After (ones word)
      last = after (ones word) (omega arith)

      go : (x : ℕ) → left word (ones word) ≡ x → x ≡ 0
      go zero e = refl
      go (suc x) e = absurd (omega (arith, turns-bound (suc (ones word)) (after_next (ones word) last (omega arith))))

  -- there are at most 64 turns
  pub few : ones word ≤ 64
  few = omega (arith, number, count-le 64 (on word))

  -- past the last place no digit is set
  pub none-past : (k : ℕ) → place (ones word) ≤ k → on word k ≡ false
  none-past k h = sym (above (ones word) (after (ones word) (omega arith)) k h) ∙ ap (λ (x : ℕ). on x k) nothing_left ∙ on-zero k

  places-rise : (m n : ℕ) → m ≤ n → n ≤ ones word → place m ≤ place n
  unfolding place
  places-rise m zero h l = let e : m ≡ 0 = omega arith in subst (λ (x : ℕ). place x ≤ 0) (sym e) (omega arith)
  places-rise m (suc n) h l = go (λ g. places-rise m n g (omega arith)) (dec_lt n m)
    where
      a : After n
      a = after n (omega arith)

      go : (m ≤ n → place m ≤ place n) → Dec (n < m) → place m ≤ suc (asked word n)
      go ih (yes g) = let e : m ≡ suc n = omega arith in subst (λ (x : ℕ). place x ≤ suc (asked word n)) (sym e) (omega arith)
      go ih (no g) = omega (arith, ih (omega arith), from_place n a (some_left n a l))

  -- a set digit below the place was asked by an earlier turn
  found : (k : ℕ) → on word k ≡ true → (n : ℕ) → n ≤ ones word → k < place n → (m : ℕ) × (m < n) × (asked word m ≡ k)
  unfolding place
  found k e zero h l = absurd (omega arith)
  found k e (suc n) h l = last (λ g. found k e n (omega arith) g) (ℕ_discrete (asked word n) k)
    where
      a : After n
      a = after n (omega arith)

      earlier : (k < place n → (m : ℕ) × (m < n) × (asked word m ≡ k)) → ¬ (asked word n ≡ k) → Dec (k < place n) → (m : ℕ) × (m < suc n) × (asked word m ≡ k)
      earlier ih d (yes g) = let r = ih g in (r.0, omega (arith, r.1), r.2)
      earlier ih d (no g) = absurd (true≢false (sym e ∙ between n a (some_left n a h) k (omega arith) (omega arith)))

      last : (k < place n → (m : ℕ) × (m < n) × (asked word m ≡ k)) → Dec (asked word n ≡ k) → (m : ℕ) × (m < suc n) × (asked word m ≡ k)
      last ih (yes d) = (n, omega arith, d)
      last ih (no d) = earlier ih d (dec_lt k (place n))

  pub asks-each-once : AsksEachOnce word
  asks-each-once = record {
    none_left = nothing_left;
    only_set = λ n h. let a = after n (omega arith) in lowest_set n a (some_left n a h);
    every_set = λ k h e. found k e (ones word) (omega arith) (below_last k e);
    rising = λ m n h l. let a = after n (omega arith) in omega (arith, places-rise (suc m) n h (omega arith), from_place n a (some_left n a l), place-suc m);
  }
    where
      below_last : (k : ℕ) → on word k ≡ true → k < place (ones word)
      below_last k e = go (dec_lt k (place (ones word)))
        where
          go : Dec (k < place (ones word)) → k < place (ones word)
          go (yes g) = g
          go (no g) = absurd (true≢false (sym e ∙ none-past k (omega arith)))
