-- Rules in the order of their ids, each with its first position. A rule goes in at the place of its
-- id, which is how the table keeps its ids.
use mathlib.Core.Path.{◌≡◌, refl, sym, ap, ◌∙◌, subst}
use mathlib.Core.Bool.{Bool, true, false, cond}
use mathlib.Core.Logic.{◌⊎◌, inl, inr}
use mathlib.Core.List.Memᴰ
use mathlib.Core.List.{List, [], ◌∷◌, ◌++◌, Memᴰ}
use Prim.Native.Nat.{ℕ, zero, suc, ◌+◌, ◌-◌, ◌≤◌, ◌<◌}
use native.Mathlib.Nat.{not-suc-le-zero, le_of_suc-le-suc}
use native.Mathlib.Decide.{dec_lt}
use native.Mathlib.Omega.{arith}
use lib.Dec.{ltb}
use lib.ListN.{length, get_or}
use borrow.Author.Tests.{ltb-true, ltb-false}
use Rattle.meaning.specs.Tree.{empty}
use Rattle.meaning.specs.Rule.{no_windows}
use Rattle.rules.specs.Additions.{Accepted, size, used}

-- a rule and its first position
pub record Placed : Type 0 where
  pub rule : Accepted
  pub from : ℕ

-- the rule in a place, and nothing past the last
abbrev nothing : Placed
nothing = record { rule = record { id = 0; flags = 0; windows = no_windows; tree = empty }; from = 0 }

abbrev pub at : List Placed → ℕ → Placed
at ps a = get_or ps a nothing

-- each rule's positions come after those of the rules before it
unfoldable pub laid : ℕ → List Accepted → List Placed
laid b [] = []
laid b (r ∷ rs) = record { rule = r; from = b } ∷ laid (b + size r) rs

-- a rule put in before the first with a larger id
unfoldable pub insert : Placed → List Placed → List Placed
insert p [] = p ∷ []
insert p (x ∷ xs) = cond (ltb x.rule.id p.rule.id) (x ∷ insert p xs) (p ∷ x ∷ xs)

unfoldable pub into : List Placed → List Placed → List Placed
into ps [] = ps
into ps (x ∷ xs) = into (insert x ps) xs

-- the rules, added in this order, by rising id
abbrev pub by_id : List Accepted → List Placed
by_id rs = into [] (laid 0 rs)

-- ---- one rule more comes last

laid_more : (b : ℕ) (rs : List Accepted) (r : Accepted) → laid b (rs ++ (r ∷ [])) ≡ laid b rs ++ (record { rule = r; from = b + used rs } ∷ [])
unfolding laid used
laid_more b [] r = let e : b ≡ b + 0 = omega arith in ap (λ (k : ℕ). record { rule = r; from = k } ∷ []) e
laid_more b (x ∷ xs) r =
    let e : b + size x + used xs ≡ b + (size x + used xs) = omega arith in
    ap (λ (l : List Placed). record { rule = x; from = b } ∷ l)
    (laid_more (b + size x) xs r ∙ ap (λ (k : ℕ). laid (b + size x) xs ++ (record { rule = r; from = k } ∷ [])) e)

into_more : (ps xs : List Placed) (p : Placed) → into ps (xs ++ (p ∷ [])) ≡ insert p (into ps xs)
unfolding into
into_more ps [] p = refl
into_more ps (x ∷ xs) p = into_more (insert x ps) xs p

pub by_id-more : (rs : List Accepted) (r : Accepted) → by_id (rs ++ (r ∷ [])) ≡ insert (record { rule = r; from = used rs }) (by_id rs)
by_id-more rs r =
    let e : 0 + used rs ≡ used rs = omega arith in
    ap (into []) (laid_more 0 rs r ∙ ap (λ (k : ℕ). laid 0 rs ++ (record { rule = r; from = k } ∷ [])) e)
    ∙ into_more [] (laid 0 rs) (record { rule = r; from = used rs })

-- ---- where a rule goes in

pub place : Placed → List Placed → ℕ
place p [] = 0
place p (x ∷ xs) = cond (ltb x.rule.id p.rule.id) (suc (place p xs)) 0

module _ (p : Placed) where
  pub length-insert : (ps : List Placed) → length (insert p ps) ≡ length ps + 1
  unfolding insert
  length-insert [] = refl
  length-insert (x ∷ xs) = go (ltb x.rule.id p.rule.id) (length-insert xs)
    where
      go : (b : Bool) → length (insert p xs) ≡ length xs + 1 → length (cond b (x ∷ insert p xs) (p ∷ x ∷ xs)) ≡ suc (length xs) + 1
      go true e = omega arith
      go false e = omega arith

  pub place-within : (ps : List Placed) → place p ps ≤ length ps
  unfolding place
  place-within [] = omega arith
  place-within (x ∷ xs) = go (ltb x.rule.id p.rule.id) (place-within xs)
    where
      go : (b : Bool) → place p xs ≤ length xs → cond b (suc (place p xs)) 0 ≤ suc (length xs)
      go true e = omega arith
      go false e = omega arith

  -- those before the place have smaller ids
  pub smaller_before : (ps : List Placed) (a : ℕ) → a < place p ps → (at ps a).rule.id < p.rule.id
  unfolding place
  smaller_before [] a h = absurd (not-suc-le-zero h)
  smaller_before (x ∷ xs) a h = go (ltb x.rule.id p.rule.id) refl a h (smaller_before xs)
    where
      go : (b : Bool) → ltb x.rule.id p.rule.id ≡ b → (a : ℕ) → a < cond b (suc (place p xs)) 0 → ((a : ℕ) → a < place p xs → (at xs a).rule.id < p.rule.id)
          → (at (x ∷ xs) a).rule.id < p.rule.id
      go true e zero l ih = ltb-true x.rule.id p.rule.id e
      go true e (suc a) l ih = ih a (le_of_suc-le-suc l)
      go false e a l ih = absurd (not-suc-le-zero l)

  -- the one there has not
  pub larger-there : (ps : List Placed) → place p ps < length ps → p.rule.id ≤ (at ps (place p ps)).rule.id
  unfolding place
  larger-there [] h = absurd (not-suc-le-zero h)
  larger-there (x ∷ xs) h = go (ltb x.rule.id p.rule.id) refl h (larger-there xs)
    where
      go : (b : Bool) → ltb x.rule.id p.rule.id ≡ b → cond b (suc (place p xs)) 0 < suc (length xs) → (place p xs < length xs → p.rule.id ≤ (at xs (place p xs)).rule.id)
          → p.rule.id ≤ (at (x ∷ xs) (cond b (suc (place p xs)) 0)).rule.id
      go true e l ih = ih (le_of_suc-le-suc l)
      go false e l ih = ltb-false x.rule.id p.rule.id e

  -- the rule in each place, once it is in
  pub insert-before : (ps : List Placed) (a : ℕ) → a < place p ps → at (insert p ps) a ≡ at ps a
  unfolding insert place
  insert-before [] a h = absurd (not-suc-le-zero h)
  insert-before (x ∷ xs) a h = go (ltb x.rule.id p.rule.id) a h (insert-before xs)
    where
      go : (b : Bool) (a : ℕ) → a < cond b (suc (place p xs)) 0 → ((a : ℕ) → a < place p xs → at (insert p xs) a ≡ at xs a)
          → at (cond b (x ∷ insert p xs) (p ∷ x ∷ xs)) a ≡ at (x ∷ xs) a
      go true zero l ih = refl
      go true (suc a) l ih = ih a (le_of_suc-le-suc l)
      go false a l ih = absurd (not-suc-le-zero l)

  pub insert-there : (ps : List Placed) → at (insert p ps) (place p ps) ≡ p
  unfolding insert place
  insert-there [] = refl
  insert-there (x ∷ xs) = go (ltb x.rule.id p.rule.id) (insert-there xs)
    where
      go : (b : Bool) → at (insert p xs) (place p xs) ≡ p → at (cond b (x ∷ insert p xs) (p ∷ x ∷ xs)) (cond b (suc (place p xs)) 0) ≡ p
      go true e = e
      go false e = refl

  pub insert-after : (ps : List Placed) (a : ℕ) → place p ps ≤ a → at (insert p ps) (suc a) ≡ at ps a
  unfolding insert place
  insert-after [] a h = refl
  insert-after (x ∷ xs) a h = go (ltb x.rule.id p.rule.id) a h (insert-after xs)
    where
      go : (b : Bool) (a : ℕ) → cond b (suc (place p xs)) 0 ≤ a → ((a : ℕ) → place p xs ≤ a → at (insert p xs) (suc a) ≡ at xs a)
          → at (cond b (x ∷ insert p xs) (p ∷ x ∷ xs)) (suc a) ≡ at (x ∷ xs) a
      go true zero l ih = absurd (not-suc-le-zero l)
      go true (suc a) l ih = ih a (le_of_suc-le-suc l)
      go false a l ih = refl

  -- what holds of each rule, and of the new one, holds of each once it is in
  pub insert-each : (P : Placed → Type 0) (ps : List Placed) → ((a : ℕ) → a < length ps → P (at ps a)) → P p → (a : ℕ) → a < length (insert p ps) → P (at (insert p ps) a)
  insert-each P ps old new a h = go (dec_lt a (place p ps)) (dec_lt (place p ps) a)
    where
      go : Dec (a < place p ps) → Dec (place p ps < a) → P (at (insert p ps) a)
      go (yes l) m = subst P (sym (insert-before ps a l)) (old a (omega (arith, place-within ps)))
      go (no l) (no m) = let e : place p ps ≡ a = omega arith in subst (λ (b : ℕ). P (at (insert p ps) b)) e (subst P (sym (insert-there ps)) new)
      go (no l) (yes m) =
          let e : suc (a - 1) ≡ a = omega arith in
          subst (λ (b : ℕ). P (at (insert p ps) b)) e (subst P (sym (insert-after ps (a - 1) (omega arith))) (old (a - 1) (omega (arith, length-insert ps))))

  -- ---- the same rules

  -- what is in is p, or was in
  pub insert-cases : (ps : List Placed) {q : Placed} → Memᴰ q (insert p ps) → (q ≡ p) ⊎ Memᴰ q ps
  unfolding insert
  insert-cases [] m = inl (Memᴰ.eq_of_singleton m)
  insert-cases (x ∷ xs) {q} m = go (ltb x.rule.id p.rule.id) m (insert-cases xs)
    where
      deeper : (q ≡ p) ⊎ Memᴰ q xs → (q ≡ p) ⊎ Memᴰ q (x ∷ xs)
      deeper (inl e) = inl e
      deeper (inr m) = inr (Memᴰ.tail m)

      step : (Memᴰ q (insert p xs) → (q ≡ p) ⊎ Memᴰ q xs) → (q ≡ x) ⊎ Memᴰ q (insert p xs) → (q ≡ p) ⊎ Memᴰ q (x ∷ xs)
      step ih (inl e) = inr (Memᴰ.head e)
      step ih (inr m) = deeper (ih m)

      go : (b : Bool) → Memᴰ q (cond b (x ∷ insert p xs) (p ∷ x ∷ xs)) → (Memᴰ q (insert p xs) → (q ≡ p) ⊎ Memᴰ q xs) → (q ≡ p) ⊎ Memᴰ q (x ∷ xs)
      go true m ih = step ih (Memᴰ.cases_cons m)
      go false m ih = Memᴰ.cases_cons m

  insert-new : (ps : List Placed) → Memᴰ p (insert p ps)
  unfolding insert
  insert-new [] = Memᴰ.head refl
  insert-new (x ∷ xs) = go (ltb x.rule.id p.rule.id) (insert-new xs)
    where
      go : (b : Bool) → Memᴰ p (insert p xs) → Memᴰ p (cond b (x ∷ insert p xs) (p ∷ x ∷ xs))
      go true m = Memᴰ.tail m
      go false m = Memᴰ.head refl

  insert-old : (ps : List Placed) {q : Placed} → Memᴰ q ps → Memᴰ q (insert p ps)
  unfolding insert
  insert-old [] m = absurd (Memᴰ.not-nil m)
  insert-old (x ∷ xs) {q} m = go (ltb x.rule.id p.rule.id) (Memᴰ.cases_cons m) (insert-old xs)
    where
      go : (b : Bool) → (q ≡ x) ⊎ Memᴰ q xs → (Memᴰ q xs → Memᴰ q (insert p xs)) → Memᴰ q (cond b (x ∷ insert p xs) (p ∷ x ∷ xs))
      go true (inl e) ih = Memᴰ.head e
      go true (inr m) ih = Memᴰ.tail (ih m)
      go false (inl e) ih = Memᴰ.tail (Memᴰ.head e)
      go false (inr m) ih = Memᴰ.tail (Memᴰ.tail m)

into-mem : (ps xs : List Placed) {q : Placed} → Memᴰ q ps ⊎ Memᴰ q xs → Memᴰ q (into ps xs)
unfolding into
into-mem ps [] (inl m) = m
into-mem ps [] (inr m) = absurd (Memᴰ.not-nil m)
into-mem ps (x ∷ xs) (inl m) = into-mem (insert x ps) xs (inl (insert-old x ps m))
into-mem ps (x ∷ xs) {q} (inr m) =
    into-mem (insert x ps) xs (elim (Memᴰ.cases_cons m) [ inl e ↦ inl (Memᴰ.cast e (insert-new x ps)) | inr n ↦ inr n ])

into-cases : (ps xs : List Placed) {q : Placed} → Memᴰ q (into ps xs) → Memᴰ q ps ⊎ Memᴰ q xs
unfolding into
into-cases ps [] m = inl m
into-cases ps (x ∷ xs) {q} m = go (into-cases (insert x ps) xs m)
  where
    first : (q ≡ x) ⊎ Memᴰ q ps → Memᴰ q ps ⊎ Memᴰ q (x ∷ xs)
    first (inl e) = inr (Memᴰ.head e)
    first (inr n) = inl n

    go : Memᴰ q (insert x ps) ⊎ Memᴰ q xs → Memᴰ q ps ⊎ Memᴰ q (x ∷ xs)
    go (inl n) = first (insert-cases x ps n)
    go (inr n) = inr (Memᴰ.tail n)

-- a rule of the list, with its first position, stands somewhere by id
pub by_id-mem : (rs : List Accepted) {q : Placed} → Memᴰ q (laid 0 rs) → Memᴰ q (by_id rs)
by_id-mem rs m = into-mem [] (laid 0 rs) (inr m)

pub mem-at : (ps : List Placed) {q : Placed} → Memᴰ q ps → (a : ℕ) × (a < length ps) × (at ps a ≡ q)
mem-at [] m = absurd (Memᴰ.not-nil m)
mem-at (x ∷ xs) {q} m = go (Memᴰ.cases_cons m) (mem-at xs)
  where
    go : (q ≡ x) ⊎ Memᴰ q xs → (Memᴰ q xs → (a : ℕ) × (a < length xs) × (at xs a ≡ q)) → (a : ℕ) × (a < suc (length xs)) × (at (x ∷ xs) a ≡ q)
    go (inl e) ih = (0, omega arith, sym e)
    go (inr m) ih = let r = ih m in (suc r.0, omega (arith, r.1), r.2)

-- each rule of the list has its first position
pub laid-mem : (b : ℕ) (rs : List Accepted) {r : Accepted} → Memᴰ r rs → (k : ℕ) × Memᴰ (record { rule = r; from = k }) (laid b rs)
unfolding laid
laid-mem b [] m = absurd (Memᴰ.not-nil m)
laid-mem b (x ∷ xs) {r} m = go (Memᴰ.cases_cons m) (laid-mem (b + size x) xs)
  where
    go : (r ≡ x) ⊎ Memᴰ r xs → (Memᴰ r xs → (k : ℕ) × Memᴰ (record { rule = r; from = k }) (laid (b + size x) xs))
        → (k : ℕ) × Memᴰ (record { rule = r; from = k }) (record { rule = x; from = b } ∷ laid (b + size x) xs)
    go (inl e) ih = (b, Memᴰ.head (ap (λ (y : Accepted). record { rule = y; from = b }) e))
    go (inr m) ih = let s = ih m in (s.0, Memᴰ.tail s.1)

laid-rule : (b : ℕ) (rs : List Accepted) {q : Placed} → Memᴰ q (laid b rs) → Memᴰ q.rule rs
unfolding laid
laid-rule b [] m = absurd (Memᴰ.not-nil m)
laid-rule b (x ∷ xs) {q} m = go (Memᴰ.cases_cons m) (laid-rule (b + size x) xs)
  where
    go : (q ≡ record { rule = x; from = b }) ⊎ Memᴰ q (laid (b + size x) xs) → (Memᴰ q (laid (b + size x) xs) → Memᴰ q.rule xs) → Memᴰ q.rule (x ∷ xs)
    go (inl e) ih = Memᴰ.head (ap (λ (p : Placed). p.rule) e)
    go (inr n) ih = Memᴰ.tail (ih n)

at_mem : (ps : List Placed) (a : ℕ) → a < length ps → Memᴰ (at ps a) ps
at_mem [] a h = absurd (not-suc-le-zero h)
at_mem (x ∷ xs) zero h = Memᴰ.head refl
at_mem (x ∷ xs) (suc a) h = Memᴰ.tail (at_mem xs a (le_of_suc-le-suc h))

-- the rule in each place is one of the list
pub by_id-rule : (rs : List Accepted) (a : ℕ) → a < length (by_id rs) → Memᴰ (at (by_id rs) a).rule rs
by_id-rule rs a h = laid-rule 0 rs {q = at (by_id rs) a} (elim (into-cases [] (laid 0 rs) (at_mem (by_id rs) a h)) [ inl m ↦ absurd (Memᴰ.not-nil m) | inr m ↦ m ])
