-- The count worked out from the tree is the number of positions of the written-out form; the
-- saturating one is it, capped; and the test for matching no bytes says what it is to say. A repeat
-- is counted by its copies. Assumes nothing.
use mathlib.Core.Path.{◌≡◌, refl, sym, ap, ap₂, subst, ◌∙◌}
use mathlib.Core.Logic.{◌↔◌}
use mathlib.Core.Bool.{Bool, true, ◌&&◌, ◌||◌, and-true, and_self, and_self_left}
use Prim.Native.Nat.{ℕ, zero, suc, ◌+◌, ◌*◌, ◌≤◌, ◌<◌, max}
use native.Mathlib.Nat.{suc-mul, zero-mul, add-mul}
use native.Mathlib.Decide.{dec_le}
use native.Mathlib.Omega.{arith}
use lib.Dec.{T}
use Rattle.meaning.specs.Tree.{Tree, empty, item, assertion, then, or, repeat, Extra, at_most, unbounded}
use Rattle.meaning.specs.Form.{Form, plus, positions, copies, optionals, repeated, write}
use Rattle.meaning.specs.Count.{copied, exact, limit, capped, saturating, nullable, granting, MatchesEmpty}
use Rattle.meaning.specs.Automaton.{null}
use Rattle.meaning.proofs.Written.{written, unwritten}
use Rattle.meaning.proofs.Step.{null_is}
use Rattle.meaning.proofs.Computed.{null-T}

module _ {C A : Type 0} where
  copies-positions : (n : ℕ) (f g : Form C A) → positions (copies n f g) ≡ n * positions f + positions g
  unfolding positions copies
  copies-positions zero f g = omega (arith, zero-mul (positions f))
  copies-positions (suc n) f g = omega (arith, copies-positions n f g, suc-mul n (positions f))

  optionals-positions : (j : ℕ) (f : Form C A) → positions (optionals j f) ≡ j * positions f
  unfolding positions optionals
  optionals-positions zero f = sym (zero-mul (positions f))
  optionals-positions (suc j) f = omega (arith, optionals-positions j f, suc-mul j (positions f))

  repeated-positions : (f : Form C A) (n : ℕ) (j : Extra) → positions (repeated f n j) ≡ copied n j * positions f
  unfolding positions repeated copied
  repeated-positions f n (at_most j) =
      omega (arith, copies-positions n f (optionals j f), optionals-positions j f, add-mul n j (positions f))
  repeated-positions f zero unbounded = omega (arith, suc-mul 0 (positions f), zero-mul (positions f))
  repeated-positions f (suc n) unbounded =
      let m : max (suc n) 1 ≡ suc n = omega arith in
      subst (λ (k : ℕ). positions (copies n f (plus f)) ≡ k * positions f) (sym m)
      (omega (arith, copies-positions n f (plus f), suc-mul n (positions f)))

  -- The count is exact.
  pub counted : (x : Tree C A) → positions (write x) ≡ exact x
  unfolding positions write exact
  counted empty = refl
  counted (item c) = refl
  counted (assertion a) = refl
  counted (then x y) = ap₂ (λ (m n : ℕ). m + n) (counted x) (counted y)
  counted (or x y) = ap₂ (λ (m n : ℕ). m + n) (counted x) (counted y)
  counted (repeat x n j) = repeated-positions (write x) n j ∙ ap (λ (m : ℕ). copied n j * m) (counted x)

-- capping the parts first changes nothing
capped-sum : (m n : ℕ) → capped (capped m + capped n) ≡ capped (m + n)
unfolding capped
capped-sum m n = omega arith

capped-times : (k n : ℕ) → capped (k * capped n) ≡ capped (k * n)
unfolding capped
capped-times zero n = ap capped (zero-mul (capped n) ∙ sym (zero-mul n))
capped-times (suc k) n = go (dec_le n limit)
  where
    go : Dec (n ≤ limit) → capped (suc k * capped n) ≡ capped (suc k * n)
    go (yes le) = let e : capped n ≡ n = omega arith in ap (λ (i : ℕ). capped (suc k * i)) e
    go (no gt) = omega (arith, suc-mul k (capped n), suc-mul k n)

saturated-exact : {C A : Type 0} (x : Tree C A) → saturating x ≡ capped (exact x)
unfolding saturating exact capped
saturated-exact empty = refl
saturated-exact (item c) = refl
saturated-exact (assertion a) = refl
saturated-exact (then x y) = ap₂ (λ (m n : ℕ). capped (m + n)) (saturated-exact x) (saturated-exact y) ∙ capped-sum (exact x) (exact y)
saturated-exact (or x y) = ap₂ (λ (m n : ℕ). capped (m + n)) (saturated-exact x) (saturated-exact y) ∙ capped-sum (exact x) (exact y)
saturated-exact (repeat x n j) = ap (λ (m : ℕ). capped (copied n j * m)) (saturated-exact x) ∙ capped-times (copied n j) (exact x)

-- The saturating count is exact up to the limit, and above the limit exactly if the count is.
pub saturated : {C A : Type 0} (x : Tree C A) → saturating x ≡ capped (positions (write x))
saturated x = saturated-exact x ∙ ap capped (sym (counted x))

pub within-limit : {C A : Type 0} (x : Tree C A) → saturating x ≤ limit → saturating x ≡ positions (write x)
unfolding capped
within-limit x le = omega (arith, saturated x)

pub above-limit : {C A : Type 0} (x : Tree C A) → (limit < saturating x) ↔ (limit < positions (write x))
unfolding capped
above-limit x = (λ h. omega (arith, saturated x), λ h. omega (arith, saturated x))

-- Matching nothing in a world: a repeat of at least one copy does where its inside does, however
-- many copies it has, and a repeat that may take none always does.
module _ {C A : Type 0} (w : A → Bool) where
  copies-null : (n : ℕ) (f g : Form C A) → null w (copies (suc n) f g) ≡ (null w f && null w g)
  unfolding null copies
  copies-null zero f g = refl
  copies-null (suc n) f g = ap (λ (b : Bool). null w f && b) (copies-null n f g) ∙ and_self_left (null w f) (null w g)

  optionals-null : (j : ℕ) (f : Form C A) → null w (optionals j f) ≡ true
  unfolding null optionals
  optionals-null zero f = refl
  optionals-null (suc j) f = refl

  pub repeated-null : (f : Form C A) (n : ℕ) (j : Extra) → null w (repeated f (suc n) j) ≡ null w f
  unfolding null repeated copies
  repeated-null f n (at_most j) =
      copies-null n f (optionals j f) ∙ ap (λ (b : Bool). null w f && b) (optionals-null j f) ∙ and-true (null w f)
  repeated-null f zero unbounded = refl
  repeated-null f (suc n) unbounded = copies-null n f (plus f) ∙ and_self (null w f)

  pub repeated-none : (f : Form C A) (j : Extra) → null w (repeated f 0 j) ≡ true
  unfolding null repeated copies
  repeated-none f (at_most j) = optionals-null j f
  repeated-none f unbounded = refl

module _ {C A : Type 0} where
  pub null-written : (x : Tree C A) → null (λ _. true) (write x) ≡ nullable x
  unfolding null write nullable repeated copies
  null-written empty = refl
  null-written (item c) = refl
  null-written (assertion a) = refl
  null-written (then x y) = ap₂ (λ (a b : Bool). a && b) (null-written x) (null-written y)
  null-written (or x y) = ap₂ (λ (a b : Bool). a || b) (null-written x) (null-written y)
  null-written (repeat x zero j) = repeated-none (λ _. true) (write x) j
  null-written (repeat x (suc n) j) = repeated-null (λ _. true) (write x) n j ∙ null-written x

  -- The test decides whether the rule could match no bytes, were all its assertions true.
  pub matches-empty : (x : Tree C A) → T (nullable x) ↔ MatchesEmpty x
  matches-empty x = (
    λ h. unwritten granting x 0 0 ((null_is granting (write x) 0).0 ((null-T (λ _. true) (write x)).0 (subst T (sym (null-written x)) h))),
    λ h. subst T (null-written x) ((null-T (λ _. true) (write x)).1 ((null_is granting (write x) 0).1 (written granting x 0 0 h))),
  )
