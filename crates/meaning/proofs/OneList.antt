-- Exactly one list meets the definition of the ordered list. At most one, since it rises strictly
-- and its members are given; at least one, where ids tell the rules apart, since whether an entry
-- is owed is decided, its moment, offset, id and start are bounded, and a pair has one start.
-- Assumes nothing.
use mathlib.Core.Path.{◌≡◌, refl, sym, subst, ap, ◌∙◌}
use mathlib.Core.Logic.{◌⊎◌, inl, inr, ◌↔◌}
use mathlib.Core.List.Memᴰ
use mathlib.Core.List.{List, [], ◌∷◌, map, Memᴰ}
use Prim.Native.Nat.{ℕ, suc, ◌+◌, ◌≤◌, ◌<◌, max}
use native.Mathlib.Omega.{arith}
use native.Mathlib.Decide.{dec_le, dec_lt, ℕ_discrete, map_dec}
use lib.Dec.{T}
use Rattle.meaning.specs.Tree.{Means}
use Rattle.meaning.specs.Rule.{Rule, InWindows}
use Rattle.meaning.specs.Ordered.{closing_moment, seen, SettledFrom, Settled, Falls, Earlier, Hides, Stays, StartIs, Entry, entry, Before, Rising, Owed, IsList, Report, report, Ordered}
use Rattle.meaning.proofs.Logic.{dec-T, dec-both, dec-either, dec-implies, dec-not, dec_some, dec-every}
use Rattle.meaning.proofs.Decidable.{means-dec}
use Rattle.meaning.proofs.Least.{one-least, some-least, least-dec}
use Rattle.meaning.proofs.Enumerated.{all, moment, offset, id, start}

-- at most one

before-asym : (x y : Entry) → Before x y → Before y x → ⊥
before-asym (entry m e i s) (entry n d j u) (inl h) (inl k) = omega arith
before-asym (entry m e i s) (entry n d j u) (inl h) (inr k) = omega arith
before-asym (entry m e i s) (entry n d j u) (inr h) (inl k) = omega arith
before-asym (entry m e i s) (entry n d j u) (inr h) (inr k) = elim h.1 [
  | inl a ↦ elim k.1 [ inl b ↦ omega arith | inr b ↦ omega arith ]
  | inr a ↦ elim k.1 [ inl b ↦ omega arith | inr b ↦ omega arith ]
]

-- two rising lists with the same members are one
same : (l k : List Entry) → Rising l → Rising k → ((x : Entry) → Memᴰ x l ↔ Memᴰ x k) → l ≡ k
unfolding Rising
same [] [] a b h = refl
same [] (y ∷ k) a b h = absurd (Memᴰ.not-nil ((h y).1 (Memᴰ.head refl)))
same (x ∷ l) [] a b h = absurd (Memᴰ.not-nil ((h x).0 (Memᴰ.head refl)))
same (x ∷ l) (y ∷ k) a b h =
    let eq : x ≡ y = heads (Memᴰ.cases_cons ((h x).0 (Memᴰ.head refl))) (Memᴰ.cases_cons ((h y).1 (Memᴰ.head refl))) in
    let rest : l ≡ k = same l k a.1 b.1 (λ z. (λ m. into eq z m (Memᴰ.cases_cons ((h z).0 (Memᴰ.tail m))), λ m. back eq z m (Memᴰ.cases_cons ((h z).1 (Memᴰ.tail m))))) in
    cc
  where
    heads : (x ≡ y) ⊎ Memᴰ x k → (y ≡ x) ⊎ Memᴰ y l → x ≡ y
    heads (inl e) q = e
    heads (inr p) (inl e) = sym e
    heads (inr p) (inr q) = absurd (before-asym x y (a.0 y q) (b.0 x p))

    into : x ≡ y → (z : Entry) → Memᴰ z l → (z ≡ y) ⊎ Memᴰ z k → Memᴰ z k
    into eq z m (inl e) = absurd (let g : Before x x = subst (λ (v : Entry). Before x v) (e ∙ sym eq) (a.0 z m) in before-asym x x g g)
    into eq z m (inr k) = k

    back : x ≡ y → (z : Entry) → Memᴰ z k → (z ≡ x) ⊎ Memᴰ z l → Memᴰ z l
    back eq z m (inl e) = absurd (let g : Before y y = subst (λ (v : Entry). Before y v) (e ∙ eq) (b.0 z m) in before-asym y y g g)
    back eq z m (inr k) = k

-- at least one

earlier-dec : (j d m e : ℕ) → Dec (Earlier j d m e)
earlier-dec j d m e = dec-either (dec_lt _ _) (dec-both (ℕ_discrete _ _) (dec_lt _ _))

-- ids tell the rules apart: "Ids: any 32-bit number, each once."
abbrev pub Distinct : List Rule → Type 0
Distinct rules = (r s : Rule) → Memᴰ r rules → Memᴰ s rules → r.id ≡ s.id → r ≡ s

module _ (bytes : List ℕ) (r : Rule) where
  pub from-dec : (m e s : ℕ) → Dec (SettledFrom bytes r m e s)
  from-dec m e s = dec-both (dec_lt s e) (means-dec (seen bytes m) r.tree s e)

  windows-dec : (s e : ℕ) → Dec (InWindows r.windows s e)
  windows-dec s e = map_dec (λ h. (h.0, h.1.0, h.1.1)) (λ h. (h.0, (h.1, h.2))) (dec-both (dec_le _ _) (dec-both (dec_le _ _) (dec_le _ _)))

  pub settled-dec : (m e : ℕ) → Dec (Settled bytes r m e)
  settled-dec m e =
      map_dec (λ h. record { start = h.0; earlier = h.1; matched = h.2.0; inside = h.2.1 }) (λ h. (h.start, h.earlier, (h.matched, h.inside)))
      (dec_some (λ s. Means (seen bytes m) r.tree s e × InWindows r.windows s e) e (λ s l. dec-both (means-dec (seen bytes m) r.tree s e) (windows-dec s e)))

  pub falls-dec : (m e : ℕ) → Dec (Falls bytes r m e)
  falls-dec m e =
      map_dec
      (λ h. record { from_last = h.0; by_closing = h.1.0; settled = h.1.1.0; not_before = λ j a c. h.1.1.1 j c a })
      (λ h. (h.from_last, (h.by_closing, (h.settled, λ j c a. h.not_before j a c))))
      (dec-both (dec_le _ _)
      (dec-both (dec_le _ _)
      (dec-both (settled-dec m e) (dec-every _ m (λ j c. dec-implies (dec_le _ _) (dec-not (settled-dec j e)))))))

  hides-dec : (j d m e : ℕ) → Dec (Hides bytes r j d m e)
  hides-dec j d m e = dec-both (dec-T r.single) (earlier-dec _ _ _ _)

  pub stays-dec : (m e : ℕ) → Dec (Stays bytes r m e)
  stays-dec m e =
      map_dec
      (λ h. record {
        falls = h.0;
        first = λ j d f. h.1 j (omega (arith, f.by_closing)) d (omega (arith, f.from_last, f.by_closing)) f;
      })
      (λ h. (h.falls, λ j a d c f. h.first j d f))
      (dec-both (falls-dec m e)
      (dec-every (λ j. (d : ℕ) → d < suc (closing_moment bytes) → Falls bytes r j d → ¬ Hides bytes r j d m e) (suc (closing_moment bytes))
      (λ j a. dec-every (λ d. Falls bytes r j d → ¬ Hides bytes r j d m e) (suc (closing_moment bytes))
      (λ d c. dec-implies (falls-dec j d) (dec-not (hides-dec j d m e))))))

  -- a report's start: one number, below the pair's end offset
  pub start_dec : (m e s : ℕ) → Dec (StartIs bytes r m e s)
  start_dec m e s =
      map_dec (λ h. record { leftmost = h.0; without = h.1 }) (λ h. (h.leftmost, h.without))
      (dec-both (dec-implies (dec-T r.starts) (least-dec (SettledFrom bytes r m e) (from-dec m e) s)) (dec-implies (dec-not (dec-T r.starts)) (ℕ_discrete s 0)))

  pub one-start : (m e s u : ℕ) → StartIs bytes r m e s → StartIs bytes r m e u → s ≡ u
  one-start m e s u a b = go (dec-T r.starts)
    where
      go : Dec (T r.starts) → s ≡ u
      go (yes t) = one-least (SettledFrom bytes r m e) s u (a.leftmost t) (b.leftmost t)
      go (no n) = a.without n ∙ sym (b.without n)

  pub some-start : (m e : ℕ) → Settled bytes r m e → (s : ℕ) × StartIs bytes r m e s
  some-start m e h = go (dec-T r.starts)
    where
      go : Dec (T r.starts) → (s : ℕ) × StartIs bytes r m e s
      go (yes t) =
          let l = some-least (SettledFrom bytes r m e) (from-dec m e) h.start (h.earlier, h.matched) in
          (l.0, record { leftmost = λ u. l.1; without = λ n. absurd (n t) })
      go (no n) = (0, record { leftmost = λ t. absurd (n t); without = λ u. refl })

  pub start-below : (m e s : ℕ) → Settled bytes r m e → StartIs bytes r m e s → s < e
  start-below m e s h i = go (dec-T r.starts)
    where
      go : Dec (T r.starts) → s < e
      go (yes t) = (i.leftmost t).there.0
      go (no n) = omega (arith, i.without n, h.earlier)

owed-dec : (rules : List Rule) (bytes : List ℕ) (m e i s : ℕ) → Dec (Owed rules bytes (entry m e i s))
owed-dec [] bytes m e i s = no (λ h. Memᴰ.not-nil h.1)
owed-dec (r ∷ rules) bytes m e i s =
    go (dec-both (ℕ_discrete r.id i) (dec-both (stays-dec bytes r m e) (start_dec bytes r m e s))) (owed-dec rules bytes m e i s)
  where
    go : Dec ((r.id ≡ i) × (Stays bytes r m e × StartIs bytes r m e s)) → Dec (Owed rules bytes (entry m e i s)) → Dec (Owed (r ∷ rules) bytes (entry m e i s))
    go (yes h) d = yes (r, Memᴰ.head refl, h.0, h.1.0, h.1.1)
    go (no n) (yes h) = yes (h.0, Memᴰ.tail h.1, h.2, h.3, h.4)
    go (no n) (no k) = no (λ h. elim (Memᴰ.cases_cons h.1) [
      | inl q ↦ n (subst (λ (x : Rule). (x.id ≡ i) × (Stays bytes x m e × StartIs bytes x m e s)) q (h.2, (h.3, h.4)))
      | inr l ↦ k (h.0, l, h.2, h.3, h.4)
    ])

-- no rule's id is above it
top : List Rule → ℕ
top [] = 0
top (r ∷ rules) = max r.id (top rules)

under_top : (rules : List Rule) (r : Rule) → Memᴰ r rules → r.id ≤ top rules
unfolding top
under_top [] r m = absurd (Memᴰ.not-nil m)
under_top (x ∷ rules) r (Memᴰ.head q) = omega (arith, ap (λ (y : Rule). y.id) q)
under_top (x ∷ rules) r (Memᴰ.tail m) = omega (arith, under_top rules r m)

module _ (rules : List Rule) (bytes : List ℕ) where
  -- a rule's pair has one start
  pub owed-once : Distinct rules → (m e i s u : ℕ) → Owed rules bytes (entry m e i s) → Owed rules bytes (entry m e i u) → s ≡ u
  owed-once distinct m e i s u a b =
      let same-rule : a.0 ≡ b.0 = distinct a.0 b.0 a.1 b.1 (a.2 ∙ sym b.2) in
      one-start bytes b.0 m e s u (subst (λ (r : Rule). StartIs bytes r m e s) same-rule a.4) b.4

  pub some-list : Distinct rules → (l : List Entry) × IsList rules bytes l
  some-list distinct =
      let n : ℕ = suc (closing_moment bytes + top rules) in
      let r = all (Owed rules bytes) dec n bound (owed-once distinct) in
      (r.0, record { rising = r.1.rising; exactly = r.1.exactly })
    where
      dec : (x : Entry) → Dec (Owed rules bytes x)
      dec (entry m e i s) = owed-dec rules bytes m e i s

      bound : (x : Entry) → Owed rules bytes x
          → (moment x < suc (closing_moment bytes + top rules)) × (offset x < suc (closing_moment bytes + top rules)) × (id x < suc (closing_moment bytes + top rules))
          × (start x < suc (closing_moment bytes + top rules))
      bound (entry m e i s) h =
          omega (arith, h.3.falls.from_last, h.3.falls.by_closing, h.2, under_top rules h.0 h.1, start-below bytes h.0 m e s h.3.falls.settled h.4)

  pub only_one : (l k : List Entry) → IsList rules bytes l → IsList rules bytes k → l ≡ k
  only_one l k a b = same l k a.rising b.rising (λ x. (λ m. (b.exactly x).1 ((a.exactly x).0 m), λ m. (a.exactly x).1 ((b.exactly x).0 m)))

  -- Exactly one list of reports is the ordered one.
  pub some-reports : Distinct rules → (u : List Report) × Ordered rules bytes u
  some-reports distinct = let l = some-list distinct in (map report l.0, record { list = l.0; is_list = l.1; given = refl })

  pub one_answer : (u v : List Report) → Ordered rules bytes u → Ordered rules bytes v → u ≡ v
  one_answer u v a b = sym a.given ∙ ap (map report) (only_one a.list b.list a.is_list b.is_list) ∙ b.given
