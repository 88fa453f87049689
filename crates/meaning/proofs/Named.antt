-- A rule's id is only a name: the ordered list of one rule alone, by another id, is the same list
-- with that id in its entries. What falls, stays and starts looks at the rule's flags, windows and
-- tree; and the entries of one rule are told apart by moment and offset. Assumes nothing.
use mathlib.Core.Path.{◌≡◌, refl, sym, subst, ap, ◌∙◌}
use mathlib.Core.Logic.{inl, inr}
use mathlib.Core.List.Memᴰ
use mathlib.Core.List.{List, [], ◌∷◌, map, Memᴰ}
use Prim.Native.Nat.{ℕ}
use native.Mathlib.Omega.{arith}
use Rattle.meaning.specs.Rule.{Rule}
use Rattle.meaning.specs.Ordered.{Settled, Falls, Stays, StartIs, Entry, entry, Before, Rising, Owed, IsList, Report, report, Ordered}

-- the rule by the id j
abbrev pub named : ℕ → Rule → Rule
named j r = record { id = j; single = r.single; starts = r.starts; windows = r.windows; tree = r.tree }

-- its report
abbrev pub report_by : ℕ → Report → Report
report_by j p = (j, p.1, p.2)

module _ (bytes : List ℕ) (r : Rule) (i j : ℕ) where
  settled-as : (m e : ℕ) → Settled bytes (named i r) m e → Settled bytes (named j r) m e
  settled-as m e h = record { start = h.start; earlier = h.earlier; matched = h.matched; inside = h.inside }

module _ (bytes : List ℕ) (r : Rule) (i j : ℕ) where
  falls-as : (m e : ℕ) → Falls bytes (named i r) m e → Falls bytes (named j r) m e
  falls-as m e h = record {
    from_last = h.from_last;
    by_closing = h.by_closing;
    settled = settled-as bytes r i j m e h.settled;
    not_before = λ k a b s. h.not_before k a b (settled-as bytes r j i k e s);
  }

module _ (bytes : List ℕ) (r : Rule) (i j : ℕ) where
  stays-as : (m e : ℕ) → Stays bytes (named i r) m e → Stays bytes (named j r) m e
  stays-as m e h = record { falls = falls-as bytes r i j m e h.falls; first = λ k d f. h.first k d (falls-as bytes r j i k d f) }

  start-as : (m e s : ℕ) → StartIs bytes (named i r) m e s → StartIs bytes (named j r) m e s
  start-as m e s h = record { leftmost = h.leftmost; without = h.without }

-- ---- entries

renamed : ℕ → Entry → Entry
renamed j (entry m e i s) = entry m e j s

id_of : Entry → ℕ
id_of (entry m e i s) = i

-- two entries of one id stand in their order by moment or offset
before-as : (j : ℕ) (x y : Entry) → id_of x ≡ id_of y → Before x y → Before (renamed j x) (renamed j y)
unfolding renamed id_of
before-as j (entry m e i s) (entry n d k u) same (inl h) = inl h
before-as j (entry m e i s) (entry n d k u) same (inr h) = inr (h.0, elim h.1 [ inl l ↦ inl l | inr l ↦ absurd (omega (arith, l.1)) ])

rising-as : (i j : ℕ) (l : List Entry) → ((x : Entry) → Memᴰ x l → id_of x ≡ i) → Rising l → Rising (map (renamed j) l)
unfolding Rising
rising-as i j [] same h = tt
rising-as i j (x ∷ l) same h = (
  λ y m.
      let p = Memᴰ.of_map (renamed j) l m in
      subst (Before (renamed j x)) p.2
      (before-as j x p.0 (same x (Memᴰ.head refl) ∙ sym (same p.0 (Memᴰ.tail p.1))) (h.0 p.0 p.1)),
  rising-as i j l (λ y m. same y (Memᴰ.tail m)) h.1,
)

module _ (bytes : List ℕ) (r : Rule) (i j : ℕ) where
  owed-as : (x : Entry) → Owed (named i r ∷ []) bytes x → (id_of x ≡ i) × Owed (named j r ∷ []) bytes (renamed j x)
  unfolding renamed id_of
  owed-as (entry m e k s) o =
      let same : o.0 ≡ named i r = Memᴰ.eq_of_singleton o.1 in (
        sym o.2 ∙ ap (λ (u : Rule). u.id) same,
        (
          named j r,
          Memᴰ.head refl,
          refl,
          stays-as bytes r i j m e (subst (λ (u : Rule). Stays bytes u m e) same o.3),
          start-as bytes r i j m e s (subst (λ (u : Rule). StartIs bytes u m e s) same o.4),
        ),
      )

renamed-twice : (i j : ℕ) (x : Entry) → id_of x ≡ j → renamed j (renamed i x) ≡ x
unfolding renamed id_of
renamed-twice i j (entry m e k s) same = ap (λ (u : ℕ). entry m e u s) (sym same)

report-as : (j : ℕ) (x : Entry) → report (renamed j x) ≡ report_by j (report x)
unfolding renamed
report-as j (entry m e i s) = refl

module _ (bytes : List ℕ) (r : Rule) (i j : ℕ) where
  list-as : (l : List Entry) → IsList (named i r ∷ []) bytes l → IsList (named j r ∷ []) bytes (map (renamed j) l)
  list-as l h = record {
    rising = rising-as i j l (λ x m. (owed-as bytes r i j x ((h.exactly x).0 m)).0) h.rising;
    exactly = λ x. (
      λ m.
          let p = Memᴰ.of_map (renamed j) l m in
          subst (Owed (named j r ∷ []) bytes) p.2 (owed-as bytes r i j p.0 ((h.exactly p.0).0 p.1)).1,
      λ o.
          let p = owed-as bytes r j i x o in
          subst (λ (y : Entry). Memᴰ y (map (renamed j) l)) (renamed-twice i j x p.0) (Memᴰ.map (renamed j) ((h.exactly (renamed i x)).1 p.1)),
    );
  }

  reports-as : (l : List Entry) → map report (map (renamed j) l) ≡ map (report_by j) (map report l)
  reports-as [] = refl
  reports-as (x ∷ l) = rw (report-as j x, reports-as l)

  -- the list of the rule by another id
  pub ordered-as : (reports : List Report) → Ordered (named i r ∷ []) bytes reports → Ordered (named j r ∷ []) bytes (map (report_by j) reports)
  ordered-as reports h = record {
    list = map (renamed j) h.list;
    is_list = list-as h.list h.is_list;
    given = reports-as h.list ∙ ap (map (report_by j)) h.given;
  }
