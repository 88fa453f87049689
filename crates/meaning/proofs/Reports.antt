-- The ordered list says what demand 2 says: a rule's pairs in the list are exactly its reported
-- ones, each once and with its one start, and while bytes come their offsets are in order. Assumes
-- nothing.
use mathlib.Core.Path.{◌≡◌, refl, sym, subst, subst₂, ap, ◌∙◌}
use mathlib.Core.Logic.{inl, inr, ◌↔◌}
use mathlib.Core.List.{List, [], ◌∷◌, map, Memᴰ}
use Prim.Native.Nat.{ℕ, suc, ◌≤◌, ◌<◌}
use native.Mathlib.Omega.{arith}
use native.Mathlib.Decide.{dec_lt}
use lib.ListN.{length}
use Rattle.meaning.specs.Rule.{Rule, MatchEnds}
use Rattle.meaning.specs.Ordered.{closing_moment, Falls, Earlier, Stays, StartIs, Reported, StartOf, Entry, entry, Before, Rising, IsList, Report, report, Pair, pair, Ordered, Once}
use Rattle.meaning.proofs.OneList.{some-start, one-start}
pub use Rattle.meaning.proofs.OneList.{Distinct}
use Rattle.meaning.proofs.Moments.{Moment, stays-settled, falls-when, falls-some, settled-whole}

module _ (bytes : List ℕ) (r : Rule) where
  -- A pair that falls matches on the whole stream, and a match falls at some moment.
  pub falls-match : (e : ℕ) → ((m : ℕ) × Falls bytes r m e) ↔ MatchEnds r bytes e
  falls-match e = (
    λ h. (settled-whole bytes r e).0 (stays-settled bytes r h.0 (closing_moment bytes) e h.1.by_closing (omega arith) h.1.settled),
    λ h. falls-some bytes r e ((settled-whole bytes r e).1 h),
  )

  -- a pair falls once
  pub one-moment : (m j e : ℕ) → Falls bytes r m e → Falls bytes r j e → m ≡ j
  one-moment m j e f g = go (dec_lt m j) (dec_lt j m)
    where
      go : Dec (m < j) → Dec (j < m) → m ≡ j
      go (yes lt) d = absurd (g.not_before m f.from_last lt f.settled)
      go (no ge) (yes lt) = absurd (f.not_before j g.from_last lt g.settled)
      go (no ge) (no le) = omega arith

  -- The pairs that stay are the reported ones.
  pub stays-reported : (e : ℕ) → ((m : ℕ) × Stays bytes r m e) ↔ Reported r bytes e
  stays-reported e = (
    λ h. (
      (falls-match e).0 (h.0, h.1.falls),
      λ one m j d f g x. h.1.first j d g (one, subst (λ (k : ℕ). Earlier j d k e) (one-moment m h.0 e f h.1.falls) x),
    ),
    λ h. let f = (falls-match e).1 h.0 in (f.0, record { falls = f.1; first = λ j d g x. h.1 x.0 f.0 j d f.1 g x.1 }),
  )

  -- A reported pair has one start.
  pub one-start-of : (e s u : ℕ) → Reported r bytes e → StartOf r bytes e s → StartOf r bytes e u → s ≡ u
  one-start-of e s u h a b = let f = (falls-match e).1 h.0 in one-start bytes r f.0 e s u (a f.0 f.1) (b f.0 f.1)

  -- the start at the one moment at which the pair falls
  pub start-there : (m e s : ℕ) → Falls bytes r m e → StartIs bytes r m e s ↔ StartOf r bytes e s
  start-there m e s f = (
    λ i j g. subst (λ (k : ℕ). StartIs bytes r k e s) (one-moment m j e f g) i,
    λ i. i m f,
  )

-- of one rule, the earlier of two pairs is the one that stands before the other in the list
pub earlier-before : (j d m e i s u : ℕ) → Earlier j d m e ↔ Before (entry j d i s) (entry m e i u)
earlier-before j d m e i s u = (
  λ h. elim h [ inl x ↦ inl x | inr x ↦ inr (x.0, inl x.1) ],
  λ h. elim h [ inl x ↦ inl x | inr x ↦ elim x.1 [ inl u ↦ inr (x.0, u) | inr u ↦ absurd (omega (arith, u.1)) ] ],
)

module _ (rules : List Rule) (bytes : List ℕ) (l : List Entry) (is : IsList rules bytes l) where
  -- Demand 2, of the list: a rule's pair is in it exactly if it is reported, and with its start.
  pub in_list : Distinct rules → (r : Rule) → Memᴰ r rules → (e s : ℕ) → ((m : ℕ) × Memᴰ (entry m e r.id s) l) ↔ (Reported r bytes e × StartOf r bytes e s)
  in_list distinct r mem e s = (
    λ h.
        let o = (is.exactly (entry h.0 e r.id s)).0 h.1 in
        let q : o.0 ≡ r = distinct o.0 r o.1 mem o.2 in
        let stays : Stays bytes r h.0 e = subst (λ (x : Rule). Stays bytes x h.0 e) q o.3 in (
          (stays-reported bytes r e).0 (h.0, stays),
          (start-there bytes r h.0 e s stays.falls).0 (subst (λ (x : Rule). StartIs bytes x h.0 e s) q o.4),
        ),
    λ h. let x = (stays-reported bytes r e).1 h.0 in (x.0, (is.exactly (entry x.0 e r.id s)).1 (r, mem, refl, x.1, h.1 x.0 x.1.falls)),
  )

  -- Each pair once: two entries of one pair have the same moment, so they are one entry of a list
  -- that rises strictly.
  pub once : Distinct rules → (m j e i s u : ℕ) → Memᴰ (entry m e i s) l → Memᴰ (entry j e i u) l → m ≡ j
  once distinct m j e i s u a b =
      let x = (is.exactly (entry m e i s)).0 a in
      let y = (is.exactly (entry j e i u)).0 b in
      let q : x.0 ≡ y.0 = distinct x.0 y.0 x.1 y.1 (x.2 ∙ sym y.2) in
      one-moment bytes y.0 m j e (subst (λ (r : Rule). Stays bytes r m e) q x.3).falls y.3.falls

  -- While bytes come the list goes by end offset: no entry has a smaller offset than one before it.
  pub by-offset : (m e i s j d k u : ℕ) → m ≤ length bytes → j ≤ length bytes → Memᴰ (entry m e i s) l → Memᴰ (entry j d k u) l
      → Before (entry m e i s) (entry j d k u) → e ≤ d
  by-offset m e i s j d k u lm lj a b lt =
      let x = (is.exactly (entry m e i s)).0 a in
      let y = (is.exactly (entry j d k u)).0 b in
      go lt (near x.0 m e lm (falls-when bytes x.0 m e x.3.falls)) (near y.0 j d lj (falls-when bytes y.0 j d y.3.falls))
    where
      -- with its last byte or with the next one
      near : (r : Rule) (m e : ℕ) → m ≤ length bytes → Moment bytes r m e → (e ≤ m) × (m ≤ suc e)
      near r m e h (inl x) = (omega (arith, x.0), omega (arith, x.0))
      near r m e h (inr (inl x)) = (omega (arith, x.0), omega (arith, x.0))
      near r m e h (inr (inr x)) = absurd (omega (arith, x.0))

      go : Before (entry m e i s) (entry j d k u) → (e ≤ m) × (m ≤ suc e) → (d ≤ j) × (j ≤ suc d) → e ≤ d
      go (inl x) p q = omega (arith, p.0, q.1)
      go (inr x) p q = elim x.1 [ inl u ↦ omega arith | inr u ↦ omega (arith, u.0) ]

  -- What the closing gives comes last.
  pub closing-last : (e i s j d k u : ℕ) → Memᴰ (entry j d k u) l → Before (entry (closing_moment bytes) e i s) (entry j d k u) → j ≡ closing_moment bytes
  closing-last e i s j d k u b (inl x) = omega (arith, ((is.exactly (entry j d k u)).0 b).3.falls.by_closing)
  closing-last e i s j d k u b (inr x) = sym x.0

map-in : {x : Entry} {l : List Entry} → Memᴰ x l → Memᴰ (report x) (map report l)
map-in (mathlib.Core.List.Memᴰ.head e) = mathlib.Core.List.Memᴰ.head (ap report e)
map-in (mathlib.Core.List.Memᴰ.tail m) = mathlib.Core.List.Memᴰ.tail (map-in m)

map-out : (l : List Entry) (p : Report) → Memᴰ p (map report l) → (x : Entry) × Memᴰ x l × (p ≡ report x)
map-out [] p m = absurd (mathlib.Core.List.Memᴰ.not-nil m)
map-out (x ∷ l) p (mathlib.Core.List.Memᴰ.head e) = (x, mathlib.Core.List.Memᴰ.head refl, e)
map-out (x ∷ l) p (mathlib.Core.List.Memᴰ.tail m) = let r : (x : Entry) × Memᴰ x l × (p ≡ report x) = map-out l p m in (r.0, mathlib.Core.List.Memᴰ.tail r.1, r.2)

-- a pair of the reports is that of some report
pair-in : {p : Report} {l : List Report} → Memᴰ p l → Memᴰ (pair p) (map pair l)
pair-in (mathlib.Core.List.Memᴰ.head e) = mathlib.Core.List.Memᴰ.head (ap pair e)
pair-in (mathlib.Core.List.Memᴰ.tail m) = mathlib.Core.List.Memᴰ.tail (pair-in m)

pair-out : (l : List Report) (i e : ℕ) → Memᴰ (i, e) (map pair l) → (s : ℕ) × Memᴰ (i, e, s) l
pair-out [] i e m = absurd (mathlib.Core.List.Memᴰ.not-nil m)
pair-out ((j, d, s) ∷ l) i e (mathlib.Core.List.Memᴰ.head q) = (s, mathlib.Core.List.Memᴰ.head (same (ap (λ (z : Pair). z.0) q) (ap (λ (z : Pair). z.1) q)))
  where
    same : i ≡ j → e ≡ d → ◌≡◌ {A = Report} (i, e, s) (j, d, s)
    same p o = cc
pair-out (p ∷ l) i e (mathlib.Core.List.Memᴰ.tail m) = let r : (s : ℕ) × Memᴰ (i, e, s) l = pair-out l i e m in (r.0, mathlib.Core.List.Memᴰ.tail r.1)

once-rising : (l : List Entry) → Rising l → ((m j e i s u : ℕ) → Memᴰ (entry m e i s) l → Memᴰ (entry j e i u) l → m ≡ j) → Once (map pair (map report l))
unfolding Once Rising
once-rising [] rising same = tt
once-rising (entry m e i s ∷ l) rising same = (
  λ k. let y = pair-out (map report l) i e k in let x = map-out l (i, e, y.0) y.1 in again y.0 x.0 x.1 x.2,
  once-rising l rising.1 (λ m j e i s u a b. same m j e i s u (mathlib.Core.List.Memᴰ.tail a) (mathlib.Core.List.Memᴰ.tail b)),
)
  where
    again : (v : ℕ) (x : Entry) → Memᴰ x l → (i, e, v) ≡ report x → ⊥
    again v (entry j d k u) mem q =
        let p : i ≡ k = ap (λ (z : Report). z.0) q in
        let o : e ≡ d = ap (λ (z : Report). z.1) q in
        let moments : m ≡ j = same m j e i s u (mathlib.Core.List.Memᴰ.head refl) (mathlib.Core.List.Memᴰ.tail (subst₂ (λ (x y : ℕ). Memᴰ (entry j x y u) l) (sym o) (sym p) mem)) in
        elim (rising.0 (entry j d k u) mem) [
          | inl lt ↦ omega arith
          | inr h ↦ elim h.1 [ inl lt ↦ omega arith | inr g ↦ omega (arith, g.1) ]
        ]

module _ (rules : List Rule) (bytes : List ℕ) (reports : List Report) (ordered : Ordered rules bytes reports) (distinct : Distinct rules) where
  -- Demand 2, of the list of reports: a rule's pair is in it with a start exactly if it is reported
  -- and that is its start ..
  pub in-reports : (r : Rule) → Memᴰ r rules → (e s : ℕ) → Memᴰ (r.id, e, s) reports ↔ (Reported r bytes e × StartOf r bytes e s)
  in-reports r mem e s =
      let both = in_list rules bytes ordered.list ordered.is_list distinct r mem e s in (
        λ m. let x = map-out ordered.list (r.id, e, s) (subst (λ (l : List Report). Memᴰ (r.id, e, s) l) (sym ordered.given) m) in
            both.0 (back x.0 x.1 x.2),
        λ h. let x = both.1 h in subst (λ (l : List Report). Memᴰ (r.id, e, s) l) ordered.given (map-in x.1),
      )
    where
      back : (x : Entry) → Memᴰ x ordered.list → (r.id, e, s) ≡ report x → (m : ℕ) × Memᴰ (entry m e r.id s) ordered.list
      back (entry m d i u) k q =
          let p : r.id ≡ i = ap (λ (z : Report). z.0) q in
          let o : e ≡ d = ap (λ (z : Report). z.1) q in
          let v : s ≡ u = ap (λ (z : Report). z.2) q in
          let there : Memᴰ (entry m e r.id u) ordered.list = subst₂ (λ (x y : ℕ). Memᴰ (entry m x y u) ordered.list) (sym o) (sym p) k in
          (m, subst (λ (z : ℕ). Memᴰ (entry m e r.id z) ordered.list) (sym v) there)

  -- .. so it is in it with some start exactly if it is reported ..
  pub in_pairs : (r : Rule) → Memᴰ r rules → (e : ℕ) → Memᴰ (r.id, e) (map pair reports) ↔ Reported r bytes e
  in_pairs r mem e = (
    λ m. let x = pair-out reports r.id e m in ((in-reports r mem e x.0).0 x.1).0,
    λ h.
        let f = (falls-match bytes r e).1 h.0 in
        let x = some-start bytes r f.0 e f.1.settled in
        pair-in ((in-reports r mem e x.0).1 (h, (start-there bytes r f.0 e x.0 f.1).0 x.1)),
  )

  -- .. and once.
  pub no-pair-twice : Once (map pair reports)
  no-pair-twice = subst (λ (l : List Report). Once (map pair l)) ordered.given (go ordered.list ordered.is_list.rising (λ x m. m))
    where
      go : (l : List Entry) → Rising l → ((x : Entry) → Memᴰ x l → Memᴰ x ordered.list) → Once (map pair (map report l))
      go l rising sub =
          once-rising l rising (λ m j e i s u a b. once rules bytes ordered.list ordered.is_list distinct m j e i s u (sub (entry m e i s) a) (sub (entry j e i u) b))
