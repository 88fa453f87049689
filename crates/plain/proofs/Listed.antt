-- What is reported, with its moments, is the one ordered list of the rule alone: moments in turn,
-- each with its one or two offsets; and of a single-match rule the first. Assumes nothing.
use mathlib.Core.Path.{◌≡◌, refl, sym, subst, subst₂, ap, ap₂, ◌∙◌}
use mathlib.Core.Logic.{◌⊎◌, inl, inr, ◌↔◌}
use mathlib.Core.Bool.{Bool, true, false, cond, not, ◌&&◌}
use mathlib.Core.List.Memᴰ
use mathlib.Core.List.{List, [], ◌∷◌, ◌++◌, map, Memᴰ}
use Prim.Native.Nat.{ℕ, zero, suc, ◌≤◌, ◌<◌}
use native.Mathlib.Omega.{arith}
use native.Mathlib.Decide.{dec_lt, dec_le}
use lib.Dec.{T}
use lib.ListN.{length, take, drop, length-drop}
use Rattle.meaning.specs.Form.{Form, write, positions}
use Rattle.meaning.specs.Gap.{last_line}
use Rattle.meaning.specs.Rule.{Rule, Assertion, ByteSet}
use Rattle.meaning.specs.Ordered.{Settled, Falls, Earlier, Stays, StartIs, Entry, entry, Before, Rising, Owed, IsList, Report, report, Ordered}
use Rattle.meaning.proofs.Logic.{and_T}
use Rattle.meaning.proofs.Base.{more_bytes}
use Rattle.meaning.proofs.Enumerated.{Lists, append-rising, moment, offset, id, start}
use Rattle.meaning.proofs.OneList.{one-start, some-start}
use Rattle.meaning.proofs.Moments.{Moment, within, stays-settled, falls_at, falls-after, falls-when}
use Rattle.plain.specs.Run.{own_at, late_at, line_at, end_at, Hit, shown, inside, Choice, up_to, closed, kept}
use Rattle.plain.proofs.Logs.{own-iff, own_is, late-iff, late_is, line-iff, line-is, end-iff, end_is}

-- ---- lists of entries

joined : (P Q : Entry → Type 0) (a b : List Entry) → ((x y : Entry) → P x → Q y → Before x y) → Lists P a → Lists Q b → Lists (λ x. P x ⊎ Q x) (a ++ b)
joined P Q a b lt p q = record {
  rising = append-rising a b p.rising q.rising (λ x y m k. lt x y ((p.exactly x).0 m) ((q.exactly y).0 k));
  exactly = λ x. (
    λ m. elim (Memᴰ.append_cases a m) [ inl k ↦ inl ((p.exactly x).0 k) | inr k ↦ inr ((q.exactly x).0 k) ],
    λ h. elim h [ inl u ↦ Memᴰ.append_left b ((p.exactly x).1 u) | inr u ↦ Memᴰ.append_right a ((q.exactly x).1 u) ],
  );
}

as-well : (P Q : Entry → Type 0) (a : List Entry) → ((x : Entry) → P x ↔ Q x) → Lists P a → Lists Q a
as-well P Q a iff p = record {
  rising = p.rising;
  exactly = λ x. (λ m. (iff x).0 ((p.exactly x).0 m), λ h. (p.exactly x).1 ((iff x).1 h));
}

abbrev maybe : Bool → Entry → List Entry
maybe b x = cond b (x ∷ []) []

one : (b : Bool) (x : Entry) → Lists (λ y. T b × (y ≡ x)) (maybe b x)
unfolding Rising
one true x = record {
  rising = (λ y m. absurd (Memᴰ.not-nil m), tt);
  exactly = λ y. (
    λ m. elim (Memᴰ.cases_cons m) [ inl e ↦ (tt, e) | inr k ↦ absurd (Memᴰ.not-nil k) ],
    λ h. Memᴰ.head h.1,
  );
}
one false x = record { rising = tt; exactly = λ y. (λ m. absurd (Memᴰ.not-nil m), λ h. absurd h.0) }

no-entries : (P : Entry → Type 0) → ((x : Entry) → ¬ P x) → Lists P []
unfolding Rising
no-entries P none_here = record { rising = tt; exactly = λ x. (λ m. absurd (Memᴰ.not-nil m), λ h. absurd (none_here x h)) }

-- ---- tests

not_T : (b : Bool) → T (not b) ↔ (¬ T b)
not_T true = (λ h k. h, λ h. h tt)
not_T false = (λ h k. k, λ h. tt)

module _ (bytes : List ℕ) (r : Rule) (room : positions (write r.tree) ≤ 256) (short : length bytes ≤ 1024) where
  abbrev f : Form ByteSet Assertion
  f = write r.tree

  abbrev n : ℕ
  n = length bytes

  abbrev there : (e x : ℕ) → Bool
  there e x = inside r.windows e x

  abbrev own : ℕ → Bool
  own k = there k (own_at bytes f k)

  own-T : (e : ℕ) → e ≤ n → T (own e) ↔ Settled bytes r e e
  own-T e le = own-iff bytes r room short e le

  late-T : (e : ℕ) → e < n → T (there e (late_at bytes f e)) ↔ Settled bytes r (suc e) e
  late-T e lt = late-iff bytes r room short e lt

  abbrev late : ℕ → Bool
  late k = not (own k) && there k (late_at bytes f k)

  late-falls : (k : ℕ) → k < n → T (late k) ↔ Falls bytes r (suc k) k
  late-falls k lt =
      let both = falls-after bytes r k k (omega arith) (omega arith) in (
        λ h. let g = (and_T (not (own k)) (there k (late_at bytes f k))).0 h in
            both.1 ((late-T k lt).0 g.1, λ s. (not_T (own k)).0 g.0 ((own-T k (omega arith)).1 s)),
        λ h. let g = both.0 h in
            (and_T (not (own k)) (there k (late_at bytes f k))).1
            ((not_T (own k)).1 (λ s. g.1 ((own-T k (omega arith)).0 s)), (late-T k lt).1 g.0),
      )

  late-start : (k : ℕ) → k < n → T (late k) → StartIs bytes r (suc k) k (shown r.starts (late_at bytes f k))
  late-start k lt h = late_is bytes r room short k lt ((and_T (not (own k)) (there k (late_at bytes f k))).0 h).1

  own-falls : (e : ℕ) → e ≤ n → T (own e) ↔ Falls bytes r e e
  own-falls e le = (λ h. falls_at bytes r e ((own-T e le).0 h), λ h. (own-T e le).1 h.settled)

  -- ---- moments in turn

  -- an entry of the rule that falls, with its start
  abbrev FallsE : Entry → Type 0
  FallsE x = (id x ≡ r.id) × Falls bytes r (moment x) (offset x) × StartIs bytes r (moment x) (offset x) (start x)

  abbrev at : (m e x : ℕ) → Entry
  at m e x = entry m e r.id (shown r.starts x)

  entries_up_to : ℕ → List Entry
  entries_up_to zero = []
  entries_up_to (suc k) = (entries_up_to k ++ maybe (late k) (at (suc k) k (late_at bytes f k))) ++ maybe (own (suc k)) (at (suc k) (suc k) (own_at bytes f (suc k)))

  known-entry : (x : Entry) (m e u : ℕ) → moment x ≡ m → offset x ≡ e → id x ≡ r.id → start x ≡ u → x ≡ entry m e r.id u
  known-entry (entry a b c d) m e u p q s t = cc

  -- an entry is known by its moment and offset: it has one start
  same-entry : (x : Entry) (m e u : ℕ) → moment x ≡ m → offset x ≡ e → FallsE x → StartIs bytes r m e (shown r.starts u) → x ≡ at m e u
  same-entry x m e u p q h i =
      known-entry x m e (shown r.starts u) p q h.0
      (one-start bytes r m e (start x) (shown r.starts u) (subst₂ (λ (j d : ℕ). StartIs bytes r j d (start x)) p q h.2) i)

  no_start : (m : ℕ) → ¬ Falls bytes r m 0
  no_start m h = omega (arith, h.settled.earlier)

  -- a pair that falls while bytes come falls with its last byte or with the next
  near : (m e : ℕ) → m ≤ n → Falls bytes r m e → (m ≡ e) ⊎ (m ≡ suc e)
  near m e le h = go (falls-when bytes r m e h)
    where
      go : Moment bytes r m e → (m ≡ e) ⊎ (m ≡ suc e)
      go (inl x) = inl x.0
      go (inr (inl x)) = inr x.0
      go (inr (inr x)) = absurd (omega (arith, x.0))

  abbrev Within : ℕ → Entry → Type 0
  Within k x = (moment x ≤ k) × FallsE x

  abbrev First : ℕ → Entry → Type 0
  First k x = T (late k) × (x ≡ at (suc k) k (late_at bytes f k))

  abbrev Second : ℕ → Entry → Type 0
  Second k x = T (own (suc k)) × (x ≡ at (suc k) (suc k) (own_at bytes f (suc k)))

  one_more : (k : ℕ) → suc k ≤ n → (x : Entry) → ((Within k x ⊎ First k x) ⊎ Second k x) ↔ Within (suc k) x
  one_more k le x = (
    λ h. elim h [
      | inl g ↦ elim g [
        | inl y ↦ (omega (arith, y.0), y.1)
        | inr y ↦ subst (Within (suc k)) (sym y.1) (omega arith, (refl, (late-falls k (omega arith)).0 y.0, late-start k (omega arith) y.0))
      ]
      | inr y ↦ subst (Within (suc k)) (sym y.1) (omega arith, (refl, (own-falls (suc k) le).0 y.0, own_is bytes r room short (suc k) le y.0))
    ],
    λ h. go h (dec_le (moment x) k),
  )
    where
      go : Within (suc k) x → Dec (moment x ≤ k) → (Within k x ⊎ First k x) ⊎ Second k x
      go h (yes l) = inl (inl (l, h.1))
      go h (no g) =
          let m : moment x ≡ suc k = omega (arith, h.0) in
          let falls : Falls bytes r (suc k) (offset x) = subst (λ (j : ℕ). Falls bytes r j (offset x)) m h.1.1 in
          elim (near (suc k) (offset x) le falls) [
            | inl q ↦ let o : offset x ≡ suc k = sym q in
                let t : T (own (suc k)) = (own-falls (suc k) le).1 (subst (λ (j : ℕ). Falls bytes r (suc k) j) o falls) in
                inr (t, same-entry x (suc k) (suc k) (own_at bytes f (suc k)) m o h.1 (own_is bytes r room short (suc k) le t))
            | inr q ↦ let o : offset x ≡ k = omega arith in
                let t : T (late k) = (late-falls k (omega arith)).1 (subst (λ (j : ℕ). Falls bytes r (suc k) j) o falls) in
                inl (inr (t, same-entry x (suc k) k (late_at bytes f k) m o h.1 (late-start k (omega arith) t)))
          ]

  earlier-moment : (x y : Entry) → moment x < moment y → Before x y
  earlier-moment (entry a b c d) (entry a' b' c' d') lt = inl lt

  earlier-offset : (x y : Entry) → moment x ≡ moment y → offset x < offset y → Before x y
  earlier-offset (entry a b c d) (entry a' b' c' d') e lt = inr (e, inl lt)

  up-lists : (k : ℕ) → k ≤ n → Lists (Within k) (entries_up_to k)
  unfolding entries_up_to
  up-lists zero le = no-entries (Within 0) (λ x h. no_start 0 (subst (λ (j : ℕ). Falls bytes r 0 j) (zero-offset x h) (subst (λ (j : ℕ). Falls bytes r j (offset x)) (zero-moment x h) h.1.1)))
    where
      zero-moment : (x : Entry) → Within 0 x → moment x ≡ 0
      zero-moment x h = omega (arith, h.0)

      zero-offset : (x : Entry) → Within 0 x → offset x ≡ 0
      zero-offset x h = omega (arith, h.0, h.1.1.from_last)
  up-lists (suc k) le =
      as-well (λ x. (Within k x ⊎ First k x) ⊎ Second k x) (Within (suc k)) (entries_up_to (suc k)) (one_more k le)
      (joined (λ x. Within k x ⊎ First k x) (Second k) (entries_up_to k ++ maybe (late k) (at (suc k) k (late_at bytes f k))) (maybe (own (suc k)) (at (suc k) (suc k) (own_at bytes f (suc k))))
      (λ x y p q. elim p [
        | inl u ↦ earlier-moment x y (omega (arith, u.0, ap moment q.1))
        | inr u ↦ earlier-offset x y (ap moment u.1 ∙ sym (ap moment q.1)) (omega (arith, ap offset u.1, ap offset q.1))
      ])
      (joined (Within k) (First k) (entries_up_to k) (maybe (late k) (at (suc k) k (late_at bytes f k))) (λ x y p q. earlier-moment x y (omega (arith, p.0, ap moment q.1)))
      (up-lists k (omega arith)) (one (late k) (at (suc k) k (late_at bytes f k))))
      (one (own (suc k)) (at (suc k) (suc k) (own_at bytes f (suc k)))))

  -- ---- the closing

  abbrev line : ℕ → Bool
  line k = (not (own k) && not (there k (late_at bytes f k))) && there k (line_at bytes f k)

  abbrev end : ℕ → Bool
  end k = not (own (suc k)) && there (suc k) (end_at bytes f k)

  entries_closed : ℕ → List Entry
  entries_closed zero = []
  entries_closed (suc k) = (entries_up_to (suc k) ++ maybe (line k) (at (suc (suc k)) k (line_at bytes f k))) ++ maybe (end k) (at (suc (suc k)) (suc k) (end_at bytes f k))

  module _ (k : ℕ) (last : suc k ≡ n) where
    at_n : (j e : ℕ) → suc k ≡ j → Settled bytes r (suc k) e → Settled bytes r j e
    at_n j e q s = subst (λ (m : ℕ). Settled bytes r m e) q s

    line-falls : T (line k) ↔ Falls bytes r (suc n) k
    line-falls =
        let both = falls-after bytes r n k (omega arith) (omega arith) in
        let i = line-iff bytes r room short k last in
        let o = not (own k) in
        let l = not (there k (late_at bytes f k)) in (
          λ h.
              let g = (and_T (o && l) (there k (line_at bytes f k))).0 h in
              let p = (and_T o l).0 g.0 in
              both.1 (i.0 g.1, λ s. (not_T (there k (late_at bytes f k))).0 p.1 ((late-T k (omega arith)).1 (subst (λ (m : ℕ). Settled bytes r m k) (sym last) s))),
          λ h.
              let g = both.0 h in
              let no-late : ¬ Settled bytes r (suc k) k = λ s. g.1 (at_n n k last s) in
              (and_T (o && l) (there k (line_at bytes f k))).1 (
                (and_T o l).1 (
                  (not_T (own k)).1 (λ s. no-late (stays-settled bytes r k (suc k) k (omega arith) (omega arith) ((own-T k (omega arith)).0 s))),
                  (not_T (there k (late_at bytes f k))).1 (λ s. no-late ((late-T k (omega arith)).0 s)),
                ),
                i.1 g.0,
              ),
        )

    end_falls : T (end k) ↔ Falls bytes r (suc n) (suc k)
    end_falls =
        let both = falls-after bytes r n (suc k) (omega arith) (omega arith) in
        let i = end-iff bytes r room short k last in
        let o = own (suc k) in (
          λ h.
              let g = (and_T (not o) (there (suc k) (end_at bytes f k))).0 h in
              both.1 (i.0 g.1, λ s. (not_T o).0 g.0 ((own-T (suc k) (omega arith)).1 (subst (λ (m : ℕ). Settled bytes r m (suc k)) (sym last) s))),
          λ h.
              let g = both.0 h in
              (and_T (not o) (there (suc k) (end_at bytes f k))).1 ((not_T o).1 (λ s. g.1 (at_n n (suc k) last ((own-T (suc k) (omega arith)).0 s))), i.1 g.0),
        )

    line_start : T (line k) → StartIs bytes r (suc n) k (shown r.starts (line_at bytes f k))
    line_start h = line-is bytes r room short k last ((and_T (not (own k) && not (there k (late_at bytes f k))) (there k (line_at bytes f k))).0 h).1

    end-start : T (end k) → StartIs bytes r (suc n) (suc k) (shown r.starts (end_at bytes f k))
    end-start h = end_is bytes r room short k last ((and_T (not (own (suc k))) (there (suc k) (end_at bytes f k))).0 h).1

    closing-start : (e s : ℕ) → StartIs bytes r (suc n) e s → StartIs bytes r (suc (suc k)) e s
    closing-start e s h = subst (λ (m : ℕ). StartIs bytes r (suc m) e s) (sym last) h

    abbrev Third : Entry → Type 0
    Third x = T (line k) × (x ≡ at (suc (suc k)) k (line_at bytes f k))

    abbrev Fourth : Entry → Type 0
    Fourth x = T (end k) × (x ≡ at (suc (suc k)) (suc k) (end_at bytes f k))

    closing_at : (e : ℕ) → Falls bytes r (suc n) e → Falls bytes r (suc (suc k)) e
    closing_at e h = subst (λ (m : ℕ). Falls bytes r (suc m) e) (sym last) h

    at-closing : (e : ℕ) → Falls bytes r (suc (suc k)) e → Falls bytes r (suc n) e
    at-closing e h = subst (λ (m : ℕ). Falls bytes r (suc m) e) last h

    last-offsets : (e : ℕ) → Falls bytes r (suc n) e → (e ≡ k) ⊎ (e ≡ suc k)
    last-offsets e h = go (falls-when bytes r (suc n) e h)
      where
        near-end : (e < n) × (last_line (drop e bytes) ≡ true) → Dec (suc e < n) → (e ≡ k) ⊎ (e ≡ suc k)
        near-end y (yes lt) =
            absurd (mathlib.Core.Bool.true≢false (sym y.1 ∙ more_bytes (drop e bytes) (omega (arith, length-drop e bytes))))
        near-end y (no ge) = inl (omega (arith, y.0))

        go : Moment bytes r (suc n) e → (e ≡ k) ⊎ (e ≡ suc k)
        go (inl x) = absurd (omega (arith, x.0, x.1))
        go (inr (inl x)) = absurd (omega (arith, x.0, x.1))
        go (inr (inr x)) = elim x.1 [ inl q ↦ inr (omega arith) | inr y ↦ near-end y (dec_lt (suc e) n) ]

    all-falls : (x : Entry) → ((Within (suc k) x ⊎ Third x) ⊎ Fourth x) ↔ FallsE x
    all-falls x = (
      λ h. elim h [
        | inl g ↦ elim g [
          | inl y ↦ y.1
          | inr y ↦ subst FallsE (sym y.1) (refl, closing_at k (line-falls.0 y.0), closing-start k (shown r.starts (line_at bytes f k)) (line_start y.0))
        ]
        | inr y ↦ subst FallsE (sym y.1) (refl, closing_at (suc k) (end_falls.0 y.0), closing-start (suc k) (shown r.starts (end_at bytes f k)) (end-start y.0))
      ],
      λ h. go h (dec_le (moment x) (suc k)),
    )
      where
        go : FallsE x → Dec (moment x ≤ suc k) → (Within (suc k) x ⊎ Third x) ⊎ Fourth x
        go h (yes l) = inl (inl (l, h))
        go h (no g) =
            let m : moment x ≡ suc (suc k) = omega (arith, h.1.by_closing) in
            let falls : Falls bytes r (suc n) (offset x) = at-closing (offset x) (subst (λ (j : ℕ). Falls bytes r j (offset x)) m h.1) in
            elim (last-offsets (offset x) falls) [
              | inl o ↦ let t : T (line k) = line-falls.1 (subst (λ (j : ℕ). Falls bytes r (suc n) j) o falls) in
                  inl (inr (t, same-entry x (suc (suc k)) k (line_at bytes f k) m o h (closing-start k (shown r.starts (line_at bytes f k)) (line_start t))))
              | inr o ↦ let t : T (end k) = end_falls.1 (subst (λ (j : ℕ). Falls bytes r (suc n) j) o falls) in
                  inr (t, same-entry x (suc (suc k)) (suc k) (end_at bytes f k) m o h (closing-start (suc k) (shown r.starts (end_at bytes f k)) (end-start t)))
            ]

    closed-lists : Lists FallsE (entries_closed (suc k))
    unfolding entries_closed
    closed-lists =
        as-well (λ x. (Within (suc k) x ⊎ Third x) ⊎ Fourth x) FallsE (entries_closed (suc k)) all-falls
        (joined (λ x. Within (suc k) x ⊎ Third x) Fourth (entries_up_to (suc k) ++ maybe (line k) (at (suc (suc k)) k (line_at bytes f k))) (maybe (end k) (at (suc (suc k)) (suc k) (end_at bytes f k)))
        (λ x y p q. elim p [
          | inl u ↦ earlier-moment x y (omega (arith, u.0, ap moment q.1))
          | inr u ↦ earlier-offset x y (ap moment u.1 ∙ sym (ap moment q.1)) (omega (arith, ap offset u.1, ap offset q.1))
        ])
        (joined (Within (suc k)) Third (entries_up_to (suc k)) (maybe (line k) (at (suc (suc k)) k (line_at bytes f k))) (λ x y p q. earlier-moment x y (omega (arith, p.0, ap moment q.1)))
        (up-lists (suc k) (omega arith)) (one (line k) (at (suc (suc k)) k (line_at bytes f k))))
        (one (end k) (at (suc (suc k)) (suc k) (end_at bytes f k))))

  no_bytes : n ≡ 0 → (x : Entry) → ¬ FallsE x
  no_bytes z x h = omega (arith, within bytes r (moment x) (offset x) h.1.settled, h.1.settled.earlier)

  all-lists : Lists FallsE (entries_closed n)
  unfolding entries_closed
  all-lists = go n refl
    where
      go : (m : ℕ) → m ≡ n → Lists FallsE (entries_closed m)
      go zero e = no-entries FallsE (no_bytes (sym e))
      go (suc k) e = closed-lists k e

  -- ---- of a single-match rule only the first

  pub kept_entries : Bool → List Entry → List Entry
  kept_entries single l = cond single (take 1 l) l

  abbrev OwedE : Entry → Type 0
  OwedE x = (id x ≡ r.id) × Stays bytes r (moment x) (offset x) × StartIs bytes r (moment x) (offset x) (start x)

  to-owed : (x : Entry) → OwedE x → Owed (r ∷ []) bytes x
  to-owed (entry m e i u) h = (r, Memᴰ.head refl, sym h.0, h.1, h.2)

  from-owed : (x : Entry) → Owed (r ∷ []) bytes x → OwedE x
  from-owed (entry m e i u) (s, mem, q, stays, begins) = elim (Memᴰ.cases_cons mem) [
    | inl z ↦ (sym q ∙ ap (λ (v : Rule). v.id) z, subst (λ (v : Rule). Stays bytes v m e) z stays, subst (λ (v : Rule). StartIs bytes v m e u) z begins)
    | inr k ↦ absurd (Memᴰ.not-nil k)
  ]

  all_stay : ¬ T r.single → (x : Entry) → FallsE x → Owed (r ∷ []) bytes x
  all_stay many x h = to-owed x (h.0, record { falls = h.1; first = λ j d g y. many y.0 }, h.2)

  falls-owed : (x : Entry) → Owed (r ∷ []) bytes x → FallsE x
  falls-owed x o = let s = from-owed x o in (s.0, s.1.falls, s.2)

  not_before : (x y : Entry) → id x ≡ id y → Before x y → Earlier (moment y) (offset y) (moment x) (offset x) → ⊥
  not_before (entry m e i u) (entry j d c v) q (inl a) (inl b) = omega arith
  not_before (entry m e i u) (entry j d c v) q (inl a) (inr b) = omega (arith, b.0)
  not_before (entry m e i u) (entry j d c v) q (inr a) (inl b) = omega (arith, a.0)
  not_before (entry m e i u) (entry j d c v) q (inr a) (inr b) = elim a.1 [ inl w ↦ omega (arith, w, b.1) | inr w ↦ omega (arith, w.0, b.1) ]

  itself : (x y : Entry) → y ≡ x → Earlier (moment y) (offset y) (moment x) (offset x) → ⊥
  itself x y e (inl a) = omega (arith, a, ap moment e)
  itself x y e (inr a) = omega (arith, a.1, ap offset e)

  sooner : (x y : Entry) → id x ≡ r.id → id y ≡ r.id → Before x y → Earlier (moment x) (offset x) (moment y) (offset y)
  sooner (entry m e i u) (entry j d c v) p q (inl a) = inl a
  sooner (entry m e i u) (entry j d c v) p q (inr a) = elim a.1 [ inl w ↦ inr (a.0, w) | inr w ↦ absurd (omega (arith, w.1, p, q)) ]

  -- a pair that falls has its entry in the list
  entry_of : (j d : ℕ) → Falls bytes r j d → Entry
  entry_of j d g = entry j d r.id (some-start bytes r j d g.settled).0

  first-list : (l : List Entry) → T r.single → Lists FallsE l → IsList (r ∷ []) bytes (take 1 l)
  unfolding Rising entry_of
  first-list [] one_only ls = record {
    rising = tt;
    exactly = λ x. (λ m. absurd (Memᴰ.not-nil m), λ o. (ls.exactly x).1 (falls-owed x o));
  }
  first-list (y ∷ l) one_only ls =
      let fy : FallsE y = (ls.exactly y).0 (Memᴰ.head refl) in record {
        rising = (λ z m. absurd (Memᴰ.not-nil m), tt);
        exactly = λ x. (
          λ m. elim (Memᴰ.cases_cons m) [
            | inl e ↦ subst (Owed (r ∷ []) bytes) (sym e) (to-owed y (
              fy.0,
              record {
                falls = fy.1;
                first = λ j d g h. elim (Memᴰ.cases_cons ((ls.exactly (entry_of j d g)).1 (refl, g, (some-start bytes r j d g.settled).1))) [
                  | inl q ↦ itself y (entry_of j d g) q h.1
                  | inr k ↦ not_before y (entry_of j d g) fy.0 (ls.rising.0 (entry_of j d g) k) h.1
                ];
              },
              fy.2,
            ))
            | inr k ↦ absurd (Memᴰ.not-nil k)
          ],
          λ o. let s = from-owed x o in
              elim (Memᴰ.cases_cons ((ls.exactly x).1 (s.0, s.1.falls, s.2))) [
                | inl e ↦ Memᴰ.head e
                | inr k ↦ absurd (s.1.first (moment y) (offset y) fy.1 (one_only, sooner y x fy.0 s.0 (ls.rising.0 x k)))
              ],
        );
      }

  whole-list : (l : List Entry) → ¬ T r.single → Lists FallsE l → IsList (r ∷ []) bytes l
  whole-list l many ls = record {
    rising = ls.rising;
    exactly = λ x. (λ m. all_stay many x ((ls.exactly x).0 m), λ o. (ls.exactly x).1 (falls-owed x o));
  }

  kept-list : IsList (r ∷ []) bytes (kept_entries r.single (entries_closed n))
  unfolding kept_entries
  kept-list = go r.single refl
    where
      go : (b : Bool) → r.single ≡ b → IsList (r ∷ []) bytes (cond b (take 1 (entries_closed n)) (entries_closed n))
      go true e = first-list (entries_closed n) (subst T (sym e) tt) all-lists
      go false e = whole-list (entries_closed n) (λ h. subst T e h) all-lists

  -- ---- offsets and starts alone

  abbrev c : Choice
  c = (r.starts, r.windows)

  hits : List Entry → List Hit
  hits l = map (λ (x : Entry). (offset x, start x)) l

  hits-append : (a b : List Entry) → hits (a ++ b) ≡ hits a ++ hits b
  unfolding hits
  hits-append [] b = refl
  hits-append (x ∷ a) b = ap (λ (l : List Hit). (offset x, start x) ∷ l) (hits-append a b)

  hits-maybe : (b : Bool) (m e x : ℕ) → hits (maybe b (at m e x)) ≡ cond b ((e, shown r.starts x) ∷ []) []
  unfolding hits
  hits-maybe true m e x = refl
  hits-maybe false m e x = refl

  two-hits : (l : List Entry) (first second : Bool) (m k e x y : ℕ) (v : List Hit) → hits l ≡ v
      → hits ((l ++ maybe first (at m k x)) ++ maybe second (at m e y))
      ≡ (v ++ cond first ((k, shown r.starts x) ∷ []) []) ++ cond second ((e, shown r.starts y) ∷ []) []
  two-hits l first second m k e x y v h =
      hits-append (l ++ maybe first (at m k x)) (maybe second (at m e y))
      ∙ ap₂ (λ (a b : List Hit). a ++ b)
      (hits-append l (maybe first (at m k x)) ∙ ap₂ (λ (a b : List Hit). a ++ b) h (hits-maybe first m k x)) (hits-maybe second m e y)

  up-hits : (k : ℕ) → hits (entries_up_to k) ≡ up_to c bytes f k
  unfolding entries_up_to up_to hits
  up-hits zero = refl
  up-hits (suc k) = two-hits (entries_up_to k) (late k) (own (suc k)) (suc k) k (suc k) (late_at bytes f k) (own_at bytes f (suc k)) (up_to c bytes f k) (up-hits k)

  closed-hits : (k : ℕ) → hits (entries_closed k) ≡ closed c bytes f k
  unfolding entries_closed closed hits
  closed-hits zero = refl
  closed-hits (suc k) = two-hits (entries_up_to (suc k)) (line k) (end k) (suc (suc k)) k (suc k) (line_at bytes f k) (end_at bytes f k) (up_to c bytes f (suc k)) (up-hits (suc k))

  take-hits : (l : List Entry) → hits (take 1 l) ≡ take 1 (hits l)
  unfolding hits
  take-hits [] = refl
  take-hits (x ∷ l) = refl

  kept-hits : hits (kept_entries r.single (entries_closed n)) ≡ kept r.single (closed c bytes f n)
  unfolding kept_entries
  kept-hits = go r.single
    where
      go : (b : Bool) → hits (cond b (take 1 (entries_closed n)) (entries_closed n)) ≡ kept b (closed c bytes f n)
      go true = take-hits (entries_closed n) ∙ ap (take 1) (closed-hits n)
      go false = closed-hits n

  ends_of : (l : List Entry) → map (λ (p : Report). p.1) (map report l) ≡ map (λ (h : Hit). h.0) (hits l)
  unfolding hits
  ends_of [] = refl
  ends_of (entry m e i u ∷ l) = ap (λ (v : List ℕ). e ∷ v) (ends_of l)

  starts-of : (l : List Entry) → map (λ (p : Report). p.2) (map report l) ≡ map (λ (h : Hit). h.1) (hits l)
  unfolding hits
  starts-of [] = refl
  starts-of (entry m e i u ∷ l) = ap (λ (v : List ℕ). u ∷ v) (starts-of l)

  hits-length : (l : List Entry) → length (map report l) ≡ length (hits l)
  unfolding hits
  hits-length [] = refl
  hits-length (x ∷ l) = ap suc (hits-length l)

  pub the-list : List Report
  the-list = map report (kept_entries r.single (entries_closed n))

  -- The list of the rule alone ..
  pub is-ordered : Ordered (r ∷ []) bytes the-list
  unfolding the-list
  is-ordered = record { list = kept_entries r.single (entries_closed n); is_list = kept-list; given = refl }

  -- .. has the offsets and starts that are reported.
  pub its-offsets : map (λ (p : Report). p.1) the-list ≡ map (λ (h : Hit). h.0) (kept r.single (closed c bytes f n))
  unfolding the-list
  its-offsets = ends_of (kept_entries r.single (entries_closed n)) ∙ ap (map (λ (h : Hit). h.0)) kept-hits

  pub its-starts : map (λ (p : Report). p.2) the-list ≡ map (λ (h : Hit). h.1) (kept r.single (closed c bytes f n))
  unfolding the-list
  its-starts = starts-of (kept_entries r.single (entries_closed n)) ∙ ap (map (λ (h : Hit). h.1)) kept-hits

  pub its-length : length the-list ≡ length (kept r.single (closed c bytes f n))
  unfolding the-list
  its-length = hits-length (kept_entries r.single (entries_closed n)) ∙ ap length kept-hits
