-- The lent lists, report by report: what is written next joins what stands at their front, and
-- there is room for it.
use mathlib.Core.Path.{◌≡◌, refl, sym, ap, ap₂, ◌∙◌}
use mathlib.Core.Bool.{Bool, true, false, true≢false, cond, not, ◌&&◌}
use mathlib.Core.List.{List, [], ◌∷◌, ◌++◌, append-nil, map}
use Prim.Native.Nat.{ℕ, suc, ◌+◌, ◌≤◌, ◌<◌}
use native.Mathlib.Omega.{arith}
use lib.Dec.{ltb}
use lib.ListN.{length, set, drop, length-append, length-set, length-drop, length-map}
use Rattle.sets.specs.Set.{as_one}
use Rattle.plain.specs.Run.{Hit, pick, shown, inside, kept, Lent, lent, filled}
use Rattle.pattern.specs.Windows.{windows_of}
use Rattle.plain.specs.Invariants.{choice_of, due, writes, put, Slots, Alike, Reported, Delivered, Both}
use Rattle.plain.specs.declared.run.Wanted.{Wanted}

-- the next slot of one list is written
front : (g : Hit → ℕ) (l : List Hit) (old : List ℕ) (h : Hit) → length l < length old
    → set (map g l ++ drop (length l) old) (length l) (g h) ≡ map g (l ++ (h ∷ [])) ++ drop (length (l ++ (h ∷ []))) old
front g [] [] h k = absurd (omega arith)
front g [] (x ∷ old) h k = refl
front g (y ∷ l) [] h k = absurd (omega arith)
front g (y ∷ l) (x ∷ old) h k = ap (λ (r : List ℕ). g y ∷ r) (front g l old h (omega arith))

put_front : (l : List Hit) (old : Lent) (h : Hit) → length l < length old.offsets → length l < length old.starts
    → put (filled old l) (length l) h ≡ filled old (l ++ (h ∷ []))
put_front l old h a b = ap₂ lent (front (λ (p : Hit). p.0) l old.offsets h a) (front (λ (p : Hit). p.1) l old.starts h b)

kept-short : (single : Bool) (l : List Hit) → length (kept single l) ≤ length l
kept-short false l = omega arith
kept-short true [] = omega arith
kept-short true (x ∷ l) = omega arith

length-snoc : (l : List Hit) (h : Hit) → length (l ++ (h ∷ [])) ≡ suc (length l)
length-snoc l h = omega (arith, length-append l (h ∷ []))

pub and_left : (a b : Bool) → (a && b) ≡ true → as_one a ≡ 1
and_left true b h = refl
and_left false b h = absurd (true≢false (sym h))

pub fewer-slots : {v : Lent} {n m : ℕ} → m ≤ n → Slots v n → Slots v m
fewer-slots h s = record { offsets = omega (arith, s.offsets); starts = omega (arith, s.starts) }

-- one more, by whether it is due
abbrev Joins : (single b : Bool) (h : Hit) (count r : ℕ) (start old now : Lent) (l : List Hit) → Type 0
Joins single b h count r start old now l =
    Slots old (count + as_one b) → Alike start old
    → count ≡ length (kept single l) → old ≡ filled start (kept single l)
    → r ≡ cond (b && not (single && ltb 0 count)) (suc count) count
    → now ≡ cond (b && not (single && ltb 0 count)) (put old count h) old
    → (r ≡ length (kept single (l ++ cond b (h ∷ []) []))) × (now ≡ filled start (kept single (l ++ cond b (h ∷ []) [])))

joins : (single b : Bool) (h : Hit) (count r : ℕ) (start old now : Lent) (l : List Hit) → Joins single b h count r start old now l
joins single false h count r start old now l s k d e x y = (
  x ∙ d ∙ ap (λ (v : List Hit). length (kept single v)) (sym (append-nil l)),
  y ∙ e ∙ ap (λ (v : List Hit). filled start (kept single v)) (sym (append-nil l)),
)
joins false true h count r start old now l s k d e x y = (
  x ∙ ap suc d ∙ sym (length-snoc l h),
  y ∙ ap₂ (λ (v : Lent) (i : ℕ). put v i h) e d
      ∙ put_front l start h (omega (arith, s.offsets, k.offsets)) (omega (arith, s.starts, k.starts)),
)
joins true true h count r start old now [] s k d e x y =
    let none : ltb 0 count ≡ false = ap (ltb 0) d in (
      x ∙ ap (λ (v : Bool). cond (not v) (suc count) count) none ∙ ap suc d,
      y ∙ ap (λ (v : Bool). cond (not v) (put old count h) old) none ∙ ap₂ (λ (v : Lent) (i : ℕ). put v i h) e d
          ∙ put_front [] start h (omega (arith, s.offsets, k.offsets)) (omega (arith, s.starts, k.starts)),
    )
joins true true h count r start old now (z ∷ l) s k d e x y =
    let one : ltb 0 count ≡ true = ap (ltb 0) d in (
      x ∙ ap (λ (v : Bool). cond (not v) (suc count) count) one ∙ d,
      y ∙ ap (λ (v : Bool). cond (not v) (put old count h) old) one ∙ e,
    )

module _ {w : Wanted} {new : Bool} {e x count r : ℕ} {old now : Lent} (d : Reported w new e x count old r now) where
  pub reported-alike : Alike now old
  reported-alike = go (writes w new e x count) d.written
    where
      go : (v : Bool) → now ≡ cond v (put old count (e, shown w.leftmost x)) old → Alike now old
      go true h = record {
        offsets = ap (λ (u : Lent). length u.offsets) h ∙ length-set old.offsets count e;
        starts = ap (λ (u : Lent). length u.starts) h ∙ length-set old.starts count (shown w.leftmost x);
      }
      go false h = record { offsets = ap (λ (u : Lent). length u.offsets) h; starts = ap (λ (u : Lent). length u.starts) h }

  pub reported-more : r ≤ count + as_one (due w new e x)
  reported-more = go (due w new e x) (not (w.single && ltb 0 count)) d.counted
    where
      go : (u v : Bool) → r ≡ cond (u && v) (suc count) count → r ≤ count + as_one u
      go true true h = omega arith
      go true false h = omega arith
      go false v h = omega arith

  pub delivered-more : {start : Lent} {l : List Hit} → Slots old (count + as_one (due w new e x)) → Alike start old → Delivered w start old count l
      → Delivered w start now r (l ++ pick (choice_of w) new e x)
  delivered-more {start} {l} s k g =
      let j = joins w.single (due w new e x) (e, shown w.leftmost x) count r start old now l s k g.counted g.written d.counted d.written in
      record { counted = j.0; written = j.1 }

-- what the code does at one report, where g says that the bounds let it through
module _ (w : Wanted) (new : Bool) (e x count : ℕ) (old : Lent) {g : Bool} (eg : g ≡ inside (windows_of w.bounds) e x) where
  pub report-room : ((new && g) && not (w.single && ltb 0 count)) ≡ true → Slots old (count + as_one (due w new e x)) → Slots old (suc count)
  report-room h s = let one = and_left (due w new e x) (not (w.single && ltb 0 count)) (rw eg at h) in fewer-slots (omega (arith, one)) s

  pub report-made : {r start : ℕ} → ((new && g) && not (w.single && ltb 0 count)) ≡ true → start ≡ shown w.leftmost x → r ≡ suc count
      → Reported w new e x count old r (put old count (e, start))
  report-made h es er =
      let due-now : writes w new e x count ≡ true = rw eg at h in
      record { counted = rw due-now er; written = rw (due-now, es) }

  pub report-not : ((new && g) && not (w.single && ltb 0 count)) ≡ false → Reported w new e x count old count old
  report-not h =
      let not-now : writes w new e x count ≡ false = rw eg at h in
      record { counted = rw not-now; written = rw not-now }

pub delivered-none : (w : Wanted) (old : Lent) → Delivered w old old 0 []
delivered-none w old = go w.single
  where
    go : (b : Bool) → Delivered (record { single = b; leftmost = w.leftmost; bounds = w.bounds }) old old 0 []
    go true = record { counted = refl; written = refl }
    go false = record { counted = refl; written = refl }

pub delivered-few : {w : Wanted} {start now : Lent} {count : ℕ} {l : List Hit} → Delivered w start now count l → count ≤ length l
delivered-few {w} {l = l} d = omega (arith, d.counted, kept-short w.single l)

filled-length : (g : Hit → ℕ) (l : List Hit) (old : List ℕ) → length l ≤ length old → length (map g l ++ drop (length l) old) ≡ length old
filled-length g l old h = omega (arith, length-append (map g l) (drop (length l) old), length-map l g, length-drop (length l) old)

pub delivered-alike : {w : Wanted} {start now : Lent} {count : ℕ} {l : List Hit} → Slots start (length l) → Delivered w start now count l → Alike now start
delivered-alike {w} {start} {l = l} s d =
    let few = kept-short w.single l in record {
      offsets = ap (λ (u : Lent). length u.offsets) d.written ∙ filled-length (λ (p : Hit). p.0) (kept w.single l) start.offsets (omega (arith, s.offsets));
      starts = ap (λ (u : Lent). length u.starts) d.written ∙ filled-length (λ (p : Hit). p.1) (kept w.single l) start.starts (omega (arith, s.starts));
    }

pub alike-back : {v u : Lent} → Alike v u → Alike u v
alike-back k = record { offsets = sym k.offsets; starts = sym k.starts }

pub alike-slots : {v u : Lent} {n : ℕ} → Alike v u → Slots u n → Slots v n
alike-slots k s = record { offsets = omega (arith, k.offsets, s.offsets); starts = omega (arith, k.starts, s.starts) }

pub delivered-as : {w : Wanted} {start now : Lent} {count : ℕ} {l m : List Hit} → l ≡ m → Delivered w start now count l → Delivered w start now count m
delivered-as e d = rw e at d

-- the second report has room, and both together
module _ {w : Wanted} {first : Bool} (second : Bool) {k x : ℕ} (y : ℕ) {count c i : ℕ} {old mid : Lent} (at : i ≡ suc k)
    (s : Slots old (count + as_one (due w first k x) + as_one (due w second (suc k) y))) (d : Reported w first k x count old c mid) where
  pub second-room : Slots mid (c + as_one (due w second i y))
  second-room = rw at (alike-slots (reported-alike d) (fewer-slots (omega (arith, reported-more d)) s))

  pub both-more : {r : ℕ} {now : Lent} → Reported w second i y c mid r now → Both w first second k x y count old r now
  both-more {r} {now} e l start alike g =
      let f : Reported w second (suc k) y c mid r now = rw at at e in
      let room : Slots old (count + as_one (due w first k x)) = fewer-slots (omega arith) s in
      let more : Slots mid (c + as_one (due w second (suc k) y)) = rw at at second-room in
      let back = reported-alike d in
      delivered-more f more
      (record { offsets = alike.offsets ∙ sym back.offsets; starts = alike.starts ∙ sym back.starts })
      (delivered-more d room alike g)
