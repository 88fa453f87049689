-- Laws of `over`: a word list with some words given by their index. What a loop writes into a table
-- is such a list, and `Written` is the invariant of the loop. Every law goes word by word: a list
-- is an `over` where each of its words is (`over-is`).
use Rattle.std.proofs.Common.{◌≡◌, ℕ, zero, suc, ◌+◌, ◌-◌, ◌<◌, ◌≤◌, Bool, true, false, cond, ◌&&◌, ltb, leb, List, [], ◌∷◌, length, get_or, drop, set, sym, refl, ap, ◌∙◌, ap₂, le_of_suc-le-suc, not-suc-le-zero, add-zero, zero-add, arith, length-drop, length-set, get_or-drop, get_or-set_other, get_or-set_same, ext_get_or, le-ltb, lt-ltb, le-leb}
use mathlib.Core.Bool.{and-false}
use borrow.Rule.Slice.PartMut.{put_mid}
use Rattle.std.proofs.Common.{◌++◌, take, length-append}
use Rattle.std.proofs.lemmas.List.{get_or_append_left, get_or-append_right, get_or-take, length-take-le, length-replicate, get_or-replicate}
use Rattle.std.proofs.Math.ListN.{replicate}
use native.Mathlib.Decide.{dec_lt}
use lib.ListN.{get_or-eq_default}
use borrow.Author.Tests.{lt-leb}
use Rattle.table.specs.Layout.{from_to}
use Rattle.table.specs.Invariants.{over_from}
pub use Rattle.table.specs.Invariants.{over}

-- ---- the places from lo on and below hi

pub from-to-in : (lo hi w : ℕ) → lo ≤ w → w < hi → from_to lo hi w ≡ true
from-to-in lo hi w a b = ap₂ (λ (x y : Bool). x && y) (le-leb lo w a) (lt-ltb w hi b)

pub from-to-below : (lo hi w : ℕ) → w < lo → from_to lo hi w ≡ false
from-to-below lo hi w a = ap (λ (x : Bool). x && ltb w hi) (lt-leb lo w a)

pub from-to-above : (lo hi w : ℕ) → hi ≤ w → from_to lo hi w ≡ false
from-to-above lo hi w a = ap (λ (x : Bool). leb lo w && x) (le-ltb w hi a) ∙ and-false (leb lo w)

-- ---- its length and its words

length-over_from : (i lo hi : ℕ) (g : ℕ → ℕ) (t : List ℕ) → length (over_from i lo hi g t) ≡ length t
unfolding over_from
length-over_from i lo hi g [] = refl
length-over_from i lo hi g (x ∷ t) = ap suc (length-over_from (suc i) lo hi g t)

get_d-over_from : (i lo hi : ℕ) (g : ℕ → ℕ) (t : List ℕ) (w : ℕ) → w < length t
    → get_or (over_from i lo hi g t) w 0 ≡ cond (from_to lo hi (i + w)) (g (i + w)) (get_or t w 0)
unfolding over_from
get_d-over_from i lo hi g [] w h = absurd (not-suc-le-zero h)
get_d-over_from i lo hi g (x ∷ t) zero h = ap (λ (k : ℕ). cond (from_to lo hi k) (g k) x) (sym (add-zero i))
get_d-over_from i lo hi g (x ∷ t) (suc w) h =
    let next : suc i + w ≡ i + suc w = omega arith in
    get_d-over_from (suc i) lo hi g t w (le_of_suc-le-suc h) ∙ ap (λ (k : ℕ). cond (from_to lo hi k) (g k) (get_or t w 0)) next

pub length_over : (lo hi : ℕ) (g : ℕ → ℕ) (t : List ℕ) → length (over lo hi g t) ≡ length t
unfolding over
length_over lo hi g t = length-over_from 0 lo hi g t

module _ (lo hi : ℕ) (g : ℕ → ℕ) (t : List ℕ) where
  pub get_d_over : (w : ℕ) → w < length t → get_or (over lo hi g t) w 0 ≡ cond (from_to lo hi w) (g w) (get_or t w 0)
  unfolding over
  get_d_over w h = get_d-over_from 0 lo hi g t w h ∙ ap (λ (k : ℕ). cond (from_to lo hi k) (g k) (get_or t w 0)) (zero-add w)

  pub over-in : (w : ℕ) → lo ≤ w → w < hi → w < length t → get_or (over lo hi g t) w 0 ≡ g w
  over-in w a b h = get_d_over w h ∙ ap (λ (x : Bool). cond x (g w) (get_or t w 0)) (from-to-in lo hi w a b)

  outside : (w : ℕ) → from_to lo hi w ≡ false → Dec (w < length t) → get_or (over lo hi g t) w 0 ≡ get_or t w 0
  outside w e (yes h) = get_d_over w h ∙ ap (λ (x : Bool). cond x (g w) (get_or t w 0)) e
  outside w e (no h) =
      get_or-eq_default (over lo hi g t) 0 (omega (arith, length_over lo hi g t)) ∙ sym (get_or-eq_default t 0 (omega arith))

  pub over_below : (w : ℕ) → w < lo → get_or (over lo hi g t) w 0 ≡ get_or t w 0
  over_below w a = outside w (from-to-below lo hi w a) (dec_lt w (length t))

  pub over-above : (w : ℕ) → hi ≤ w → get_or (over lo hi g t) w 0 ≡ get_or t w 0
  over-above w a = outside w (from-to-above lo hi w a) (dec_lt w (length t))

-- a list of t's length is an `over` of t where each of its words is
pub over-is : (lo hi : ℕ) (g : ℕ → ℕ) (t s : List ℕ) → length s ≡ length t
    → ((w : ℕ) → lo ≤ w → w < hi → w < length t → get_or s w 0 ≡ g w)
    → ((w : ℕ) → w < lo → get_or s w 0 ≡ get_or t w 0)
    → ((w : ℕ) → hi ≤ w → get_or s w 0 ≡ get_or t w 0)
    → s ≡ over lo hi g t
over-is lo hi g t s l inside below above =
    ext_get_or 0 s (over lo hi g t) (l ∙ sym (length_over lo hi g t)) (λ w h. word w (omega arith) (dec_lt w lo) (dec_lt w hi))
  where
    word : (w : ℕ) → w < length t → Dec (w < lo) → Dec (w < hi) → get_or s w 0 ≡ get_or (over lo hi g t) w 0
    word w h (yes p) q = below w p ∙ sym (over_below lo hi g t w p)
    word w h (no p) (yes q) = inside w (omega arith) q h ∙ sym (over-in lo hi g t w (omega arith) q h)
    word w h (no p) (no q) = above w (omega arith) ∙ sym (over-above lo hi g t w (omega arith))

pub over_none : (lo hi : ℕ) (g : ℕ → ℕ) (t : List ℕ) → hi ≤ lo → over lo hi g t ≡ t
over_none lo hi g t h = sym (over-is lo hi g t t refl (λ w a b l. absurd (omega arith)) (λ w a. refl) (λ w a. refl))

-- g counts from lo on and below hi only
pub over-ext : (lo hi : ℕ) (g h : ℕ → ℕ) (t : List ℕ) → ((w : ℕ) → lo ≤ w → w < hi → w < length t → g w ≡ h w) → over lo hi g t ≡ over lo hi h t
over-ext lo hi g h t e =
    over-is lo hi h t (over lo hi g t) (length_over lo hi g t)
    (λ w a b l. over-in lo hi g t w a b l ∙ e w a b l) (over_below lo hi g t) (over-above lo hi g t)

-- ---- its first words, and its last

pub drop-over : (n lo hi : ℕ) (g : ℕ → ℕ) (t : List ℕ) → hi ≤ n → drop n (over lo hi g t) ≡ drop n t
drop-over n lo hi g t h =
    ext_get_or 0 (drop n (over lo hi g t)) (drop n t) (length-drop n (over lo hi g t) ∙ ap (λ (k : ℕ). k - n) (length_over lo hi g t) ∙ sym (length-drop n t))
    (λ w l. get_or-drop n (over lo hi g t) w 0 ∙ over-above lo hi g t (n + w) (omega arith) ∙ sym (get_or-drop n t w 0))

-- ---- one write after another

-- two neighbouring ranges are one
pub over-join : (lo mid hi : ℕ) (g : ℕ → ℕ) (t : List ℕ) → lo ≤ mid → mid ≤ hi → over mid hi g (over lo mid g t) ≡ over lo hi g t
over-join lo mid hi g t a b =
    over-is lo hi g t (over mid hi g (over lo mid g t)) (length_over mid hi g (over lo mid g t) ∙ length_over lo mid g t)
    (λ w c d l. inside w c d l (dec_lt w mid))
    (λ w c. over_below mid hi g (over lo mid g t) w (omega arith) ∙ over_below lo mid g t w c)
    (λ w c. over-above mid hi g (over lo mid g t) w c ∙ over-above lo mid g t w (omega arith))
  where
    inside : (w : ℕ) → lo ≤ w → w < hi → w < length t → Dec (w < mid) → get_or (over mid hi g (over lo mid g t)) w 0 ≡ g w
    inside w c d l (yes p) = over_below mid hi g (over lo mid g t) w p ∙ over-in lo mid g t w c p l
    inside w c d l (no p) = over-in mid hi g (over lo mid g t) w (omega arith) d (omega (arith, length_over lo mid g t))

-- one word more, at the upper end and at the lower
pub over-up : (lo k : ℕ) (g : ℕ → ℕ) (t : List ℕ) → lo ≤ k → k < length t → set (over lo k g t) k (g k) ≡ over lo (k + 1) g t
over-up lo k g t a h =
    over-is lo (k + 1) g t s (length-set (over lo k g t) k (g k) ∙ length_over lo k g t)
    (λ w b c l. inside w b c l (dec_lt w k))
    (λ w b. other w (omega arith) ∙ over_below lo k g t w b)
    (λ w b. other w (omega arith) ∙ over-above lo k g t w (omega arith))
  where
    s : List ℕ
    s = set (over lo k g t) k (g k)

    other : (w : ℕ) → (w ≡ k → ⊥) → get_or s w 0 ≡ get_or (over lo k g t) w 0
    other w n = get_or-set_other (over lo k g t) k w (g k) 0 n

    inside : (w : ℕ) → lo ≤ w → w < k + 1 → w < length t → Dec (w < k) → get_or s w 0 ≡ g w
    inside w b c l (yes p) = other w (omega arith) ∙ over-in lo k g t w b p l
    inside w b c l (no p) =
        let e : w ≡ k = omega arith in
        ap (λ (i : ℕ). get_or s i 0) e ∙ get_or-set_same (over lo k g t) k (g k) 0 (omega (arith, length_over lo k g t)) ∙ ap g (sym e)

pub over-down : (k hi : ℕ) (g : ℕ → ℕ) (t : List ℕ) → k < hi → k < length t → set (over (k + 1) hi g t) k (g k) ≡ over k hi g t
over-down k hi g t a h =
    over-is k hi g t s (length-set (over (k + 1) hi g t) k (g k) ∙ length_over (k + 1) hi g t)
    (λ w b c l. inside w b c l (dec_lt k w))
    (λ w b. other w (omega arith) ∙ over_below (k + 1) hi g t w (omega arith))
    (λ w b. other w (omega arith) ∙ over-above (k + 1) hi g t w b)
  where
    s : List ℕ
    s = set (over (k + 1) hi g t) k (g k)

    other : (w : ℕ) → (w ≡ k → ⊥) → get_or s w 0 ≡ get_or (over (k + 1) hi g t) w 0
    other w n = get_or-set_other (over (k + 1) hi g t) k w (g k) 0 n

    inside : (w : ℕ) → k ≤ w → w < hi → w < length t → Dec (k < w) → get_or s w 0 ≡ g w
    inside w b c l (yes p) = other w (omega arith) ∙ over-in (k + 1) hi g t w (omega arith) c l
    inside w b c l (no p) =
        let e : w ≡ k = omega arith in
        ap (λ (i : ℕ). get_or s i 0) e ∙ get_or-set_same (over (k + 1) hi g t) k (g k) 0 (omega (arith, length_over (k + 1) hi g t)) ∙ ap g (sym e)

-- ---- a loop that writes such words

-- s is t with the words from lo on and below hi written. Its length is a field so that arithmetic
-- finds it.
pub record Written (lo hi : ℕ) (g : ℕ → ℕ) (t s : List ℕ) : Type 0 where
  pub is : s ≡ over lo hi g t
  pub long : length s ≡ length t

-- before the first turn
pub written_none : {lo hi : ℕ} {g : ℕ → ℕ} {t : List ℕ} → hi ≤ lo → Written lo hi g t t
written_none {lo} {hi} {g} {t} h = record { is = sym (over_none lo hi g t h); long = refl }

-- a turn that writes the next word above, or below
pub written-up : {lo k k' v : ℕ} {g : ℕ → ℕ} {t s : List ℕ} → Written lo k g t s → lo ≤ k → k < length t → k' ≡ k + 1 → v ≡ g k → Written lo k' g t (set s k v)
written-up {lo} {k} {k'} {v} {g} {t} {s} r a h up e =
    record {
      is = ap₂ (λ (l : List ℕ) (x : ℕ). set l k x) r.is e ∙ over-up lo k g t a h ∙ ap (λ (n : ℕ). over lo n g t) (sym up);
      long = length-set s k v ∙ r.long;
    }

pub written-down : {k k' hi v : ℕ} {g : ℕ → ℕ} {t s : List ℕ} → Written k' hi g t s → k < hi → k < length t → k' ≡ k + 1 → v ≡ g k → Written k hi g t (set s k v)
written-down {k} {k'} {hi} {v} {g} {t} {s} r a h down e =
    record {
      is = ap₂ (λ (l : List ℕ) (x : ℕ). set l k x) (r.is ∙ ap (λ (n : ℕ). over n hi g t) down) e ∙ over-down k hi g t a h;
      long = length-set s k v ∙ r.long;
    }

-- a turn that writes the words from k on and below k'
pub written-block : {lo k k' : ℕ} {g h : ℕ → ℕ} {t s : List ℕ} → Written lo k g t s → lo ≤ k → k ≤ k'
    → ((w : ℕ) → k ≤ w → w < k' → w < length t → h w ≡ g w) → Written lo k' g t (over k k' h s)
written-block {lo} {k} {k'} {g} {h} {t} {s} r a b e =
    record {
      is = over-ext k k' h g s (λ w c d l. e w c d (omega (arith, r.long))) ∙ ap (over k k' g) r.is ∙ over-join lo k k' g t a b;
      long = length_over k k' h s ∙ r.long;
    }

pub written-above : {lo hi : ℕ} {g : ℕ → ℕ} {t s : List ℕ} → Written lo hi g t s → (w : ℕ) → hi ≤ w → get_or s w 0 ≡ get_or t w 0
written-above {lo} {hi} {g} {t} r w h = ap (λ (l : List ℕ). get_or l w 0) r.is ∙ over-above lo hi g t w h

pub written_below : {lo hi : ℕ} {g : ℕ → ℕ} {t s : List ℕ} → Written lo hi g t s → (w : ℕ) → w < lo → get_or s w 0 ≡ get_or t w 0
written_below {lo} {hi} {g} {t} r w h = ap (λ (l : List ℕ). get_or l w 0) r.is ∙ over_below lo hi g t w h

-- after the last turn, upwards and downwards
pub written_all : {lo hi hi' : ℕ} {g : ℕ → ℕ} {t s : List ℕ} → Written lo hi g t s → hi ≡ hi' → s ≡ over lo hi' g t
written_all {lo} {hi} {hi'} {g} {t} r e = r.is ∙ ap (λ (n : ℕ). over lo n g t) e

pub written-all-down : {lo lo' hi : ℕ} {g : ℕ → ℕ} {t s : List ℕ} → Written lo hi g t s → lo ≡ lo' → s ≡ over lo' hi g t
written-all-down {lo} {lo'} {hi} {g} {t} r e = r.is ∙ ap (λ (n : ℕ). over n hi g t) e

-- ---- a part of a list, written whole

-- the words from `at` on, once n of them were written as a part
pub over-part : (at n : ℕ) (g : ℕ → ℕ) (t s : List ℕ) → at + n ≤ length t → length s ≡ n
    → ((w : ℕ) → w < n → get_or s w 0 ≡ g (at + w)) → put_mid at n t s ≡ over at (at + n) g t
over-part at n g t s h e each = over-is at (at + n) g t (put_mid at n t s) long inside below above
  where
    front : length (take at t) ≡ at
    front = length-take-le at t (omega arith)

    long : length (put_mid at n t s) ≡ length t
    long = omega (arith, length-append (take at t) (s ++ drop n (drop at t)), length-append s (drop n (drop at t)), length-drop n (drop at t), length-drop at t, front)

    inside : (w : ℕ) → at ≤ w → w < at + n → w < length t → get_or (put_mid at n t s) w 0 ≡ g w
    inside w a b l =
        let back : at + (w - at) ≡ w = omega arith in
        get_or-append_right (take at t) (s ++ drop n (drop at t)) at w 0 front a
        ∙ get_or_append_left s (drop n (drop at t)) 0 (w - at) (omega arith) ∙ each (w - at) (omega arith) ∙ ap g back

    below : (w : ℕ) → w < at → get_or (put_mid at n t s) w 0 ≡ get_or t w 0
    below w a = get_or_append_left (take at t) (s ++ drop n (drop at t)) 0 w (omega (arith, front)) ∙ get_or-take at t w 0 a

    above : (w : ℕ) → at + n ≤ w → get_or (put_mid at n t s) w 0 ≡ get_or t w 0
    above w a =
        let back : at + (n + (w - at - n)) ≡ w = omega arith in
        get_or-append_right (take at t) (s ++ drop n (drop at t)) at w 0 front (omega arith)
        ∙ get_or-append_right s (drop n (drop at t)) n (w - at) 0 e (omega arith) ∙ get_or-drop n (drop at t) (w - at - n) 0
        ∙ get_or-drop at t (n + (w - at - n)) 0 ∙ ap (λ (k : ℕ). get_or t k 0) back

-- `t[at..at + n].copy_from_slice(&s)`, where r is what the part holds then
pub copied-part : (at n : ℕ) (t s r : List ℕ) → at + n ≤ length t → length s ≡ n → r ≡ s
    → put_mid at (at + n - at) t r ≡ over at (at + n) (λ w. get_or s (w - at) 0) t
copied-part at n t s r h e same =
    let size : at + n - at ≡ n = omega arith in
    ap₂ (λ (k : ℕ) (x : List ℕ). put_mid at k t x) size same
    ∙ over-part at n (λ w. get_or s (w - at) 0) t s h e (λ w l. let back : at + w - at ≡ w = omega arith in ap (λ (k : ℕ). get_or s k 0) (sym back))

-- `t[lo..hi].fill(v)`, likewise
pub filled-part : (lo hi v : ℕ) (t r : List ℕ) → lo ≤ hi → hi ≤ length t → r ≡ replicate (length (take (hi - lo) (drop lo t))) v
    → put_mid lo (hi - lo) t r ≡ over lo hi (λ w. v) t
filled-part lo hi v t r a b e =
    let up : lo + (hi - lo) ≡ hi = omega arith in
    let size : length (take (hi - lo) (drop lo t)) ≡ hi - lo = length-take-le (hi - lo) (drop lo t) (omega (arith, length-drop lo t)) in
    let all : r ≡ replicate (hi - lo) v = e ∙ ap (λ (k : ℕ). replicate k v) size in
    over-part lo (hi - lo) (λ w. v) t r (omega arith) (ap length all ∙ length-replicate (hi - lo) v)
    (λ w l. ap (λ (x : List ℕ). get_or x w 0) all ∙ get_or-replicate (hi - lo) w v 0 l) ∙ ap (λ (k : ℕ). over lo k (λ w. v) t) up
