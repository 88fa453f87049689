-- A gap over the rows. Going up, each row's value is that of the part that stands there; going
-- down, what is left to do makes the same of the present marks as all of it makes of the first
-- ones. Assumes nothing.
use mathlib.Core.Path.{◌≡◌, refl, sym, subst, ap, ap₂, ◌∙◌}
use mathlib.Core.Bool.{Bool, true, false, cond}
use mathlib.Core.List.{List}
use Prim.Native.Nat.{ℕ, suc, ◌+◌, ◌-◌, min, ◌≤◌, ◌<◌}
use native.Mathlib.Omega.{arith}
use native.Mathlib.Decide.{dec_lt, ℕ_discrete}
use borrow.Author.Tests.{ne_eqb}
use lib.Dec.{eqb}
use lib.ListN.{length, get_or, set, length-set}
use lib.Seq.{get_or-set_same, get_or-set_other}
use Rattle.sets.specs.Set.{on}
use Rattle.marks.specs.Marks.{none, when, ends, moved}
use Rattle.marks.specs.Parts.{Part, one, then, or, doors_of, size_of, last_of, core_p, ends_p, entered_p, moved_p}
use Rattle.marks.specs.Gaps.{inner_world, outer_world}
use Rattle.nodes.specs.Invariants.{Written, form_at}
use Rattle.marks.specs.Invariants.{has_byte, hits_of, Shows, at, Laid, Plays, kind_in, core_word, Looked, top_of, entered_at, handed_down, Turned, Moved, Took}
use Rattle.marks.specs.declared.parts.Kind.{Kind}
use Rattle.marks.specs.declared.parts.Kind.TheVariants.{Item, Then, Or}
use Rattle.meaning.specs.Rule.{Assertion}
use Rattle.marks.proofs.Skips.{ends-none, moved_none}
use Rattle.marks.proofs.Laid.{front_at, back_at, round-at}

-- what a door of row j lets through, as the code reads it
pub through : (ps : List ℕ) (j door g : ℕ) {w i x r : ℕ} {b : Bool} → w ≡ at ps j door → b ≡ on w g → i ≡ x → r ≡ when b i → r ≡ when (on (at ps j door) g) x
through ps j door g ew eb ei er = er ∙ ap₂ (λ (b : Bool) (i : ℕ). when b i) (eb ∙ ap (λ (w : ℕ). on w g) ew) ei

-- ---- going up

module _ (ps : List ℕ) (g : ℕ) (ms : List ℕ) where
  -- a row's value, from those below
  core-row : (cs es : List ℕ) (p : Part) (k b : ℕ) → Laid ps k b p → Looked ps (k + last_of p) g ms cs es → core_word ps (k + last_of p) g ms es ≡ core_p g p b ms
  unfolding Laid last_of core_p Looked
  core-row cs es (one d i) k b l h =
      let e : k + 0 ≡ k = omega arith in
      rw (e, l.is, l.second)
  core-row cs es (then d u v x y) k b l h =
      let left = (h x k b l.3 (omega arith)).1 in
      let right = (h y (k + suc (last_of x)) (b + size_of x) l.4 (omega arith)).1 in
      rw (l.0.is, l.0.second, l.1, l.2, left, right)
  core-row cs es (or d x y) k b l h =
      let left = (h x k b l.3 (omega arith)).1 in
      let right = (h y (k + suc (last_of x)) (b + size_of x) l.4 (omega arith)).1 in
      rw (l.0.is, l.1, l.2, left, right)

  pub looked-none : (cs es : List ℕ) → Looked ps 0 g ms cs es
  unfolding Looked
  looked-none cs es p k b l h = absurd (omega arith)

  pub looked-more : (cs es : List ℕ) (j c e : ℕ) → j < length cs → j < length es → c ≡ core_word ps j g ms es → e ≡ when (on (at ps j 6) g) c
      → Looked ps j g ms cs es → Looked ps (suc j) g ms (set cs j c) (set es j e)
  unfolding Looked
  looked-more cs es j c e hc he ec ee h p k b l lt = go (dec_lt (k + last_of p) j)
    where
      go : Dec (k + last_of p < j) → (get_or (set cs j c) (k + last_of p) 0 ≡ core_p g p b ms) × (get_or (set es j e) (k + last_of p) 0 ≡ ends_p g p b ms)
      go (yes below) =
          let old = h p k b l below in
          (get_or-set_other cs j (k + last_of p) c 0 (λ q. omega arith) ∙ old.0, get_or-set_other es j (k + last_of p) e 0 (λ q. omega arith) ∙ old.1)
      go (no above) =
          let q : k + last_of p ≡ j = omega arith in
          let before : Looked ps (k + last_of p) g ms cs es = subst (λ (i : ℕ). Looked ps i g ms cs es) (sym q) h in
          let value : c ≡ core_p g p b ms = ec ∙ ap (λ (i : ℕ). core_word ps i g ms es) (sym q) ∙ core-row cs es p k b l before in
          let shut : e ≡ ends_p g p b ms =
          ee ∙ ap₂ (λ (m v : ℕ). when (on m g) v) (ap (λ (i : ℕ). at ps i 6) (sym q) ∙ back_at p ps k b l) value in
          (ap (λ (i : ℕ). get_or (set cs j c) i 0) q ∙ get_or-set_same cs j c 0 hc ∙ value, ap (λ (i : ℕ). get_or (set es j e) i 0) q ∙ get_or-set_same es j e 0 he ∙ shut)

  pub looked-to : (cs es : List ℕ) {j n : ℕ} → j ≡ n → Looked ps j g ms cs es → Looked ps n g ms cs es
  looked-to cs es e h = subst (λ (i : ℕ). Looked ps i g ms cs es) e h

-- ---- going down

-- the parts whose rows fill those below j
pub data Left (ps : List ℕ) : ℕ → Type 0 where
  nothing : Left ps 0
  more : {j : ℕ} (k : ℕ) (p : Part) (b : ℕ) → j ≡ k + suc (last_of p) → Laid ps k b p → Left ps k → Left ps j

module _ (ps : List ℕ) (g : ℕ) (hits : ℕ → Bool) (rs : List ℕ) where
  -- what they make of the marks
  pub result : {j : ℕ} → Left ps j → (is ms : List ℕ) → List ℕ
  result nothing is ms = ms
  result (more k p b e l rest) is ms = result rest is (moved_p g hits p b (get_or is (k + last_of p) 0) rs ms)

  result-same : {j : ℕ} (r : Left ps j) (is us ms : List ℕ) → ((q : ℕ) → q < j → get_or is q 0 ≡ get_or us q 0) → result r is ms ≡ result r us ms
  unfolding result
  result-same nothing is us ms h = refl
  result-same (more k p b e l rest) is us ms h =
      ap (λ (i : ℕ). result rest is (moved_p g hits p b i rs ms)) (h (k + last_of p) (omega arith))
      ∙ result-same rest is us (moved_p g hits p b (get_or us (k + last_of p) 0) rs ms) (λ q lt. h q (omega arith))

  pub result-end : {j : ℕ} (r : Left ps j) (is ms : List ℕ) → j ≡ 0 → result r is ms ≡ ms
  unfolding result
  result-end nothing is ms h = refl
  result-end (more k p b e l rest) is ms h = absurd (omega arith)

  -- what comes to the inside of a row's part
  inside-row : (n : ℕ) (cs es : List ℕ) → Looked ps n g rs cs es → (p : Part) (k b : ℕ) (is : List ℕ) → Laid ps k b p → k + last_of p < n
      → entered_at ps (k + last_of p) g cs is ≡ entered_p g p b (get_or is (k + last_of p) 0) rs
  unfolding Looked
  inside-row n cs es looked p k b is l lt =
      ap₂ (λ (u v : ℕ). min (when (on u g) (get_or is (k + last_of p) 0)) (when (on v g) (get_or cs (k + last_of p) 0))) (front_at p ps k b l) (round-at p ps k b l)
      ∙ ap (λ (c : ℕ). min (when (on (doors_of p).front g) (get_or is (k + last_of p) 0)) (when (on (doors_of p).round g) c)) (looked p k b l lt).0

  abbrev marks-of : (cs : List ℕ) (j : ℕ) → (is ms : List ℕ) → List ℕ
  marks-of cs j is ms = cond (eqb (at ps j 0) 0) (set ms (at ps j 2) (when (hits (at ps j 1)) (entered_at ps j g cs is))) ms

  abbrev comes_of : (cs es : List ℕ) (j : ℕ) → List ℕ → List ℕ
  comes_of cs es j is = cond (eqb (at ps j 0) 0) is (handed_down ps j g es is (entered_at ps j g cs is))

  -- the parts below row i, which make of what that row leaves what this makes
  abbrev Goes_on : (cs es : List ℕ) (i : ℕ) (is ms final : List ℕ) → Type 0
  Goes_on cs es i is ms final = (s : Left ps i) × (result s (comes_of cs es i is) (marks-of cs i is ms) ≡ final)

  -- the same parts where their number is named otherwise
  renamed : {k j : ℕ} → k ≡ j → (r : Left ps k) → (s : Left ps j) × ((is ms : List ℕ) → result s is ms ≡ result r is ms)
  renamed {k} {j} e r = subst (λ (i : ℕ). (s : Left ps i) × ((is ms : List ℕ) → result s is ms ≡ result r is ms)) e (r, λ is ms. refl)

  -- two parts below, with what is handed down to them
  abbrev below_two : (k lx ly : ℕ) (is : List ℕ) (i v : ℕ) → List ℕ
  below_two k lx ly is i v = set (set is (k + lx) i) (k + suc lx + ly) v

  handed : (k lx ly : ℕ) (is : List ℕ) (i v : ℕ) → k + (suc lx + suc ly) < length is
      → (get_or (below_two k lx ly is i v) (k + lx) 0 ≡ i) × (get_or (below_two k lx ly is i v) (k + suc lx + ly) 0 ≡ v)
      × ((q : ℕ) → q < k → get_or (below_two k lx ly is i v) q 0 ≡ get_or is q 0)
  handed k lx ly is i v h = (
    get_or-set_other (set is (k + lx) i) (k + suc lx + ly) (k + lx) v 0 (λ e. omega arith) ∙ get_or-set_same is (k + lx) i 0 (omega arith),
    get_or-set_same (set is (k + lx) i) (k + suc lx + ly) v 0 (omega (arith, length-set is (k + lx) i)),
    λ q lt. get_or-set_other (set is (k + lx) i) (k + suc lx + ly) q v 0 (λ e. omega arith) ∙ get_or-set_other is (k + lx) q i 0 (λ e. omega arith),
  )

  module _ (n : ℕ) (cs es : List ℕ) (looked : Looked ps n g rs cs es) where
    turn_at : (p : Part) (k b : ℕ) (l : Laid ps k b p) (rest : Left ps k) (is ms : List ℕ) → k + last_of p < n → k + last_of p < length is
        → Goes_on cs es (k + last_of p) is ms (result rest is (moved_p g hits p b (get_or is (k + last_of p) 0) rs ms))
    unfolding result Laid last_of moved_p Looked
    turn_at (one d i) k b l rest is ms lt room =
        let come = inside-row n cs es looked (one d i) k b is l lt in
        let z : k + 0 ≡ k = omega arith in
        let new = renamed (sym z) rest in
        let w : at ps (k + 0) 0 ≡ 0 = ap (λ (c : ℕ). at ps c 0) z ∙ l.is in
        let p1 : at ps (k + 0) 1 ≡ i = ap (λ (c : ℕ). at ps c 1) z ∙ l.first in
        let p2 : at ps (k + 0) 2 ≡ b = ap (λ (c : ℕ). at ps c 2) z ∙ l.second in
        let same : comes_of cs es (k + 0) is ≡ is = rw w in
        let marks : marks-of cs (k + 0) is ms ≡ set ms b (when (hits i) (entered_p g (one d i) b (get_or is (k + 0) 0) rs)) = rw (w, p1, p2) (ap (λ (c : ℕ). set ms b (when (hits i) c)) come) in
        (new.0, new.1 (comes_of cs es (k + 0) is) (marks-of cs (k + 0) is ms) ∙ ap₂ (λ (u v : List ℕ). result rest u v) same marks)
    turn_at (then d u v x y) k b l rest is ms lt room =
        let j : ℕ = k + (suc (last_of x) + suc (last_of y)) in
        let come = inside-row n cs es looked (then d u v x y) k b is l lt in
        let ends-x = (looked x k b l.3 (omega arith)).1 in
        let i : ℕ = entered_at ps (k + (suc (last_of x) + suc (last_of y))) g cs is in
        let val : ℕ = min (when (on u g) i) (get_or es (k + last_of x) 0) in
        let c : comes_of cs es (k + (suc (last_of x) + suc (last_of y))) is ≡ below_two k (last_of x) (last_of y) is i val = rw (l.0.is, l.0.first, l.1, l.2) in
        let m : marks-of cs (k + (suc (last_of x) + suc (last_of y))) is ms ≡ ms = rw l.0.is in
        let h = handed k (last_of x) (last_of y) is i val room in (
          more {j = k + (suc (last_of x) + suc (last_of y))} (k + suc (last_of x)) y (b + size_of x) (omega arith) l.4 (more {j = k + suc (last_of x)} k x b refl l.3 rest),
          ap₂ (λ (s t : List ℕ). result rest s (moved_p g hits x b (get_or s (k + last_of x) 0) rs (moved_p g hits y (b + size_of x) (get_or s (k + suc (last_of x) + last_of y) 0) rs t))) c m
              ∙ ap₂ (λ (s t : ℕ). result rest (below_two k (last_of x) (last_of y) is i val) (moved_p g hits x b s rs (moved_p g hits y (b + size_of x) t rs ms))) (h.0 ∙ come) (h.1 ∙ ap₂ (λ (s t : ℕ). min (when (on u g) s) t) come ends-x)
              ∙ result-same rest (below_two k (last_of x) (last_of y) is i val) is _ h.2,
        )
    turn_at (or d x y) k b l rest is ms lt room =
        let come = inside-row n cs es looked (or d x y) k b is l lt in
        let i : ℕ = entered_at ps (k + (suc (last_of x) + suc (last_of y))) g cs is in
        let c : comes_of cs es (k + (suc (last_of x) + suc (last_of y))) is ≡ below_two k (last_of x) (last_of y) is i i = rw (l.0.is, l.1, l.2) in
        let m : marks-of cs (k + (suc (last_of x) + suc (last_of y))) is ms ≡ ms = rw l.0.is in
        let h = handed k (last_of x) (last_of y) is i i room in (
          more {j = k + (suc (last_of x) + suc (last_of y))} (k + suc (last_of x)) y (b + size_of x) (omega arith) l.4 (more {j = k + suc (last_of x)} k x b refl l.3 rest),
          ap₂ (λ (s t : List ℕ). result rest s (moved_p g hits x b (get_or s (k + last_of x) 0) rs (moved_p g hits y (b + size_of x) (get_or s (k + suc (last_of x) + last_of y) 0) rs t))) c m
              ∙ ap₂ (λ (s t : ℕ). result rest (below_two k (last_of x) (last_of y) is i i) (moved_p g hits x b s rs (moved_p g hits y (b + size_of x) t rs ms))) (h.0 ∙ come) (h.1 ∙ come)
              ∙ result-same rest (below_two k (last_of x) (last_of y) is i i) is _ h.2,
        )

    turn_on : {m : ℕ} (r : Left ps m) (j : ℕ) (is ms : List ℕ) → m ≡ suc j → j < n → j < length is → Goes_on cs es j is ms (result r is ms)
    unfolding result
    turn_on nothing j is ms q lt room = absurd (omega arith)
    turn_on (more k p b e l rest) j is ms q lt room =
        let z : k + last_of p ≡ j = omega arith in
        subst (λ (i : ℕ). Goes_on cs es i is ms (result rest is (moved_p g hits p b (get_or is (k + last_of p) 0) rs ms))) z
        (turn_at p k b l rest is ms (omega arith) (omega arith))

-- ---- what the code reads and writes

-- what can end in a row, and what it does with what comes to its inside, by what the row says
abbrev core_kind : Kind → (g : ℕ) → (ms es : List ℕ) → ℕ
core_kind (Item node position) g ms es = min (get_or ms position 0) none
core_kind (Then left right x y) g ms es = min (when (on y g) (get_or es left 0)) (get_or es right 0)
core_kind (Or left right) g ms es = min (get_or es left 0) (get_or es right 0)

abbrev marks_kind : Kind → (hits : ℕ → Bool) → List ℕ → ℕ → List ℕ
marks_kind (Item node position) hits ms i = set ms position (when (hits node) i)
marks_kind (Then left right x y) hits ms i = ms
marks_kind (Or left right) hits ms i = ms

abbrev comes_kind : Kind → (g : ℕ) → (es is : List ℕ) → ℕ → List ℕ
comes_kind (Item node position) g es is i = is
comes_kind (Then left right x y) g es is i = set (set is left i) right (min (when (on x g) i) (get_or es left 0))
comes_kind (Or left right) g es is i = set (set is left i) right i

module _ (ps : List ℕ) (j : ℕ) where
  module _ {r k : Kind} (said : r ≡ kind_in ps j) (is_k : r ≡ k) where
    kind_is : kind_in ps j ≡ k
    kind_is = sym said ∙ is_k

    pub core-is : (g : ℕ) (ms es : List ℕ) → core_kind k g ms es ≡ core_word ps j g ms es
    core-is g ms es = ap (λ (m : Kind). core_kind m g ms es) (sym kind_is) ∙ go (eqb (at ps j 0) 0) (eqb (at ps j 0) 1)
      where
        go : (c d : Bool)
            → core_kind (cond c (Item (at ps j 1) (at ps j 2)) (cond d (Then (at ps j 3) (at ps j 4) (at ps j 1) (at ps j 2)) (Or (at ps j 3) (at ps j 4)))) g ms es
            ≡ cond c (min (get_or ms (at ps j 2) 0) none) (cond d (min (when (on (at ps j 2) g) (get_or es (at ps j 3) 0)) (get_or es (at ps j 4) 0)) (min (get_or es (at ps j 3) 0) (get_or es (at ps j 4) 0)))
        go true d = refl
        go false true = refl
        go false false = refl

    module _ (a : List ℕ) (g x : ℕ) (cs es is ms : List ℕ) where
      marks-is : (i : ℕ) → marks_kind k (hits_of a x) ms i ≡ cond (eqb (at ps j 0) 0) (set ms (at ps j 2) (when (hits_of a x (at ps j 1)) i)) ms
      marks-is i = ap (λ (m : Kind). marks_kind m (hits_of a x) ms i) (sym kind_is) ∙ go (eqb (at ps j 0) 0) (eqb (at ps j 0) 1)
        where
          go : (c d : Bool)
              → marks_kind (cond c (Item (at ps j 1) (at ps j 2)) (cond d (Then (at ps j 3) (at ps j 4) (at ps j 1) (at ps j 2)) (Or (at ps j 3) (at ps j 4)))) (hits_of a x) ms i
              ≡ cond c (set ms (at ps j 2) (when (hits_of a x (at ps j 1)) i)) ms
          go true d = refl
          go false true = refl
          go false false = refl

      comes-is : (i : ℕ) → comes_kind k g es is i ≡ cond (eqb (at ps j 0) 0) is (handed_down ps j g es is i)
      comes-is i = ap (λ (m : Kind). comes_kind m g es is i) (sym kind_is) ∙ go (eqb (at ps j 0) 0) (eqb (at ps j 0) 1)
        where
          go : (c d : Bool)
              → comes_kind (cond c (Item (at ps j 1) (at ps j 2)) (cond d (Then (at ps j 3) (at ps j 4) (at ps j 1) (at ps j 2)) (Or (at ps j 3) (at ps j 4)))) g es is i
              ≡ cond c is (set (set is (at ps j 3) i) (at ps j 4) (cond d (min (when (on (at ps j 1) g) i) (get_or es (at ps j 3) 0)) i))
          go true d = refl
          go false true = refl
          go false false = refl

      pub turned : {i : ℕ} {ns us : List ℕ} → i ≡ entered_at ps j g cs is → ns ≡ marks_kind k (hits_of a x) ms i → us ≡ comes_kind k g es is i
          → Turned a ps j g x cs es ms ns is us
      turned {i} ei en eu = record {
        marks = rw (← ei) (en ∙ marks-is i);
        comes = rw (← ei) (eu ∙ comes-is i);
      }

  pub turned-length : {a : List ℕ} {g x : ℕ} {cs es ms ns is us : List ℕ} → Turned a ps j g x cs es ms ns is us → (length ns ≡ length ms) × (length us ≡ length is)
  turned-length {a} {g} {x} {cs} {es} {ms} {ns} {is} {us} t =
      (ap length t.marks ∙ go (eqb (at ps j 0) 0), ap length t.comes ∙ down (eqb (at ps j 0) 0))
    where
      go : (b : Bool) → length (cond b (set ms (at ps j 2) (when (hits_of a x (at ps j 1)) (entered_at ps j g cs is))) ms) ≡ length ms
      go true = length-set ms _ _
      go false = refl

      down : (b : Bool) → length (cond b is (handed_down ps j g es is (entered_at ps j g cs is))) ≡ length is
      down true = refl
      down false = length-set (set is (at ps j 3) _) _ _ ∙ length-set is _ _

-- ---- the loop

-- what is left below row j makes of the present marks what all makes of the first
pub Remains : (ps : List ℕ) (n g : ℕ) (hits : ℕ → Bool) (rs : List ℕ) (come j : ℕ) (is ms : List ℕ) → Type 0
Remains ps n g hits rs come j is ms =
    (p : Part) → Laid ps 0 0 p → n ≡ suc (last_of p) → (r : Left ps j) × (result ps g hits rs r is ms ≡ moved_p g hits p 0 come rs rs)

module _ (ps : List ℕ) (n g : ℕ) (hits : ℕ → Bool) (rs : List ℕ) (come : ℕ) where
  pub remains-all : (is : List ℕ) → ((m : ℕ) → n ≡ suc m → get_or is m 0 ≡ come) → Remains ps n g hits rs come n is rs
  unfolding Remains result
  remains-all is h p l e = (more {j = n} 0 p 0 (omega arith) l nothing, ap (λ (i : ℕ). moved_p g hits p 0 i rs rs) (h (0 + last_of p) (omega arith)))

  pub remains-turn : (cs es : List ℕ) → Looked ps n g rs cs es → (j m : ℕ) (is us ms ns : List ℕ) → m ≡ suc j → j < n → j < length is
      → ns ≡ marks-of ps g hits rs cs j is ms → us ≡ comes_of ps g hits rs cs es j is
      → Remains ps n g hits rs come m is ms → Remains ps n g hits rs come j us ns
  unfolding Remains
  remains-turn cs es looked j m is us ms ns q lt room en eu h p l e =
      let old = h p l e in
      let new = turn_on ps g hits rs n cs es looked old.0 j is ms q lt room in
      (new.0, ap₂ (λ (u v : List ℕ). result ps g hits rs new.0 u v) eu en ∙ new.1 ∙ old.1)

  pub remains-none : (is ms : List ℕ) (j : ℕ) → j ≡ 0 → Remains ps n g hits rs come j is ms → (p : Part) → Laid ps 0 0 p → n ≡ suc (last_of p) → ms ≡ moved_p g hits p 0 come rs rs
  unfolding Remains
  remains-none is ms j z h p l e = let old = h p l e in sym (result-end ps g hits rs old.0 is ms z) ∙ old.1

-- ---- a byte: the gap before it, the marks, the gap behind it

top-some : {n m : ℕ} (es : List ℕ) → n ≡ suc m → top_of n es ≡ get_or es m 0
top-some {n} {m} es e = rw (ne_eqb n 0 (λ z. omega arith)) (let q : n - 1 ≡ m = omega arith in ap (λ (i : ℕ). get_or es i 0) q)

module _ {a : List ℕ} {root : ℕ} {ps : List ℕ} {n g : ℕ} {w : Assertion → Bool} (plays : Plays a root ps n) (shows : Shows g w) where
  abbrev form : Written
  form = form_at a root

  -- what can end in the whole
  top-ends : (ms cs es : List ℕ) {r : ℕ} → Looked ps n g ms cs es → r ≡ top_of n es → r ≡ ends w form 0 ms
  unfolding Looked
  top-ends ms cs es {r} looked er = go (ℕ_discrete n 0)
    where
      go : Dec (n ≡ 0) → r ≡ ends w form 0 ms
      go (yes z) = er ∙ ap (λ (i : ℕ). top_of i es) z ∙ sym (ends-none w form 0 ms (plays.bare z))
      go (no o) =
          let q = plays.part (omega arith) in
          let e : n ≡ suc (0 + last_of q.0) = omega (arith, q.3) in
          er ∙ top-some es e ∙ (looked q.0 0 0 q.2 (omega (arith, q.3))).1 ∙ q.1.ends g shows.low 0 ms
          ∙ ap (λ (v : Assertion → Bool). ends v form 0 ms) shows.same

  -- the marks afterwards
  marks-moved : (ms ns : List ℕ) (x k : ℕ) → k ≤ none → Moved a ps n g x ms ns k → ns ≡ moved w (has_byte x) form 0 k ms
  marks-moved ms ns x k low m = go (ℕ_discrete n 0)
    where
      go : Dec (n ≡ 0) → ns ≡ moved w (has_byte x) form 0 k ms
      go (yes z) = m.0 z ∙ sym (moved_none w (has_byte x) form 0 k ms (plays.bare z))
      go (no o) =
          let q = plays.part (omega arith) in
          m.1 q.0 q.2 q.3 ∙ q.1.moved g shows.low x 0 k ms low ∙ ap (λ (v : Assertion → Bool). moved v (has_byte x) form 0 k ms) shows.same

pub took : {a : List ℕ} {root : ℕ} {ps : List ℕ} {n g h : ℕ} (bytes : List ℕ) (k : ℕ) (last : Bool) (ms ns cs es ds fs : List ℕ) {late own : ℕ} → Plays a root ps n
    → Shows g (inner_world bytes last k) → Shows h (outer_world bytes last k) → k ≤ none
    → Looked ps n g ms cs es → late ≡ top_of n es → Moved a ps n g (get_or bytes k 0) ms ns k → Looked ps n h ns ds fs → own ≡ top_of n fs
    → Took (form_at a root) bytes k last ms ns (record { late = late; own = own })
took bytes k last ms ns cs es ds fs plays sg sh low before el moves behind eo = record {
  late = top-ends plays sg ms cs es before el;
  marks = marks-moved plays sg ms ns (get_or bytes k 0) k low moves;
  own = top-ends plays sh ns ds fs behind eo;
}
