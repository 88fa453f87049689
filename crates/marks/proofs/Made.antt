-- Forms written out: the rows of a form from those of its parts. Each law is one way to put forms
-- together; what stands outside a form's rows is left alone. Assumes nothing.
use mathlib.Core.Path.{◌≡◌, refl, sym, subst, subst₂, ap, ap₂, ◌∙◌}
use mathlib.Core.Logic.{◌⊎◌, inl, inr}
use mathlib.Core.Bool.{Bool, true, false, cond, not, ◌&&◌, ◌||◌}
use mathlib.Core.List.{List}
use Prim.Native.Nat.{ℕ, zero, suc, ◌+◌, ◌*◌, ◌-◌, ◌≤◌, ◌<◌}
use native.Mathlib.Nat.{mul-zero}
use native.Mathlib.Omega.{arith}
use native.Mathlib.Decide.{ℕ_discrete}
use borrow.Author.Tests.{eq-eqb, ne_eqb, eqb-true, eqb-false, leb-true, leb-false, le-leb}
use lib.Bits.{bit_and, bit_or}
use lib.Dec.{eqb, leb}
use lib.ListN.{length, get_or, length-set}
use lib.Seq.{get_or-set_other}
use Rattle.sets.specs.Set.{on}
use Rattle.sets.proofs.Laws.{on_or, on_and, on-zero}
use Rattle.meaning.specs.Tree.{Extra, repeat}
use Rattle.meaning.specs.Form.{eps, take, check, seq, alt, plus, opt, write, positions, repeated}
use Rattle.meaning.specs.Count.{copied, exact}
use Rattle.meaning.proofs.Counted.{counted, repeated-null, repeated-none}
use Rattle.nodes.specs.Nodes.{Syntax}
use Rattle.meaning.specs.Automaton.{null}
use Rattle.meaning.specs.Rule.{Assertion}
use Rattle.marks.specs.Parts.{mask_of, world_of, all, Doors, Part, one, then, or, size_of, last_of}
use Rattle.nodes.specs.Invariants.{Written, form_at, set_at, extra}
use Rattle.marks.specs.Invariants.{Plays, Passes, Says, at, Row, Laid, rows_of, Room, Kept, Made, Joined, open_if, narrowed, widened, placed, seq_piece, seq_rows, alt_piece, alt_rows}
use Rattle.marks.specs.declared.write_out.Piece.{Piece}
use Rattle.nodes.proofs.Forms.{nested-none, nested-step, repeat-any, repeat-nested, repeat_many, repeat-step}
use Rattle.marks.proofs.Doors.{on-all, size-pos, rows-size, with_doors, shut-front, shut-back, open-round, says-take, says-seq, says-alt, says-before, says-behind, says-left, says-right, says-opt, says-plus}
use Rattle.marks.proofs.Laid.{laid_same, laid-front, laid-back, laid-round, placed-in, placed-out, placed_row, placed-length}

-- ---- how many rows

pub rows_none : (s : ℕ) → s ≡ 0 → rows_of s ≡ 0
rows_none s h = rw (eq-eqb s 0 h)

pub rows-some : (s : ℕ) → (s ≡ 0 → ⊥) → rows_of s + 1 ≡ 2 * s
rows-some s h = rw (ne_eqb s 0 h) (omega arith)

pub rows-most : (s : ℕ) → rows_of s ≤ 2 * s
rows-most s = elim (ℕ_discrete s 0) [ yes e ↦ omega (arith, rows_none s e) | no n ↦ omega (arith, rows-some s n) ]

rows_last : (s : ℕ) (p : Part) → size_of p ≡ s → rows_of s ≡ suc (last_of p)
rows_last s p e = omega (arith, rows-some s (λ z. omega (arith, size-pos p)), rows-size p)

rows_both : (s t : ℕ) → (s ≡ 0 → ⊥) → (t ≡ 0 → ⊥) → rows_of (s + t) ≡ suc (rows_of s + rows_of t)
rows_both s t m n = omega (arith, rows-some s m, rows-some t n, rows-some (s + t) (λ z. omega arith))

-- ---- choices by size

module _ (u v : Bool) (p q r t : List ℕ) where
  four-first : u ≡ true → v ≡ true → cond u (cond v p q) (cond v r t) ≡ p
  four-first hu hv = rw (hu, hv)

  four-second : u ≡ true → v ≡ false → cond u (cond v p q) (cond v r t) ≡ q
  four-second hu hv = rw (hu, hv)

  four-third : u ≡ false → v ≡ true → cond u (cond v p q) (cond v r t) ≡ r
  four-third hu hv = rw (hu, hv)

  four-fourth : u ≡ false → v ≡ false → cond u (cond v p q) (cond v r t) ≡ t
  four-fourth hu hv = rw (hu, hv)

  both-no : u ≡ false → v ≡ false → cond (not u && not v) p q ≡ p
  both-no hu hv = rw (hu, hv)

  first-yes : u ≡ true → cond (not u && not v) p q ≡ q
  first-yes hu = rw hu

  second-yes : u ≡ false → v ≡ true → cond (not u && not v) p q ≡ q
  second-yes hu hv = rw (hu, hv)

-- ---- masks

module _ (f e : Written) (l r : ℕ) (pl : Passes l f) (pr : Passes r e) where
  passes-seq : Passes (bit_and l r) (seq f e)
  unfolding null
  passes-seq g h = on_and l r g ∙ ap₂ (λ (u v : Bool). u && v) (pl g h) (pr g h)

  passes-alt : Passes (bit_or l r) (alt f e)
  unfolding null
  passes-alt g h = on_or l r g ∙ ap₂ (λ (u v : Bool). u || v) (pl g h) (pr g h)

pub passes-all : (f : Written) → ((w : Assertion → Bool) → null w f ≡ true) → Passes all f
passes-all f t g h = on-all g h ∙ sym (t (world_of g))

-- ---- a form without positions

module _ (a : List ℕ) (b n : ℕ) (ps : List ℕ) where
  pub made-bare : {f : Written} {r : Piece} → positions f ≡ 0 → r.size ≡ 0 → Passes r.null f → Made a f b n ps ps r
  made-bare bare z p = record {
    size = z ∙ sym bare;
    null = p;
    length = refl;
    kept = λ q h. refl;
    part = λ l. absurd (omega arith);
  }

  pub made-eps : {r : Piece} → r.size ≡ 0 → r.null ≡ all → Made a eps b n ps ps r
  unfolding positions null
  made-eps ez en = made-bare refl ez (λ g h. ap (λ (c : ℕ). on c g) en ∙ on-all g h)

  pub made-check : {x : Assertion} {r : Piece} → r.size ≡ 0 → r.null ≡ mask_of x → Made a (check x) b n ps ps r
  unfolding positions null
  made-check ez en = made-bare refl ez (λ g h. ap (λ (c : ℕ). on c g) en)

  pub made_as : {f e : Written} {qs : List ℕ} {r : Piece} → f ≡ e → Made a e b n ps qs r → Made a f b n ps qs r
  made_as q m = rw q m

  -- an item
  pub made-take : (k : ℕ) {qs : List ℕ} {r : Piece} → n * 8 + 8 ≤ length ps → qs ≡ placed ps n 0 k b 0 0 → r.size ≡ 1 → r.null ≡ 0
      → Made a (take (set_at a k)) b n ps qs r
  unfolding positions null Laid
  made-take k {qs} {r} room e es en =
      let one-row : rows_of r.size ≡ 1 = ap rows_of es in record {
        size = es;
        null = λ g h. ap (λ (m : ℕ). on m g) en ∙ on-zero g;
        length = ap length e ∙ placed-length ps n 0 k b 0 0 room;
        kept = λ q h. ap (λ (l : List ℕ). get_or l q 0) e ∙ placed-out ps n 0 k b 0 0 room q (elim h [ inl u ↦ inl u | inr u ↦ inr (omega arith) ]);
        part = λ l. (one (record { front = all; back = all; round = 0 }) k, says-take a k, rw e (placed_row ps n 0 k b 0 0 room));
      }

-- ---- two forms behind each other

module _ (a : List ℕ) {f e : Written} {b n : ℕ} {ps p1 p2 : List ℕ} {s t : Piece} (room : b + (s.size + t.size) ≤ 256) (low : n ≤ 2 * b) (words : length ps ≡ 4096)
    (x : Made a f b n ps p1 s) (y : Made a e (b + s.size) (n + rows_of s.size) p1 p2 t) where
  words2 : length p2 ≡ 4096
  words2 = y.length ∙ x.length ∙ words

  outer : (q : ℕ) → (q < n * 8) ⊎ ((n + rows_of s.size + rows_of t.size) * 8 ≤ q) → get_or p2 q 0 ≡ get_or ps q 0
  outer q (inl h) = y.kept q (inl (omega arith)) ∙ x.kept q (inl h)
  outer q (inr h) = y.kept q (inr (omega arith)) ∙ x.kept q (inr (omega arith))

  sizes : s.size + t.size ≡ positions f + positions e
  sizes = ap₂ ◌+◌ x.size y.size

  bare-first : s.size ≡ 0 → positions f ≡ 0
  bare-first z = sym x.size ∙ z

  bare-second : t.size ≡ 0 → positions e ≡ 0
  bare-second z = sym y.size ∙ z

  -- the parts, where there are any
  first_part : (s.size ≡ 0 → ⊥) → (p : Part) × Says a p f × Laid p2 n b p
  first_part m =
      let w = x.part (omega arith) in
      let rows = rows_last s.size w.0 (w.1.size ∙ sym x.size) in
      (w.0, w.1, laid_same w.0 p1 p2 n b (λ q g h. y.kept q (inl (omega arith))) w.2)

  second-part : (t.size ≡ 0 → ⊥) → (p : Part) × Says a p e × Laid p2 (n + rows_of s.size) (b + s.size) p
  second-part m = y.part (omega arith)

  moved-part : s.size ≡ 0 → (t.size ≡ 0 → ⊥) → (p : Part) × Says a p e × Laid p2 n b p
  moved-part z m =
      let w = second-part m in
      let en : n + rows_of s.size ≡ n = omega (arith, rows_none s.size z) in
      let eb : b + s.size ≡ b = omega arith in
      (w.0, w.1, subst₂ (λ (u v : ℕ). Laid p2 u v w.0) en eb w.2)

  -- a new row above both
  module _ (what u v : ℕ) (m : s.size ≡ 0 → ⊥) (k : t.size ≡ 0 → ⊥) where
    abbrev j : ℕ
    j = n + rows_of s.size + rows_of t.size

    abbrev left : ℕ
    left = n + rows_of s.size - 1

    abbrev right : ℕ
    right = n + rows_of s.size + rows_of t.size - 1

    fits : j * 8 + 8 ≤ length p2
    fits = omega (arith, words2, rows-some s.size m, rows-some t.size k)

    abbrev above : List ℕ
    above = placed p2 j what u v left right

    above-length : length above ≡ length ps
    above-length = placed-length p2 j what u v left right fits ∙ words2 ∙ sym words

    above_kept : Kept ps above n (s.size + t.size)
    above_kept q h =
        placed-out p2 j what u v left right fits q (elim h [ inl z ↦ inl (omega arith) | inr z ↦ inr (omega (arith, rows_both s.size t.size m k)) ])
        ∙ outer q (elim h [ inl z ↦ inl z | inr z ↦ inr (omega (arith, rows_both s.size t.size m k)) ])

    abbrev px : Part
    px = (first_part m).0

    abbrev py : Part
    py = (second-part k).0

    rx : rows_of s.size ≡ suc (last_of px)
    rx = rows_last s.size px ((first_part m).1.size ∙ sym x.size)

    ry : rows_of t.size ≡ suc (last_of py)
    ry = rows_last t.size py ((second-part k).1.size ∙ sym y.size)

    at_row : j ≡ n + (suc (last_of px) + suc (last_of py))
    at_row = omega (arith, rx, ry)

    same-x : Laid above n b px
    same-x = laid_same px p2 above n b (λ q g h. placed-out p2 j what u v left right fits q (inl (omega (arith, rx, ry)))) (first_part m).2

    same-y : Laid above (n + suc (last_of px)) (b + size_of px) py
    same-y =
        let en : n + rows_of s.size ≡ n + suc (last_of px) = omega (arith, rx) in
        let eb : b + s.size ≡ b + size_of px = omega (arith, (first_part m).1.size, x.size) in
        subst₂ (λ (c d : ℕ). Laid above c d py) en eb
        (laid_same py p2 above (n + rows_of s.size) (b + s.size) (λ q g h. placed-out p2 j what u v left right fits q (inl (omega (arith, rx, ry)))) (second-part k).2)

    abbrev doors : Doors
    doors = record { front = all; back = all; round = 0 }

    row_at : (i w : ℕ) → at above j i ≡ w → at above (n + (suc (last_of px) + suc (last_of py))) i ≡ w
    row_at i w h = ap (λ (c : ℕ). at above c i) (sym at_row) ∙ h

    left_at : at above (n + (suc (last_of px) + suc (last_of py))) 3 ≡ n + last_of px
    left_at = row_at 3 (n + last_of px) (placed-in p2 j what u v left right fits 3 (omega arith) ∙ omega (arith, rx))

    right-at : at above (n + (suc (last_of px) + suc (last_of py))) 4 ≡ n + suc (last_of px) + last_of py
    right-at = row_at 4 (n + suc (last_of px) + last_of py) (placed-in p2 j what u v left right fits 4 (omega arith) ∙ omega (arith, rx, ry))

    row : Row above (n + (suc (last_of px) + suc (last_of py))) what u v doors
    row = subst (λ (c : ℕ). Row above c what u v doors) at_row (placed_row p2 j what u v left right fits)

    laid_then : what ≡ 1 → Laid above n b (then doors u v px py)
    unfolding Laid
    laid_then h = (subst (λ (c : ℕ). Row above (n + (suc (last_of px) + suc (last_of py))) c u v doors) h row, left_at, right-at, same-x, same-y)

    laid-or : what ≡ 2 → u ≡ 0 → v ≡ 0 → Laid above n b (or doors px py)
    unfolding Laid
    laid-or h hu hv = (
      subst (λ (c : ℕ). Row above (n + (suc (last_of px) + suc (last_of py))) c 0 0 doors) h
          (subst₂ (λ (c d : ℕ). Row above (n + (suc (last_of px) + suc (last_of py))) what c d doors) hu hv row),
      left_at,
      right-at,
      same-x,
      same-y,
    )

  abbrev fronts : List ℕ
  fronts = narrowed p2 (n + rows_of t.size - 1) 5 s.null

  abbrev backs : List ℕ
  backs = narrowed p2 (n + rows_of s.size - 1) 6 t.null

  abbrev pairs : (what u v : ℕ) → List ℕ
  pairs what u v = placed p2 (n + rows_of s.size + rows_of t.size) what u v (n + rows_of s.size - 1) (n + rows_of s.size + rows_of t.size - 1)

  -- one after the other
  pub made-seq : {qs : List ℕ} {r : Piece} → r ≡ seq_piece s t → qs ≡ seq_rows s t n p2 → Made a (seq f e) b n ps qs r
  unfolding positions
  made-seq {qs} {r} er eq = rw (er, eq) (go (ℕ_discrete s.size 0) (ℕ_discrete t.size 0))
    where
      masks : Passes (bit_and s.null t.null) (seq f e)
      masks = passes-seq f e s.null t.null x.null y.null

      goal : List ℕ → Type 0
      goal ts = Made a (seq f e) b n ps ts (seq_piece s t)

      go : Dec (s.size ≡ 0) → Dec (t.size ≡ 0) → goal (seq_rows s t n p2)
      go (yes z) (yes o) =
          subst goal (sym (four-first (eqb s.size 0) (eqb t.size 0) p2 fronts backs (pairs 1 s.null t.null) (eq-eqb s.size 0 z) (eq-eqb t.size 0 o))) (record {
            size = sizes;
            null = masks;
            length = words2 ∙ sym words;
            kept = λ q h. outer q (elim h [ inl u ↦ inl u | inr u ↦ inr (omega (arith, rows_none s.size z, rows_none t.size o)) ]);
            part = λ l. absurd (omega arith);
          })
      go (yes z) (no o) =
          let w = moved-part z o in
          let p = w.0 in
          let rows = rows_last t.size p (w.1.size ∙ sym y.size) in
          let at_last : n + rows_of t.size - 1 ≡ n + last_of p = omega arith in
          let fits_in : (n + last_of p) * 8 + 7 < length p2 = omega (arith, words2, rows-some t.size o) in
          let same : s.size + t.size ≡ t.size = omega arith in
          let same_rows : rows_of (s.size + t.size) ≡ rows_of t.size = ap rows_of same in
          subst goal (sym (four-second (eqb s.size 0) (eqb t.size 0) p2 fronts backs (pairs 1 s.null t.null) (eq-eqb s.size 0 z) (ne_eqb t.size 0 o) ∙ ap (λ (c : ℕ). narrowed p2 c 5 s.null) at_last)) (record {
            size = sizes;
            null = masks;
            length = length-set p2 _ _ ∙ words2 ∙ sym words;
            kept = λ q h. get_or-set_other p2 _ q _ 0 (λ i. elim h [ inl u ↦ omega arith | inr u ↦ omega arith ])
                ∙ outer q (elim h [ inl u ↦ inl u | inr u ↦ inr (omega (arith, rows_none s.size z)) ]);
            part = λ l. (with_doors p (shut-front p s.null), says-before a (bare-first z) w.1 s.null x.null, laid-front p p2 n b w.2 fits_in s.null);
          })
      go (no m) (yes o) =
          let w = first_part m in
          let p = w.0 in
          let rows = rows_last s.size p (w.1.size ∙ sym x.size) in
          let at_last : n + rows_of s.size - 1 ≡ n + last_of p = omega arith in
          let fits_in : (n + last_of p) * 8 + 7 < length p2 = omega (arith, words2, rows-some s.size m) in
          let same : s.size + t.size ≡ s.size = omega arith in
          let same_rows : rows_of (s.size + t.size) ≡ rows_of s.size = ap rows_of same in
          subst goal (sym (four-third (eqb s.size 0) (eqb t.size 0) p2 fronts backs (pairs 1 s.null t.null) (ne_eqb s.size 0 m) (eq-eqb t.size 0 o) ∙ ap (λ (c : ℕ). narrowed p2 c 6 t.null) at_last)) (record {
            size = sizes;
            null = masks;
            length = length-set p2 _ _ ∙ words2 ∙ sym words;
            kept = λ q h. get_or-set_other p2 _ q _ 0 (λ i. elim h [ inl u ↦ omega arith | inr u ↦ omega arith ])
                ∙ outer q (elim h [ inl u ↦ inl u | inr u ↦ inr (omega (arith, rows_none t.size o)) ]);
            part = λ l. (with_doors p (shut-back p t.null), says-behind a w.1 (bare-second o) t.null y.null, laid-back p p2 n b w.2 fits_in t.null);
          })
      go (no m) (no o) =
          subst goal (sym (four-fourth (eqb s.size 0) (eqb t.size 0) p2 fronts backs (pairs 1 s.null t.null) (ne_eqb s.size 0 m) (ne_eqb t.size 0 o))) (record {
            size = sizes;
            null = masks;
            length = above-length 1 s.null t.null m o;
            kept = above_kept 1 s.null t.null m o;
            part = λ l. (
              then (doors 1 s.null t.null m o) s.null t.null (px 1 s.null t.null m o) (py 1 s.null t.null m o),
              says-seq a (first_part m).1 (second-part o).1 s.null t.null x.null y.null,
              laid_then 1 s.null t.null m o refl,
            );
          })

  -- one of two
  pub made-alt : {qs : List ℕ} {r : Piece} → r ≡ alt_piece s t → qs ≡ alt_rows s t n p2 → Made a (alt f e) b n ps qs r
  unfolding positions
  made-alt {qs} {r} er eq = rw (er, eq) (go (ℕ_discrete s.size 0) (ℕ_discrete t.size 0))
    where
      masks : Passes (bit_or s.null t.null) (alt f e)
      masks = passes-alt f e s.null t.null x.null y.null

      goal : List ℕ → Type 0
      goal ts = Made a (alt f e) b n ps ts (alt_piece s t)

      go : Dec (s.size ≡ 0) → Dec (t.size ≡ 0) → goal (alt_rows s t n p2)
      go (yes z) (yes o) =
          subst goal (sym (first-yes (eqb s.size 0) (eqb t.size 0) (pairs 2 0 0) p2 p2 p2 (eq-eqb s.size 0 z))) (record {
            size = sizes;
            null = masks;
            length = words2 ∙ sym words;
            kept = λ q h. outer q (elim h [ inl u ↦ inl u | inr u ↦ inr (omega (arith, rows_none s.size z, rows_none t.size o)) ]);
            part = λ l. absurd (omega arith);
          })
      go (yes z) (no o) =
          let w = moved-part z o in
          let same : s.size + t.size ≡ t.size = omega arith in
          let same_rows : rows_of (s.size + t.size) ≡ rows_of t.size = ap rows_of same in
          subst goal (sym (first-yes (eqb s.size 0) (eqb t.size 0) (pairs 2 0 0) p2 p2 p2 (eq-eqb s.size 0 z))) (record {
            size = sizes;
            null = masks;
            length = words2 ∙ sym words;
            kept = λ q h. outer q (elim h [ inl u ↦ inl u | inr u ↦ inr (omega (arith, rows_none s.size z)) ]);
            part = λ l. (w.0, says-left a (bare-first z) w.1, w.2);
          })
      go (no m) (yes o) =
          let w = first_part m in
          let same : s.size + t.size ≡ s.size = omega arith in
          let same_rows : rows_of (s.size + t.size) ≡ rows_of s.size = ap rows_of same in
          subst goal (sym (second-yes (eqb s.size 0) (eqb t.size 0) (pairs 2 0 0) p2 p2 p2 (ne_eqb s.size 0 m) (eq-eqb t.size 0 o))) (record {
            size = sizes;
            null = masks;
            length = words2 ∙ sym words;
            kept = λ q h. outer q (elim h [ inl u ↦ inl u | inr u ↦ inr (omega (arith, rows_none t.size o)) ]);
            part = λ l. (w.0, says-right a w.1 (bare-second o), w.2);
          })
      go (no m) (no o) =
          subst goal (sym (both-no (eqb s.size 0) (eqb t.size 0) (pairs 2 0 0) p2 p2 p2 (ne_eqb s.size 0 m) (ne_eqb t.size 0 o))) (record {
            size = sizes;
            null = masks;
            length = above-length 2 0 0 m o;
            kept = above_kept 2 0 0 m o;
            part = λ l. (
              or (doors 2 0 0 m o) (px 2 0 0 m o) (py 2 0 0 m o),
              says-alt a (first_part m).1 (second-part o).1,
              laid-or 2 0 0 m o refl refl refl,
            );
          })

-- ---- repeats

module _ (a : List ℕ) {f : Written} {b n : ℕ} {ps qs : List ℕ} {s : Piece} where
  pub made-opt : {r : Piece} → r.size ≡ s.size → r.null ≡ all → Made a f b n ps qs s → Made a (opt f) b n ps qs r
  unfolding positions null
  made-opt {r} es en m = record {
    size = es ∙ m.size;
    null = λ g h. ap (λ (c : ℕ). on c g) en ∙ on-all g h;
    length = m.length;
    kept = rw es m.kept;
    part = λ l. let w = m.part (omega arith) in (w.0, says-opt a w.1, w.2);
  }

  -- one or more, where there is a position
  pub made-plus : {ts : List ℕ} {r : Piece} → length ps ≡ 4096 → b + s.size ≤ 256 → n ≤ 2 * b → (s.size ≡ 0 → ⊥) → r.size ≡ s.size → r.null ≡ s.null
      → ts ≡ widened qs (n + rows_of s.size - 1) → Made a f b n ps qs s → Made a (plus f) b n ps ts r
  unfolding positions null
  made-plus {ts} {r} words room low some es en et m =
      let w = m.part (omega arith) in
      let p = w.0 in
      let rows = rows_last s.size p (w.1.size ∙ sym m.size) in
      let at_last : n + rows_of s.size - 1 ≡ n + last_of p = omega arith in
      let fits : (n + last_of p) * 8 + 7 < length qs = omega (arith, m.length, rows-some s.size some) in
      let is : ts ≡ widened qs (n + last_of p) = et ∙ ap (widened qs) at_last in record {
        size = es ∙ m.size;
        null = λ g h. ap (λ (c : ℕ). on c g) en ∙ m.null g h;
        length = ap length is ∙ length-set qs _ _ ∙ m.length;
        kept = λ q h.
            ap (λ (l : List ℕ). get_or l q 0) is
            ∙ get_or-set_other qs _ q _ 0 (λ i. elim h [ inl u ↦ omega arith | inr u ↦ omega (arith, ap rows_of es) ])
            ∙ m.kept q (elim h [ inl u ↦ inl u | inr u ↦ inr (omega (arith, ap rows_of es)) ]);
        part = λ l. (with_doors p (open-round p), says-plus a w.1, rw is (laid-round p qs n b w.2 fits));
      }

-- ---- what the code writes where two pieces join

module _ (f g : Piece) (n : ℕ) (ps : List ℕ) where
  abbrev u : Bool
  u = eqb f.size 0

  abbrev v : Bool
  v = eqb g.size 0

  abbrev front' : List ℕ
  front' = narrowed ps (n + rows_of g.size - 1) 5 f.null

  abbrev back' : List ℕ
  back' = narrowed ps (n + rows_of f.size - 1) 6 g.null

  abbrev pair' : (what x y : ℕ) → List ℕ
  pair' what x y = placed ps (n + rows_of f.size + rows_of g.size) what x y (n + rows_of f.size - 1) (n + rows_of f.size + rows_of g.size - 1)

  and_split : (c d : Bool) → (c && d) ≡ true → (c ≡ true) × (d ≡ true)
  and_split true d h = (refl, h)
  and_split false d h = absurd (mathlib.Core.Bool.true≢false (sym h))

  not_both : (c d : Bool) → c ≡ true → (c && d) ≡ false → d ≡ false
  not_both c d e h = rw e at h

  or_split : (c d : Bool) → (c || d) ≡ false → (c ≡ false) × (d ≡ false)
  or_split true d h = absurd (mathlib.Core.Bool.true≢false h)
  or_split false d h = (refl, h)

  pub seq-none : (u && v) ≡ true → ps ≡ seq_rows f g n ps
  seq-none h = let e = and_split u v h in sym (four-first u v ps front' back' (pair' 1 f.null g.null) e.0 e.1)

  pub seq-front : {qs : List ℕ} {r : ℕ} → (u && v) ≡ false → f.size ≡ 0 → r ≡ rows_of g.size → qs ≡ narrowed ps (n + r - 1) 5 f.null → qs ≡ seq_rows f g n ps
  seq-front h z e q =
      let t : u ≡ true = eq-eqb f.size 0 z in
      q ∙ ap (λ (c : ℕ). narrowed ps (n + c - 1) 5 f.null) e ∙ sym (four-second u v ps front' back' (pair' 1 f.null g.null) t (not_both u v t h))

  pub seq-back : {qs : List ℕ} {r : ℕ} → (f.size ≡ 0 → ⊥) → g.size ≡ 0 → r ≡ rows_of f.size → qs ≡ narrowed ps (n + r - 1) 6 g.null → qs ≡ seq_rows f g n ps
  seq-back m z e q =
      q ∙ ap (λ (c : ℕ). narrowed ps (n + c - 1) 6 g.null) e
      ∙ sym (four-third u v ps front' back' (pair' 1 f.null g.null) (ne_eqb f.size 0 m) (eq-eqb g.size 0 z))

  pub seq-pair : {qs : List ℕ} {r s : ℕ} → (f.size ≡ 0 → ⊥) → (g.size ≡ 0 → ⊥) → r ≡ rows_of f.size → s ≡ rows_of g.size
      → qs ≡ placed ps (n + r + s) 1 f.null g.null (n + r - 1) (n + r + s - 1) → qs ≡ seq_rows f g n ps
  seq-pair m k e d q =
      q ∙ ap₂ (λ (c h : ℕ). placed ps (n + c + h) 1 f.null g.null (n + c - 1) (n + c + h - 1)) e d
      ∙ sym (four-fourth u v ps front' back' (pair' 1 f.null g.null) (ne_eqb f.size 0 m) (ne_eqb g.size 0 k))

  pub alt-none : (u || v) ≡ true → ps ≡ alt_rows f g n ps
  alt-none h = go u v refl refl h
    where
      go : (c d : Bool) → u ≡ c → v ≡ d → (c || d) ≡ true → ps ≡ alt_rows f g n ps
      go true d p q t = sym (first-yes u v (pair' 2 0 0) ps ps ps p)
      go false true p q t = sym (second-yes u v (pair' 2 0 0) ps ps ps p q)
      go false false p q t = absurd (mathlib.Core.Bool.true≢false (sym t))

  pub alt-pair : {qs : List ℕ} {r s : ℕ} → (u || v) ≡ false → r ≡ rows_of f.size → s ≡ rows_of g.size
      → qs ≡ placed ps (n + r + s) 2 0 0 (n + r - 1) (n + r + s - 1) → qs ≡ alt_rows f g n ps
  alt-pair h e d q =
      let t = or_split u v h in
      q ∙ ap₂ (λ (c k : ℕ). placed ps (n + c + k) 2 0 0 (n + c - 1) (n + c + k - 1)) e d ∙ sym (both-no u v (pair' 2 0 0) ps ps ps t.0 t.1)

  pub some-both : (u || v) ≡ false → (f.size ≡ 0 → ⊥) × (g.size ≡ 0 → ⊥)
  some-both h = let t = or_split u v h in (eqb-false f.size 0 t.0, eqb-false g.size 0 t.1)

  pub some-second : (u && v) ≡ false → f.size ≡ 0 → g.size ≡ 0 → ⊥
  some-second h z = eqb-false g.size 0 (not_both u v (eq-eqb f.size 0 z) h)

-- ---- the room that parts have

module _ {w : Written} {b n : ℕ} {ps : List ℕ} (room : Room w b n ps) where
  pub room-part : {f : Written} → positions f ≤ positions w → Room f b n ps
  room-part h = record { positions = omega (arith, room.positions); rows = room.rows; words = room.words }

  module _ {a : List ℕ} {f : Written} (e : Written) {p1 : List ℕ} {s : Piece} (sum : positions w ≡ positions f + positions e) (x : Made a f b n ps p1 s) where
    pub room-low : s.size ≤ 256
    room-low = omega (arith, room.positions, x.size)

    pub room-second : {r : ℕ} → r ≡ rows_of s.size → Room e (b + s.size) (n + r) p1
    room-second er = record {
      positions = omega (arith, room.positions, x.size);
      rows = omega (arith, room.rows, rows-most s.size);
      words = x.length ∙ room.words;
    }

    pub room_joined : (r : ℕ) {p2 : List ℕ} {t : Piece} → Made a e (b + s.size) (n + r) p1 p2 t → Joined s t n
    room_joined r y = record { size = omega (arith, room.positions, x.size, y.size); rows = omega (arith, room.positions, room.rows, x.size, y.size) }

    pub both-seq : {r : ℕ} {p2 qs : List ℕ} {t z : Piece} → r ≡ rows_of s.size → w ≡ seq f e → Made a e (b + s.size) (n + r) p1 p2 t
        → (z ≡ seq_piece s t) × (qs ≡ seq_rows s t n p2) → Made a w b n ps qs z
    both-seq {r} {p2} {qs} {t} {z} er ew y q =
        let y' : Made a e (b + s.size) (n + rows_of s.size) p1 p2 t = subst (λ (c : ℕ). Made a e (b + s.size) (n + c) p1 p2 t) er y in
        made_as a b n ps ew (made-seq a (omega (arith, room.positions, x.size, y.size)) room.rows room.words x y' q.0 q.1)

    pub both-alt : {r : ℕ} {p2 qs : List ℕ} {t z : Piece} → r ≡ rows_of s.size → w ≡ alt f e → Made a e (b + s.size) (n + r) p1 p2 t
        → (z ≡ alt_piece s t) × (qs ≡ alt_rows s t n p2) → Made a w b n ps qs z
    both-alt {r} {p2} {qs} {t} {z} er ew y q =
        let y' : Made a e (b + s.size) (n + rows_of s.size) p1 p2 t = subst (λ (c : ℕ). Made a e (b + s.size) (n + c) p1 p2 t) er y in
        made_as a b n ps ew (made-alt a (omega (arith, room.positions, x.size, y.size)) room.rows room.words x y' q.0 q.1)

-- ---- repeats by their first copy

and-three : (c d e : Bool) → ((c && d) && not e) ≡ true → (c ≡ true) × (d ≡ true) × (e ≡ false)
and-three true true false h = (refl, refl, refl)
and-three true true true h = absurd (mathlib.Core.Bool.true≢false (sym h))
and-three true false e h = absurd (mathlib.Core.Bool.true≢false (sym h))
and-three false d e h = absurd (mathlib.Core.Bool.true≢false (sym h))

repeated-bare : (s : Syntax) (n : ℕ) (j : Extra) → positions (write s) ≡ 0 → positions (repeated (write s) n j) ≡ 0
unfolding write exact
repeated-bare s n j bare = counted (repeat s n j) ∙ ap (λ (m : ℕ). copied n j * m) (sym (counted s) ∙ bare) ∙ mul-zero (copied n j)

module _ (s : Syntax) (n : ℕ) (endless : Bool) (j : ℕ) where
  abbrev form : Written
  form = write s

  abbrev whole : Written
  whole = repeated (write s) n (extra endless j)

  plus-is : positions (plus form) ≡ positions form
  unfolding positions
  plus-is = refl

  plus-opt : positions (opt (plus form)) ≡ positions form
  unfolding positions
  plus-opt = refl

  null-copies : (v : Assertion → Bool) → (b : Bool) → eqb n 0 ≡ b → null v whole ≡ cond b true (null v form)
  null-copies v b h = go n refl b h
    where
      go : (m : ℕ) → n ≡ m → (c : Bool) → eqb n 0 ≡ c → null v whole ≡ cond c true (null v form)
      go zero e c q =
          let t : c ≡ true = sym q ∙ eq-eqb n 0 e in
          ap (λ (i : ℕ). null v (repeated form i (extra endless j))) e ∙ repeated-none v form (extra endless j) ∙ sym (ap (λ (i : Bool). cond i true (null v form)) t)
      go (suc m) e c q =
          let t : c ≡ false = sym q ∙ ne_eqb n 0 (λ z. omega arith) in
          ap (λ (i : ℕ). null v (repeated form i (extra endless j))) e ∙ repeated-null v form m (extra endless j) ∙ sym (ap (λ (i : Bool). cond i true (null v form)) t)

  -- the mask of the repeat by that of a copy
  pub passes-copies : (m r : ℕ) → Passes m form → r ≡ open_if (eqb n 0) m → Passes r whole
  passes-copies m r p e g h = ap (λ (c : ℕ). on c g) e ∙ go (eqb n 0) refl
    where
      go : (b : Bool) → eqb n 0 ≡ b → on (open_if b m) g ≡ null (world_of g) whole
      go true q = on-all g h ∙ sym (null-copies (world_of g) true q)
      go false q = p g h ∙ sym (null-copies (world_of g) false q)

  module _ {a : List ℕ} {b k : ℕ} {ps : List ℕ} where
    -- none at all
    pub copies-none : {r : Piece} → ((eqb n 0 && eqb j 0) && not endless) ≡ true → r.size ≡ 0 → r.null ≡ all → Made a whole b k ps ps r
    unfolding positions null
    copies-none {r} h ez en =
        let t = and-three (eqb n 0) (eqb j 0) endless h in
        let e : whole ≡ eps = repeat-nested form n endless j (eqb-true n 0 t.0) t.2 ∙ nested-none form j (eqb-true j 0 t.1) in
        made_as a b k ps e (made-bare a b k ps refl ez (λ g l. ap (λ (c : ℕ). on c g) en ∙ on-all g l))

    module _ {qs : List ℕ} {x : Piece} (m : Made a form b k ps qs x) where
      -- copies that take no byte
      pub copies-bare : {r : Piece} → x.size ≡ 0 → r.size ≡ 0 → r.null ≡ open_if (eqb n 0) x.null → Made a whole b k ps qs r
      copies-bare {r} z ez en =
          let bare : positions whole ≡ 0 = repeated-bare s n (extra endless j) (sym m.size ∙ z) in record {
            size = ez ∙ sym bare;
            null = passes-copies x.null r.null m.null en;
            length = m.length;
            kept = λ q h. m.kept q (elim h [ inl u ↦ inl u | inr u ↦ inr (omega (arith, rows_none x.size z, rows_none r.size ez)) ]);
            part = λ l. absurd (omega arith);
          }

      -- one or more, or any number
      pub copies-round : {ts : List ℕ} {r : Piece} {c : ℕ} → Room whole b k ps → (endless && leb n 1) ≡ true → (x.size ≡ 0 → ⊥) → c ≡ rows_of x.size
          → ts ≡ widened qs (k + c - 1) → r.size ≡ x.size → r.null ≡ open_if (eqb n 0) x.null → Made a whole b k ps ts r
      copies-round {ts} {r} {c} room h some ec et ez en = go (ℕ_discrete n 0)
        where
          and_one : (c d : Bool) → (c && d) ≡ true → (c ≡ true) × (d ≡ true)
          and_one true d h = (refl, h)
          and_one false d h = absurd (mathlib.Core.Bool.true≢false (sym h))

          wide : ts ≡ widened qs (k + rows_of x.size - 1)
          wide = et ∙ ap (λ (i : ℕ). widened qs (k + i - 1)) ec

          ready : positions whole ≡ positions form → {z : Piece} → z.size ≡ x.size → z.null ≡ x.null → Made a (plus form) b k ps ts z
          ready same es em = made-plus a room.words (omega (arith, room.positions, m.size)) room.rows some es em wide m

          go : Dec (n ≡ 0) → Made a whole b k ps ts r
          go (yes z) =
              let e : whole ≡ opt (plus form) = repeat-any form n endless j z (and_one endless (leb n 1) h).0 in
              let ones : r.null ≡ all = en ∙ ap (λ (i : Bool). open_if i x.null) (eq-eqb n 0 z) in
              made_as a b k ps e (made-opt a {s = x} ez ones (ready (ap positions e ∙ plus-opt) refl refl))
          go (no o) =
              let once : (endless && eqb n 1) ≡ true = both_yes (and_one endless (leb n 1) h) o in
              let e : whole ≡ plus form = repeat_many form n endless j once in
              made_as a b k ps e (ready (ap positions e ∙ plus-is) ez (en ∙ ap (λ (i : Bool). open_if i x.null) (ne_eqb n 0 o)))
            where
              both_yes : (endless ≡ true) × (leb n 1 ≡ true) → (n ≡ 0 → ⊥) → (endless && eqb n 1) ≡ true
              both_yes t o = rw t.0 (eq-eqb n 1 (omega (arith, leb-true n 1 t.1)))

  -- one copy, and others behind it
  module _ (some : ((eqb n 0 && eqb j 0) && not endless) ≡ false) (not_round : (endless && leb n 1) ≡ false) where
    abbrev rest0 : Written
    rest0 = repeated (write s) 0 (extra false (j - 1))

    abbrev rest : Written
    rest = repeated (write s) (n - 1) (extra endless j)

    ended : n ≡ 0 → endless ≡ false
    ended z = go endless not_round
      where
        go : (c : Bool) → (c && leb n 1) ≡ false → c ≡ false
        go true h = absurd (mathlib.Core.Bool.true≢false (sym (le-leb n 1 (omega arith)) ∙ h))
        go false h = refl

    more-copies : n ≡ 0 → j ≡ 0 → ⊥
    more-copies z o = mathlib.Core.Bool.true≢false (sym (rw (eq-eqb n 0 z, eq-eqb j 0 o, ended z)) ∙ some)

    whole-0 : n ≡ 0 → whole ≡ opt (seq (write s) rest0)
    whole-0 z =
        repeat-nested (write s) n endless j z (ended z) ∙ nested-step (write s) j (more-copies z)
        ∙ ap (λ (g : Written). opt (seq (write s) g)) (sym (repeat-nested (write s) 0 false (j - 1) refl refl))

    not-once : (endless && eqb n 1) ≡ false
    not-once = go endless not_round
      where
        go : (c : Bool) → (c && leb n 1) ≡ false → (c && eqb n 1) ≡ false
        go true h = ne_eqb n 1 (λ e. omega (arith, leb-false n 1 h))
        go false h = refl

    whole-n : (n ≡ 0 → ⊥) → whole ≡ seq (write s) rest
    whole-n o = repeat-step (write s) n endless j o not-once

    pub sum-0 : n ≡ 0 → positions whole ≡ positions (write s) + positions rest0
    unfolding positions
    sum-0 z = ap positions (whole-0 z)

    pub sum-n : (n ≡ 0 → ⊥) → positions whole ≡ positions (write s) + positions rest
    unfolding positions
    sum-n o = ap positions (whole-n o)

    pub copies-first : positions (write s) ≤ positions whole
    copies-first = go (ℕ_discrete n 0)
      where
        go : Dec (n ≡ 0) → positions (write s) ≤ positions whole
        go (yes z) = omega (arith, sum-0 z)
        go (no o) = omega (arith, sum-n o)

    pub fewer : n ≡ 0 → j - 1 < j
    fewer z = let o = more-copies z in omega arith

    module _ {a : List ℕ} {b k : ℕ} {ps : List ℕ} (room : Room whole b k ps) {p1 : List ℕ} {x : Piece} (m : Made a (write s) b k ps p1 x) {r : ℕ} (er : r ≡ rows_of x.size) where
      pub copies-opt : {p2 qs : List ℕ} {y t z : Piece} → n ≡ 0 → Made a rest0 (b + x.size) (k + r) p1 p2 y → (t ≡ seq_piece x y) × (qs ≡ seq_rows x y k p2)
          → z.size ≡ t.size → z.null ≡ all → Made a whole b k ps qs z
      unfolding positions
      copies-opt n0 y q ez en =
          let room' : Room (seq (write s) rest0) b k ps = room-part room (omega (arith, sum-0 n0)) in
          made_as a b k ps (whole-0 n0) (made-opt a ez en (both-seq room' rest0 refl m er refl y q))

      pub copies_then : {p2 qs : List ℕ} {y z : Piece} → (n ≡ 0 → ⊥) → Made a rest (b + x.size) (k + r) p1 p2 y → (z ≡ seq_piece x y) × (qs ≡ seq_rows x y k p2) → Made a whole b k ps qs z
      copies_then o y q = both-seq room rest (sum-n o) m er (whole-n o) y q

  -- a copy is no larger than the whole, where there is one
  pub copies-low : ((eqb n 0 && eqb j 0) && not endless) ≡ false → positions (write s) ≤ positions whole
  copies-low h = go (endless && leb n 1) refl
    where
      split : (c d : Bool) → (c && d) ≡ true → (c ≡ true) × (d ≡ true)
      split true d q = (refl, q)
      split false d q = absurd (mathlib.Core.Bool.true≢false (sym q))

      once : (endless ≡ true) × (leb n 1 ≡ true) → Dec (n ≡ 0) → positions (write s) ≤ positions whole
      once t (yes z) = omega (arith, ap positions (repeat-any (write s) n endless j z t.0), plus-opt)
      once t (no o) =
          let e : (endless && eqb n 1) ≡ true = rw t.0 (eq-eqb n 1 (omega (arith, leb-true n 1 t.1))) in
          omega (arith, ap positions (repeat_many (write s) n endless j e), plus-is)

      go : (c : Bool) → (endless && leb n 1) ≡ c → positions (write s) ≤ positions whole
      go true q = once (split endless (leb n 1) q) (ℕ_discrete n 0)
      go false q = copies-first h q

-- ---- the whole rule

pub plays-of : {a : List ℕ} {root : ℕ} {ps qs : List ℕ} {r : Piece} {rows : ℕ} → Room (form_at a root) 0 0 ps → Made a (form_at a root) 0 0 ps qs r → rows ≡ rows_of r.size
    → Plays a root qs rows
plays-of {a} {root} {ps} {qs} {r} {rows} room m e = record {
  low = go (ℕ_discrete r.size 0);
  bare = λ z. sym m.size ∙ bare-size (ℕ_discrete r.size 0) z;
  part = λ l. let w = m.part (pos (ℕ_discrete r.size 0) l) in (w.0, w.1, w.2, e ∙ rows_last r.size w.0 (w.1.size ∙ sym m.size));
}
  where
    go : Dec (r.size ≡ 0) → rows < 512
    go (yes z) = omega (arith, rows_none r.size z)
    go (no o) = omega (arith, rows-some r.size o, m.size)

    bare-size : Dec (r.size ≡ 0) → rows ≡ 0 → r.size ≡ 0
    bare-size (yes z) h = z
    bare-size (no o) h = absurd (omega (arith, rows-some r.size o))

    pos : Dec (r.size ≡ 0) → 0 < rows → 0 < r.size
    pos (yes z) h = absurd (omega (arith, rows_none r.size z))
    pos (no o) h = omega arith
