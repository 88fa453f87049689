-- One byte's step in words: the first positions joined with the follow row of each live one, met
-- with the byte's row and kept below the count, are `stepped`.
use mathlib.Core.Path.{◌≡◌, sym, ap, ap₂, ◌∙◌}
use mathlib.Core.Bool.{Bool, true, false, cond, not, ◌||◌, ◌&&◌, or-false, or_assoc, and_comm, and-false, and-true}
use mathlib.Core.List.{List}
use Prim.Native.Nat.{ℕ, zero, suc, ◌+◌, ◌-◌, ◌*◌, ◌<◌, ◌≤◌}
use native.Mathlib.Nat.{add-zero, add-suc}
use native.Mathlib.Numerals.{add-one}
use native.Mathlib.Omega.{arith}
use lib.Dec.{eqb, leb, ltb}
use lib.ListN.{get_or}
use borrow.Author.Tests.{lt-ltb, lt-leb, ne_eqb}
use Rattle.kinds.specs.declared.Side.{Side}
use Rattle.sets.specs.Set.{has, set_of, any, union_of, intersection_of, kept_below, empty_set, full_set}
use Rattle.sets.proofs.Laws.{has-set_of, has-empty, set_of-ext, union-set_of, intersection-set_of, below-set_of, any-ext, any-never}
use Rattle.table.specs.Layout.{max_positions, bytes, first_at, follow_at, takers_at, opener_at, row_has}
use Rattle.table.specs.Gaps.{first_gaps, follow_gaps, inner_gaps, between, gap_of, first_gap}
use Rattle.table.specs.Automaton.{Automaton, automaton, starts}
use Rattle.table.proofs.GapBounds.{between-inner, gap_of-follow}
use Rattle.steps.specs.Step.{stepped}
use Rattle.steps.proofs.Bounds.{follow_rows}

-- ---- the live positions are asked one a turn

module _ (t : List ℕ) (rows : ℕ) (live : List ℕ) (from : ℕ → Bool) where
  -- a set, with the rows of the live positions below n
  abbrev pub reached : ℕ → List ℕ
  reached n = set_of (λ q. from q || any n (λ p. has live p && row_has t (rows + p * 4) q))

  module _ (n : ℕ) where
    more : (ℕ → Bool) → ℕ → Bool
    more row q = from q || (any n (λ p. has live p && row_has t (rows + p * 4) q) || row q)

    one_more : (b : Bool) → has live n ≡ b → set_of (more (λ q. b && row_has t (rows + n * 4) q)) ≡ reached (n + 1)
    unfolding more any
    one_more b e = ap (λ (x : Bool). set_of (more (λ q. x && row_has t (rows + n * 4) q))) (sym e) ∙ ap reached (sym (add-one n))

    pub reached-hit : has live n ≡ true → union_of (reached n) (set_of (row_has t (rows + n * 4))) ≡ reached (n + 1)
    unfolding more
    reached-hit e =
        union-set_of (λ q. from q || any n (λ p. has live p && row_has t (rows + p * 4) q)) (row_has t (rows + n * 4))
        ∙ set_of-ext (λ q. (from q || any n (λ p. has live p && row_has t (rows + p * 4) q)) || row_has t (rows + n * 4) q) (more (row_has t (rows + n * 4)))
        (λ q h. or_assoc (from q) (any n (λ p. has live p && row_has t (rows + p * 4) q)) (row_has t (rows + n * 4) q))
        ∙ one_more true e

    reached-miss : has live n ≡ false → reached n ≡ reached (n + 1)
    unfolding more
    reached-miss e =
        set_of-ext (λ q. from q || any n (λ p. has live p && row_has t (rows + p * 4) q)) (more (λ q. false))
        (λ q h. ap (λ (x : Bool). from q || x) (sym (or-false (any n (λ p. has live p && row_has t (rows + p * 4) q)))))
        ∙ one_more false e

  -- positions that are not live need not be asked
  reached-on : (n d : ℕ) → ((p : ℕ) → n ≤ p → p < n + d → has live p ≡ false) → reached n ≡ reached (n + d)
  reached-on n zero e = ap reached (sym (add-zero n))
  reached-on n (suc d) e =
      reached-on n d (λ p h l. e p h (omega arith)) ∙ reached-miss (n + d) (e (n + d) (omega arith) (omega arith))
      ∙ ap reached (add-one (n + d) ∙ sym (add-suc n d))

  pub reached-skip : (m n : ℕ) → m ≤ n → ((p : ℕ) → m ≤ p → p < n → has live p ≡ false) → reached m ≡ reached n
  reached-skip m n h e =
      let whole : m + (n - m) ≡ n = omega arith in
      reached-on m (n - m) (λ p g l. e p g (omega arith)) ∙ ap reached whole

-- ---- the step

module _ (t : List ℕ) where
  -- the row of the first positions after a gap, where a byte can be the first of a match
  pub first-row : (g x : ℕ) → g < first_gaps → (leb inner_gaps g || (automaton t).opens x) ≡ true → set_of (row_has t (first_at g)) ≡ set_of (starts (automaton t) g x)
  unfolding automaton
  first-row g x h e =
      set_of-ext (row_has t (first_at g)) (starts (automaton t) g x)
      (λ q l. sym (ap₂ (λ (b c : Bool). (b && row_has t (first_at g) q) && c) (lt-ltb g first_gaps h) e ∙ and-true (row_has t (first_at g) q)))

  -- and where it cannot
  pub first-none : (g x : ℕ) → (leb inner_gaps g || (automaton t).opens x) ≡ false → empty_set ≡ set_of (starts (automaton t) g x)
  unfolding empty_set
  first-none g x e =
      set_of-ext (λ q. false) (starts (automaton t) g x) (λ q l. sym (ap (λ (c : Bool). (automaton t).first g q && c) e ∙ and-false ((automaton t).first g q)))

  -- a byte that a match can begin with
  pub opens-word : (x : ℕ) → x < bytes → not (eqb (get_or t (opener_at x) 0) 0) ≡ (automaton t).opens x
  unfolding automaton
  opens-word x h = ap (λ (b : Bool). b && not (eqb (get_or t (opener_at x) 0) 0)) (sym (lt-ltb x bytes h))

  -- a byte's row
  pub takers-row : (x : ℕ) → x < bytes → set_of (row_has t (takers_at x)) ≡ set_of ((automaton t).takes x)
  unfolding automaton
  takers-row x h = ap (λ (b : Bool). set_of (λ q. b && row_has t (takers_at x) q)) (sym (lt-ltb x bytes h))

  -- the row of a position
  pub follow-row : (g p q : ℕ) → g < follow_gaps → p < max_positions → row_has t (follow_at g p) q ≡ (automaton t).follow g p q
  unfolding automaton
  follow-row g p q h l = ap₂ (λ (b c : Bool). b && (c && row_has t (follow_at g p) q)) (sym (lt-ltb g follow_gaps h)) (sym (lt-ltb p max_positions l))

module _ (t : List ℕ) (line : Bool) (before after : Side) (live : List ℕ) (taken : ℕ) where
  abbrev gap : ℕ
  gap = gap_of line before after

  abbrev begins : ℕ → ℕ → Bool
  begins x = starts (automaton t) (first_gap line taken before after) x

  -- from the set of the first positions
  pub reached-starts : (first : List ℕ) (rows x : ℕ) → first ≡ set_of (starts (automaton t) (first_gap line taken before after) x) → rows ≡ follow_rows (gap_of line before after)
      → reached t rows live (has first) max_positions ≡ set_of (λ q. begins x q || any max_positions (λ p. has live p && (automaton t).follow gap p q))
  reached-starts first rows x ef er =
      ap₂ (λ (s : List ℕ) (n : ℕ). reached t n live (has s) max_positions) ef er
      ∙ set_of-ext (λ q. has (set_of (begins x)) q || any max_positions (λ p. has live p && row_has t (follow_rows gap + p * 4) q))
      (λ q. begins x q || any max_positions (λ p. has live p && (automaton t).follow gap p q))
      (λ q h. ap₂ (λ (b c : Bool). b || c) (has-set_of (begins x) q h) (follows q))
    where
      follows : (q : ℕ) → any max_positions (λ p. has live p && row_has t (follow_rows gap + p * 4) q) ≡ any max_positions (λ p. has live p && (automaton t).follow gap p q)
      follows q =
          any-ext max_positions (λ p. has live p && row_has t (follow_rows gap + p * 4) q) (λ p. has live p && (automaton t).follow gap p q)
          (λ p l. ap (λ (b : Bool). has live p && b) (follow-row t gap p q (gap_of-follow line before after) l))

  -- met with the byte's row
  pub met-words : (first : List ℕ) (rows x : ℕ) → first ≡ set_of (starts (automaton t) (first_gap line taken before after) x) → rows ≡ follow_rows (gap_of line before after)
      → intersection_of (reached t rows live (has first) max_positions) (set_of ((automaton t).takes x)) ≡ stepped (automaton t) line before after max_positions live taken x
  unfolding stepped
  met-words first rows x ef er =
      ap (λ (s : List ℕ). intersection_of s (set_of takes)) (reached-starts first rows x ef er)
      ∙ intersection-set_of from takes
      ∙ set_of-ext (λ q. from q && takes q) (λ q. ltb q max_positions && (takes q && from q))
      (λ q l. and_comm (from q) (takes q) ∙ sym (ap (λ (b : Bool). b && (takes q && from q)) (lt-ltb q max_positions l)))
    where
      from : ℕ → Bool
      from q = begins x q || any max_positions (λ p. has live p && (automaton t).follow gap p q)

      takes : ℕ → Bool
      takes q = (automaton t).takes x q

-- ---- the positions that there are

-- of the positions that a byte steps to, those below a number
module _ (w : Automaton) (line : Bool) (before after : Side) (n : ℕ) (live : List ℕ) (taken x : ℕ) where
  abbrev goes : ℕ → Bool
  goes q = w.takes x q && (starts w (first_gap line taken before after) x q || any max_positions (λ p. has live p && w.follow (gap_of line before after) p q))

  inside : (q : ℕ) → q < max_positions → ((ltb q max_positions && goes q) && ltb q n) ≡ (ltb q n && goes q)
  inside q l = ap (λ (b : Bool). (b && goes q) && ltb q n) (lt-ltb q max_positions l) ∙ and_comm (goes q) (ltb q n)

  pub stepped-below : kept_below (stepped w line before after max_positions live taken x) n ≡ stepped w line before after n live taken x
  unfolding stepped
  stepped-below = below-set_of (λ q. ltb q max_positions && goes q) n ∙ set_of-ext (λ q. (ltb q max_positions && goes q) && ltb q n) (λ q. ltb q n && goes q) inside

  -- by the set of them, as a scan has it
  pub stepped-among : intersection_of (stepped w line before after max_positions live taken x) (kept_below full_set n) ≡ stepped w line before after n live taken x
  unfolding stepped full_set
  stepped-among =
      ap (intersection_of (set_of (λ q. ltb q max_positions && goes q))) (below-set_of (λ q. true) n)
      ∙ intersection-set_of (λ q. ltb q max_positions && goes q) (λ q. ltb q n)
      ∙ set_of-ext (λ q. (ltb q max_positions && goes q) && ltb q n) (λ q. ltb q n && goes q) inside

-- ---- a byte that starts nothing

-- inside the stream, an empty live set stays empty where no match can begin with the byte
pub next-quiet : (w : Automaton) (before after : Side) (n taken x : ℕ) → 0 < taken → w.opens x ≡ false → stepped w false before after n empty_set taken x ≡ empty_set
unfolding stepped empty_set gap_of first_gap
next-quiet w before after n taken x h e =
    set_of-ext (λ q. ltb q n && (w.takes x q && (starts w (first_gap false taken before after) x q || any max_positions (follows q)))) (λ q. false)
    (λ q m.
    ap₂ (λ (b c : Bool). ltb q n && (w.takes x q && (b || c))) (none_first q) (any-never max_positions (follows q) (none q))
    ∙ ap (λ (b : Bool). ltb q n && b) (and-false (w.takes x q)) ∙ and-false (ltb q n))
  where
    gap : ℕ
    gap = between before after

    later : first_gap false taken before after ≡ gap
    later = ap (λ (b : Bool). cond b (first_gap false 0 before after) (between before after)) (ne_eqb taken 0 (λ z. omega arith))

    follows : ℕ → ℕ → Bool
    follows q p = has empty_set p && w.follow (gap_of false before after) p q

    none : (q p : ℕ) → p < max_positions → follows q p ≡ false
    none q p h = ap (λ (b : Bool). b && w.follow (gap_of false before after) p q) (has-empty p h)

    none_first : (q : ℕ) → starts w (first_gap false taken before after) x q ≡ false
    none_first q =
        ap (λ (g : ℕ). w.first g q && (leb inner_gaps g || w.opens x)) later
        ∙ ap₂ (λ (b c : Bool). w.first gap q && (b || c)) (lt-leb inner_gaps gap (between-inner before after)) e
        ∙ and-false (w.first gap q)
