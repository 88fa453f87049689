-- The state after some bytes says what the rules' meaning says: a position is live exactly if some
-- way has just taken it, live or held exactly if some way has, were the stream to end here; a
-- single-match rule is marked exactly if a pair of it has fallen, and a rule has a held pair
-- exactly if a match of it ends before the last byte, were the last line to end there, and not
-- otherwise. By one byte more, with the automaton's step. So the tests of the two runs of a byte
-- and of the closing say which pairs fall. Assumes nothing.
use mathlib.Core.Path.{◌≡◌, refl, sym, subst, subst₂, ap, ap₂, ◌∙◌, fun_ext}
use mathlib.Core.Logic.{◌⊎◌, inl, inr, ◌↔◌}
use mathlib.Core.Bool.{Bool, true, false, cond, not, ◌&&◌, ◌||◌}
use mathlib.Core.List.{List, [], ◌∷◌, ◌++◌}
use Prim.Native.Nat.{ℕ, zero, suc, ◌+◌, ◌-◌, ◌^◌, ◌≤◌, ◌<◌}
use native.Mathlib.Nat.{lt_trans}
use native.Mathlib.Omega.{arith}
use native.Mathlib.Decide.{dec_lt}
use lib.Dec.{T, T_not, not_T, eqb, ltb, lit<, lt→ltb, ltb→lt}
use lib.ListN.{length, get_or, take}
use lib.Seq.{take-suc, take_all, length-take-le}
use borrow.Author.Tests.{eq-eqb, ne_eqb, eqb-true}
use Rattle.sets.specs.Set.{on, has, any, empty_set, union_of}
use Rattle.sets.proofs.Laws.{has-set_of, has-empty, has-union, any_at, any_some, on-zero}
use Rattle.sets.proofs.Bits.{on-word_of}
use Rattle.kinds.specs.declared.Side.TheVariants.{Newline}
use Rattle.kinds.specs.Side.{side_of}
use Rattle.table.specs.Layout.{max_positions}
use Rattle.table.specs.Gaps.{between, before_last, unsettled, at_the_end, at_the_start, start_of_last, gap_of, first_gap, last_gaps}
use Rattle.table.specs.Automaton.{Automaton, last as last_in, starts as starts_in}
use Rattle.table.proofs.GapBounds.{between-inner, before_last-follow, at_end-last, gap_of-follow, first_gap-first}
use Rattle.steps.specs.Step.{stepped, ends, ends_newly, late_in, rules_where, windowed as windowed_in}
use Rattle.steps.proofs.Late.{late-newly}
use Rattle.stream.specs.declared.Stream.{Stream}
use Rattle.stream.specs.Byte.{after, next_live, next_held, next_pending, state_by, late_test, own_test, held_test, end_test, byte_state, state_after}
use Rattle.meaning.specs.Tree.{Text}
use Rattle.meaning.specs.Form.{Form, Reach}
use Rattle.meaning.specs.Live.{Reached}
use Rattle.meaning.specs.Gap.{last_line, Known, byte, edge, unknown, known_before, known_after}
use Rattle.meaning.specs.Rule.{Rule, ByteSet, Assertion, world, holds, stream}
use Rattle.meaning.specs.Ordered.{closing_moment, Falls}
use Rattle.meaning.proofs.Relations.{First, Last, Follow}
use Rattle.meaning.proofs.Logic.{and_T, or-T, true-T}
use Rattle.meaning.proofs.Range.{last-inside, follow-inside}
use Rattle.meaning.proofs.Local.{reach-up}
use Rattle.meaning.proofs.Stream.{Same}
use Rattle.meaning.proofs.Base.{open-same, same, base-next, reach-ended}
use Rattle.meaning.proofs.Offsets.{AtOffset, unbounded, falls-apart}
use Rattle.meaning.proofs.Moments.{EndsAt, EndsLast, falls-own, falls-late, falls-end}
use Rattle.rules.proofs.Encodes.{world_at}
use Rattle.rules.proofs.Worlds.{world-between, world-before-last, world-unsettled, world-at-end, world-at-start, world-start-of-last}
use Rattle.demands.proofs.Carried.{Carries, Within, form_of, by-set}
use Rattle.demands.proofs.TwoRuns.{Marked, Tested, marks-next}
use Rattle.demands.proofs.Endings.{newline-side, Ending, ends-from, last-from, Late, late-falls, only-byte, only-closing, none_at_zero}

pub any-T : (n : ℕ) (f : ℕ → Bool) → T (any n f) ↔ ((k : ℕ) × (k < n) × T (f k))
any-T n f = (
  λ h. let r = any_some n f (true-T (any n f) h) in (r.0, r.1, subst T (sym r.2) tt),
  λ h. subst T (sym (any_at n f h.0 h.1 (true-T (f h.0) h.2))) tt,
)

pub both : {A B C : Type 0} → A ↔ B → B ↔ C → A ↔ C
both f g = (λ a. g.0 (f.0 a), λ c. f.1 (g.1 c))

back : {A B : Type 0} → A ↔ B → B ↔ A
back f = (f.1, f.0)

-- one test and not the other
newly : {A B : Type 0} (b c : Bool) → T b ↔ A → T c ↔ B → T (b && not c) ↔ (A × (¬ B))
newly b c f g = (
  λ h. let x = (and_T b (not c)).0 h in (f.0 x.0, λ y. T_not c x.1 (g.1 y)),
  λ h. (and_T b (not c)).1 (f.1 h.0, not_T c (λ t. h.1 (g.0 t))),
)

-- the last of some bytes is what stands before the next gap
before-next : (l : List ℕ) (x : ℕ) → known_before (l ++ x ∷ []) ≡ byte (side_of x)
unfolding known_before
before-next [] x = refl
before-next (y ∷ []) x = refl
before-next (y ∷ z ∷ l) x = before-next (z ∷ l) x

module _ (w : Automaton) (rule : ℕ → Rule) (from : ℕ → ℕ) (tab : ℕ → ByteSet) (enc : Carries w rule from tab) (bytes : List ℕ) (short : length bytes < 2 ^ 64) where
  -- a rule without its window of end offsets: held and live sets never see windows
  abbrev pub free : ℕ → Rule
  free a = unbounded (rule a)

  -- the smallest length of its matches
  abbrev pub least : ℕ → ℕ
  least a = (rule a).windows.smallest_length

  -- a way from a start that is early enough has just taken a position
  abbrev pub LongReached : (a : ℕ) → Text ByteSet Assertion → (q k : ℕ) → Type 0
  LongReached a t q k = (s : ℕ) × Reach t (form_of (rule a)) (from a) s q k × (s + least a ≤ k)

  -- what the state after the first k bytes says of positions ..
  pub record Alive (k : ℕ) (s : Stream) : Type 0 where
    pub taken : s.taken ≡ k
    pub last : 0 < k → known_before (take k bytes) ≡ byte s.last
    pub inside : (q : ℕ) → q < max_positions → T (has s.live q) → q < w.positions
    pub live : (a : ℕ) → a < w.rules → (q : ℕ) → Within (from a) (rule a) q
        → T (has s.live q) ↔ Reached (stream (take k bytes) false) (form_of (rule a)) (from a) q k

  -- .. of what waits for the stream's end ..
  pub record Waits (k : ℕ) (s : Stream) : Type 0 where
    pub inside : (q : ℕ) → q < max_positions → T (has (union_of s.live s.held) q) → q < w.positions
    pub held : (a : ℕ) → a < w.rules → (q : ℕ) → Within (from a) (rule a) q
        → T (has (union_of s.live s.held) q) ↔ Reached (stream (take k bytes) true) (form_of (rule a)) (from a) q k
    pub held_inside : (q : ℕ) → q < max_positions → T (has s.held q) → q < w.positions
    pub held_alone : (a : ℕ) → a < w.rules → (q : ℕ) → Within (from a) (rule a) q
        → T (has s.held q) ↔ ((e : ℕ) × (k ≡ suc e) × (get_or bytes e 0 ≡ 10) × Reached (stream (take k bytes) true) (form_of (rule a)) (from a) q k)

  -- .. of held pairs, and of marks: those of the next moment
  pub record Tracked (k : ℕ) (s : Stream) : Type 0 where
    pub alive : Alive k s
    pub waits : Waits k s
    pub pending : (a : ℕ) → a < w.rules → T (on s.pending a) ↔ Late bytes (free a) k
    pub marks : (a : ℕ) → a < w.rules → T (on s.reported a) ↔ Marked bytes (rule a) (suc k)

  -- What is asked of a state is asked of a stream in which those positions stand that a way from a
  -- start that is early enough has just taken; and at the stream's end, those that one has taken then.
  pub record Counts (k : ℕ) (u : Stream) : Type 0 where
    pub taken : u.taken ≡ k
    pub last : 0 < k → known_before (take k bytes) ≡ byte u.last
    pub inside : (q : ℕ) → q < max_positions → T (has u.live q) → q < w.positions
    pub live : (a : ℕ) → a < w.rules → (q : ℕ) → Within (from a) (rule a) q → T (has u.live q) ↔ LongReached a (stream (take k bytes) false) q k

  pub record CountsAtEnd (k : ℕ) (u : Stream) : Type 0 where
    pub inside : (q : ℕ) → q < max_positions → T (has (union_of u.live u.held) q) → q < w.positions
    pub held : (a : ℕ) → a < w.rules → (q : ℕ) → Within (from a) (rule a) q
        → T (has (union_of u.live u.held) q) ↔ LongReached a (stream (take k bytes) true) q k

  -- ---- some live position is last

  -- a test on positions that are just reached, in some way, is a match that ends here
  module _ (a : ℕ) (lt : a < w.rules) (set : List ℕ) (k : ℕ) (inside : (q : ℕ) → q < max_positions → T (has set q) → q < w.positions)
      (R : ℕ → Type 0) (reached : (q : ℕ) → Within (from a) (rule a) q → T (has set q) ↔ R q) (some : (q : ℕ) → R q → 0 < k)
      (g : ℕ) (there : g < last_gaps) (v : Assertion → Bool) (at_g : 0 < k → world_at g ≡ v) where
    -- at one position; a way has taken a byte, so there is one before the gap
    last-with : (p : ℕ) → p < max_positions → T (has set p && last_in w g a p) ↔ (R p × Last v (form_of (rule a)) (from a) p)
    last-with p lp = (
      λ h.
          let d = (and_T (has set p) (last_in w g a p)).0 h in
          let e = (enc.last_is g a p there lt (inside p lp d.0)).0 d.1 in
          let l = (reached p (last-inside (world_at g) (form_of (rule a)) (from a) p e)).0 d.0 in
          (l, subst (λ (u : Assertion → Bool). Last u (form_of (rule a)) (from a) p) (at_g (some p l)) e),
      λ h.
          let e : Last (world_at g) (form_of (rule a)) (from a) p = subst (λ (u : Assertion → Bool). Last u (form_of (rule a)) (from a) p) (sym (at_g (some p h.0))) h.1 in
          let i = last-inside (world_at g) (form_of (rule a)) (from a) p e in
          (and_T (has set p) (last_in w g a p)).1 ((reached p i).1 h.0, (enc.last_is g a p there lt (omega (arith, i.1, enc.inside a lt))).1 e),
    )

  module _ (a : ℕ) (lt : a < w.rules) (set : List ℕ) (t : Text ByteSet Assertion) (k : ℕ) (inside : (q : ℕ) → q < max_positions → T (has set q) → q < w.positions)
      (g : ℕ) (there : g < last_gaps) (v : Assertion → Bool) (at_g : 0 < k → world_at g ≡ v) where
    pub last-at : ((q : ℕ) → Within (from a) (rule a) q → T (has set q) ↔ Reached t (form_of (rule a)) (from a) q k)
        → (p : ℕ) → p < max_positions → T (has set p && last_in w g a p) ↔ (Reached t (form_of (rule a)) (from a) p k × Last v (form_of (rule a)) (from a) p)
    last-at reached =
        last-with a lt set k inside (λ q. Reached t (form_of (rule a)) (from a) q k) reached
        (λ q r. omega (arith, reach-up t (form_of (rule a)) (from a) r.0 q k r.1)) g there v at_g

    by_last : ((q : ℕ) → Within (from a) (rule a) q → T (has set q) ↔ LongReached a t q k) → T (ends w g set a) ↔ Ending bytes (rule a) v t (from a) k
    unfolding ends
    by_last reached =
        let at = last-with a lt set k inside (λ q. LongReached a t q k) reached
        (λ q r. omega (arith, reach-up t (form_of (rule a)) (from a) r.0 q k r.1)) g there v at_g in (
          λ h.
              let c = (any-T max_positions (λ p. has set p && last_in w g a p)).0 h in
              let d = (at c.0 c.1).0 c.2 in
              (d.0.0, c.0, d.0.1, d.1, d.0.2),
          λ h.
              let i = last-inside v (form_of (rule a)) (from a) h.1 h.3 in
              let lp : h.1 < max_positions = omega (arith, i.1, enc.inside a lt, enc.few_positions) in
              (any-T max_positions (λ p. has set p && last_in w g a p)).1 (h.1, lp, (at h.1 lp).1 ((h.0, h.2, h.4), h.3)),
        )

  module _ (k : ℕ) (le : k ≤ length bytes) (s : Stream) (track : Counts k s) (a : ℕ) (lt : a < w.rules) where
    live-ends : (g : ℕ) → g < last_gaps → (rest : List ℕ) (e : Bool) → Same has holds (take k bytes) rest false e
        → ((x : Assertion) → world_at g x ≡ world (byte s.last) (known_after rest e) (e && last_line rest) x)
        → T (ends w g s.live a) ↔ EndsAt bytes (free a) k (known_after rest e) (e && last_line rest)
    live-ends g there rest e stays at_g =
        both (by_last a lt s.live (stream (take k bytes) false) k track.inside g there
        (world (known_before (take k bytes)) (known_after rest e) (e && last_line rest))
        (λ some. fun_ext at_g ∙ ap (λ (u : Known). world u (known_after rest e) (e && last_line rest)) (sym (track.last some))) (track.live a lt))
        (back (ends-from bytes (rule a) short k le rest e stays (from a)))

    -- whatever follows, where byte x follows, and where the last line ends
    pub ends_is : T (ends w unsettled s.live a) ↔ EndsAt bytes (free a) k unknown false
    ends_is = live-ends unsettled (lit< tt) [] false (open-same (take k bytes) []) (world-unsettled s.last)

    ends-next-is : (x : ℕ) → T (ends w (between s.last (side_of x)) s.live a) ↔ EndsAt bytes (free a) k (byte (side_of x)) false
    ends-next-is x =
        live-ends (between s.last (side_of x)) (lt_trans (between-inner s.last (side_of x)) (lit< tt)) (x ∷ []) false (open-same (take k bytes) (x ∷ []))
        (world-between s.last (side_of x))

    ends-line-is : T (ends w (before_last s.last) s.live a) ↔ EndsAt bytes (free a) k (byte Newline) true
    unfolding side_of
    ends-line-is =
        live-ends (before_last s.last) (lt_trans (before_last-follow s.last) (lit< tt)) (10 ∷ []) true (same (take k bytes) 10 [] true) (world-before-last s.last)

  ends-at-end-is : (s : Stream) → Counts (length bytes) s → CountsAtEnd (length bytes) s → (a : ℕ) → a < w.rules
      → T (ends w (at_the_end s.last) (union_of s.live s.held) a) ↔ EndsLast bytes (free a)
  ends-at-end-is s track waits a lt =
      let n : ℕ = length bytes in
      let whole : take n bytes ≡ bytes = take_all n bytes (omega arith) in
      both (by_last a lt (union_of s.live s.held) (stream bytes true) n waits.inside
      (at_the_end s.last) (at_end-last s.last) (world (known_before bytes) edge true)
      (λ some. fun_ext (world-at-end s.last) ∙ ap (λ (u : Known). world u edge true) (sym (track.last some) ∙ ap known_before whole))
      (λ q i. subst (λ (l : List ℕ). T (has (union_of s.live s.held) q) ↔ LongReached a (stream l true) q n) whole (waits.held a lt q i)))
      (back (last-from bytes (rule a) short (from a)))

  -- ---- one byte more

  module _ (k : ℕ) (lk : k < length bytes) (small : get_or bytes k 0 < 256) (s : Stream) (track : Alive k s) where
    abbrev x : ℕ
    x = get_or bytes k 0

    -- the gap before the byte, by number, inside the stream and anywhere; and its world
    abbrev inner : Bool → ℕ
    inner line = gap_of line s.last (side_of x)

    abbrev outer : Bool → ℕ
    outer line = first_gap line s.taken s.last (side_of x)

    abbrev here : Bool → Assertion → Bool
    here line = world (known_before (take k bytes)) (byte (side_of x)) line

    inner-is : (line : Bool) → (T line → x ≡ 10) → 0 < k → world_at (inner line) ≡ here line
    unfolding gap_of
    inner-is true newline some =
        fun_ext (world-before-last s.last) ∙ ap₂ (λ (b t : Known). world b t true) (sym (track.last some)) (ap byte (sym (newline-side x (newline tt))))
    inner-is false newline some = fun_ext (world-between s.last (side_of x)) ∙ ap (λ (b : Known). world b (byte (side_of x)) false) (sym (track.last some))

    outer-is : (line : Bool) → (T line → x ≡ 10) → world_at (outer line) ≡ here line
    unfolding first_gap known_before
    outer-is line newline = go (dec_lt 0 k)
      where
        at_start : (line : Bool) → (T line → x ≡ 10) → world_at (cond line start_of_last (at_the_start (side_of x))) ≡ world edge (byte (side_of x)) line
        at_start true newline = fun_ext world-start-of-last ∙ ap (λ (t : Known). world edge t true) (ap byte (sym (newline-side x (newline tt))))
        at_start false newline = fun_ext (world-at-start (side_of x))

        go : Dec (0 < k) → world_at (outer line) ≡ here line
        go (yes some) =
            ap (λ (b : Bool). world_at (cond b (cond line start_of_last (at_the_start (side_of x))) (inner line))) (ne_eqb s.taken 0 (λ e. omega (arith, track.taken, e)))
            ∙ inner-is line newline some
        go (no none) =
            let zero-bytes : k ≡ 0 = omega arith in
            ap (λ (b : Bool). world_at (cond b (cond line start_of_last (at_the_start (side_of x))) (inner line))) (eq-eqb s.taken 0 (track.taken ∙ zero-bytes))
            ∙ at_start line newline ∙ ap (λ (i : ℕ). world (known_before (take i bytes)) (byte (side_of x)) line) (sym zero-bytes)

    -- the positions that the byte steps to, where the last line may end before it
    abbrev reached_in : Bool → List ℕ
    reached_in line = stepped w line s.last (side_of x) w.positions s.live s.taken x

    abbrev comes : Bool → ℕ → ℕ → Bool
    comes line q p = has s.live p && w.follow (inner line) p q

    abbrev steps : Bool → ℕ → Bool
    steps line q = ltb q w.positions && (w.takes x q && (starts_in w (outer line) x q || any max_positions (comes line q)))

    member : (line : Bool) (q : ℕ) → q < max_positions → has (reached_in line) q ≡ steps line q
    unfolding stepped
    member line q lq = has-set_of (steps line) q lq

    -- the positions that q comes from: reached before, and followed by q at the gap
    pub comes-is : (ended : Bool) (a : ℕ) → a < w.rules → (q : ℕ) → Within (from a) (rule a) q → (p : ℕ)
        → T (has s.live p && w.follow (gap_of (ended && eqb x 10) s.last (side_of x)) p q)
        ↔ (Reached (stream (take k bytes) false) (form_of (rule a)) (from a) p k
        × Follow (world (known_before (take k bytes)) (byte (side_of x)) (ended && eqb x 10)) (form_of (rule a)) (from a) p q)
    comes-is ended a lt q i p =
        let f : Form ByteSet Assertion = form_of (rule a) in
        let line : Bool = ended && eqb x 10 in
        let newline : T line → x ≡ 10 = λ h. eqb-true x 10 (true-T (eqb x 10) ((and_T ended (eqb x 10)).0 h).1) in
        let follows = enc.follow_is (inner line) a p q (gap_of-follow line s.last (side_of x)) lt i in
        let some : Reached (stream (take k bytes) false) f (from a) p k → 0 < k = λ h. omega (arith, reach-up (stream (take k bytes) false) f (from a) h.0 p k h.1) in (
          λ h.
              let d = (and_T (has s.live p) (w.follow (inner line) p q)).0 h in
              let fo = follows.0 d.1 in
              let r = (track.live a lt p (follow-inside (world_at (inner line)) f (from a) p q fo)).0 d.0 in
              (r, subst (λ (v : Assertion → Bool). Follow v f (from a) p q) (inner-is line newline (some r)) fo),
          λ h.
              let fo : Follow (world_at (inner line)) f (from a) p q = subst (λ (v : Assertion → Bool). Follow v f (from a) p q) (sym (inner-is line newline (some h.0))) h.1 in
              (and_T (has s.live p) (w.follow (inner line) p q)).1 ((track.live a lt p (follow-inside (world_at (inner line)) f (from a) p q fo)).1 h.0, follows.1 fo),
        )

    -- a byte steps to a position exactly if a way reaches it, were the stream to end there or not
    steps-to : (ended : Bool) (a : ℕ) → a < w.rules → (q : ℕ) → Within (from a) (rule a) q
        → T (has (reached_in (ended && eqb x 10)) q) ↔ Reached (stream (take (suc k) bytes) ended) (form_of (rule a)) (from a) q (suc k)
    steps-to ended a lt q i =
        let f : Form ByteSet Assertion = form_of (rule a) in
        let b : ℕ = from a in
        let line : Bool = ended && eqb x 10 in
        let newline : T line → x ≡ 10 = λ h. eqb-true x 10 (true-T (eqb x 10) ((and_T ended (eqb x 10)).0 h).1) in
        let inside : q < w.positions = omega (arith, i.1, enc.inside a lt) in
        let is : has (reached_in line) q ≡ steps line q = member line q (omega (arith, enc.few_positions)) in
        let starts : T (w.takes x q) → T (starts_in w (outer line) x q) ↔ First (here line) f b q =
        λ takes. subst (λ (v : Assertion → Bool). T (starts_in w (outer line) x q) ↔ First v f b q) (outer-is line newline)
        (enc.first_is (outer line) a x q (first_gap-first line s.taken s.last (side_of x)) lt small i takes) in
        let follows : (p : ℕ) → T (w.follow (inner line) p q) ↔ Follow (world_at (inner line)) f b p q =
        λ p. enc.follow_is (inner line) a p q (gap_of-follow line s.last (side_of x)) lt i in
        let step = base-next tab f b (enc.takes a lt) (take k bytes) x ended q in
        let len : length (take k bytes) ≡ k = length-take-le k bytes (omega arith) in
        let more : take (suc k) bytes ≡ take k bytes ++ x ∷ [] = take-suc bytes k 0 lk in
        let to : Reached (stream (take k bytes ++ x ∷ []) ended) f b q (suc (length (take k bytes))) → Reached (stream (take (suc k) bytes) ended) f b q (suc k) =
        λ h. subst₂ (λ (l : List ℕ) (n : ℕ). Reached (stream l ended) f b q (suc n)) (sym more) len h in
        let of : Reached (stream (take (suc k) bytes) ended) f b q (suc k) → Reached (stream (take k bytes ++ x ∷ []) ended) f b q (suc (length (take k bytes))) =
        λ h. subst₂ (λ (l : List ℕ) (n : ℕ). Reached (stream l ended) f b q (suc n)) more (sym len) h in
        let some : (p : ℕ) → Reached (stream (take k bytes) false) f b p k → 0 < k = λ p h. omega (arith, reach-up (stream (take k bytes) false) f b h.0 p k h.1) in (
          λ h.
              let g = (and_T (ltb q w.positions) (w.takes x q && (starts_in w (outer line) x q || any max_positions (comes line q)))).0 (subst T is h) in
              let c = (and_T (w.takes x q) (starts_in w (outer line) x q || any max_positions (comes line q))).0 g.1 in
              to (step.1 (
                (enc.takes_is q x inside small).0 c.0,
                elim ((or-T (starts_in w (outer line) x q) (any max_positions (comes line q))).0 c.1) [
                  | inl y ↦ inl ((starts c.0).0 y)
                  | inr y ↦
                      let p = (any-T max_positions (comes line q)).0 y in
                      let d = (and_T (has s.live p.0) (w.follow (inner line) p.0 q)).0 p.2 in
                      let fo = (follows p.0).0 d.1 in
                      let reached = (track.live a lt p.0 (follow-inside (world_at (inner line)) f b p.0 q fo)).0 d.0 in
                      inr (
                        p.0,
                        subst (λ (n : ℕ). Reached (stream (take k bytes) false) f b p.0 n) (sym len) reached,
                        subst (λ (v : Assertion → Bool). Follow v f b p.0 q) (inner-is line newline (some p.0 reached)) fo,
                      )
                ],
              )),
          λ h.
              let g = step.0 (of h) in
              let came : T (starts_in w (outer line) x q || any max_positions (comes line q)) = (or-T (starts_in w (outer line) x q) (any max_positions (comes line q))).1 (elim g.1 [
                | inl y ↦ inl ((starts ((enc.takes_is q x inside small).1 g.0)).1 y)
                | inr y ↦
                    let reached : Reached (stream (take k bytes) false) f b y.0 k = subst (λ (n : ℕ). Reached (stream (take k bytes) false) f b y.0 n) len y.1 in
                    let fo : Follow (world_at (inner line)) f b y.0 q = subst (λ (v : Assertion → Bool). Follow v f b y.0 q) (sym (inner-is line newline (some y.0 reached))) y.2 in
                    let j = follow-inside (world_at (inner line)) f b y.0 q fo in
                    inr ((any-T max_positions (comes line q)).1 (
                      y.0,
                      omega (arith, j.1, enc.inside a lt, enc.few_positions),
                      (and_T (has s.live y.0) (w.follow (inner line) y.0 q)).1 ((track.live a lt y.0 j).1 reached, (follows y.0).1 fo),
                    ))
              ]) in
              let taking : T (w.takes x q && (starts_in w (outer line) x q || any max_positions (comes line q))) =
              (and_T (w.takes x q) (starts_in w (outer line) x q || any max_positions (comes line q))).1 ((enc.takes_is q x inside small).1 g.0, came) in
              subst T (sym is)
              ((and_T (ltb q w.positions) (w.takes x q && (starts_in w (outer line) x q || any max_positions (comes line q)))).1 (lt→ltb q w.positions inside, taking)),
        )

    step-inside : (line : Bool) (q : ℕ) → q < max_positions → T (has (reached_in line) q) → q < w.positions
    step-inside line q lq h =
        ltb→lt q w.positions
        ((and_T (ltb q w.positions) (w.takes x q && (starts_in w (outer line) x q || any max_positions (comes line q)))).0 (subst T (member line q lq) h)).0

    pub goes_on : (late own : ℕ → Bool) (pending : ℕ) → Alive (suc k) (state_by w late own pending s x)
    goes_on late own pending = record {
      taken = ap suc track.taken;
      last = λ some. ap known_before (take-suc bytes k 0 lk) ∙ before-next (take k bytes) x;
      inside = step-inside false;
      live = steps-to false;
    }

    -- a held position was stepped to over a last line's end
    held_is : (q : ℕ) → q < max_positions → T (has (next_held w s x) q) ↔ (T (eqb x 10) × T (has (reached_in true) q))
    unfolding next_held
    held_is q lq = go (eqb x 10)
      where
        go : (b : Bool) → T (has (cond b (reached_in true) empty_set) q) ↔ (T b × T (has (reached_in true) q))
        go true = (λ h. (tt, h), λ h. h.1)
        go false = (λ h. absurd (subst T (has-empty q lq) h), λ h. absurd h.0)

    union-inside : (q : ℕ) → q < max_positions → T (has (union_of (next_live w s x) (next_held w s x)) q) → q < w.positions
    union-inside q lq h = elim ((or-T (has (next_live w s x) q) (has (next_held w s x) q)).0 (subst T (has-union (next_live w s x) (next_held w s x) q lq) h)) [
      | inl y ↦ step-inside false q lq y
      | inr y ↦ step-inside true q lq ((held_is q lq).0 y).1
    ]

    union-is : (a : ℕ) → a < w.rules → (q : ℕ) → Within (from a) (rule a) q
        → T (has (union_of (next_live w s x) (next_held w s x)) q) ↔ Reached (stream (take (suc k) bytes) true) (form_of (rule a)) (from a) q (suc k)
    union-is a lt q i =
        let lq : q < max_positions = omega (arith, i.1, enc.inside a lt, enc.few_positions) in
        let either = has-union (next_live w s x) (next_held w s x) q lq in (
          λ h. elim ((or-T (has (next_live w s x) q) (has (next_held w s x) q)).0 (subst T either h)) [
            | inl y ↦ (let g = (steps-to false a lt q i).0 y in (g.0, known g.0 g.1))
            | inr y ↦
                let g = (held_is q lq).0 y in
                (steps-to true a lt q i).0 (subst (λ (b : Bool). T (has (reached_in b) q)) (sym (true-T (eqb x 10) g.0)) g.1)
          ],
          λ h. subst T (sym either) ((or-T (has (next_live w s x) q) (has (next_held w s x) q)).1 (go (eqb x 10) refl ((steps-to true a lt q i).1 h))),
        )
      where
        len : length (take (suc k) bytes) ≡ suc k
        len = length-take-le (suc k) bytes lk

        known : (y : ℕ) → Reach (stream (take (suc k) bytes) false) (form_of (rule a)) (from a) y q (suc k) → Reach (stream (take (suc k) bytes) true) (form_of (rule a)) (from a) y q (suc k)
        known y h =
            subst (λ (n : ℕ). Reach (stream (take (suc k) bytes) true) (form_of (rule a)) (from a) y q n) len
            (reach-ended (form_of (rule a)) (from a) (take (suc k) bytes) y q
            (subst (λ (n : ℕ). Reach (stream (take (suc k) bytes) false) (form_of (rule a)) (from a) y q n) (sym len) h))

        go : (b : Bool) → eqb x 10 ≡ b → T (has (reached_in b) q) → T (has (next_live w s x) q) ⊎ T (has (next_held w s x) q)
        go true e h = inr ((held_is q (omega (arith, i.1, enc.inside a lt, enc.few_positions))).1 (subst T (sym e) tt, h))
        go false e h = inl h

    pub goes-waiting : (late own : ℕ → Bool) (pending : ℕ) → Waits (suc k) (state_by w late own pending s x)
    goes-waiting late own pending = record { inside = union-inside; held = union-is; held_inside = λ q lq h. step-inside true q lq ((held_is q lq).0 h).1; held_alone = alone }
      where
        alone : (a : ℕ) → a < w.rules → (q : ℕ) → Within (from a) (rule a) q
            → T (has (next_held w s x) q) ↔ ((e : ℕ) × (suc k ≡ suc e) × (get_or bytes e 0 ≡ 10) × Reached (stream (take (suc k) bytes) true) (form_of (rule a)) (from a) q (suc k))
        alone a lt q i =
            let lq : q < max_positions = omega (arith, i.1, enc.inside a lt, enc.few_positions) in (
              λ h.
                  let g = (held_is q lq).0 h in
                  let newline : eqb x 10 ≡ true = true-T (eqb x 10) g.0 in
                  (k, refl, eqb-true x 10 newline, (steps-to true a lt q i).0 (subst (λ (b : Bool). T (has (reached_in b) q)) (sym newline) g.1)),
              λ h.
                  let at : h.0 ≡ k = omega (arith, h.1) in
                  let newline : eqb x 10 ≡ true = eq-eqb x 10 (ap (λ (n : ℕ). get_or bytes n 0) (sym at) ∙ h.2) in
                  (held_is q lq).1 (subst T (sym newline) tt, subst (λ (b : Bool). T (has (reached_in b) q)) newline ((steps-to true a lt q i).1 h.3)),
            )

  -- ---- a held pair

  module _ (k : ℕ) (lk : k < length bytes) (s : Stream) (track : Counts k s) where
    abbrev y : ℕ
    y = get_or bytes k 0

    pub pending_is : (a : ℕ) → a < w.rules → T (on (next_pending w s y) a) ↔ Late bytes (free a) (suc k)
    unfolding next_pending ends_newly side_of
    pending_is a lt = (
      λ h.
          let g = (on-if (eqb y 10 && ltb 0 s.taken)).0 h in
          let c = tests.0 (subst T digit g.1) in
          (k, refl, eqb-true y 10 (true-T (eqb y 10) ((and_T (eqb y 10) (ltb 0 s.taken)).0 g.0).0), c.0, c.1),
      λ h.
          let e : h.0 ≡ k = omega (arith, h.1) in
          let newline : y ≡ 10 = ap (λ (n : ℕ). get_or bytes n 0) (sym e) ∙ h.2 in
          let ends-k : EndsAt bytes (free a) k (byte Newline) true = subst (λ (n : ℕ). EndsAt bytes (free a) n (byte Newline) true) e h.3 in
          let some : 0 < s.taken = omega (arith, track.taken, reach-up (stream (take k bytes) false) (form_of (rule a)) 0 ends-k.0 ends-k.1.0 k ends-k.1.1) in
          (on-if (eqb y 10 && ltb 0 s.taken)).1 (
            (and_T (eqb y 10) (ltb 0 s.taken)).1 (subst T (sym (eq-eqb y 10 newline)) tt, lt→ltb 0 s.taken some),
            subst T (sym digit) (tests.1 (ends-k, λ y. h.4 (subst (λ (n : ℕ). EndsAt bytes (free a) n (byte Newline) false) (sym e) y))),
          ),
    )
      where
        test : ℕ → Bool
        test = ends_newly w (before_last s.last) s.live (between s.last Newline) s.live

        tests : T (test a) ↔ (EndsAt bytes (free a) k (byte Newline) true × (¬ EndsAt bytes (free a) k (byte Newline) false))
        tests =
            newly (ends w (before_last s.last) s.live a) (ends w (between s.last Newline) s.live a)
            (ends-line-is k (omega arith) s track a lt) (ends-next-is k (omega arith) s track a lt 10)

        word : ℕ
        word = rules_where w test

        digit : on word a ≡ test a
        digit =
            on-word_of 64 (λ a. ltb a w.rules && test a) a (omega (arith, enc.few_rules))
            ∙ ap (λ (b : Bool). b && test a) (true-T (ltb a w.rules) (lt→ltb a w.rules lt))

        on-if : (b : Bool) → T (on (cond b word 0) a) ↔ (T b × T (on word a))
        on-if true = (λ h. (tt, h), λ h. h.1)
        on-if false = (λ h. absurd (subst T (on-zero a) h), λ h. absurd h.0)

  -- ---- the tests say which pairs fall

  -- a test of pairs, kept to those in the window
  windowed : (a : ℕ) → a < w.rules → (m e end : ℕ) → end ≡ e → e ≤ length bytes → (b : Bool) → T b ↔ Falls bytes (free a) m e → T (b && w.inside a end) ↔ Falls bytes (rule a) m e
  windowed a lt m e end at le b i =
      let in-it = enc.inside_is a lt end (omega arith) in
      let apart = falls-apart bytes (rule a) short m e in (
        λ h. let x = (and_T b (w.inside a end)).0 h in apart.1 (i.0 x.0, subst (AtOffset (rule a).windows) at (in-it.0 x.1)),
        λ h. let x = apart.0 h in (and_T b (w.inside a end)).1 (i.1 x.0, in-it.1 (subst (AtOffset (rule a).windows) (sym at) x.1)),
      )

  -- the rules that end with a byte, after which these positions are live
  abbrev pub own_by : Stream → ℕ → Bool
  own_by v = windowed_in w (ends w unsettled v.live) v.taken

  pub byte-tested : (k : ℕ) → k < length bytes → (u v : Stream) → Counts k u → Counts (suc k) v → (marks : ℕ)
      → ((a : ℕ) → a < w.rules → T (on marks a) ↔ Marked bytes (rule a) (suc k))
      → Tested w rule from tab enc bytes (suc k) k (suc k) (late_test w u (get_or bytes k 0)) (own_by v) marks
  unfolding ends_newly
  byte-tested k lk u v track after marks marked =
      let x : ℕ = get_or bytes k 0 in
      let gap : ℕ = between u.last (side_of x) in
      record {
        only = λ a c lt f. only-byte bytes (rule a) k c lk f;
        one_is = λ a lt.
            both (windowed a lt (suc k) k u.taken track.taken (omega arith)
            (ends_newly w gap (late_in w u.live) unsettled u.live a)
            (by-set (ends_newly w gap (late_in w u.live) unsettled u.live a) (ends_newly w gap u.live unsettled u.live a)
            (late-newly w enc.lates_are u.live gap a (between-inner u.last (side_of x)))
            (both (newly (ends w gap u.live a) (ends w unsettled u.live a)
            (ends-next-is k (omega arith) u track a lt x) (ends_is k (omega arith) u track a lt))
            (back (falls-late bytes (free a) k lk))))) (λ f. (omega arith, f), λ f. f.1);
        two_is = λ a lt.
            windowed a lt (suc k) (suc k) v.taken after.taken (omega arith) (ends w unsettled v.live a)
            (both (ends_is (suc k) lk v after a lt) (back (falls-own bytes (free a) (suc k) lk)));
        marks_are = marked;
      }

  pub closing-tested : (s : Stream) → Counts (length bytes) s → CountsAtEnd (length bytes) s
      → ((a : ℕ) → a < w.rules → T (on s.pending a) ↔ Late bytes (free a) (length bytes))
      → ((a : ℕ) → a < w.rules → T (on s.reported a) ↔ Marked bytes (rule a) (suc (length bytes)))
      → Tested w rule from tab enc bytes (closing_moment bytes) (length bytes - 1) (length bytes) (held_test w s) (end_test w s) s.reported
  unfolding ends_newly
  closing-tested s track waits pending marked =
      let n : ℕ = length bytes in
      record {
        only = λ a c lt f. only-closing bytes (rule a) c f;
        one_is = λ a lt. held a lt (on s.pending a) (both (pending a lt) (late-falls bytes (free a)));
        two_is = λ a lt.
            windowed a lt (closing_moment bytes) n s.taken track.taken (omega arith)
            (ends_newly w (at_the_end s.last) (union_of s.live s.held) unsettled s.live a)
            (both (newly (ends w (at_the_end s.last) (union_of s.live s.held) a) (ends w unsettled s.live a)
            (ends-at-end-is s track waits a lt) (ends_is n (omega arith) s track a lt))
            (back (falls-end bytes (free a))));
        marks_are = marked;
      }
    where
      held : (a : ℕ) → a < w.rules → (b : Bool) → T b ↔ ((length bytes - 1 < length bytes) × Falls bytes (free a) (closing_moment bytes) (length bytes - 1))
          → T (b && w.inside a (s.taken - 1)) ↔ ((length bytes - 1 < length bytes) × Falls bytes (rule a) (closing_moment bytes) (length bytes - 1))
      held a lt b i =
          let at : s.taken - 1 ≡ length bytes - 1 = ap (λ (m : ℕ). m - 1) track.taken in
          let in-it = enc.inside_is a lt (s.taken - 1) (omega (arith, track.taken)) in
          let apart = falls-apart bytes (rule a) short (closing_moment bytes) (length bytes - 1) in (
            λ h. let x = (and_T b (w.inside a (s.taken - 1))).0 h in
                ((i.0 x.0).0, apart.1 ((i.0 x.0).1, subst (AtOffset (rule a).windows) at (in-it.0 x.1))),
            λ h. let x = apart.0 h.1 in
                (and_T b (w.inside a (s.taken - 1))).1 (i.1 (h.0, x.0), in-it.1 (subst (AtOffset (rule a).windows) (sym at) x.1)),
          )

  -- ---- the state after any number of the bytes

  -- by the positions that count before the byte, and after it
  pub tracks : (k : ℕ) → k < length bytes → get_or bytes k 0 < 256 → (s : Stream) → Tracked k s → (u v : Stream) → Counts k u → Counts (suc k) v
      → Tracked (suc k) (state_by w (late_test w u (get_or bytes k 0)) (own_by v) (next_pending w u (get_or bytes k 0)) s (get_or bytes k 0))
  tracks k lk small s track u v before after =
      let x : ℕ = get_or bytes k 0 in
      let late : ℕ → Bool = late_test w u x in
      record {
        alive = goes_on k lk small s track.alive late (own_by v) (next_pending w u x);
        waits = goes-waiting k lk small s track.alive late (own_by v) (next_pending w u x);
        pending = pending_is k lk u before;
        marks = marks-next w rule from tab enc bytes (suc k) k (suc k) late (own_by v) s.reported (byte-tested k lk u v before after s.reported track.marks);
      }

  -- the live positions after any number of the bytes, whatever is reported
  pub lives : ((i : ℕ) → i < length bytes → get_or bytes i 0 < 256) → (s : Stream) → Alive 0 s → (k : ℕ) → k ≤ length bytes → Alive k (state_after w s bytes k)
  unfolding after byte_state
  lives small s start zero le = start
  lives small s start (suc k) le =
      let u : Stream = state_after w s bytes k in
      let x : ℕ = get_or bytes k 0 in
      goes_on k le (small k le) u (lives small s start k (omega arith)) (late_test w u x) (own_test w u x) (next_pending w u x)

  -- an opened stream
  pub opens : (s : Stream) → s.taken ≡ 0 → s.live ≡ empty_set → s.held ≡ empty_set → s.reported ≡ 0 → s.pending ≡ 0 → Tracked 0 s
  opens s taken live held reported pending = record {
    alive = record {
      taken = taken;
      last = λ some. absurd (omega (arith, some));
      inside = λ q lq h. absurd (none q lq h);
      live = λ a lt q i. (λ h. absurd (none q (few a lt q i) h), λ h. absurd (omega (arith, reach-up (stream (take 0 bytes) false) (form_of (rule a)) (from a) h.0 q 0 h.1)));
    };
    waits = record {
      inside = λ q lq h. absurd (neither q lq h);
      held = λ a lt q i. (λ h. absurd (neither q (few a lt q i) h), λ h. absurd (omega (arith, reach-up (stream (take 0 bytes) true) (form_of (rule a)) (from a) h.0 q 0 h.1)));
      held_inside = λ q lq h. absurd (none-held q lq h);
      held_alone = λ a lt q i. (λ h. absurd (none-held q (few a lt q i) h), λ h. absurd (omega (arith, h.1)));
    };
    pending = λ a lt. (λ h. absurd (subst T (ap (λ (m : ℕ). on m a) pending ∙ on-zero a) h), λ h. absurd (omega (arith, h.1)));
    marks = λ a lt. (
      λ h. absurd (subst T (ap (λ (m : ℕ). on m a) reported ∙ on-zero a) h),
      λ h. let start : h.1.0 ≡ 0 = omega (arith, h.1.2) in absurd (none_at_zero bytes (rule a) h.1.1 (subst (λ (j : ℕ). Falls bytes (rule a) j h.1.1) start h.1.3)),
    );
  }
    where
      none : (q : ℕ) → q < max_positions → T (has s.live q) → ⊥
      none q lq h = subst T (ap (λ (l : List ℕ). has l q) live ∙ has-empty q lq) h

      none-held : (q : ℕ) → q < max_positions → T (has s.held q) → ⊥
      none-held q lq h = subst T (ap (λ (l : List ℕ). has l q) held ∙ has-empty q lq) h

      neither : (q : ℕ) → q < max_positions → T (has (union_of s.live s.held) q) → ⊥
      neither q lq h =
          subst T (has-union s.live s.held q lq ∙ ap₂ (λ (l m : List ℕ). has l q || has m q) live held
          ∙ ap₂ (λ (b c : Bool). b || c) (has-empty q lq) (has-empty q lq)) h

      few : (a : ℕ) → a < w.rules → (q : ℕ) → Within (from a) (rule a) q → q < max_positions
      few a lt q i = omega (arith, i.1, enc.inside a lt, enc.few_positions)

  -- ---- where no rule has a smallest length all positions count

  module _ (none : (a : ℕ) → a < w.rules → (q : ℕ) → Within (from a) (rule a) q → least a ≡ 0) where
    always : (a : ℕ) → a < w.rules → (q : ℕ) → Within (from a) (rule a) q → (t : Text ByteSet Assertion) (k : ℕ)
        → Reached t (form_of (rule a)) (from a) q k ↔ LongReached a t q k
    always a lt q i t k = (
      λ h. (h.0, h.1, omega (arith, none a lt q i, reach-up t (form_of (rule a)) (from a) h.0 q k h.1)),
      λ h. (h.0, h.1),
    )

    pub all-count : (k : ℕ) (s : Stream) → Alive k s → Counts k s
    all-count k s h = record {
      taken = h.taken;
      last = h.last;
      inside = h.inside;
      live = λ a lt q i. both (h.live a lt q i) (always a lt q i (stream (take k bytes) false) k);
    }

    pub all-wait : (k : ℕ) (s : Stream) → Waits k s → CountsAtEnd k s
    all-wait k s h = record { inside = h.inside; held = λ a lt q i. both (h.held a lt q i) (always a lt q i (stream (take k bytes) true) k) }

    -- the state after any number of the bytes
    pub tracked : ((i : ℕ) → i < length bytes → get_or bytes i 0 < 256) → (s : Stream) → Tracked 0 s → (k : ℕ) → k ≤ length bytes → Tracked k (state_after w s bytes k)
    unfolding after byte_state
    tracked small s start zero le = start
    tracked small s start (suc k) le =
        let u : Stream = state_after w s bytes k in
        let x : ℕ = get_or bytes k 0 in
        let h : Tracked k u = tracked small s start k (omega arith) in
        let next : Alive (suc k) (byte_state w u x) = goes_on k le (small k le) u h.alive (late_test w u x) (own_test w u x) (next_pending w u x) in
        tracks k le (small k le) u h u (byte_state w u x) (all-count k u h.alive) (all-count (suc k) (byte_state w u x) next)
