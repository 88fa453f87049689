-- The starts of a traced state say what the meaning says, for the rules that need them: beside
-- each live position stands the smallest start of the ways that have just taken it, beside each
-- held one that of the ways that have, were the stream to end here, and beside each held pair its
-- start. By one byte more. So the starts that the two runs of a byte and of the closing give are
-- those of their pairs. Assumes nothing.
use mathlib.Core.Path.{◌≡◌, refl, sym, subst, subst₂, ap, ap₂, ◌∙◌, fun_ext}
use mathlib.Core.Logic.{◌⊎◌, inl, inr, ◌↔◌}
use mathlib.Core.Bool.{Bool, true, false, true≢false, cond, not, ◌&&◌, ◌||◌, and-true}
use mathlib.Core.List.{List, [], ◌∷◌, ◌++◌}
use Prim.Native.Nat.{ℕ, zero, suc, ◌+◌, ◌-◌, ◌^◌, ◌≤◌, ◌<◌}
use native.Mathlib.Nat.{lt_trans}
use native.Mathlib.Omega.{arith}
use native.Mathlib.Decide.{ℕ_discrete}
use lib.Dec.{T, eqb, leb→le, le→leb, lit<}
use lib.ListN.{length, get_or, take}
use lib.Seq.{take-suc, take_all, length-take-le}
use borrow.Author.Tests.{eq-eqb, eqb-true}
use Rattle.sets.specs.Set.{on, has, smallest, union_of}
use Rattle.sets.proofs.Laws.{has-set_of, has-union, has-intersection}
use Rattle.kinds.specs.declared.Side.TheVariants.{Newline}
use Rattle.kinds.specs.Side.{side_of}
use Rattle.table.specs.Layout.{max_rules, max_positions}
use Rattle.table.specs.Gaps.{between, before_last, unsettled, at_the_end, gap_of, last_gaps}
use Rattle.table.specs.Automaton.{Automaton, last as last_in}
use Rattle.table.proofs.GapBounds.{between-inner, before_last-follow, at_end-last}
use Rattle.steps.specs.Step.{keepers_of, start_after, stepped_starts, start_at}
use Rattle.traced.proofs.Ordered.{list-entry}
use Rattle.stream.specs.declared.Stream.{Stream}
use Rattle.lengths.specs.Long.{long_in}
use Rattle.lengths.proofs.Long.{has-long}
use Rattle.stream.specs.Byte.{after, next_live, next_held, held_test}
use Rattle.traced.specs.declared.Traced.{Traced}
use Rattle.traced.specs.Byte.{narrowed, keeping, counted, late_long, own_long, pending_long, end_long, stream_next, next_starts, next_state, traced, late_start, own_start, end_start}
use Rattle.meaning.specs.Tree.{Text}
use Rattle.meaning.specs.Form.{Form, Reach, positions}
use Rattle.meaning.specs.Live.{Reached}
use Rattle.meaning.specs.Gap.{last_line, Known, byte, edge, unknown, known_before, known_after}
use Rattle.meaning.specs.Rule.{Rule, ByteSet, Assertion, world, holds, stream}
use Rattle.meaning.specs.Ordered.{closing_moment, Least, Falls, StartIs}
use Rattle.meaning.proofs.Relations.{Last, Follow}
use Rattle.meaning.proofs.Logic.{and_T, or-T, true-T}
use Rattle.meaning.proofs.Range.{reach-inside, last-inside, follow-inside}
use Rattle.meaning.proofs.Local.{reach-up}
use Rattle.meaning.proofs.Stream.{Same}
use Rattle.meaning.proofs.Base.{open-same, same, reach-ended}
use Rattle.meaning.proofs.Offsets.{falls-apart}
use Rattle.meaning.proofs.Moments.{EndsAt, EndsLast, falls-own, falls-late, falls-end}
use Rattle.meaning.proofs.Starts.{Beside, EndingFrom, reach-either, least-next, least-ending, closing-least, FromByte, ends-at-base, ends-last-base, start-without, start-own, start-late, start-line, start-end}
use Rattle.rules.proofs.Encodes.{world_at}
use Rattle.rules.proofs.Worlds.{world-between, world-before-last, world-unsettled, world-at-end}
use Rattle.demands.specs.Demands.{needs_start}
use Rattle.demands.proofs.Carried.{Carries, Within, form_of}
use Rattle.demands.proofs.TwoRuns.{Told, Turn}
use Rattle.demands.proofs.Endings.{newline-side, Late, last_byte, late-falls}
use Rattle.demands.proofs.Tracked.{Alive, Waits, Tracked, Counts, CountsAtEnd, LongReached, least, last-at, comes-is, goes_on, goes-waiting, pending_is, tracks, byte-tested, closing-tested, free}

-- what a traced stream goes by at byte x, and at the closing: the starts of rules that report none
-- are 0
unfoldable pub told : Automaton → Traced → ℕ → Told
told w z x = record {
  one = late_long w z.stream z.starts.live x;
  two = own_long w z.stream z.starts.live x;
  marks = z.stream.reported;
  first = λ a. cond (w.leftmost a) (late_start w z x a) 0;
  second = λ a. cond (w.leftmost a) (own_start w z x a) 0;
}

unfoldable pub told-last : Automaton → Traced → Told
told-last w z = record {
  one = held_test w z.stream;
  two = end_long w z;
  marks = z.stream.reported;
  first = λ a. cond (w.leftmost a) (get_or z.starts.pairs a 0) 0;
  second = λ a. cond (w.leftmost a) (end_start w z a) 0;
}

module _ (w : Automaton) (rule : ℕ → Rule) (from : ℕ → ℕ) (tab : ℕ → ByteSet) (enc : Carries w rule from tab) (bytes : List ℕ) (short : length bytes < 2 ^ 64) where
  pub few : (a : ℕ) → a < w.rules → from a + positions (form_of (rule a)) ≤ max_positions
  few a lt = omega (arith, enc.inside a lt, enc.few_positions)

  -- every position of the rule that is reached has its smallest start beside it
  abbrev pub Kept : (a : ℕ) → a < w.rules → Text ByteSet Assertion → ℕ → List ℕ → Type 0
  Kept a lt t k starts = Beside (form_of (rule a)) (from a) max_positions (few a lt) t k (λ q. get_or starts q 0)

  -- what the starts after the first k bytes say
  pub record Started (k : ℕ) (z : Traced) : Type 0 where
    pub live : (a : ℕ) (lt : a < w.rules) → T (needs_start (rule a)) → Kept a lt (stream (take k bytes) false) k z.starts.live
    pub held : (a : ℕ) (lt : a < w.rules) → T (needs_start (rule a)) → (e : ℕ) → k ≡ suc e → get_or bytes e 0 ≡ 10 → Kept a lt (stream (take k bytes) true) k z.starts.held
    pub pairs : (a : ℕ) (lt : a < w.rules) → T (rule a).starts → T (on z.stream.pending a) → (e : ℕ) → k ≡ suc e
        → Least (FromByte bytes (rule a) (from a) max_positions (few a lt) e (world (known_before (take e bytes)) (byte Newline) true)) (get_or z.starts.pairs a 0)

  -- ---- the positions that keep a start

  keeps-it : (set : List ℕ) (q : ℕ) → q < max_positions → has (keeping w set) q ≡ (has set q && w.keeps q)
  unfolding keepers_of
  keeps-it set q lq = has-intersection set (keepers_of w) q lq ∙ ap (λ (b : Bool). has set q && b) (has-set_of w.keeps q lq)

  -- a rule that reports its starts needs them
  flagged : (a : ℕ) → T (rule a).starts → T (needs_start (rule a))
  flagged a h = (or-T (rule a).starts (not (eqb (rule a).windows.smallest_length 0))).1 (inl h)

  -- of a rule that needs them all do
  kept_in : (a : ℕ) → a < w.rules → T (needs_start (rule a)) → (set : List ℕ) (q : ℕ) → Within (from a) (rule a) q → has (keeping w set) q ≡ has set q
  kept_in a lt needs set q i =
      keeps-it set q (omega (arith, i.1, few a lt))
      ∙ ap (λ (b : Bool). has set q && b) (enc.keeps_is a lt q i ∙ true-T (needs_start (rule a)) needs) ∙ and-true (has set q)

  -- ---- the smallest start of the matches that end at a gap

  module _ (k : ℕ) (le : k ≤ length bytes) (s : Stream) (track : Alive w rule from tab enc bytes short k s) (starts : List ℕ) (a : ℕ) (lt : a < w.rules)
      (beside : Kept a lt (stream (take k bytes) false) k starts) where
    live-least : (g : ℕ) → g < last_gaps → (rest : List ℕ) (e : Bool) → Same has holds (take k bytes) rest false e
        → ((x : Assertion) → world_at g x ≡ world (byte s.last) (known_after rest e) (e && last_line rest) x)
        → EndsAt bytes (free w rule from tab enc bytes short a) k (known_after rest e) (e && last_line rest)
        → Least (FromByte bytes (rule a) (from a) max_positions (few a lt) k (world (known_before (take k bytes)) (known_after rest e) (e && last_line rest)))
        (start_at w g s.live starts k a)
    unfolding start_at
    live-least g there rest e stays at_g ends =
        let f : Form ByteSet Assertion = form_of (rule a) in
        let v : Assertion → Bool = world (known_before (take k bytes)) (known_after rest e) (e && last_line rest) in
        let h = (ends-at-base bytes (free w rule from tab enc bytes short a) (from a) max_positions (few a lt) k le rest e stays).0 ends in
        least-ending f (from a) max_positions (few a lt) (stream (take k bytes) false) k v (λ q. get_or starts q 0) beside (λ p. has s.live p && last_in w g a p)
        (last-at w rule from tab enc bytes short a lt s.live (stream (take k bytes) false) k track.inside g there v
        (λ some. fun_ext at_g ∙ ap (λ (u : Known). world u (known_after rest e) (e && last_line rest)) (sym (track.last some))) (track.live a lt))
        k (omega arith) h.0 h.1

    -- whatever follows, where byte x follows, and where the last line ends
    own-least : EndsAt bytes (free w rule from tab enc bytes short a) k unknown false
        → Least (FromByte bytes (rule a) (from a) max_positions (few a lt) k (world (known_before (take k bytes)) unknown false)) (start_at w unsettled s.live starts k a)
    own-least = live-least unsettled (lit< tt) [] false (open-same (take k bytes) []) (world-unsettled s.last)

    late-least : (x : ℕ) → EndsAt bytes (free w rule from tab enc bytes short a) k (byte (side_of x)) false
        → Least (FromByte bytes (rule a) (from a) max_positions (few a lt) k (world (known_before (take k bytes)) (byte (side_of x)) false)) (start_at w (between s.last (side_of x)) s.live starts k a)
    late-least x =
        live-least (between s.last (side_of x)) (lt_trans (between-inner s.last (side_of x)) (lit< tt)) (x ∷ []) false (open-same (take k bytes) (x ∷ []))
        (world-between s.last (side_of x))

    line-least : EndsAt bytes (free w rule from tab enc bytes short a) k (byte Newline) true
        → Least (FromByte bytes (rule a) (from a) max_positions (few a lt) k (world (known_before (take k bytes)) (byte Newline) true)) (start_at w (before_last s.last) s.live starts k a)
    unfolding side_of
    line-least =
        live-least (before_last s.last) (lt_trans (before_last-follow s.last) (lit< tt)) (10 ∷ []) true (same (take k bytes) 10 [] true) (world-before-last s.last)

  -- ---- the positions that count

  -- a rule that needs no start has no smallest length
  short-all : (a : ℕ) → needs_start (rule a) ≡ false → least w rule from tab enc bytes short a ≡ 0
  short-all a none = eqb-true (rule a).windows.smallest_length 0 (go (rule a).starts (eqb (rule a).windows.smallest_length 0) none)
    where
      go : (b c : Bool) → (b || not c) ≡ false → c ≡ true
      go true c e = absurd (true≢false e)
      go false true e = refl
      go false false e = absurd (true≢false e)

  -- A position that a way has just taken, with its smallest start beside it where its rule needs one:
  -- it counts exactly if a way from a start that is early enough has just taken it.
  module _ (a : ℕ) (lt : a < w.rules) (t : Text ByteSet Assertion) (k : ℕ) (q : ℕ) (i : Within (from a) (rule a) q) (start : ℕ) where
    counts-if : (needs : T (needs_start (rule a)) → Least (λ u. Reach t (form_of (rule a)) (from a) u q k) start) → (u : ℕ) → Reach t (form_of (rule a)) (from a) u q k
        → T (w.long q start k) → LongReached w rule from tab enc bytes short a t q k
    counts-if beside u r long = go (needs_start (rule a)) refl
      where
        go : (b : Bool) → needs_start (rule a) ≡ b → LongReached w rule from tab enc bytes short a t q k
        go true e =
            let l = beside (subst T (sym e) tt) in
            let below : start < k = reach-up t (form_of (rule a)) (from a) start q k l.there in
            (start, l.there, leb→le (start + least w rule from tab enc bytes short a) k (subst T (enc.long_is a lt q i start k (omega arith)) long))
        go false e = (u, r, omega (arith, short-all a e, reach-up t (form_of (rule a)) (from a) u q k r))

    long-if : (needs : T (needs_start (rule a)) → Least (λ u. Reach t (form_of (rule a)) (from a) u q k) start)
        → LongReached w rule from tab enc bytes short a t q k → T (w.long q start k)
    long-if beside h = go (needs_start (rule a)) refl
      where
        go : (b : Bool) → needs_start (rule a) ≡ b → T (w.long q start k)
        go true e =
            let l = beside (subst T (sym e) tt) in
            let first : start ≤ h.0 = l.least h.0 h.1 in
            let below : start < k = reach-up t (form_of (rule a)) (from a) start q k l.there in
            subst T (sym (enc.long_is a lt q i start k (omega arith))) (le→leb (start + least w rule from tab enc bytes short a) k (omega (arith, h.2)))
        go false e = subst T (sym (enc.free_is q start k (enc.keeps_is a lt q i ∙ e))) tt

  module _ (k : ℕ) (z : Traced) (alive : Alive w rule from tab enc bytes short k z.stream) (st : Started k z) where
    abbrev t : Bool → Text ByteSet Assertion
    t ended = stream (take k bytes) ended

    abbrev counting : List ℕ
    counting = long_in w z.stream.live z.starts.live z.stream.taken

    abbrev waiting : List ℕ
    waiting = long_in w z.stream.held z.starts.held z.stream.taken

    in-it : (set starts : List ℕ) (q : ℕ) → q < max_positions → T (has (long_in w set starts z.stream.taken) q) ↔ (T (has set q) × T (w.long q (get_or starts q 0) k))
    in-it set starts q lq =
        let is : has (long_in w set starts z.stream.taken) q ≡ (has set q && w.long q (get_or starts q 0) k) =
        has-long w set starts z.stream.taken q lq ∙ ap (λ (n : ℕ). has set q && w.long q (get_or starts q 0) n) alive.taken in
        let two = and_T (has set q) (w.long q (get_or starts q 0) k) in
        (λ h. two.0 (subst T is h), λ h. subst T (sym is) (two.1 h))

    live-counts : (a : ℕ) → a < w.rules → (q : ℕ) → Within (from a) (rule a) q → T (has counting q) ↔ LongReached w rule from tab enc bytes short a (t false) q k
    live-counts a lt q i =
        let lq : q < max_positions = omega (arith, i.1, few a lt) in
        let here = in-it z.stream.live z.starts.live q lq in
        let reached = alive.live a lt q i in (
          λ h. let g = here.0 h in let r = reached.0 g.0 in counts-if a lt (t false) k q i (get_or z.starts.live q 0) (λ needs. st.live a lt needs q r) r.0 r.1 g.1,
          λ h. let r : Reached (t false) (form_of (rule a)) (from a) q k = (h.0, h.1) in
              here.1 (reached.1 r, long-if a lt (t false) k q i (get_or z.starts.live q 0) (λ needs. st.live a lt needs q r) h),
        )

    pub counts-now : Counts w rule from tab enc bytes short k (counted w z.stream z.starts.live)
    counts-now = record {
      taken = alive.taken;
      last = alive.last;
      inside = λ q lq h. alive.inside q lq ((in-it z.stream.live z.starts.live q lq).0 h).0;
      live = live-counts;
    }

    -- at the stream's end a held position counts by its own start
    module _ (le : k ≤ length bytes) (waits : Waits w rule from tab enc bytes short k z.stream) where
      len-k : length (take k bytes) ≡ k
      len-k = length-take-le k bytes le

      known : (a u q : ℕ) → Reach (t false) (form_of (rule a)) (from a) u q k → Reach (t true) (form_of (rule a)) (from a) u q k
      known a u q h =
          subst (λ (n : ℕ). Reach (t true) (form_of (rule a)) (from a) u q n) len-k
          (reach-ended (form_of (rule a)) (from a) (take k bytes) u q (subst (λ (n : ℕ). Reach (t false) (form_of (rule a)) (from a) u q n) (sym len-k) h))

      -- a way that has taken a position at the end has taken it anyway, or over a last newline
      open-or-line : (a : ℕ) → a < w.rules → (u q : ℕ) → Reach (t true) (form_of (rule a)) (from a) u q k
          → Reach (t false) (form_of (rule a)) (from a) u q k ⊎ ((e : ℕ) × (k ≡ suc e) × (get_or bytes e 0 ≡ 10))
      open-or-line a lt u q h =
          let e : ℕ = k - 1 in
          let some : u < k = reach-up (t true) (form_of (rule a)) (from a) u q k h in
          let is : k ≡ suc e = omega arith in
          let bs : List ℕ = take e bytes in
          let count : suc (length bs) ≡ k = omega (arith, length-take-le e bytes (omega arith)) in
          let joined : bs ++ get_or bytes e 0 ∷ [] ≡ take k bytes = sym (take-suc bytes e 0 (omega arith)) ∙ ap (λ (n : ℕ). take n bytes) (sym is) in
          elim ((reach-either (form_of (rule a)) (from a) max_positions (few a lt) tab (enc.takes a lt) bs (get_or bytes e 0) u q).0
          (subst₂ (λ (l : List ℕ) (n : ℕ). Reach (stream l true) (form_of (rule a)) (from a) u q n) (sym joined) (sym count) h)) [
            | inl r ↦ inl (subst₂ (λ (l : List ℕ) (n : ℕ). Reach (stream l false) (form_of (rule a)) (from a) u q n) joined count r)
            | inr r ↦ inr (e, is, r.0)
          ]

      union-counts : (a : ℕ) → a < w.rules → (q : ℕ) → Within (from a) (rule a) q
          → T (has (union_of counting waiting) q) ↔ LongReached w rule from tab enc bytes short a (t true) q k
      union-counts a lt q i =
          let lq : q < max_positions = omega (arith, i.1, few a lt) in
          let either = has-union counting waiting q lq in
          let held_in = in-it z.stream.held z.starts.held q lq in
          let alone = waits.held_alone a lt q i in (
            λ h. elim ((or-T (has counting q) (has waiting q)).0 (subst T either h)) [
              | inl y ↦ (let r = (live-counts a lt q i).0 y in (r.0, known a r.0 q r.1, r.2))
              | inr y ↦
                  let g = held_in.0 y in
                  let r = alone.0 g.0 in
                  counts-if a lt (t true) k q i (get_or z.starts.held q 0) (λ needs. st.held a lt needs r.0 r.1 r.2 q r.3) r.3.0 r.3.1 g.1
            ],
            λ h. subst T (sym either) ((or-T (has counting q) (has waiting q)).1 (elim (open-or-line a lt h.0 q h.1) [
              | inl r ↦ inl ((live-counts a lt q i).1 (h.0, r, h.2))
              | inr r ↦
                  let there : Reached (t true) (form_of (rule a)) (from a) q k = (h.0, h.1) in
                  inr (held_in.1 (
                    alone.1 (r.0, r.1, r.2, there),
                    long-if a lt (t true) k q i (get_or z.starts.held q 0) (λ needs. st.held a lt needs r.0 r.1 r.2 q there) h,
                  ))
            ])),
          )

      pub counts-at-end : CountsAtEnd w rule from tab enc bytes short k (narrowed z.stream counting waiting)
      counts-at-end = record {
        inside = λ q lq h. elim ((or-T (has counting q) (has waiting q)).0 (subst T (has-union counting waiting q lq) h)) [
          | inl y ↦ alive.inside q lq ((in-it z.stream.live z.starts.live q lq).0 y).0
          | inr y ↦ waits.held_inside q lq ((in-it z.stream.held z.starts.held q lq).0 y).0
        ];
        held = union-counts;
      }

  -- ---- one byte more

  module _ (k : ℕ) (lk : k < length bytes) (small : get_or bytes k 0 < 256) (z : Traced) (track : Tracked w rule from tab enc bytes short k z.stream) (st : Started k z) where
    abbrev x : ℕ
    x = get_or bytes k 0

    abbrev s : Stream
    s = z.stream

    len : length (take k bytes) ≡ k
    len = length-take-le k bytes (omega arith)

    -- the positions that q comes from, among those that keep a start
    comes-kept : (ended : Bool) (a : ℕ) → a < w.rules → T (needs_start (rule a)) → (q : ℕ) → Within (from a) (rule a) q → (p : ℕ) → p < max_positions
        → T (has (keeping w s.live) p && w.follow (gap_of (ended && eqb x 10) s.last (side_of x)) p q)
        ↔ (Reached (stream (take k bytes) false) (form_of (rule a)) (from a) p k
        × Follow (world (known_before (take k bytes)) (byte (side_of x)) (ended && eqb x 10)) (form_of (rule a)) (from a) p q)
    comes-kept ended a lt reports q i p lp =
        let follows : Bool = w.follow (gap_of (ended && eqb x 10) s.last (side_of x)) p q in
        let all = comes-is w rule from tab enc bytes short k lk small s track.alive ended a lt q i p in (
          λ h.
              let d = (and_T (has (keeping w s.live) p) follows).0 h in
              all.0 ((and_T (has s.live p) follows).1 (((and_T (has s.live p) (w.keeps p)).0 (subst T (keeps-it s.live p lp) d.0)).0, d.1)),
          λ h.
              let d = (and_T (has s.live p) follows).0 (all.1 h) in
              let inside = follow-inside (world (known_before (take k bytes)) (byte (side_of x)) (ended && eqb x 10)) (form_of (rule a)) (from a) p q h.1 in
              (and_T (has (keeping w s.live) p) follows).1 (subst T (sym (kept_in a lt reports s.live p inside)) d.0, d.1),
        )

    -- so the start that the byte gives a position is the smallest, were the stream to end there or
    -- not
    step-least : (ended : Bool) (a : ℕ) (lt : a < w.rules) → T (needs_start (rule a)) → (q : ℕ) → Reached (stream (take (suc k) bytes) ended) (form_of (rule a)) (from a) q (suc k)
        → Least (λ u. Reach (stream (take (suc k) bytes) ended) (form_of (rule a)) (from a) u q (suc k))
        (start_after w (ended && eqb x 10) s.last (side_of x) (keeping w s.live) z.starts.live s.taken q)
    unfolding start_after
    step-least ended a lt reports q r =
        let f : Form ByteSet Assertion = form_of (rule a) in
        let b : ℕ = from a in
        let old : ℕ → ℕ = λ p. get_or z.starts.live p 0 in
        let line : Bool = ended && eqb x 10 in
        let comes : ℕ → Bool = λ p. has (keeping w s.live) p && w.follow (gap_of line s.last (side_of x)) p q in
        let i = reach-inside (stream (take (suc k) bytes) ended) f b r.0 q (suc k) r.1 in
        let beside : Beside f b max_positions (few a lt) (stream (take k bytes) false) (length (take k bytes)) old =
        subst (λ (n : ℕ). Beside f b max_positions (few a lt) (stream (take k bytes) false) n old) (sym len) (st.live a lt reports) in
        let is : (p : ℕ) → p < max_positions → T (comes p)
        ↔ (Reached (stream (take k bytes) false) f b p (length (take k bytes)) × Follow (world (known_before (take k bytes)) (byte (side_of x)) line) f b p q) =
        λ p lp. subst (λ (n : ℕ). T (comes p) ↔ (Reached (stream (take k bytes) false) f b p n × Follow (world (known_before (take k bytes)) (byte (side_of x)) line) f b p q)) (sym len)
        (comes-kept ended a lt reports q i p lp) in
        subst (λ (d : ℕ). Least (λ u. Reach (stream (take (suc k) bytes) ended) f b u q (suc k)) (smallest max_positions comes old d)) (sym track.alive.taken)
        (subst₂ (λ (l : List ℕ) (n : ℕ). Reached (stream l ended) f b q (suc n) → Least (λ u. Reach (stream l ended) f b u q (suc n)) (smallest max_positions comes old n))
        (sym (take-suc bytes k 0 lk)) len
        (least-next f b max_positions (few a lt) tab (enc.takes a lt) (take k bytes) x ended old beside q comes is) r)

    -- the start that stands beside a position, if the byte steps to it
    stepped-at : (line : Bool) (next : List ℕ) (a : ℕ) (lt : a < w.rules) → T (needs_start (rule a)) → (q : ℕ) → Within (from a) (rule a) q → T (has next q)
        → get_or (stepped_starts w line s.last (side_of x) (keeping w s.live) z.starts.live (keeping w next) s.taken) q 0
        ≡ start_after w line s.last (side_of x) (keeping w s.live) z.starts.live s.taken q
    unfolding stepped_starts
    stepped-at line next a lt reports q i there =
        let new : ℕ = start_after w line s.last (side_of x) (keeping w s.live) z.starts.live s.taken q in
        list-entry max_positions (λ q. cond (has (keeping w next) q) (start_after w line s.last (side_of x) (keeping w s.live) z.starts.live s.taken q) 0) q (omega (arith, i.1, few a lt))
        ∙ ap (λ (b : Bool). cond b new 0) (kept_in a lt reports next q i ∙ true-T (has next q) there)

    abbrev live : List ℕ
    live = z.starts.live

    now : Counts w rule from tab enc bytes short k (counted w s live)
    now = counts-now k z track.alive st

    -- the positions after it, whatever is reported
    next-alive : Alive w rule from tab enc bytes short (suc k) (stream_next w s live x)
    unfolding stream_next
    next-alive = goes_on w rule from tab enc bytes short k lk small s track.alive (late_long w s live x) (own_long w s live x) (pending_long w s live x)

    next-waits : Waits w rule from tab enc bytes short (suc k) (stream_next w s live x)
    unfolding stream_next
    next-waits = goes-waiting w rule from tab enc bytes short k lk small s track.alive (late_long w s live x) (own_long w s live x) (pending_long w s live x)

    next-live : (a : ℕ) (lt : a < w.rules) → T (needs_start (rule a)) → Kept a lt (stream (take (suc k) bytes) false) (suc k) (next_starts w z x).live
    unfolding next_starts stream_next
    next-live a lt reports q r =
        let i = reach-inside (stream (take (suc k) bytes) false) (form_of (rule a)) (from a) r.0 q (suc k) r.1 in
        subst (Least (λ u. Reach (stream (take (suc k) bytes) false) (form_of (rule a)) (from a) u q (suc k)))
        (sym (stepped-at false (next_live w s x) a lt reports q i ((next-alive.live a lt q i).1 r))) (step-least false a lt reports q r)

    next-held : (a : ℕ) (lt : a < w.rules) → T (needs_start (rule a)) → x ≡ 10 → Kept a lt (stream (take (suc k) bytes) true) (suc k) (next_starts w z x).held
    unfolding next_starts stream_next
    next-held a lt reports newline q r =
        let i = reach-inside (stream (take (suc k) bytes) true) (form_of (rule a)) (from a) r.0 q (suc k) r.1 in
        let there : T (has (next_held w s x) q) = (next-waits.held_alone a lt q i).1 (k, refl, newline, r) in
        let line : (true && eqb x 10) ≡ true = eq-eqb x 10 newline in
        subst (Least (λ u. Reach (stream (take (suc k) bytes) true) (form_of (rule a)) (from a) u q (suc k)))
        (ap (λ (b : Bool). start_after w b s.last (side_of x) (keeping w s.live) z.starts.live s.taken q) line ∙ sym (stepped-at true (next_held w s x) a lt reports q i there))
        (step-least true a lt reports q r)

    next-pairs : (a : ℕ) (lt : a < w.rules) → T (rule a).starts → T (on (pending_long w s live x) a)
        → Least (FromByte bytes (rule a) (from a) max_positions (few a lt) k (world (known_before (take k bytes)) (byte Newline) true)) (get_or (next_starts w z x).pairs a 0)
    unfolding next_starts
    next-pairs a lt reports pending =
        let late : Late bytes (free w rule from tab enc bytes short a) (suc k) = (pending_is w rule from tab enc bytes short k lk (counted w s live) now a lt).0 pending in
        let at : late.0 ≡ k = omega (arith, late.1) in
        let ends : EndsAt bytes (free w rule from tab enc bytes short a) k (byte Newline) true = subst (λ (n : ℕ). EndsAt bytes (free w rule from tab enc bytes short a) n (byte Newline) true) at late.3 in
        let new : ℕ = start_at w (before_last s.last) s.live z.starts.live s.taken a in
        let value : get_or (next_starts w z x).pairs a 0 ≡ start_at w (before_last s.last) s.live z.starts.live k a =
        list-entry max_rules (λ a. cond (on (pending_long w s live x) a && w.leftmost a) (start_at w (before_last s.last) s.live z.starts.live s.taken a) 0) a (omega (arith, enc.few_rules))
        ∙ ap₂ (λ (b c : Bool). cond (b && c) new 0) (true-T (on (pending_long w s live x) a) pending) (enc.leftmost_is a lt ∙ true-T (rule a).starts reports)
        ∙ ap (λ (d : ℕ). start_at w (before_last s.last) s.live z.starts.live d a) track.alive.taken in
        subst (Least (FromByte bytes (rule a) (from a) max_positions (few a lt) k (world (known_before (take k bytes)) (byte Newline) true))) (sym value)
        (line-least k (omega arith) s track.alive z.starts.live a lt (st.live a lt (flagged a reports)) ends)

    pub starts-on : Started (suc k) (next_state w z x)
    unfolding next_state stream_next
    starts-on = record {
      live = next-live;
      held = λ a lt reports e q newline.
          let at : e ≡ k = omega (arith, q) in
          next-held a lt reports (ap (λ (n : ℕ). get_or bytes n 0) (sym at) ∙ newline);
      pairs = λ a lt reports pending e q.
          let at : k ≡ e = omega (arith, q) in
          subst (λ (n : ℕ). Least (FromByte bytes (rule a) (from a) max_positions (few a lt) n (world (known_before (take n bytes)) (byte Newline) true)) (get_or (next_starts w z x).pairs a 0)) at
          (next-pairs a lt reports pending);
    }

  -- an opened stream: nothing is reached
  pub starts_none : (z : Traced) → z.stream.pending ≡ 0 → Started 0 z
  starts_none z none = record {
    live = λ a lt reports q r. absurd (omega (arith, reach-up (stream (take 0 bytes) false) (form_of (rule a)) (from a) r.0 q 0 r.1));
    held = λ a lt reports e q newline. absurd (omega (arith, q));
    pairs = λ a lt reports pending e q. absurd (omega (arith, q));
  }

  -- ---- the starts that the runs give

  -- of a rule that reports none, 0
  by_flag : (a : ℕ) → a < w.rules → (m e s : ℕ) → (T (rule a).starts → (u : ℕ) → StartIs bytes (rule a) m e u ↔ (u ≡ cond (rule a).starts s 0))
      → StartIs bytes (rule a) m e (cond (w.leftmost a) s 0)
  by_flag a lt m e s least = go (rule a).starts refl
    where
      go : (b : Bool) → (rule a).starts ≡ b → StartIs bytes (rule a) m e (cond (w.leftmost a) s 0)
      go true q = (least (subst T (sym q) tt) (cond (w.leftmost a) s 0)).1 (ap (λ (b : Bool). cond b s 0) (enc.leftmost_is a lt))
      go false q = (start-without bytes (rule a) m e q (cond (w.leftmost a) s 0)).1 (ap (λ (b : Bool). cond b s 0) (enc.leftmost_is a lt ∙ q))

  -- of a byte's late pairs, and of its own
  module _ (k : ℕ) (lk : k < length bytes) (small : get_or bytes k 0 < 256) (z : Traced) (track : Tracked w rule from tab enc bytes short k z.stream) (st : Started k z)
      (a : ℕ) (lt : a < w.rules) where
    late_is : Falls bytes (rule a) (suc k) k → StartIs bytes (rule a) (suc k) k (cond (w.leftmost a) (late_start w z (get_or bytes k 0) a) 0)
    late_is f =
        by_flag a lt (suc k) k (late_start w z (get_or bytes k 0) a)
        (λ reports. start-late bytes (rule a) (from a) max_positions (few a lt) k lk (late_start w z (get_or bytes k 0) a)
        (subst (λ (d : ℕ). Least (FromByte bytes (rule a) (from a) max_positions (few a lt) k (world (known_before (take k bytes)) (byte (side_of (get_or bytes k 0))) false))
        (start_at w (between z.stream.last (side_of (get_or bytes k 0))) z.stream.live z.starts.live d a)) (sym track.alive.taken)
        (late-least k (omega arith) z.stream track.alive z.starts.live a lt (st.live a lt (flagged a reports)) (get_or bytes k 0) ((falls-late bytes (free w rule from tab enc bytes short a) k lk).0 ((falls-apart bytes (rule a) short (suc k) k).0 f).0).0)))

    own_is : Falls bytes (rule a) (suc k) (suc k) → StartIs bytes (rule a) (suc k) (suc k) (cond (w.leftmost a) (own_start w z (get_or bytes k 0) a) 0)
    unfolding stream_next
    own_is f =
        let x : ℕ = get_or bytes k 0 in
        by_flag a lt (suc k) (suc k) (own_start w z x a)
        (λ reports. start-own bytes (rule a) (from a) max_positions (few a lt) (suc k) lk (own_start w z x a)
        (subst (λ (d : ℕ). Least (FromByte bytes (rule a) (from a) max_positions (few a lt) (suc k) (world (known_before (take (suc k) bytes)) unknown false))
        (start_at w unsettled (next_live w z.stream x) (next_starts w z x).live d a)) (sym (ap suc track.alive.taken))
        (own-least (suc k) lk (stream_next w z.stream z.starts.live x) (next-alive k lk small z track st) (next_starts w z x).live a lt
        (next-live k lk small z track st a lt (flagged a reports)) ((falls-own bytes (free w rule from tab enc bytes short a) (suc k) lk).0 ((falls-apart bytes (rule a) short (suc k) (suc k)).0 f).0))))

  -- of the closing's held pairs, and of those at the end
  module _ (z : Traced) (track : Tracked w rule from tab enc bytes short (length bytes) z.stream) (st : Started (length bytes) z) (a : ℕ) (lt : a < w.rules) where
    abbrev n : ℕ
    n = length bytes

    whole : take n bytes ≡ bytes
    whole = take_all n bytes (omega arith)

    abbrev at_end : Assertion → Bool
    at_end = world (known_before bytes) edge true

    end-world : 0 < n → world_at (at_the_end z.stream.last) ≡ at_end
    end-world some = fun_ext (world-at-end z.stream.last) ∙ ap (λ (u : Known). world u edge true) (sym (track.alive.last some) ∙ ap known_before whole)

    -- a live position ends a match there, and a held one
    live-ends : (p : ℕ) → p < max_positions → T (has z.stream.live p && last_in w (at_the_end z.stream.last) a p)
        ↔ (Reached (stream bytes false) (form_of (rule a)) (from a) p n × Last at_end (form_of (rule a)) (from a) p)
    live-ends =
        last-at w rule from tab enc bytes short a lt z.stream.live (stream bytes false) n track.alive.inside
        (at_the_end z.stream.last) (at_end-last z.stream.last) at_end end-world
        (λ q i. subst (λ (l : List ℕ). T (has z.stream.live q) ↔ Reached (stream l false) (form_of (rule a)) (from a) q n) whole (track.alive.live a lt q i))

    held-ends : (e : ℕ) → n ≡ suc e → (p : ℕ) → p < max_positions → T (has z.stream.held p && last_in w (at_the_end z.stream.last) a p)
        ↔ ((get_or bytes e 0 ≡ 10) × Reached (stream bytes true) (form_of (rule a)) (from a) p n × Last at_end (form_of (rule a)) (from a) p)
    held-ends e q p lp = go (ℕ_discrete (get_or bytes e 0) 10)
      where
        -- it is held exactly if the last byte is a newline and a way reaches it
        held_is : get_or bytes e 0 ≡ 10 → (r : ℕ) → Within (from a) (rule a) r → T (has z.stream.held r) ↔ Reached (stream bytes true) (form_of (rule a)) (from a) r n
        held_is newline r i =
            let h = track.waits.held_alone a lt r i in (
              λ t. subst (λ (l : List ℕ). Reached (stream l true) (form_of (rule a)) (from a) r n) whole (h.0 t).3,
              λ t. h.1 (e, q, newline, subst (λ (l : List ℕ). Reached (stream l true) (form_of (rule a)) (from a) r n) (sym whole) t),
            )

        go : Dec (get_or bytes e 0 ≡ 10) → T (has z.stream.held p && last_in w (at_the_end z.stream.last) a p)
            ↔ ((get_or bytes e 0 ≡ 10) × Reached (stream bytes true) (form_of (rule a)) (from a) p n × Last at_end (form_of (rule a)) (from a) p)
        go (yes newline) =
            let both = last-at w rule from tab enc bytes short a lt z.stream.held (stream bytes true) n track.waits.held_inside
            (at_the_end z.stream.last) (at_end-last z.stream.last) at_end end-world (held_is newline) p lp in
            (λ h. let g = both.0 h in (newline, g.0, g.1), λ h. both.1 (h.1, h.2))
        go (no other) = (
          λ h.
              let d = (and_T (has z.stream.held p) (last_in w (at_the_end z.stream.last) a p)).0 h in
              let l = (enc.last_is (at_the_end z.stream.last) a p (at_end-last z.stream.last) lt (track.waits.held_inside p lp d.0)).0 d.1 in
              let r = (track.waits.held_alone a lt p (last-inside (world_at (at_the_end z.stream.last)) (form_of (rule a)) (from a) p l)).0 d.0 in
              let at : r.0 ≡ e = omega (arith, r.1, q) in
              absurd (other (ap (λ (i : ℕ). get_or bytes i 0) (sym at) ∙ r.2)),
          λ h. absurd (other h.0),
        )

    end-least : T (rule a).starts → EndsLast bytes (free w rule from tab enc bytes short a)
        → Least (EndingFrom (form_of (rule a)) (from a) max_positions (few a lt) (stream bytes true) n at_end) (end_start w z a)
    unfolding start_at
    end-least reports ends =
        let f : Form ByteSet Assertion = form_of (rule a) in
        let b : ℕ = from a in
        let h = (ends-last-base bytes (free w rule from tab enc bytes short a) b max_positions (few a lt)).0 ends in
        let some : h.0 < n = reach-up (stream bytes true) f b h.0 h.1.0 n h.1.1 in
        let e : ℕ = n - 1 in
        let q : n ≡ suc e = omega arith in
        let x : ℕ = get_or bytes e 0 in
        let bs : List ℕ = take e bytes in
        let count : suc (length bs) ≡ n = omega (arith, length-take-le e bytes (omega arith)) in
        let size : take (suc e) bytes ≡ bytes = ap (λ (i : ℕ). take i bytes) (sym q) ∙ whole in
        let joined : bs ++ x ∷ [] ≡ bytes = sym (take-suc bytes e 0 (omega arith)) ∙ size in
        let live : ℕ → ℕ = λ p. get_or z.starts.live p 0 in
        let held : ℕ → ℕ = λ p. get_or z.starts.held p 0 in
        let gap : ℕ = at_the_end z.stream.last in
        let live-there : ℕ → Bool = λ p. has z.stream.live p && last_in w gap a p in
        let held-there : ℕ → Bool = λ p. has z.stream.held p && last_in w gap a p in
        subst₂ (λ (l : List ℕ) (i : ℕ). Least (EndingFrom f b max_positions (few a lt) (stream l true) i at_end)
        (smallest max_positions held-there held (smallest max_positions live-there live z.stream.taken))) joined count
        (closing-least f b max_positions (few a lt) tab (enc.takes a lt) bs x at_end live
        (subst₂ (λ (l : List ℕ) (i : ℕ). Beside f b max_positions (few a lt) (stream l false) i live) (whole ∙ sym joined) (sym count) (st.live a lt (flagged a reports)))
        held
        (λ newline. subst₂ (λ (l : List ℕ) (i : ℕ). Beside f b max_positions (few a lt) (stream l true) i held) (whole ∙ sym joined) (sym count) (st.held a lt (flagged a reports) e q newline))
        live-there held-there
        (λ p lp. subst₂ (λ (l : List ℕ) (i : ℕ). T (live-there p) ↔ (Reached (stream l false) f b p i × Last at_end f b p)) (sym joined) (sym count) (live-ends p lp))
        (λ p lp. subst₂ (λ (l : List ℕ) (i : ℕ). T (held-there p) ↔ ((x ≡ 10) × Reached (stream l true) f b p i × Last at_end f b p)) (sym joined) (sym count) (held-ends e q p lp))
        z.stream.taken (omega (arith, count, track.alive.taken)) h.0
        (subst₂ (λ (l : List ℕ) (i : ℕ). EndingFrom f b max_positions (few a lt) (stream l true) i at_end h.0) (sym joined) (sym count) h.1))

    end_is : Falls bytes (rule a) (closing_moment bytes) n → StartIs bytes (rule a) (closing_moment bytes) n (cond (w.leftmost a) (end_start w z a) 0)
    end_is g =
        by_flag a lt (closing_moment bytes) n (end_start w z a)
        (λ reports. start-end bytes (rule a) (from a) max_positions (few a lt) (end_start w z a) (end-least reports ((falls-end bytes (free w rule from tab enc bytes short a)).0 ((falls-apart bytes (rule a) short (closing_moment bytes) n).0 g).0).0))

    held_start : n - 1 < n → Falls bytes (rule a) (closing_moment bytes) (n - 1)
        → StartIs bytes (rule a) (closing_moment bytes) (n - 1) (cond (w.leftmost a) (get_or z.starts.pairs a 0) 0)
    held_start some g =
        by_flag a lt (closing_moment bytes) (n - 1) start
        (λ reports. subst (λ (i : ℕ). (u : ℕ) → StartIs bytes (rule a) (closing_moment bytes) i u ↔ (u ≡ cond (rule a).starts start 0)) at
        (start-line bytes (rule a) (from a) max_positions (few a lt) e (omega (arith, late.1)) (last_byte bytes (rule a) e late.1) start
        (subst₂ (λ (u : Known) (b : Bool). Least (FromByte bytes (rule a) (from a) max_positions (few a lt) e (world (known_before (take e bytes)) u b)) start)
        (ap byte (sym (newline-side (get_or bytes e 0) late.2))) (sym (eq-eqb (get_or bytes e 0) 10 late.2))
        (st.pairs a lt reports ((track.pending a lt).1 late) e late.1))))
      where
        late : Late bytes (free w rule from tab enc bytes short a) n
        late = (late-falls bytes (free w rule from tab enc bytes short a)).1 (some, ((falls-apart bytes (rule a) short (closing_moment bytes) (n - 1)).0 g).0)

        e : ℕ
        e = late.0

        start : ℕ
        start = get_or z.starts.pairs a 0

        at : late.0 ≡ n - 1
        at = omega (arith, late.1)

  -- ---- what a traced machine goes by

  -- what counts before a byte, and after it
  module _ (k : ℕ) (lk : k < length bytes) (small : get_or bytes k 0 < 256) (z : Traced) (track : Tracked w rule from tab enc bytes short k z.stream) (st : Started k z) where
    before : Counts w rule from tab enc bytes short k (counted w z.stream z.starts.live)
    before = counts-now k z track.alive st

    abbrev next : Traced
    next = next_state w z (get_or bytes k 0)

    then : Counts w rule from tab enc bytes short (suc k) (counted w next.stream next.starts.live)
    unfolding next_state
    then = counts-now (suc k) next (next-alive k lk small z track st) (starts-on k lk small z track st)

    pub byte-turn : Turn w rule from tab enc bytes (suc k) k (suc k) (told w z (get_or bytes k 0))
    unfolding told next_state stream_next next_starts
    byte-turn = record {
      tested = byte-tested w rule from tab enc bytes short k lk (counted w z.stream z.starts.live) (counted w next.stream next.starts.live) before then z.stream.reported track.marks;
      first_is = λ a lt some f. late_is k lk small z track st a lt f;
      second_is = λ a lt f. own_is k lk small z track st a lt f;
    }

    -- the state after it
    tracks_on : Tracked w rule from tab enc bytes short (suc k) next.stream
    unfolding next_state stream_next next_starts
    tracks_on = tracks w rule from tab enc bytes short k lk small z.stream track (counted w z.stream z.starts.live) (counted w next.stream next.starts.live) before then

  pub closing-turn : (z : Traced) → Tracked w rule from tab enc bytes short (length bytes) z.stream → Started (length bytes) z
      → Turn w rule from tab enc bytes (closing_moment bytes) (length bytes - 1) (length bytes) (told-last w z)
  unfolding told-last
  closing-turn z track st =
      let n : ℕ = length bytes in
      let now = counts-now n z track.alive st in
      record {
        tested = closing-tested w rule from tab enc bytes short
            (narrowed z.stream (long_in w z.stream.live z.starts.live z.stream.taken) (long_in w z.stream.held z.starts.held z.stream.taken))
            (record { taken = now.taken; last = now.last; inside = now.inside; live = now.live })
            (counts-at-end n z track.alive st (omega arith) track.waits) track.pending track.marks;
        first_is = λ a lt some f. held_start z track st a lt some f;
        second_is = λ a lt f. end_is z track st a lt f;
      }

  -- the starts after any number of the bytes
  pub started : ((i : ℕ) → i < length bytes → get_or bytes i 0 < 256) → (z : Traced) → Tracked w rule from tab enc bytes short 0 z.stream → Started 0 z
      → (k : ℕ) → k ≤ length bytes → Tracked w rule from tab enc bytes short k (after (traced w) z bytes k).stream × Started k (after (traced w) z bytes k)
  unfolding after
  started small z track st zero le = (track, st)
  started small z track st (suc k) le =
      let r = started small z track st k (omega arith) in
      let y : Traced = after (traced w) z bytes k in
      (tracks_on k le (small k le) y r.0 r.1, starts-on k le (small k le) y r.0 r.1)
