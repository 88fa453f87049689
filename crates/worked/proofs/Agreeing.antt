-- Two automata that agree about their rules and positions do the same with every byte. The calls
-- ask an automaton about its own positions and rules only, and what is live or held is no other.
-- Assumes nothing.
use mathlib.Core.Path.{◌≡◌, refl, sym, ap, ap₂, ◌∙◌}
use mathlib.Core.Bool.{Bool, true, false, cond, not, ◌&&◌, ◌||◌}
use mathlib.Core.List.{List, [], ◌∷◌, ◌++◌}
use Prim.Native.Nat.{ℕ, zero, suc, ◌-◌, ◌≤◌, ◌<◌}
use native.Mathlib.Nat.{lt_trans}
use native.Mathlib.Omega.{arith}
use native.Mathlib.Decide.{dec_lt}
use lib.Dec.{eqb, ltb, lit<}
use lib.ListN.{length, get_or}
use borrow.Author.Tests.{le-ltb}
use Rattle.sets.specs.Set.{on, has, any, empty_set, union_of}
use Rattle.sets.proofs.Laws.{has-set_of, has-empty, has-union, set_of-ext, any-ext}
use Rattle.sets.proofs.Bits.{word_of-ext}
use Rattle.kinds.specs.declared.Side.{Side}
use Rattle.kinds.specs.declared.Side.TheVariants.{Newline}
use Rattle.kinds.specs.Side.{side_of}
use Rattle.table.specs.Layout.{max_positions}
use Rattle.table.specs.Gaps.{between, before_last, unsettled, at_the_end, gap_of, first_gap, first_gaps, follow_gaps, last_gaps}
use Rattle.table.specs.Automaton.{Automaton, last, starts}
use Rattle.table.proofs.Lates.{LatesAre}
use Rattle.table.proofs.GapBounds.{between-inner, before_last-follow, at_end-last, gap_of-follow, first_gap-first}
use Rattle.steps.specs.Step.{stepped, ends, ends_newly}
use Rattle.steps.proofs.Late.{late-newly}
use Rattle.stream.specs.declared.Stream.{Stream}
use Rattle.stream.specs.Byte.{after, given, next_live, next_held, next_pending, run_reports, run_marks, two_reports, two_marks, late_test, own_test, held_test, end_test, byte_reports, byte_state, plain, state_after, reports_of, fits, close_reports}
use Rattle.stream.proofs.Machines.{Agree as Machine-agree, same_after, same-reports, same-fits}

-- what the two say of the rules and positions that they have
pub record Agree (w v : Automaton) : Type 0 where
  pub rules : w.rules ≡ v.rules
  pub positions : w.positions ≡ v.positions
  pub id : (a : ℕ) → a < w.rules → w.id a ≡ v.id a
  pub once : (a : ℕ) → a < w.rules → w.once a ≡ v.once a
  pub inside : (a e : ℕ) → a < w.rules → w.inside a e ≡ v.inside a e
  -- of a position that takes the byte
  pub first : (g x q : ℕ) → g < first_gaps → x < 256 → q < w.positions → w.takes x q ≡ true → starts w g x q ≡ starts v g x q
  pub follow : (g p q : ℕ) → g < follow_gaps → q < w.positions → w.follow g p q ≡ v.follow g p q
  pub takes : (x q : ℕ) → x < 256 → q < w.positions → w.takes x q ≡ v.takes x q
  pub last : (g a p : ℕ) → g < last_gaps → a < w.rules → p < w.positions → last w g a p ≡ last v g a p
  pub lates : LatesAre w × LatesAre v

-- below n two tests agree, and past it nothing is asked
below : (n m q : ℕ) (b c : Bool) → n ≡ m → (q < n → b ≡ c) → (ltb q n && b) ≡ (ltb q m && c)
below n m q b c e h = go (dec_lt q n)
  where
    go : Dec (q < n) → (ltb q n && b) ≡ (ltb q m && c)
    go (yes lt) = ap₂ (λ (k : ℕ) (d : Bool). ltb q k && d) e (h lt)
    go (no ge) =
        let out : ltb q n ≡ false = le-ltb q n (omega arith) in
        ap (λ (d : Bool). d && b) out ∙ sym (ap (λ (d : Bool). d && c) (ap (ltb q) (sym e) ∙ out))

-- a test that is asked of members only
both : (b c d : Bool) → (b ≡ true → c ≡ d) → (b && c) ≡ (b && d)
both true c d h = h refl
both false c d h = refl

module _ (w v : Automaton) (same : Agree w v) where
  -- every position of a set is one of the automaton's
  abbrev pub Within : List ℕ → Type 0
  Within set = (q : ℕ) → q < max_positions → has set q ≡ true → q < w.positions

  -- so is every live or held one
  abbrev pub Inside : Stream → Type 0
  Inside s = Within s.live × Within s.held

  module _ (line : Bool) (before after : Side) (live : List ℕ) (taken x : ℕ) where
    step-agrees : x < 256 → stepped w line before after w.positions live taken x ≡ stepped v line before after v.positions live taken x
    unfolding stepped
    step-agrees small =
        set_of-ext _ _ (λ q lt. below w.positions v.positions q _ _ same.positions (λ l.
        both (w.takes x q) _ _ (λ takes.
        ap₂ ◌||◌ (same.first (first_gap line taken before after) x q (first_gap-first line taken before after) small l takes)
        (any-ext max_positions _ _ (λ p m. ap (λ (b : Bool). has live p && b) (same.follow (gap_of line before after) p q (gap_of-follow line before after) l))))
        ∙ ap (λ (b : Bool). b && (starts v (first_gap line taken before after) x q || any max_positions (λ p. has live p && v.follow (gap_of line before after) p q))) (same.takes x q small l)))

    step-inside : Within (stepped w line before after w.positions live taken x)
    unfolding stepped
    step-inside q lt h = go (dec_lt q w.positions)
      where
        rest : ℕ → Bool
        rest q = w.takes x q && (starts w (first_gap line taken before after) x q || any max_positions (λ p. has live p && w.follow (gap_of line before after) p q))

        go : Dec (q < w.positions) → q < w.positions
        go (yes l) = l
        go (no ge) =
            absurd (mathlib.Core.Bool.true≢false (sym h ∙ has-set_of (λ q. ltb q w.positions && rest q) q lt
            ∙ ap (λ (b : Bool). b && rest q) (le-ltb q w.positions (omega arith))))

  next-agrees : (s : Stream) (x : ℕ) → x < 256 → next_live w s x ≡ next_live v s x
  next-agrees s x small = step-agrees false s.last (side_of x) s.live s.taken x small

  next-inside : (s : Stream) (x : ℕ) → Within (next_live w s x)
  next-inside s x = step-inside false s.last (side_of x) s.live s.taken x

  held-agrees : (s : Stream) (x : ℕ) → x < 256 → next_held w s x ≡ next_held v s x
  unfolding next_held
  held-agrees s x small = ap (λ (l : List ℕ). cond (eqb x 10) l empty_set) (step-agrees true s.last (side_of x) s.live s.taken x small)

  held_inside : (s : Stream) (x : ℕ) → Within (next_held w s x)
  unfolding next_held
  held_inside s x = go (eqb x 10)
    where
      go : (b : Bool) → Within (cond b (stepped w true s.last (side_of x) w.positions s.live s.taken x) empty_set)
      go true = step-inside true s.last (side_of x) s.live s.taken x
      go false = λ q lt h. absurd (mathlib.Core.Bool.true≢false (sym h ∙ has-empty q lt))

  union-inside : (l m : List ℕ) → Within l → Within m → Within (union_of l m)
  union-inside l m f g q lt h = go (has l q) refl
    where
      go : (b : Bool) → has l q ≡ b → q < w.positions
      go true e = f q lt e
      go false e = g q lt (sym (ap (λ (b : Bool). b || has m q) e) ∙ sym (has-union l m q lt) ∙ h)

  ends-agrees : (g : ℕ) → g < last_gaps → (live : List ℕ) → Within live → (a : ℕ) → a < w.rules → ends w g live a ≡ ends v g live a
  unfolding ends
  ends-agrees g there live inside a lt = any-ext max_positions _ _ (λ p m. both (has live p) _ _ (λ e. same.last g a p there lt (inside p m e)))

  newly-agrees : (g : ℕ) → g < last_gaps → (set : List ℕ) → Within set → (less : ℕ) → less < last_gaps → (live : List ℕ) → Within live
      → (a : ℕ) → a < w.rules → ends_newly w g set less live a ≡ ends_newly v g set less live a
  unfolding ends_newly
  newly-agrees g there set in-set less known live in-live a lt =
      ap₂ (λ (b c : Bool). b && not c) (ends-agrees g there set in-set a lt) (ends-agrees less known live in-live a lt)

  runs-agree : (f g : ℕ → Bool) (marks end n : ℕ) → n ≤ w.rules → ((a : ℕ) → a < n → f a ≡ g a) → run_reports f marks (given w end) n ≡ run_reports g marks (given v end) n
  unfolding run_reports
  runs-agree f g marks end zero le e = refl
  runs-agree f g marks end (suc n) le e =
      ap₂ ◌++◌ (runs-agree f g marks end n (omega arith) (λ a h. e a (omega arith)))
      (ap₂ (λ (b : Bool) (i : ℕ). cond (b && not (on marks n)) (record { id = i; end = end } ∷ []) []) (e n (omega arith)) (same.id n (omega arith)))

  marks-agree : (f g : ℕ → Bool) (marks : ℕ) → ((a : ℕ) → a < w.rules → f a ≡ g a) → run_marks w f marks ≡ run_marks v g marks
  unfolding run_marks
  marks-agree f g marks e =
      word_of-ext 64 _ _ (λ a h. ap (λ (b : Bool). on marks a || b) (below w.rules v.rules a _ _ same.rules
      (λ l. ap₂ (λ (i b : Bool). i && b) (same.once a l) (e a l))))

  run-agrees : (f g : ℕ → Bool) (marks end : ℕ) → ((a : ℕ) → a < w.rules → f a ≡ g a) → run_reports f marks (given w end) w.rules ≡ run_reports g marks (given v end) v.rules
  run-agrees f g marks end e = runs-agree f g marks end w.rules (omega arith) e ∙ ap (run_reports g marks (given v end)) same.rules

  -- the two runs of a byte and of the closing
  module _ (f f' g g' : ℕ → Bool) (marks : ℕ) (one : (a : ℕ) → a < w.rules → f a ≡ f' a) (two : (a : ℕ) → a < w.rules → g a ≡ g' a) where
    two-agree : (d e : ℕ) → two_reports w f g marks (given w d) (given w e) ≡ two_reports v f' g' marks (given v d) (given v e)
    unfolding two_reports
    two-agree d e =
        ap₂ ◌++◌ (run-agrees f f' marks d one)
        (run-agrees g g' (run_marks w f marks) e two ∙ ap (λ (m : ℕ). run_reports g' m (given v e) v.rules) (marks-agree f f' marks one))

    two-marks-agree : two_marks w f g marks ≡ two_marks v f' g' marks
    unfolding two_marks
    two-marks-agree = marks-agree g g' (run_marks w f marks) two ∙ ap (run_marks v g') (marks-agree f f' marks one)

  -- the rules with a held pair
  pending-agrees : (s : Stream) → Within s.live → (x : ℕ) → next_pending w s x ≡ next_pending v s x
  unfolding next_pending
  pending-agrees s inside x =
      ap (λ (n : ℕ). cond (eqb x 10 && ltb 0 s.taken) n 0)
      (word_of-ext 64 _ _ (λ a h. below w.rules v.rules a _ _ same.rules
      (λ l. newly-agrees (before_last s.last) (lt_trans (before_last-follow s.last) (lit< tt)) s.live inside
      (between s.last Newline) (lt_trans (between-inner s.last Newline) (lit< tt)) s.live inside a l)))

  module _ (s : Stream) (inside : Within s.live) (x : ℕ) (small : x < 256) where
    late-agrees : (a : ℕ) → a < w.rules → late_test w s x a ≡ late_test v s x a
    late-agrees a lt =
        ap₂ (λ (b c : Bool). b && c) (late-newly w same.lates.0 s.live (between s.last (side_of x)) a (between-inner s.last (side_of x))
        ∙ newly-agrees (between s.last (side_of x)) (lt_trans (between-inner s.last (side_of x)) (lit< tt)) s.live inside unsettled (lit< tt) s.live inside a lt
        ∙ sym (late-newly v same.lates.1 s.live (between s.last (side_of x)) a (between-inner s.last (side_of x)))) (same.inside a s.taken lt)

    own-agrees : (a : ℕ) → a < w.rules → own_test w s x a ≡ own_test v s x a
    own-agrees a lt =
        ap₂ (λ (b c : Bool). b && c)
        (ends-agrees unsettled (lit< tt) (next_live w s x) (next-inside s x) a lt ∙ ap (λ (l : List ℕ). ends v unsettled l a) (next-agrees s x small))
        (same.inside a (suc s.taken) lt)

    reports-agree : byte_reports w s x ≡ byte_reports v s x
    unfolding byte_reports
    reports-agree = two-agree (late_test w s x) (late_test v s x) (own_test w s x) (own_test v s x) s.reported late-agrees own-agrees s.taken (suc s.taken)

    state-agrees : byte_state w s x ≡ byte_state v s x
    unfolding byte_state
    state-agrees =
        λ i. record {
          live = next-agrees s x small i;
          held = held-agrees s x small i;
          reported = two-marks-agree (late_test w s x) (late_test v s x) (own_test w s x) (own_test v s x) s.reported late-agrees own-agrees i;
          pending = pending-agrees s inside x i;
          last = side_of x;
          taken = suc s.taken;
          rules = s.rules;
          positions = s.positions;
          closed = s.closed;
        }

  -- ---- the bytes of a block

  pub inside-after : (s : Stream) (block : List ℕ) → Inside s → (k : ℕ) → Inside (state_after w s block k)
  unfolding after byte_state
  inside-after s block inside zero = inside
  inside-after s block inside (suc k) = (next-inside (state_after w s block k) (get_or block k 0), held_inside (state_after w s block k) (get_or block k 0))

  module _ (s : Stream) (inside : Inside s) (block : List ℕ) (small : (i : ℕ) → i < length block → get_or block i 0 < 256) where
    agree : Machine-agree (plain w) (plain v) (λ z. z) Inside (λ x. x < 256)
    unfolding byte_state
    agree = record {
      keeps = λ z x lt h. (next-inside z x, held_inside z x);
      next_is = λ z x lt h. state-agrees z h.0 x lt;
      reports_are = λ z x lt h. reports-agree z h.0 x lt;
      cost_is = λ z h. refl;
    }

    pub states-agree : (k : ℕ) → k ≤ length block → state_after w s block k ≡ state_after v s block k
    states-agree = same_after agree s inside block small

    pub all-agree : (k : ℕ) → k ≤ length block → reports_of w s block k ≡ reports_of v s block k
    all-agree = same-reports agree s inside block small

    pub fits-agree : (allowance room k : ℕ) → k ≤ length block → fits w s allowance block room k ≡ fits v s allowance block room k
    fits-agree = same-fits agree s inside block small

  module _ (s : Stream) (inside : Inside s) where
    end-agrees : (a : ℕ) → a < w.rules → end_test w s a ≡ end_test v s a
    end-agrees a lt =
        ap₂ (λ (b c : Bool). b && c)
        (newly-agrees (at_the_end s.last) (at_end-last s.last) (union_of s.live s.held) (union-inside s.live s.held inside.0 inside.1)
        unsettled (lit< tt) s.live inside.0 a lt)
        (same.inside a s.taken lt)

    pub closing-agrees : close_reports w s ≡ close_reports v s
    unfolding close_reports
    closing-agrees = two-agree (held_test w s) (held_test v s) (end_test w s) (end_test v s) s.reported (λ a lt. ap (λ (b : Bool). on s.pending a && b) (same.inside a (s.taken - 1) lt)) end-agrees (s.taken - 1) s.taken
