-- A second table that is right, and that no rule which needs a start has a part in, changes nothing
-- on a stream with starts either: a byte by an entry then leaves no start, and reports none.
use mathlib.Core.Path.{◌≡◌, refl, sym, ap, ap₂, ◌∙◌}
use mathlib.Core.Bool.{Bool, true, false, cond, ◌&&◌, and-eq-true_iff}
use mathlib.Core.List.{List}
use Prim.Native.Nat.{ℕ, suc, ◌%◌, ◌<◌, ◌≤◌}
use native.Mathlib.Omega.{arith}
use lib.Bits.{bit_and}
use lib.Dec.{eqb, ltb}
use lib.ListN.{get_or}
use borrow.Author.Tests.{lt-ltb, ltb-true, eqb-true, not-false}
use Rattle.sets.specs.Set.{on, has, is_empty, set_of}
use Rattle.sets.proofs.Bits.{on_and, on-zero, on-word_of}
use Rattle.sets.proofs.Laws.{Words, words-set_of, has-set_of, set_of-has, set_of-ext, any_none}
use Rattle.kinds.specs.Side.{side_of}
use Rattle.table.specs.Layout.{max_positions, max_rules}
use Rattle.table.specs.Gaps.{between, before_last, unsettled}
use Rattle.table.specs.Automaton.{Automaton}
use Rattle.steps.specs.Step.{stepped, ends, ends_newly, late_in, keepers_of, rules_where, windowed, start_at}
use Rattle.steps.proofs.TableSets.{meets-test}
use Rattle.lengths.specs.Long.{long_in}
use Rattle.stream.specs.declared.Stream.{Stream}
use Rattle.stream.specs.Byte as stream
use Rattle.stream.specs.Byte.{next_live, next_held, next_pending, late_test, own_test, two_reports, state_by, byte_state}
use Rattle.stream.proofs.TwoRuns.{two-ext}
use Rattle.stream.proofs.Machines.{Agree}
use Rattle.traced.specs.declared.Traced.{Traced}
use Rattle.traced.specs.Byte.{none, from, given, keeping, counted, narrowed, live_next, late_long, own_long, pending_long, stream_next, late_start, own_start, next_starts, next_state, byte_reports, traced}
use Rattle.traced.specs.Calls.{no_starts}
use Rattle.traced.proofs.Carrying.{stepped-none, list_ext, pending-ruled}
use Rattle.traced.proofs.Delivering.{two-give}
use Rattle.second.specs.Entries.{keeps_start, tells_start}
use Rattle.following.specs.Follow.{Place, at, resting, away, stretch, leads, arrives, rest_entry, late_by, own_by, step_to}
use Rattle.following.specs.Starts.{Placed, looked_up, unstarted, by_entry, reports_by_entry, next_at, reports_at, next_followed, following}
use Rattle.following.proofs.Following.{Stands, Right, KeptAt, stood, arrived, late-same, own_same, step_same, rest-stands, still, some_byte}

-- ---- no rule that needs a start has a part

-- what byte x does to a state
pub record Startless (w : Automaton) (s : Stream) (x : ℕ) : Type 0 where
  pub live_words : Words s.live
  pub live : keeps_start w s.live ≡ false
  pub next : keeps_start w (next_live w s x) ≡ false
  pub held : keeps_start w (next_held w s x) ≡ false
  pub pending : tells_start w (next_pending w s x) ≡ false
  pub late : tells_start w (rules_where w (ends_newly w (between s.last (side_of x)) (late_in w s.live) unsettled s.live)) ≡ false
  pub own : tells_start w (rules_where w (ends w unsettled (next_live w s x))) ≡ false

-- ---- one byte

-- a rule that has a digit of such a word reports no start
untold : (w : Automaton) → w.rules ≤ 64 → (rules : ℕ) → tells_start w rules ≡ false → (a : ℕ) → a < w.rules → on rules a ≡ true → w.leftmost a ≡ false
untold w few rules e a h d =
    let none : bit_and rules (rules_where w w.leftmost) ≡ 0 = eqb-true (bit_and rules (rules_where w w.leftmost)) 0 (not-false (eqb (bit_and rules (rules_where w w.leftmost)) 0) e) in
    sym (on-word_of 64 (λ a. ltb a w.rules && w.leftmost a) a (omega arith) ∙ ap (λ (b : Bool). b && w.leftmost a) (lt-ltb a w.rules h))
    ∙ sym (ap (λ (b : Bool). b && on (rules_where w w.leftmost) a) d)
    ∙ sym (on_and rules (rules_where w w.leftmost) a) ∙ ap (λ (n : ℕ). on n a) none ∙ on-zero a

module _ (w : Automaton) (few : w.rules ≤ 64) (free : (q start end : ℕ) → w.keeps q ≡ false → w.long q start end ≡ true) where
  -- positions that keep no start are long enough
  long-all : (set starts : List ℕ) (end : ℕ) → Words set → keeps_start w set ≡ false → long_in w set starts end ≡ set
  unfolding long_in keepers_of
  long-all set starts end four e =
      set_of-ext (λ q. has set q && w.long q (get_or starts q 0) end) (has set)
      (λ q h. go q (has set q) (ap (λ (b : Bool). has set q && b) (sym (has-set_of w.keeps q h)) ∙ any_none max_positions (λ q. has set q && has (set_of w.keeps) q) e q h))
      ∙ set_of-has set four
    where
      go : (q : ℕ) (b : Bool) → (b && w.keeps q) ≡ false → (b && w.long q (get_or starts q 0) end) ≡ b
      go q true h = free q (get_or starts q 0) end h
      go q false h = refl

  none_kept : (set : List ℕ) → keeps_start w set ≡ false → is_empty (keeping w set) ≡ true
  none_kept set e = not-false (is_empty (keeping w set)) (meets-test set (keepers_of w) ∙ e)

  module _ (z : Traced) (x : ℕ) (Free-of : Startless w z.stream x) where
    abbrev s : Stream
    s = z.stream

    abbrev l : List ℕ
    l = z.starts.live

    counts : counted w s l ≡ s
    counts = λ i. narrowed s (long-all s.live l s.taken Free-of.live_words Free-of.live i) s.held

    next-words : Words (next_live w s x)
    unfolding stepped
    next-words = words-set_of _

    late_is : late_long w s l x ≡ late_test w s x
    late_is = ap (λ (y : Stream). late_test w y x) counts

    own_is : own_long w s l x ≡ own_test w s x
    own_is = λ i. windowed w (ends w unsettled (long-all (next_live w s x) (live_next w s l x) (suc s.taken) next-words Free-of.next i)) (suc s.taken)

    pending_is : pending_long w s l x ≡ next_pending w s x
    pending_is = ap (λ (y : Stream). next_pending w y x) counts

    stream_is : stream_next w s l x ≡ byte_state w s x
    unfolding stream_next byte_state
    stream_is = λ i. state_by w (late_is i) (own_is i) (pending_is i) s x

    starts_are : next_starts w z x ≡ no_starts
    unfolding next_starts
    starts_are =
        λ i. record {
          live = stepped-none w false s.last (side_of x) (keeping w s.live) l (keeping w (next_live w s x)) s.taken (none_kept (next_live w s x) Free-of.next) i;
          held = stepped-none w true s.last (side_of x) (keeping w s.live) l (keeping w (next_held w s x)) s.taken (none_kept (next_held w s x) Free-of.held) i;
          pairs =
              list_ext max_rules (λ a. cond (on (pending_long w s l x) a && w.leftmost a) (start_at w (before_last s.last) s.live l s.taken a) 0) (λ a. 0)
              (λ a h. ap (λ (b : Bool). cond b (start_at w (before_last s.last) s.live l s.taken a) 0)
              (ap (λ (n : ℕ). on n a && w.leftmost a) pending_is ∙ sym (pending-ruled w s x a h) ∙ no-pair a h)) i;
        }
      where
        no-pair : (a : ℕ) → a < max_rules → (on (next_pending w s x) a && (ltb a w.rules && w.leftmost a)) ≡ false
        no-pair a h = go (on (next_pending w s x) a) refl (ltb a w.rules) refl
          where
            go : (p : Bool) → on (next_pending w s x) a ≡ p → (q : Bool) → ltb a w.rules ≡ q → (p && (q && w.leftmost a)) ≡ false
            go true p true q = untold w few (next_pending w s x) Free-of.pending a (ltb-true a w.rules q) p
            go true p false q = refl
            go false p q r = refl

    pub state_is : next_state w z x ≡ record { stream = byte_state w s x; starts = no_starts }
    unfolding next_state
    state_is = λ i. record { stream = stream_is i; starts = starts_are i }

    -- no report has a start
    plain-given : (end : ℕ) (f : ℕ → ℕ) (a : ℕ) → w.leftmost a ≡ false → given w end f a ≡ unstarted w end a
    plain-given end f a e = ap (λ (b : Bool). record { pair = stream.given w end a; start = cond b (from (f a)) none }) e

    pub reports_are : byte_reports w z x ≡ two_reports w (late_test w s x) (own_test w s x) s.reported (unstarted w s.taken) (unstarted w (suc s.taken))
    unfolding byte_reports
    reports_are =
        (λ i. two_reports w (late_is i) (own_is i) s.reported (given w s.taken (late_start w z x)) (given w (suc s.taken) (own_start w z x)))
        ∙ two-give w (late_test w s x) (own_test w s x) s.reported (given w s.taken (late_start w z x)) (unstarted w s.taken) (given w (suc s.taken) (own_start w z x)) (unstarted w (suc s.taken))
        (λ a h e. plain-given s.taken (late_start w z x) a (untold w few _ Free-of.late a h (told-by _ a h ((and-eq-true_iff (late a) (w.inside a s.taken)).0 e).0)))
        (λ a h e. plain-given (suc s.taken) (own_start w z x) a (untold w few _ Free-of.own a h (told-by _ a h ((and-eq-true_iff (own a) (w.inside a (suc s.taken))).0 e).0)))
      where
        late : ℕ → Bool
        late = ends_newly w (between s.last (side_of x)) (late_in w s.live) unsettled s.live

        own : ℕ → Bool
        own = ends w unsettled (next_live w s x)

        told-by : (f : ℕ → Bool) (a : ℕ) → a < w.rules → f a ≡ true → on (rules_where w f) a ≡ true
        told-by f a h e = on-word_of 64 (λ a. ltb a w.rules && f a) a (omega arith) ∙ ap₂ (λ (p q : Bool). p && q) (lt-ltb a w.rules h) e

-- ---- a second table

-- one that is right, and whose words that name an entry leave rules which need a start alone
pub record RightToo (w : Automaton) (c : List ℕ) : Type 0 where
  pub right : Right w c
  pub startless : (s : Stream) (e x : ℕ) → Stands c s e → leads c e x ≡ true → Startless w s x

module _ (w : Automaton) (c : List ℕ) (few : w.rules ≤ 64) (free : (q start end : ℕ) → w.keeps q ≡ false → w.long q start end ≡ true) (r : RightToo w c) where
  abbrev right : Right w c
  right = r.right

  abbrev pub Kept : Placed → Type 0
  Kept u = KeptAt w c right u.place u.traced.stream

  module _ (e : ℕ) (z : Traced) (x : ℕ) (stands : leads c e x ≡ true → Stands c z.stream e) where
    abbrev v : Stream
    v = z.stream

    abbrev alone : leads c e x ≡ true → Startless w v x
    alone l = r.startless v e x (stands l) l

    entry-keeps : Kept (by_entry w c e z x)
    unfolding by_entry
    entry-keeps = go (leads c e x) refl
      where
        go : (b : Bool) → leads c e x ≡ b → Kept (cond b (record { traced = record { stream = step_to w c v e x; starts = no_starts }; place = arrives c e x }) (record { traced = next_state w z x; place = away }))
        go true l = arrived w c right e v x stands l
        go false l = tt

    entry_next : (by_entry w c e z x).traced ≡ next_state w z x
    unfolding by_entry
    entry_next = go (leads c e x) refl
      where
        go : (b : Bool) → leads c e x ≡ b
            → (cond {A = Placed} b (record { traced = record { stream = step_to w c v e x; starts = no_starts }; place = arrives c e x }) (record { traced = next_state w z x; place = away })).traced ≡ next_state w z x
        go true l = ap (λ (y : Stream). record { stream = y; starts = no_starts }) (step_same w c right e v x stands l) ∙ sym (state_is w few free z x (alone l))
        go false l = refl

    entry-reports : reports_by_entry w c e z x ≡ byte_reports w z x
    unfolding reports_by_entry
    entry-reports = go (leads c e x) refl
      where
        go : (b : Bool) → leads c e x ≡ b
            → cond b (two_reports w (late_by w c v e x) (own_by w c v e x) v.reported (unstarted w v.taken) (unstarted w (suc v.taken))) (byte_reports w z x) ≡ byte_reports w z x
        go true l =
            two-ext w (late_by w c v e x) (late_test w v x) (own_by w c v e x) (own_test w v x) v.reported (late-same w c right e v x stands l) (own_same w c right e v x stands l)
            (unstarted w v.taken) (unstarted w (suc v.taken))
            ∙ sym (reports_are w few free z x (alone l))
        go false l = refl

  -- the state after a byte taken the old way, where nothing is live and no match can begin
  rest-kept : (z : Traced) (x : ℕ) → KeptAt w c right resting z.stream → w.opens x ≡ false → KeptAt w c right resting (next_state w z x).stream
  unfolding next_state stream_next
  rest-kept z x h o = (still w c right z.stream x h o, some_byte z.stream.taken)

  place-keeps : (p : Place) (z : Traced) (x : ℕ) → KeptAt w c right p z.stream → Kept (next_at w c p z x)
  unfolding next_at
  place-keeps (at e) z x h = entry-keeps e z x (λ l. h)
  place-keeps resting z x h = go (w.opens x) refl
    where
      go : (b : Bool) → w.opens x ≡ b → Kept (cond b (by_entry w c (rest_entry c z.stream.last) z x) (record { traced = next_state w z x; place = resting }))
      go true o = entry-keeps (rest_entry c z.stream.last) z x (rest-stands w c right z.stream x h)
      go false o = rest-kept z x h o
  place-keeps away z x h = tt

  place-next : (p : Place) (z : Traced) (x : ℕ) → KeptAt w c right p z.stream → (next_at w c p z x).traced ≡ next_state w z x
  unfolding next_at
  place-next (at e) z x h = entry_next e z x (λ l. h)
  place-next resting z x h = go (w.opens x)
    where
      go : (b : Bool) → (cond {A = Placed} b (by_entry w c (rest_entry c z.stream.last) z x) (record { traced = next_state w z x; place = resting })).traced ≡ next_state w z x
      go true = entry_next (rest_entry c z.stream.last) z x (rest-stands w c right z.stream x h)
      go false = refl
  place-next away z x h = refl

  place-reports : (p : Place) (z : Traced) (x : ℕ) → KeptAt w c right p z.stream → reports_at w c p z x ≡ byte_reports w z x
  unfolding reports_at
  place-reports (at e) z x h = entry-reports e z x (λ l. h)
  place-reports resting z x h = go (w.opens x)
    where
      go : (b : Bool) → cond b (reports_by_entry w c (rest_entry c z.stream.last) z x) (byte_reports w z x) ≡ byte_reports w z x
      go true = entry-reports (rest_entry c z.stream.last) z x (rest-stands w c right z.stream x h)
      go false = refl
  place-reports away z x h = refl

  module _ (u : Placed) (x : ℕ) (h : Kept u) where
    abbrev y : Placed
    y = next_at w c u.place u.traced x

    next-keeps : Kept (next_followed w c u x)
    unfolding next_followed
    next-keeps = go (eqb (y.traced.stream.taken % stretch) 0)
      where
        go : (b : Bool) → Kept (cond b (looked_up c y.traced) y)
        go true = stood w c right y.traced.stream
        go false = place-keeps u.place u.traced x h

    next-same : (next_followed w c u x).traced ≡ next_state w u.traced x
    unfolding next_followed
    next-same = go (eqb (y.traced.stream.taken % stretch) 0)
      where
        go : (b : Bool) → (cond {A = Placed} b (looked_up c y.traced) y).traced ≡ next_state w u.traced x
        go true = place-next u.place u.traced x h
        go false = place-next u.place u.traced x h

  -- a stream with starts that follows the second table agrees with one that has none
  pub agree : Agree (following w c) (traced w) (λ u. u.traced) Kept (λ x. Unit {0})
  agree = record {
    keeps = λ u x q. next-keeps u x;
    next_is = λ u x q. next-same u x;
    reports_are = λ u x q. place-reports u.place u.traced x;
    cost_is = λ u h. refl;
  }
