-- A second table that is right changes nothing. It is right where each entry leads to the state
-- that the old way gives, with the rules that it ends (`Right`); a stream that follows it then
-- gives what a stream without it gives, byte by byte, from every state.
use mathlib.Core.Path.{◌≡◌, refl, sym, ap, ◌∙◌}
use mathlib.Core.Bool.{Bool, true, false, true≢false, cond, ◌&&◌, and-false, and-eq-true_iff}
use mathlib.Core.List.{List}
use Prim.Native.Nat.{ℕ, suc, ◌+◌, ◌%◌, ◌<◌}
use native.Mathlib.Omega.{arith}
use lib.Dec.{eqb, leb, ltb}
use borrow.Author.Tests.{leb-true, ltb-true, ne_eqb, eqb-true, eqb-false}
use Rattle.sets.specs.Set.{on, empty_set}
use Rattle.kinds.specs.declared.Side.{Side}
use Rattle.kinds.specs.declared.Side.TheVariants.{Newline}
use Rattle.kinds.specs.Side.{side_of}
use Rattle.kinds.proofs.Sides.{side_same}
use Rattle.table.specs.Gaps.{between, before_last, unsettled}
use Rattle.table.specs.Automaton.{Automaton}
use Rattle.steps.specs.Step.{stepped, ends, ends_newly, late_in, rules_where}
use Rattle.stream.specs.declared.Stream.{Stream}
use Rattle.stream.specs.Byte.{next_live, next_held, next_pending, late_test, own_test, given, two_reports, byte_reports, byte_state, plain}
use Rattle.stream.proofs.TwoRuns.{two-ext, two-marks-ext}
use Rattle.stream.proofs.Machines.{Agree}
use Rattle.steps.proofs.Steps.{next-quiet}
use Rattle.second.specs.Layout.{entries_of, entry_live, entry_held, entry_pending, entry_last, entry_busy, names_entry, row_of, entry_in, is_loud, target_word}
use Rattle.second.specs.Entries.{same_words, first_of}
use Rattle.following.specs.Follow.{Place, at, resting, away, Placed, stretch, same_bool, leads, next_entry, late_rules, own_rules, arrives, rest_entry, is_at, standing, looked_up, late_by, own_by, step_to, by_entry, reports_by_entry, next_at, reports_at, next_followed, following}
use Rattle.second.proofs.Searching.{first_passes, words_same}

-- ---- a state that stands at an entry

pub record Stands (c : List ℕ) (s : Stream) (e : ℕ) : Type 0 where
  pub first_is : eqb e 0 ≡ eqb s.taken 0
  pub live_is : entry_live c e ≡ s.live
  pub last_is : entry_last c e ≡ s.last

bool_same : (a b : Bool) → same_bool a b ≡ true → a ≡ b
bool_same true true e = refl
bool_same true false e = absurd (true≢false (sym e))
bool_same false true e = absurd (true≢false (sym e))
bool_same false false e = refl

stands_at : (c : List ℕ) (s : Stream) (e : ℕ) → is_at c s e ≡ true → Stands c s e
unfolding is_at
stands_at c s e h =
    let p = (and-eq-true_iff (same_bool (eqb e 0) (eqb s.taken 0)) _).0 h in
    let q = (and-eq-true_iff (same_words (entry_live c e) s.live) _).0 p.1 in
    record {
      first_is = bool_same (eqb e 0) (eqb s.taken 0) p.0;
      live_is = words_same (entry_live c e) s.live q.0;
      last_is = side_same (entry_last c e) s.last q.1;
    }

-- ---- a second table that is right

-- what byte x leads to from entry e, for a state that stands there
pub record LeadsRight (w : Automaton) (c : List ℕ) (s : Stream) (e x : ℕ) : Type 0 where
  pub live_is : entry_live c (next_entry c e x) ≡ next_live w s x
  pub held_is : entry_held c (next_entry c e x) ≡ next_held w s x
  pub pending_is : entry_pending c (next_entry c e x) ≡ next_pending w s x
  pub last_is : entry_last c (next_entry c e x) ≡ side_of x
  pub later : eqb (next_entry c e x) 0 ≡ false
  pub late_is : (a : ℕ) → a < w.rules → on (late_rules c e x) a ≡ ends_newly w (between s.last (side_of x)) (late_in w s.live) unsettled s.live a
  pub own_is : (a : ℕ) → a < w.rules → on (own_rules c e x) a ≡ ends w unsettled (next_live w s x) a

pub record Right (w : Automaton) (c : List ℕ) : Type 0 where
  pub leads_right : (s : Stream) (e x : ℕ) → Stands c s e → leads c e x ≡ true → LeadsRight w c s e x
  -- nothing is live where the busy figure is 0
  pub idle : (e : ℕ) → e < entries_of c → entry_busy c e ≡ 0 → entry_live c e ≡ empty_set
  -- the entries at rest
  pub rest_last : (side : Side) → rest_entry c side < entries_of c → entry_last c (rest_entry c side) ≡ side
  pub rest_later : (side : Side) → rest_entry c side < entries_of c → eqb (rest_entry c side) 0 ≡ false
  pub rest_live : (side : Side) → rest_entry c side < entries_of c → entry_live c (rest_entry c side) ≡ empty_set

-- ---- one byte

-- a word that names an entry names one of them
pub named-inside : (n word : ℕ) → names_entry n word ≡ true → entry_in word < n
unfolding names_entry
named-inside n word e =
    let both = (and-eq-true_iff (leb 16 (row_of word)) (ltb (row_of word) (16 + n))).0 e in
    omega (arith, leb-true 16 (row_of word) both.0, ltb-true (row_of word) (16 + n) both.1)

pub some_byte : (n : ℕ) → eqb (suc n) 0 ≡ false
some_byte n = ne_eqb (suc n) 0 (λ q. absurd (omega (arith, q)))

-- no pair is held before the second byte
none_first : (w : Automaton) (s : Stream) (x : ℕ) → cond (eqb s.taken 0) 0 (next_pending w s x) ≡ next_pending w s x
unfolding next_pending
none_first w s x = go (eqb s.taken 0) refl
  where
    pairs : ℕ
    pairs = rules_where w (ends_newly w (before_last s.last) s.live (between s.last Newline) s.live)

    go : (b : Bool) → eqb s.taken 0 ≡ b → cond b 0 (cond (eqb x 10 && ltb 0 s.taken) pairs 0) ≡ cond (eqb x 10 && ltb 0 s.taken) pairs 0
    go true e = sym (ap (λ (n : ℕ). cond (eqb x 10 && ltb 0 n) pairs 0) (eqb-true s.taken 0 e) ∙ ap (λ (b : Bool). cond b pairs 0) (and-false (eqb x 10)))
    go false e = refl

module _ (w : Automaton) (c : List ℕ) (right : Right w c) where
  -- what holds of a followed stream where it stands
  abbrev pub KeptAt : Place → Stream → Type 0
  KeptAt (at e) s = Stands c s e
  KeptAt resting s = (s.live ≡ empty_set) × (eqb s.taken 0 ≡ false)
  KeptAt away s = Unit {0}

  abbrev pub Kept : Placed → Type 0
  Kept z = KeptAt z.place z.stream

  pub stood : (s : Stream) → KeptAt (standing c s) s
  unfolding standing
  stood s = go (ltb (first_of (entries_of c) (is_at c s)) (entries_of c)) refl
    where
      go : (b : Bool) → ltb (first_of (entries_of c) (is_at c s)) (entries_of c) ≡ b → KeptAt (cond b (at (first_of (entries_of c) (is_at c s))) away) s
      go true e = stands_at c s (first_of (entries_of c) (is_at c s)) (first_passes (entries_of c) (is_at c s) (ltb-true (first_of (entries_of c) (is_at c s)) (entries_of c) e))
      go false e = tt

  -- ---- by an entry

  module _ (e : ℕ) (s : Stream) (x : ℕ) (stands : leads c e x ≡ true → Stands c s e) where
    abbrev r : leads c e x ≡ true → LeadsRight w c s e x
    r l = right.leads_right s e x (stands l) l

    pub late-same : (l : leads c e x ≡ true) (a : ℕ) → a < w.rules → late_by w c s e x a ≡ late_test w s x a
    late-same l a h = ap (λ (b : Bool). b && w.inside a s.taken) ((r l).late_is a h)

    pub own_same : (l : leads c e x ≡ true) (a : ℕ) → a < w.rules → own_by w c s e x a ≡ own_test w s x a
    own_same l a h = ap (λ (b : Bool). b && w.inside a (suc s.taken)) ((r l).own_is a h)

    pub step_same : leads c e x ≡ true → step_to w c s e x ≡ byte_state w s x
    unfolding step_to byte_state
    step_same l =
        λ i. record {
          live = (r l).live_is i;
          held = (r l).held_is i;
          reported = two-marks-ext w (late_by w c s e x) (late_test w s x) (own_by w c s e x) (own_test w s x) s.reported (late-same l) (own_same l) i;
          pending = (ap (cond (eqb s.taken 0) 0) (r l).pending_is ∙ none_first w s x) i;
          last = (r l).last_is i;
          taken = suc s.taken;
          rules = s.rules;
          positions = s.positions;
          closed = s.closed;
        }

    inside : leads c e x ≡ true → next_entry c e x < entries_of c
    unfolding leads
    inside l = named-inside (entries_of c) (target_word c e x) ((and-eq-true_iff (ltb e (entries_of c)) (names_entry (entries_of c) (target_word c e x))).0 l).1

    pub arrived : leads c e x ≡ true → KeptAt (arrives c e x) (step_to w c s e x)
    unfolding arrives step_to
    arrived l = go (is_loud (target_word c e x)) (eqb (entry_busy c e) 0) (eqb (entry_busy c (next_entry c e x)) 0) refl
      where
        there : Stands c (step_to w c s e x) (next_entry c e x)
        there = record { first_is = (r l).later ∙ sym (some_byte s.taken); live_is = refl; last_is = refl }

        go : (p q d : Bool) → eqb (entry_busy c (next_entry c e x)) 0 ≡ d → KeptAt (cond (p && (q && d)) resting (at (next_entry c e x))) (step_to w c s e x)
        go true true true z = (right.idle (next_entry c e x) (inside l) (eqb-true (entry_busy c (next_entry c e x)) 0 z), some_byte s.taken)
        go true true false z = there
        go true false d z = there
        go false q d z = there

    pub entry-keeps : KeptAt (by_entry w c e s x).place (by_entry w c e s x).stream
    unfolding by_entry
    entry-keeps = go (leads c e x) refl
      where
        go : (b : Bool) → leads c e x ≡ b → Kept (cond b (record { stream = step_to w c s e x; place = arrives c e x }) (record { stream = byte_state w s x; place = away }))
        go true l = arrived l
        go false l = tt

    pub entry_next : (by_entry w c e s x).stream ≡ byte_state w s x
    unfolding by_entry
    entry_next = go (leads c e x) refl
      where
        go : (b : Bool) → leads c e x ≡ b → (cond {A = Placed} b (record { stream = step_to w c s e x; place = arrives c e x }) (record { stream = byte_state w s x; place = away })).stream ≡ byte_state w s x
        go true l = step_same l
        go false l = refl

    pub entry-reports : reports_by_entry w c e s x ≡ byte_reports w s x
    unfolding reports_by_entry byte_reports
    entry-reports = go (leads c e x) refl
      where
        go : (b : Bool) → leads c e x ≡ b
            → cond b (two_reports w (late_by w c s e x) (own_by w c s e x) s.reported (given w s.taken) (given w (suc s.taken))) (byte_reports w s x) ≡ byte_reports w s x
        go true l = two-ext w (late_by w c s e x) (late_test w s x) (own_by w c s e x) (own_test w s x) s.reported (late-same l) (own_same l) (given w s.taken) (given w (suc s.taken))
        go false l = refl

  -- ---- at rest

  module _ (s : Stream) (x : ℕ) (h : KeptAt resting s) where
    -- at the entry that is there for the side of the last byte
    pub rest-stands : leads c (rest_entry c s.last) x ≡ true → Stands c s (rest_entry c s.last)
    unfolding leads
    rest-stands l =
        let e : ℕ = rest_entry c s.last in
        let inside = ltb-true e (entries_of c) ((and-eq-true_iff (ltb e (entries_of c)) (names_entry (entries_of c) (target_word c e x))).0 l).0 in
        record {
          first_is = right.rest_later s.last inside ∙ sym h.1;
          live_is = right.rest_live s.last inside ∙ sym h.0;
          last_is = right.rest_last s.last inside;
        }

    -- a byte with which no match can begin
    pub still : w.opens x ≡ false → next_live w s x ≡ empty_set
    still o =
        ap (λ (l : List ℕ). stepped w false s.last (side_of x) w.positions l s.taken x) h.0
        ∙ next-quiet w s.last (side_of x) w.positions s.taken x (omega (arith, eqb-false s.taken 0 h.1)) o

    rest-keeps : KeptAt (next_at w c resting s x).place (next_at w c resting s x).stream
    unfolding next_at byte_state
    rest-keeps = go (w.opens x) refl
      where
        go : (b : Bool) → w.opens x ≡ b → Kept (cond b (by_entry w c (rest_entry c s.last) s x) (record { stream = byte_state w s x; place = resting }))
        go true o = entry-keeps (rest_entry c s.last) s x rest-stands
        go false o = (still o, some_byte s.taken)

    rest-next : (next_at w c resting s x).stream ≡ byte_state w s x
    unfolding next_at
    rest-next = go (w.opens x)
      where
        go : (b : Bool) → (cond {A = Placed} b (by_entry w c (rest_entry c s.last) s x) (record { stream = byte_state w s x; place = resting })).stream ≡ byte_state w s x
        go true = entry_next (rest_entry c s.last) s x rest-stands
        go false = refl

    rest-reports : reports_at w c resting s x ≡ byte_reports w s x
    unfolding reports_at
    rest-reports = go (w.opens x)
      where
        go : (b : Bool) → cond b (reports_by_entry w c (rest_entry c s.last) s x) (byte_reports w s x) ≡ byte_reports w s x
        go true = entry-reports (rest_entry c s.last) s x rest-stands
        go false = refl

  -- ---- wherever it stands

  place-keeps : (p : Place) (s : Stream) (x : ℕ) → KeptAt p s → Kept (next_at w c p s x)
  unfolding next_at
  place-keeps (at e) s x h = entry-keeps e s x (λ l. h)
  place-keeps resting s x h = rest-keeps s x h
  place-keeps away s x h = tt

  place-next : (p : Place) (s : Stream) (x : ℕ) → KeptAt p s → (next_at w c p s x).stream ≡ byte_state w s x
  unfolding next_at
  place-next (at e) s x h = entry_next e s x (λ l. h)
  place-next resting s x h = rest-next s x h
  place-next away s x h = refl

  place-reports : (p : Place) (s : Stream) (x : ℕ) → KeptAt p s → reports_at w c p s x ≡ byte_reports w s x
  unfolding reports_at
  place-reports (at e) s x h = entry-reports e s x (λ l. h)
  place-reports resting s x h = rest-reports s x h
  place-reports away s x h = refl

  -- looked up again or not
  module _ (z : Placed) (x : ℕ) (h : Kept z) where
    abbrev y : Placed
    y = next_at w c z.place z.stream x

    next-keeps : Kept (next_followed w c z x)
    unfolding next_followed
    next-keeps = go (eqb (y.stream.taken % stretch) 0)
      where
        go : (b : Bool) → Kept (cond b (looked_up c y.stream) y)
        go true = stood y.stream
        go false = place-keeps z.place z.stream x h

    next-same : (next_followed w c z x).stream ≡ byte_state w z.stream x
    unfolding next_followed
    next-same = go (eqb (y.stream.taken % stretch) 0)
      where
        go : (b : Bool) → (cond {A = Placed} b (looked_up c y.stream) y).stream ≡ byte_state w z.stream x
        go true = place-next z.place z.stream x h
        go false = place-next z.place z.stream x h

  -- a stream that follows the second table agrees with one that has none
  pub agree : Agree (following w c) (plain w) (λ z. z.stream) Kept (λ x. Unit {0})
  agree = record {
    keeps = λ z x q. next-keeps z x;
    next_is = λ z x q. next-same z x;
    reports_are = λ z x q. place-reports z.place z.stream x;
    cost_is = λ z h. refl;
  }
