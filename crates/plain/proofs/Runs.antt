-- A log, byte by byte: what the code keeps is what the definitions of specs/Run.antt say; and there
-- are never more reports than offsets.
use mathlib.Core.Path.{◌≡◌, refl, ap, ap₂, ◌∙◌}
use mathlib.Core.Bool.{Bool, true, false, cond, not, ◌&&◌}
use mathlib.Core.List.{List, [], ◌∷◌, ◌++◌}
use Prim.Native.Nat.{ℕ, zero, suc, ◌+◌, ◌≤◌, ◌<◌}
use native.Mathlib.Omega.{arith}
use lib.Dec.{eqb}
use lib.ListN.{length, get_or, replicate, length-append}
use Rattle.sets.specs.Set.{as_one}
use Rattle.meaning.specs.Form.{eps, take, check, seq, alt, plus, opt, positions}
use Rattle.meaning.specs.Rule.{Assertion, world}
use Rattle.meaning.specs.Automaton.{null}
use Rattle.marks.specs.Marks.{none, ends, moved}
use Rattle.marks.specs.Gaps.{inner_world, outer_world, taken}
use Rattle.plain.specs.Run.{before, after, marks_at, own_at, late_at, line_at, end_at, Hit, shown, inside, Choice, pick, up_to, closed, Lent}
use Rattle.pattern.specs.Windows.{windows_of}
use Rattle.nodes.specs.Invariants.{Written, form_at}
use Rattle.marks.specs.Invariants.{Took, Plays, Taking}
use Rattle.plain.specs.Invariants.{choice_of, due, Slots, Alike, Delivered, Both, Runs, Asks, Stands, Stepped, Closes, Closed, Ran}
use Rattle.marks.specs.declared.byte.Ends.{Ends}
use Rattle.plain.specs.declared.run.Taken.{Taken}
use Rattle.plain.specs.declared.run.Wanted.{Wanted}
use Rattle.plain.proofs.Reports.{delivered-few, delivered-alike, alike-back, alike-slots, fewer-slots, delivered-as}
use Rattle.marks.proofs.Skips.{when-none}
use Rattle.plain.proofs.Windows.{and-false, outside}

-- ---- no marks, no ends

quiet : (n q : ℕ) → q < n → get_or (replicate n none) q 0 ≡ none
quiet zero q h = absurd (omega arith)
quiet (suc n) zero h = refl
quiet (suc n) (suc q) h = quiet n q (omega arith)

ends-quiet : (w : Assertion → Bool) (f : Written) (b : ℕ) → b + positions f ≤ 256 → ends w f b (replicate 256 none) ≡ none
unfolding ends positions
ends-quiet w eps b h = refl
ends-quiet w (take c) b h = rw (quiet 256 b (omega arith))
ends-quiet w (check a) b h = refl
ends-quiet w (seq f g) b h = rw (ends-quiet w f b (omega arith), ends-quiet w g (b + positions f) (omega arith), when-none (null w g))
ends-quiet w (alt f g) b h = rw (ends-quiet w f b (omega arith), ends-quiet w g (b + positions f) (omega arith))
ends-quiet w (plus f) b h = ends-quiet w f b h
ends-quiet w (opt f) b h = ends-quiet w f b h

-- a report that is due counts one
pick-length : (c : Choice) (new : Bool) (e x : ℕ) → length (pick c new e x) ≡ as_one (new && inside c.1 e x)
pick-length c new e x = go (new && inside c.1 e x)
  where
    go : (b : Bool) → length {A = Hit} (cond b ((e, shown c.0 x) ∷ []) []) ≡ as_one b
    go true = refl
    go false = refl

both-low : (a b : Bool) → as_one (not a && b) ≤ as_one (not a)
both-low true b = omega arith
both-low false true = omega arith
both-low false false = omega arith

either-low : (a b c : Bool) → as_one (not a && b) + as_one ((not a && not b) && c) ≤ as_one (not a)
either-low true b c = omega arith
either-low false true c = omega arith
either-low false false true = omega arith
either-low false false false = omega arith

split_one : (a : Bool) → as_one a + as_one (not a) ≡ 1
split_one true = refl
split_one false = refl

split-low : (a b : Bool) → as_one a + as_one (not a && b) ≤ 1
split-low true b = omega arith
split-low false true = omega arith
split-low false false = omega arith

module _ (c : Choice) (bytes : List ℕ) (f : Written) (room : positions f ≤ 256) where
  abbrev let-in : (e x : ℕ) → Bool
  let-in e x = inside c.1 e x

  abbrev own : ℕ → Bool
  own k = let-in k (own_at bytes f k)

  abbrev late : ℕ → Bool
  late k = not (own k) && let-in k (late_at bytes f k)

  abbrev line : ℕ → Bool
  line k = (not (own k) && not (let-in k (late_at bytes f k))) && let-in k (line_at bytes f k)

  abbrev end : ℕ → Bool
  end k = not (own (suc k)) && let-in (suc k) (end_at bytes f k)

  two-length : (l : List Hit) (first second : Bool) (k e x y : ℕ)
      → length ((l ++ pick c first k x) ++ pick c second e y) ≡ length l + as_one (first && let-in k x) + as_one (second && let-in e y)
  two-length l first second k e x y =
      omega (arith, length-append (l ++ pick c first k x) (pick c second e y), length-append l (pick c first k x), pick-length c first k x, pick-length c second e y)

  up-length : (k : ℕ) → length (up_to c bytes f (suc k)) ≡ length (up_to c bytes f k) + as_one (late k) + as_one (own (suc k))
  unfolding up_to
  up-length k = two-length (up_to c bytes f k) (not (own k)) true k (suc k) (late_at bytes f k) (own_at bytes f (suc k))

  late-none : late_at bytes f 0 ≡ none
  unfolding late_at marks_at
  late-none = ends-quiet (world (before bytes f 0) (after bytes f 0) false) f 0 (omega arith)

  line-none : line_at bytes f 0 ≡ none
  unfolding line_at marks_at
  line-none = ends-quiet (world (before bytes f 0) (after bytes f 0) (eqb (get_or bytes 0 0) 10)) f 0 (omega arith)

  no-late : late 0 ≡ false
  no-late = and-false (not (own 0)) (let-in 0 (late_at bytes f 0)) (ap (let-in 0) late-none ∙ outside c.1 0 none (omega arith))

  no_line : line 0 ≡ false
  no_line = and-false (not (own 0) && not (let-in 0 (late_at bytes f 0))) (let-in 0 (line_at bytes f 0)) (ap (let-in 0) line-none ∙ outside c.1 0 none (omega arith))

  few : (k : ℕ) → length (up_to c bytes f k) + as_one (late k) ≤ k → length (up_to c bytes f (suc k)) + as_one (not (own (suc k))) ≤ suc k
  few k l = omega (arith, up-length k, split_one (own (suc k)))

  late-room : (k : ℕ) → length (up_to c bytes f k) + as_one (late k) ≤ k
  unfolding up_to
  late-room zero = omega (arith, ap as_one no-late)
  late-room (suc k) = omega (arith, few k (late-room k), both-low (own (suc k)) (let-in (suc k) (late_at bytes f (suc k))))

  pub step_room : (k : ℕ) → length (up_to c bytes f k) + as_one (late k) + as_one (own (suc k)) ≤ suc k
  step_room k = let l = late-room k in let s = split_one (own (suc k)) in omega arith

  pub up-short : (k : ℕ) → length (up_to c bytes f k) ≤ k
  up-short k = omega (arith, late-room k)

  pub close-room : (k : ℕ) → length (up_to c bytes f (suc k)) + as_one (line k) + as_one (end k) ≤ suc k
  unfolding up_to
  close-room zero = omega (arith, up-length zero, ap as_one no-late, ap as_one no_line, split-low (own 1) (let-in 1 (end_at bytes f 0)))
  close-room (suc k) =
      omega (arith, up-length (suc k), few k (late-room k), either-low (own (suc k)) (let-in (suc k) (late_at bytes f (suc k))) (let-in (suc k) (line_at bytes f (suc k))), split-low (own (suc (suc k))) (let-in (suc (suc k)) (end_at bytes f (suc k))))

  pub closed-short : (k : ℕ) → length (closed c bytes f (suc k)) ≤ suc k
  unfolding closed
  closed-short k =
      omega (arith, close-room k, two-length (up_to c bytes f (suc k)) (not (own k) && not (let-in k (late_at bytes f k))) (not (own (suc k))) k (suc k) (line_at bytes f k) (end_at bytes f k))

-- ---- what a byte brings

module _ {bytes : List ℕ} {f : Written} {k : ℕ} {ms ns : List ℕ} {r : Ends} (em : ms ≡ marks_at bytes f k) where
  module _ (x : Took f bytes k false ms ns r) where
    pub took-late : r.late ≡ late_at bytes f k
    unfolding late_at
    took-late = x.late ∙ ap (ends (inner_world bytes false k) f 0) em

    pub took-marks : ns ≡ marks_at bytes f (suc k)
    unfolding marks_at
    took-marks = x.marks ∙ ap (moved (inner_world bytes false k) (taken bytes k) f 0 k) em

    pub took-own : r.own ≡ own_at bytes f (suc k)
    unfolding own_at
    took-own = x.own ∙ ap (ends (outer_world bytes false k) f 0) took-marks

  module _ (x : Took f bytes k true ms ns r) where
    pub took-line : r.late ≡ line_at bytes f k
    unfolding line_at
    took-line = x.late ∙ ap (ends (inner_world bytes true k) f 0) em

    pub took-end : r.own ≡ end_at bytes f k
    unfolding end_at
    took-end = x.own ∙ ap (ends (outer_world bytes true k) f 0) (x.marks ∙ ap (moved (inner_world bytes true k) (taken bytes k) f 0 k) em)

-- ---- one byte more, and the closing

abbrev lets : Wanted → (e x : ℕ) → Bool
lets w e x = inside (windows_of w.bounds) e x

module _ {a : List ℕ} {root : ℕ} {ps : List ℕ} {rows : ℕ} {bytes : List ℕ} {k : ℕ} {old : Lent} (runs : Runs a root ps rows bytes (suc k) old) where
  abbrev form : Written
  form = form_at a root

  module _ {w : Wanted} {t : Taken} {ms ns : List ℕ} {r : Ends} {g : Bool} (stands : Stands form w bytes k ms t) (eg : g ≡ lets w k t.own)
      (x : Took form bytes k false ms ns r) where
    abbrev late' : r.late ≡ late_at bytes form k
    late' = took-late stands.marks x

    abbrev own' : r.own ≡ own_at bytes form (suc k)
    own' = took-own stands.marks x

    new' : not g ≡ not (lets w k (own_at bytes form k))
    new' = ap not (eg ∙ ap (lets w k) stands.own)

    pub step-slots : Slots old (t.count + as_one (due w (not g) k r.late) + as_one (due w true (suc k) r.own))
    step-slots =
        rw (new', late', own')
        (fewer-slots (omega (arith, stands.few, step_room (choice_of w) bytes form runs.room k, runs.within, runs.short)) runs.space)

    pub step_is : {c : ℕ} {now : Lent} → Both w (not g) true k r.late r.own t.count old c now
        → Stepped form w bytes k t old now ns (record { count = c; late = r.late; own = r.own })
    unfolding up_to
    step_is both = record {
      marks = took-marks stands.marks x;
      late = late';
      own = own';
      reports = λ start alike d. delivered-as
          (ap₂ (λ (l m : List Hit). (up_to (choice_of w) bytes form k ++ l) ++ m)
          (ap₂ (λ (b : Bool) (y : ℕ). pick (choice_of w) b k y) new' late') (ap (pick (choice_of w) true (suc k)) own'))
          (both (up_to (choice_of w) bytes form k) start alike d);
    }

  module _ {w : Wanted} {t : Taken} {prior : ℕ} {ms ns : List ℕ} {r : Ends} {g h i : Bool} (closes : Closes form w bytes k ms prior t)
      (eg : g ≡ lets w k prior) (eh : h ≡ lets w k t.late) (ei : i ≡ lets w (k + 1) t.own)
      (x : Took form bytes k true ms ns r) where
    abbrev line' : r.late ≡ line_at bytes form k
    line' = took-line closes.marks x

    abbrev end' : r.own ≡ end_at bytes form k
    end' = took-end closes.marks x

    first' : (not g && not h) ≡ (not (lets w k (own_at bytes form k)) && not (lets w k (late_at bytes form k)))
    first' = ap₂ (λ (p q : Bool). not p && not q) (eg ∙ ap (lets w k) closes.before) (eh ∙ ap (lets w k) closes.late)

    second' : not i ≡ not (lets w (suc k) (own_at bytes form (suc k)))
    second' = let e : k + 1 ≡ suc k = omega arith in ap not (ei ∙ ap₂ (λ (j y : ℕ). lets w j y) e closes.own)

    pub close-slots : Slots old (t.count + as_one (due w (not g && not h) k r.late) + as_one (due w (not i) (suc k) r.own))
    close-slots =
        rw (first', second', line', end')
        (fewer-slots (omega (arith, closes.few, close-room (choice_of w) bytes form runs.room k, runs.within, runs.short)) runs.space)

    pub close-is : {c : ℕ} {now : Lent} → Both w (not g && not h) (not i) k r.late r.own t.count old c now → Closed form w bytes k t old c now
    unfolding closed
    close-is both start alike d =
        delivered-as
        (ap₂ (λ (l m : List Hit). (up_to (choice_of w) bytes form (suc k) ++ l) ++ m)
        (ap₂ (λ (b : Bool) (y : ℕ). pick (choice_of w) b k y) first' line') (ap₂ (λ (b : Bool) (y : ℕ). pick (choice_of w) b (suc k) y) second' end'))
        (both (up_to (choice_of w) bytes form (suc k)) start alike d)

-- a run goes on with the lists as they are
pub runs_on : {a : List ℕ} {root : ℕ} {ps : List ℕ} {rows : ℕ} {bytes : List ℕ} {n m : ℕ} {old now : Lent} → Runs a root ps rows bytes n old → m ≤ length bytes → Alike now old → Runs a root ps rows bytes m now
runs_on r le alike = record { room = r.room; plays = r.plays; within = le; short = r.short; space = alike-slots alike r.space }

module _ {a : List ℕ} {root : ℕ} {ps : List ℕ} {rows : ℕ} {bytes : List ℕ} {n : ℕ} {old : Lent} (runs : Runs a root ps rows bytes n old) {w : Wanted} where
  pub up-alike : {k c : ℕ} {now : Lent} → k ≤ length bytes → Delivered w old now c (up_to (choice_of w) bytes (form_at a root) k) → Alike now old
  up-alike {k} le d =
      delivered-alike (fewer-slots (omega (arith, up-short (choice_of w) bytes (form_at a root) runs.room k, runs.short)) runs.space) d

  pub closed-alike : {k c : ℕ} {now : Lent} → suc k ≤ length bytes → Delivered w old now c (closed (choice_of w) bytes (form_at a root) (suc k)) → Alike now old
  closed-alike {k} le d =
      delivered-alike (fewer-slots (omega (arith, closed-short (choice_of w) bytes (form_at a root) runs.room k, runs.short)) runs.space) d

-- the last byte, and the closing
module _ {a : List ℕ} {root : ℕ} {ps : List ℕ} {rows : ℕ} {bytes : List ℕ} {w : Wanted} {k : ℕ} {old mid : Lent} {ms : List ℕ} {t : Taken} (runs : Runs a root ps rows bytes (length bytes) old)
    (last : suc k ≡ length bytes) (ran : Ran (form_at a root) w bytes k old mid ms t) where
  abbrev shape : Written
  shape = form_at a root

  mid-alike : Alike mid old
  mid-alike = up-alike runs (omega arith) ran.reports

  pub last_runs : Runs a root ps rows bytes (suc k) mid
  last_runs = runs_on runs (omega arith) mid-alike

  pub last-stands : Stands shape w bytes k ms t
  last-stands = record { marks = ran.marks; own = ran.own; few = delivered-few ran.reports }

  module _ {late : Lent} {ns : List ℕ} {s : Taken} (step : Stepped shape w bytes k t mid late ns s) where
    all_reports : Delivered w old late s.count (up_to (choice_of w) bytes shape (suc k))
    all_reports = step.reports old (alike-back mid-alike) ran.reports

    late-alike : Alike late old
    late-alike = up-alike runs (omega arith) all_reports

    pub closing-runs : Runs a root ps rows bytes (suc k) late
    closing-runs = runs_on runs (omega arith) late-alike

    pub closing-asks : Closes shape w bytes k ms t.own s
    closing-asks = record {
      marks = ran.marks;
      before = ran.own;
      late = step.late;
      own = step.own;
      few = delivered-few all_reports;
    }

    pub whole_is : {c : ℕ} {now : Lent} → Closed shape w bytes k s late c now → Delivered w old now c (closed (choice_of w) bytes shape (length bytes))
    whole_is close = delivered-as (ap (closed (choice_of w) bytes shape) last) (close old (alike-back late-alike) all_reports)

    pub whole-alike : {c : ℕ} {now : Lent} → Closed shape w bytes k s late c now → Alike now old
    whole-alike close = closed-alike runs (omega arith) (close old (alike-back late-alike) all_reports)

-- a byte that the run has still to take
pub taking : {a : List ℕ} {root : ℕ} {ps : List ℕ} {rows : ℕ} {bytes : List ℕ} {k : ℕ} {old : Lent} → Runs a root ps rows bytes (suc k) old → Taking a root ps rows bytes k
taking r = (r.plays, r.within, r.short)

-- the rule is written out
pub asked-runs : {a : List ℕ} {root : ℕ} {ps : List ℕ} {rows : ℕ} {bytes : List ℕ} {old : Lent} → Asks a root bytes old → Plays a root ps rows
    → Runs a root ps rows bytes (length bytes) old
asked-runs asks plays = record { room = asks.room; plays = plays; within = omega arith; short = asks.short; space = asks.space }
