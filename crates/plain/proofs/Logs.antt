-- What the starts of a log mean: the windows let the least one through exactly if the pair is
-- settled at its moment, and then it is the report's start. The marks over the definitions of
-- specs/Run.antt are those of the text that is seen at a moment, since what is known at the gaps
-- before is the same. Assumes nothing.
use mathlib.Core.Path.{◌≡◌, refl, sym, subst, subst₂, ap, ap₂, ◌∙◌, fun_ext}
use mathlib.Core.Logic.{◌↔◌}
use mathlib.Core.Bool.{Bool, true, false, cond, ◌&&◌}
use mathlib.Core.List.{List, [], ◌∷◌}
use Prim.Native.Nat.{ℕ, zero, suc, ◌+◌, ◌≤◌, ◌<◌}
use native.Mathlib.Omega.{arith}
use borrow.Author.Tests.{lt-ltb}
use lib.Dec.{T, eqb, leb, leb→le, le→leb}
use lib.ListN.{length, get_or, take, drop, length-replicate, get_or-replicate, length-drop, drop_of_length-le}
use lib.Seq.{length-take-le, take_all, take-take, drop-cons, get_or-take}
use Rattle.sets.specs.Set.{has}
use Rattle.kinds.specs.Side.{side_of}
use Rattle.meaning.specs.Tree.{Text, Means}
use Rattle.meaning.specs.Form.{Form, write, positions}
use Rattle.meaning.specs.Gap.{last_line, Known, byte, edge, unknown, known_before, known_after}
use Rattle.meaning.specs.Rule.{Rule, Assertion, world, ByteSet, stream}
use Rattle.meaning.specs.Ordered.{closing_moment, end_known, seen, SettledFrom, Settled, StartIs}
use Rattle.meaning.proofs.Local.{reach-up}
use Rattle.meaning.proofs.Logic.{and_T}
use Rattle.meaning.proofs.Written.{written, unwritten}
use Rattle.meaning.proofs.Base.{more_bytes, next_known}
use Rattle.meaning.proofs.Moments.{before-closing}
use Rattle.marks.specs.Marks.{none, ends, moved}
use Rattle.marks.specs.Gaps.{taken}
use Rattle.plain.specs.Run.{before, after, marks_at, own_at, late_at, line_at, end_at, shown, inside}
use Rattle.marks.proofs.Least.{Least, least_iff, least-as, least-none}
use Rattle.marks.proofs.Moving.{moved-long}
use Rattle.marks.proofs.Meaning.{Held, Ends, ends-least, moved-held}

-- a way comes to the rule at its own start
abbrev Starts : ℕ → ℕ → Type 0
Starts s m = s ≡ m

module _ (bytes : List ℕ) (r : Rule) (room : positions (write r.tree) ≤ 256) (short : length bytes ≤ 1024) where
  abbrev f : Form ByteSet Assertion
  f = write r.tree

  abbrev n : ℕ
  n = length bytes

  abbrev inner : ℕ → Bool → Assertion → Bool
  inner k z = world (before bytes f k) (after bytes f k) z

  marks-long : (k : ℕ) → length (marks_at bytes f k) ≡ 256
  unfolding marks_at
  marks-long zero = length-replicate 256 none
  marks-long (suc k) = moved-long (inner k false) (taken bytes k) f 0 k (marks_at bytes f k) ∙ marks-long k

  at_once : (k : ℕ) → Least (λ s. Starts s k) k
  at_once k = record { found = λ h. refl; least = λ s e. omega arith }

  -- a text that knows the gaps and bytes before k as the log does
  abbrev Agrees : Text ByteSet Assertion → ℕ → Type 0
  Agrees t k = (j : ℕ) → j < k → (◌≡◌ {A = Assertion → Bool} (λ a. t.known a j) (inner j false)) × (◌≡◌ {A = ByteSet → Bool} (λ c. t.hit c j) (taken bytes j))

  held : (t : Text ByteSet Assertion) (k : ℕ) → Agrees t k → Held t Starts f 0 k (marks_at bytes f k)
  unfolding marks_at
  held t zero agree = λ q i.
      least-as (get_or-replicate 256 q none 0 (omega arith)) (least-none (λ s x. omega (arith, reach-up t f 0 x.0 q 0 x.2)))
  held t (suc k) agree =
      subst₂ (λ (w : Assertion → Bool) (h : ByteSet → Bool). Held t Starts f 0 (suc k) (moved w h f 0 k (marks_at bytes f k)))
      (agree k (omega arith)).0 (agree k (omega arith)).1
      (moved-held t k f 0 Starts k (marks_at bytes f k) (omega (arith, marks-long k)) (held t k (λ j l. agree j (omega arith))) (at_once k))

  -- a start of a match that is settled at moment m and ends at e
  abbrev pub StartAt : (m e s : ℕ) → Type 0
  StartAt = SettledFrom bytes r

  start-least : (m e x : ℕ) → Least (Ends (seen bytes m) e Starts f) x → Least (StartAt m e) x
  start-least m e x l =
      least_iff (λ s. (
        λ y. (
          subst (λ (j : ℕ). j < e) (sym y.2) y.1,
          subst (λ (j : ℕ). Means (seen bytes m) r.tree j e) (sym y.2) (unwritten (seen bytes m) r.tree y.0 e y.3),
        ),
        λ y. (s, y.0, refl, written (seen bytes m) r.tree s e y.1),
      )) l

  -- the windows let the least start through exactly if the pair is settled
  settled-iff : (m e x : ℕ) → e ≤ 1024 → Least (StartAt m e) x → T (inside r.windows e x) ↔ Settled bytes r m e
  settled-iff m e x small l = (
    λ h.
        let p = (and_T (leb r.windows.smallest_end e && leb e r.windows.largest_end) (leb (x + r.windows.smallest_length) e)).0 h in
        let q = (and_T (leb r.windows.smallest_end e) (leb e r.windows.largest_end)).0 p.0 in
        let long : x + r.windows.smallest_length ≤ e = leb→le (x + r.windows.smallest_length) e p.1 in
        let y = l.found (omega arith) in
        record { start = x; earlier = y.0; matched = y.1; inside = (leb→le r.windows.smallest_end e q.0, leb→le e r.windows.largest_end q.1, long) },
    λ h.
        let low : x ≤ h.start = l.least h.start (h.earlier, h.matched) in
        let i = h.inside in
        (and_T (leb r.windows.smallest_end e && leb e r.windows.largest_end) (leb (x + r.windows.smallest_length) e)).1 (
          (and_T (leb r.windows.smallest_end e) (leb e r.windows.largest_end)).1 (le→leb r.windows.smallest_end e i.0, le→leb e r.windows.largest_end i.1),
          le→leb (x + r.windows.smallest_length) e (omega (arith, low, i.2)),
        ),
  )

  -- and then it is the start of the report
  started : (m e x : ℕ) → e ≤ 1024 → Least (StartAt m e) x → T (inside r.windows e x) → StartIs bytes r m e (shown r.starts x)
  started m e x small l h =
      let long = leb→le (x + r.windows.smallest_length) e ((and_T (leb r.windows.smallest_end e && leb e r.windows.largest_end) (leb (x + r.windows.smallest_length) e)).0 h).1 in
      go r.starts refl (omega arith)
    where
      go : (b : Bool) → r.starts ≡ b → x < none → StartIs bytes r m e (cond b x 0)
      go true q lt = record {
        leftmost = λ t. record { there = l.found lt; least = λ u y. l.least u y };
        without = λ n. absurd (n (subst T (sym q) tt));
      }
      go false q lt = record { leftmost = λ t. absurd (subst T q t); without = λ n. refl }

  -- ---- while the stream may go on

  known-open : (m j : ℕ) → m ≤ n → j < m → ◌≡◌ {A = Assertion → Bool} (λ a. (seen bytes m).known a j) (inner j false)
  known-open m j le lt =
      let end : end_known bytes m ≡ false = before-closing bytes m le in
      let prefix : take j (take m bytes) ≡ take j bytes = take-take j m bytes (omega arith) in
      let next : known_after (drop j (take m bytes)) false ≡ after bytes f j =
      next_known (take m bytes) j false (omega (arith, length-take-le m bytes le)) ∙ ap (λ (x : ℕ). byte (side_of x)) (get_or-take m bytes j 0 lt) in
      fun_ext (λ a.
      ap (λ (z : Bool). world (known_before (take j (take m bytes))) (known_after (drop j (take m bytes)) z) (z && last_line (drop j (take m bytes))) a) end
      ∙ ap₂ (λ (l : List ℕ) (k : Known). world (known_before l) k false a) prefix next)

  hit-open : (m j : ℕ) → m ≤ n → j < m → ◌≡◌ {A = ByteSet → Bool} (λ c. (seen bytes m).hit c j) (taken bytes j)
  hit-open m j le lt =
      fun_ext (λ c.
      ap (λ (z : Bool). z && has c (get_or (take m bytes) j 0)) (lt-ltb j (length (take m bytes)) (omega (arith, length-take-le m bytes le)))
      ∙ ap (has c) (get_or-take m bytes j 0 lt))

  agrees-open : (m k : ℕ) → m ≤ n → k ≤ m → Agrees (seen bytes m) k
  agrees-open m k le l j lt = (known-open m j le (omega arith), hit-open m j le (omega arith))

  last-open : (e : ℕ) → e ≤ n → ◌≡◌ {A = Assertion → Bool} (λ a. (seen bytes e).known a e) (world (before bytes f e) unknown false)
  last-open e le =
      let end : end_known bytes e ≡ false = before-closing bytes e le in
      let prefix : take e (take e bytes) ≡ take e bytes = take-take e e bytes (omega arith) in
      let rest : drop e (take e bytes) ≡ [] = drop_of_length-le (take e bytes) {i = e} (omega (arith, length-take-le e bytes le)) in
      fun_ext (λ a.
      ap (λ (z : Bool). world (known_before (take e (take e bytes))) (known_after (drop e (take e bytes)) z) (z && last_line (drop e (take e bytes))) a) end
      ∙ ap₂ (λ (l k : List ℕ). world (known_before l) (known_after k false) false a) prefix rest)

  -- a pair with its last byte ..
  pub own-start : (k : ℕ) → suc k ≤ n → Least (StartAt (suc k) (suc k)) (own_at bytes f (suc k))
  unfolding own_at
  own-start k le =
      start-least (suc k) (suc k) (ends (world (before bytes f (suc k)) unknown false) f 0 (marks_at bytes f (suc k)))
      (subst (λ (w : Assertion → Bool). Least (Ends (seen bytes (suc k)) (suc k) Starts f) (ends w f 0 (marks_at bytes f (suc k)))) (last-open (suc k) le)
      (ends-least (seen bytes (suc k)) (suc k) f 0 Starts (marks_at bytes f (suc k)) (held (seen bytes (suc k)) (suc k) (agrees-open (suc k) (suc k) le (omega arith)))))

  own-all : (e : ℕ) → e ≤ n → Least (StartAt e e) (own_at bytes f e)
  unfolding own_at
  own-all zero le = least-none (λ s y. omega (arith, y.0))
  own-all (suc k) le = own-start k le

  pub own-iff : (e : ℕ) → e ≤ n → T (inside r.windows e (own_at bytes f e)) ↔ Settled bytes r e e
  own-iff e le = settled-iff e e (own_at bytes f e) (omega arith) (own-all e le)

  pub own_is : (e : ℕ) → e ≤ n → T (inside r.windows e (own_at bytes f e)) → StartIs bytes r e e (shown r.starts (own_at bytes f e))
  own_is e le = started e e (own_at bytes f e) (omega arith) (own-all e le)

  -- .. and with the next one
  pub late-start : (e : ℕ) → e < n → Least (StartAt (suc e) e) (late_at bytes f e)
  unfolding late_at
  late-start e lt =
      start-least (suc e) e (ends (inner e false) f 0 (marks_at bytes f e))
      (subst (λ (w : Assertion → Bool). Least (Ends (seen bytes (suc e)) e Starts f) (ends w f 0 (marks_at bytes f e))) (known-open (suc e) e lt (omega arith))
      (ends-least (seen bytes (suc e)) e f 0 Starts (marks_at bytes f e) (held (seen bytes (suc e)) e (agrees-open (suc e) e lt (omega arith)))))

  pub late-iff : (e : ℕ) → e < n → T (inside r.windows e (late_at bytes f e)) ↔ Settled bytes r (suc e) e
  late-iff e lt = settled-iff (suc e) e (late_at bytes f e) (omega arith) (late-start e lt)

  pub late_is : (e : ℕ) → e < n → T (inside r.windows e (late_at bytes f e)) → StartIs bytes r (suc e) e (shown r.starts (late_at bytes f e))
  late_is e lt = started (suc e) e (late_at bytes f e) (omega arith) (late-start e lt)

  -- ---- at the closing

  ended : end_known bytes (suc n) ≡ true
  ended = lt-ltb n (suc n) (omega arith)

  all : take (suc n) bytes ≡ bytes
  all = take_all (suc n) bytes (omega arith)

  whole : seen bytes (suc n) ≡ stream bytes true
  whole = ap₂ stream all ended

  known-closing : (j : ℕ) (z : Bool) → j < n → last_line (drop j bytes) ≡ z → ◌≡◌ {A = Assertion → Bool} (λ a. (stream bytes true).known a j) (inner j z)
  known-closing j z lt e =
      fun_ext (λ a. ap₂ (λ (k : Known) (y : Bool). world (known_before (take j bytes)) k y a) (next_known bytes j true lt) e)

  hit-closing : (j : ℕ) → j < n → ◌≡◌ {A = ByteSet → Bool} (λ c. (stream bytes true).hit c j) (taken bytes j)
  hit-closing j lt = fun_ext (λ c. ap (λ (z : Bool). z && has c (get_or bytes j 0)) (lt-ltb j n lt))

  agrees-closing : (k : ℕ) → suc k ≤ n → Agrees (stream bytes true) k
  agrees-closing k le j lt = (known-closing j false (omega arith) (more_bytes (drop j bytes) (omega (arith, length-drop j bytes))), hit-closing j (omega arith))

  module _ (k : ℕ) (last : suc k ≡ n) where
    abbrev z : Bool
    z = eqb (get_or bytes k 0) 10

    one_left : last_line (drop k bytes) ≡ z
    one_left =
        let none_left : drop (suc k) bytes ≡ [] = drop_of_length-le bytes {i = suc k} (omega arith) in
        ap last_line (drop-cons bytes k 0 (omega arith) ∙ ap (λ (l : List ℕ). get_or bytes k 0 ∷ l) none_left)

    open-marks : Held (stream bytes true) Starts f 0 k (marks_at bytes f k)
    open-marks = held (stream bytes true) k (agrees-closing k (omega arith))

    by_whole : (e x : ℕ) → Least (Ends (stream bytes true) e Starts f) x → Least (Ends (seen bytes (suc n)) e Starts f) x
    by_whole e x l = subst (λ (t : Text ByteSet Assertion). Least (Ends t e Starts f) x) (sym whole) l

    pub line_start : Least (StartAt (closing_moment bytes) k) (line_at bytes f k)
    unfolding line_at
    line_start =
        start-least (suc n) k (ends (inner k z) f 0 (marks_at bytes f k))
        (by_whole k (ends (inner k z) f 0 (marks_at bytes f k))
        (subst (λ (w : Assertion → Bool). Least (Ends (stream bytes true) k Starts f) (ends w f 0 (marks_at bytes f k))) (known-closing k z (omega arith) one_left)
        (ends-least (stream bytes true) k f 0 Starts (marks_at bytes f k) open-marks)))

    pub line-iff : T (inside r.windows k (line_at bytes f k)) ↔ Settled bytes r (closing_moment bytes) k
    line-iff = settled-iff (suc n) k (line_at bytes f k) (omega arith) line_start

    pub line-is : T (inside r.windows k (line_at bytes f k)) → StartIs bytes r (closing_moment bytes) k (shown r.starts (line_at bytes f k))
    line-is = started (suc n) k (line_at bytes f k) (omega arith) line_start

    abbrev final : List ℕ
    final = moved (inner k z) (taken bytes k) f 0 k (marks_at bytes f k)

    final-held : Held (stream bytes true) Starts f 0 (suc k) (moved (inner k z) (taken bytes k) f 0 k (marks_at bytes f k))
    final-held =
        subst₂ (λ (w : Assertion → Bool) (h : ByteSet → Bool). Held (stream bytes true) Starts f 0 (suc k) (moved w h f 0 k (marks_at bytes f k)))
        (known-closing k z (omega arith) one_left) (hit-closing k (omega arith))
        (moved-held (stream bytes true) k f 0 Starts k (marks_at bytes f k) (omega (arith, marks-long k)) open-marks (at_once k))

    known-end : ◌≡◌ {A = Assertion → Bool} (λ a. (stream bytes true).known a (suc k)) (world (before bytes f (suc k)) edge true)
    known-end =
        let none_left : drop (suc k) bytes ≡ [] = drop_of_length-le bytes {i = suc k} (omega arith) in
        fun_ext (λ a. ap (λ (l : List ℕ). world (before bytes f (suc k)) (known_after l true) (last_line l) a) none_left)

    pub end-start : Least (StartAt (closing_moment bytes) (suc k)) (end_at bytes f k)
    unfolding end_at
    end-start =
        start-least (suc n) (suc k) (ends (world (before bytes f (suc k)) edge true) f 0 final)
        (by_whole (suc k) (ends (world (before bytes f (suc k)) edge true) f 0 final)
        (subst (λ (w : Assertion → Bool). Least (Ends (stream bytes true) (suc k) Starts f) (ends w f 0 (moved (inner k z) (taken bytes k) f 0 k (marks_at bytes f k)))) known-end
        (ends-least (stream bytes true) (suc k) f 0 Starts (moved (inner k z) (taken bytes k) f 0 k (marks_at bytes f k)) final-held)))

    pub end-iff : T (inside r.windows (suc k) (end_at bytes f k)) ↔ Settled bytes r (closing_moment bytes) (suc k)
    end-iff = settled-iff (suc n) (suc k) (end_at bytes f k) (omega arith) end-start

    pub end_is : T (inside r.windows (suc k) (end_at bytes f k)) → StartIs bytes r (closing_moment bytes) (suc k) (shown r.starts (end_at bytes f k))
    end_is = started (suc n) (suc k) (end_at bytes f k) (omega arith) end-start
