-- The tests of the code are those of the definitions, whose sums cannot wrap there; what passes one
-- lies inside; and what is shown, where the two lists are pieces of one stream, are its bytes.
-- Assumes nothing.
use mathlib.Core.Path.{◌≡◌, refl, sym, ap, ap₂, ◌∙◌}
use mathlib.Core.Bool.{Bool, true, false, true≢false, cond, ◌&&◌, and-eq-true_iff}
use mathlib.Core.List.{List, [], ◌++◌, append_assoc}
use Prim.Native.Nat.{ℕ, ◌+◌, ◌-◌, ◌≤◌, ◌<◌}
use native.Mathlib.Decide.{dec_le}
use native.Mathlib.Omega.{arith}
use lib.Dec.{leb}
use lib.ListN.{length, take, drop, length-append, length-drop}
use lib.Seq.{take-append-le, drop-append-le, drop-append-add}
use borrow.Author.Tests.{le-leb, lt-leb, leb-true}
use Rattle.matched.specs.declared.Part.{Part}
use Rattle.matched.specs.Matched.{in_block, in_tail, matched_bytes, matched_part, part_bytes, matched_number}

-- two comparisons that say the same
same_test : (a b c d : ℕ) → (a ≤ b → c ≤ d) → (c ≤ d → a ≤ b) → leb a b ≡ leb c d
same_test a b c d to of = go (dec_le a b)
  where
    go : Dec (a ≤ b) → leb a b ≡ leb c d
    go (yes h) = le-leb a b h ∙ sym (le-leb c d (to h))
    go (no h) = lt-leb a b (omega arith) ∙ sym (lt-leb c d (below (dec_le c d)))
      where
        below : Dec (c ≤ d) → d < c
        below (yes l) = absurd (h (of l))
        below (no l) = omega arith

first_two : (a b c : Bool) → (a && b) ≡ true → c ≡ (a && (b && c))
first_two true true c e = refl
first_two true false c e = absurd (true≢false (sym e))
first_two false b c e = absurd (true≢false (sym e))

not_both : (a b c : Bool) → (a && b) ≡ false → false ≡ (a && (b && c))
not_both true true c e = absurd (true≢false e)
not_both true false c e = refl
not_both false b c e = refl

last-two : (a b c : Bool) → (b && c) ≡ true → a ≡ (a && (b && c))
last-two true b c e = sym e
last-two false b c e = refl

no_last : (a b c : Bool) → (b && c) ≡ false → false ≡ (a && (b && c))
no_last true b c e = sym e
no_last false b c e = refl

-- ---- the tests

module _ (list : List ℕ) (offset start end : ℕ) where
  pub block-test : (leb offset start && leb start end) ≡ true → leb (end - offset) (length list) ≡ in_block list offset start end
  unfolding in_block
  block-test e =
      let c = (and-eq-true_iff (leb offset start) (leb start end)).0 e in
      let low : offset ≤ start = leb-true offset start c.0 in
      let high : start ≤ end = leb-true start end c.1 in
      same_test (end - offset) (length list) end (offset + length list) (λ h. omega arith) (λ h. omega arith)
      ∙ first_two (leb offset start) (leb start end) (leb end (offset + length list)) e

  pub block-fails : (leb offset start && leb start end) ≡ false → false ≡ in_block list offset start end
  unfolding in_block
  block-fails e = not_both (leb offset start) (leb start end) (leb end (offset + length list)) e

  pub tail-test : (leb start end && leb end offset) ≡ true → leb (offset - start) (length list) ≡ in_tail list offset start end
  unfolding in_tail
  tail-test e =
      let c = (and-eq-true_iff (leb start end) (leb end offset)).0 e in
      let low : start ≤ end = leb-true start end c.0 in
      let high : end ≤ offset = leb-true end offset c.1 in
      same_test (offset - start) (length list) offset (start + length list) (λ h. omega arith) (λ h. omega arith)
      ∙ last-two (leb offset (start + length list)) (leb start end) (leb end offset) e

  pub tail-fails : (leb start end && leb end offset) ≡ false → false ≡ in_tail list offset start end
  unfolding in_tail
  tail-fails e = no_last (leb offset (start + length list)) (leb start end) (leb end offset) e

  -- what passes
  pub record Block : Type 0 where
    pub after : offset ≤ start
    pub rises : start ≤ end
    pub inside : end ≤ offset + length list

  pub in-block : in_block list offset start end ≡ true → Block
  unfolding in_block
  in-block e =
      let c = (and-eq-true_iff (leb offset start) (leb start end && leb end (offset + length list))).0 e in
      let d = (and-eq-true_iff (leb start end) (leb end (offset + length list))).0 c.1 in
      record { after = leb-true offset start c.0; rises = leb-true start end d.0; inside = leb-true end (offset + length list) d.1 }

  pub record Tail : Type 0 where
    pub inside : offset ≤ start + length list
    pub rises : start ≤ end
    pub before : end ≤ offset

  pub in_tail_lem : in_tail list offset start end ≡ true → Tail
  unfolding in_tail
  in_tail_lem e =
      let c = (and-eq-true_iff (leb offset (start + length list)) (leb start end && leb end offset)).0 e in
      let d = (and-eq-true_iff (leb start end) (leb end offset)).0 c.1 in
      record { inside = leb-true offset (start + length list) c.0; rises = leb-true start end d.0; before = leb-true end offset d.1 }

-- ---- what is shown

-- places in the tail, counted from its end
tail-place : (n offset at : ℕ) → offset ≤ at + n → at ≤ offset → n - (offset - at) ≡ at + n - offset
tail-place n offset at h l = omega arith

tail-span : (n offset start end : ℕ) → offset ≤ start + n → start ≤ end → end + n - offset - (start + n - offset) ≡ end - start
tail-span n offset start end h l = omega arith

module _ (tail block : List ℕ) (offset start end : ℕ) where
  pub from_block : in_block block offset start end ≡ true
      → (take (end - offset - (start - offset)) (drop (start - offset) block) ≡ matched_bytes tail block offset start end) × (0 ≡ matched_number tail block offset start end)
  unfolding matched_bytes matched_number
  from_block e =
      let h = in-block block offset start end e in
      let size : end - offset - (start - offset) ≡ end - start = omega (arith, h.after, h.rises) in
      (ap (λ (n : ℕ). take n (drop (start - offset) block)) size ∙ sym (rw e), sym (rw e))

  module _ (out : in_block block offset start end ≡ false) where
    pub from_tail : in_tail tail offset start end ≡ true
        → (take (length tail - (offset - end) - (length tail - (offset - start))) (drop (length tail - (offset - start)) tail) ≡ matched_bytes tail block offset start end)
        × (0 ≡ matched_number tail block offset start end)
    unfolding matched_bytes matched_number
    from_tail e =
        let h = in_tail_lem tail offset start end e in
        let n : ℕ = length tail in
        let at : n - (offset - start) ≡ start + n - offset = tail-place n offset start h.inside (omega (arith, h.rises, h.before)) in
        let to : n - (offset - end) ≡ end + n - offset = tail-place n offset end (omega (arith, h.inside, h.rises)) h.before in
        let size : n - (offset - end) - (n - (offset - start)) ≡ end - start = ap₂ (λ (x y : ℕ). x - y) to at ∙ tail-span n offset start end h.inside h.rises in
        (ap₂ (λ (n m : ℕ). take n (drop m tail)) size at ∙ sym (rw (out, e)), sym (rw (out, e)))

    pub from-neither : in_tail tail offset start end ≡ false → ([] ≡ matched_bytes tail block offset start end) × (25 ≡ matched_number tail block offset start end)
    unfolding matched_bytes matched_number
    from-neither e = (sym (rw (out, e)), sym (rw (out, e)))

-- ---- where they stand

-- a part by its fields
abbrev pub part : Bool → (place size : ℕ) → Part
part tail place size = record { tail = tail; place = place; size = size }

module _ (tail block : List ℕ) (offset start end : ℕ) where
  pub part-block : in_block block offset start end ≡ true → part false (start - offset) (end - start) ≡ matched_part tail block offset start end
  unfolding matched_part
  part-block e = sym (rw e)

  module _ (out : in_block block offset start end ≡ false) where
    pub part-tail : in_tail tail offset start end ≡ true → part true (length tail - (offset - start)) (end - start) ≡ matched_part tail block offset start end
    unfolding matched_part
    part-tail e =
        let h = in_tail_lem tail offset start end e in
        let place : length tail - (offset - start) ≡ start + length tail - offset = tail-place (length tail) offset start h.inside (omega (arith, h.rises, h.before)) in
        ap (λ (n : ℕ). part true n (end - start)) place ∙ sym (rw (out, e))

    pub part-neither : in_tail tail offset start end ≡ false → part false 0 0 ≡ matched_part tail block offset start end
    unfolding matched_part
    part-neither e = sym (rw (out, e))

  -- The part is where the matched bytes stand.
  pub part-shows : part_bytes tail block (matched_part tail block offset start end) ≡ matched_bytes tail block offset start end
  unfolding part_bytes matched_part matched_bytes
  part-shows = go (in_block block offset start end) (in_tail tail offset start end)
    where
      go : (x y : Bool)
          → part_bytes tail block (cond x (part false (start - offset) (end - start)) (cond y (part true (start + length tail - offset) (end - start)) (part false 0 0)))
          ≡ cond x (take (end - start) (drop (start - offset) block)) (cond y (take (end - start) (drop (start + length tail - offset) tail)) [])
      go true y = refl
      go false true = refl
      go false false = refl

-- ---- they are the bytes of the stream

-- a part of a list, with other bytes before and after the list
part_of : (front list rest : List ℕ) (i n : ℕ) → i + n ≤ length list → take n (drop (length front + i) (front ++ (list ++ rest))) ≡ take n (drop i list)
part_of front list rest i n h =
    ap (take n) (drop-append-add front (list ++ rest) i ∙ drop-append-le i list rest (omega arith))
    ∙ take-append-le n (drop i list) rest (omega (arith, length-drop i list))

-- Where tail and block stand one after the other in a stream, what is shown are its bytes from
-- `start` up to `end`.
pub shows : (front tail block rest : List ℕ) (start end : ℕ) → matched_number tail block (length front + length tail) start end ≡ 0
    → matched_bytes tail block (length front + length tail) start end ≡ take (end - start) (drop start (front ++ (tail ++ (block ++ rest))))
unfolding matched_bytes matched_number
shows front tail block rest start end e = go (in_block block offset start end) refl (in_tail tail offset start end) refl e
  where
    offset : ℕ
    offset = length front + length tail

    bytes : List ℕ
    bytes = front ++ (tail ++ (block ++ rest))

    go : (x : Bool) → in_block block offset start end ≡ x → (y : Bool) → in_tail tail offset start end ≡ y → ◌≡◌ {A = ℕ} (cond x 0 (cond y 0 25)) 0
        → cond x (take (end - start) (drop (start - offset) block)) (cond y (take (end - start) (drop (start + length tail - offset) tail)) []) ≡ take (end - start) (drop start bytes)
    go true b y t z =
        let h = in-block block offset start end b in
        let place : length (front ++ tail) + (start - offset) ≡ start = omega (arith, length-append front tail, h.after) in
        sym (part_of (front ++ tail) block rest (start - offset) (end - start) (omega (arith, h.after, h.rises, h.inside)))
        ∙ ap₂ (λ (n : ℕ) (l : List ℕ). take (end - start) (drop n l)) place (append_assoc front tail (block ++ rest))
    go false b true t z =
        let h = in_tail_lem tail offset start end t in
        let place : length front + (start + length tail - offset) ≡ start = omega (arith, h.inside) in
        sym (part_of front tail (block ++ rest) (start + length tail - offset) (end - start) (omega (arith, h.inside, h.rises, h.before)))
        ∙ ap (λ (n : ℕ). take (end - start) (drop n bytes)) place
    go false b false t z = absurd (omega (arith, z))
