-- The worlds of the product's assertions. A gap with a byte after it is known on both sides and
-- stays as it was, except that once the stream has ended `$` looks at a last newline; so the gap
-- before the last byte has its own world, and so has the end. What is known only grows. Assumes
-- nothing.
use mathlib.Core.Path.{◌≡◌, refl, sym, subst, ap, ap₂, ◌∙◌, fun_ext}
use mathlib.Core.Logic.{◌⊎◌, ◌↔◌}
use mathlib.Core.Bool.{Bool, true, false, ◌&&◌}
use mathlib.Core.List.{List, [], ◌∷◌, ◌++◌}
use Prim.Native.Nat.{ℕ, suc, ◌<◌}
use native.Mathlib.Omega.{arith}
use lib.Dec.{T, eqb}
use lib.ListN.{length, get_or, take, drop, get_or-append, length-append, length-drop}
use lib.Seq.{take-append-le, take_all, drop-length, drop-cons}
use Rattle.sets.specs.Set.{has}
use Rattle.kinds.specs.declared.Side.TheVariants.{Other, Word, Newline}
use Rattle.kinds.specs.Side.{side_of}
use Rattle.meaning.specs.Form.{Form, Match, Reach}
use Rattle.meaning.specs.Live.{Reached}
use Rattle.meaning.specs.Gap.{last_line, Known, byte, edge, unknown, known_before, known_after}
use Rattle.meaning.specs.Rule.{Assertion, at_start, at_last_line, at_end, line_start, line_end, word_edge, no_word_edge, world, holds, ByteSet, stream}
use Rattle.meaning.proofs.Relations.{First, Last, Follow, Takes}
use Rattle.meaning.proofs.Local.{reach-local}
use Rattle.meaning.proofs.Step.{end}
use Rattle.meaning.proofs.Stream.{Same, next, next-from, over}

-- a gap with two bytes after it is not before a last newline
pub more_bytes : (l : List ℕ) → 1 < length l → last_line l ≡ false
more_bytes [] h = absurd (omega arith)
more_bytes (x ∷ []) h = absurd (omega arith)
more_bytes (x ∷ y ∷ l) h = refl

-- a gap with a byte after it is known on that side
pub next_known : (l : List ℕ) (j : ℕ) (e : Bool) → j < length l → known_after (drop j l) e ≡ byte (side_of (get_or l j 0))
next_known l j e lt = ap (λ (m : List ℕ). known_after m e) (drop-cons l j 0 lt)

-- the two sides of a gap within bs, where r follows
pub sides : (bs r : List ℕ) (d e : Bool) (a : Assertion) (j : ℕ) → j < length bs
    → world (known_before (take j (bs ++ r))) (known_after (drop j (bs ++ r)) e) false a ≡ world (known_before (take j bs)) (known_after (drop j bs) d) false a
sides bs r d e a j lt =
    ap₂ (λ (p : List ℕ) (k : Known). world (known_before p) k false a) (take-append-le j bs r (omega arith))
    (next_known (bs ++ r) j e (omega (arith, length-append bs r)) ∙ ap (λ (x : ℕ). byte (side_of x)) (get_or-append bs r 0 j lt) ∙ sym (next_known bs j d lt))

-- while the stream may go on
pub open-same : (bs r : List ℕ) → Same has holds bs r false false
open-same bs r a j lt = sides bs r false false a j lt

-- once it has ended, if a byte follows
pub ended_same : (bs : List ℕ) (y : ℕ) (r : List ℕ) → Same has holds bs (y ∷ r) false true
ended_same bs y r a j lt =
    let after : List ℕ = drop j (bs ++ y ∷ r) in
    ap (λ (z : Bool). world (known_before (take j (bs ++ y ∷ r))) (known_after after true) z a) (more_bytes after (omega (arith, length-drop j (bs ++ y ∷ r), length-append bs (y ∷ r))))
    ∙ sides bs (y ∷ r) false true a j lt

pub same : (bs : List ℕ) (y : ℕ) (r : List ℕ) (e : Bool) → Same has holds bs (y ∷ r) false e
same bs y r true = ended_same bs y r
same bs y r false = open-same bs (y ∷ r)

-- One byte more: e says that it is the last.
pub base-next : (tab : ℕ → ByteSet) (f : Form ByteSet Assertion) (b : ℕ) → Takes tab f b → (bs : List ℕ) (x : ℕ) (e : Bool) (q : ℕ)
    → Reached (stream (bs ++ x ∷ []) e) f b q (suc (length bs))
    ↔ (T (has (tab q) x)
    × (First (world (known_before bs) (byte (side_of x)) (e && eqb x 10)) f b q
    ⊎ ((p : ℕ) × Reached (stream bs false) f b p (length bs) × Follow (world (known_before bs) (byte (side_of x)) (e && eqb x 10)) f b p q)))
base-next tab f b takes bs x e q = next has holds tab f b takes bs x false e (same bs x [] e) q

-- The same for the ways that begin at s.
pub base-next-from : (tab : ℕ → ByteSet) (f : Form ByteSet Assertion) (b : ℕ) → Takes tab f b → (bs : List ℕ) (x : ℕ) (e : Bool) (s q : ℕ)
    → Reach (stream (bs ++ x ∷ []) e) f b s q (suc (length bs))
    ↔ (T (has (tab q) x)
    × (((s ≡ length bs) × First (world (known_before bs) (byte (side_of x)) (e && eqb x 10)) f b q)
    ⊎ ((p : ℕ) × Reach (stream bs false) f b s p (length bs) × Follow (world (known_before bs) (byte (side_of x)) (e && eqb x 10)) f b p q)))
base-next-from tab f b takes bs x e s q = next-from has holds tab f b takes bs x false e (same bs x [] e) s q

-- A match ends after bs, and r follows: the next byte is known, or nothing is.
pub base-over : (f : Form ByteSet Assertion) (b : ℕ) (bs r : List ℕ) (e : Bool) → Same has holds bs r false e → (s : ℕ) → s < length bs
    → Match (stream (bs ++ r) e) f s (length bs)
    ↔ ((p : ℕ) × Reach (stream bs false) f b s p (length bs) × Last (world (known_before bs) (known_after r e) (e && last_line r)) f b p)
base-over f b bs r e h s lt = over has holds bs r false e h f b s lt

-- A match ends where the stream does.
pub base-end : (f : Form ByteSet Assertion) (b : ℕ) (bs : List ℕ) (s : ℕ) → s < length bs
    → Match (stream bs true) f s (length bs) ↔ ((p : ℕ) × Reach (stream bs true) f b s p (length bs) × Last (world (known_before bs) edge true) f b p)
base-end f b bs s lt =
    let n : ℕ = length bs in
    let at_n : ◌≡◌ {A = Assertion → Bool} (λ a. (stream bs true).known a n) (world (known_before bs) edge true) =
    fun_ext (λ a. ap₂ (λ (p q : List ℕ). world (known_before p) (known_after q true) (last_line q) a) (take_all n bs (omega arith)) (drop-length bs)) in
    let both = end (stream bs true) f b s n lt in (
      λ m. let h = both.0 m in (h.0, h.1, subst (λ (u : Assertion → Bool). Last u f b h.0) at_n h.2),
      λ h. both.1 (h.0, h.1, subst (λ (u : Assertion → Bool). Last u f b h.0) (sym at_n) h.2),
    )

-- ---- what is known only grows

-- what holds while the last line is not known to end here holds if it does
pub line-more : (before after : Known) (z : Bool) (a : Assertion) → T (world before after false a) → T (world before after z a)
line-more before after z at_start h = h
line-more before after z at_last_line h = absurd h
line-more before after z at_end h = h
line-more before after z line_start h = h
line-more before after z line_end h = h
line-more before after z word_edge h = h
line-more before after z no_word_edge h = h

-- what holds while nothing is known of the next byte holds whatever comes
pub known_more : (before after : Known) (z : Bool) (a : Assertion) → T (world before unknown false a) → T (world before after z a)
known_more before after z at_start h = h
known_more before after z at_last_line h = absurd h
known_more before after z at_end h = absurd h
known_more edge after z line_start h = tt
known_more unknown after z line_start h = absurd h
known_more (byte Newline) after z line_start h = absurd h
known_more (byte Word) after z line_start h = absurd h
known_more (byte Other) after z line_start h = absurd h
known_more before after z line_end h = absurd h
known_more before after z word_edge h = absurd h
known_more before after z no_word_edge h = absurd h

-- What is reached while the stream may go on is reached when it has ended.
pub reach-ended : (f : Form ByteSet Assertion) (b : ℕ) (bs : List ℕ) (s q : ℕ)
    → Reach (stream bs false) f b s q (length bs) → Reach (stream bs true) f b s q (length bs)
reach-ended f b bs s q h = reach-local (stream bs false) (stream bs true) (length bs) (λ c j lt x. x) (λ a j lt x. known a j lt x) f b s q (length bs) (omega arith) h
  where
    known : (a : Assertion) (j : ℕ) → j < length bs → T ((stream bs false).known a j) → T ((stream bs true).known a j)
    known a j lt x =
        line-more (known_before (take j bs)) (known_after (drop j bs) true) (last_line (drop j bs)) a
        (subst (λ (k : Known). T (world (known_before (take j bs)) k false a)) (next_known bs j false lt ∙ sym (next_known bs j true lt)) x)
