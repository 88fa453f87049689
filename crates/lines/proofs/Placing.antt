-- A line placed in a buffer. The bytes that a copy has placed are a `paste`; a copy of all of them
-- is the line placed. A text is a buffer of 80 bytes that ends in zeros, so that what is placed
-- after it stands in place of zeros.
use mathlib.Core.Path.{◌≡◌, refl, sym, ap, ◌∙◌}
use mathlib.Core.List.{List, [], ◌++◌}
use Prim.Native.Nat.{ℕ, zero, suc, ◌+◌, ◌-◌, ◌≤◌, ◌<◌}
use native.Mathlib.Nat.{sub-zero}
use native.Mathlib.Numerals.{add-one}
use native.Mathlib.Omega.{arith}
use borrow.Author.Tests.{le-leb, lt-leb}
use lib.ListN.{length, get_or, set, take, drop, replicate, length-append, length-replicate}
use lib.Seq.{paste, paste-suc, length-paste, take_all, take-append_seam, drop-append-add}
use Rattle.lines.specs.Numbers.{decimal_of, written}
use Rattle.lines.specs.Output.{Buffer, buffer, placed}
use Rattle.lines.specs.Invariants.{text_of, joined}
use Rattle.lines.specs.declared.Decimal.{Decimal}
use Rattle.lines.specs.declared.output.Text.{Text}
use Rattle.lines.proofs.Laws.{written-digits}
use borrow.Rule.Slice.PartMut.{put_mid}
use Rattle.std.proofs.lemmas.Slice.{put_mid-paste}

-- ---- a copy

pub placed-not : (b : Buffer) (line : List ℕ) → length b.bytes < b.next + length line → b ≡ placed b line
unfolding placed
placed-not b line l = rw (lt-leb _ _ l)

placed-all : (out : List ℕ) (at : ℕ) (line : List ℕ) (n : ℕ) → at + length line ≤ length out → n ≡ length line
    → buffer (at + n) (paste out at line n) ≡ placed (buffer at out) line
unfolding placed
placed-all out at line n h e = rw (le-leb _ _ h, e, take_all (length line) line (omega arith))

-- a part is written over by the line
pub copied : (out : List ℕ) (at k : ℕ) (line now : List ℕ) → at + length line ≤ length out → k ≡ length line → now ≡ line
    → buffer (at + length line) (put_mid at k out now) ≡ placed (buffer at out) line
copied out at k line now h e f =
    ap (buffer (at + length line)) (put_mid-paste at k out now line (length line) f (sym e) refl) ∙ placed-all out at line (length line) h refl

-- ---- a text

drop-replicate : (k n : ℕ) → drop {A = ℕ} k (replicate n 0) ≡ replicate (n - k) 0
drop-replicate zero n = rw (sub-zero n)
drop-replicate (suc k) zero = let e : 0 - suc k ≡ 0 = omega arith in rw e
drop-replicate (suc k) (suc n) = let e : suc n - suc k ≡ n - k = omega arith in rw e (drop-replicate k n)

text-joined : (l more : List ℕ) → length l + length more ≤ 80 → joined (text_of l) more ≡ text_of (l ++ more)
unfolding joined text_of placed
text-joined l more h =
    let e : length l + length more ≤ length (l ++ replicate (80 - length l) 0) = rw (length-append, length-replicate) (omega arith) in
    let k : 80 - length l - length more ≡ 80 - (length l + length more) = omega arith in
    rw (le-leb _ _ e, take-append_seam, drop-append-add, drop-replicate, length-append, k)

-- a text of these bytes, of which there are at most so many
pub record Holds (t : Text) (l : List ℕ) (most : ℕ) : Type 0 where
  pub text : t ≡ text_of l
  pub few : length l ≤ most

pub begun : (t : Text) → t ≡ text_of [] → Holds t [] 0
begun t e = record { text = e; few = omega arith }

-- some bytes more
pub more : {t : Text} {l : List ℕ} {most : ℕ} → Holds t l most → (r : Text) (add : List ℕ) (n : ℕ) → r ≡ joined t add → length add ≤ n → most + n ≤ 80
    → Holds r (l ++ add) (most + n)
more {t} {l} {most} h r add n e few room =
    record {
      text = e ∙ ap (λ (t : Text). joined t add) h.text ∙ text-joined l add (omega (arith, h.few));
      few = rw (length-append) (omega (arith, h.few));
    }

-- the bytes of a text
module _ (t : Text) (l : List ℕ) (e : t ≡ text_of l) where
  pub text-bytes : take t.size t.bytes ≡ l
  unfolding text_of
  text-bytes = rw (e, take-append_seam)

  pub text-within : t.size ≤ length t.bytes
  unfolding text_of
  text-within = rw (e, length-append) (omega arith)

-- the digits of a decimal
module _ (r : Decimal) (n : ℕ) (e : r ≡ written n) where
  pub decimal-digits : take r.size r.digits ≡ decimal_of n
  decimal-digits = rw e (written-digits n)

  pub decimal-within : r.size ≤ length r.digits
  unfolding written
  decimal-within = rw (e, length-append) (omega arith)
