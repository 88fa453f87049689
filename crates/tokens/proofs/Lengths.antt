-- How many bytes a token takes: never more than there are, and where the pattern has not ended at
-- least one unless it is faulty. Callers cite `lexeme-takes` and `lexeme-fits`. By cases on what
-- the definitions ask, and by going down the bytes.
use mathlib.Core.Path.{◌≡◌, sym}
use mathlib.Core.Bool.{Bool, true, false, cond, ◌&&◌, and-eq-true_iff, true≢false}
use mathlib.Core.List.{List, [], ◌∷◌}
use Prim.Native.Nat.{ℕ, suc, ◌+◌, ◌≤◌, ◌<◌}
use native.Mathlib.Omega.{arith}
use borrow.Author.Tests.{eqb-true, eqb-false, ltb-true}
use lib.Dec.{eqb, leb, ltb}
use lib.ListN.{length, get_or, drop, length-drop}
use Rattle.atoms.specs.Number.{cap, numeral_of}
use Rattle.atoms.specs.Fault.{lower}
use Rattle.atoms.specs.Raw.{any_raw, with_raw}
use Rattle.atoms.specs.Quote.{is_mark}
use Rattle.tokens.specs.Option.{plain, faulty, with_caseless, with_dot_all, with_lines, letters_of, before_close, comment_of, opening_of}
use Rattle.tokens.specs.Quantifier.{no_form, bounded, open_ended, braces_of, form_of, marked, quantifier_of}
use Rattle.tokens.specs.Token.{escaped, unquoted_of, spelled_of, faulty_as, lexeme_of}
use Rattle.atoms.specs.Escape.{Part}
use Rattle.tokens.specs.declared.Options.{Options}
use Rattle.tokens.specs.Lexeme.{Token}
use Rattle.tokens.specs.Lexeme.{Finish, Bar, Close, Class, One, Open, Set, Note, Unclosed, Repeat, Bad}
use Rattle.tokens.specs.Quantifier.{Form}
use Rattle.tokens.specs.Lexeme.{Lexeme}
use Rattle.atoms.proofs.Suffixes.{inside}
use Rattle.atoms.proofs.Sizes.{either, pick, byte-within, mark-within, Stands, escape-stands}

-- ---- quantifiers

-- a quantifier that stands within n bytes
pub record Counts (n : ℕ) (q : Form) : Type 0 where
  pub fits : q.size ≤ n
  pub takes : q.is ≡ true → 1 ≤ q.size

none-counts : (n : ℕ) → Counts n no_form
none-counts n = record { fits = omega arith; takes = λ e. absurd (true≢false (sym e)) }

module _ (n k : ℕ) (l : 1 ≤ k) (h : k ≤ n) where
  bounded-counts : (lo hi : ℕ) → Counts n (bounded k lo hi)
  unfolding bounded
  bounded-counts lo hi =
      pick (Counts n) (ltb lo cap && (ltb hi cap && leb lo hi)) (λ e. record { fits = h; takes = λ z. l }) (record { fits = h; takes = λ z. l })

  open-counts : (lo : ℕ) → Counts n (open_ended k lo)
  unfolding open_ended
  open-counts lo = pick (Counts n) (ltb lo cap) (λ e. record { fits = h; takes = λ z. l }) (record { fits = h; takes = λ z. l })

braces-count : (v : List ℕ) → Counts (1 + length v) (braces_of v)
unfolding braces_of
braces-count v =
    let a = numeral_of 10 v in
    let b = numeral_of 10 (drop (a.size + 1) v) in
    let n = 1 + length v in
    pick (Counts n) (eqb (get_or v a.size 0) 125)
    (λ e.
    let closed : a.size < length v = byte-within v a.size 124 e in
    pick (Counts n) a.some (λ z. bounded-counts n (2 + a.size) (omega arith) (omega arith) _ _) (none-counts n))
    (pick (Counts n) (eqb (get_or v a.size 0) 44 && eqb (get_or v (a.size + (1 + b.size)) 0) 125)
    (λ e.
    let brace = ((and-eq-true_iff (eqb (get_or v a.size 0) 44) (eqb (get_or v (a.size + (1 + b.size)) 0) 125)).0 e).1 in
    let closed : a.size + (1 + b.size) < length v = byte-within v (a.size + (1 + b.size)) 124 brace in
    let size : 3 + (a.size + b.size) ≤ n = omega arith in
    pick (Counts n) b.some (λ z. bounded-counts n (3 + (a.size + b.size)) (omega arith) size _ _)
    (pick (Counts n) a.some (λ z. open-counts n (3 + (a.size + b.size)) (omega arith) size _) (none-counts n)))
    (none-counts n))

pub form-counts : (v : List ℕ) → Counts (length v) (form_of v)
unfolding form_of
form-counts v =
    let c = get_or v 0 0 in
    let n = length v in
    pick (Counts n) (eqb c 63) (λ e. let h : 0 < n = byte-within v 0 62 e in record { fits = h; takes = λ z. omega arith })
    (pick (Counts n) (eqb c 42) (λ e. let h : 0 < n = byte-within v 0 41 e in record { fits = h; takes = λ z. omega arith })
    (pick (Counts n) (eqb c 43) (λ e. let h : 0 < n = byte-within v 0 42 e in record { fits = h; takes = λ z. omega arith })
    (pick (Counts n) (eqb c 123)
    (λ e.
    let h : 0 < n = byte-within v 0 122 e in
    let more : 1 + length (drop 1 v) ≡ n = omega (arith, length-drop 1 v) in
    rw more at (braces-count (drop 1 v)))
    (none-counts n))))

-- ---- tokens

-- a token that stands within n bytes
pub record Takes (n : ℕ) (l : Lexeme) : Type 0 where
  pub fits : l.size ≤ n
  pub takes : l.fault ≡ 0 → 1 ≤ l.size

plain-takes : (n k : ℕ) (t : Token) → 1 ≤ k → k ≤ n → Takes n (plain k t)
plain-takes n k t l h = record { fits = h; takes = λ e. l }

faulty-takes : (n f : ℕ) → (f ≡ 0 → ⊥) → Takes n (faulty f)
faulty-takes n f h = record { fits = omega arith; takes = λ e. absurd (h e) }

letters-take : (on any : Bool) (o : Options) (k : ℕ) (v : List ℕ) → Takes (k + length v) (letters_of on any o k v)
unfolding letters_of
letters-take on any o k [] = faulty-takes (k + 0) 14 (λ e. omega arith)
letters-take on any o k (c ∷ v) =
    let n = k + length (c ∷ v) in
    let more : n ≡ k + 1 + length v = omega arith in
    let bad : Takes n (faulty 14) = faulty-takes n 14 (λ e. omega arith) in
    pick (Takes n) (eqb c 105) (λ e. rw more (letters-take on true (with_caseless on o) (k + 1) v))
    (pick (Takes n) (eqb c 115) (λ e. rw more (letters-take on true (with_dot_all on o) (k + 1) v))
    (pick (Takes n) (eqb c 109) (λ e. rw more (letters-take on true (with_lines on o) (k + 1) v))
    (pick (Takes n) (eqb c 45) (λ e. pick (Takes n) on (λ z. rw more (letters-take false any o (k + 1) v)) bad)
    (pick (Takes n) (eqb c 41) (λ e. pick (Takes n) any (λ z. plain-takes n (k + 1) _ (omega arith) (omega arith)) bad)
    (pick (Takes n) (eqb c 58) (λ e. pick (Takes n) any (λ z. plain-takes n (k + 1) _ (omega arith) (omega arith)) bad) bad)))))

before-fits : (v : List ℕ) → before_close v ≤ length v
unfolding before_close
before-fits [] = omega arith
before-fits (c ∷ v) =
    let more = before-fits v in
    pick (λ (k : ℕ). k ≤ length (c ∷ v)) (eqb c 41) (λ e. omega arith) (omega (arith, more))

comment-takes : (o : Options) (v : List ℕ) → Takes (3 + length v) (comment_of o v)
unfolding comment_of
comment-takes o v =
    let n = 3 + length v in
    let k = before_close v in
    pick (Takes n) (ltb k (length v)) (λ e. plain-takes n (4 + k) _ (omega arith) (omega (arith, ltb-true k (length v) e)))
    (plain-takes n (3 + k) _ (omega arith) (omega (arith, before-fits v)))

opening-takes : (o : Options) (v : List ℕ) → Takes (1 + length v) (opening_of o v)
unfolding opening_of
opening-takes o v =
    let n = 1 + length v in
    pick (Takes n) (eqb (get_or v 0 0) 42) (λ e. faulty-takes n 14 (λ e. omega arith))
    (pick (Takes n) (eqb (get_or v 0 0) 63)
    (λ e.
    pick (Takes n) (eqb (get_or v 1 0) 58) (λ z. plain-takes n 3 _ (omega arith) (omega (arith, byte-within v 1 57 z)))
    (pick (Takes n) (eqb (get_or v 1 0) 35)
    (λ z. let more : 3 + length (drop 2 v) ≡ n = omega (arith, byte-within v 1 34 z, length-drop 2 v) in rw more at (comment-takes o (drop 2 v)))
    (let more : 2 + length (drop 1 v) ≡ n = omega (arith, byte-within v 0 62 e, length-drop 1 v) in
    rw more at (letters-take true false o 2 (drop 1 v)))))
    (plain-takes n 1 _ (omega arith) (omega arith)))

marked-takes : (n : ℕ) (q : Form) (m : ℕ) → q.is ≡ true → Counts n q → (m ≡ 63 → suc q.size ≤ n) → Takes n (marked q m)
unfolding marked
marked-takes n q m e s h =
    let fault = lower q.fault (cond (eqb m 43) 14 0) in
    either (Takes n) (eqb fault 0)
    (λ z.
    record {
      fits = pick (λ (k : ℕ). q.size + k ≤ n) (eqb m 63) (λ y. omega (arith, h (eqb-true m 63 y))) (omega (arith, s.fits));
      takes = λ y. omega (arith, s.takes e);
    })
    (λ z. record { fits = omega arith; takes = λ y. absurd (eqb-false fault 0 z y) })

escaped-takes : (n : ℕ) (p : Part) → Stands n p → Takes n (escaped p)
unfolding escaped
escaped-takes n p s =
    either (Takes n) (eqb p.fault 0) (λ e. plain-takes n p.size _ (s.takes (eqb-true p.fault 0 e)) s.fits)
    (λ e. faulty-takes n p.fault (eqb-false p.fault 0 e))

unquoted-takes : (o : Options) (c : ℕ) (v : List ℕ) → Takes (length (c ∷ v)) (unquoted_of o c v)
unfolding unquoted_of quantifier_of
unquoted-takes o c v =
    let n = length (c ∷ v) in
    let more : n ≡ 1 + length v = omega arith in
    let byte : (t : Token) → Takes n (plain 1 t) = λ t. plain-takes n 1 t (omega arith) (omega arith) in
    let q = form_of (c ∷ v) in
    pick (Takes n) (eqb c 92) (λ e. escaped-takes n _ (rw more (escape-stands false v)))
    (pick (Takes n) (eqb c 91) (λ e. byte _)
    (pick (Takes n) (eqb c 40) (λ e. rw more (opening-takes o v))
    (pick (Takes n) (eqb c 41) (λ e. byte _)
    (pick (Takes n) (eqb c 124) (λ e. byte _)
    (pick (Takes n) (eqb c 46) (λ e. byte _)
    (pick (Takes n) (eqb c 94) (λ e. byte _)
    (pick (Takes n) (eqb c 36) (λ e. byte _)
    (pick (Takes n) q.is
    (λ e. marked-takes n q (get_or (c ∷ v) q.size 0) e (form-counts (c ∷ v)) (λ z. inside (c ∷ v) q.size (λ y. omega arith)))
    (byte _)))))))))

spelled-takes : (o : Options) (c : ℕ) (v : List ℕ) → Takes (length (c ∷ v)) (spelled_of o (c ∷ v))
unfolding spelled_of
spelled-takes o c v =
    let n = length (c ∷ v) in
    let quoted = o.quoted in
    pick (Takes n) (is_mark quoted c (get_or v 0 0)) (λ e. plain-takes n 2 _ (omega arith) (omega (arith, mark-within quoted c v e)))
    (pick (Takes n) quoted (λ e. plain-takes n 1 _ (omega arith) (omega arith)) (unquoted-takes o c v))

pub faulty-as-takes : (n f : ℕ) (t : Token) → (f ≡ 0 → ⊥) → Takes n (faulty_as f t)
faulty-as-takes n f Finish h = faulty-takes n f h
faulty-as-takes n f Bar h = faulty-takes n f h
faulty-as-takes n f Close h = faulty-takes n f h
faulty-as-takes n f Class h = faulty-takes n f h
faulty-as-takes n f (One a) h = faulty-takes n f h
faulty-as-takes n f (Open o) h = faulty-takes n f h
faulty-as-takes n f (Set o) h = faulty-takes n f h
faulty-as-takes n f (Note o) h = faulty-takes n f h
faulty-as-takes n f Unclosed h = faulty-takes n f h
faulty-as-takes n f (Repeat least extra) h = record { fits = omega arith; takes = λ e. absurd (h e) }
faulty-as-takes n f Bad h = faulty-takes n f h

-- where the pattern has not ended, a token that is not faulty takes a byte at least, and no token
-- more than there are
pub lexeme-takes : (o : Options) (c : ℕ) (v : List ℕ) → Takes (length (c ∷ v)) (lexeme_of o (c ∷ v))
unfolding lexeme_of
lexeme-takes o c v =
    let n = length (c ∷ v) in
    let l = spelled_of o (c ∷ v) in
    let fault = with_raw l.fault l.size (c ∷ v) in
    either (Takes n) (eqb fault 0) (λ e. spelled-takes o c v) (λ e. faulty-as-takes n fault l.token (eqb-false fault 0 e))

pub lexeme-fits : (o : Options) (v : List ℕ) → (lexeme_of o v).size ≤ length v
unfolding lexeme_of spelled_of with_raw any_raw lower
lexeme-fits o [] = omega arith
lexeme-fits o (c ∷ v) = (lexeme-takes o c v).fits
