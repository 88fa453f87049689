-- What the token at a place can be, from its definition: only a bad token or a quantifier has a
-- fault, a quantifier's numbers are small, `|` and `)` are told by their bytes. Each branch of the
-- definition is looked at once; how many bytes a token takes is known of the tokens already.
-- Assumes nothing.
use mathlib.Core.Path.{◌≡◌, refl}
use mathlib.Core.Bool.{Bool, true, false, cond, ◌&&◌, and-eq-true_iff}
use mathlib.Core.List.{List, [], ◌∷◌}
use mathlib.Core.Logic.{◌⊎◌, inl, inr, ⊎_elim}
use Prim.Native.Nat.{ℕ, suc, ◌+◌, ◌-◌, ◌≤◌, ◌<◌}
use native.Mathlib.Omega.{arith}
use borrow.Author.Tests.{eqb-true, eqb-false, ltb-true}
use lib.Dec.{eqb, leb, ltb}
use lib.ListN.{length, get_or, take, drop}
use Rattle.tokens.specs.declared.Options.{Options}
use Rattle.atoms.specs.Escape.{Part}
use Rattle.tokens.specs.Quantifier.{Form}
use Rattle.tokens.specs.Lexeme.{Token}
use Rattle.tokens.specs.Lexeme.{Finish, Bar, Close, Class, One, Open, Set, Note, Unclosed, Repeat, Bad}
use Rattle.tokens.specs.Lexeme.{Lexeme}
use Rattle.atoms.specs.Number.{cap, numeral_of}
use Rattle.atoms.specs.Escape.{escape_of}
use Rattle.atoms.specs.Fault.{lower}
use Rattle.atoms.specs.Raw.{any_raw, with_raw}
use Rattle.tokens.specs.Option.{faulty, with_caseless, with_dot_all, with_lines, letters_of, before_close, comment_of, opening_of}
use Rattle.tokens.specs.Quantifier.{no_form, form, bounded, open_ended, braces_of, form_of, marked, quantifier_of}
use Rattle.atoms.specs.Quote.{is_mark}
use Rattle.tokens.specs.Token.{escaped, unquoted_of, spelled_of, faulty_as, lexeme_of}
use Rattle.tokens.proofs.Lengths.{lexeme-takes}
use Rattle.pattern.proofs.Base.{either}

-- what a token with fault f is, where byte c stands at its place
abbrev pub Right : (c f : ℕ) → Token → Type 0
Right c f Finish = ⊥
Right c f Bar = (c ≡ 124) × (f ≡ 0)
Right c f Close = (c ≡ 41) × (f ≡ 0)
Right c f Class = f ≡ 0
Right c f (One a) = f ≡ 0
Right c f (Open o) = f ≡ 0
Right c f (Set o) = f ≡ 0
Right c f (Note o) = f ≡ 0
Right c f Unclosed = f ≡ 0
Right c f (Repeat least extra) = (least < cap) × (extra ≤ cap) × ((f ≡ 0) ⊎ (10 ≤ f))
Right c f Bad = f ≡ 0 → ⊥

abbrev RightL : ℕ → Lexeme → Type 0
RightL c l = Right c l.fault l.token

bad-right : (c f : ℕ) → 1 ≤ f → RightL c (faulty f)
bad-right c f h = λ e. omega arith

escaped-right : (c : ℕ) (p : Part) → RightL c (escaped p)
unfolding escaped
escaped-right c p = either (RightL c) (eqb p.fault 0) (λ e. refl) (λ e. eqb-false p.fault 0 e)

letters-right : (c : ℕ) (on any : Bool) (o : Options) (size : ℕ) (v : List ℕ) → RightL c (letters_of on any o size v)
unfolding letters_of
letters-right c on any o size [] = bad-right c 14 (omega arith)
letters-right c on any o size (b ∷ v) =
    let caseless : RightL c (letters_of on true (with_caseless on o) (size + 1) v) = letters-right c on true (with_caseless on o) (size + 1) v in
    let dot_all : RightL c (letters_of on true (with_dot_all on o) (size + 1) v) = letters-right c on true (with_dot_all on o) (size + 1) v in
    let lines : RightL c (letters_of on true (with_lines on o) (size + 1) v) = letters-right c on true (with_lines on o) (size + 1) v in
    let off : RightL c (letters_of false any o (size + 1) v) = letters-right c false any o (size + 1) v in
    let wrong : RightL c (faulty 14) = bad-right c 14 (omega arith) in
    either (RightL c) (eqb b 105) (λ e. caseless)
    (λ e. either (RightL c) (eqb b 115) (λ f. dot_all)
    (λ f. either (RightL c) (eqb b 109) (λ k. lines)
    (λ k. either (RightL c) (eqb b 45) (λ g. either (RightL c) on (λ h. off) (λ h. wrong))
    (λ g. either (RightL c) (eqb b 41) (λ h. either (RightL c) any (λ i. refl) (λ i. wrong))
    (λ h. either (RightL c) (eqb b 58) (λ i. either (RightL c) any (λ j. refl) (λ j. wrong)) (λ i. wrong))))))

comment-right : (c : ℕ) (o : Options) (v : List ℕ) → RightL c (comment_of o v)
unfolding comment_of
comment-right c o v = either (RightL c) (ltb (before_close v) (length v)) (λ e. refl) (λ e. refl)

opening-right : (c : ℕ) (o : Options) (v : List ℕ) → RightL c (opening_of o v)
unfolding opening_of
opening-right c o v =
    either (RightL c) (eqb (get_or v 0 0) 42) (λ e. bad-right c 14 (omega arith))
    (λ e. either (RightL c) (eqb (get_or v 0 0) 63)
    (λ f. either (RightL c) (eqb (get_or v 1 0) 58) (λ g. refl)
    (λ g. either (RightL c) (eqb (get_or v 1 0) 35) (λ h. comment-right c o (drop 2 v)) (λ h. letters-right c true false o 2 (drop 1 v))))
    (λ f. refl))

-- a fault that a quantifier can have, or none
abbrev High : ℕ → Type 0
High f = (f ≡ 0) ⊎ (10 ≤ f)

-- of a quantifier without its mark
record Numbers (q : Form) : Type 0 where
  least : q.least < cap
  extra : q.extra ≤ cap
  fault : High q.fault

no-numbers : Numbers no_form
no-numbers = record { least = omega arith; extra = omega arith; fault = inl refl }

form-numbers : (size least extra : ℕ) → least < cap → extra ≤ cap → Numbers (form size least extra)
form-numbers size least extra h k = record { least = h; extra = k; fault = inl refl }

wrong-numbers : (size : ℕ) → Numbers (record { is = true; size = size; fault = 11; least = 0; extra = 0 })
wrong-numbers size = record { least = omega arith; extra = omega arith; fault = inr (omega arith) }

bounded-numbers : (size lo hi : ℕ) → Numbers (bounded size lo hi)
unfolding bounded
bounded-numbers size lo hi =
    either Numbers (ltb lo cap && (ltb hi cap && leb lo hi))
    (λ e.
    let a = (and-eq-true_iff (ltb lo cap) (ltb hi cap && leb lo hi)).0 e in
    let b = (and-eq-true_iff (ltb hi cap) (leb lo hi)).0 a.1 in
    let l : hi < cap = ltb-true hi cap b.0 in
    form-numbers size lo (hi - lo) (ltb-true lo cap a.0) (omega arith))
    (λ e. wrong-numbers size)

open-numbers : (size lo : ℕ) → Numbers (open_ended size lo)
unfolding open_ended
open-numbers size lo = either Numbers (ltb lo cap) (λ e. form-numbers size lo cap (ltb-true lo cap e) (omega arith)) (λ e. wrong-numbers size)

braces-numbers : (v : List ℕ) → Numbers (braces_of v)
unfolding braces_of
braces-numbers v =
    let a = numeral_of 10 v in
    let b = numeral_of 10 (drop (a.size + 1) v) in
    either Numbers (eqb (get_or v a.size 0) 125)
    (λ e. either Numbers a.some (λ f. bounded-numbers _ _ _) (λ f. no-numbers))
    (λ e. either Numbers (eqb (get_or v a.size 0) 44 && eqb (get_or v (a.size + (1 + b.size)) 0) 125)
    (λ f. either Numbers b.some (λ g. bounded-numbers _ _ _) (λ g. either Numbers a.some (λ h. open-numbers _ _) (λ h. no-numbers)))
    (λ f. no-numbers))

all-numbers : (v : List ℕ) → Numbers (form_of v)
unfolding form_of
all-numbers v =
    either Numbers (eqb (get_or v 0 0) 63) (λ e. form-numbers 1 0 1 (omega arith) (omega arith))
    (λ e. either Numbers (eqb (get_or v 0 0) 42) (λ f. form-numbers 1 0 cap (omega arith) (omega arith))
    (λ f. either Numbers (eqb (get_or v 0 0) 43) (λ g. form-numbers 1 1 cap (omega arith) (omega arith))
    (λ g. either Numbers (eqb (get_or v 0 0) 123) (λ h. braces-numbers (drop 1 v)) (λ h. no-numbers))))

lower_high : (f g : ℕ) → High f → High g → High (lower f g)
unfolding lower
lower_high f g a b =
    either High (eqb f 0) (λ e. b)
    (λ e. either High (eqb g 0) (λ h. a)
    (λ h. inr (⊎_elim (λ z. absurd (eqb-false f 0 e z)) (λ k. ⊎_elim (λ z. absurd (eqb-false g 0 h z)) (λ l. omega arith) b) a)))

marked-right : (c : ℕ) (q : Form) (m : ℕ) → Numbers q → RightL c (marked q m)
unfolding marked
marked-right c q m d =
    either (RightL c) (eqb (lower q.fault (cond (eqb m 43) 14 0)) 0) (λ e. (d.least, d.extra, inl refl))
    (λ e. (omega arith, omega arith, lower_high q.fault (cond (eqb m 43) 14 0) d.fault (either High (eqb m 43) (λ f. inr (omega arith)) (λ f. inl refl))))

quantifier-right : (c : ℕ) (v : List ℕ) → RightL c (quantifier_of v)
unfolding quantifier_of
quantifier-right c v = marked-right c (form_of v) (get_or v (form_of v).size 0) (all-numbers v)

unquoted-right : (o : Options) (c : ℕ) (v : List ℕ) → RightL c (unquoted_of o c v)
unfolding unquoted_of
unquoted-right o c v =
    either (RightL c) (eqb c 92) (λ e. escaped-right c (escape_of false v))
    (λ e. either (RightL c) (eqb c 91) (λ f. refl)
    (λ f. either (RightL c) (eqb c 40) (λ g. opening-right c o v)
    (λ g. either (RightL c) (eqb c 41) (λ h. (eqb-true c 41 h, refl))
    (λ h. either (RightL c) (eqb c 124) (λ i. (eqb-true c 124 i, refl))
    (λ i. either (RightL c) (eqb c 46) (λ j. refl)
    (λ j. either (RightL c) (eqb c 94) (λ k. refl)
    (λ k. either (RightL c) (eqb c 36) (λ l. refl)
    (λ l. either (RightL c) (form_of (c ∷ v)).is (λ n. quantifier-right c (c ∷ v)) (λ n. refl)))))))))

spelled-right : (o : Options) (c : ℕ) (v : List ℕ) → RightL c (spelled_of o (c ∷ v))
unfolding spelled_of
spelled-right o c v =
    either (RightL c) (is_mark o.quoted c (get_or v 0 0)) (λ e. refl) (λ e. either (RightL c) o.quoted (λ f. refl) (λ f. unquoted-right o c v))

-- a fault f that is one where g is: a quantifier's stays high
faulty-as-right : (c f g : ℕ) (t : Token) → Right c g t → (High g → High f) → (f ≡ 0 → ⊥) → RightL c (faulty_as f t)
faulty-as-right c f g Finish r h n = n
faulty-as-right c f g Bar r h n = n
faulty-as-right c f g Close r h n = n
faulty-as-right c f g Class r h n = n
faulty-as-right c f g (One a) r h n = n
faulty-as-right c f g (Open o) r h n = n
faulty-as-right c f g (Set o) r h n = n
faulty-as-right c f g (Note o) r h n = n
faulty-as-right c f g Unclosed r h n = n
faulty-as-right c f g (Repeat least extra) r h n = (omega arith, omega arith, h r.2)
faulty-as-right c f g Bad r h n = n

raw-high : (f size : ℕ) (v : List ℕ) → High f → High (with_raw f size v)
unfolding with_raw
raw-high f size v h =
    let raw : Bool = any_raw (take size v) in
    lower_high f (cond raw 23 0) h (either High raw (λ e. inr (omega arith)) (λ e. inl refl))

lexeme-right : (o : Options) (c : ℕ) (v : List ℕ) → RightL c (lexeme_of o (c ∷ v))
unfolding lexeme_of
lexeme-right o c v =
    let l : Lexeme = spelled_of o (c ∷ v) in
    let f : ℕ = with_raw l.fault l.size (c ∷ v) in
    let right : RightL c l = spelled-right o c v in
    either (RightL c) (eqb f 0) (λ e. right)
    (λ e. faulty-as-right c f l.fault l.token right (raw-high l.fault l.size (c ∷ v)) (eqb-false f 0 e))

-- of a token with byte c in front, where `left` bytes are left of the pattern
pub record Sound (c left : ℕ) (l : Lexeme) : Type 0 where
  pub right : Right c l.fault l.token
  pub some : l.fault ≡ 0 → 1 ≤ l.size
  pub fits : l.size ≤ left

pub lexeme-sound : (o : Options) (c : ℕ) (v : List ℕ) → Sound c (suc (length v)) (lexeme_of o (c ∷ v))
lexeme-sound o c v = let t = lexeme-takes o c v in record { right = lexeme-right o c v; some = t.takes; fits = t.fits }
