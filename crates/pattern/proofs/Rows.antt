-- A token's fault is the lowest row of the table that holds of its bytes: the definition's tests
-- and the rows' are brought side by side, test by test, and what is left is about truth values.
-- Assumes nothing.
use mathlib.Core.Path.{◌≡◌, refl, sym, ap, ap₂, subst, ◌∙◌}
use mathlib.Core.Bool.{Bool, true, false, cond, not, ◌&&◌, ◌||◌, or-true, or-false, and-false, and-eq-true_iff}
use mathlib.Core.List.{List, [], ◌∷◌}
use Prim.Native.Nat.{ℕ, suc, ◌+◌, ◌≤◌, ◌<◌, min}
use native.Mathlib.Omega.{arith}
use borrow.Author.Tests.{eqb-true, leb-true, leb-false, ltb-true, ltb-false, ne_eqb, lt-ltb, le-ltb, le-leb, lt-leb}
use lib.Dec.{eqb, leb, ltb, leb-suc-suc, leb-suc-zero}
use lib.ListN.{length, get_or, take, drop, length-drop}
use lib.Seq.{get_or-drop, drop-drop}
use Rattle.kinds.specs.Kind.{within, is_lower, is_upper, is_digit, is_alpha, is_alnum, is_cntrl}
use Rattle.kinds.specs.declared.Kind.TheVariants.{Digit, Word, Space, Horizontal, Vertical}
use Rattle.atoms.specs.declared.Atom.{Atom}
use Rattle.atoms.specs.declared.Atom.TheVariants.{Byte, OfKind, NotOfKind, NotNewline, Start, LastLine, End, WordEdge, NoWordEdge}
use Rattle.atoms.specs.Escape.{Part}
use Rattle.atoms.specs.declared.Gap.{Gap}
use Rattle.classes.specs.Class.{Joint}
use Rattle.tokens.specs.declared.Options.{Options}
use Rattle.tokens.specs.Quantifier.{Form}
use Rattle.tokens.specs.Lexeme.{Token}
use Rattle.tokens.specs.Lexeme.{Finish, Bar, Close, Class, One, Open, Set, Note, Unclosed, Repeat, Bad}
use Rattle.tokens.specs.Lexeme.{Lexeme}
use Rattle.atoms.specs.Number.{cap, some, blanks, digits, value_from, numeral_of}
use Rattle.atoms.specs.Escape.{good, braced_of, short_of, control_of, type_of, named_of, placed_of, hex_of, octal_of, escape_of}
use Rattle.atoms.specs.Fault.{lower}
use Rattle.atoms.specs.Raw.{any_raw, with_raw}
use Rattle.atoms.specs.Quote.{is_mark, opens_quote, wider, gap_of}
use Rattle.classes.specs.Name.{Name, names, begins, name_among, name_of}
use Rattle.classes.specs.Class.{bracket_of, member_of, range_fault, is_type, byte_of, joint_of, spelled_at, member_at}
use Rattle.tokens.specs.Option.{plain, with_caseless, with_dot_all, with_lines, letters_of, before_close, comment_of, opening_of}
use Rattle.tokens.specs.Quantifier.{bounded, open_ended, braces_of, form_of, marked, quantifier_of}
use Rattle.tokens.specs.Token.{escaped, with_quoted, unquoted_of, lexeme_of, spelled_of, faulty_as}
use Rattle.atoms.proofs.Suffixes.{first}
use Rattle.classes.proofs.Sizes.{joint-within}
use Rattle.pattern.specs.Reasons.{among, number, beyond, braced, cut_short, too_large, unknown, option_bytes, hyphens, setting, bad_opening, decimal_of, second, bad_bounds, row6, row7, row9, row11, row14, plainly, joint_at, far_end, is_named, unknown_name, member_row14, faulty_end, of_end, raw_among, row23}
use Rattle.atoms.proofs.Raws.{raw-besides}
use Rattle.pattern.proofs.Base.{either, split, true-not-false, byte-not}
use Rattle.pattern.proofs.Lowest.{lowest, both, last_row}

-- ---- truth values

or_left : (a b : Bool) → (a || b) ≡ false → a ≡ false
or_left true b e = e
or_left false b e = refl

or_right : (a b : Bool) → (a || b) ≡ false → b ≡ false
or_right true b e = true-not-false true refl e
or_right false b e = e

and_left : (a : Bool) → (a && true) ≡ false → a ≡ false
and_left true e = e
and_left false e = refl

-- ---- numbers between braces

beyond-is : (base : ℕ) (v : List ℕ) → beyond base v ≡ drop (numeral_of base v).size v
unfolding beyond numeral_of
beyond-is base v =
    let w : List ℕ = drop (blanks v) v in
    let k : ℕ = length (digits base w) in
    drop-drop (blanks (drop k w)) k w ∙ drop-drop (k + blanks (drop k w)) (blanks v) v

-- the byte after a number, and what follows that byte
after_is : (base : ℕ) (v : List ℕ) → get_or (beyond base v) 0 0 ≡ get_or v (numeral_of base v).size 0
after_is base v = ap (λ (w : List ℕ). get_or w 0 0) (beyond-is base v) ∙ first v (numeral_of base v).size

second_is : (v : List ℕ) → second v ≡ drop ((numeral_of 10 v).size + 1) v
unfolding second
second_is v = ap (drop 1) (beyond-is 10 v) ∙ drop-drop 1 (numeral_of 10 v).size v

-- ---- escapes

abbrev fault : Part → ℕ
fault p = p.fault

-- the fault of a braced number, by whether it has its digits and brace, and whether it is large
abbrev braced_fault : ℕ → List ℕ → ℕ
braced_fault base v = cond (braced base (drop 1 v)) (cond (ltb 255 (value_from base 0 (number base (drop 1 v)))) 7 0) 6

braced-fault : (base : ℕ) (v : List ℕ) → fault (braced_of base v) ≡ braced_fault base v
unfolding braced_of numeral_of
braced-fault base v =
    let ds : List ℕ = number base (drop 1 v) in
    let k : ℕ = (numeral_of base (drop 1 v)).size in
    let x : ℕ = value_from base 0 ds in
    rw (after_is base (drop 1 v), get_or-drop 1 v k 0)
    (split (some ds && eqb (get_or v (1 + k) 0) 125)
    (λ e. rw e (split (leb (min cap x) 255)
    (λ f. rw (f, le-ltb 255 x (omega (arith, leb-true (min cap x) 255 f))))
    (λ f. rw (f, lt-ltb 255 x (omega (arith, leb-false (min cap x) 255 f))))))
    (λ e. rw e))

hex-bool : (b d l : Bool) → ◌≡◌ {A = ℕ} (cond b (cond d (cond l 7 0) 6) 0) (cond (b && not d || false) 6 (cond (b && (d && l || false)) 7 0))
hex-bool true true true = refl
hex-bool true true false = refl
hex-bool true false l = refl
hex-bool false d l = refl

octal-bool : (b d l : Bool) → ◌≡◌ {A = ℕ} (cond b (cond d (cond l 7 0) 6) 6) (cond (not (b && d)) 6 (cond (b && (d && l)) 7 0))
octal-bool true true true = refl
octal-bool true true false = refl
octal-bool true false l = refl
octal-bool false d l = refl

control-bool : (b w : Bool) → ◌≡◌ {A = ℕ} (cond w 0 6) (cond (not w || false) 6 (cond (b && false) 7 0))
control-bool true true = refl
control-bool true false = refl
control-bool false true = refl
control-bool false false = refl

-- the fault of an escape whose backslash stands before v, by its rows
abbrev pub escape_fault : Bool → List ℕ → ℕ
escape_fault i v = lowest (cut_short v) (too_large v) false false false (unknown i v) false

abbrev EscapeFault : Bool → List ℕ → Type 0
EscapeFault i v = fault (escape_of i v) ≡ escape_fault i v

-- a choice between a part of two bytes, which has no fault, and another
two : (t : Bool) (a : Atom) (p : Part) (f : ℕ) → fault p ≡ f → fault (cond t (good 2 a) p) ≡ cond t 0 f
two true a p f e = refl
two false a p f e = e

-- none for the bytes of a list, and f for others
abbrev chain : ℕ → List ℕ → ℕ → ℕ
chain c [] f = f
chain c (k ∷ ks) f = cond (eqb c k) 0 (chain c ks f)

chain-among : (c : ℕ) (ks : List ℕ) → chain c ks 14 ≡ cond (not (among c ks)) 14 0
chain-among c [] = refl
chain-among c (k ∷ ks) = split (eqb c k) (λ e. rw e) (λ e. rw e (chain-among c ks))

type-fault : (c : ℕ) (p : Part) (f : ℕ) → fault p ≡ f → fault (type_of c p) ≡ chain c (100 ∷ 119 ∷ 115 ∷ 104 ∷ 118 ∷ 68 ∷ 87 ∷ 83 ∷ 72 ∷ 86 ∷ []) f
unfolding type_of
type-fault c p b e = two (eqb c 100) (OfKind Digit) _ _ (two (eqb c 119) (OfKind Word) _ _ (two (eqb c 115) (OfKind Space) _ _ (two (eqb c 104) (OfKind Horizontal) _ _ (two (eqb c 118) (OfKind Vertical) _ _ (two (eqb c 68) (NotOfKind Digit) _ _ (two (eqb c 87) (NotOfKind Word) _ _ (two (eqb c 83) (NotOfKind Space) _ _ (two (eqb c 72) (NotOfKind Horizontal) _ _ (two (eqb c 86) (NotOfKind Vertical) _ _ e)))))))))

named-fault : (c : ℕ) (p : Part) (f : ℕ) → fault p ≡ f → fault (named_of c p) ≡ chain c (97 ∷ 101 ∷ 102 ∷ 110 ∷ 114 ∷ 116 ∷ []) f
unfolding named_of
named-fault c p b e = two (eqb c 97) (Byte 7) _ _ (two (eqb c 101) (Byte 27) _ _ (two (eqb c 102) (Byte 12) _ _ (two (eqb c 110) (Byte 10) _ _ (two (eqb c 114) (Byte 13) _ _ (two (eqb c 116) (Byte 9) _ _ e)))))

hex-part : (v : List ℕ) → fault (hex_of v) ≡ cond (eqb (get_or v 0 0) 123) (braced_fault 16 v) 0
unfolding hex_of short_of
hex-part v = split (eqb (get_or v 0 0) 123) (λ e. rw e (braced-fault 16 v)) (λ e. rw e)

octal-part : (v : List ℕ) → fault (octal_of v) ≡ cond (eqb (get_or v 0 0) 123) (braced_fault 8 v) 6
unfolding octal_of
octal-part v = split (eqb (get_or v 0 0) 123) (λ e. rw e (braced-fault 8 v)) (λ e. rw e)

control-part : (v : List ℕ) → fault (control_of v) ≡ cond (within 32 126 (get_or v 0 0)) 0 6
unfolding control_of
control-part [] = refl
control-part (c ∷ v) = split (within 32 126 c) (λ e. rw e) (λ e. rw e)

hex-fault : (i : Bool) (v : List ℕ) → EscapeFault i (120 ∷ v)
unfolding escape_of is_alnum is_alpha is_lower is_upper is_digit cut_short too_large unknown
hex-fault true v = hex-part v ∙ hex-bool (eqb (get_or v 0 0) 123) (braced 16 (drop 1 v)) (ltb 255 (value_from 16 0 (number 16 (drop 1 v))))
hex-fault false v = hex-part v ∙ hex-bool (eqb (get_or v 0 0) 123) (braced 16 (drop 1 v)) (ltb 255 (value_from 16 0 (number 16 (drop 1 v))))

octal-fault : (i : Bool) (v : List ℕ) → EscapeFault i (111 ∷ v)
unfolding escape_of is_alnum is_alpha is_lower is_upper is_digit cut_short too_large unknown
octal-fault true v = octal-part v ∙ octal-bool (eqb (get_or v 0 0) 123) (braced 8 (drop 1 v)) (ltb 255 (value_from 8 0 (number 8 (drop 1 v))))
octal-fault false v = octal-part v ∙ octal-bool (eqb (get_or v 0 0) 123) (braced 8 (drop 1 v)) (ltb 255 (value_from 8 0 (number 8 (drop 1 v))))

zero-fault : (i : Bool) (v : List ℕ) → EscapeFault i (48 ∷ v)
unfolding escape_of short_of is_alnum is_alpha is_lower is_upper is_digit cut_short too_large unknown
zero-fault true v = sym (rw (and-false (eqb (get_or v 0 0) 123)))
zero-fault false v = sym (rw (and-false (eqb (get_or v 0 0) 123)))

control-fault : (i : Bool) (v : List ℕ) → EscapeFault i (99 ∷ v)
unfolding escape_of is_alnum is_alpha is_lower is_upper is_digit cut_short too_large unknown
control-fault true v = control-part v ∙ control-bool (eqb (get_or v 0 0) 123) (within 32 126 (get_or v 0 0))
control-fault false v = control-part v ∙ control-bool (eqb (get_or v 0 0) 123) (within 32 126 (get_or v 0 0))

-- a letter or digit other than those, and other than the marks of quotes
other-fault : (i : Bool) (c : ℕ) (v : List ℕ) → is_alnum c ≡ true → eqb c 120 ≡ false → eqb c 111 ≡ false → eqb c 48 ≡ false → eqb c 99 ≡ false
    → eqb c 69 ≡ false → eqb c 81 ≡ false → EscapeFault i (c ∷ v)
unfolding escape_of placed_of cut_short too_large unknown
other-fault true c v e x o z k m n =
    rw (e, x, o, z, k, m, n, and-false (eqb (get_or v 0 0) 123))
    (named-fault c _ _ (type-fault c _ _ (two (eqb c 98) (Byte 8) _ 14 refl))
    ∙ chain-among c (97 ∷ 101 ∷ 102 ∷ 110 ∷ 114 ∷ 116 ∷ 100 ∷ 119 ∷ 115 ∷ 104 ∷ 118 ∷ 68 ∷ 87 ∷ 83 ∷ 72 ∷ 86 ∷ 98 ∷ []))
other-fault false c v e x o z k m n =
    rw (e, x, o, z, k, m, n, and-false (eqb (get_or v 0 0) 123))
    (named-fault c _ _ (type-fault c _ _ (two (eqb c 78) NotNewline _ _ (two (eqb c 65) Start _ _ (two (eqb c 90) LastLine _ _ (two (eqb c 122) End _ _ (two (eqb c 98) WordEdge _ _ (two (eqb c 66) NoWordEdge _ 14 refl)))))))
    ∙ chain-among c (97 ∷ 101 ∷ 102 ∷ 110 ∷ 114 ∷ 116 ∷ 100 ∷ 119 ∷ 115 ∷ 104 ∷ 118 ∷ 68 ∷ 87 ∷ 83 ∷ 72 ∷ 86 ∷ 78 ∷ 65 ∷ 90 ∷ 122 ∷ 98 ∷ 66 ∷ []))

-- any other byte
alnum-99 : is_alnum 99 ≡ true
unfolding is_alnum is_alpha is_lower is_upper is_digit
alnum-99 = refl

alnum-120 : is_alnum 120 ≡ true
unfolding is_alnum is_alpha is_lower is_upper is_digit
alnum-120 = refl

alnum-111 : is_alnum 111 ≡ true
unfolding is_alnum is_alpha is_lower is_upper is_digit
alnum-111 = refl

not_byte : (c k : ℕ) → is_alnum k ≡ true → is_alnum c ≡ false → eqb c k ≡ false
not_byte c k h e = ne_eqb c k (λ z. true-not-false (is_alnum c) (ap is_alnum z ∙ h) e)

byte-fault : (i : Bool) (c : ℕ) (v : List ℕ) → is_alnum c ≡ false → EscapeFault i (c ∷ v)
unfolding escape_of cut_short too_large unknown
byte-fault i c v e =
    rw (e, not_byte c 99 alnum-99 e, not_byte c 120 alnum-120 e, not_byte c 111 alnum-111 e, and-false (eqb (get_or v 0 0) 123))

-- a `\` that begins no mark of a quote
abbrev Unmarked : List ℕ → Type 0
Unmarked v = is_mark false 92 (get_or v 0 0) ≡ false

escape-fault : (i : Bool) (v : List ℕ) → Unmarked v → EscapeFault i v
unfolding escape_of cut_short is_mark
escape-fault i [] u = refl
escape-fault i (c ∷ v) u =
    let m : eqb c 69 ≡ false = or_left (eqb c 69) (eqb c 81 && true) u in
    let n : eqb c 81 ≡ false = and_left (eqb c 81) (or_right (eqb c 69) (eqb c 81 && true) u) in
    split (is_alnum c)
    (λ e.
    split (eqb c 120) (λ x. at_byte 120 x (hex-fault i v))
    (λ x. split (eqb c 111) (λ o. at_byte 111 o (octal-fault i v))
    (λ o. split (eqb c 48) (λ z. at_byte 48 z (zero-fault i v))
    (λ z. split (eqb c 99) (λ k. at_byte 99 k (control-fault i v)) (λ k. other-fault i c v e x o z k m n)))))
    (λ e. byte-fault i c v e)
  where
    at_byte : (k : ℕ) → eqb c k ≡ true → EscapeFault i (k ∷ v) → EscapeFault i (c ∷ v)
    at_byte k e h = subst (λ (b : ℕ). EscapeFault i (b ∷ v)) (sym (eqb-true c k e)) h

-- ---- openings

hyphens-fit : (f : List ℕ) → hyphens f ≤ length f
unfolding hyphens
hyphens-fit [] = omega arith
hyphens-fit (c ∷ f) =
    either (λ (n : ℕ). n ≤ suc (length f)) (eqb c 45) (λ e. omega (arith, hyphens-fit f)) (λ e. omega (arith, hyphens-fit f))

-- the end of an option setting
abbrev closer : ℕ → Bool
closer c = eqb c 41 || eqb c 58

-- what is left of an option setting, after a hyphen or not, after a letter or not
abbrev setting_from : Bool → Bool → List ℕ → Bool
setting_from on any v =
    leb (hyphens (option_bytes v)) (cond on 1 0)
    && ((any || ltb (hyphens (option_bytes v)) (length (option_bytes v))) && closer (get_or v (length (option_bytes v)) 0))

LettersFault : ℕ → List ℕ → Type 0
LettersFault c v = (on any : Bool) (o : Options) (size : ℕ) → (letters_of on any o size (c ∷ v)).fault ≡ cond (setting_from on any (c ∷ v)) 0 14

module _ (v : List ℕ) (ih : (on any : Bool) (o : Options) (size : ℕ) → (letters_of on any o size v).fault ≡ cond (setting_from on any v) 0 14) where
  letter-i : LettersFault 105 v
  unfolding LettersFault letters_of option_bytes hyphens
  letter-i on any o size =
      ih on true (with_caseless on o) (size + 1) ∙ sym (rw (lt-ltb (hyphens (option_bytes v)) (suc (length (option_bytes v))) (omega (arith, hyphens-fit (option_bytes v))), or-true any))

  letter-s : LettersFault 115 v
  unfolding LettersFault letters_of option_bytes hyphens
  letter-s on any o size =
      ih on true (with_dot_all on o) (size + 1) ∙ sym (rw (lt-ltb (hyphens (option_bytes v)) (suc (length (option_bytes v))) (omega (arith, hyphens-fit (option_bytes v))), or-true any))

  letter-m : LettersFault 109 v
  unfolding LettersFault letters_of option_bytes hyphens
  letter-m on any o size =
      ih on true (with_lines on o) (size + 1) ∙ sym (rw (lt-ltb (hyphens (option_bytes v)) (suc (length (option_bytes v))) (omega (arith, hyphens-fit (option_bytes v))), or-true any))

  letter-off : LettersFault 45 v
  unfolding LettersFault letters_of option_bytes hyphens
  letter-off true any o size =
      ih false any o (size + 1) ∙ sym (rw (leb-suc-suc (hyphens (option_bytes v)) 0, leb-suc-suc (suc (hyphens (option_bytes v))) (length (option_bytes v))))
  letter-off false any o size = sym (rw (leb-suc-zero (hyphens (option_bytes v))))

letter-set : (v : List ℕ) → LettersFault 41 v
unfolding LettersFault letters_of option_bytes hyphens
letter-set v true true o size = refl
letter-set v true false o size = refl
letter-set v false true o size = refl
letter-set v false false o size = refl

letter-open : (v : List ℕ) → LettersFault 58 v
unfolding LettersFault letters_of option_bytes hyphens
letter-open v true true o size = refl
letter-open v true false o size = refl
letter-open v false true o size = refl
letter-open v false false o size = refl

letter-other : (c : ℕ) (v : List ℕ) → eqb c 105 ≡ false → eqb c 115 ≡ false → eqb c 109 ≡ false → eqb c 45 ≡ false → eqb c 41 ≡ false → eqb c 58 ≡ false → LettersFault c v
unfolding LettersFault letters_of option_bytes hyphens
letter-other c v e f m g k l on any o size = rw (e, f, m, g, k, l, and-false (any || false), and-false (leb 0 (cond on 1 0)))

-- any byte
letter-by : (c : ℕ) (v : List ℕ) → LettersFault 105 v → LettersFault 115 v → LettersFault 109 v → LettersFault 45 v → LettersFault c v
letter-by c v i s m h =
    split (eqb c 105) (λ e. at-letter 105 e i)
    (λ e. split (eqb c 115) (λ f. at-letter 115 f s)
    (λ f. split (eqb c 109) (λ n. at-letter 109 n m)
    (λ n. split (eqb c 45) (λ g. at-letter 45 g h)
    (λ g. split (eqb c 41) (λ k. at-letter 41 k (letter-set v))
    (λ k. split (eqb c 58) (λ l. at-letter 58 l (letter-open v)) (λ l. letter-other c v e f n g k l))))))
  where
    at-letter : (k : ℕ) → eqb c k ≡ true → LettersFault k v → LettersFault c v
    at-letter k e l = subst (λ (b : ℕ). LettersFault b v) (sym (eqb-true c k e)) l

letters-fault : (v : List ℕ) (on any : Bool) (o : Options) (size : ℕ) → (letters_of on any o size v).fault ≡ cond (setting_from on any v) 0 14
unfolding LettersFault letters_of option_bytes hyphens
letters-fault [] on any o size = sym (rw (and-false (any || false), and-false (leb 0 (cond on 1 0))))
letters-fault (c ∷ v) on any o size =
    let ih : (on any : Bool) (o : Options) (size : ℕ) → (letters_of on any o size v).fault ≡ cond (setting_from on any v) 0 14 = letters-fault v in
    letter-by c v (letter-i v ih) (letter-s v ih) (letter-m v ih) (letter-off v ih) on any o size

flip : (b : Bool) → ◌≡◌ {A = ℕ} (cond b 0 14) (cond (not b) 14 0)
flip true = refl
flip false = refl

comment-fault : (o : Options) (v : List ℕ) → (comment_of o v).fault ≡ 0
unfolding comment_of
comment-fault o v = split (ltb (before_close v) (length v)) (λ e. rw e) (λ e. rw e)

pub opening-fault : (o : Options) (v : List ℕ) → (opening_of o v).fault ≡ cond (bad_opening v) 14 0
unfolding opening_of bad_opening
opening-fault o v =
    split (eqb (get_or v 0 0) 42) (λ e. rw e)
    (λ e. rw e (split (eqb (get_or v 0 0) 63)
    (λ f. rw f (split (eqb (get_or v 1 0) 58) (λ g. rw g)
    (λ g. rw g (split (eqb (get_or v 1 0) 35) (λ h. rw h (comment-fault o (drop 2 v))) (λ h. rw h (letters-fault (drop 1 v) true false o 2 ∙ flip (setting (drop 1 v))))))))
    (λ f. rw f)))

-- ---- quantifiers

abbrev small : ℕ → Bool
small n = ltb 65535 n

-- a bounded form, by its numbers as they are written
bounded-fault : (size n m : ℕ) → (bounded size (min cap n) (min cap m)).fault ≡ cond (small n || (small m || ltb m n)) 11 0
unfolding bounded
bounded-fault size n m =
    split (ltb 65535 n)
    (λ e. let h : 65535 < n = ltb-true 65535 n e in rw (e, le-ltb (min cap n) cap (omega arith)))
    (λ e.
    let h : n ≤ 65535 = ltb-false 65535 n e in
    rw (e, lt-ltb (min cap n) cap (omega arith))
    (split (ltb 65535 m)
    (λ f. let k : 65535 < m = ltb-true 65535 m f in rw (f, le-ltb (min cap m) cap (omega arith)))
    (λ f.
    let k : m ≤ 65535 = ltb-false 65535 m f in
    rw (f, lt-ltb (min cap m) cap (omega arith))
    (split (ltb m n)
    (λ g. let l : m < n = ltb-true m n g in rw (g, lt-leb (min cap n) (min cap m) (omega arith)))
    (λ g. let l : n ≤ m = ltb-false m n g in rw (g, le-leb (min cap n) (min cap m) (omega arith)))))))

open-fault : (size n : ℕ) → (open_ended size (min cap n)).fault ≡ cond (small n || false) 11 0
unfolding open_ended
open-fault size n =
    split (ltb 65535 n)
    (λ e. let h : 65535 < n = ltb-true 65535 n e in rw (e, le-ltb (min cap n) cap (omega arith)))
    (λ e. let h : n ≤ 65535 = ltb-false 65535 n e in rw (e, lt-ltb (min cap n) cap (omega arith)))

once-bool : (a : Bool) → ◌≡◌ {A = ℕ} (cond (a || (a || false)) 11 0) (cond (a || false) 11 0)
once-bool true = refl
once-bool false = refl

same-fault : (size n : ℕ) → (bounded size (min cap n) (min cap n)).fault ≡ cond (small n || false) 11 0
same-fault size n = bounded-fault size n n ∙ rw (le-ltb n n (omega arith)) (once-bool (small n))

braces-fault : (v : List ℕ) → (braces_of v).is ≡ true → (braces_of v).fault ≡ cond (bad_bounds v) 11 0
unfolding braces_of numeral_of bad_bounds
braces-fault v =
    let k : ℕ = (numeral_of 10 v).size in
    let w : List ℕ = drop (k + 1) v in
    let j : ℕ = (numeral_of 10 w).size in
    rw (after_is 10 v, second_is v)
    (split (eqb (get_or v k 0) 125)
    (λ e. rw e (split (some (number 10 v)) (λ f. rw f (λ z. same-fault (2 + k) (decimal_of v))) (λ f. rw f (λ z. true-not-false false z refl))))
    (λ e. rw e (split (eqb (get_or v k 0) 44 && eqb (get_or v (k + (1 + j)) 0) 125)
    (λ f. rw f (split (some (number 10 w))
    (λ g. rw g (λ z. bounded-fault (3 + (k + j)) (decimal_of v) (decimal_of w)))
    (λ g. rw g (split (some (number 10 v)) (λ h. rw h (λ z. open-fault (3 + (k + j)) (decimal_of v))) (λ h. rw h (λ z. true-not-false false z refl))))))
    (λ f. rw f (λ z. true-not-false false z refl)))))

-- a form that is one, by its first byte
form-fault : (c : ℕ) (v : List ℕ) → (form_of (c ∷ v)).is ≡ true → (form_of (c ∷ v)).fault ≡ cond (eqb c 123 && bad_bounds v) 11 0
unfolding form_of
form-fault c v =
    split (eqb c 63) (λ e. rw (e, byte-not c 63 123 e refl) (λ z. refl))
    (λ e. rw e (split (eqb c 42) (λ f. rw (f, byte-not c 42 123 f refl) (λ z. refl))
    (λ f. rw f (split (eqb c 43) (λ g. rw (g, byte-not c 43 123 g refl) (λ z. refl))
    (λ g. rw g (split (eqb c 123) (λ h. rw h (braces-fault v)) (λ h. rw h (λ z. true-not-false false z refl))))))))

-- a form with its mark
picked : (f : ℕ) (l m : Lexeme) → l.fault ≡ 0 → m.fault ≡ f → (cond (eqb f 0) l m).fault ≡ f
picked f l m hl hm = split (eqb f 0) (λ e. rw (e, hl) (sym (eqb-true f 0 e))) (λ e. rw (e, hm))

marked-fault : (q : Form) (m : ℕ) → (marked q m).fault ≡ lower q.fault (cond (eqb m 43) 14 0)
unfolding marked
marked-fault q m = picked (lower q.fault (cond (eqb m 43) 14 0)) _ _ refl refl

quantifier-fault : (c : ℕ) (v : List ℕ) → (form_of (c ∷ v)).is ≡ true
    → (quantifier_of (c ∷ v)).fault ≡ lowest false false false false (eqb c 123 && bad_bounds v) (eqb (get_or (c ∷ v) (form_of (c ∷ v)).size 0) 43) false
unfolding quantifier_of
quantifier-fault c v e =
    let bounds : Bool = eqb c 123 && bad_bounds v in
    let mark : Bool = eqb (get_or (c ∷ v) (form_of (c ∷ v)).size 0) 43 in
    marked-fault (form_of (c ∷ v)) (get_or (c ∷ v) (form_of (c ∷ v)).size 0)
    ∙ ap (λ (f : ℕ). lower f (cond mark 14 0)) (form-fault c v e)
    ∙ both false false false false bounds false false false false false false false mark false
    ∙ ap (λ (b : Bool). cond b 11 (cond mark 14 0)) (or-false bounds)

-- ---- one token outside a class

-- the fault of the token at the front of v by itself, by its rows, where a quote is open or not
abbrev pub own_fault : Bool → List ℕ → ℕ
own_fault quoted v =
    lowest (plainly quoted (row6 v)) (plainly quoted (row7 v)) false false (plainly quoted (row11 v)) (plainly quoted (row14 v)) false

-- of a token outside a quote
abbrev LexemeFault : Options → List ℕ → ℕ → Type 0
LexemeFault o v c = (unquoted_of o c v).fault ≡ own_fault false (c ∷ v)

escaped-fault : (p : Part) → (escaped p).fault ≡ fault p
unfolding escaped
escaped-fault p = split (eqb p.fault 0) (λ e. rw e (sym (eqb-true p.fault 0 e))) (λ e. rw e)

module _ (o : Options) (v : List ℕ) where
  escape-token : Unmarked v → LexemeFault o v 92
  unfolding unquoted_of form_of row6 row7 row11 row14
  escape-token u = escaped-fault (escape_of false v) ∙ escape-fault false v u ∙ sym (rw (or-false (unknown false v)))

  opening-token : LexemeFault o v 40
  unfolding unquoted_of form_of row6 row7 row11 row14
  opening-token = opening-fault o v ∙ sym (rw (or-false (bad_opening v)))

  class-token : LexemeFault o v 91
  unfolding unquoted_of form_of row6 row7 row11 row14
  class-token = refl

  close-token : LexemeFault o v 41
  unfolding unquoted_of form_of row6 row7 row11 row14
  close-token = refl

  bar-token : LexemeFault o v 124
  unfolding unquoted_of form_of row6 row7 row11 row14
  bar-token = refl

  dot-token : LexemeFault o v 46
  unfolding unquoted_of form_of row6 row7 row11 row14
  dot-token = refl

  caret-token : LexemeFault o v 94
  unfolding unquoted_of form_of row6 row7 row11 row14
  caret-token = refl

  dollar-token : LexemeFault o v 36
  unfolding unquoted_of form_of row6 row7 row11 row14
  dollar-token = refl

  unquoted-fault : (c : ℕ) → is_mark false c (get_or v 0 0) ≡ false → LexemeFault o v c
  unfolding unquoted_of row6 row7 row11 row14
  unquoted-fault c u =
      split (eqb c 92) (λ e. at_byte 92 e (escape-token (rw (eqb-true c 92 e) at u)))
      (λ e. split (eqb c 91) (λ f. at_byte 91 f class-token)
      (λ f. split (eqb c 40) (λ g. at_byte 40 g opening-token)
      (λ g. split (eqb c 41) (λ h. at_byte 41 h close-token)
      (λ h. split (eqb c 124) (λ i. at_byte 124 i bar-token)
      (λ i. split (eqb c 46) (λ j. at_byte 46 j dot-token)
      (λ j. split (eqb c 94) (λ k. at_byte 94 k caret-token)
      (λ k. split (eqb c 36) (λ l. at_byte 36 l dollar-token)
      (λ l. rw (e, f, g, h, i, j, k, l)
      (split (form_of (c ∷ v)).is (λ n. rw n (quantifier-fault c v n)) (λ n. rw n))))))))))
    where
      at_byte : (k : ℕ) → eqb c k ≡ true → LexemeFault o v k → LexemeFault o v c
      at_byte k e h = subst (LexemeFault o v) (sym (eqb-true c k e)) h

-- a quote's mark has no row
letter-e : (w : List ℕ) → own_fault false (92 ∷ 69 ∷ w) ≡ 0
unfolding row6 row7 row11 row14 cut_short too_large unknown is_alnum is_alpha is_lower is_upper is_digit form_of
letter-e w = rw (and-false (eqb (get_or w 0 0) 123))

letter-q : (w : List ℕ) → own_fault false (92 ∷ 81 ∷ w) ≡ 0
unfolding row6 row7 row11 row14 cut_short too_large unknown is_alnum is_alpha is_lower is_upper is_digit form_of
letter-q w = rw (and-false (eqb (get_or w 0 0) 123))

mark-rows : (c : ℕ) (v : List ℕ) → is_mark false c (get_or v 0 0) ≡ true → own_fault false (c ∷ v) ≡ 0
unfolding is_mark
mark-rows c v e =
    let a = (and-eq-true_iff (eqb c 92) (eqb (get_or v 0 0) 69 || (eqb (get_or v 0 0) 81 && true))).0 e in
    subst (λ (k : ℕ). own_fault false (k ∷ v) ≡ 0) (sym (eqb-true c 92 a.0)) (by-letter v a.1)
  where
    by-letter : (w : List ℕ) → (eqb (get_or w 0 0) 69 || (eqb (get_or w 0 0) 81 && true)) ≡ true → own_fault false (92 ∷ w) ≡ 0
    by-letter [] h = true-not-false false h refl
    by-letter (d ∷ w) h =
        split (eqb d 69) (λ f. subst (λ (k : ℕ). own_fault false (92 ∷ k ∷ w) ≡ 0) (sym (eqb-true d 69 f)) (letter-e w))
        (λ f. split (eqb d 81) (λ g. subst (λ (k : ℕ). own_fault false (92 ∷ k ∷ w) ≡ 0) (sym (eqb-true d 81 g)) (letter-q w)) (λ g. true-not-false false (rw (f, g) at h) refl))

pub spelled-fault : (o : Options) (v : List ℕ) (c : ℕ) → (spelled_of o (c ∷ v)).fault ≡ own_fault o.quoted (c ∷ v)
unfolding spelled_of
spelled-fault o v c = by-quote o.quoted
  where
    by-quote : (q : Bool)
        → (cond (is_mark q c (get_or v 0 0)) (plain 2 (Note (with_quoted (opens_quote (get_or v 0 0)) o))) (cond q (plain 1 (One (Byte c))) (unquoted_of o c v))).fault
        ≡ own_fault q (c ∷ v)
    by-quote true = split (is_mark true c (get_or v 0 0)) (λ f. rw f) (λ f. rw f)
    by-quote false = split (is_mark false c (get_or v 0 0)) (λ f. rw f (sym (mark-rows c v f))) (λ f. rw f (unquoted-fault o v c f))

-- ---- raw control bytes

raw_byte : (b : ℕ) → is_cntrl b ≡ (ltb b 32 || eqb b 127)
unfolding is_cntrl
raw_byte b =
    split (ltb b 32) (λ e. rw (e, le-leb b 31 (omega (arith, ltb-true b 32 e)))) (λ e. rw (e, lt-leb b 31 (omega (arith, ltb-false b 32 e))))

pub raw_same : (v : List ℕ) → any_raw v ≡ raw_among v
unfolding any_raw raw_among
raw_same [] = refl
raw_same (b ∷ v) = rw (raw_byte b, raw_same v) (or_assoc (ltb b 32) (eqb b 127) (raw_among v))
  where
    or_assoc : (x y z : Bool) → ((x || y) || z) ≡ (x || (y || z))
    or_assoc true y z = refl
    or_assoc false y z = refl

raw_row : (f size : ℕ) (v : List ℕ) → with_raw f size v ≡ lower f (cond (row23 size v) 23 0)
unfolding with_raw row23
raw_row f size v = rw (raw_same (take size v))

faulty-as-fault : (f : ℕ) (t : Token) → (faulty_as f t).fault ≡ f
faulty-as-fault f Finish = refl
faulty-as-fault f Bar = refl
faulty-as-fault f Close = refl
faulty-as-fault f Class = refl
faulty-as-fault f (One a) = refl
faulty-as-fault f (Open o) = refl
faulty-as-fault f (Set o) = refl
faulty-as-fault f (Note o) = refl
faulty-as-fault f Unclosed = refl
faulty-as-fault f (Repeat n j) = refl
faulty-as-fault f Bad = refl

-- a token's fault is that of its spelling and of its raw bytes
pub lexeme-fault : (o : Options) (v : List ℕ)
    → (lexeme_of o v).fault ≡ lower (spelled_of o v).fault (cond (row23 (spelled_of o v).size v) 23 0)
unfolding lexeme_of
lexeme-fault o v =
    let l : Lexeme = spelled_of o v in
    let f : ℕ = with_raw l.fault l.size v in
    split (eqb f 0)
    (λ e. let z : f ≡ 0 = eqb-true f 0 e in rw e (raw-besides l.fault l.size v z ∙ sym z ∙ raw_row l.fault l.size v))
    (λ e. rw e (faulty-as-fault f l.token ∙ raw_row l.fault l.size v))

-- a token with no fault besides and no raw byte stays
pub raw-clean : (o : Options) (v : List ℕ) → (spelled_of o v).fault ≡ 0 → row23 (spelled_of o v).size v ≡ false → lexeme_of o v ≡ spelled_of o v
unfolding lexeme_of lower
raw-clean o v e r = rw (raw_row (spelled_of o v).fault (spelled_of o v).size v, e, r)

-- ---- one member or range of a class

-- the names that stand at the front
among-fault : (ns : List Name) (caseless negated : Bool) (lead : ℕ) (v : List ℕ) → fault (name_among ns caseless negated lead v) ≡ cond (not (is_named ns v)) 14 0
unfolding name_among is_named
among-fault [] caseless negated lead v = refl
among-fault (n ∷ ns) caseless negated lead v = split (begins n.text v) (λ e. rw e) (λ e. rw e (among-fault ns caseless negated lead v))

bracket-fault : (caseless : Bool) (v : List ℕ) → fault (bracket_of caseless v) ≡ cond (unknown_name v) 14 0
unfolding bracket_of name_of unknown_name
bracket-fault caseless v =
    split (eqb (get_or v 0 0) 58)
    (λ e. rw (e, get_or-drop 1 v 0 0)
    (split (eqb (get_or v 1 0) 94)
    (λ f. rw (f, drop-drop 1 1 v) (among-fault names caseless true 3 (drop 2 v)))
    (λ f. rw f (among-fault names caseless false 2 (drop 1 v)))))
    (λ e. rw e (split (eqb (get_or v 0 0) 46 || eqb (get_or v 0 0) 61) (λ f. rw f) (λ f. rw f)))

-- the fault of a member, or of one end of a range, by its rows
abbrev end_fault : Bool → List ℕ → ℕ
end_fault quoted v = lowest (plainly quoted (row6 v)) (plainly quoted (row7 v)) false false false (plainly quoted (member_row14 v)) false

-- of one outside a quote
abbrev MemberFault : Bool → List ℕ → ℕ → Type 0
MemberFault caseless v c = fault (member_of caseless false (c ∷ v)) ≡ end_fault false (c ∷ v)

module _ (caseless : Bool) (v : List ℕ) where
  member-escape : Unmarked v → MemberFault caseless v 92
  unfolding member_of row6 row7 member_row14
  member-escape u = escape-fault true v u ∙ sym (rw (or-false (unknown true v)))

  member-name : MemberFault caseless v 91
  unfolding member_of row6 row7 member_row14
  member-name = bracket-fault caseless v

  member-fault : (c : ℕ) → is_mark false c (get_or v 0 0) ≡ false → MemberFault caseless v c
  unfolding member_of row6 row7 member_row14
  member-fault c u =
      split (eqb c 92) (λ e. at_byte 92 e (member-escape (rw (eqb-true c 92 e) at u)))
      (λ e. split (eqb c 91) (λ f. at_byte 91 f member-name) (λ f. rw (e, f)))
    where
      at_byte : (k : ℕ) → eqb c k ≡ true → MemberFault caseless v k → MemberFault caseless v c
      at_byte k e h = subst (MemberFault caseless v) (sym (eqb-true c k e)) h

-- no quote's mark stands at the front
abbrev pub NoMark : Bool → List ℕ → Type 0
NoMark quoted v = is_mark quoted (get_or v 0 0) (get_or v 1 0) ≡ false

-- the same of any bytes but none
end-fault : (caseless quoted : Bool) (v : List ℕ) → 0 < length v → NoMark quoted v → fault (member_of caseless quoted v) ≡ end_fault quoted v
unfolding member_of
end-fault caseless quoted [] h u = absurd (omega arith)
end-fault caseless true (c ∷ v) h u = refl
end-fault caseless false (c ∷ v) h u = member-fault caseless v c u

-- an end without a fault, by its rows
end_clean : (caseless quoted : Bool) (v : List ℕ) → 0 < length v → NoMark quoted v → eqb (fault (member_of caseless quoted v)) 0 ≡ not (faulty_end quoted v)
end_clean caseless quoted v h u =
    ap (λ (f : ℕ). eqb f 0) (end-fault caseless quoted v h u) ∙ by_rows (plainly quoted (row6 v)) (plainly quoted (row7 v)) (plainly quoted (member_row14 v))
  where
    by_rows : (a b d : Bool) → eqb (lowest a b false false false d false) 0 ≡ not (a || (b || d))
    by_rows true b d = refl
    by_rows false true d = refl
    by_rows false false true = refl
    by_rows false false false = refl

-- the two ends m and n as a range, by whether they have no fault
abbrev bad_range : (m n : Part) (a b : Bool) → Bool
bad_range m n a b = is_type m.atom || is_type n.atom || (a && (b && ltb (byte_of n.atom) (byte_of m.atom)))

range-fault : (m n : Part) (a b : Bool) → eqb m.fault 0 ≡ a → eqb n.fault 0 ≡ b → range_fault m n ≡ cond (bad_range m n a b) 9 0
unfolding range_fault
range-fault m n a b ea eb = rw (ea, eb) (go (is_type m.atom || is_type n.atom) (a && (b && ltb (byte_of n.atom) (byte_of m.atom))))
  where
    go : (t f : Bool) → ◌≡◌ {A = ℕ} (cond t 9 (cond f 9 0)) (cond (t || f) 9 0)
    go true f = refl
    go false f = refl

-- only row 6 gives 6
only-cut : (a b d : Bool) → lowest a b false false false d false ≡ 6 → a ≡ true
only-cut true b d e = refl
only-cut false true d e = absurd (omega arith)
only-cut false false true e = absurd (omega arith)
only-cut false false false e = absurd (omega arith)

-- after the marks at the front no mark stands
abbrev Done : List ℕ → Gap → Type 0
Done v g = is_mark g.quoted (get_or v g.size 0) (get_or v (g.size + 1) 0) ≡ false

wider-done : (c d : ℕ) (v : List ℕ) (g : Gap) → Done v g → Done (c ∷ d ∷ v) (wider g)
wider-done c d v g h =
    let p : 2 + g.size + 1 ≡ suc (suc (g.size + 1)) = omega arith in
    let q : 2 + g.size ≡ suc (suc g.size) = omega arith in
    rw (p, q) h

one-done : (quoted : Bool) (c : ℕ) → is_mark quoted c 0 ≡ false
unfolding is_mark
one-done quoted c = and-false (eqb c 92)

none_done : (quoted : Bool) → is_mark quoted 0 0 ≡ false
unfolding is_mark
none_done quoted = refl

gap-done : (quoted : Bool) (v : List ℕ) → Done v (gap_of quoted v)
unfolding gap_of
gap-done quoted [] = none_done quoted
gap-done quoted (c ∷ []) = one-done quoted c
gap-done quoted (c ∷ d ∷ v) =
    either (Done (c ∷ d ∷ v)) (is_mark quoted c d) (λ e. wider-done c d v (gap_of (opens_quote d) v) (gap-done (opens_quote d) v)) (λ e. e)

-- nor where the second end of a range stands
far-unmarked : (caseless quoted : Bool) (v : List ℕ) → NoMark (joint_at caseless quoted v).quoted (far_end caseless quoted v)
unfolding joint_of
far-unmarked caseless quoted v =
    let k : ℕ = (member_of caseless quoted v).size in
    let w : List ℕ = drop k v in
    let g : Gap = gap_of quoted w in
    let u : List ℕ = drop (g.size + 1) w in
    let h : Gap = gap_of false u in
    let n : ℕ = g.size + (1 + h.size) in
    let further : g.size + 1 + h.size ≡ n = omega arith in
    let same : drop (k + n) v ≡ drop h.size u = sym (drop-drop n k v) ∙ sym (drop-drop h.size (g.size + 1) w ∙ ap (λ (i : ℕ). drop i w) further) in
    let zero : h.size + 0 ≡ h.size = omega arith in
    rw (same, get_or-drop h.size u 0 0, get_or-drop h.size u 1 0, zero) (gap-done false u)

-- the faults of two ends, and of the two as a range
range-both : (a b d x y z t : Bool)
    → lower (lowest a b false false false d false) (lower (lowest x y false false false z false) (cond t 9 0)) ≡ lowest (a || x) (b || y) t false false (d || z) false
range-both a b d x y z t =
    rw (both x y false false false z false false false t false false false false)
    (both a b false false false d false (x || false) (y || false) t false false (z || false) false ∙ rw (or-false x, or-false y, or-false z))

-- the fault of a member or of a range, by the rows
abbrev pub member_fault : (caseless quoted : Bool) → List ℕ → (raw : Bool) → ℕ
member_fault caseless quoted v raw =
    lowest (of_end row6 caseless quoted v) (of_end row7 caseless quoted v) (row9 caseless quoted v) false false (of_end member_row14 caseless quoted v) raw

spelled-at-fault : (caseless quoted : Bool) (v : List ℕ) → 0 < length v → NoMark quoted v
    → (spelled_at caseless quoted v).fault ≡ member_fault caseless quoted v false
unfolding spelled_at row9
spelled-at-fault caseless quoted v h u =
    let m : Part = member_of caseless quoted v in
    let j : Joint = joint_at caseless quoted v in
    let w : List ℕ = far_end caseless quoted v in
    let n : Part = member_of caseless j.quoted w in
    let first : fault m ≡ end_fault quoted v = end-fault caseless quoted v h u in
    split (eqb m.fault 6)
    (λ e.
    let z : m.fault ≡ 6 = eqb-true m.fault 6 e in
    rw (e, only-cut (plainly quoted (row6 v)) (plainly quoted (row7 v)) (plainly quoted (member_row14 v)) (sym first ∙ z)) z)
    (λ e. rw e (split j.is
    (λ f.
    let l : 0 < length w = omega (arith, joint-within quoted (drop m.size v) f, length-drop m.size v, length-drop (m.size + j.size) v) in
    let t = far-unmarked caseless quoted v in
    rw f
    (ap₂ lower first (ap₂ lower (end-fault caseless j.quoted w l t) (range-fault m n _ _ (end_clean caseless quoted v h u) (end_clean caseless j.quoted w l t)))
    ∙ range-both (plainly quoted (row6 v)) (plainly quoted (row7 v)) (plainly quoted (member_row14 v)) (plainly j.quoted (row6 w)) (plainly j.quoted (row7 w)) (plainly j.quoted (member_row14 w)) (bad_range m n (not (faulty_end quoted v)) (not (faulty_end j.quoted w)))))
    (λ f. rw (f, or-false (plainly quoted (row6 v)), or-false (plainly quoted (row7 v)), or-false (plainly quoted (member_row14 v))) first)))

pub member-at-fault : (caseless quoted : Bool) (v : List ℕ) → 0 < length v → NoMark quoted v
    → (member_at caseless quoted v).fault ≡ member_fault caseless quoted v (row23 (spelled_at caseless quoted v).size v)
unfolding member_at
member-at-fault caseless quoted v h u =
    let size : ℕ = (spelled_at caseless quoted v).size in
    ap (λ (f : ℕ). with_raw f size v) (spelled-at-fault caseless quoted v h u)
    ∙ raw_row (member_fault caseless quoted v false) size v
    ∙ last_row (of_end row6 caseless quoted v) (of_end row7 caseless quoted v) (row9 caseless quoted v) false false (of_end member_row14 caseless quoted v) (row23 size v)
