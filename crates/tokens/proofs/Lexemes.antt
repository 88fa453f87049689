-- Tokens outside a class, as the functions read them, at the bytes from a place on.
use mathlib.Core.Path.{◌≡◌, refl, sym, ap, ◌∙◌}
use mathlib.Core.Bool.{false, cond}
use mathlib.Core.List.{List}
use Prim.Native.Nat.{ℕ, ◌+◌, ◌≤◌, ◌<◌}
use native.Mathlib.Omega.{arith}
use borrow.Author.Tests.{ne_eqb}
use lib.Dec.{eqb}
use lib.ListN.{length, get_or, drop, length-drop, drop_of_length-le}
use lib.Seq.{get_or-drop}
use Rattle.tokens.specs.Option.{plain}
use Rattle.tokens.specs.Quantifier.{form_of, marked, quantifier_of}
use Rattle.std.specs.Prelude.{Option, Some, None}
use Rattle.refusals.specs.declared.Refusal.{Refusal}
use Rattle.refusals.specs.Refusal.{number_of}
use Rattle.refusals.proofs.Laws.{number-above}
use Rattle.atoms.specs.Answer.{fault}
use Rattle.tokens.specs.declared as declared
use Rattle.tokens.specs.Answer.{token_of, fault_of, lexeme}
use Rattle.atoms.specs.Raw.{with_raw}
use Rattle.atoms.specs.Quote.{is_mark, opens_quote}
use Rattle.tokens.specs.Token.{with_quoted, unquoted_of, spelled_of, faulty_as, lexeme_of}
use Rattle.atoms.specs.declared.Atom.TheVariants.{Byte}
use Rattle.tokens.specs.declared.Options.{Options}
use Rattle.tokens.specs.Lexeme.{Finish, One, Note}
use Rattle.tokens.specs.Quantifier.{Form}
use Rattle.tokens.specs.Lexeme.{Lexeme}
use Rattle.atoms.proofs.Suffixes.{front, first}
use Rattle.atoms.proofs.Raws.{raw-none}
use Rattle.tokens.proofs.Lengths.{form-counts}

module _ (s : List ℕ) (at : ℕ) where
  -- the quantifier q at the place, and the byte m after it
  module _ (q : Form) (e : q ≡ form_of (drop at s)) where
    pub form-fits : q.size ≤ length s
    form-fits = let fits : q.size ≤ length (drop at s) = rw e (form-counts (drop at s)).fits in omega (arith, length-drop at s)

    pub quantifier-is : (m : ℕ) → m ≡ get_or s (at + q.size) 0 → quantifier_of (drop at s) ≡ marked q m
    unfolding quantifier_of
    quantifier-is m em = rw (← e, get_or-drop at s q.size 0, ← em)

  module _ (o : Options) where
    pub spelled-end : length s ≤ at → spelled_of o (drop at s) ≡ plain 0 Finish
    unfolding spelled_of
    spelled-end h = rw (drop_of_length-le s h)

    -- the token l at the place, and its fault with that of a raw byte
    pub lexeme-at : (l : Lexeme) (f : ℕ) → l ≡ spelled_of o (drop at s) → f ≡ with_raw l.fault l.size (drop at s)
        → lexeme_of o (drop at s) ≡ cond (eqb f 0) l (faulty_as f l.token)
    unfolding lexeme_of
    lexeme-at l f e ef = rw (← e, ← ef)

    -- the same of the code's token l, whose fault with that of a raw byte is r
    module _ (l : declared.Lexeme.Lexeme) (r : Option Refusal) (el : lexeme l ≡ spelled_of o (drop at s))
        (er : fault r ≡ with_raw (fault_of l.token) l.size (drop at s)) where
      pub sound-at : r ≡ None → lexeme l ≡ lexeme_of o (drop at s)
      sound-at e =
          sym (lexeme-at (lexeme l) (fault r) el er
          ∙ ap (λ (r : Option Refusal). cond (eqb (fault r) 0) (lexeme l) (faulty_as (fault r) (token_of l.token))) e)

      pub faulty-at : (x : Refusal) → r ≡ Some x → faulty_as (number_of x) (token_of l.token) ≡ lexeme_of o (drop at s)
      faulty-at x e =
          sym (lexeme-at (lexeme l) (fault r) el er
          ∙ ap (λ (r : Option Refusal). cond (eqb (fault r) 0) (lexeme l) (faulty_as (fault r) (token_of l.token))) e
          ∙ rw (ne_eqb (number_of x) 0 (λ z. omega (arith, number-above x))) refl)

    pub lexeme-end : length s ≤ at → lexeme_of o (drop at s) ≡ plain 0 Finish
    lexeme-end h = lexeme-at (plain 0 Finish) 0 (sym (spelled-end h)) (sym (raw-none 0 (drop at s)))

    -- a byte that is none of those with a token of their own
    pub lexeme-other : at < length s → (get_or s at 0 ≡ 92 → ⊥) → (get_or s at 0 ≡ 91 → ⊥) → (get_or s at 0 ≡ 40 → ⊥) → (get_or s at 0 ≡ 41 → ⊥)
        → (get_or s at 0 ≡ 124 → ⊥) → (get_or s at 0 ≡ 46 → ⊥) → (get_or s at 0 ≡ 94 → ⊥) → (get_or s at 0 ≡ 36 → ⊥)
        → unquoted_of o (get_or s at 0) (drop (at + 1) s)
        ≡ cond (form_of (drop at s)).is (quantifier_of (drop at s)) (plain 1 (One (Byte (get_or s at 0))))
    unfolding unquoted_of
    lexeme-other h a b c d e f g i =
        rw (front s at h, ne_eqb _ _ a, ne_eqb _ _ b, ne_eqb _ _ c, ne_eqb _ _ d, ne_eqb _ _ e, ne_eqb _ _ f, ne_eqb _ _ g, ne_eqb _ _ i)

    -- the byte d after the first
    pub spelled_is : (d : ℕ) → at < length s → d ≡ get_or s (at + 1) 0
        → spelled_of o (drop at s)
        ≡ cond (is_mark o.quoted (get_or s at 0) d) (plain 2 (Note (with_quoted (opens_quote d) o)))
        (cond o.quoted (plain 1 (One (Byte (get_or s at 0)))) (unquoted_of o (get_or s at 0) (drop (at + 1) s)))
    unfolding spelled_of
    spelled_is d h e = rw (front s at h, first s (at + 1), ← e)

    pub spelled-unquoted : (d : ℕ) → at < length s → d ≡ get_or s (at + 1) 0 → is_mark o.quoted (get_or s at 0) d ≡ false → o.quoted ≡ false
        → spelled_of o (drop at s) ≡ unquoted_of o (get_or s at 0) (drop (at + 1) s)
    spelled-unquoted d h e k q = spelled_is d h e ∙ rw k (rw q)
