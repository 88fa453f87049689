-- Tokens as the functions tell them: all but quantifiers have no fault of their own, and a fault
-- makes each of them none; a quantifier with its mark.
use mathlib.Core.Path.{◌≡◌, refl}
use mathlib.Core.Bool.{cond}
use mathlib.Core.List.{[], ◌∷◌}
use Prim.Native.Nat.{ℕ, ◌+◌}
use borrow.Author.Tests.{eq-eqb, ne_eqb}
use lib.Dec.{eqb}
use Rattle.std.specs.Prelude.{Result, Ok, Err}
use Rattle.std.specs.Result.{result_err}
use Rattle.refusals.specs.declared.Refusal.{Refusal}
use Rattle.refusals.specs.Refusal.{code_of}
use Rattle.atoms.specs.Fault.{lower}
use Rattle.atoms.specs.Answer.{fault}
use Rattle.atoms.proofs.Raws.{lower-both}
use types.Run.{OneOf, miss}
use denote.Enum.Declared.{tag_of}
use Rattle.tokens.specs.declared as declared
use Rattle.tokens.specs.declared.Token.TheVariants as told
use Rattle.tokens.specs.contracts.Token as code
use Rattle.tokens.specs.Lexeme.{Repeat}
use Rattle.tokens.specs.Option.{faulty}
use Rattle.tokens.specs.Quantifier.{Form, marked}
use Rattle.tokens.specs.Token.{faulty_as}
use Rattle.tokens.specs.Answer.{token, own_fault}

pub faulty-other : (f : ℕ) (t : declared.Token.Token) → OneOf (0 ∷ 1 ∷ 2 ∷ 3 ∷ 4 ∷ 5 ∷ 6 ∷ 7 ∷ 8 ∷ []) (tag_of code.the_type t) → faulty f ≡ faulty_as f (token t)
faulty-other f told.Finish h = refl
faulty-other f told.Bar h = refl
faulty-other f told.Close h = refl
faulty-other f told.Class h = refl
faulty-other f (told.One a) h = refl
faulty-other f (told.Open o) h = refl
faulty-other f (told.Set o) h = refl
faulty-other f (told.Note o) h = refl
faulty-other f told.Unclosed h = refl
faulty-other f (told.Repeat c) h = absurd (miss (0 ∷ 1 ∷ 2 ∷ 3 ∷ 4 ∷ 5 ∷ 6 ∷ 7 ∷ 8 ∷ []) 9 tt h)

pub no-fault : (t : declared.Token.Token) → OneOf (0 ∷ 1 ∷ 2 ∷ 3 ∷ 4 ∷ 5 ∷ 6 ∷ 7 ∷ 8 ∷ []) (tag_of code.the_type t) → 0 ≡ own_fault t
no-fault told.Finish h = refl
no-fault told.Bar h = refl
no-fault told.Close h = refl
no-fault told.Class h = refl
no-fault (told.One a) h = refl
no-fault (told.Open o) h = refl
no-fault (told.Set o) h = refl
no-fault (told.Note o) h = refl
no-fault told.Unclosed h = refl
no-fault (told.Repeat c) h = absurd (miss (0 ∷ 1 ∷ 2 ∷ 3 ∷ 4 ∷ 5 ∷ 6 ∷ 7 ∷ 8 ∷ []) 9 tt h)

-- a fault, as the functions hand it on
pub err-fault : {T : Type 0} (r : Result T Refusal) → fault (result_err r) ≡ code_of r
err-fault (Ok x) = refl
err-fault (Err e) = refl

-- a quantifier q with the byte m after it, of which the code has the bytes that the mark adds
module _ (q : Form) (m : ℕ) where
  pub marked-sound : (lazy : ℕ) → lazy ≡ cond (eqb m 63) 1 0 → lower q.fault (cond (eqb m 43) 14 0) ≡ 0
      → record { fault = q.fault; size = q.size + lazy; token = Repeat q.least q.extra } ≡ marked q m
  unfolding marked
  marked-sound lazy el z =
      let none = (lower-both q.fault (cond (eqb m 43) 14 0) z).0 in
      rw (eq-eqb (lower q.fault (cond (eqb m 43) 14 0)) 0 z) (λ i. record { fault = none i; size = q.size + el i; token = Repeat q.least q.extra })

  pub marked-faulty : (f : ℕ) → f ≡ lower q.fault (cond (eqb m 43) 14 0) → (f ≡ 0 → ⊥) → record { fault = f; size = 0; token = Repeat 0 0 } ≡ marked q m
  unfolding marked
  marked-faulty f e n = rw (← e, ne_eqb f 0 n)
