-- What an arm of a match knows of a token, by the variants that it takes. Assumes nothing.
use mathlib.Core.Path.{◌≡◌, refl, ap}
use mathlib.Core.Bool.{true, false}
use mathlib.Core.Logic.{◌⊎◌, inl, inr}
use Rattle.std.specs.Prelude.{Result}
use Rattle.refusals.specs.declared.Refusal.{Refusal}
use Rattle.atoms.specs.declared.Atom.{Atom}
use Rattle.tokens.specs.declared.Options.{Options}
use Rattle.tokens.specs.declared.Copies.{Copies}
use Rattle.tokens.specs.declared as written
use Rattle.tokens.specs.declared.Token.TheVariants as code
use Rattle.tokens.specs.Lexeme.{Class}
use Rattle.tokens.specs.Answer.{token}
use Rattle.pattern.specs.Invariants.{begins}
use Rattle.pattern.proofs.Base.{true-not-false}
use Rattle.pattern.proofs.Steps.{Ends, Other}
use Rattle.pattern.proofs.Returns.{Passes}

-- a token that is not this variant
abbrev NotNote : written.Token.Token → Type 0
NotNote t = (o : Options) → t ≡ code.Note o → ⊥

abbrev NotRepeat : written.Token.Token → Type 0
NotRepeat t = (c : Result Copies Refusal) → t ≡ code.Repeat c → ⊥

-- all but quantifiers and notes
pub other-token : (t : written.Token.Token) → NotNote t → NotRepeat t → Other (token t)
other-token code.Finish h k = tt
other-token code.Bar h k = tt
other-token code.Close h k = tt
other-token code.Class h k = tt
other-token (code.One a) h k = tt
other-token (code.Open o) h k = tt
other-token (code.Set o) h k = tt
other-token (code.Note o) h k = h o refl
other-token code.Unclosed h k = tt
other-token (code.Repeat c) h k = k c refl

-- the tokens that end a branch
pub ends : (t : written.Token.Token) → (t ≡ code.Finish) ⊎ ((t ≡ code.Bar) ⊎ (t ≡ code.Close)) → Ends (token t)
ends t (inl e) = rw e tt
ends t (inr (inl e)) = rw e tt
ends t (inr (inr e)) = rw e tt

-- an option setting or a note
pub passes : (t : written.Token.Token) (i : Options) → (t ≡ code.Set i) ⊎ (t ≡ code.Note i) → Passes (token t) i
passes t i (inl e) = inl (ap token e)
passes t i (inr e) = inr (ap token e)

-- those that neither end a branch, nor set options, nor are notes
pub beginning : (t : written.Token.Token) → (t ≡ code.Finish → ⊥) → (t ≡ code.Bar → ⊥) → (t ≡ code.Close → ⊥) → ((o : Options) → t ≡ code.Set o → ⊥) → NotNote t → (t ≡ code.Unclosed → ⊥)
    → begins (token t) ≡ true
beginning code.Finish a b c d e f = absurd (a refl)
beginning code.Bar a b c d e f = absurd (b refl)
beginning code.Close a b c d e f = absurd (c refl)
beginning code.Class a b c d e f = refl
beginning (code.One x) a b c d e f = refl
beginning (code.Open o) a b c d e f = refl
beginning (code.Set o) a b c d e f = absurd (d o refl)
beginning (code.Note o) a b c d e f = absurd (e o refl)
beginning code.Unclosed a b c d e f = absurd (f refl)
beginning (code.Repeat x) a b c d e f = refl

-- of those that begin an item, all but atoms, openings and quantifiers: classes
pub only-class : (t : written.Token.Token) → begins (token t) ≡ true → ((a : Atom) → t ≡ code.One a → ⊥) → ((o : Options) → t ≡ code.Open o → ⊥) → NotRepeat t → token t ≡ Class
only-class code.Finish b h k r = true-not-false false b refl
only-class code.Bar b h k r = true-not-false false b refl
only-class code.Close b h k r = true-not-false false b refl
only-class code.Class b h k r = refl
only-class (code.One a) b h k r = absurd (h a refl)
only-class (code.Open o) b h k r = absurd (k o refl)
only-class (code.Set o) b h k r = true-not-false false b refl
only-class (code.Note o) b h k r = true-not-false false b refl
only-class code.Unclosed b h k r = true-not-false false b refl
only-class (code.Repeat c) b h k r = absurd (r c refl)
