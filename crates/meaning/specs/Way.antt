-- A way through a form: the items it takes and the assertions it passes, in order; and the texts
-- that it runs over. The meaning is given elsewhere by spans; this is the same, step by step, and
-- serves to say which assertions a way passes. Assumes nothing: these are definitions.
use Rattle.std.specs.Prelude.{◌≡◌, ℕ, suc, T}
use mathlib.Core.List.{List, [], ◌∷◌, ◌++◌, Memᴰ}
use Rattle.meaning.specs.Tree.{Text}
use Rattle.meaning.specs.Form.{Form, eps, take, check, seq, alt, plus, opt}

pub data Step (C A : Type 0) : Type 0 where
  takes : C → Step C A
  passes : A → Step C A

pub data Way {C A : Type 0} : Form C A → List (Step C A) → Type 0 where
  w_eps : Way eps []
  w_take : {c : C} → Way (take c) (takes c ∷ [])
  w_check : {a : A} → Way (check a) (passes a ∷ [])
  w_seq : {f g : Form C A} {u v : List (Step C A)} → Way f u → Way g v → Way (seq f g) (u ++ v)
  w_left : {f g : Form C A} {u : List (Step C A)} → Way f u → Way (alt f g) u
  w_right : {f g : Form C A} {u : List (Step C A)} → Way g u → Way (alt f g) u
  w_one : {f : Form C A} {u : List (Step C A)} → Way f u → Way (plus f) u
  w_more : {f : Form C A} {u v : List (Step C A)} → Way (plus f) u → Way f v → Way (plus f) (u ++ v)
  w_none : {f : Form C A} → Way (opt f) []
  w_some : {f : Form C A} {u : List (Step C A)} → Way f u → Way (opt f) u

-- the text has the way's bytes from s to e, and every assertion that it passes is known to hold
-- where it passes it
unfoldable pub Runs : {C A : Type 0} → Text C A → ℕ → List (Step C A) → ℕ → Type 0
Runs t s [] e = s ≡ e
Runs t s (takes c ∷ u) e = T (t.hit c s) × Runs t (suc s) u e
Runs t s (passes a ∷ u) e = T (t.known a s) × Runs t s u e

-- some way through the form runs over the text from s to e
abbrev pub SomeWay : {C A : Type 0} → Text C A → Form C A → ℕ → ℕ → Type 0
SomeWay {C} {A} t f s e = (u : List (Step C A)) × Way f u × Runs t s u e

-- the way passes this assertion
abbrev pub Passes : {C A : Type 0} → A → List (Step C A) → Type 0
Passes a u = Memᴰ (passes a) u
