-- `starts::block_ok` meets its contract: where all are 0 they are in order, and else each
-- is asked.
use mathlib.Core.Path.{◌≡◌, refl}
use mathlib.Core.Bool.{Bool, true, false, ◌||◌, and-eq-true_iff}
use mathlib.Core.Logic.{◌⊎◌, inl, inr}
use Prim.Native.Nat.{ℕ, ◌<◌}
use lib.Dec.{eqb, ltb}
use borrow.Author.Tests.{eqb-true, ltb-true}
use Rattle.starts.proofs.Checking.{order-none}
use Rattle.starts.proofs.block_ok.Goals as goal

-- none is there, or a byte is taken
why : (there taken : ℕ) → (eqb there 0 || ltb 0 taken) ≡ true → (there ≡ 0) ⊎ (0 < taken)
why there taken = go (eqb there 0) refl
  where
    go : (b : Bool) → eqb there 0 ≡ b → (b || ltb 0 taken) ≡ true → (there ≡ 0) ⊎ (0 < taken)
    go true e f = inl (eqb-true there 0 e)
    go false e f = inr (ltb-true 0 taken f)

pub joined-requires : goal.joined-requires
joined-requires c =
    c.requires

pub returns-then-joined-there : goal.returns-then-joined-there
returns-then-joined-there c =
    let a = c.args in
    let two = (and-eq-true_iff (eqb c.joined.result 0) (eqb a.there 0 || ltb 0 a.taken)).0 c.if-joined-there.true in
    order-none a.starts.now a.base a.there a.taken c.joined.result c.joined.ensures
    (eqb-true c.joined.result 0 two.0) (why a.there a.taken two.1)

pub each_ok-requires : goal.each_ok-requires
each_ok-requires c =
    c.requires

pub returns : goal.returns
returns c =
    c.each_ok.ensures
