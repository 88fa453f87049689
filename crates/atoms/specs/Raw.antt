-- Raw control bytes. Assumes nothing: these are definitions.
use Rattle.std.specs.Prelude.{Bool, false, cond, ◌||◌, List, [], ◌∷◌, ℕ, take}
use Rattle.kinds.specs.Kind.{is_cntrl}
use Rattle.atoms.specs.Fault.{lower}

-- "A raw byte below 32, or 127": one of these bytes is such a byte
unfoldable pub any_raw : List ℕ → Bool
any_raw [] = false
any_raw (b ∷ v) = is_cntrl b || any_raw v

-- 23, "as a fault of the token it lies in": the fault of a token that takes the first `size` bytes
-- of v. "Within that token 23 comes after the lower numbers."
unfoldable pub with_raw : (fault size : ℕ) → List ℕ → ℕ
with_raw fault size v = lower fault (cond (any_raw (take size v)) 23 0)
