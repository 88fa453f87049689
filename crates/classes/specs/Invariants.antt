-- What the private functions promise one another. No public contract cites it.
use Rattle.std.specs.Prelude.{◌≡◌, true, cond, Option, Some, None, List, [], ◌∷◌, ℕ, eqb, IfOk}
use Rattle.refusals.specs.Refusal.{code_of}
use Rattle.classes.specs.declared as declared
use Rattle.classes.specs.Class.{Joint, Member}

-- a text without the zeros after it
unfoldable pub unpadded : List ℕ → List ℕ
unpadded [] = []
unpadded (b ∷ bs) = cond (eqb b 0) [] (b ∷ unpadded bs)

-- the code's member is this one; what a faulty one adds is not kept
pub record Told (r : declared.Member.Member) (m : Member) : Type 0 where
  pub fault : code_of r.ends ≡ m.fault
  pub size : r.size ≡ m.size
  pub quoted : r.quoted ≡ m.quoted
  pub ends : IfOk r.ends (λ e. (e.low ≡ m.low) × (e.high ≡ m.high))

-- what joins two members, where something does
abbrev pub joint : declared.Joint.Joint → Joint
joint j = record { is = true; size = j.size; quoted = j.quoted }

abbrev pub joins : Joint → Option declared.Joint.Joint
joins j = cond j.is (Some (record { size = j.size; quoted = j.quoted })) None
