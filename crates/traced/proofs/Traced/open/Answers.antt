-- `traced::Traced::open` meets its contract: a stream is opened, and there are no starts.
use mathlib.Core.Path.{◌≡◌}
use Prim.Native.Nat.{ℕ}
use lib.ListN.{replicate}
use Rattle.steps.specs.Step.{list_from}
use Rattle.steps.proofs.Carrying.{list-is, zeros-length, zeros-at}
use Rattle.traced.specs.Calls.{opened}
use Rattle.traced.proofs.Traced.open.Goals as goal

none : (n : ℕ) → replicate n 0 ≡ list_from 0 n (λ q. 0)
none n = list-is n (replicate n 0) (λ q. 0) (zeros-length n) (λ q lt. zeros-at n q)

pub returns : goal.returns
unfolding opened
returns c =
    let is = c.open-opened.ensures in
    λ i. record {
      number = (is i).number;
      traced = record { stream = (is i).stream; starts = record { live = none 256 i; held = none 256 i; pairs = none 64 i } };
    }
