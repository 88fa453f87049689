-- `lengths::is_long` meets its contract: what is left from the start on is compared.
use mathlib.Core.Path.{◌≡◌, sym}
use Prim.Native.Nat.{ℕ, ◌+◌, ◌-◌, ◌<◌, ◌≤◌}
use native.Mathlib.Omega.{arith}
use native.Mathlib.Decide.{dec_le}
use lib.Dec.{leb}
use mathlib.Core.Bool.{false}
use borrow.Author.Tests.{le-leb, lt-leb}
use Rattle.lengths.proofs.is_long.Goals as goal

too-late : (start least end : ℕ) → end < start → false ≡ leb (start + least) end
too-late start least end h = sym (lt-leb (start + least) end (omega arith))

by-rest : (start least end : ℕ) → start ≤ end → leb least (end - start) ≡ leb (start + least) end
by-rest start least end h = go (dec_le least (end - start))
  where
    go : Dec (least ≤ end - start) → leb least (end - start) ≡ leb (start + least) end
    go (yes l) = rw (le-leb least (end - start) l, le-leb (start + least) end (omega arith))
    go (no l) = rw (lt-leb least (end - start) (omega arith), lt-leb (start + least) end (omega arith))

pub returns-then-end-start : goal.returns-then-end-start
returns-then-end-start c = let a = c.args in too-late a.start a.least a.end c.if-end-start.true

pub returns : goal.returns
returns c = let a = c.args in by-rest a.start a.least a.end c.if-end-start.false
