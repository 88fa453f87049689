-- `classes::names::row` meets its contract: each text is computed.
use mathlib.Core.Path.{refl}
use native.Mathlib.Omega.{arith}
use Rattle.classes.specs.Name.{names, bytes, name_at}
use Rattle.classes.specs.Invariants.{unpadded}
use Rattle.classes.proofs.Spellings.{beyond, name-last}
use Rattle.classes.proofs.names.row.Goals as goal

pub returns-in-0 : goal.returns-in-0
unfolding unpadded name_at names bytes
returns-in-0 c = rw c.in-0.is (refl, refl)

pub returns-in-1 : goal.returns-in-1
unfolding unpadded name_at names bytes
returns-in-1 c = rw c.in-1.is (refl, refl)

pub returns-in-2 : goal.returns-in-2
unfolding unpadded name_at names bytes
returns-in-2 c = rw c.in-2.is (refl, refl)

pub returns-in-3 : goal.returns-in-3
unfolding unpadded name_at names bytes
returns-in-3 c = rw c.in-3.is (refl, refl)

pub returns-in-4 : goal.returns-in-4
unfolding unpadded name_at names bytes
returns-in-4 c = rw c.in-4.is (refl, refl)

pub returns-in-5 : goal.returns-in-5
unfolding unpadded name_at names bytes
returns-in-5 c = rw c.in-5.is (refl, refl)

pub returns-in-6 : goal.returns-in-6
unfolding unpadded name_at names bytes
returns-in-6 c = rw c.in-6.is (refl, refl)

pub returns-in-7 : goal.returns-in-7
unfolding unpadded name_at names bytes
returns-in-7 c = rw c.in-7.is (refl, refl)

pub returns-in-8 : goal.returns-in-8
unfolding unpadded name_at names bytes
returns-in-8 c = rw c.in-8.is (refl, refl)

pub returns-in-9 : goal.returns-in-9
unfolding unpadded name_at names bytes
returns-in-9 c = rw c.in-9.is (refl, refl)

pub returns-in-10 : goal.returns-in-10
unfolding unpadded name_at names bytes
returns-in-10 c = rw c.in-10.is (refl, refl)

pub returns-in-11 : goal.returns-in-11
unfolding unpadded name_at names bytes
returns-in-11 c = rw c.in-11.is (refl, refl)

pub returns-in-12 : goal.returns-in-12
unfolding unpadded name_at names bytes
returns-in-12 c = rw c.in-12.is (refl, refl)

pub returns-in_default : goal.returns-in_default
unfolding unpadded bytes
returns-in_default c =
    let args = c.args in
    let r = c.in_default.in_default-own.rest in
    rw (name-last args.number (beyond 12 (beyond 11 (beyond 10 (beyond 9 (beyond 8
    (beyond 7 (beyond 6 (beyond 5 (beyond 4 (beyond 3 (beyond 2 (beyond 1 (beyond 0 (omega arith) r.0.0.0.0.0.0.0.0.0.0.0.0.1)
    r.0.0.0.0.0.0.0.0.0.0.0.1) r.0.0.0.0.0.0.0.0.0.0.1) r.0.0.0.0.0.0.0.0.0.1) r.0.0.0.0.0.0.0.0.1)
    r.0.0.0.0.0.0.0.1) r.0.0.0.0.0.0.1) r.0.0.0.0.0.1) r.0.0.0.0.1) r.0.0.0.1) r.0.0.1) r.0.1)
    r.1)) (refl, refl)
