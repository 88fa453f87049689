-- `atoms::raw::with_raw` meets its contract: a token's bytes have a raw one or none.
use Rattle.std.proofs.Common.{sym, ap, ◌∙◌, take, drop}
use Rattle.atoms.specs.Fault.{lower}
use Rattle.atoms.specs.Raw.{with_raw}
use Rattle.atoms.proofs.Raws.{any-is, lower-none}
use Rattle.atoms.proofs.raw.with_raw.Goals as goal

pub returns-then-any_raw : goal.returns-then-any_raw
unfolding with_raw
returns-then-any_raw g c =
    rw (any-is (take c.args.size (drop c.args.at c.args.s.now)), ← c.rest.ensures, ← c.any_raw.ensures, c.if-any_raw.true)
    (c.lower.ensures ∙ ap (lower (g.F.Numbered.number c.args.besides)) c.of.ensures)

pub returns : goal.returns
unfolding with_raw
returns g c =
    rw (any-is (take c.args.size (drop c.args.at c.args.s.now)), ← c.rest.ensures, ← c.any_raw.ensures, c.if-any_raw.false)
    (sym (lower-none (g.F.Numbered.number c.args.besides)))
