-- `classes::members::member_at` meets its contract: the member or range, with the fault of a raw
-- byte in it.
use Rattle.std.proofs.Common.{◌∙◌, ap, sym, ℕ, drop}
use Rattle.atoms.specs.Raw.{with_raw}
use Rattle.atoms.specs.Answer.{fault}
use Rattle.classes.proofs.Ranges.{err-fault, member-sound, member-raw}
use Rattle.classes.proofs.members.member_at.Goals as goal

pub returns-in-None : goal.returns-in-None
returns-in-None c =
    let m = c.spelled_at-m.result in
    member-sound c.args.s.now c.args.at c.args.caseless c.args.quoted m c.spelled_at-m.ensures c.with_raw.result
    (c.with_raw.ensures ∙ ap (λ (f : ℕ). with_raw f m.size (drop c.args.at c.args.s.now)) (ap fault c.err.ensures.value ∙ err-fault m.ends)) c.in-None.is

pub returns-in-Some : goal.returns-in-Some
returns-in-Some c =
    let m = c.spelled_at-m.result in
    member-raw c.args.s.now c.args.at c.args.caseless c.args.quoted m c.spelled_at-m.ensures c.with_raw.result
    (c.with_raw.ensures ∙ ap (λ (f : ℕ). with_raw f m.size (drop c.args.at c.args.s.now)) (ap fault c.err.ensures.value ∙ err-fault m.ends))
    c.in-Some.refusal c.in-Some.is
