-- `run` meets its contract. The invariant: the marks, what can end and the reports are those after
-- k bytes.
use mathlib.Core.Path.{◌≡◌}
use Rattle.plain.specs.Run.{marks_at, own_at, up_to, lent}
use Rattle.nodes.specs.Invariants.{form_at}
use Rattle.plain.specs.Invariants.{choice_of, Alike, Delivered}
use Rattle.plain.proofs.run.Run.run.Given as goal

abbrev pub invariant-loop-k : goal.invariant-loop-k
invariant-loop-k l =
    (l.marks ≡ marks_at l.self.log.now (form_at l.self.nodes.now l.self.root) l.k) × (l.t.own ≡ own_at l.self.log.now (form_at l.self.nodes.now l.self.root) l.k) × Alike (lent l.offsets l.starts) (lent l.initial.offsets l.initial.starts)
    × Delivered l.self.wanted (lent l.initial.offsets l.initial.starts) (lent l.offsets l.starts) l.t.count (up_to (choice_of l.self.wanted) l.self.log.now (form_at l.self.nodes.now l.self.root) l.k)
