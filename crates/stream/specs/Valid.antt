-- When a state fits a table: number 18 has exactly the reasons of the rules, one named test each.
-- Assumes nothing: these are definitions.
use Rattle.std.specs.Prelude.{Bool, not, ◌&&◌, ◌||◌, ℕ, eqb, leb, ltb}
use Rattle.sets.specs.Set.{on, has, any, is_empty}
use Rattle.table.specs.Layout.{max_rules, max_positions}
use Rattle.table.specs.Automaton.{Automaton, single}
use Rattle.stream.specs.declared.Stream.{Stream}

-- "Stream: 1,099,511,627,775 bytes"
abbrev pub stream_limit : ℕ
stream_limit = 1099511627775

-- "A state carries the rule and position counts of its table; if they differ, or a live bit has no
-- position, or a mark "already reported" has no single-match rule, or the total is over the limit,
-- it is refused with 18."
unfoldable pub same_counts : Automaton → Stream → Bool
same_counts w s = eqb s.rules w.rules && eqb s.positions w.positions

unfoldable pub live_inside : Automaton → Stream → Bool
live_inside w s = not (any max_positions (λ q. has s.live q && leb w.positions q))

unfoldable pub marks_single : Automaton → Stream → Bool
marks_single w s = not (any 64 (λ a. on s.reported a && not (ltb a w.rules && single w a)))

unfoldable pub under_limit : Stream → Bool
under_limit s = leb s.taken stream_limit

-- "A held position or pair the table hasn't got is 18, and so is a pair held for n-1 while n is
-- below 2."
unfoldable pub held_inside : Automaton → Stream → Bool
held_inside w s = not (any max_positions (λ q. has s.held q && leb w.positions q))

unfoldable pub pending_inside : Automaton → Stream → Bool
pending_inside w s = not (any 64 (λ a. on s.pending a && not (ltb a w.rules)))

unfoldable pub pending_late : Stream → Bool
pending_late s = eqb s.pending 0 || leb 2 s.taken

-- A live or held position has "a start, below the bytes taken": there is none before the first
-- byte.
unfoldable pub begun : Stream → Bool
begun s = (is_empty s.live && is_empty s.held) || ltb 0 s.taken

-- a state that fits its table, but for starts
unfoldable pub sound : Automaton → Stream → Bool
sound w s =
    same_counts w s && (live_inside w s && (marks_single w s && (under_limit s && (held_inside w s
    && (pending_inside w s && (pending_late s && begun s))))))

-- a rule of the table needs a start: a position keeps one, or a rule reports it
unfoldable pub needs_starts : Automaton → Bool
needs_starts w = any max_positions (λ q. w.keeps q && ltb q w.positions) || any max_rules (λ a. ltb a w.rules && w.leftmost a)

-- A state without starts is valid where no rule needs one: on other tables the state that has them
-- is scanned.
unfoldable pub valid : Automaton → Stream → Bool
valid w s = sound w s && not (needs_starts w)
