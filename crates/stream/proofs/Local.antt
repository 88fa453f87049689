-- No call depends on words beyond the first 16,384: lists that agree up to there pass the test
-- alike and describe the same automaton, and the calls look at nothing else.
use mathlib.Core.Path.{◌≡◌, ap, ap₂, ◌∙◌}
use mathlib.Core.Bool.{Bool, true, false, cond}
use mathlib.Core.List.{List}
use Prim.Native.Nat.{ℕ, ◌*◌}
use native.Mathlib.Omega.{arith}
use lib.Dec.{eqb, ltb}
use lib.ListN.{length, take}
use Rattle.table.specs.Layout.{table_words, rules_of, positions_of}
use Rattle.table.specs.Table.{is_table}
use Rattle.table.specs.Automaton.{Automaton, automaton}
use Rattle.table.proofs.Local.{same_word, automaton-local, is_table-local}
use Rattle.stream.specs.declared.Stream.{Stream}
use Rattle.stream.specs.Byte.{state_after, reports_of, cost_of, fits, close_reports}
use Rattle.stream.specs.Valid.{valid}
use Rattle.stream.specs.Calls.{Scanned, Closed, Lists, Call, fresh, opened, space, space_number, scan_number, close_number, call_number, taken_by, written, scanned, scanned_lists, shut, closed, closed_lists, over_limit}

module _ (t u : List ℕ) (same : take table_words t ≡ take table_words u) where
  table : is_table t ≡ is_table u
  table = is_table-local t u same

  machine : automaton t ≡ automaton u
  machine = automaton-local t u same

  rules : rules_of t ≡ rules_of u
  rules = same_word t u same 1 (omega arith)

  pub opened-local : opened t ≡ opened u
  unfolding opened
  opened-local =
      ap₂ (λ (b : Bool) (n : ℕ). cond b (record { number = 0; stream = fresh n (positions_of t) false }) (record { number = 1; stream = fresh 0 0 true })) table rules
      ∙ ap (λ (n : ℕ). cond (is_table u) (record { number = 0; stream = fresh (rules_of u) n false }) (record { number = 1; stream = fresh 0 0 true }))
      (same_word t u same 2 (omega arith))

  pub scan_number-local : (s : Stream) (len room : ℕ) → scan_number t s len room ≡ scan_number u s len room
  unfolding scan_number space_number
  scan_number-local s len room =
      ap₂ (λ (b : Bool) (w : Automaton). cond b (cond (valid w s) (cond s.closed 19 (cond (over_limit s len) 21 (space_number t room))) 18) 1) table machine
      ∙ ap (λ (n : ℕ). cond (is_table u) (cond (valid (automaton u) s) (cond s.closed 19 (cond (over_limit s len) 21 (cond (ltb room (2 * n)) 20 0))) 18) 1) rules

  pub close_number-local : (s : Stream) (room : ℕ) → close_number t s room ≡ close_number u s room
  unfolding close_number space_number
  close_number-local s room =
      ap₂ (λ (b : Bool) (w : Automaton). cond b (cond (valid w s) (cond s.closed 19 (space_number t room)) 18) 1) table machine
      ∙ ap (λ (n : ℕ). cond (is_table u) (cond (valid (automaton u) s) (cond s.closed 19 (cond (ltb room (2 * n)) 20 0)) 18) 1) rules

  module _ (s : Stream) (c : Call) where
    abbrev taken : Automaton → ℕ
    taken w = fits w s c.allowance c.block (space c.slots) (length c.block)

    same_number : call_number t s c ≡ call_number u s c
    same_number = scan_number-local s (length c.block) (space c.slots)

    pub scanned-local : scanned t s c ≡ scanned u s c
    unfolding scanned taken_by
    scanned-local = ap₂ answer same_number machine
      where
        answer : ℕ → Automaton → Scanned
        answer n w =
            cond (eqb n 0)
            (record {
              number = 0;
              taken = taken w;
              reports = length (reports_of w s c.block (taken w));
              used = cost_of w s c.block (taken w);
              stream = state_after w s c.block (taken w);
            })
            (record { number = n; taken = 0; reports = 0; used = 0; stream = s })

    pub scanned_lists-local : scanned_lists t s c ≡ scanned_lists u s c
    unfolding scanned_lists taken_by
    scanned_lists-local =
        ap₂ (λ (n : ℕ) (w : Automaton). cond (eqb n 0) (written (reports_of w s c.block (taken w)) c.slots) c.slots) same_number machine

  module _ (s : Stream) (l : Lists) where
    pub closed-local : closed t s l ≡ closed u s l
    unfolding closed
    closed-local = ap₂ answer (close_number-local s (space l)) machine
      where
        answer : ℕ → Automaton → Closed
        answer n w = cond (eqb n 0) (record { number = 0; reports = length (close_reports w s); stream = shut s }) (record { number = n; reports = 0; stream = s })

    pub closed_lists-local : closed_lists t s l ≡ closed_lists u s l
    unfolding closed_lists
    closed_lists-local = ap₂ (λ (n : ℕ) (w : Automaton). cond (eqb n 0) (written (close_reports w s) l) l) (close_number-local s (space l)) machine
