-- A stream with starts that follows a second table. "Rules with flag 256 or a smallest length are
-- left to the old way entirely": a byte by an entry keeps no start and reports none, whatever the
-- words name, so that the state stays valid. Assumes nothing: these are definitions.
use Rattle.std.specs.Prelude.{cond, List, ℕ, suc, ◌%◌, eqb, length}
use Rattle.table.specs.Table.{is_table}
use Rattle.table.specs.Automaton.{Automaton, automaton}
use Rattle.stream.specs.Byte as stream
use Rattle.stream.specs.Byte.{Machine, busy_of, two_reports, after, reports_by, cost_by, fits_by}
use Rattle.traced.specs.declared.Traced.{Traced}
use Rattle.traced.specs.Byte.{Report, none, next_state, byte_reports}
use Rattle.traced.specs.Calls.{Scanned, Lists, Call, space, written, scan_number, no_starts}
use Rattle.second.specs.Second.{is_second}
use Rattle.following.specs.Follow.{Place, at, resting, away, stretch, leads, arrives, rest_entry, standing, late_by, own_by, step_to}

pub record Placed : Type 0 where
  pub traced : Traced
  pub place : Place

abbrev pub looked_up : (c : List ℕ) → Traced → Placed
looked_up c z = record { traced = z; place = standing c z.stream }

-- a report by an entry: it has no start
abbrev pub unstarted : Automaton → (end a : ℕ) → Report
unstarted w end a = record { pair = stream.given w end a; start = none }

module _ (w : Automaton) (c : List ℕ) where
  -- a byte by an entry: the stream is as without starts
  unfoldable pub by_entry : (e : ℕ) → Traced → ℕ → Placed
  by_entry e z x =
      cond (leads c e x) (record { traced = record { stream = step_to w c z.stream e x; starts = no_starts }; place = arrives c e x })
      (record { traced = next_state w z x; place = away })

  unfoldable pub reports_by_entry : (e : ℕ) → Traced → ℕ → List Report
  reports_by_entry e z x =
      cond (leads c e x)
      (two_reports w (late_by w c z.stream e x) (own_by w c z.stream e x) z.stream.reported (unstarted w z.stream.taken) (unstarted w (suc z.stream.taken)))
      (byte_reports w z x)

  unfoldable pub next_at : Place → Traced → ℕ → Placed
  next_at (at e) z x = by_entry e z x
  next_at resting z x = cond (w.opens x) (by_entry (rest_entry c z.stream.last) z x) (record { traced = next_state w z x; place = resting })
  next_at away z x = record { traced = next_state w z x; place = away }

  unfoldable pub reports_at : Place → Traced → ℕ → List Report
  reports_at (at e) z x = reports_by_entry e z x
  reports_at resting z x = cond (w.opens x) (reports_by_entry (rest_entry c z.stream.last) z x) (byte_reports w z x)
  reports_at away z x = byte_reports w z x

  unfoldable pub next_followed : Placed → ℕ → Placed
  next_followed u x =
      let y : Placed = next_at u.place u.traced x in
      cond (eqb (y.traced.stream.taken % stretch) 0) (looked_up c y.traced) y

  abbrev pub following : Machine Placed Report
  following = record { next = next_followed; reports = λ u. reports_at u.place u.traced; cost = λ u. suc (busy_of u.traced.stream) }

-- ---- a scan that is given a second table

unfoldable pub follow_number : (t c : List ℕ) → Traced → (len room : ℕ) → ℕ
follow_number t c z len room = cond (is_table t) (cond (is_second t c) (scan_number t z len room) 29) 1

module _ (t c : List ℕ) (z : Traced) (a : Call) where
  abbrev pub followed_number : ℕ
  followed_number = follow_number t c z (length a.block) (space a.slots)

  unfoldable pub follow_takes : ℕ
  follow_takes = fits_by (following (automaton t) c) (looked_up c z) a.allowance a.block (space a.slots) (length a.block)

  unfoldable pub followed : Scanned
  followed =
      cond (eqb followed_number 0)
      (record {
        number = 0;
        taken = follow_takes;
        reports = length (reports_by (following (automaton t) c) (looked_up c z) a.block follow_takes);
        used = cost_by (following (automaton t) c) (looked_up c z) a.block follow_takes;
        traced = (after (following (automaton t) c) (looked_up c z) a.block follow_takes).traced;
      })
      (record { number = followed_number; taken = 0; reports = 0; used = 0; traced = z })

  unfoldable pub followed_lists : Lists
  followed_lists =
      cond (eqb followed_number 0) (written z.stream.taken (reports_by (following (automaton t) c) (looked_up c z) a.block follow_takes) a.slots) a.slots
