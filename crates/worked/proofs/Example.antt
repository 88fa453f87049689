-- The instance of demand 3: the other calls are refused by their definitions, the rest is followed
-- by the automaton of the one accepted rule, which computes. Assumes nothing.
use mathlib.Core.Path.{◌≡◌, refl, sym, subst, subst₂, ap, ◌∙◌}
use mathlib.Core.List.{List, [], zip}
use Prim.Native.Nat.{ℕ, ◌≤◌}
use native.Mathlib.Omega.{arith}
use lib.Dec.{T}
use lib.ListN.{length}
use Rattle.sets.specs.Set.{on, has, set_of, word_of, any, count, size_of, empty_set, inserted_range, union_of, complement_of, inserted, full_set, intersection_of}
use Rattle.kinds.specs.Kind.{is_digit, is_lower, is_upper, is_blank, is_alpha, is_alnum, is_cntrl, is_word}
use Rattle.kinds.specs.Side.{side_of}
use Rattle.kinds.specs.Case.{other_case, case_closed}
use Rattle.atoms.specs.Number.{digit_of, digits, value_from, blanks, numeral_of}
use Rattle.atoms.specs.Escape.{braced_of, short_of, flipped64, raised, control_of, type_of, named_of, placed_of, hex_of, octal_of, escape_of}
use Rattle.atoms.specs.Fault.{lower}
use Rattle.atoms.specs.Raw.{any_raw, with_raw}
use Rattle.atoms.specs.Quote.{is_mark, gap_of}
use Rattle.classes.specs.Name.{names, begins, named, name_among, name_of}
use Rattle.classes.specs.Class.{bracket_of, member_of, range_fault, joint_of, spelled_at, member_at, members_of, class_of, joined, settled}
use Rattle.tokens.specs.Option.{letters_of, before_close, comment_of, opening_of}
use Rattle.tokens.specs.Quantifier.{bounded, open_ended, braces_of, form_of, marked, quantifier_of}
use Rattle.tokens.specs.Token.{escaped, unquoted_of, spelled_of, lexeme_of, item_set}
use Rattle.table.specs.Layout.{table_words}
use Rattle.table.specs.Gaps.{between as gap_between, before_last, at_the_end, at_the_start, gap_of as gap_before, first_gap}
use Rattle.table.specs.Table.{all, is_table}
use Rattle.table.specs.Automaton.{automaton}
use Rattle.meaning.specs.Count.{copied, capped, saturating, nullable}
use Rattle.meaning.specs.Form.{write, positions, repeated, copies, optionals}
use Rattle.meaning.specs.Automaton.{null, first, last, follow, items as byte_sets}
use Rattle.meaning.specs.Ordered.{Ordered}
use Rattle.pattern.specs.Walk.{chained, chosen, one, repeating, closing, opening, act, next, finish, walk}
use Rattle.pattern.specs.Read.{judged, read_of, options_of}
use Rattle.pattern.specs.Windows.{empty_window}
use Rattle.steps.specs.Step.{stepped, ends, ends_newly, lates_of}
use Rattle.stream.specs.declared.Stream.{Stream}
use Rattle.stream.specs.Byte.{after, next_held, next_pending, run_reports, run_marks, two_reports, two_marks, byte_reports, byte_state, reports_by, cost_by, fits_by, close_reports}
use Rattle.stream.specs.Calls.{opened, scan_number}
use Rattle.stream.proofs.Results.{opened-valid}
use Rattle.rules.specs.declared.Added.{Added}
use Rattle.rules.specs.Add.{unknown_flag, single_start, placed}
use Rattle.rules.specs.Additions.{Accepted, used, taken, next_answer, with_new, after_next, accepted_after}
use Rattle.rules.proofs.Sorted.{laid, insert, into}
use Rattle.rules.proofs.Additions.{Built}
use Rattle.demands.specs.Kinds.{short}
use Rattle.demands.specs.Chain.{number_of, additions_of, OthersRefusedBefore, bytes_of, reports_of, outcomes_of, OthersRefused, Blocks}
use Rattle.demands.specs.Demands.{Setting, Between, table_in, accepted_in, stream_in, rules_in}
use Rattle.worked.specs.Cases.{bytes, rule}
use Rattle.worked.specs.Example.{steps, items, outcomes, list, setting, Instance}
use Rattle.demands.proofs.Lawful.{Refused, refused-others}
use Rattle.demands.proofs.Short.{shut-scan}
use Rattle.worked.proofs.Computing.{owner, owner_place, computed, computed_of, built-agrees}
use Rattle.worked.proofs.Outcomes.{calls_in, scan_left, close_left, gives, moves, run, followed, BytesIn, runs_same, reports_in-all, reports-joined, bytes_in-all, bytes-joined, Shuts, closes-seen}
use Rattle.worked.proofs.Logs.{bytes-tested, without_starts, start_of, opened-is, start-inside, without}
use Rattle.demands.proofs.Theorems.{built, table, acceptance, short-streams}

module _ (words : List ℕ) (long : table_words ≤ length words) where
  abbrev c : Setting
  c = setting words long

  abbrev t : List ℕ
  t = table_in c

  -- by the accepted rule alone: its id is taken, and this is what the calls give
  computes : ((next_answer (accepted_in c) (rule 5 0 "a")).number ≡ 3) × (run (computed_of (accepted_in c)) (start_of (accepted_in c)) (calls_in items) ≡ outcomes)
      × T (without_starts (accepted_in c))
  unfolding without_starts calls_in scan_left close_left gives moves run items outcomes on has set_of word_of any empty_set inserted_range union_of complement_of inserted full_set is_digit is_lower is_upper is_blank other_case case_closed digit_of digits value_from blanks numeral_of braced_of short_of flipped64 raised control_of type_of named_of placed_of hex_of octal_of is_alpha is_alnum escape_of lower is_mark gap_of names begins named name_among name_of bracket_of member_of range_fault joint_of member_at members_of class_of joined settled letters_of before_close comment_of opening_of bounded open_ended braces_of form_of marked quantifier_of escaped unquoted_of lexeme_of item_set copied capped saturating nullable write positions repeated copies optionals null first last follow byte_sets chained chosen one repeating closing opening act next finish walk judged read_of options_of unknown_flag single_start empty_window placed used taken next_answer with_new after_next accepted_after laid insert into owner owner_place computed gap_between before_last at_the_end at_the_start gap_before first_gap side_of is_word stepped ends ends_newly lates_of intersection_of next_held next_pending run_reports run_marks two_reports two_marks byte_reports byte_state close_reports all bytes after reports_by cost_by fits_by size_of count zip mathlib.Core.List.zip_with additions_of steps is_cntrl any_raw with_raw spelled_at spelled_of
  computes = (refl, refl, tt)

  -- before the opening: the state is closed
  between : Between c
  unfolding OthersRefusedBefore steps number_of opened is_table
  between = (shut-scan _ (short.begun []) (length (bytes "ab")) 1 refl, tt)

  refused : Refused short t items
  unfolding Refused items number_of scan_number is_table
  refused = (λ e. absurd (omega (arith, sym computes.0, sym (ap (λ (a : Added). a.number) (acceptance c between (rule 5 0 "a"))), e)), (λ e. absurd (omega (arith, e)), tt))

  others : OthersRefused short t (stream_in short c) items
  others = refused-others short t items (stream_in short c) refused

  blocks : Blocks short items
  unfolding Blocks items bytes all
  blocks = (bytes-tested (bytes "abbb") tt, (bytes-tested (bytes "b") tt, (bytes-tested [] tt, (bytes-tested (bytes "b") tt, (bytes-tested (bytes "b") tt, (bytes-tested (bytes "b") tt, tt))))))

  in-calls : BytesIn (calls_in items)
  unfolding calls_in BytesIn items bytes all
  in-calls = (bytes-tested (bytes "abbb") tt, (bytes-tested (bytes "b") tt, (bytes-tested [] tt, (bytes-tested (bytes "b") tt, (bytes-tested (bytes "b") tt, (bytes-tested (bytes "b") tt, tt))))))

  each : outcomes_of short t (stream_in short c) items ≡ outcomes
  each =
      let rs : List Accepted = accepted_in c in
      let b : Built t rs = built c between in
      followed t (table c between) items (stream_in short c) (opened-valid t (table c between) (without t rs b computes.2)) others
      ∙ ap (λ (s : Stream). run (automaton t) s (calls_in items)) (opened-is t rs b)
      ∙ runs_same (automaton t) (computed_of rs) (built-agrees t rs b) (calls_in items) (start_of rs) (start-inside t rs b) in-calls
      ∙ computes.1

  bytes-are : bytes_of short t (stream_in short c) items ≡ bytes "abbb"
  unfolding bytes_in-all calls_in items outcomes bytes
  bytes-are = bytes-joined t (stream_in short c) items ∙ ap (bytes_in-all (calls_in items)) each

  reports_are : reports_of short t (stream_in short c) items ≡ list
  unfolding reports_in-all outcomes
  reports_are = reports-joined t (stream_in short c) items ∙ ap reports_in-all each

  shuts : Shuts outcomes
  unfolding Shuts outcomes
  shuts = tt

  pub instance : Instance words long
  instance =
      let closed = closes-seen t (stream_in short c) items (subst Shuts (sym each) shuts) in
      record {
        calls = (between, others, blocks);
        closing = closed;
        each = each;
        all_taken = bytes-are;
        all_reports = reports_are;
        ordered = subst₂ (Ordered (rules_in c)) bytes-are reports_are (short-streams.demand3 c items (between, others, blocks) closed);
      }
