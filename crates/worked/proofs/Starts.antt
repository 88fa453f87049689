-- The worked cases with starts: the checker reads the rule, its one ordered list is known by meaning
-- (Example of meaning), and by demand 3 the joined reports are that list. Assumes nothing.
use mathlib.Core.Path.{◌≡◌, refl, sym, subst, ap, ◌∙◌}
use mathlib.Core.Logic.{inl}
use mathlib.Core.List.{List, [], ◌∷◌, map}
use Prim.Native.Nat.{ℕ, ◌*◌, ◌≤◌}
use native.Mathlib.Omega.{arith}
use lib.Dec.{T, ltb}
use lib.ListN.{length, get_or, length-map}
use Rattle.sets.specs.Set.{on, has, set_of, word_of, any, empty_set, inserted_range, union_of, complement_of, inserted, full_set}
use Rattle.kinds.specs.Kind.{is_digit, is_lower, is_upper, is_blank, is_alpha, is_alnum, is_cntrl, is_word}
use Rattle.kinds.specs.Case.{other_case, case_closed}
use Rattle.atoms.specs.Number.{digit_of, digits, value_from, blanks, numeral_of}
use Rattle.atoms.specs.Escape.{braced_of, short_of, flipped64, raised, control_of, type_of, named_of, placed_of, hex_of, octal_of, escape_of}
use Rattle.atoms.specs.Fault.{lower}
use Rattle.atoms.specs.Raw.{any_raw, with_raw}
use Rattle.atoms.specs.Quote.{is_mark, gap_of}
use Rattle.tokens.specs.Option.{letters_of, before_close, comment_of, opening_of}
use Rattle.tokens.specs.Quantifier.{bounded, open_ended, braces_of, form_of, marked, quantifier_of}
use Rattle.tokens.specs.Token.{escaped, unquoted_of, spelled_of, lexeme_of, item_set}
use Rattle.table.specs.Table.{all, emptied}
use Rattle.stream.specs.Valid.{stream_limit}
use Rattle.meaning.specs.Count.{copied, capped, saturating, nullable}
use Rattle.meaning.specs.Form.{write, positions, repeated, copies, optionals}
use Rattle.meaning.specs.Rule.{Rule}
use Rattle.meaning.specs.Ordered.{Report, Ordered}
use Rattle.meaning.proofs.OneList.{one_answer}
use Rattle.meaning.proofs.Example.{leftmost, leftmost-list, long, long-list, held, held-list, bare, bare-list}
use Rattle.pattern.specs.Walk.{chained, chosen, one, repeating, closing, opening, act, next, finish, walk}
use Rattle.pattern.specs.Read.{judged, read_of, options_of}
use Rattle.pattern.specs.Windows.{empty_window}
use Rattle.rules.specs.Add.{Addition, answer, unknown_flag, single_start, placed}
use Rattle.rules.specs.Additions.{rule_of, used, taken, next_answer, with_new, after_next, accepted_after}
use Rattle.rules.proofs.Additions.{built-none, answer-built}
use Rattle.demands.specs.Chain.{Roomy}
use Rattle.demands.specs.Kinds.{traces}
use Rattle.demands.specs.Demands.{Setting, accepted_in, rules_in, joined}
use Rattle.demands.proofs.Theorems.{traced_streams}
use Rattle.worked.specs.Cases.{bytes}
use Rattle.worked.specs.Starts.{Alone, Gives, WorkedStarts}
use Rattle.worked.proofs.Logs.{bytes-tested}

-- an accepted addition whose rule means r, and r's one list
gives : (a : Addition) (r : Rule) (log : List ℕ) (list : List Report) → next_answer [] a ≡ answer 0 0 → map rule_of (accepted_after [] (a ∷ [])) ≡ r ∷ []
    → T (all (length log) (λ i. ltb (get_or log i 0) 256)) → length log ≤ stream_limit → Ordered (r ∷ []) log list → Gives a log list
gives a r log list answered means small short ordered = record {
  accepted = λ words long. answer-built (emptied words) [] (built-none words long) a ∙ answered;
  offered = λ c alone between turns slots enough roomy room.
      let rules : length (accepted_in c) ≡ 1 = sym (length-map (accepted_in c) rule_of) ∙ ap length (rules_are c alone) in
      let two : 2 ≡ 2 * length (accepted_in c) = omega (arith, rules) in
      same c alone _ (traced_streams.offered_again c (inl tt) between log (bytes-tested log small) short turns slots enough (subst (λ (n : ℕ). Roomy traces n turns) two roomy) (omega (arith, two, room)));
  by_any = λ c items alone calls closes taken. same c alone _ (subst (λ (l : List ℕ). Ordered (rules_in c) l (joined traces c items)) taken (traced_streams.demand3 c items calls closes));
}
  where
    rules_are : (c : Setting) → Alone a log list c → rules_in c ≡ r ∷ []
    rules_are c alone = ap (λ (l : List Addition). map rule_of (accepted_after [] l)) alone ∙ means

    same : (c : Setting) → Alone a log list c → (l : List Report) → Ordered (rules_in c) log l → l ≡ list
    same c alone l o = one_answer (r ∷ []) log l list (subst (λ (rs : List Rule). Ordered rs log l) (rules_are c alone) o) ordered

pub worked-starts : WorkedStarts
unfolding on has set_of word_of any empty_set inserted_range union_of complement_of inserted full_set is_digit is_lower is_upper is_blank is_alpha is_alnum is_cntrl is_word other_case case_closed digit_of digits value_from blanks numeral_of braced_of short_of flipped64 raised control_of type_of named_of placed_of hex_of octal_of escape_of lower any_raw with_raw is_mark gap_of letters_of before_close comment_of opening_of bounded open_ended braces_of form_of marked quantifier_of escaped unquoted_of spelled_of lexeme_of item_set copied capped saturating nullable write positions repeated copies optionals chained chosen one repeating closing opening act next finish walk judged read_of options_of empty_window unknown_flag single_start placed used taken next_answer with_new after_next accepted_after all bytes
worked-starts = record {
  settled = gives _ leftmost (bytes "ba") _ refl refl tt (omega arith) leftmost-list;
  long = gives _ long (bytes "ba-") _ refl refl tt (omega arith) long-list;
  held = gives _ held (bytes "xa\n") _ refl refl tt (omega arith) held-list;
  from_held = gives _ bare (bytes "x\n") _ refl refl tt (omega arith) bare-list;
}
