-- The worked cases come out as they must: the checker reads every pattern, adds every rule and
-- follows every log by the definitions, with the automaton of the accepted rules in place of 16,384
-- words, and what is proved of it (Logs) carries the answer to the calls. Assumes nothing.
use mathlib.Core.Path.{◌≡◌, refl, sym, subst, ap₂, ◌∙◌}
use mathlib.Core.Bool.{Bool, true, false, cond, ◌&&◌}
use mathlib.Core.List.Memᴰ
use mathlib.Core.List.{List, [], ◌∷◌, map, zip, Memᴰ, cons-ne-nil}
use Prim.Native.Nat.{ℕ, ◌^◌, ◌<◌}
use lib.Dec.{T, eqb, ltb, eqb→eq}
use borrow.Author.Tests.{ltb-true}
use Rattle.sets.specs.Set.{on, has, set_of, word_of, any, empty_set, inserted_range, union_of, complement_of, inserted, full_set, intersection_of}
use Rattle.kinds.specs.Kind.{is_digit, is_lower, is_upper, is_blank, is_alpha, is_alnum, is_cntrl, is_word}
use Rattle.kinds.specs.Side.{side_of}
use Rattle.kinds.specs.Case.{other_case, case_closed}
use Rattle.atoms.specs.Number.{digit_of, digits, value_from, blanks, numeral_of}
use Rattle.atoms.specs.Escape.{braced_of, short_of, flipped64, raised, control_of, type_of, named_of, placed_of, hex_of, octal_of, escape_of}
use Rattle.atoms.specs.Fault.{lower}
use Rattle.atoms.specs.Raw.{any_raw, with_raw}
use Rattle.atoms.specs.Quote.{is_mark, gap_of}
use Rattle.classes.specs.Name.{names, begins, named, name_among, name_of}
use Rattle.classes.specs.Class.{bracket_of, member_of, range_fault, joint_of, spelled_at, member_at, members_of, class_of, joined, settled}
use Rattle.tokens.specs.Option.{letters_of, before_close, comment_of, opening_of}
use Rattle.tokens.specs.Quantifier.{bounded, open_ended, braces_of, form_of, marked, quantifier_of}
use Rattle.tokens.specs.Token.{escaped, unquoted_of, spelled_of, lexeme_of, item_set}
use Rattle.table.specs.Gaps.{between, before_last, at_the_end, at_the_start, gap_of as gap_before, first_gap}
use Rattle.table.specs.Table.{all, emptied}
use Rattle.meaning.specs.Count.{copied, capped, saturating, nullable}
use Rattle.meaning.specs.Form.{write, positions, repeated, copies, optionals}
use Rattle.meaning.specs.Automaton.{null, first, last, follow, items}
use Rattle.meaning.proofs.Logic.{true-T, and_T}
use Rattle.pattern.specs.Walk.{chained, chosen, one, repeating, closing, opening, act, next, finish, walk}
use Rattle.pattern.specs.Read.{judged, read_of, options_of}
use Rattle.pattern.specs.Windows.{empty_window}
use Rattle.steps.specs.Step.{stepped, ends, ends_newly, lates_of}
use Rattle.stream.specs.Byte.{next_held, next_pending, run_reports, run_marks, two_reports, two_marks, byte_reports, byte_state, close_reports}
use Rattle.rules.specs.declared.Added.{Added}
use Rattle.rules.specs.Add.{Addition, answer, unknown_flag, single_start, placed, add_words}
use Rattle.rules.specs.Additions.{Narrow, Accepted, used, taken, next_answer, with_new, after_next, accepted_after}
use Rattle.rules.specs.Encoded.{add_all}
use Rattle.rules.proofs.Sorted.{laid, insert, into}
use Rattle.rules.proofs.Additions.{Built, built-none, built-next, answer-built, words-built}
use Rattle.worked.specs.Cases.{bytes, Log, Case, Gives, AllGive, answer_in, logs_in, Alone, answers_of, additions_in, cases, logs, WorkedCases}
use Rattle.worked.proofs.Computing.{owner, owner_place, computed, computed_of}
use Rattle.worked.proofs.Logs.{same, pass, passed, final, follows, without_starts, start_of, log-gives}

-- ---- the cases without a table, which compute

-- the log, followed by the automaton of some accepted rules, none of which reports a start
abbrev runs : List Accepted → Log → Bool
runs rs log = without_starts rs && follows (computed_of rs) (start_of rs) log.blocks log.closing

unfoldable all_run : List Accepted → List Log → Bool
all_run rs [] = true
all_run rs (log ∷ l) = runs rs log && all_run rs l

abbrev answers : Added → Added → Bool
answers a b = eqb a.number b.number && eqb a.place b.place

-- a rule alone, with a 32-bit id
unfoldable right : Case → Bool
right k = ltb k.rule.id (2 ^ 32) && (answers (next_answer [] k.rule) (answer_in k.verdict) && all_run (accepted_after [] (k.rule ∷ [])) (logs_in k.verdict))

-- those of a list that fail a test
unfoldable failing : {A : Type 0} → (A → Bool) → List A → List A
failing test [] = []
failing test (x ∷ l) = cond (test x) (failing test l) (x ∷ failing test l)

-- the answers of a list of additions after some accepted rules
unfoldable next_answers : List Accepted → List Addition → List Added
next_answers rs [] = []
next_answers rs (a ∷ l) = next_answer rs a ∷ next_answers (after_next rs a) l

-- no rule fails alone; and all in one table have the same answers, and no log fails
computed-right : (failing right cases ≡ [])
    × (next_answers [] (additions_in cases) ≡ map (λ (k : Case). answer_in k.verdict) cases)
    × (failing (runs (accepted_after [] (additions_in cases))) logs ≡ [])
unfolding all_run right failing next_answers without_starts on has set_of word_of any empty_set inserted_range union_of complement_of inserted full_set is_digit is_lower is_upper is_blank other_case case_closed digit_of digits value_from blanks numeral_of braced_of short_of flipped64 raised control_of type_of named_of placed_of hex_of octal_of is_alpha is_alnum escape_of lower is_mark gap_of names begins named name_among name_of bracket_of member_of range_fault joint_of member_at members_of class_of joined settled letters_of before_close comment_of opening_of bounded open_ended braces_of form_of marked quantifier_of escaped unquoted_of lexeme_of item_set copied capped saturating nullable write positions repeated copies optionals null first last follow items chained chosen one repeating closing opening act next finish walk judged read_of options_of unknown_flag single_start empty_window placed used taken next_answer with_new after_next accepted_after laid insert into owner owner_place computed between before_last at_the_end at_the_start gap_before first_gap side_of is_word stepped ends ends_newly lates_of intersection_of next_held next_pending run_reports run_marks two_reports two_marks byte_reports byte_state close_reports all bytes cases logs pass passed final follows same zip mathlib.Core.List.zip_with is_cntrl any_raw with_raw spelled_at spelled_of
computed-right = (refl, refl, refl)

-- ---- carried to the calls

each : {A : Type 0} (test : A → Bool) (l : List A) → failing test l ≡ [] → (x : A) → Memᴰ x l → T (test x)
unfolding failing
each test [] e x m = absurd (Memᴰ.not-nil m)
each {A} test (y ∷ l) e x m = go (test y) refl e m (λ r n. each test l r x n)
  where
    go : (b : Bool) → test y ≡ b → cond b (failing test l) (y ∷ failing test l) ≡ [] → Memᴰ x (y ∷ l)
        → (failing test l ≡ [] → Memᴰ x l → T (test x)) → T (test x)
    go true f e (Memᴰ.head h) later = subst (λ (z : A). T (test z)) (sym h) (subst T (sym f) tt)
    go true f e (Memᴰ.tail n) later = later e n
    go false f e n later = absurd (cons-ne-nil y (failing test l) e)

module _ (t : List ℕ) (rs : List Accepted) (built : Built t rs) where
  runs-give : (log : Log) → T (runs rs log) → Gives t log
  runs-give log h = let x = (and_T (without_starts rs) (follows (computed_of rs) (start_of rs) log.blocks log.closing)).0 h in log-gives t rs built x.0 log x.1

  all_give : (logs : List Log) → T (all_run rs logs) → AllGive t logs
  unfolding all_run
  all_give [] h log m = absurd (Memᴰ.not-nil m)
  all_give (x ∷ l) h log (Memᴰ.head e) = subst (Gives t) (sym e) (runs-give x ((and_T (runs rs x) (all_run rs l)).0 h).0)
  all_give (x ∷ l) h log (Memᴰ.tail m) = all_give l ((and_T (runs rs x) (all_run rs l)).0 h).1 log m

same_answer : (a b : Added) → T (answers a b) → a ≡ b
same_answer a b h =
    let x = (and_T (eqb a.number b.number) (eqb a.place b.place)).0 h in
    ap₂ answer (eqb→eq a.number b.number x.0) (eqb→eq a.place b.place x.1)

right-parts : (k : Case) → T (right k)
    → (k.rule.id < 2 ^ 32)
    × T (answers (next_answer [] k.rule) (answer_in k.verdict))
    × T (all_run (accepted_after [] (k.rule ∷ [])) (logs_in k.verdict))
unfolding right
right-parts k h =
    let both : Bool = answers (next_answer [] k.rule) (answer_in k.verdict) && all_run (accepted_after [] (k.rule ∷ [])) (logs_in k.verdict) in
    let x = (and_T (ltb k.rule.id (2 ^ 32)) both).0 h in
    let y = (and_T (answers (next_answer [] k.rule) (answer_in k.verdict)) (all_run (accepted_after [] (k.rule ∷ [])) (logs_in k.verdict))).0 x.1 in
    (ltb-true k.rule.id (2 ^ 32) (true-T _ x.0), y.0, y.1)

narrow-in : (l : List Case) → ((k : Case) → Memᴰ k l → k.rule.id < 2 ^ 32) → Narrow (additions_in l)
unfolding Narrow
narrow-in [] h = tt
narrow-in (k ∷ l) h = (h k (Memᴰ.head refl), narrow-in l (λ j m. h j (Memᴰ.tail m)))

narrow-cases : Narrow (additions_in cases)
narrow-cases = narrow-in cases (λ k m. (right-parts k (each right cases computed-right.0 k m)).0)

right-alone : (k : Case) → T (right k) → Alone k
unfolding Narrow
right-alone k h words long =
    let x = right-parts k h in (
      answer-built (emptied words) [] (built-none words long) k.rule ∙ same_answer (next_answer [] k.rule) (answer_in k.verdict) x.1,
      all_give (add_all (emptied words) (k.rule ∷ [])) (accepted_after [] (k.rule ∷ [])) (words-built words (k.rule ∷ []) long (x.0, tt)) (logs_in k.verdict) x.2,
    )

answers-built : (l : List Addition) → Narrow l → (t : List ℕ) (rs : List Accepted) → Built t rs → answers_of t l ≡ next_answers rs l
unfolding answers_of next_answers Narrow
answers-built [] narrow t rs b = refl
answers-built (a ∷ l) narrow t rs b =
    ap₂ (λ (x : Added) (r : List Added). x ∷ r) (answer-built t rs b a)
    (answers-built l narrow.1 (add_words t a) (after_next rs a) (built-next t rs b a narrow.0))

pub worked-cases : WorkedCases
worked-cases = (
  λ k m. right-alone k (each right cases computed-right.0 k m),
  λ words long. (
    answers-built (additions_in cases) narrow-cases (emptied words) [] (built-none words long) ∙ computed-right.1,
    λ log m. runs-give (add_all (emptied words) (additions_in cases)) (accepted_after [] (additions_in cases)) (words-built words (additions_in cases) long narrow-cases) log
        (each (runs (accepted_after [] (additions_in cases))) logs computed-right.2 log m),
  ),
)
