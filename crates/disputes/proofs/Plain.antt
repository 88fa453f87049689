-- The plain matcher answers as the table does. Its list and the joined reports of a table with that
-- rule alone are each the one ordered list of the rule (plain's `Matches`, demand 3), up to the id;
-- and its checks are those of an addition to an emptied table, in the same order. Assumes nothing.
use mathlib.Core.Path.{◌≡◌, refl, sym, subst, ap, ap₂, ◌∙◌}
use mathlib.Core.Bool.{Bool, true, false, true≢false, cond, not, ◌&&◌, and_comm}
use mathlib.Core.List.Memᴰ
use mathlib.Core.List.{List, [], ◌∷◌, ◌++◌, map, zip, zip_with, Memᴰ}
use Prim.Native.Nat.{ℕ, ◌+◌, ◌≤◌, min}
use native.Mathlib.Omega.{arith}
use borrow.Author.Tests.{eq-eqb, le-ltb, ltb-false}
use lib.Bits.{bit_and}
use lib.Dec.{eqb, ltb}
use lib.ListN.{length, take, drop}
use Rattle.meaning.specs.Form.{write, positions}
use Rattle.meaning.specs.Rule.{Rule}
use Rattle.meaning.specs.Ordered.{Report, Ordered, of_id}
use Rattle.meaning.specs.Count.{limit}
use Rattle.meaning.proofs.Counted.{within-limit}
use Rattle.meaning.proofs.Alone.{alone}
use Rattle.meaning.proofs.OneList.{one_answer}
use Rattle.meaning.proofs.Named.{report_by, ordered-as}
use Rattle.table.specs.Automaton.{automaton}
use Rattle.nodes.specs.Nodes.{Syntax}
use Rattle.tokens.specs.declared.Options.{Options}
use Rattle.pattern.specs.Walk.{Read, tree, refused}
use Rattle.pattern.specs.Read.{too_long, read_of, options_of}
use Rattle.pattern.specs.Windows.{empty_window}
use Rattle.pattern.specs.Reasons.{Reason, among}
use Rattle.pattern.proofs.Accepted.{refusal-reason}
use Rattle.rules.specs.Words.{is_single, is_leftmost}
use Rattle.rules.specs.Add.{Addition, addition_in, answer, unknown_flag, single_start, placed, reading_of}
use Rattle.rules.specs.Additions as additions
use Rattle.rules.specs.Additions.{Accepted, used, next_answer, accepted_of, with_new, after_next, accepted_after}
use Rattle.rules.specs.declared.Added.{Added}
use Rattle.rules.proofs.Encodes.{distinct}
use Rattle.rules.proofs.Readings.{reads}
use Rattle.rules.proofs.Additions.{built-none, answer-built}
use Rattle.plain.specs.Answer.{Matched}
use Rattle.plain.specs.Run.{Lent, lent}
use Rattle.plain.specs.Answer.{Question, known_flags, longest_log, least_space, has_single, has_leftmost, verdict, rule_of, Reports, Answered}
use Rattle.plain.proofs.matches.Met.{met as matches-met}
use Rattle.demands.specs.Kinds.{Kind, short, traces}
use Rattle.demands.specs.Demands.{table_in, accepted_in, rules_in, taken, joined, Demand3}
use Rattle.disputes.specs.Plain.{Asked, addition_of, list_of, SameList, SameAmong, SameRefusals, Never, OneAnswer, Plain}
use Rattle.demands.proofs.Theorems.{built, short-streams, traced_streams}

-- ---- the checks

-- number and place that a reading is answered with
unfoldable said : Read → Added
said (refused number place) = answer number place
said (tree t) = answer 0 0

-- a rule that is read fits an emptied table
fits : (a : Addition) (x : Syntax) → reading_of a ≡ tree x → 0 + positions (write x) ≤ limit
fits a x e =
    let r = (reads a.pattern (options_of a.flags) x).0 e in
    omega (arith, r.fits, within-limit x r.fits)

-- the checks of an addition to an emptied table are the matcher's: 2, 24, 5, 26, then the reader's
module _ (q : Question) (space id : ℕ) (short : length q.log ≤ longest_log) (room : least_space ≤ space) where
  abbrev a : Addition
  a = addition_in id q.flags q.windows q.pattern

  same-checks : next_answer [] a ≡ said (verdict q space)
  unfolding verdict next_answer additions.taken used unknown_flag single_start placed said
  same-checks =
      rw (le-ltb longest_log (length q.log) short, le-ltb space least_space room, and_comm (is_single q.flags) (is_leftmost q.flags))
      (go (unknown_flag q.flags) (has_leftmost q.flags && has_single q.flags) (too_long q.pattern) (empty_window q.windows) (reading_of a) refl)
    where
      go : (u b t w : Bool) (d : Read) → reading_of a ≡ d
          → cond u (answer 2 0) (cond b (answer 24 0) (cond t (answer 5 0) (cond w (answer 26 0) (placed 0 (length q.pattern) d))))
          ≡ said (cond u (refused 2 0) (cond b (refused 24 0) (cond t (refused 5 0) (cond w (refused 26 0) d))))
      go true b t w d e = refl
      go false true t w d e = refl
      go false false true w d e = refl
      go false false false true d e = refl
      go false false false false (refused number place) e = refl
      go false false false false (tree x) e =
          ap (λ (v : Bool). cond v (answer 17 (length q.pattern)) (answer 0 0)) (le-ltb limit (0 + positions (write x)) (fits a x e))

-- ---- the numbers

-- no refusal of the matcher has one of these numbers
abbrev barred : List ℕ
barred = 0 ∷ 1 ∷ 3 ∷ 4 ∷ 17 ∷ []

mem-among : (n : ℕ) (l : List ℕ) → Memᴰ n l → among n l ≡ true
mem-among n [] m = elim m [ ]
mem-among n (k ∷ l) (Memᴰ.head e) = ap (λ (b : Bool). cond b true (among n l)) (eq-eqb n k e)
mem-among n (k ∷ l) (Memᴰ.tail m) = go (eqb n k) (mem-among n l m)
  where
    go : (b : Bool) → among n l ≡ true → cond b true (among n l) ≡ true
    go true e = refl
    go false e = e

-- the reader's are 6 to 16 and 23
reason-number : (s : List ℕ) (o : Options) (n p : ℕ) → Reason s o n p → among n barred ≡ false
reason-number s o n p (Reason.escape_cut at m S x) = refl
reason-number s o n p (Reason.member_cut at c b M x) = refl
reason-number s o n p (Reason.escape_large at m S x) = refl
reason-number s o n p (Reason.member_large at c b M x) = refl
reason-number s o n p (Reason.class_open at bracket c b k C i h) = refl
reason-number s o n p (Reason.bad_range at c b M x) = refl
reason-number s o n p (Reason.nothing_repeated at m S x) = refl
reason-number s o n p (Reason.bounds_are_bad at m S x) = refl
reason-number s o n p (Reason.group_open at m S h z) = refl
reason-number s o n p (Reason.no_group at m S e z) = refl
reason-number s o n p (Reason.comment_open at m S x r) = refl
reason-number s o n p (Reason.too_deep at m i S e h) = refl
reason-number s o n p (Reason.unsupported at m S x) = refl
reason-number s o n p (Reason.member_unsupported at c b M x) = refl
reason-number s o n p (Reason.raw_byte at m S x) = refl
reason-number s o n p (Reason.member_raw at c b M x) = refl
reason-number s o n p (Reason.matches_nothing t F x) = refl
reason-number s o n p (Reason.too_many t F x) = refl

-- what a refusal's number is not; and what a rule that is taken has passed
module _ (q : Question) (space : ℕ) where
  abbrev reading : Read
  reading = read_of q.pattern (options_of q.flags)

  Judged : Read → Type 0
  Judged (refused number place) = among number barred ≡ false
  Judged (tree t) = (length q.log ≤ longest_log) × (least_space ≤ space) × (reading ≡ tree t)

  judged : Judged (verdict q space)
  unfolding verdict Judged
  judged =
      go (not (eqb (bit_and q.flags known_flags) q.flags)) (has_leftmost q.flags && has_single q.flags) (too_long q.pattern)
      (empty_window q.windows) (ltb longest_log (length q.log)) (ltb space least_space) reading refl refl refl
    where
      go : (u b t w l s : Bool) (d : Read) → ltb longest_log (length q.log) ≡ l → ltb space least_space ≡ s → reading ≡ d
          → Judged (cond u (refused 2 0) (cond b (refused 24 0) (cond t (refused 5 0) (cond w (refused 26 0) (cond l (refused 28 0) (cond s (refused 20 0) d))))))
      go true b t w l s d x y e = refl
      go false true t w l s d x y e = refl
      go false false true w l s d x y e = refl
      go false false false true l s d x y e = refl
      go false false false false true s d x y e = refl
      go false false false false false true d x y e = refl
      go false false false false false false (refused number place) x y e =
          reason-number q.pattern (options_of q.flags) number place (refusal-reason q.pattern (options_of q.flags) number place e)
      go false false false false false false (tree t) x y e =
          (ltb-false longest_log (length q.log) x, ltb-false space least_space y, e)

-- ---- the refusals

abbrev space_of : Lent → ℕ
space_of l = min (length l.offsets) (length l.starts)

said-is : (q : Question) (old new : Lent) (m : Matched) (r : Read) → Answered q old new m r → said r ≡ answer m.number m.place
unfolding Answered said
said-is q old new m (refused number place) h = ap₂ answer (sym (ap (λ (x : Matched). x.number) h.0)) (sym (ap (λ (x : Matched). x.place) h.0))
said-is q old new m (tree t) h = ap₂ answer (sym h.0) (sym h.1)

refusals : SameRefusals
refusals q short room words long id =
    answer-built _ [] (built-none words long) (addition_of id q)
    ∙ same-checks q.question (space_of q.old) id short room
    ∙ said-is q.question q.old q.new q.answer (verdict q.question (space_of q.old)) q.answered

never : Never
unfolding Judged Answered
never q m = go (verdict q.question (space_of q.old)) (judged q.question (space_of q.old)) q.answered
  where
    not-barred : (n : ℕ) → q.answer.number ≡ n → among n (1 ∷ 3 ∷ 4 ∷ 17 ∷ []) ≡ false → ⊥
    not-barred n e f = true≢false (sym (mem-among n (1 ∷ 3 ∷ 4 ∷ 17 ∷ []) (subst (λ (k : ℕ). Memᴰ k (1 ∷ 3 ∷ 4 ∷ 17 ∷ [])) e m)) ∙ f)

    later : (n : ℕ) (b : Bool) → cond b true (among n (1 ∷ 3 ∷ 4 ∷ 17 ∷ [])) ≡ false → among n (1 ∷ 3 ∷ 4 ∷ 17 ∷ []) ≡ false
    later n true f = absurd (true≢false f)
    later n false f = f

    go : (r : Read) → Judged q.question (space_of q.old) r → Answered q.question q.old q.new q.answer r → ⊥
    go (refused number place) j h = not-barred number (ap (λ (x : Matched). x.number) h.0) (later number (eqb number 0) j)
    go (tree t) j h = not-barred 0 h.0 refl

-- ---- one answer

module _ (q : Question) (old new new' : Lent) (m m' : Matched) where
  one-report : {r : Rule} → Reports r q.log old new m.count → Reports r q.log old new' m'.count → (m.count ≡ m'.count) × (new ≡ new')
  one-report {r} h k =
      let same : h.list ≡ k.list = one_answer (r ∷ []) q.log h.list k.list h.ordered k.ordered in (
        h.counted ∙ ap length same ∙ sym k.counted,
        ap₂ lent (h.offsets ∙ ap (λ (l : List Report). map (λ p. p.1) l ++ drop (length l) old.offsets) same ∙ sym k.offsets)
            (h.starts ∙ ap (λ (l : List Report). map (λ p. p.2) l ++ drop (length l) old.starts) same ∙ sym k.starts),
      )

  one : (r : Read) → Answered q old new m r → Answered q old new' m' r → (m ≡ m') × (new ≡ new')
  unfolding Answered
  one (refused number place) h k = (h.0 ∙ sym k.0, h.1 ∙ sym k.1)
  one (tree t) h k =
      let same = one-report h.2 k.2 in (
        ap₂ (λ (n p : ℕ). record { number = n; place = p; count = m.count }) (h.0 ∙ sym k.0) (h.1 ∙ sym k.1)
            ∙ ap (λ (c : ℕ). record { number = m'.number; place = m'.place; count = c }) same.0,
        same.1,
      )

one_each : OneAnswer
one_each p q same lists =
    one p.question p.old p.new q.new p.answer q.answer (verdict p.question (space_of p.old)) p.answered
    (subst (λ (x : Question). Answered x p.old q.new q.answer (verdict x (space_of p.old))) (sym same)
    (subst (λ (x : Lent). Answered q.question x q.new q.answer (verdict q.question (space_of x))) (sym lists) q.answered))

-- ---- the list

-- the front of the two lists is the list that they were written from
paired : (id : ℕ) (l : List Report) (u v : List ℕ)
    → map (λ p. (id, p.0, p.1)) (zip (take (length l) (map (λ p. p.1) l ++ u)) (take (length l) (map (λ p. p.2) l ++ v))) ≡ map (report_by id) l
unfolding zip zip_with
paired id [] u v = refl
paired id (p ∷ l) u v = ap (λ (x : List Report). report_by id p ∷ x) (paired id l u v)

its-list : (q : Asked) (id : ℕ) {r : Rule} (s : Reports r q.question.log q.old q.new q.answer.count) → list_of id q ≡ map (report_by id) s.list
its-list q id s =
    rw (s.counted, s.offsets, s.starts) (paired id s.list (drop (length s.list) q.old.offsets) (drop (length s.list) q.old.starts))

-- a table with that rule alone
module _ (q : Asked) (id : ℕ) where
  abbrev space : ℕ
  space = space_of q.old

  abbrev rule_in : Syntax → Accepted
  rule_in t = accepted_of (addition_of id q) t

  only-rule : (t : Syntax) → verdict q.question space ≡ tree t → Judged q.question space (tree t) → accepted_after [] (addition_of id q ∷ []) ≡ rule_in t ∷ []
  unfolding accepted_after after_next with_new Judged said
  only-rule t e j =
      let passed : next_answer [] (addition_of id q) ≡ answer 0 0 = same-checks q.question space id j.0 j.1 ∙ ap said e in
      rw (passed, j.2)

  -- the matcher's list, with the id, is the ordered list of that rule
  its-ordered : (t : Syntax) (s : Reports (rule_of q.question t) q.question.log q.old q.new q.answer.count)
      → Ordered (additions.rule_of (rule_in t) ∷ []) q.question.log (list_of id q)
  its-ordered t s =
      subst (Ordered (additions.rule_of (rule_in t) ∷ []) q.question.log) (sym (its-list q id s))
      (ordered-as q.question.log (rule_of q.question t) 0 id s.list s.ordered)

same-list : {S L C : Type 0} (k : Kind S L C) → Demand3 k → SameList k
unfolding Answered Judged
same-list k demand q ok id c only items calls closing same =
    go (verdict q.question (space_of q.old)) refl (judged q.question (space_of q.old)) q.answered
  where
    go : (r : Read) → verdict q.question (space_of q.old) ≡ r → Judged q.question (space_of q.old) r → Answered q.question q.old q.new q.answer r
        → joined k c items ≡ list_of id q
    go (refused number place) e j h =
        let zero : number ≡ 0 = sym (ap (λ (x : Matched). x.number) h.0) ∙ ok in
        absurd (true≢false (sym (mem-among number barred (Memᴰ.head zero)) ∙ j))
    go (tree t) e j h =
        one_answer (additions.rule_of (rule_in q id t) ∷ []) q.question.log (joined k c items) (list_of id q)
        (subst (λ (l : List ℕ). Ordered (additions.rule_of (rule_in q id t) ∷ []) l (joined k c items)) same
        (subst (λ (rs : List Accepted). Ordered (map additions.rule_of rs) (taken k c items) (joined k c items)) (only ∙ only-rule q id t e j) (demand c items calls closing)))
        (its-ordered q id t h.2)

-- in a table of many rules
first : Accepted → List Accepted → Accepted
first r [] = r
first r (x ∷ l) = x

same-among : {S L C : Type 0} (k : Kind S L C) → Demand3 k → SameAmong k
unfolding Answered Judged first
same-among k demand q ok c r there alone-is items calls closing same =
    go (verdict q.question (space_of q.old)) refl (judged q.question (space_of q.old)) q.answered
  where
    go : (x : Read) → verdict q.question (space_of q.old) ≡ x → Judged q.question (space_of q.old) x → Answered q.question q.old q.new q.answer x
        → of_id r.id (joined k c items) ≡ list_of r.id q
    go (refused number place) e j h =
        let zero : number ≡ 0 = sym (ap (λ (x : Matched). x.number) h.0) ∙ ok in
        absurd (true≢false (sym (mem-among number barred (Memᴰ.head zero)) ∙ j))
    go (tree t) e j h =
        let is : rule_in q r.id t ≡ r = ap (first r) (sym (only-rule q r.id t e j) ∙ alone-is) in
        one_answer (additions.rule_of r ∷ []) q.question.log (of_id r.id (joined k c items)) (list_of r.id q)
        (subst (λ (l : List ℕ). Ordered (additions.rule_of r ∷ []) l (of_id r.id (joined k c items))) same
        (alone (rules_in c) (distinct (automaton (table_in c)) (accepted_in c) (built c calls.0).encodes) (additions.rule_of r) (Memᴰ.map additions.rule_of there) (taken k c items) (joined k c items) (demand c items calls closing)))
        (subst (λ (x : Accepted). Ordered (additions.rule_of x ∷ []) q.question.log (list_of r.id q)) is (its-ordered q r.id t h.2))

pub plain : Plain
plain = record {
  answers = matches-met;
  one_answer = one_each;
  by_short = same-list short short-streams.demand3;
  by_traces = same-list traces traced_streams.demand3;
  among_short = same-among short short-streams.demand3;
  among_traces = same-among traces traced_streams.demand3;
  refusals = refusals;
  never = never;
}
