-- The answer: by the checks before the pattern is read, then by the reader, then by the run.
use mathlib.Core.Path.{◌≡◌, refl, sym, subst, ap, ap₂, ◌∙◌}
use mathlib.Core.Bool.{Bool, true, false, cond, not, ◌&&◌}
use mathlib.Core.List.{List, ◌++◌, map}
use Prim.Native.Nat.{ℕ, min, ◌≤◌}
use native.Mathlib.Omega.{arith}
use borrow.Author.Tests.{ltb-false}
use lib.Bits.{bit_and}
use lib.Dec.{eqb, ltb}
use lib.ListN.{length, drop}
use Rattle.meaning.specs.Form.{write, positions}
use Rattle.meaning.specs.Rule.{Rule, Windows}
use Rattle.meaning.specs.Ordered.{Report}
use Rattle.meaning.proofs.Counted.{within-limit}
use Rattle.nodes.specs.Nodes.{Syntax}
use Rattle.pattern.specs.Walk.{Read, tree, refused}
use Rattle.pattern.specs.Read.{too_long, read_of, limited_read, options_of, Answer, answer_of}
use Rattle.pattern.specs.Windows.{windows_of, empty_window, size_fault as pattern_fault}
use Rattle.pattern.specs.declared.bounds.Bounds.{Bounds}
use Rattle.pattern.proofs.Answers.{accepted-tree, Accepted}
use Rattle.plain.specs.Run.{Hit, closed, kept, Lent}
use Rattle.plain.specs.Answer.{Question, known_flags, has_single, has_leftmost, longest_log, least_space, verdict, rule_of, Matched, refusal, Answered, Matches}
use Rattle.nodes.specs.Invariants.{form_at}
use Rattle.plain.specs.Invariants.{choice_of, Asks, Delivered, flag_fault, size_fault, first_fault, Checked, wanted_by}
use Rattle.plain.specs.declared.run.Wanted.{Wanted}
use Rattle.plain.proofs.Listed.{the-list, is-ordered, its-offsets, its-starts, its-length}

module _ (q : Question) (space : ℕ) where
  abbrev u1 : Bool
  u1 = not (eqb (bit_and q.flags known_flags) q.flags)

  abbrev u2 : Bool
  u2 = has_leftmost q.flags && has_single q.flags

  abbrev u3 : Bool
  u3 = too_long q.pattern

  abbrev u4 : Bool
  u4 = empty_window q.windows

  abbrev u5 : Bool
  u5 = ltb longest_log (length q.log)

  abbrev u6 : Bool
  u6 = ltb space least_space

  abbrev reads : Read
  reads = read_of q.pattern (options_of q.flags)

  -- a check that fails decides
  early : (fault : ℕ) → fault ≡ first_fault q space → (fault ≡ 0 → ⊥) → verdict q space ≡ refused fault 0
  unfolding verdict first_fault flag_fault size_fault pattern_fault
  early fault e n = go u1 u2 u3 u4 u5 u6 e
    where
      go : (a b c d g h : Bool) → fault ≡ cond (eqb (cond a 2 (cond b 24 0)) 0) (cond (eqb (cond c 5 (cond d 26 0)) 0) (cond g 28 (cond h 20 0)) (cond c 5 (cond d 26 0))) (cond a 2 (cond b 24 0))
          → cond a (refused 2 0) (cond b (refused 24 0) (cond c (refused 5 0) (cond d (refused 26 0) (cond g (refused 28 0) (cond h (refused 20 0) reads))))) ≡ refused fault 0
      go true b c d g h x = ap (λ (y : ℕ). refused y 0) (sym x)
      go false true c d g h x = ap (λ (y : ℕ). refused y 0) (sym x)
      go false false true d g h x = ap (λ (y : ℕ). refused y 0) (sym x)
      go false false false true g h x = ap (λ (y : ℕ). refused y 0) (sym x)
      go false false false false true h x = ap (λ (y : ℕ). refused y 0) (sym x)
      go false false false false false true x = ap (λ (y : ℕ). refused y 0) (sym x)
      go false false false false false false x = absurd (n x)

  -- where none fails, the reader decides
  pub record Passed : Type 0 where
    pub reads : verdict q space ≡ limited_read q.pattern (options_of q.flags)
    pub short : length q.log ≤ 1024
    pub room : 1024 ≤ space

  pub passed : first_fault q space ≡ 0 → Passed
  unfolding verdict first_fault flag_fault size_fault pattern_fault limited_read
  passed e = go u1 u2 u3 u4 u5 u6 refl refl refl refl refl refl e
    where
      go : (a b c d g h : Bool) → u1 ≡ a → u2 ≡ b → u3 ≡ c → u4 ≡ d → u5 ≡ g → u6 ≡ h
          → ◌≡◌ {A = ℕ} (cond (eqb (cond a 2 (cond b 24 0)) 0) (cond (eqb (cond c 5 (cond d 26 0)) 0) (cond g 28 (cond h 20 0)) (cond c 5 (cond d 26 0))) (cond a 2 (cond b 24 0))) 0 → Passed
      go true b c d g h p1 p2 p3 p4 p5 p6 x = absurd (omega arith)
      go false true c d g h p1 p2 p3 p4 p5 p6 x = absurd (omega arith)
      go false false true d g h p1 p2 p3 p4 p5 p6 x = absurd (omega arith)
      go false false false true g h p1 p2 p3 p4 p5 p6 x = absurd (omega arith)
      go false false false false true h p1 p2 p3 p4 p5 p6 x = absurd (omega arith)
      go false false false false false true p1 p2 p3 p4 p5 p6 x = absurd (omega arith)
      go false false false false false false p1 p2 p3 p4 p5 p6 x = record {
        reads = rw (p1, p2, p3, p4, p5, p6);
        short = ltb-false longest_log (length q.log) p5;
        room = ltb-false space least_space p6;
      }

-- what is wanted of the run, as a question asks it
pub record Asked (q : Question) (w : Wanted) : Type 0 where
  pub single : w.single ≡ has_single q.flags
  pub choice : choice_of w ≡ (has_leftmost q.flags, q.windows)

pub asked : {q : Question} {w : Wanted} {v : Bounds} → q.windows ≡ windows_of v → w ≡ wanted_by q.flags v → Asked q w
asked {q} same e = record {
  single = ap (λ (x : Wanted). x.single) e;
  choice = ap choice_of e ∙ ap (λ (x : Windows). (has_leftmost q.flags, x)) (sym same);
}

module _ (q : Question) (old : Lent) where
  abbrev space : ℕ
  space = min (length old.offsets) (length old.starts)

  pub early-answer : {fault space' : ℕ} {m : Matched} → space' ≡ space → fault ≡ first_fault q space' → (fault ≡ 0 → ⊥) → m ≡ refusal fault 0 → Matches q old old m
  unfolding Answered
  early-answer {fault} es e n d = rw (early q space fault (rw es at e) n) (d, refl)

  pub checked : {fault space' : ℕ} → space' ≡ space → fault ≡ first_fault q space' → fault ≡ 0 → Checked q old
  checked es ef none = rw es at (sym ef ∙ none)

  module _ (fine : Checked q old) (r : Answer) (is : r ≡ answer_of (limited_read q.pattern (options_of q.flags))) where
    pass : Passed q space
    pass = passed q space fine

    pub unread-answer : {m : Matched} → (r.number ≡ 0 → ⊥) → m ≡ refusal r.number r.place → Matches q old old m
    unfolding Answered answer_of
    unread-answer {m} n d = rw pass.reads (go (limited_read q.pattern (options_of q.flags)) is)
      where
        go : (x : Read) → r ≡ answer_of x → Answered q old old m x
        go (refused number place) e = (d ∙ ap₂ refusal (ap (λ (y : Answer). y.number) e) (ap (λ (y : Answer). y.place) e), refl)
        go (tree t) e = absurd (n (ap (λ (y : Answer). y.number) e))

    module _ (accepted : r.number ≡ 0) where
      abbrev got : (t : Syntax) × (limited_read q.pattern (options_of q.flags) ≡ tree t) × Accepted r t
      got = accepted-tree q.pattern (options_of q.flags) r is accepted

      few : positions (write got.0) ≤ 256
      few = let s = within-limit got.0 got.2.few in omega (arith, got.2.few)

      pub asks : Asks r.nodes r.root q.log old
      asks = record {
        room = subst (λ (t : Syntax). positions (write t) ≤ 256) (sym got.2.tree) few;
        short = pass.short;
        space = record { offsets = omega (arith, pass.room); starts = omega (arith, pass.room) };
      }

      pub run-answer : {w : Wanted} {now : Lent} {count : ℕ} {m : Matched} → Asked q w
          → Delivered w old now count (closed (choice_of w) q.log (form_at r.nodes r.root) (length q.log))
          → m ≡ record { number = 0; place = 0; count = count } → Matches q old now m
      unfolding Answered
      run-answer {w} {now} {count} {m} wants d e =
          let t : Syntax = got.0 in
          let rule : Rule = rule_of q t in
          let list : List Report = the-list q.log rule few pass.short in
          let said : List Hit = kept rule.single (closed (rule.starts, rule.windows) q.log (write t) (length q.log)) in
          let same : kept w.single (closed (choice_of w) q.log (form_at r.nodes r.root) (length q.log)) ≡ said =
          ap₂ (λ (b : Bool) (l : List Hit). kept b l) wants.single
          (ap₂ (λ c (x : Syntax). closed c q.log (write x) (length q.log)) wants.choice got.2.tree) in
          let long = its-length q.log rule few pass.short in
          let counted : count ≡ length said = d.counted ∙ ap length same in
          let drops : (l : List ℕ) → drop (length said) l ≡ drop (length list) l = λ l. ap (λ (n : ℕ). drop n l) (sym long) in
          rw (pass.reads, got.1) (
            ap (λ (x : Matched). x.number) e,
            ap (λ (x : Matched). x.place) e,
            record {
              list = list;
              ordered = is-ordered q.log rule few pass.short;
              counted = ap (λ (x : Matched). x.count) e ∙ counted ∙ sym long;
              offsets = ap (λ (v : Lent). v.offsets) d.written ∙ ap (λ (l : List Hit). map (λ (h : Hit). h.0) l ++ drop (length l) old.offsets) same
                  ∙ ap₂ (λ (a b : List ℕ). a ++ b) (sym (its-offsets q.log rule few pass.short)) (drops old.offsets);
              starts = ap (λ (v : Lent). v.starts) d.written ∙ ap (λ (l : List Hit). map (λ (h : Hit). h.1) l ++ drop (length l) old.starts) same
                  ∙ ap₂ (λ (a b : List ℕ). a ++ b) (sym (its-starts q.log rule few pass.short)) (drops old.starts);
            },
          )
