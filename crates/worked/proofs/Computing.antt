-- The automaton of some rules without a word of a table: its sets are those of the rules'
-- written-out forms, worked out when they are asked for. A table that additions built agrees with
-- it, so a checker can follow a stream by it. Assumes nothing.
use mathlib.Core.Path.{◌≡◌, refl, sym, ap, ap₂, ◌∙◌}
use mathlib.Core.Bool.{Bool, true, false, cond, not, ◌&&◌, ◌||◌, and-true, and-false}
use mathlib.Core.List.{List, [], ◌∷◌}
use Prim.Native.Nat.{ℕ, zero, suc, ◌+◌, ◌≤◌, ◌<◌}
use native.Mathlib.Omega.{arith}
use native.Mathlib.Decide.{dec_le, dec_lt, ℕ_discrete}
use lib.Dec.{eqb, leb, ltb}
use lib.ListN.{length}
use borrow.Author.Tests.{le-leb, lt-leb, lt-ltb, le-ltb, eq-eqb, ne_eqb}
use Rattle.sets.specs.Set.{has, any}
use Rattle.table.specs.Layout.{max_positions}
use Rattle.table.specs.Gaps.{inner_gaps, last_gaps, unsettled}
use Rattle.table.specs.Automaton.{Automaton, automaton, last as last_in}
use Rattle.meaning.specs.Tree.{empty}
use Rattle.meaning.specs.Rule.{no_windows}
use Rattle.meaning.specs.Automaton.{first, last, follow}
use Rattle.rules.specs.Words.{is_single, is_leftmost, needs_start}
use Rattle.rules.specs.Additions.{Accepted, size, used}
use Rattle.rules.proofs.Sorted.{Placed, at, by_id}
use Rattle.rules.proofs.Encodes.{Encodes, Of, form_of, item_of, world_at, starts_first, last_out}
use Rattle.rules.proofs.Windows.{inside_of}
use Rattle.rules.proofs.Additions.{Built}
use Rattle.demands.proofs.Carried.{positions-at}
use Rattle.worked.proofs.Agreeing.{Agree}

-- the first rule that has position q
unfoldable pub owner : List Placed → ℕ → Placed
owner [] q = record { rule = record { id = 0; flags = 0; windows = no_windows; tree = empty }; from = 0 }
owner (p ∷ ps) q = cond (leb p.from q && ltb q (p.from + size p.rule)) p (owner ps q)

-- its place
unfoldable pub owner_place : List Placed → ℕ → ℕ
owner_place [] q = 0
owner_place (p ∷ ps) q = cond (leb p.from q && ltb q (p.from + size p.rule)) 0 (suc (owner_place ps q))

-- the automaton of the rules ps with n positions
unfoldable pub computed : List Placed → ℕ → Automaton
computed ps n = record {
  rules = length ps;
  positions = n;
  id = λ a. (at ps a).rule.id;
  once = λ a. is_single (at ps a).rule.flags;
  leftmost = λ a. is_leftmost (at ps a).rule.flags;
  inside = λ a e. inside_of (at ps a).rule.windows e;
  opens = λ x. true;
  takes = λ x q. has (item_of (owner ps q) q) x;
  first = λ g q. first (world_at g) (form_of (owner ps q)) (owner ps q).from q;
  follow = λ g p q. follow (world_at g) (form_of (owner ps q)) (owner ps q).from p q;
  ending = λ g p. last (world_at g) (form_of (owner ps p)) (owner ps p).from p;
  owner = λ p. owner_place ps p;
  late = λ p.
      any inner_gaps (λ g. last (world_at g) (form_of (owner ps p)) (owner ps p).from p) && not (last (world_at unsettled) (form_of (owner ps p)) (owner ps p).from p);
  keeps = λ q. needs_start (owner ps q).rule.flags (owner ps q).rule.windows;
  long = λ q s e. leb (s + (owner ps q).rule.windows.smallest_length) e;
}

-- the owner is a rule that has the position, if there is one
abbrev Owned : List Placed → ℕ → Type 0
Owned ps q = (b : ℕ) × (b < length ps) × Of (at ps b) q × (owner ps q ≡ at ps b) × (owner_place ps q ≡ b)

owner-is : (ps : List Placed) (q a : ℕ) → a < length ps → Of (at ps a) q → Owned ps q
unfolding owner owner_place
owner-is [] q a lt o = absurd (omega arith)
owner-is (p ∷ ps) q a lt o = go (dec_le p.from q) (dec_lt q (p.from + size p.rule)) a lt o (λ b l i. owner-is ps q b l i)
  where
    test : Bool
    test = leb p.from q && ltb q (p.from + size p.rule)

    Later : Type 0
    Later = (b : ℕ) → b < length ps → Of (at ps b) q → Owned ps q

    rest : test ≡ false → (a : ℕ) → a < suc (length ps) → Of (at (p ∷ ps) a) q → Later → ¬ Of p q → Owned (p ∷ ps) q
    rest e zero lt o later out = absurd (out o)
    rest e (suc a) lt o later out =
        let r = later a (omega arith) o in
        (suc r.0, omega (arith, r.1), r.2, ap (λ (b : Bool). cond b p (owner ps q)) e ∙ r.3, ap (λ (b : Bool). cond b 0 (suc (owner_place ps q))) e ∙ ap suc r.4)

    go : Dec (p.from ≤ q) → Dec (q < p.from + size p.rule) → (a : ℕ) → a < suc (length ps) → Of (at (p ∷ ps) a) q → Later → Owned (p ∷ ps) q
    go (yes l) (yes m) a lt o later =
        let here = ap₂ ◌&&◌ (le-leb p.from q l) (lt-ltb q (p.from + size p.rule) m) in
        (0, omega arith, (l, m), ap (λ (b : Bool). cond b p (owner ps q)) here, ap (λ (b : Bool). cond b 0 (suc (owner_place ps q))) here)
    go (yes l) (no m) a lt o later =
        rest (ap₂ ◌&&◌ (le-leb p.from q l) (le-ltb q (p.from + size p.rule) (omega arith))) a lt o later (λ i. m i.1)
    go (no l) d a lt o later =
        rest (ap (λ (b : Bool). b && ltb q (p.from + size p.rule)) (lt-leb p.from q (omega arith))) a lt o later (λ i. l i.0)

module _ (w : Automaton) (ps : List Placed) (e : Encodes w ps) where
  -- every position has its owner, by place
  owned : (q : ℕ) → q < w.positions → Owned ps q
  owned q lt = let c = e.covered q lt in owner-is ps q c.0 c.1 c.2

  in_list : (a : ℕ) → a < w.rules → a < length ps
  in_list a lt = omega (arith, e.rules)

  -- what holds of the rule that has q holds of the owner of q
  by-owner : (q : ℕ) (lt : q < w.positions) (b : Bool) (f : Placed → Bool) → ((a : ℕ) → a < length ps → Of (at ps a) q → b ≡ f (at ps a)) → b ≡ f (owner ps q)
  by-owner q lt b f h = let o = owned q lt in h o.0 o.1 o.2 ∙ ap f (sym o.3)

  pub encoded-agrees : w.positions ≤ max_positions → (n : ℕ) → w.positions ≡ n → Agree w (computed ps n)
  unfolding computed
  encoded-agrees small n k = record {
    rules = e.rules;
    positions = k;
    id = λ a lt. (e.rule a (in_list a lt)).id_is;
    once = λ a lt. (e.rule a (in_list a lt)).once_is;
    inside = λ a i lt. (e.rule a (in_list a lt)).inside_is i;
    first = λ g x q lg byte lt takes.
        starts_first w ps e g x q byte (omega arith) takes
        ∙ by-owner q lt (w.first g q) (λ p. first (world_at g) (form_of p) p.from q) (λ a l o. (e.rule a l).first_is g q lg o)
        ∙ sym (ap (λ (b : Bool). first (world_at g) (form_of (owner ps q)) (owner ps q).from q && b) (or-true (leb inner_gaps g)) ∙ and-true (first (world_at g) (form_of (owner ps q)) (owner ps q).from q));
    follow = λ g o q lg lt. by-owner q lt (w.follow g o q) (λ p. follow (world_at g) (form_of p) p.from o q) (λ a l i. (e.rule a l).follow_is g o q lg i);
    takes = λ x q small lt. by-owner q lt (w.takes x q) (λ p. has (item_of p q) x) (λ a l o. (e.rule a l).takes_is x q small o);
    last = λ g a p lg lt l. ended g a p lg lt l;
    lates = (e.lates_are, λ q l. refl);
  }
    where
      or-true : (b : Bool) → (b || true) ≡ true
      or-true true = refl
      or-true false = refl

      -- a position ends a match of its own rule only
      ended : (g a p : ℕ) → g < last_gaps → a < w.rules → p < w.positions → last_in w g a p ≡ (last (world_at g) (form_of (owner ps p)) (owner ps p).from p && eqb (owner_place ps p) a)
      ended g a p lg lt l = go (ℕ_discrete o.0 a)
        where
          o : Owned ps p
          o = owned p l

          go : Dec (o.0 ≡ a) → last_in w g a p ≡ (last (world_at g) (form_of (owner ps p)) (owner ps p).from p && eqb (owner_place ps p) a)
          go (yes y) =
              (e.rule a (in_list a lt)).last_is g p lg l
              ∙ sym (ap₂ (λ (r : Placed) (b : Bool). last (world_at g) (form_of r) r.from p && b) (o.3 ∙ ap (at ps) y) (eq-eqb (owner_place ps p) a (o.4 ∙ y)) ∙ and-true (last (world_at g) (form_of (at ps a)) (at ps a).from p))
          go (no y) =
              (e.rule a (in_list a lt)).last_is g p lg l
              ∙ last_out (form_of (at ps a)) (at ps a).from (world_at g) p (λ i j. y (e.apart o.0 a p o.1 (in_list a lt) o.2 (i, j)))
              ∙ sym (ap (λ (b : Bool). last (world_at g) (form_of (owner ps p)) (owner ps p).from p && b) (ne_eqb (owner_place ps p) a (λ z. y (sym o.4 ∙ z))) ∙ and-false (last (world_at g) (form_of (owner ps p)) (owner ps p).from p))

-- the automaton of the rules that were accepted
abbrev pub computed_of : List Accepted → Automaton
computed_of rs = computed (by_id rs) (used rs)

pub built-agrees : (t : List ℕ) (rs : List Accepted) → Built t rs → Agree (automaton t) (computed_of rs)
built-agrees t rs b = encoded-agrees (automaton t) (by_id rs) b.encodes (omega (arith, b.passed.positions, positions-at t)) (used rs) (positions-at t ∙ b.positions)
