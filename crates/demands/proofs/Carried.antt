-- The table that additions built, as the proofs about streams take it: an automaton that carries
-- rules, each in its place by rising id, with its positions from its own first one on. What rules
-- proves of the built words (`Built`) gives it, each set through the relation that it computes.
-- Assumes nothing.
use mathlib.Core.Path.{◌≡◌, refl, sym, subst, ap, ap₂, ◌∙◌}
use mathlib.Core.Logic.{◌↔◌}
use mathlib.Core.Bool.{Bool, true, false, true≢false, not, ◌&&◌, ◌||◌, and-true, and-false, or-true}
use mathlib.Core.List.Memᴰ
use mathlib.Core.List.{List, [], ◌∷◌, map, Memᴰ}
use Prim.Native.Nat.{ℕ, ◌+◌, ◌^◌, ◌≤◌, ◌<◌}
use native.Mathlib.Decide.{dec_lt}
use native.Mathlib.Omega.{arith}
use lib.Dec.{T, eqb, leb, ltb, leb→le, le→leb}
use lib.ListN.{length, get_or}
use borrow.Author.Tests.{eqb-true, lt-ltb, le-ltb}
use Rattle.sets.specs.Set.{has, any}
use Rattle.sets.proofs.Laws.{any-never, any_none}
use Rattle.table.specs.Layout.{max_rules, max_positions, rules_of, positions_of, lengths_of, shortest_at}
use Rattle.table.specs.Gaps.{first_gaps, follow_gaps, last_gaps}
use Rattle.table.specs.Automaton.{Automaton, automaton, single, starts, last as last_in}
use Rattle.table.proofs.Lates.{LatesAre}
use Rattle.stream.specs.Valid.{needs_starts}
use Rattle.meaning.specs.Form.{Form, write, positions}
use Rattle.meaning.specs.Rule.{Rule, ByteSet, Assertion}
use Rattle.meaning.specs.Automaton.{first, last, follow}
use Rattle.meaning.proofs.Relations.{First, Last, Follow, Takes}
use Rattle.meaning.proofs.Logic.{true-T, and_T}
use Rattle.meaning.proofs.Offsets.{AtOffset}
use Rattle.meaning.proofs.Computed.{first-T, last-T, follow-T}
use Rattle.rules.specs.Additions.{Accepted, rule_of, size, used}
use Rattle.rules.proofs.Sorted.{Placed, at, laid, by_id, by_id-rule, by_id-mem, mem-at, laid-mem}
use Rattle.rules.proofs.Additions.{Built}
use Rattle.rules.proofs.Windows.{inside_of, inside-within}
use Rattle.demands.specs.Demands.{needs_start}
use Rattle.rules.proofs.Encodes.{Encodes, Of, item_of, world_at, takes_same, items-taken, starts_first}

-- the written-out form of a rule
abbrev pub form_of : Rule → Form ByteSet Assertion
form_of r = write r.tree

-- rule a's positions: those from `from` on, as many as its form has
abbrev pub Within : (from : ℕ) → Rule → ℕ → Type 0
Within from r q = (from ≤ q) × (q < from + positions (form_of r))

-- place a of the table holds the rule `rule a`, whose positions are numbered from `from a` on;
-- position q takes the bytes of the set `tab q`
pub record Carries (w : Automaton) (rule : ℕ → Rule) (from : ℕ → ℕ) (tab : ℕ → ByteSet) : Type 0 where
  pub few_rules : w.rules ≤ max_rules
  pub few_positions : w.positions ≤ max_positions
  pub id_is : (a : ℕ) → a < w.rules → w.id a ≡ (rule a).id
  pub single_is : (a : ℕ) → a < w.rules → single w a ≡ (rule a).single
  pub leftmost_is : (a : ℕ) → a < w.rules → w.leftmost a ≡ (rule a).starts
  pub keeps_is : (a : ℕ) → a < w.rules → (q : ℕ) → Within (from a) (rule a) q → w.keeps q ≡ needs_start (rule a)
  pub inside_is : (a : ℕ) → a < w.rules → (e : ℕ) → e < 2 ^ 64 → T (w.inside a e) ↔ AtOffset (rule a).windows e
  -- a match that has reached a position counts once it is as long as its rule wants; every match does
  -- where no start is kept
  pub long_is : (a : ℕ) → a < w.rules → (q : ℕ) → Within (from a) (rule a) q → (s e : ℕ) → s ≤ e
      → w.long q s e ≡ leb (s + (rule a).windows.smallest_length) e
  pub free_is : (q s e : ℕ) → w.keeps q ≡ false → w.long q s e ≡ true
  pub rising : (a b : ℕ) → a < b → b < w.rules → (rule a).id < (rule b).id
  pub inside : (a : ℕ) → a < w.rules → from a + positions (form_of (rule a)) ≤ w.positions
  pub covered : (q : ℕ) → q < w.positions → (a : ℕ) × (a < w.rules) × Within (from a) (rule a) q
  pub apart : (a b q : ℕ) → a < w.rules → b < w.rules → Within (from a) (rule a) q → Within (from b) (rule b) q → a ≡ b
  pub takes : (a : ℕ) → a < w.rules → Takes tab (form_of (rule a)) (from a)
  pub takes_is : (q x : ℕ) → q < w.positions → x < 256 → T (w.takes x q) ↔ T (has (tab q) x)
  -- at each gap, by its number
  pub first_is : (g a x q : ℕ) → g < first_gaps → a < w.rules → x < 256 → Within (from a) (rule a) q → T (w.takes x q)
      → T (starts w g x q) ↔ First (world_at g) (form_of (rule a)) (from a) q
  pub follow_is : (g a p q : ℕ) → g < follow_gaps → a < w.rules → Within (from a) (rule a) q → T (w.follow g p q) ↔ Follow (world_at g) (form_of (rule a)) (from a) p q
  pub lates_are : LatesAre w
  pub last_is : (g a p : ℕ) → g < last_gaps → a < w.rules → p < w.positions → T (last_in w g a p) ↔ Last (world_at g) (form_of (rule a)) (from a) p

-- ---- what additions built

-- in the order of their addition the rules' positions stand one after the other from b on
unfoldable pub Based : Automaton → (ℕ → Rule) → (ℕ → ℕ) → List Rule → ℕ → Type 0
Based w rule from [] b = Unit {0}
Based w rule from (r ∷ rules) b = ((a : ℕ) × (a < w.rules) × (rule a ≡ r) × (from a ≡ b)) × Based w rule from rules (b + positions (form_of r))

-- the positions of some rules
unfoldable pub positions_in : List Rule → ℕ
positions_in [] = 0
positions_in (r ∷ rules) = positions (form_of r) + positions_in rules

pub record Carried (t : List ℕ) (rules : List Rule) : Type 0 where
  pub rule : ℕ → Rule
  pub from : ℕ → ℕ
  pub tab : ℕ → ByteSet
  pub carries : Carries (automaton t) rule from tab
  pub listed : (r : Rule) → Memᴰ r rules ↔ ((a : ℕ) × (a < (automaton t).rules) × (r ≡ rule a))
  pub based : Based (automaton t) rule from rules 0
  pub counted : (automaton t).positions ≡ positions_in rules

pub rules-at : (t : List ℕ) → (automaton t).rules ≡ rules_of t
unfolding automaton
rules-at t = refl

pub positions-at : (t : List ℕ) → (automaton t).positions ≡ positions_of t
unfolding automaton
positions-at t = refl

-- where a position keeps no start, every match that reaches it counts
pub free-long : (t : List ℕ) (q s e : ℕ) → (automaton t).keeps q ≡ false → (automaton t).long q s e ≡ true
unfolding automaton
free-long t q s e none =
    ap (λ (b : Bool). (eqb (lengths_of t) 0 || not b) || leb (s + get_or t (shortest_at q) 0) e) none
    ∙ ap (λ (b : Bool). b || leb (s + get_or t (shortest_at q) 0) e) (or-true (eqb (lengths_of t) 0))

-- a computed set is its relation
pub by-set : {P : Type 0} (b c : Bool) → b ≡ c → T c ↔ P → T b ↔ P
by-set b c e i = (λ h. i.0 (subst T e h), λ h. subst T (sym e) (i.1 h))

same-positions : (rs : List Accepted) → positions_in (map rule_of rs) ≡ used rs
unfolding positions_in used
same-positions [] = refl
same-positions (r ∷ rs) = ap (λ (n : ℕ). size r + n) (same-positions rs)

module _ (t : List ℕ) (rs : List Accepted) (b : Built t rs) where
  abbrev w : Automaton
  w = automaton t

  abbrev ps : List Placed
  ps = by_id rs

  e : Encodes (automaton t) (by_id rs)
  e = b.encodes

  in_list : (a : ℕ) → a < w.rules → a < length ps
  in_list a lt = subst (λ (n : ℕ). a < n) e.rules lt

  in_table : (a : ℕ) → a < length ps → a < w.rules
  in_table a lt = subst (λ (n : ℕ). a < n) (sym e.rules) lt

  -- the set of a position: that of the rule which has it
  set_at : (q : ℕ) → Dec (q < w.positions) → ByteSet
  set_at q (yes lt) = item_of (at ps (e.covered q lt).0) q
  set_at q (no ge) = []

  tab : ℕ → ByteSet
  tab q = set_at q (dec_lt q w.positions)

  tab-is : (a q : ℕ) → a < length ps → Of (at ps a) q → tab q ≡ item_of (at ps a) q
  unfolding set_at tab
  tab-is a q lt o = go (dec_lt q w.positions)
    where
      go : (d : Dec (q < w.positions)) → set_at q d ≡ item_of (at ps a) q
      go (yes l) = let c = e.covered q l in ap (λ (i : ℕ). item_of (at ps i) q) (e.apart c.0 a q c.1 lt c.2 o)
      go (no g) = absurd (omega (arith, (e.rule a lt).within, o.1))

  abbrev rule : ℕ → Rule
  rule a = rule_of (at ps a).rule

  abbrev from : ℕ → ℕ
  from a = (at ps a).from

  b-inside : (a : ℕ) → a < w.rules → (i : ℕ) → w.inside a i ≡ inside_of (at ps a).rule.windows i
  b-inside a lt i = (e.rule a (in_list a lt)).inside_is i

  carries : Carries w rule from tab
  carries = record {
    few_rules = omega (arith, b.passed.rules, rules-at t);
    few_positions = omega (arith, b.passed.positions, positions-at t);
    id_is = λ a lt. (e.rule a (in_list a lt)).id_is;
    single_is = λ a lt. (e.rule a (in_list a lt)).once_is;
    leftmost_is = λ a lt. (e.rule a (in_list a lt)).leftmost_is;
    keeps_is = λ a lt q i. (e.rule a (in_list a lt)).keeps_is q i;
    inside_is = λ a lt e small.
        let r = (at ps a).rule in
        let lo : ℕ = r.windows.smallest_end in
        let hi : ℕ = r.windows.largest_end in
        by-set (w.inside a e) (leb lo e && leb e hi) (b-inside a lt e ∙ inside-within r.windows e small) (
          λ h. let x = (and_T (leb lo e) (leb e hi)).0 h in (leb→le lo e x.0, leb→le e hi x.1),
          λ h. (and_T (leb lo e) (leb e hi)).1 (le→leb lo e h.0, le→leb e hi h.1),
        );
    long_is = λ a lt q i. (e.rule a (in_list a lt)).long_is q i;
    free_is = free-long t;
    rising = λ a c l m. e.rising a c l (in_list c m);
    inside = λ a lt. (e.rule a (in_list a lt)).within;
    covered = λ q l. let c = e.covered q l in (c.0, in_table c.0 c.1, c.2);
    apart = λ a c q la lc i j. e.apart a c q (in_list a la) (in_list c lc) i j;
    takes = λ a lt. takes_same (form_of (rule a)) (from a) (item_of (at ps a)) tab (λ q i j. sym (tab-is a q (in_list a lt) (i, j))) (items-taken (form_of (rule a)) (from a));
    takes_is = λ q x l small. let c = e.covered q l in
        by-set (w.takes x q) (has (tab q) x)
        ((e.rule c.0 c.1).takes_is x q small c.2 ∙ ap (λ (s : ByteSet). has s x) (sym (tab-is c.0 q c.1 c.2))) (λ h. h, λ h. h);
    first_is = λ g a x q lg lt small i takes.
        by-set (starts w g x q) (first (world_at g) (form_of (rule a)) (from a) q)
        (starts_first w ps e g x q small (omega (arith, i.1, (e.rule a (in_list a lt)).within, b.passed.positions, positions-at t)) (true-T (w.takes x q) takes) ∙ (e.rule a (in_list a lt)).first_is g q lg i)
        (first-T (world_at g) (form_of (rule a)) (from a) q);
    follow_is = λ g a p q lg lt i. by-set (w.follow g p q) (follow (world_at g) (form_of (rule a)) (from a) p q) ((e.rule a (in_list a lt)).follow_is g p q lg i) (follow-T (world_at g) (form_of (rule a)) (from a) p q);
    lates_are = e.lates_are;
    last_is = λ g a p lg lt l. by-set (last_in w g a p) (last (world_at g) (form_of (rule a)) (from a) p) ((e.rule a (in_list a lt)).last_is g p lg l) (last-T (world_at g) (form_of (rule a)) (from a) p);
  }

  listed : (r : Rule) → Memᴰ r (map rule_of rs) ↔ ((a : ℕ) × (a < w.rules) × (r ≡ rule a))
  listed r = (
    λ m.
        let x = Memᴰ.of_map rule_of rs m in
        let l = laid-mem 0 rs x.1 in
        let k = mem-at ps (by_id-mem rs l.1) in
        (k.0, in_table k.0 k.1, sym x.2 ∙ ap (λ (p : Placed). rule_of p.rule) (sym k.2)),
    λ h.
        Memᴰ.cast h.2 (Memᴰ.map rule_of (by_id-rule rs h.0 (in_list h.0 h.1))),
  )

  laid-based : (xs : List Accepted) (m : ℕ) → ((q : Placed) → Memᴰ q (laid m xs) → Memᴰ q ps) → Based w rule from (map rule_of xs) m
  unfolding Based laid
  laid-based [] m h = tt
  laid-based (x ∷ xs) m h =
      let k = mem-at ps (h (record { rule = x; from = m }) (Memᴰ.head refl)) in (
        (k.0, in_table k.0 k.1, ap (λ (p : Placed). rule_of p.rule) k.2, ap (λ (p : Placed). p.from) k.2),
        laid-based xs (m + size x) (λ q n. h q (Memᴰ.tail n)),
      )

  pub carried : Carried t (map rule_of rs)
  carried = record {
    rule = rule;
    from = from;
    tab = tab;
    carries = carries;
    listed = listed;
    based = laid-based rs 0 (λ q m. by_id-mem rs m);
    counted = positions-at t ∙ b.positions ∙ sym (same-positions rs);
  }

-- ---- which tables need a start

unflagged : (b c : Bool) → (b || c) ≡ false → b ≡ false
unflagged true c h = absurd (true≢false h)
unflagged false c h = refl

module _ (w : Automaton) (rule : ℕ → Rule) (from : ℕ → ℕ) (tab : ℕ → ByteSet) (enc : Carries w rule from tab) where
  -- those with a rule that needs one
  pub none_needed : ((a : ℕ) → a < w.rules → needs_start (rule a) ≡ false) → needs_starts w ≡ false
  unfolding needs_starts
  none_needed none =
      ap₂ (λ (b c : Bool). b || c)
      (any-never max_positions (λ q. w.keeps q && ltb q w.positions) (λ q l. keeper q (dec_lt q w.positions)))
      (any-never max_rules (λ a. ltb a w.rules && w.leftmost a) (λ a l. rule-at a (dec_lt a w.rules)))
    where
      keeper : (q : ℕ) → Dec (q < w.positions) → (w.keeps q && ltb q w.positions) ≡ false
      keeper q (yes l) = let c = enc.covered q l in ap (λ (b : Bool). b && ltb q w.positions) (enc.keeps_is c.0 c.1 q c.2 ∙ none c.0 c.1)
      keeper q (no l) = ap (λ (b : Bool). w.keeps q && b) (le-ltb q w.positions (omega arith)) ∙ and-false (w.keeps q)

      rule-at : (a : ℕ) → Dec (a < w.rules) → (ltb a w.rules && w.leftmost a) ≡ false
      rule-at a (yes l) = ap (λ (b : Bool). ltb a w.rules && b) (enc.leftmost_is a l ∙ unflagged (rule a).starts (not (eqb (rule a).windows.smallest_length 0)) (none a l)) ∙ and-false (ltb a w.rules)
      rule-at a (no l) = ap (λ (b : Bool). b && w.leftmost a) (le-ltb a w.rules (omega arith))

  -- so none of their rules has a position and a smallest length
  pub none-long : needs_starts w ≡ false → (a : ℕ) → a < w.rules → (q : ℕ) → Within (from a) (rule a) q → (rule a).windows.smallest_length ≡ 0
  unfolding needs_starts
  none-long e a l q i =
      let n : ℕ = (rule a).windows.smallest_length in
      let inside : q < w.positions = omega (arith, i.1, enc.inside a l) in
      let off = any_none max_positions (λ q. w.keeps q && ltb q w.positions) (unflagged (any max_positions (λ q. w.keeps q && ltb q w.positions)) (any max_rules (λ a. ltb a w.rules && w.leftmost a)) e) q (omega (arith, enc.few_positions)) in
      let none : needs_start (rule a) ≡ false = sym (enc.keeps_is a l q i) ∙ sym (and-true (w.keeps q)) ∙ ap (λ (b : Bool). w.keeps q && b) (sym (lt-ltb q w.positions inside)) ∙ off in
      eqb-true n 0 (unlong (rule a).starts (eqb n 0) none)
    where
      unlong : (b c : Bool) → (b || not c) ≡ false → c ≡ true
      unlong true c h = absurd (true≢false h)
      unlong false true h = refl
      unlong false false h = absurd (true≢false h)

  pub none-reports : needs_starts w ≡ false → (a : ℕ) → a < w.rules → (rule a).starts ≡ false
  unfolding needs_starts
  none-reports e a l =
      let off = any_none max_rules (λ a. ltb a w.rules && w.leftmost a) (right (any max_positions (λ q. w.keeps q && ltb q w.positions)) (any max_rules (λ a. ltb a w.rules && w.leftmost a)) e) a (omega (arith, enc.few_rules)) in
      sym (enc.leftmost_is a l) ∙ sym (ap (λ (b : Bool). b && w.leftmost a) (lt-ltb a w.rules l)) ∙ off
    where
      right : (b c : Bool) → (b || c) ≡ false → c ≡ false
      right true c h = absurd (true≢false h)
      right false c h = h
