-- The automaton of some rules. `Encodes` says that a table's automaton is, rule by rule, the
-- position automaton of the rule's written-out form, with the rules in the order of their ids and
-- each at its own positions, at every gap in the world of that gap. It holds of no rules, and one
-- rule more keeps it: the sets of the old positions are kept among themselves, the new rule's come
-- from its parts, and no set of a form reaches outside the form's positions.
use mathlib.Core.Path.{◌≡◌, refl, sym, ap, ap₂, ◌∙◌, subst}
use mathlib.Core.Bool.{Bool, true, false, ◌&&◌, ◌||◌, or-false, and-false, and-true}
use mathlib.Core.List.Memᴰ
use mathlib.Core.List.{List, [], ◌++◌, map, append-nil, Memᴰ}
use mathlib.Core.Logic.{◌⊎◌, inl, inr}
use Prim.Native.Nat.{ℕ, suc, ◌+◌, ◌-◌, ◌*◌, ◌≤◌, ◌<◌}
use native.Mathlib.Nat.{not-suc-le-zero}
use native.Mathlib.Decide.{dec_lt, ℕ_discrete}
use native.Mathlib.Omega.{arith}
use lib.Dec.{eqb, leb, ltb}
use lib.ListN.{length, get_or, replicate, length-replicate}
use lib.Seq.{get_or-append-add}
use borrow.Author.Tests.{lt-ltb, le-ltb, le-leb, lt-leb, eq-eqb, ne_eqb}
use Rattle.sets.specs.Set.{has, any}
use Rattle.sets.proofs.Laws.{any_at, any-never}
use Rattle.table.specs.Layout.{max_rules, max_positions, bytes, row_has, from_to}
use Rattle.table.specs.Gaps.{first_gaps, follow_gaps, last_gaps, inner_gaps}
use Rattle.table.specs.Automaton.{Automaton, starts, last as last_in}
use Rattle.table.proofs.Over.{from-to-in, from-to-below}
use Rattle.table.proofs.Emptying.{no_rules}
use Rattle.table.proofs.Lates.{LatesAre}
use Rattle.meaning.specs.Form.{Form, eps, take, check, seq, alt, plus, opt, write, positions}
use Rattle.meaning.specs.Count.{nullable}
use Rattle.meaning.specs.Rule.{Assertion, ByteSet, Rule}
use Rattle.meaning.specs.Automaton.{first, last, follow, items}
use Rattle.meaning.proofs.Relations.{Takes}
use Rattle.meaning.proofs.Logic.{false-T}
use Rattle.meaning.proofs.Computed.{first-T, last-T, follow-T, items-agree}
use Rattle.meaning.proofs.Range.{first-inside, last-inside, follow-inside, follow-inside-to}
use Rattle.meaning.proofs.Reports.{Distinct}
use Rattle.automaton.specs.Parts.{world_of, form_parts}
use Rattle.automaton.specs.declared.Parts.{Parts}
use Rattle.rules.specs.Gaps.{holding_at}
use Rattle.rules.specs.Words.{raised, is_single, is_leftmost, needs_start}
use Rattle.rules.specs.Additions.{Accepted, size, rule_of}
use Rattle.rules.proofs.Views.{Extended}
use Rattle.rules.proofs.Windows.{put_in, inside_of}
use Rattle.rules.proofs.Parts.{parts-positions, parts_first, parts_last, parts-follow, parts-takes}
use Rattle.rules.proofs.Sorted.{Placed, at, insert, by_id, by_id-mem, mem-at, laid-mem, place, length-insert, place-within, smaller_before, larger-there, insert-before, insert-there, insert-after}

-- ---- what is said of a table's automaton

-- the written-out form of a rule
abbrev pub form_of : Placed → Form ByteSet Assertion
form_of p = write p.rule.tree

-- q is one of the rule's positions
abbrev pub Of : Placed → ℕ → Type 0
Of p q = (p.from ≤ q) × (q < p.from + size p.rule)

-- the byte set of its position q
abbrev pub item_of : Placed → ℕ → ByteSet
item_of p q = get_or (items (form_of p)) (q - p.from) []

-- the assertions that hold at a gap
abbrev pub world_at : (gap : ℕ) → Assertion → Bool
world_at g = world_of (holding_at g)

-- its positions keep a start, or none does
abbrev pub Keeps : Automaton → Placed → Type 0
Keeps w p = (q : ℕ) → Of p q → w.keeps q ≡ needs_start p.rule.flags p.rule.windows

-- a match that reaches them may be reported once it is as long as the rule wants
abbrev pub Long : Automaton → Placed → Type 0
Long w p = (q : ℕ) → Of p q → (s e : ℕ) → s ≤ e → w.long q s e ≡ leb (s + p.rule.windows.smallest_length) e

-- the rule p stands in place a of the automaton w
pub record Stands (w : Automaton) (a : ℕ) (p : Placed) : Type 0 where
  pub id_is : w.id a ≡ p.rule.id
  pub once_is : w.once a ≡ is_single p.rule.flags
  pub leftmost_is : w.leftmost a ≡ is_leftmost p.rule.flags
  pub keeps_is : Keeps w p
  -- it may report at the end offsets of its windows, and the matches that are long enough
  pub inside_is : (e : ℕ) → w.inside a e ≡ inside_of p.rule.windows e
  pub long_is : Long w p
  -- it takes a byte at least
  pub full : nullable p.rule.tree ≡ false
  pub within : p.from + size p.rule ≤ w.positions
  pub takes_is : (x q : ℕ) → x < bytes → Of p q → w.takes x q ≡ has (item_of p q) x
  -- at each gap
  pub first_is : (g q : ℕ) → g < first_gaps → Of p q → w.first g q ≡ first (world_at g) (form_of p) p.from q
  -- a position of another rule does not come before it
  pub follow_is : (g o q : ℕ) → g < follow_gaps → Of p q → w.follow g o q ≡ follow (world_at g) (form_of p) p.from o q
  -- nor end it
  pub last_is : (g q : ℕ) → g < last_gaps → q < w.positions → last_in w g a q ≡ last (world_at g) (form_of p) p.from q

-- the automaton w is that of the rules ps, by rising id
pub record Encodes (w : Automaton) (ps : List Placed) : Type 0 where
  pub rules : w.rules ≡ length ps
  pub rule : (a : ℕ) → a < length ps → Stands w a (at ps a)
  pub rising : (a b : ℕ) → a < b → b < length ps → (at ps a).rule.id < (at ps b).rule.id
  -- each position is of one rule, and of no other
  pub covered : (q : ℕ) → q < w.positions → (a : ℕ) × (a < length ps) × Of (at ps a) q
  pub apart : (a b q : ℕ) → a < length ps → b < length ps → Of (at ps a) q → Of (at ps b) q → a ≡ b
  -- nothing follows what is no position
  pub rest : (g o q : ℕ) → w.positions ≤ o → w.follow g o q ≡ false
  pub lates_are : LatesAre w
  -- a match can begin inside a stream with the bytes of the positions that are first at a gap
  -- between two bytes
  pub opens_are : (x : ℕ) → x < bytes → w.opens x ≡ any max_positions (λ q. w.takes x q && any inner_gaps (λ g. w.first g q))

-- a position that takes a byte is not kept from being first
pub starts_first : (w : Automaton) (ps : List Placed) → Encodes w ps → (g x q : ℕ) → x < bytes → q < max_positions → w.takes x q ≡ true → starts w g x q ≡ w.first g q
starts_first w ps e g x q small l takes = go (dec_lt g inner_gaps) (w.first g q) refl
  where
    go : Dec (g < inner_gaps) → (b : Bool) → w.first g q ≡ b → (w.first g q && (leb inner_gaps g || w.opens x)) ≡ w.first g q
    go d false f = ap (λ (b : Bool). b && (leb inner_gaps g || w.opens x)) f ∙ sym f
    go (no d) true f = ap (λ (b : Bool). w.first g q && (b || w.opens x)) (le-leb inner_gaps g (omega arith)) ∙ and-true (w.first g q)
    go (yes d) true f =
        let open-x : w.opens x ≡ true =
        e.opens_are x small
        ∙ any_at max_positions (λ q. w.takes x q && any inner_gaps (λ g. w.first g q)) q l (ap₂ (λ (b c : Bool). b && c) takes (any_at inner_gaps (λ g. w.first g q) g d f)) in
        ap₂ (λ (b c : Bool). w.first g q && (b || c)) (lt-leb inner_gaps g d) open-x ∙ and-true (w.first g q)

-- ---- no set of a form reaches outside its positions

module _ (f : Form ByteSet Assertion) (b : ℕ) where
  abbrev pub Out : ℕ → Type 0
  Out q = (b ≤ q) → (q < b + positions f) → ⊥

  pub last_out : (g : Assertion → Bool) (q : ℕ) → Out q → last g f b q ≡ false
  last_out g q n = false-T (last g f b q) (λ h. let i = last-inside g f b q ((last-T g f b q).0 h) in n i.0 i.1)

  follow-out-from : (g : Assertion → Bool) (o q : ℕ) → Out o → follow g f b o q ≡ false
  follow-out-from g o q n = false-T (follow g f b o q) (λ h. let i = follow-inside g f b o q ((follow-T g f b o q).0 h) in n i.0 i.1)

  follow-out-to : (g : Assertion → Bool) (o q : ℕ) → Out q → follow g f b o q ≡ false
  follow-out-to g o q n = false-T (follow g f b o q) (λ h. let i = follow-inside-to g f b o q ((follow-T g f b o q).0 h) in n i.0 i.1)

  first_out : (g : Assertion → Bool) (q : ℕ) → Out q → first g f b q ≡ false
  first_out g q n = false-T (first g f b q) (λ h. let i = first-inside g f b q ((first-T g f b q).0 h) in n i.0 i.1)

-- ---- no rules

pub encodes-none : Encodes no_rules []
unfolding no_rules
encodes-none =
    record {
      rules = refl;
      rule = λ a h. absurd (not-suc-le-zero h);
      rising = λ a b h l. absurd (not-suc-le-zero l);
      covered = λ q h. absurd (not-suc-le-zero h);
      apart = λ a b q h l i j. absurd (not-suc-le-zero h);
      rest = λ g o q h. refl;
      lates_are = λ q h. sym (ap (λ (b : Bool). b && true) (any-never inner_gaps (λ g. false) (λ g l. refl)));
      opens_are = λ x h. sym (any-never max_positions (λ q. false && any inner_gaps (λ g. false)) (λ q l. refl));
    }

-- ---- one rule more

module _ (w v : Automaton) (k : ℕ) (r : Accepted) (parts : ℕ → Parts) (x : Extended w v k r.id r.flags (needs_start r.flags r.windows) parts)
    (is : (g : ℕ) → parts g ≡ form_parts (write r.tree) w.positions (holding_at g)) (room : w.positions + size r ≤ max_positions) where
  abbrev n : ℕ
  n = w.positions

  abbrev f : Form ByteSet Assertion
  f = write r.tree

  abbrev new : Placed
  new = record { rule = r; from = w.positions }

  abbrev keeping : Bool
  keeping = needs_start r.flags r.windows

  more : (parts 0).positions ≡ positions f
  more = ap (λ (p : Parts). p.positions) (is 0) ∙ parts-positions f n (holding_at 0)

  grown : v.positions ≡ n + positions f
  grown = x.positions ∙ ap (λ (m : ℕ). n + m) more

  -- the new rule's sets, below 256
  new-first : (g q : ℕ) → q < max_positions → has (parts g).first q ≡ first (world_at g) f n q
  new-first g q h = ap (λ (p : Parts). has p.first q) (is g) ∙ parts_first f n (holding_at g) q h

  new-last : (g q : ℕ) → q < max_positions → has (parts g).last q ≡ last (world_at g) f n q
  new-last g q h = ap (λ (p : Parts). has p.last q) (is g) ∙ parts_last f n (holding_at g) q h

  new-follow : (g o q : ℕ) → g < follow_gaps → n ≤ o → o < n + positions f → q < max_positions → v.follow g o q ≡ follow (world_at g) f n o q
  new-follow g o q z h l m =
      let e : n + (o - n) ≡ o = omega arith in
      ap (λ (j : ℕ). v.follow g j q) (sym e) ∙ x.follow_new g (o - n) q z (omega (arith, more)) m
      ∙ ap (λ (p : Parts). row_has p.follow ((o - n) * 4) q) (is g) ∙ parts-follow r.tree n (holding_at g) room (o - n) q (omega arith) m
      ∙ ap (λ (j : ℕ). follow (world_at g) f n j q) e

  -- nothing of the new rule comes before its positions, or after them
  low : (q : ℕ) → q < n → (n ≤ q) → (q < n + positions f) → ⊥
  low q h a b = omega arith

  high : (q : ℕ) → n + positions f ≤ q → (n ≤ q) → (q < n + positions f) → ⊥
  high q h a b = omega arith

  -- ---- an old rule

  module _ (p : Placed) (a c : ℕ) (s : Stands w a p) (id-kept : v.id c ≡ w.id a) (once-kept : v.once c ≡ w.once a) (leftmost-kept : v.leftmost c ≡ w.leftmost a)
      (inside-kept : (e : ℕ) → v.inside c e ≡ w.inside a e) (Long-Kept : Keeps v p → Long v p)
      (last-kept : (g q : ℕ) → g < last_gaps → q < n + positions f → last_in v g c q ≡ (ltb q n && last_in w g a q)) where
    -- its positions are old ones
    old : (q : ℕ) → Of p q → q < n
    old q h = omega (arith, s.within, h.1)

    joined : (q : ℕ) → q < n → (b d : Bool) → d ≡ false → ((ltb q n && b) || d) ≡ b
    joined q h b d e = ap₂ (λ (i j : Bool). (i && b) || j) (lt-ltb q n h) e ∙ or-false b

    ends : (q : ℕ) → q < n + positions f → (b : Bool) (g : Assertion → Bool) → (q < n → b ≡ last g (form_of p) p.from q) → (ltb q n && b) ≡ last g (form_of p) p.from q
    ends q h b g e = go (dec_lt q n)
      where
        go : Dec (q < n) → (ltb q n && b) ≡ last g (form_of p) p.from q
        go (yes l) = ap (λ (i : Bool). i && b) (lt-ltb q n l) ∙ e l
        go (no l) =
            ap (λ (i : Bool). i && b) (le-ltb q n (omega arith))
            ∙ sym (last_out (form_of p) p.from g q (λ i j. l (old q (i, j))))

    kept-follow : (g o q : ℕ) → g < follow_gaps → Of p q → v.follow g o q ≡ follow (world_at g) (form_of p) p.from o q
    kept-follow g o q z h = go (dec_lt o n) (dec_lt o (n + positions f))
      where
        below : q < n
        below = old q h

        outside : n ≤ o → follow (world_at g) (form_of p) p.from o q ≡ false
        outside l = follow-out-from (form_of p) p.from (world_at g) o q (λ i j. omega (arith, s.within))

        go : Dec (o < n) → Dec (o < n + positions f) → v.follow g o q ≡ follow (world_at g) (form_of p) p.from o q
        go (yes l) m =
            x.follow_old g o q z l (omega arith) ∙ ap (λ (b : Bool). b && w.follow g o q) (lt-ltb q n below) ∙ s.follow_is g o q z h
        go (no l) (yes m) =
            new-follow g o q z (omega arith) m (omega arith) ∙ follow-out-to f n (world_at g) o q (low q below) ∙ sym (outside (omega arith))
        go (no l) (no m) = x.follow_rest g o q (omega (arith, more)) ∙ s.follow_is g o q z h

    kept-keeps : Keeps v p
    kept-keeps q h =
        let below : q < n = old q h in
        x.keeps_in q (omega arith)
        ∙ joined q below (w.keeps q) (keeping && from_to n (n + (parts 0).positions) q)
        (ap (λ (b : Bool). keeping && b) (from-to-below n (n + (parts 0).positions) q below) ∙ and-false keeping)
        ∙ s.keeps_is q h

    stands-old : Stands v c p
    stands-old =
        record {
          id_is = id-kept ∙ s.id_is;
          once_is = once-kept ∙ s.once_is;
          leftmost_is = leftmost-kept ∙ s.leftmost_is;
          keeps_is = kept-keeps;
          inside_is = λ e. inside-kept e ∙ s.inside_is e;
          long_is = Long-Kept kept-keeps;
          full = s.full;
          within = omega (arith, s.within, grown);
          takes_is = λ y q l h.
              let below : q < n = old q h in
              x.takes y q l (omega arith)
              ∙ joined q below (w.takes y q) (from_to n (n + (parts 0).positions) q && row_has (parts 0).takes ((q - n) * 4) y)
              (ap (λ (b : Bool). b && row_has (parts 0).takes ((q - n) * 4) y) (from-to-below n (n + (parts 0).positions) q below))
              ∙ s.takes_is y q l h;
          first_is = λ g q z h.
              let below : q < n = old q h in
              x.first g q z (omega arith)
              ∙ joined q below (w.first g q) (has (parts g).first q) (new-first g q (omega arith) ∙ first_out f n (world_at g) q (low q below))
              ∙ s.first_is g q z h;
          follow_is = kept-follow;
          last_is = λ g q z h. last-kept g q z (omega (arith, grown)) ∙ ends q (omega (arith, grown)) (last_in w g a q) (world_at g) (λ l. s.last_is g q z l);
        }

  -- ---- the new rule

  module _ (full : nullable r.tree ≡ false) (id-new : v.id k ≡ r.id) (once-new : v.once k ≡ is_single r.flags)
      (leftmost-new : v.leftmost k ≡ is_leftmost r.flags) (inside-new : (e : ℕ) → v.inside k e ≡ inside_of r.windows e) (long-new : Keeps v new → Long v new)
      (last-here : (g q : ℕ) → g < last_gaps → q < n + positions f → last_in v g k q ≡ has (parts g).last q)
      (nothing-after : (g o q : ℕ) → n ≤ o → w.follow g o q ≡ false) where
    -- an old set has none of its positions
    masked : (q : ℕ) → n ≤ q → (b d : Bool) → ((ltb q n && b) || d) ≡ d
    masked q h b d = ap (λ (i : Bool). (i && b) || d) (le-ltb q n h)

    own-follow : (g o q : ℕ) → g < follow_gaps → Of new q → v.follow g o q ≡ follow (world_at g) f n o q
    own-follow g o q z h = go (dec_lt o n) (dec_lt o (n + positions f))
      where
        go : Dec (o < n) → Dec (o < n + positions f) → v.follow g o q ≡ follow (world_at g) f n o q
        go (yes l) m =
            x.follow_old g o q z l (omega arith) ∙ ap (λ (b : Bool). b && w.follow g o q) (le-ltb q n h.0) ∙ sym (follow-out-from f n (world_at g) o q (low o l))
        go (no l) (yes m) = new-follow g o q z (omega arith) m (omega arith)
        go (no l) (no m) =
            x.follow_rest g o q (omega (arith, more)) ∙ nothing-after g o q (omega arith) ∙ sym (follow-out-from f n (world_at g) o q (high o (omega arith)))

    own-keeps : Keeps v new
    own-keeps q h =
        x.keeps_in q (omega arith)
        ∙ masked q h.0 (w.keeps q) (keeping && from_to n (n + (parts 0).positions) q)
        ∙ ap (λ (b : Bool). keeping && b) (from-to-in n (n + (parts 0).positions) q h.0 (omega (arith, more, h.1))) ∙ and-true keeping

    stands-new : Stands v k new
    stands-new =
        record {
          id_is = id-new;
          once_is = once-new;
          leftmost_is = leftmost-new;
          keeps_is = own-keeps;
          inside_is = inside-new;
          long_is = long-new own-keeps;
          full = full;
          within = omega (arith, grown);
          takes_is = λ y q l h.
              x.takes y q l (omega arith)
              ∙ masked q h.0 (w.takes y q) (from_to n (n + (parts 0).positions) q && row_has (parts 0).takes ((q - n) * 4) y)
              ∙ ap (λ (b : Bool). b && row_has (parts 0).takes ((q - n) * 4) y) (from-to-in n (n + (parts 0).positions) q h.0 (omega (arith, more, h.1)))
              ∙ ap (λ (p : Parts). row_has p.takes ((q - n) * 4) y) (is 0) ∙ parts-takes r.tree n (holding_at 0) room (q - n) y (omega arith) l;
          first_is = λ g q z h. x.first g q z (omega arith) ∙ masked q h.0 (w.first g q) (has (parts g).first q) ∙ new-first g q (omega arith);
          follow_is = own-follow;
          last_is = λ g q z h. last-here g q z (omega (arith, grown)) ∙ new-last g q (omega (arith, grown));
        }

  -- ---- all the rules

  module _ (ps : List Placed) (e : Encodes w ps) (here : place new ps ≡ k) (full : nullable r.tree ≡ false)
      (fresh : (a : ℕ) → a < length ps → (at ps a).rule.id ≡ r.id → ⊥)
      (inside-in : (a : ℕ) → a ≤ w.rules → (e : ℕ) → v.inside a e ≡ put_in k (inside_of r.windows) w.inside a e)
      (long-old : (a : ℕ) → a < length ps → Keeps v (at ps a) → Long v (at ps a)) (long-new : Keeps v new → Long v new) where
    abbrev qs : List Placed
    qs = insert new ps

    long : length qs ≡ length ps + 1
    long = length-insert new ps

    k-le : k ≤ length ps
    k-le = subst (λ (j : ℕ). j ≤ length ps) here (place-within new ps)

    -- the rule in each place
    at_before : (a : ℕ) → a < k → at qs a ≡ at ps a
    at_before a h = insert-before new ps a (omega (arith, here))

    at_here : (a : ℕ) → a ≡ k → at qs a ≡ new
    at_here a z = ap (at qs) (z ∙ sym here) ∙ insert-there new ps

    at_after : (a : ℕ) → k < a → at qs a ≡ at ps (a - 1)
    at_after a h = let z : a ≡ suc (a - 1) = omega arith in ap (at qs) z ∙ insert-after new ps (a - 1) (omega (arith, here))

    put-before : {A : Type 0} (y : A) (g : ℕ → A) (a : ℕ) → a < k → put_in k y g a ≡ g a
    put-before y g a h = rw (lt-ltb a k h)

    put-here : {A : Type 0} (y : A) (g : ℕ → A) → put_in k y g k ≡ y
    put-here y g = rw (le-ltb k k (omega arith), eq-eqb k k refl)

    put-after : {A : Type 0} (y : A) (g : ℕ → A) (a : ℕ) → k < a → put_in k y g a ≡ g (a - 1)
    put-after y g a h = rw (le-ltb a k (omega arith), ne_eqb a k (λ z. omega arith))

    -- ---- the positions that end a match, by their owners

    few : length ps < max_rules
    few = omega (arith, x.few, e.rules)

    -- where an old rule's place is now
    abbrev Moved : (a c : ℕ) → Type 0
    Moved a c = ((a < k) × (c ≡ a)) ⊎ ((k ≤ a) × (c ≡ a + 1))

    not_new : (a c : ℕ) → Moved a c → k ≡ c → ⊥
    not_new a c (inl d) y = omega arith
    not_new a c (inr d) y = omega arith

    raised-low : (o : ℕ) → o < k → raised k o ≡ o
    unfolding raised
    raised-low o h = rw (lt-ltb o k h)

    raised-up : (o : ℕ) → k ≤ o → o < max_rules → raised k o ≡ o + 1
    unfolding raised
    raised-up o h l = rw (le-ltb o k h, lt-ltb o max_rules l)

    raised-past : (o : ℕ) → k ≤ o → max_rules ≤ o → raised k o ≡ o
    unfolding raised
    raised-past o h l = rw (le-ltb o k h, le-ltb o max_rules l)

    next-same : (o a : ℕ) → eqb (o + 1) (a + 1) ≡ eqb o a
    next-same o a = go (ℕ_discrete o a)
      where
        go : Dec (o ≡ a) → eqb (o + 1) (a + 1) ≡ eqb o a
        go (yes y) = eq-eqb (o + 1) (a + 1) (omega arith) ∙ sym (eq-eqb o a y)
        go (no y) = ne_eqb (o + 1) (a + 1) (λ z. y (omega arith)) ∙ sym (ne_eqb o a y)

    -- an owner is the same rule, in its place now
    raised_is : (o a c : ℕ) → Moved a c → a < length ps → eqb (raised k o) c ≡ eqb o a
    raised_is o a c d h = go d (dec_lt o k) (dec_lt o max_rules)
      where
        neither : (m : ℕ) → raised k o ≡ m → (m ≡ c → ⊥) → (o ≡ a → ⊥) → eqb (raised k o) c ≡ eqb o a
        neither m y u v = ap (λ (b : ℕ). eqb b c) y ∙ ne_eqb m c u ∙ sym (ne_eqb o a v)

        go : Moved a c → Dec (o < k) → Dec (o < max_rules) → eqb (raised k o) c ≡ eqb o a
        go (inl d) (yes l) m = ap₂ eqb (raised-low o l) d.1
        go (inl d) (no l) (yes m) = neither (o + 1) (raised-up o (omega arith) m) (λ y. omega arith) (λ y. omega arith)
        go (inl d) (no l) (no m) = ap₂ eqb (raised-past o (omega arith) (omega arith)) d.1
        go (inr d) (yes l) m = neither o (raised-low o l) (λ y. omega arith) (λ y. omega arith)
        go (inr d) (no l) (yes m) = ap₂ eqb (raised-up o (omega arith) m) d.1 ∙ next-same o a
        go (inr d) (no l) (no m) = neither o (raised-past o (omega arith) (omega arith)) (λ y. omega (arith, few)) (λ y. omega (arith, few))

    raised-not : (o : ℕ) → eqb (raised k o) k ≡ false
    raised-not o = go (dec_lt o k) (dec_lt o max_rules)
      where
        other : (m : ℕ) → raised k o ≡ m → (m ≡ k → ⊥) → eqb (raised k o) k ≡ false
        other m y u = ap (λ (b : ℕ). eqb b k) y ∙ ne_eqb m k u

        go : Dec (o < k) → Dec (o < max_rules) → eqb (raised k o) k ≡ false
        go (yes l) m = other o (raised-low o l) (λ y. omega arith)
        go (no l) (yes m) = other (o + 1) (raised-up o (omega arith) m) (λ y. omega arith)
        go (no l) (no m) = other o (raised-past o (omega arith) (omega arith)) (λ y. omega (arith, few, k-le))

    new-low : (g q : ℕ) → q < n → has (parts g).last q ≡ false
    new-low g q h = new-last g q (omega arith) ∙ last_out f n (world_at g) q (low q h)

    last-old : (a c : ℕ) → Moved a c → a < length ps → (g q : ℕ) → g < last_gaps → q < n + positions f → last_in v g c q ≡ (ltb q n && last_in w g a q)
    last-old a c d h g q z l = go (dec_lt q n)
      where
        go : Dec (q < n) → last_in v g c q ≡ (ltb q n && last_in w g a q)
        go (yes m) =
            ap₂ (λ (b : Bool) (o : ℕ). b && eqb o c)
            (x.ending g q z (omega arith) ∙ ap₂ (λ (i j : Bool). (i && w.ending g q) || j) (lt-ltb q n m) (new-low g q m) ∙ or-false (w.ending g q)) (x.owner_old q m)
            ∙ ap (λ (b : Bool). w.ending g q && b) (raised_is (w.owner q) a c d h)
            ∙ sym (ap (λ (i : Bool). i && last_in w g a q) (lt-ltb q n m))
        go (no m) =
            ap (λ (o : ℕ). v.ending g q && eqb o c) (x.owner_new q (omega arith) (omega (arith, more)))
            ∙ ap (λ (b : Bool). v.ending g q && b) (ne_eqb k c (not_new a c d)) ∙ and-false (v.ending g q)
            ∙ sym (ap (λ (i : Bool). i && last_in w g a q) (le-ltb q n (omega arith)))

    last-new : (g q : ℕ) → g < last_gaps → q < n + positions f → last_in v g k q ≡ has (parts g).last q
    last-new g q z l = go (dec_lt q n)
      where
        go : Dec (q < n) → last_in v g k q ≡ has (parts g).last q
        go (yes m) =
            ap (λ (o : ℕ). v.ending g q && eqb o k) (x.owner_old q m) ∙ ap (λ (b : Bool). v.ending g q && b) (raised-not (w.owner q)) ∙ and-false (v.ending g q)
            ∙ sym (new-low g q m)
        go (no m) =
            ap₂ (λ (b : Bool) (o : ℕ). b && eqb o k)
            (x.ending g q z (omega arith) ∙ ap (λ (i : Bool). (i && w.ending g q) || has (parts g).last q) (le-ltb q n (omega arith))) (x.owner_new q (omega arith) (omega (arith, more)))
            ∙ ap (λ (b : Bool). has (parts g).last q && b) (eq-eqb k k refl) ∙ and-true (has (parts g).last q)

    -- ---- each rule

    rule-in : (a : ℕ) → a < length ps + 1 → Stands v a (at qs a)
    rule-in a h = go (dec_lt a k) (dec_lt k a)
      where
        go : Dec (a < k) → Dec (k < a) → Stands v a (at qs a)
        go (yes l) m =
            subst (Stands v a) (sym (at_before a l))
            (stands-old (at ps a) a a (e.rule a (omega (arith, k-le)))
            (x.id_in a (omega (arith, e.rules)) ∙ put-before r.id w.id a l)
            (x.once_in a (omega (arith, e.rules)) ∙ put-before (is_single r.flags) w.once a l)
            (x.leftmost_in a (omega (arith, e.rules)) ∙ put-before (is_leftmost r.flags) w.leftmost a l)
            (λ z. inside-in a (omega (arith, e.rules)) z ∙ ap (λ (g : ℕ → Bool). g z) (put-before (inside_of r.windows) w.inside a l))
            (long-old a (omega (arith, k-le)))
            (last-old a a (inl (l, refl)) (omega (arith, k-le))))
        go (no l) (yes m) =
            subst (Stands v a) (sym (at_after a m))
            (stands-old (at ps (a - 1)) (a - 1) a (e.rule (a - 1) (omega arith))
            (x.id_in a (omega (arith, e.rules)) ∙ put-after r.id w.id a m)
            (x.once_in a (omega (arith, e.rules)) ∙ put-after (is_single r.flags) w.once a m)
            (x.leftmost_in a (omega (arith, e.rules)) ∙ put-after (is_leftmost r.flags) w.leftmost a m)
            (λ z. inside-in a (omega (arith, e.rules)) z ∙ ap (λ (g : ℕ → Bool). g z) (put-after (inside_of r.windows) w.inside a m))
            (long-old (a - 1) (omega arith))
            (last-old (a - 1) a (inr (omega arith, omega arith)) (omega arith)))
        go (no l) (no m) =
            let z : k ≡ a = omega arith in
            subst (λ (b : ℕ). Stands v b (at qs b)) z
            (subst (Stands v k) (sym (at_here k refl))
            (stands-new full
            (x.id_in k (omega (arith, e.rules)) ∙ put-here r.id w.id)
            (x.once_in k (omega (arith, e.rules)) ∙ put-here (is_single r.flags) w.once)
            (x.leftmost_in k (omega (arith, e.rules)) ∙ put-here (is_leftmost r.flags) w.leftmost)
            (λ z. inside-in k (omega (arith, e.rules)) z ∙ ap (λ (g : ℕ → Bool). g z) (put-here (inside_of r.windows) w.inside))
            long-new
            last-new
            e.rest))

    -- ids rise
    id-before : (a : ℕ) → a < k → ((at qs a).rule.id ≡ (at ps a).rule.id) × ((at ps a).rule.id < r.id)
    id-before a h = (ap (λ (p : Placed). p.rule.id) (at_before a h), smaller_before new ps a (omega (arith, here)))

    above : (a : ℕ) → k ≤ a → a < length ps → r.id < (at ps a).rule.id
    above a h l = go (dec_lt k a) (dec_lt r.id (at ps a).rule.id)
      where
        least : r.id ≤ (at ps k).rule.id
        least = subst (λ (j : ℕ). r.id ≤ (at ps j).rule.id) here (larger-there new ps (omega (arith, here)))

        go : Dec (k < a) → Dec (r.id < (at ps a).rule.id) → r.id < (at ps a).rule.id
        go c (yes d) = d
        go (yes c) (no d) = omega (arith, least, e.rising k a c l)
        go (no c) (no d) =
            let z : k ≡ a = omega arith in
            absurd (fresh a l (omega (arith, subst (λ (j : ℕ). r.id ≤ (at ps j).rule.id) z least)))

    id-after : (a : ℕ) → k < a → a < length ps + 1 → ((at qs a).rule.id ≡ (at ps (a - 1)).rule.id) × (r.id < (at ps (a - 1)).rule.id)
    id-after a h l = (ap (λ (p : Placed). p.rule.id) (at_after a h), above (a - 1) (omega arith) (omega arith))

    id-here : (a : ℕ) → a ≡ k → (at qs a).rule.id ≡ r.id
    id-here a z = ap (λ (p : Placed). p.rule.id) (at_here a z)

    rises : (a b : ℕ) → a < b → b < length ps + 1 → (at qs a).rule.id < (at qs b).rule.id
    rises a b h l = go (dec_lt b k) (dec_lt k b) (dec_lt a k) (dec_lt k a)
      where
        go : Dec (b < k) → Dec (k < b) → Dec (a < k) → Dec (k < a) → (at qs a).rule.id < (at qs b).rule.id
        go (yes c) d i j = omega (arith, (id-before a (omega arith)).0, (id-before b c).0, e.rising a b h (omega (arith, k-le)))
        go (no c) (no d) i j = omega (arith, id-before a (omega arith), id-here b (omega arith))
        go (no c) (yes d) (yes i) j = omega (arith, id-before a i, id-after b d l)
        go (no c) (yes d) (no i) (no j) = omega (arith, id-here a (omega arith), id-after b d l)
        go (no c) (yes d) (no i) (yes j) = omega (arith, (id-after a j (omega arith)).0, (id-after b d l).0, e.rising (a - 1) (b - 1) (omega arith) (omega arith))

    -- old positions are of old rules, and new ones of the new rule
    old-place : (a q : ℕ) → a < length ps + 1 → q < n → Of (at qs a) q
        → (c : ℕ) × (c < length ps) × Of (at ps c) q × (((a < k) × (c ≡ a)) ⊎ ((k < a) × (suc c ≡ a)))
    old-place a q h l o = go (dec_lt a k) (dec_lt k a)
      where
        go : Dec (a < k) → Dec (k < a) → (c : ℕ) × (c < length ps) × Of (at ps c) q × (((a < k) × (c ≡ a)) ⊎ ((k < a) × (suc c ≡ a)))
        go (yes c) d = (a, omega (arith, k-le), subst (λ (p : Placed). Of p q) (at_before a c) o, inl (c, refl))
        go (no c) (yes d) = (a - 1, omega arith, subst (λ (p : Placed). Of p q) (at_after a d) o, inr (d, omega arith))
        go (no c) (no d) = let i = subst (λ (p : Placed). Of p q) (at_here a (omega arith)) o in absurd (omega (arith, i.0))

    new-place : (a q : ℕ) → a < length ps + 1 → n ≤ q → Of (at qs a) q → a ≡ k
    new-place a q h l o = go (dec_lt a k) (dec_lt k a)
      where
        go : Dec (a < k) → Dec (k < a) → a ≡ k
        go (yes c) d =
            let i = subst (λ (p : Placed). Of p q) (at_before a c) o in
            absurd (omega (arith, (e.rule a (omega (arith, k-le))).within, i.1))
        go (no c) (yes d) =
            let i = subst (λ (p : Placed). Of p q) (at_after a d) o in
            absurd (omega (arith, (e.rule (a - 1) (omega arith)).within, i.1))
        go (no c) (no d) = omega arith

    one_place : (a b q : ℕ) → a < length ps + 1 → b < length ps + 1 → Of (at qs a) q → Of (at qs b) q → a ≡ b
    one_place a b q h l i j = go (dec_lt q n)
      where
        go : Dec (q < n) → a ≡ b
        go (no c) = new-place a q h (omega arith) i ∙ sym (new-place b q l (omega arith) j)
        go (yes c) =
            let s = old-place a q h c i in
            let t = old-place b q l c j in
            same s.0 t.0 s.3 t.3 (e.apart s.0 t.0 q s.1 t.1 s.2 t.2)
          where
            same : (c d : ℕ) → (((a < k) × (c ≡ a)) ⊎ ((k < a) × (suc c ≡ a))) → (((b < k) × (d ≡ b)) ⊎ ((k < b) × (suc d ≡ b))) → c ≡ d → a ≡ b
            same c d (inl y) (inl z) g = omega arith
            same c d (inl y) (inr z) g = absurd (omega arith)
            same c d (inr y) (inl z) g = absurd (omega arith)
            same c d (inr y) (inr z) g = omega arith

    some-place : (q : ℕ) → q < n + positions f → (a : ℕ) × (a < length ps + 1) × Of (at qs a) q
    some-place q h = go (dec_lt q n)
      where
        go : Dec (q < n) → (a : ℕ) × (a < length ps + 1) × Of (at qs a) q
        go (no c) = (k, omega (arith, k-le), subst (λ (p : Placed). Of p q) (sym (at_here k refl)) (omega arith, h))
        go (yes c) = let s = e.covered q c in found s.0 s.1 s.2 (dec_lt s.0 k)
          where
            found : (a : ℕ) → a < length ps → Of (at ps a) q → Dec (a < k) → (a : ℕ) × (a < length ps + 1) × Of (at qs a) q
            found a i o (yes d) = (a, omega arith, subst (λ (p : Placed). Of p q) (sym (at_before a d)) o)
            found a i o (no d) =
                (suc a, omega arith, subst (λ (p : Placed). Of p q) (sym (insert-after new ps a (omega (arith, here)))) o)

    nothing-past : (g o q : ℕ) → n + positions f ≤ o → v.follow g o q ≡ false
    nothing-past g o q h = x.follow_rest g o q (omega (arith, more)) ∙ e.rest g o q (omega arith)

    pub encodes_more : Encodes v (insert (record { rule = r; from = w.positions }) ps)
    encodes_more =
        record {
          rules = x.rules ∙ ap (λ (m : ℕ). m + 1) e.rules ∙ sym long;
          rule = λ a h. rule-in a (omega (arith, long));
          rising = λ a b h l. rises a b h (omega (arith, long));
          covered = λ q h. let s = some-place q (omega (arith, grown)) in (s.0, omega (arith, long, s.1), s.2);
          apart = λ a b q h l i j. one_place a b q (omega (arith, long)) (omega (arith, long)) i j;
          rest = λ g o q h. nothing-past g o q (omega (arith, grown));
          lates_are = x.lates;
          opens_are = x.opens;
        }

-- ---- as the theory of the position automaton wants it

-- a form's positions take the byte sets of its items
pub takes_same : (f : Form ByteSet Assertion) (b : ℕ) (g h : ℕ → ByteSet) → ((q : ℕ) → b ≤ q → q < b + positions f → g q ≡ h q) → Takes g f b → Takes h f b
unfolding Takes positions
takes_same eps b g h e t = tt
takes_same (take c) b g h e t = sym (e b (omega arith) (omega arith)) ∙ t
takes_same (check a) b g h e t = tt
takes_same (seq x y) b g h e t =
    (takes_same x b g h (λ q i j. e q i (omega arith)) t.0, takes_same y (b + positions x) g h (λ q i j. e q (omega arith) (omega arith)) t.1)
takes_same (alt x y) b g h e t =
    (takes_same x b g h (λ q i j. e q i (omega arith)) t.0, takes_same y (b + positions x) g h (λ q i j. e q (omega arith) (omega arith)) t.1)
takes_same (plus x) b g h e t = takes_same x b g h e t
takes_same (opt x) b g h e t = takes_same x b g h e t

pub items-taken : (f : Form ByteSet Assertion) (b : ℕ) → Takes (λ q. get_or (items f) (q - b) []) f b
items-taken f b =
    takes_same f b (λ q. get_or (before ++ (items f ++ [])) q []) (λ q. get_or (items f) (q - b) []) same
    (subst (Takes (λ q. get_or (before ++ (items f ++ [])) q []) f) (length-replicate b []) (items-agree [] f before []))
  where
    before : List ByteSet
    before = replicate b []

    same : (q : ℕ) → b ≤ q → q < b + positions f → get_or (before ++ (items f ++ [])) q [] ≡ get_or (items f) (q - b) []
    same q h l =
        let e : q ≡ length before + (q - b) = omega (arith, length-replicate {A = ByteSet} b []) in
        ap (λ (k : ℕ). get_or (before ++ (items f ++ [])) k []) e ∙ get_or-append-add before (items f ++ []) (q - b) []
        ∙ ap (λ (l : List ByteSet). get_or l (q - b) []) (append-nil (items f))

-- ids tell the rules apart
pub distinct : (w : Automaton) (rs : List Accepted) → Encodes w (by_id rs) → Distinct (map rule_of rs)
distinct w rs e r s m n h =
    let x = Memᴰ.of_map rule_of rs m in
    let y = Memᴰ.of_map rule_of rs n in
    let p = placed_at x.0 x.1 in
    let q = placed_at y.0 y.1 in
    let same : p.0 ≡ q.0 = one p.0 q.0 p.1 q.1 (ap (λ (a : Accepted). a.id) p.2 ∙ ap (λ (z : Rule). z.id) x.2 ∙ h ∙ sym (ap (λ (z : Rule). z.id) y.2) ∙ sym (ap (λ (a : Accepted). a.id) q.2)) in
    sym x.2 ∙ ap rule_of (sym p.2 ∙ ap (λ (a : ℕ). (at (by_id rs) a).rule) same ∙ q.2) ∙ y.2
  where
    placed_at : (a : Accepted) → Memᴰ a rs → (k : ℕ) × (k < length (by_id rs)) × ((at (by_id rs) k).rule ≡ a)
    placed_at a m =
        let l = laid-mem 0 rs m in
        let k = mem-at (by_id rs) (by_id-mem rs l.1) in
        (k.0, k.1, ap (λ (p : Placed). p.rule) k.2)

    one : (a b : ℕ) → a < length (by_id rs) → b < length (by_id rs) → (at (by_id rs) a).rule.id ≡ (at (by_id rs) b).rule.id → a ≡ b
    one a b i j z = go (dec_lt a b) (dec_lt b a)
      where
        go : Dec (a < b) → Dec (b < a) → a ≡ b
        go (yes c) d = absurd (omega (arith, e.rising a b c j))
        go (no c) (yes d) = absurd (omega (arith, e.rising b a d i))
        go (no c) (no d) = omega arith
