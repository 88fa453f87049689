-- What one byte of one entry leads to, in words: the key, the record of an entry, whether there is
-- one entry more, and the word of the byte.
use mathlib.Core.Path.{◌≡◌, sym, ap, ap₂, ◌∙◌}
use mathlib.Core.Bool.{Bool, true, false, cond, not, ◌&&◌, ◌||◌, or-true, and-false}
use mathlib.Core.List.{List, [], ◌∷◌}
use Prim.Native.Nat.{ℕ, ◌+◌, ◌/◌, ◌%◌, ◌<◌, ◌≤◌}
use native.Mathlib.Omega.{arith}
use lib.Bits.{bit_and}
use lib.Dec.{eqb, leb, ltb}
use lib.ListN.{length, get_or}
use borrow.Author.Tests.{lt-ltb, le-ltb, le-leb, lt-leb}
use Rattle.sets.specs.Set.{has, any, size_of, full_set, kept_below, intersection_of, complement_of}
use Rattle.kinds.specs.declared.Side.{Side}
use Rattle.kinds.specs.declared.Side.TheVariants.{Other, Word, Newline}
use Rattle.kinds.specs.Side.{side_of, side_word}
use Rattle.table.specs.Layout.{table_words, max_positions, positions_of}
use Rattle.table.specs.Gaps.{between, unsettled}
use Rattle.table.specs.Automaton.{Automaton, automaton}
use Rattle.steps.specs.Step.{set_on, number_on, stepped, ends, ends_newly, late_in, keepers_of, rules_where}
use Rattle.steps.proofs.Steps.{stepped-among}
use Rattle.steps.proofs.TableSets.{set_on_lem, number-on}
use Rattle.stream.specs.Byte.{next_held, next_pending}
use Rattle.second.specs.declared.Key.{Key}
use Rattle.second.specs.Layout.{max_entries, row_at, no_entry}
use Rattle.second.specs.Entries.{first_of, state_at, next_key, reached, startless, record_of, own_of, late_of, tells_start, keeps_start, needs_old}
use Rattle.second.specs.Invariants.{key_in, rests, resting_in, place_in, quiet_at, grows, target_in}

module _ (t : List ℕ) (long : table_words ≤ length t) where
  abbrev w : Automaton
  w = automaton t

  -- ---- the key that a byte leads to

  pub reach-is : (k : Key) (e x : ℕ) (last : Side) → last ≡ side_of x → (among next : List ℕ) → among ≡ kept_below full_set (positions_of t)
      → next ≡ set_on t (intersection_of (stepped w false k.last last max_positions k.live e x) among)
      → (held : List ℕ) → held ≡ next_held w (state_at e k) x → (pending : ℕ) → pending ≡ next_pending w (state_at e k) x
      → record { live = next; held = held; pending = pending; last = last } ≡ reached w e k x
  unfolding automaton
  reach-is k e x last last_is among next among-is next_is held held_is pending pending_is =
      let live = next_is ∙ set_on_lem t (intersection_of (stepped w false k.last last max_positions k.live e x) among) long
      ∙ ap (intersection_of (stepped w false k.last last max_positions k.live e x)) among-is
      ∙ stepped-among w false k.last last (positions_of t) k.live e x
      ∙ ap (λ (y : Side). stepped w false k.last y (positions_of t) k.live e x) last_is in
      λ i. record { live = live i; held = held_is i; pending = pending_is i; last = last_is i }

  module _ (keeping : List ℕ) (keeping-is : keeping ≡ set_on t (keepers_of w)) where
    abbrev keepers : keeping ≡ keepers_of w
    keepers = keeping-is ∙ set_on_lem t (keepers_of w) long

    pub startless-is : (k : Key) (others lives holds : List ℕ) → others ≡ complement_of keeping
        → lives ≡ intersection_of k.live others → holds ≡ intersection_of k.held others
        → record { live = lives; held = holds; pending = k.pending; last = k.last } ≡ startless w k
    startless-is k others lives holds others-are lives-are holds-are =
        let rest = others-are ∙ ap complement_of keepers in
        λ i. record {
          live = (lives-are ∙ ap (intersection_of k.live) rest) i;
          held = (holds-are ∙ ap (intersection_of k.held) rest) i;
          pending = k.pending;
          last = k.last;
        }

    -- whether a rule that needs a start has a part in it
    pub needs-is : (k : Key) (e x : ℕ) (j : Key) → j ≡ reached w e k x → (telling : ℕ) → telling ≡ number_on t (rules_where w w.leftmost)
        → (lives holds : Bool) → lives ≡ any max_positions (λ q. has j.live q && has keeping q) → holds ≡ any max_positions (λ q. has j.held q && has keeping q)
        → (side : Side) → side ≡ side_of x → (late own : ℕ)
        → late ≡ number_on t (rules_where w (ends_newly w (between k.last side) (late_in w k.live) unsettled k.live))
        → own ≡ number_on t (rules_where w (ends w unsettled j.live))
        → ((lives || holds) || (not (eqb (bit_and j.pending telling) 0) || (not (eqb (bit_and late telling) 0) || not (eqb (bit_and own telling) 0)))) ≡ needs_old w e k x
    unfolding needs_old
    needs-is k e x j j-is telling telling-is lives holds lives-are holds-are side side_is late own late_is own_is =
        let tell = telling-is ∙ number-on t (rules_where w w.leftmost) long in
        let lated = late_is ∙ number-on t (rules_where w (ends_newly w (between k.last side) (late_in w k.live) unsettled k.live)) long ∙ ap (late_of w k) side_is in
        let owned = own_is ∙ number-on t (rules_where w (ends w unsettled j.live)) long in
        (λ i. (live_of i || held_of i) || (not (eqb (bit_and j.pending (tell i)) 0) || (not (eqb (bit_and (lated i) (tell i)) 0) || not (eqb (bit_and (owned i) (tell i)) 0))))
        ∙ ap (λ (y : Key). (keeps_start w y.live || keeps_start w y.held) || (tells_start w y.pending || (tells_start w (late_of w k (side_of x)) || tells_start w (own_of w y)))) j-is
      where
        live_of : lives ≡ keeps_start w j.live
        live_of = lives-are ∙ ap (λ (l : List ℕ). any max_positions (λ q. has j.live q && has l q)) keepers

        held_of : holds ≡ keeps_start w j.held
        held_of = holds-are ∙ ap (λ (l : List ℕ). any max_positions (λ q. has j.held q && has l q)) keepers

  -- ---- the record of an entry

  pub record_is : (k : Key) (side own other word newline busy : ℕ) → side ≡ side_word k.last
      → own ≡ number_on t (rules_where w (ends w unsettled k.live))
      → other ≡ number_on t (rules_where w (ends_newly w (between k.last Other) (late_in w k.live) unsettled k.live))
      → word ≡ number_on t (rules_where w (ends_newly w (between k.last Word) (late_in w k.live) unsettled k.live))
      → newline ≡ number_on t (rules_where w (ends_newly w (between k.last Newline) (late_in w k.live) unsettled k.live))
      → busy ≡ size_of k.live
      → get_or k.live 0 0 ∷ get_or k.live 1 0 ∷ get_or k.live 2 0 ∷ get_or k.live 3 0 ∷ get_or k.held 0 0 ∷ get_or k.held 1 0 ∷ get_or k.held 2 0 ∷ get_or k.held 3 0
      ∷ k.pending ∷ side ∷ own ∷ other ∷ word ∷ newline ∷ busy ∷ 0 ∷ [] ≡ record_of w k
  record_is k side own other word newline busy side_is own_is other-is word-is newline-is busy-is =
      λ i. get_or k.live 0 0 ∷ get_or k.live 1 0 ∷ get_or k.live 2 0 ∷ get_or k.live 3 0 ∷ get_or k.held 0 0 ∷ get_or k.held 1 0 ∷ get_or k.held 2 0 ∷ get_or k.held 3 0
      ∷ k.pending ∷ side_is i ∷ (own_is ∙ number-on t (own_of w k) long) i ∷ late Other other other-is i ∷ late Word word word-is i ∷ late Newline newline newline-is i
      ∷ busy-is i ∷ 0 ∷ []
    where
      late : (side : Side) (rules : ℕ) → rules ≡ number_on t (late_of w k side) → rules ≡ late_of w k side
      late side rules e = e ∙ number-on t (late_of w k side) long

-- ---- one byte of one entry

-- the key that a byte leads to, part after part
pub leads-to : (w : Automaton) (e x : ℕ) (k : Key) (at : Key) → at ≡ k → (to : Key) → to ≡ reached w e at x → (rest : Key) → rest ≡ startless w to → rest ≡ next_key w e k x
unfolding next_key
leads-to w e x k at at_is to to_is rest rest-is = rest-is ∙ ap (startless w) (to_is ∙ ap (λ (j : Key). reached w e j x) at_is)

module _ (w : Automaton) (c : List ℕ) (count n : ℕ) where
  pub asked-out : count ≤ n / 256 → grows w c count n ≡ false
  asked-out h = ap (λ (b : Bool). b && not (ltb (place_in w c count n) count || leb max_entries count)) (le-ltb (n / 256) count h)

  module _ (inside : n / 256 < count) where
    open_row : (b : Bool) → (not b) ≡ (ltb (n / 256) count && not b)
    open_row b = ap (λ (a : Bool). a && not b) (sym (lt-ltb (n / 256) count inside))

    pub asked-known : place_in w c count n < count → grows w c count n ≡ false
    asked-known h = ap (λ (b : Bool). ltb (n / 256) count && not (b || leb max_entries count)) (lt-ltb (place_in w c count n) count h) ∙ and-false (ltb (n / 256) count)

    pub asked-full : max_entries ≤ count → grows w c count n ≡ false
    asked-full h =
        ap (λ (b : Bool). ltb (n / 256) count && not (ltb (place_in w c count n) count || b)) (le-leb max_entries count h)
        ∙ ap (λ (b : Bool). ltb (n / 256) count && not b) (or-true (ltb (place_in w c count n) count)) ∙ and-false (ltb (n / 256) count)

    pub asked-new : count ≤ place_in w c count n → count < max_entries → grows w c count n ≡ true
    asked-new h l =
        ap₂ (λ (a b : Bool). a && not b) (lt-ltb (n / 256) count inside)
        (ap₂ (λ (a b : Bool). a || b) (le-ltb (place_in w c count n) count h) (lt-leb max_entries count l))

-- what a test settles
pub number-if-not : (b : Bool) (x y : ℕ) → b ≡ false → y ≡ cond b x y
number-if-not b x y e = sym (ap (λ (d : Bool). cond d x y) e)

pub number-if : (b : Bool) (x y : ℕ) → b ≡ true → x ≡ cond b x y
number-if b x y e = sym (ap (λ (d : Bool). cond d x y) e)

pub words-if-not : (b : Bool) (x y : List ℕ) → b ≡ false → y ≡ cond b x y
words-if-not b x y e = sym (ap (λ (d : Bool). cond d x y) e)

pub words-if : (b : Bool) (x y : List ℕ) → b ≡ true → x ≡ cond b x y
words-if b x y e = sym (ap (λ (d : Bool). cond d x y) e)

-- ---- the word of a byte

module _ (w : Automaton) (c : List ℕ) (count n : ℕ) where
  abbrev old : Bool
  old = needs_old w (n / 256) (key_in c (n / 256)) (n % 256)

  abbrev row : ℕ
  row = row_at (place_in w c count n) + cond (quiet_at c (n / 256) (place_in w c count n) (n % 256)) 0 1

  pub target-old : old ≡ true → no_entry ≡ target_in w c count n
  unfolding target_in
  target-old e = sym (ap (λ (b : Bool). cond b no_entry (cond (ltb (place_in w c count n) count) row no_entry)) e)

  module _ (e : old ≡ false) (next : ℕ) (where-is : next ≡ place_in w c count n) where
    pub target_none : count ≤ next → no_entry ≡ target_in w c count n
    unfolding target_in
    target_none h =
        sym (ap₂ (λ (a b : Bool). cond a no_entry (cond b row no_entry)) e (le-ltb (place_in w c count n) count (omega (arith, where-is))))

    pub target-some : next < count → (b : Bool) → quiet_at c (n / 256) next (n % 256) ≡ b → row_at next + cond b 0 1 ≡ target_in w c count n
    unfolding target_in
    target-some h b q =
        ap (λ (d : Bool). row_at next + cond d 0 1) (sym q)
        ∙ ap (λ (m : ℕ). row_at m + cond (quiet_at c (n / 256) m (n % 256)) 0 1) where-is
        ∙ sym (ap₂ (λ (a b : Bool). cond a no_entry (cond b row no_entry)) e (lt-ltb (place_in w c count n) count (omega (arith, where-is))))

-- ---- the entries at rest

module _ (c : List ℕ) (count : ℕ) (side : Side) where
  pub resting-some : (e : ℕ) → e < count → first_of count (rests c side) ≡ e → row_at e ≡ resting_in c count side
  unfolding resting_in
  resting-some e h is =
      sym (ap (λ (b : Bool). cond b (row_at (first_of count (rests c side))) 0) (lt-ltb (first_of count (rests c side)) count (omega (arith, is))) ∙ ap row_at is)

  pub resting-none : first_of count (rests c side) ≡ count → 0 ≡ resting_in c count side
  unfolding resting_in
  resting-none is = sym (ap (λ (b : Bool). cond b (row_at (first_of count (rests c side))) 0) (le-ltb (first_of count (rests c side)) count (omega (arith, is))))
