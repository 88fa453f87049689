-- When a call is accepted. Each test of a state is read off words, the number of a call is settled
-- by the first test that fails, and number 0 says that all of them hold (`Accepted`).
use mathlib.Core.Path.{◌≡◌, refl, sym, ap, ap₂, ◌∙◌}
use mathlib.Core.Bool.{Bool, true, false, true≢false, cond, not, ◌&&◌, ◌||◌, and-false, and_assoc, and-eq-true_iff}
use mathlib.Core.List.{List}
use Prim.Native.Nat.{ℕ, zero, suc, ◌+◌, ◌-◌, ◌*◌, ◌/◌, ◌^◌, ◌<◌, ◌≤◌}
use native.Mathlib.Nat.{lt_of_le_of_lt, div-le_self}
use native.Mathlib.Omega.{arith}
use lib.Bits.{bit_and, and_le_l}
use lib.Dec.{eqb, leb, ltb}
use borrow.Author.Tests.{not-true, eq-eqb, ne_eqb, lt-ltb, le-ltb, ltb-false, le-leb, leb-true, eqb-true}
use Rattle.sets.specs.Set.{on, has, set_of, word_of, any, full_set, union_of, intersection_of, complement_of, kept_below, is_empty}
use Rattle.sets.proofs.Bits.{on-zero, on-shr, on-bound, on-word_of, word_of-lt, off_zero}
use Rattle.sets.proofs.Laws.{has-full, has-set_of, has-union, has-intersection, has-complement, has-below, any_none, any_some, any-never, any-ext, empty-none}
use Rattle.table.specs.Layout.{max_rules, max_positions, rules_of}
use Rattle.table.specs.Table.{is_table}
use Rattle.table.specs.Automaton.{Automaton, automaton}
use Rattle.table.proofs.Members.{not-below, on-without, word-is}
use Rattle.steps.specs.Step.{keepers_of, rules_where}
use Rattle.stream.specs.declared.Stream.{Stream}
use Rattle.stream.specs.Valid.{stream_limit, same_counts, live_inside, marks_single, under_limit, held_inside, pending_inside, pending_late, begun, sound, needs_starts, valid}
use Rattle.stream.specs.Calls.{space_number, scan_number, close_number}

-- ---- the tests in words

pub inside-empty : (live : List ℕ) (n : ℕ) → is_empty live ≡ true → not (any max_positions (λ q. has live q && leb n q)) ≡ true
inside-empty live n e = ap not (any-never max_positions (λ q. has live q && leb n q) (λ q h. ap (λ (b : Bool). b && leb n q) (empty-none live e q h)))

pub inside-test : (live : List ℕ) (n : ℕ) → is_empty (intersection_of live (complement_of (kept_below full_set n))) ≡ not (any max_positions (λ q. has live q && leb n q))
unfolding is_empty
inside-test live n =
    ap not (any-ext max_positions (has (intersection_of live (complement_of (kept_below full_set n)))) (λ q. has live q && leb n q)
    (λ q h. has-intersection live (complement_of (kept_below full_set n)) q h
    ∙ ap (λ (b : Bool). has live q && b)
    (has-complement (kept_below full_set n) q h
    ∙ ap not (has-below full_set n q h ∙ ap (λ (b : Bool). b && ltb q n) (has-full q h)) ∙ not-below q n)))

-- two sets are inside where their union is, so that those of a state are tested at once
abbrev beyond : List ℕ → ℕ → Bool
beyond s n = any max_positions (λ q. has s q && leb n q)

any-or : (n : ℕ) (f g : ℕ → Bool) → any n (λ k. f k || g k) ≡ (any n f || any n g)
unfolding any
any-or zero f g = refl
any-or (suc n) f g =
    ap (λ (b : Bool). b || (f n || g n)) (any-or n f g) ∙ swap (any n f) (any n g) (f n) (g n)
  where
    swap : (a b c d : Bool) → ((a || b) || (c || d)) ≡ ((a || c) || (b || d))
    swap true b c d = refl
    swap false true true d = refl
    swap false true false d = refl
    swap false false c d = refl

beyond-union : (s t : List ℕ) (n : ℕ) → beyond (union_of s t) n ≡ (beyond s n || beyond t n)
beyond-union s t n =
    any-ext max_positions (λ q. has (union_of s t) q && leb n q)
    (λ q. (has s q && leb n q) || (has t q && leb n q))
    (λ q h. ap (λ (b : Bool). b && leb n q) (has-union s t q h)
    ∙ spread (has s q) (has t q) (leb n q))
    ∙ any-or max_positions (λ q. has s q && leb n q) (λ q. has t q && leb n q)
  where
    spread : (a b c : Bool) → ((a || b) && c) ≡ ((a && c) || (b && c))
    spread true b true = refl
    spread true true false = refl
    spread true false false = refl
    spread false b c = refl

-- two sets are empty where their union is
union-empty : (s t : List ℕ) → is_empty (union_of s t) ≡ (is_empty s && is_empty t)
unfolding is_empty
union-empty s t =
    ap not (any-ext max_positions (has (union_of s t)) (λ q. has s q || has t q) (has-union s t)
    ∙ any-or max_positions (has s) (has t))
    ∙ apart (any max_positions (has s)) (any max_positions (has t))
  where
    apart : (a b : Bool) → not (a || b) ≡ (not a && not b)
    apart true b = refl
    apart false b = refl

pub sound-order : (w : Automaton) (s : Stream)
    → (same_counts w s && (not (beyond (union_of s.live s.held) w.positions)
    && (marks_single w s && (under_limit s && ((pending_inside w s && pending_late s)
    && (is_empty (union_of s.live s.held) || ltb 0 s.taken)))))) ≡ sound w s
unfolding sound live_inside held_inside begun
sound-order w s =
    let rest : Bool = pending_inside w s && (pending_late s && begun s) in
    ap₂ (λ (b e : Bool). same_counts w s && (not b && (marks_single w s && (under_limit s
    && ((pending_inside w s && pending_late s) && (e || ltb 0 s.taken))))))
    (beyond-union s.live s.held w.positions) (union-empty s.live s.held)
    ∙ ap (λ (b : Bool). same_counts w s && (not (beyond s.live w.positions
    || beyond s.held w.positions) && (marks_single w s && (under_limit s && b))))
    (and_assoc (pending_inside w s) (pending_late s) (begun s))
    ∙ ap (λ (b : Bool). same_counts w s && b)
    (order (beyond s.live w.positions) (beyond s.held w.positions) (marks_single w s)
    (under_limit s) rest)
  where
    order : (l h m u r : Bool)
        → (not (l || h) && (m && (u && r))) ≡ (not l && (m && (u && (not h && r))))
    order true h m u r = refl
    order false false m u r = refl
    order false true true true r = refl
    order false true true false r = refl
    order false true false u r = refl

-- a set without a member has none below a number either
pub none_below : (s : List ℕ) (n : ℕ) → is_empty s ≡ true → is_empty (kept_below s n) ≡ true
unfolding is_empty
none_below s n e =
    ap not (any-never max_positions (has (kept_below s n)) (λ q h. has-below s n q h ∙ ap (λ (b : Bool). b && ltb q n) (empty-none s e q h)))

-- a rule needs a start: by the keepers below the number of positions, and by the rules' digits
pub starts_test : (w : Automaton) (keeping : List ℕ) (leftmosts : ℕ) → keeping ≡ kept_below (keepers_of w) w.positions
    → leftmosts ≡ rules_where w w.leftmost
    → (not (is_empty keeping) || not (eqb leftmosts 0)) ≡ needs_starts w
unfolding needs_starts is_empty keepers_of
starts_test w keeping leftmosts is rules =
    ap₂ (λ (a b : Bool). a || b)
    (ap (λ (l : List ℕ). not (not (any max_positions (has l)))) is
    ∙ twice (any max_positions (has (kept_below (set_of w.keeps) w.positions)))
    ∙ any-ext max_positions (has (kept_below (set_of w.keeps) w.positions))
    (λ q. w.keeps q && ltb q w.positions)
    (λ q h. has-below (set_of w.keeps) w.positions q h
    ∙ ap (λ (b : Bool). b && ltb q w.positions) (has-set_of w.keeps q h)))
    (ap (λ (n : ℕ). not (eqb n 0)) rules
    ∙ some (any max_rules (λ a. ltb a w.rules && w.leftmost a)) refl)
  where
    twice : (b : Bool) → not (not b) ≡ b
    twice true = refl
    twice false = refl

    word : ℕ
    word = rules_where w w.leftmost

    some : (b : Bool) → any max_rules (λ a. ltb a w.rules && w.leftmost a) ≡ b
        → not (eqb word 0) ≡ any max_rules (λ a. ltb a w.rules && w.leftmost a)
    some true e =
        let r = any_some max_rules (λ a. ltb a w.rules && w.leftmost a) e in
        ap not (ne_eqb word 0 (λ z. true≢false (sym r.2
        ∙ sym (on-word_of 64 (λ a. ltb a w.rules && w.leftmost a) r.0 r.1)
        ∙ ap (λ (x : ℕ). on x r.0) z ∙ on-zero r.0))) ∙ sym e
    some false e =
        ap not (eq-eqb word 0 (off_zero 64 word (word_of-lt 64 (λ a. ltb a w.rules && w.leftmost a))
        (λ a l. on-word_of 64 (λ a. ltb a w.rules && w.leftmost a) a l
        ∙ any_none max_rules (λ a. ltb a w.rules && w.leftmost a) e a l))) ∙ sym e

-- no digit is left where each that is set holds of f
pub marks-test : (marks singles : ℕ) (f : ℕ → Bool) → marks < 2 ^ 64 → singles ≡ word_of 64 f
    → eqb (bit_and marks (2 ^ 64 - 1 - singles)) 0 ≡ not (any 64 (λ a. on marks a && not (f a)))
marks-test marks singles f h e = go (any 64 (λ a. on marks a && not (f a))) refl
  where
    rest : ℕ
    rest = bit_and marks (2 ^ 64 - 1 - word_of 64 f)

    digit : (a : ℕ) → a < 64 → on rest a ≡ (on marks a && not (f a))
    digit a l = on-without marks (word_of 64 f) a (word_of-lt 64 f) l ∙ ap (λ (b : Bool). on marks a && not b) (on-word_of 64 f a l)

    go : (b : Bool) → any 64 (λ a. on marks a && not (f a)) ≡ b → eqb (bit_and marks (2 ^ 64 - 1 - singles)) 0 ≡ not (any 64 (λ a. on marks a && not (f a)))
    go true p =
        let r = any_some 64 (λ a. on marks a && not (f a)) p in
        ap (λ (x : ℕ). eqb (bit_and marks (2 ^ 64 - 1 - x)) 0) e
        ∙ ne_eqb rest 0 (λ z. true≢false (sym r.2 ∙ sym (digit r.0 r.1) ∙ ap (λ (x : ℕ). on x r.0) z ∙ on-zero r.0)) ∙ ap not (sym p)
    go false p =
        ap (λ (x : ℕ). eqb (bit_and marks (2 ^ 64 - 1 - x)) 0) e
        ∙ eq-eqb rest 0 (off_zero 64 rest (lt_of_le_of_lt (and_le_l marks (2 ^ 64 - 1 - word_of 64 f)) h)
        (λ a l. digit a l ∙ any_none 64 (λ a. on marks a && not (f a)) p a l)) ∙ ap not (sym p)

-- no digit of a word stands from n on, of which there are 64 at most
module _ (word n : ℕ) where
  abbrev pub past : ℕ → Bool
  past a = on word a && not (ltb a n)

  pub none-past : 64 ≤ n → true ≡ not (any 64 past)
  none-past h = sym (ap not (any-never 64 past (λ a l. ap (λ (b : Bool). on word a && not b) (lt-ltb a n (omega arith)) ∙ and-false (on word a))))

  pub past-test : word < 2 ^ 64 → eqb (word / 2 ^ n) 0 ≡ not (any 64 past)
  past-test small = go (any 64 past) refl
    where
      go : (b : Bool) → any 64 past ≡ b → eqb (word / 2 ^ n) 0 ≡ not (any 64 past)
      go true p =
          let r = any_some 64 past p in
          let a = r.0 in
          let both = (and-eq-true_iff (on word a) (not (ltb a n))).0 r.2 in
          let late : n ≤ a = ltb-false a n (not-true (ltb a n) both.1) in
          let place : n + (a - n) ≡ a = omega arith in
          ne_eqb (word / 2 ^ n) 0 (λ z. true≢false (sym both.0 ∙ ap (on word) (sym place) ∙ sym (on-shr word n (a - n)) ∙ ap (λ (x : ℕ). on x (a - n)) z ∙ on-zero (a - n)))
          ∙ ap not (sym p)
      go false p =
          eq-eqb (word / 2 ^ n) 0 (off_zero 64 (word / 2 ^ n) (lt_of_le_of_lt (div-le_self word (2 ^ n)) small) (λ k l. off k (on (word / 2 ^ n) k) refl))
          ∙ ap not (sym p)
        where
          off : (k : ℕ) (b : Bool) → on (word / 2 ^ n) k ≡ b → on (word / 2 ^ n) k ≡ false
          off k false e = e
          off k true e =
              let digit : on word (n + k) ≡ true = sym (on-shr word n k) ∙ e in
              absurd (true≢false (sym (ap₂ (λ (x y : Bool). x && not y) digit (le-ltb (n + k) n (omega arith)))
              ∙ any_none 64 past p (n + k) (on-bound 64 word (n + k) small digit)))

-- ---- what a valid state gives

pub record Fitting (w : Automaton) (s : Stream) : Type 0 where
  pub rules_same : s.rules ≡ w.rules
  pub positions_same : s.positions ≡ w.positions
  pub live : live_inside w s ≡ true
  pub marks : marks_single w s ≡ true
  pub limit : s.taken ≤ stream_limit
  pub held : held_inside w s ≡ true
  pub pending : pending_inside w s ≡ true
  pub late : pending_late s ≡ true
  pub after_first : begun s ≡ true

pub fitting : (w : Automaton) (s : Stream) → sound w s ≡ true → Fitting w s
unfolding sound same_counts under_limit
fitting w s e =
    let p = (and-eq-true_iff (same_counts w s) _).0 e in
    let q = (and-eq-true_iff (live_inside w s) _).0 p.1 in
    let r = (and-eq-true_iff (marks_single w s) _).0 q.1 in
    let u = (and-eq-true_iff (leb s.taken stream_limit) _).0 r.1 in
    let g = (and-eq-true_iff (held_inside w s) _).0 u.1 in
    let d = (and-eq-true_iff (pending_inside w s) _).0 g.1 in
    let f = (and-eq-true_iff (pending_late s) _).0 d.1 in
    let c = (and-eq-true_iff (eqb s.rules w.rules) _).0 p.0 in
    record {
      rules_same = eqb-true s.rules w.rules c.0;
      positions_same = eqb-true s.positions w.positions c.1;
      live = q.0;
      marks = r.0;
      limit = leb-true s.taken stream_limit u.0;
      held = g.0;
      pending = d.0;
      late = f.0;
      after_first = f.1;
    }

-- a valid state: sound, on a table that needs no starts
pub valid-parts : (w : Automaton) (s : Stream) → valid w s ≡ true → (sound w s ≡ true) × (needs_starts w ≡ false)
unfolding valid
valid-parts w s e =
    let p = (and-eq-true_iff (sound w s) (not (needs_starts w))).0 e in
    (p.0, not-true (needs_starts w) p.1)

pub valid-is : (w : Automaton) (s : Stream) → sound w s ≡ true → needs_starts w ≡ false → valid w s ≡ true
unfolding valid
valid-is w s e n = ap₂ (λ (a b : Bool). a && not b) e n

pub fitted : (w : Automaton) (s : Stream) → Fitting w s → sound w s ≡ true
unfolding sound same_counts under_limit
fitted w s h =
    ap₂ (λ (a b : Bool). a && b)
    (ap₂ (λ (a b : Bool). a && b) (eq-eqb s.rules w.rules h.rules_same) (eq-eqb s.positions w.positions h.positions_same))
    (ap₂ (λ (a b : Bool). a && b) h.live (ap₂ (λ (a b : Bool). a && b) h.marks
    (ap₂ (λ (a b : Bool). a && b) (le-leb s.taken stream_limit h.limit) (ap₂ (λ (a b : Bool). a && b) h.held (ap₂ (λ (a b : Bool). a && b) h.pending
    (ap₂ (λ (a b : Bool). a && b) h.late h.after_first))))))

-- the held pairs are those of rules
pub pending-rules : (w : Automaton) (s : Stream) → pending_inside w s ≡ true → s.pending < 2 ^ 64
    → s.pending ≡ rules_where w (on s.pending)
unfolding pending_inside
pending-rules w s e h =
    let none = not-true (any 64 (past s.pending w.rules)) e in
    word-is s.pending (λ a. ltb a w.rules && on s.pending a) h
    (λ a l. digit (on s.pending a) (ltb a w.rules)
    (any_none 64 (past s.pending w.rules) none a l))
  where
    digit : (x y : Bool) → (x && not y) ≡ false → x ≡ (y && x)
    digit x true e = refl
    digit true false e = e
    digit false false e = refl

-- ---- the number of a call

module _ (t : List ℕ) (s : Stream) (len room : ℕ) where
  pub refused-table : is_table t ≡ false → 1 ≡ scan_number t s len room
  unfolding scan_number
  refused-table e = rw e

  module _ (table : is_table t ≡ true) where
    pub refused-state : valid (automaton t) s ≡ false → 18 ≡ scan_number t s len room
    unfolding scan_number
    refused-state e = rw (table, e)

    module _ (state : valid (automaton t) s ≡ true) where
      pub refused-closed : s.closed ≡ true → 19 ≡ scan_number t s len room
      unfolding scan_number
      refused-closed e = rw (table, state, e)

      module _ (open-still : s.closed ≡ false) where
        pub refused-long : stream_limit < s.taken + len → 21 ≡ scan_number t s len room
        unfolding scan_number
        refused-long h = rw (table, state, open-still, lt-ltb stream_limit (s.taken + len) h)

        module _ (short : s.taken + len ≤ stream_limit) where
          pub refused-space : room < 2 * rules_of t → 20 ≡ scan_number t s len room
          unfolding scan_number space_number
          refused-space h = rw (table, state, open-still, le-ltb stream_limit (s.taken + len) short, lt-ltb room (2 * rules_of t) h)

          pub not-refused : 2 * rules_of t ≤ room → 0 ≡ scan_number t s len room
          unfolding scan_number space_number
          not-refused h = rw (table, state, open-still, le-ltb stream_limit (s.taken + len) short, le-ltb room (2 * rules_of t) h)

-- number 0 says that all holds
pub record Accepted (t : List ℕ) (s : Stream) (len room : ℕ) : Type 0 where
  pub table : is_table t ≡ true
  pub state : Fitting (automaton t) s
  pub none_has_starts : needs_starts (automaton t) ≡ false
  pub still_open : s.closed ≡ false
  pub short : s.taken + len ≤ stream_limit
  pub space : 2 * rules_of t ≤ room

pub accepted : (t : List ℕ) (s : Stream) (len room : ℕ) → scan_number t s len room ≡ 0 → Accepted t s len room
unfolding scan_number space_number
accepted t s len room e =
    go (is_table t) refl (valid (automaton t) s) refl s.closed refl (ltb stream_limit (s.taken + len)) refl (ltb room (2 * rules_of t)) refl e
  where
    go : (a : Bool) → is_table t ≡ a → (b : Bool) → valid (automaton t) s ≡ b → (c : Bool) → s.closed ≡ c
        → (d : Bool) → ltb stream_limit (s.taken + len) ≡ d → (f : Bool) → ltb room (2 * rules_of t) ≡ f
        → ◌≡◌ {A = ℕ} (cond a (cond b (cond c 19 (cond d 21 (cond f 20 0))) 18) 1) 0 → Accepted t s len room
    go true a true b false c false d false f z =
        record {
          table = a;
          state = fitting (automaton t) s (valid-parts (automaton t) s b).0;
          none_has_starts = (valid-parts (automaton t) s b).1;
          still_open = c;
          short = ltb-false stream_limit (s.taken + len) d;
          space = ltb-false room (2 * rules_of t) f;
        }
    go true a true b false c false d true f z = absurd (omega arith)
    go true a true b false c true d f g z = absurd (omega arith)
    go true a true b true c d f g h z = absurd (omega arith)
    go true a false b c d f g h i z = absurd (omega arith)
    go false a b c d f g h i j z = absurd (omega arith)

-- a call's number, as it was computed
module _ (t : List ℕ) (s : Stream) (len room number : ℕ) (is : number ≡ scan_number t s len room) where
  pub taken-up : number ≡ 0 → Accepted t s len room
  taken-up e = accepted t s len room (sym is ∙ e)

  pub numbered : (space : ℕ) → room ≡ space → number ≡ scan_number t s len space
  numbered space e = is ∙ ap (scan_number t s len) e

-- a closing is numbered as a scan of no bytes
pub close-number : (t : List ℕ) (s : Stream) (room : ℕ) → scan_number t s 0 room ≡ close_number t s room
unfolding scan_number close_number
close-number t s room =
    ap (λ (n : ℕ). cond (is_table t) n 1) (go (valid (automaton t) s) refl)
  where
    -- a valid state is within the limit
    go : (b : Bool) → valid (automaton t) s ≡ b
        → cond b (cond s.closed 19 (cond (ltb stream_limit (s.taken + 0)) 21 (space_number t room))) 18 ≡ cond b (cond s.closed 19 (space_number t room)) 18
    go true e =
        ap (λ (c : Bool). cond s.closed 19 (cond c 21 (space_number t room)))
        (le-ltb stream_limit (s.taken + 0) (omega (arith, (fitting (automaton t) s (valid-parts (automaton t) s e).0).limit)))
    go false e = refl

pub close-numbered : (t : List ℕ) (s : Stream) (room space number : ℕ) → number ≡ scan_number t s 0 room → room ≡ space → number ≡ close_number t s space
close-numbered t s room space number is e = numbered t s 0 room number is space e ∙ close-number t s space
