-- A state at the front of some words: what `load` reads is `state_of`, and what `store` writes is
-- `stored`; and the same with starts.
use mathlib.Core.Path.{◌≡◌, refl, sym, ap, ap₂, ◌∙◌}
use mathlib.Core.Bool.{Bool, true, false, cond, not}
use mathlib.Core.List.{List, [], ◌∷◌, ◌++◌, append_assoc}
use Prim.Native.Nat.{ℕ, ◌+◌, ◌≤◌}
use native.Mathlib.Nat.{zero-add}
use native.Mathlib.Omega.{arith}
use mir.Val.{bool_byte}
use lib.Dec.{eqb}
use lib.ListN.{length, get_or, take, drop, length-append, length-drop}
use lib.Seq.{get_or-drop, drop-drop, length-take-le, take_at, drop_at}
use borrow.Rule.Slice.PartMut.{put_mid}
use Rattle.std.proofs.lemmas.List.{get_or-take}
use Rattle.kinds.specs.declared.Side.{Side}
use Rattle.kinds.specs.Side.{side_in, side_word}
use Rattle.table.specs.Layout.{max_rules, max_positions}
use Rattle.steps.proofs.Carrying.{list_length, list-is}
use Rattle.stream.specs.declared.Stream.{Stream}
use Rattle.traced.specs.declared.Traced.{Traced}
use Rattle.states.specs.State.{state_words, live_at, held_at, pairs_at, trace_words, state_of, trace_of, part, stream_words, live_words, held_words, traced_words, stored}

-- a state has fifteen words
pub length-words : (s : Stream) → length (stream_words s) ≡ state_words
unfolding stream_words
length-words s = refl

bool-byte : (b : Bool) → bool_byte b ≡ cond b 1 0
bool-byte true = refl
bool-byte false = refl

-- the state that is read, with the side that one of its words names
pub loaded : (t : List ℕ) (side : Side) → side ≡ side_in (get_or t 10 0)
    → record {
      live = get_or t 0 0 ∷ get_or t 1 0 ∷ get_or t 2 0 ∷ get_or t 3 0 ∷ [];
      held = get_or t 4 0 ∷ get_or t 5 0 ∷ get_or t 6 0 ∷ get_or t 7 0 ∷ [];
      reported = get_or t 8 0;
      pending = get_or t 9 0;
      last = side;
      taken = get_or t 11 0;
      rules = get_or t 12 0;
      positions = get_or t 13 0;
      closed = not (eqb (get_or t 14 0) 0);
    } ≡ state_of t
unfolding state_of
loaded t side e = λ i. record {
  live = get_or t 0 0 ∷ get_or t 1 0 ∷ get_or t 2 0 ∷ get_or t 3 0 ∷ [];
  held = get_or t 4 0 ∷ get_or t 5 0 ∷ get_or t 6 0 ∷ get_or t 7 0 ∷ [];
  reported = get_or t 8 0;
  pending = get_or t 9 0;
  last = e i;
  taken = get_or t 11 0;
  rules = get_or t 12 0;
  positions = get_or t 13 0;
  closed = not (eqb (get_or t 14 0) 0);
}

-- the array that is stored
abbrev pub array : Stream → (side closed : ℕ) → List ℕ
array s side closed =
    get_or s.live 0 0 ∷ get_or s.live 1 0 ∷ get_or s.live 2 0 ∷ get_or s.live 3 0
    ∷ get_or s.held 0 0 ∷ get_or s.held 1 0 ∷ get_or s.held 2 0 ∷ get_or s.held 3 0
    ∷ s.reported ∷ s.pending ∷ side ∷ s.taken ∷ s.rules ∷ s.positions ∷ closed ∷ []

pub laid : (s : Stream) (side : ℕ) → side ≡ side_word s.last → array s side (bool_byte s.closed) ≡ stream_words s
unfolding stream_words
laid s side e = ap₂ (array s) e (bool-byte s.closed)

-- ---- words that are copied

-- a part of some words as a list of its own
pub cut_part : (t : List ℕ) (at n : ℕ) → at + n ≤ length t → take n (drop at t) ≡ part at n t
cut_part t at n h =
    list-is n (take n (drop at t)) (λ q. get_or t (at + q) 0) (length-take-le n (drop at t) (omega (arith, length-drop at t)))
    (λ q lt. get_or-take n (drop at t) q 0 lt ∙ get_or-drop at t q 0)

-- a list whose length is known, as a part
pub whole : (n : ℕ) (l : List ℕ) → length l ≡ n → l ≡ part 0 n l
whole n l e = list-is n l (λ q. get_or l (0 + q) 0) e (λ q lt. ap (λ (i : ℕ). get_or l i 0) (sym (zero-add q)))

-- a state over the first words
pub stored_is : (s : Stream) (t : List ℕ) → stream_words s ++ drop state_words t ≡ stored (stream_words s) t
stored_is s t = ap (λ (k : ℕ). stream_words s ++ drop k t) (sym (length-words s))

-- the state that is read, with its starts
pub loaded-traced : (t : List ℕ) {live held pairs : List ℕ} {s : Stream} → s ≡ state_of t
    → live ≡ part live_at max_positions t → held ≡ part held_at max_positions t → pairs ≡ part pairs_at max_rules t
    → record { stream = s; starts = record { live = live; held = held; pairs = pairs } } ≡ trace_of t
unfolding trace_of
loaded-traced t e l h p = λ i. record { stream = e i; starts = record { live = l i; held = h i; pairs = p i } }

-- ---- the words of a state with starts, written part by part

long : (a : List ℕ) (n m : ℕ) (from : List ℕ) → length a ≡ n → length (a ++ part 0 m from) ≡ n + m
long a n m from e = length-append a (part 0 m from) ∙ omega (arith, e, list_length 0 m (λ q. get_or from (0 + q) 0))

pub length-live : (s : Stream) (live : List ℕ) → length (live_words s live) ≡ held_at
length-live s live = long (stream_words s) live_at max_positions live (length-words s)

pub length-held : (s : Stream) (live held : List ℕ) → length (held_words s live held) ≡ pairs_at
length-held s live held = long (live_words s live) held_at max_positions held (length-live s live)

pub length-traced : (z : Traced) → length (traced_words z) ≡ trace_words
length-traced z =
    long (held_words z.stream z.starts.live z.starts.held) pairs_at max_rules z.starts.pairs (length-held z.stream z.starts.live z.starts.held)

-- as many words as there were
pub length-stored : (a t : List ℕ) → length a ≤ length t → length (stored a t) ≡ length t
length-stored a t h = length-append a (drop (length a) t) ∙ omega (arith, length-drop (length a) t)

-- one part more, at the place where the words before it end
pub more : (a : List ℕ) (at n : ℕ) (from t : List ℕ) → length a ≡ at → length from ≡ n
    → put_mid at n (stored a t) from ≡ stored (a ++ part 0 n from) t
more a at n from t e f =
    ap₂ (λ (x y : List ℕ). x ++ (from ++ drop n y)) (take_at a (drop (length a) t) at e) (drop_at a (drop (length a) t) at e)
    ∙ sym (append_assoc a from (drop n (drop (length a) t)))
    ∙ ap₂ (λ (x y : List ℕ). (a ++ x) ++ y) (whole n from f) (drop-drop n (length a) t)
    ∙ ap (λ (k : ℕ). (a ++ part 0 n from) ++ drop k t) (sym (long a (length a) n from refl))

-- the state's words, and each list of starts behind the words before it
pub all_stored : (z : Traced) (t : List ℕ) {words live held pairs : List ℕ} → words ≡ stored (stream_words z.stream) t
    → live ≡ z.starts.live → held ≡ z.starts.held → pairs ≡ z.starts.pairs
    → length z.starts.live ≡ max_positions → length z.starts.held ≡ max_positions → length z.starts.pairs ≡ max_rules
    → put_mid pairs_at max_rules (put_mid held_at max_positions (put_mid live_at max_positions words live) held) pairs ≡ stored (traced_words z) t
all_stored z t {words} {live} {held} {pairs} w l h p m n q =
    ap₂ (put_mid pairs_at max_rules)
    (ap₂ (put_mid held_at max_positions) (ap₂ (put_mid live_at max_positions) w l ∙ more (stream_words z.stream) live_at max_positions z.starts.live t (length-words z.stream) m) h
    ∙ more (live_words z.stream z.starts.live) held_at max_positions z.starts.held t (length-live z.stream z.starts.live) n) p
    ∙ more (held_words z.stream z.starts.live z.starts.held) pairs_at max_rules z.starts.pairs t (length-held z.stream z.starts.live z.starts.held) q
