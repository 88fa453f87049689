-- A stored state is read back as the same state: each field comes from the words that it was put
-- in, so the next call on the words goes on from the state that the last one handed back.
use mathlib.Core.Path.{◌≡◌, refl, sym, ap, subst, ◌∙◌}
use mathlib.Core.Bool.{Bool, true, false, cond, not}
use mathlib.Core.List.{List, [], ◌∷◌, ◌++◌}
use Prim.Native.Nat.{ℕ, zero, suc, ◌+◌, ◌<◌, ◌≤◌}
use native.Mathlib.Omega.{arith}
use lib.Dec.{eqb}
use lib.ListN.{length, get_or, drop, get_or-append}
use lib.Seq.{get_or-append-add, ext_get_or}
use Rattle.sets.specs.Set.{empty_set}
use Rattle.sets.proofs.Laws.{words-set_of, below-four}
use Rattle.kinds.specs.Side.{side_of}
use Rattle.kinds.proofs.Sides.{side-read}
use Rattle.table.specs.Layout.{max_rules, max_positions}
use Rattle.table.specs.Table.{is_table}
use Rattle.table.specs.Automaton.{Automaton}
use Rattle.steps.specs.Step.{stepped, stepped_starts}
use Rattle.steps.proofs.Carrying.{list_length, list_at, list-is}
use Rattle.stream.specs.declared.Stream.{Stream}
use Rattle.stream.specs.Byte.{after, next_held, byte_state, state_after}
use Rattle.stream.specs.Calls as stream
use Rattle.stream.specs.Calls.{Opened, fresh}
use Rattle.traced.specs.declared.Traced.{Traced}
use Rattle.traced.specs.Byte.{traced, next_state, next_starts}
use Rattle.traced.specs.Calls as trace
use Rattle.states.specs.State.{live_at, held_at, pairs_at, trace_words, state_of, trace_of, part, stream_words, live_words, held_words, traced_words, stored, Form}
use Rattle.states.specs.Call.{short, stored_in, Given, Call, left, on_state}
use Rattle.traced.proofs.Carrying.{list_ext}
use Rattle.traced.proofs.Same.{stream_after}
use Rattle.states.proofs.Words.{length-words, length-live, length-held, length-traced}

-- every state that a call can have: the live set and the held one are four words
abbrev pub FourWords : Stream → Type 0
FourWords s = (length s.live ≡ 4) × (length s.held ≡ 4)

-- and one with starts has a start for each position and each pair
abbrev pub Full : Traced → Type 0
Full z =
    FourWords z.stream
    × ((length z.starts.live ≡ max_positions) × ((length z.starts.held ≡ max_positions) × (length z.starts.pairs ≡ max_rules)))

-- a list of four words, read word by word
four : (l : List ℕ) → length l ≡ 4 → get_or l 0 0 ∷ get_or l 1 0 ∷ get_or l 2 0 ∷ get_or l 3 0 ∷ [] ≡ l
four l e =
    let words : List ℕ = get_or l 0 0 ∷ get_or l 1 0 ∷ get_or l 2 0 ∷ get_or l 3 0 ∷ [] in
    ext_get_or 0 words l (sym e) (below-four (λ (i : ℕ). get_or words i 0 ≡ get_or l i 0) refl refl refl refl)

-- the closed mark, written as 1 or 0
mark : (b : Bool) → not (eqb (cond b 1 0) 0) ≡ b
mark true = refl
mark false = refl

-- whatever words follow
front-back : (s : Stream) (more : List ℕ) → FourWords s → state_of (stream_words s ++ more) ≡ s
unfolding state_of stream_words
front-back s more e = λ i. record {
  live = four s.live e.0 i;
  held = four s.held e.1 i;
  reported = s.reported;
  pending = s.pending;
  last = side-read s.last i;
  taken = s.taken;
  rules = s.rules;
  positions = s.positions;
  closed = mark s.closed i;
}

pub read_back : (s : Stream) (t : List ℕ) → FourWords s → state_of (stored (stream_words s) t) ≡ s
read_back s t e = front-back s (drop (length (stream_words s)) t) e

-- a part that stands at the end of some words, and one that has others after it
part_end : (a l : List ℕ) (at n : ℕ) → length a ≡ at → length l ≡ n → part at n (a ++ part 0 n l) ≡ l
part_end a l at n e f = sym (list-is n l (λ q. get_or (a ++ part 0 n l) (at + q) 0) f (λ q h. sym (word q h)))
  where
    word : (q : ℕ) → q < n → get_or (a ++ part 0 n l) (at + q) 0 ≡ get_or l q 0
    word q h =
        let same : 0 + (0 + q) ≡ q = omega arith in
        ap (λ (k : ℕ). get_or (a ++ part 0 n l) (k + q) 0) (sym e)
        ∙ get_or-append-add a (part 0 n l) q 0
        ∙ list_at 0 n (λ i. get_or l (0 + i) 0) q h
        ∙ ap (λ (i : ℕ). get_or l i 0) same

part-front : (a b : List ℕ) (at n : ℕ) → at + n ≤ length a → part at n (a ++ b) ≡ part at n a
part-front a b at n h =
    list_ext n (λ q. get_or (a ++ b) (at + q) 0) (λ q. get_or a (at + q) 0) (λ q lt. get_or-append a b 0 (at + q) (omega arith))

module _ (z : Traced) (t : List ℕ) (e : Full z) where
  abbrev s : Stream
  s = z.stream

  abbrev one : List ℕ
  one = live_words s z.starts.live

  abbrev two : List ℕ
  two = held_words s z.starts.live z.starts.held

  abbrev pairs : List ℕ
  pairs = part 0 max_rules z.starts.pairs

  abbrev rest : List ℕ
  rest = drop (length (traced_words z)) t

  length-one : length one ≡ held_at
  length-one = length-live s z.starts.live

  length_two : length two ≡ pairs_at
  length_two = length-held s z.starts.live z.starts.held

  length-all : length (traced_words z) ≡ trace_words
  length-all = length-traced z

  live_back : part live_at max_positions (stored (traced_words z) t) ≡ z.starts.live
  live_back =
      part-front (traced_words z) rest live_at max_positions (omega (arith, length-all))
      ∙ part-front two pairs live_at max_positions (omega (arith, length_two))
      ∙ part-front one (part 0 max_positions z.starts.held) live_at max_positions (omega (arith, length-one))
      ∙ part_end (stream_words s) z.starts.live live_at max_positions (length-words s) e.1.0

  held_back : part held_at max_positions (stored (traced_words z) t) ≡ z.starts.held
  held_back =
      part-front (traced_words z) rest held_at max_positions (omega (arith, length-all))
      ∙ part-front two pairs held_at max_positions (omega (arith, length_two))
      ∙ part_end one z.starts.held held_at max_positions length-one e.1.1.0

  pairs-back : part pairs_at max_rules (stored (traced_words z) t) ≡ z.starts.pairs
  pairs-back =
      part-front (traced_words z) rest pairs_at max_rules (omega (arith, length-all))
      ∙ part_end two z.starts.pairs pairs_at max_rules length_two e.1.1.1

  -- the first words are the state's
  stream-back : state_of (stored (traced_words z) t) ≡ s
  unfolding state_of stream_words
  stream-back = front-back s (((part 0 max_positions z.starts.live ++ part 0 max_positions z.starts.held) ++ pairs) ++ rest) e.0

  pub trace-back : trace_of (stored (traced_words z) t) ≡ z
  unfolding trace_of
  trace-back = λ i. record { stream = stream-back i; starts = record { live = live_back i; held = held_back i; pairs = pairs-back i } }

-- ---- what the next call reads is what the last one handed back

-- both sets after some bytes are four words again
pub after-four : (w : Automaton) (s : Stream) (block : List ℕ) (k : ℕ) → FourWords s → FourWords (state_after w s block k)
unfolding after byte_state next_held stepped empty_set
after-four w s block zero e = e
after-four w s block (suc k) e = ((words-set_of _).four, go (eqb (get_or block k 0) 10))
  where
    go : (b : Bool) → length (cond b (stepped w true (state_after w s block k).last (side_of (get_or block k 0)) w.positions (state_after w s block k).live (state_after w s block k).taken (get_or block k 0)) empty_set) ≡ 4
    go true = (words-set_of _).four
    go false = (words-set_of _).four

-- and there is a start for each position and pair again
pub after-full : (w : Automaton) (z : Traced) (block : List ℕ) (k : ℕ) → Full z → Full (after (traced w) z block k)
unfolding after next_state next_starts stepped_starts
after-full w z block zero e = e
after-full w z block (suc k) e = (
  subst FourWords (sym (stream_after w z block (suc k))) (after-four w z.stream block (suc k) e.0),
  (list_length 0 max_positions _, (list_length 0 max_positions _, list_length 0 max_rules _)),
)

-- the state that words hold
pub words-four : (state : List ℕ) → FourWords (state_of state)
unfolding state_of
words-four state = (refl, refl)

pub words-full : (state : List ℕ) → Full (trace_of state)
unfolding trace_of
words-full state = (words-four state, (list_length 0 max_positions _, (list_length 0 max_positions _, list_length 0 max_rules _)))

-- what holds of both holds of either
pub either : {A : Type 0} (P : A → Type 0) (b : Bool) {x y : A} → P x → P y → P (cond b x y)
either P true p q = p
either P false p q = q

-- an opened state is whole
pub fresh-four : (t : List ℕ) → FourWords (stream.opened t).stream
unfolding stream.opened empty_set
fresh-four t =
    either (λ (o : Opened). FourWords o.stream) (is_table t)
    ((words-set_of (λ q. false)).four, (words-set_of (λ q. false)).four) ((words-set_of (λ q. false)).four, (words-set_of (λ q. false)).four)

pub fresh-full : (t : List ℕ) → Full (trace.opened t).traced
unfolding trace.opened
fresh-full t = (fresh-four t, (list_length 0 max_positions _, (list_length 0 max_positions _, list_length 0 max_rules _)))

module _ {S : Type 0} (f : Form S) (state : List ℕ) where
  pub opened-back : (opened : S) → short f state ≡ false → f.read (stored (f.words opened) state) ≡ opened → f.read (stored_in f opened state) ≡ opened
  unfolding stored_in
  opened-back opened e whole = ap (λ (b : Bool). f.read (cond b state (stored (f.words opened) state))) e ∙ whole

-- any call: accepted, the new state was stored; refused, the old one stays and is what was handed
-- back
module _ {N S L : Type 0} (k : Call N S L) (state : List ℕ) where
  abbrev gave : Given N S L
  gave = k.gives (k.form.read state)

  pub call_back : short k.form state ≡ false
      → k.form.read (stored (k.form.words gave.next) state) ≡ gave.next
      → (eqb gave.number 0 ≡ false → k.form.read state ≡ gave.next)
      → k.form.read (on_state k state).words ≡ gave.next
  unfolding on_state
  call_back e whole kept =
      ap (λ (b : Bool). k.form.read (cond b (left k.none state k.slots) (left gave.numbers (cond (eqb gave.number 0) next state) gave.slots)).words) e
      ∙ go (eqb gave.number 0) refl
    where
      next : List ℕ
      next = stored (k.form.words gave.next) state

      go : (b : Bool) → eqb gave.number 0 ≡ b → k.form.read (cond b next state) ≡ gave.next
      go true z = whole
      go false z = kept z
