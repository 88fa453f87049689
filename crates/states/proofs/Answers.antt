-- What each return of the functions for C gives, from what was tested on the way: too few words for
-- a state, a call that was refused, a call that was accepted. Said once for both kinds of state.
use mathlib.Core.Path.{◌≡◌, sym, ap, ◌∙◌}
use mathlib.Core.Bool.{Bool, true, false, cond}
use mathlib.Core.List.{List, []}
use Prim.Native.Nat.{ℕ, ◌≤◌, ◌<◌}
use lib.Dec.{eqb}
use lib.ListN.{length}
use borrow.Author.Tests.{lt-ltb, le-ltb, eq-eqb, ne_eqb}
use Rattle.stream.specs.Byte.{busy_of}
use Rattle.states.specs.State.{state_of, stored, Form}
use Rattle.states.specs.Call.{short_state, short, state_in, stored_in, open_number, busy_figure, Given, Call, Left, left, on_state}

module _ {S : Type 0} (f : Form S) (state : List ℕ) where
  is-short : length state < f.size → short f state ≡ true
  is-short h = lt-ltb (length state) f.size h

  is-long : f.size ≤ length state → short f state ≡ false
  is-long h = le-ltb (length state) f.size h

  -- ---- reading and storing

  pub read_short : length state < f.size → f.read [] ≡ state_in f state
  unfolding state_in
  read_short h = rw (is-short h)

  pub read-long : f.size ≤ length state → f.read state ≡ state_in f state
  unfolding state_in
  read-long h = rw (is-long h)

  pub store-short : (next : S) → length state < f.size → state ≡ stored_in f next state
  unfolding stored_in
  store-short next h = rw (is-short h)

  pub store_long : (next : S) → f.size ≤ length state → stored (f.words next) state ≡ stored_in f next state
  unfolding stored_in
  store_long next h = rw (is-long h)

  -- ---- opening

  pub open-short : (number : ℕ) → length state < f.size → short_state ≡ open_number f number state
  unfolding open_number
  open-short number h = rw (is-short h)

  pub open-long : (number : ℕ) → f.size ≤ length state → number ≡ open_number f number state
  unfolding open_number
  open-long number h = rw (is-long h)

  -- ---- the busy figure

  pub busy-short : length state < f.size → 0 ≡ busy_figure f state
  unfolding busy_figure
  busy-short h = rw (is-short h)

  pub busy-long : f.size ≤ length state → busy_of (state_of state) ≡ busy_figure f state
  unfolding busy_figure
  busy-long h = rw (is-long h)

-- ---- scanning and closing

module _ {N S L : Type 0} (k : Call N S L) (state : List ℕ) where
  pub call-short : length state < k.form.size → left k.none state k.slots ≡ on_state k state
  unfolding on_state
  call-short h = rw (is-short k.form state h)

  -- the words afterwards, and all that is left
  abbrev next : Given N S L → List ℕ
  next g = stored (k.form.words g.next) state

  abbrev leaves : Given N S L → Left N L
  leaves g = left g.numbers (cond (eqb g.number 0) (next g) state) g.slots

  module _ {s : S} {g : Given N S L} (h : k.form.size ≤ length state) (e : s ≡ state_in k.form state) (a : g ≡ k.gives s) where
    call_long : leaves g ≡ on_state k state
    unfolding on_state
    call_long =
        ap leaves (a ∙ ap k.gives (e ∙ sym (read-long k.form state h)))
        ∙ sym (ap (λ (b : Bool). cond b (left k.none state k.slots) (leaves (k.gives (k.form.read state)))) (is-long k.form state h))

    -- accepted, the state is stored; refused, the words stay
    pub call-accepted : {after : List ℕ} → g.number ≡ 0 → after ≡ stored_in k.form g.next state → left g.numbers after g.slots ≡ on_state k state
    call-accepted z w =
        ap (λ (l : List ℕ). left g.numbers l g.slots) (w ∙ sym (store_long k.form state g.next h) ∙ sym (ap (λ (b : Bool). cond b (next g) state) (eq-eqb g.number 0 z)))
        ∙ call_long

    pub call-refused : (g.number ≡ 0 → ⊥) → left g.numbers state g.slots ≡ on_state k state
    call-refused z =
        ap (λ (l : List ℕ). left g.numbers l g.slots) (sym (ap (λ (b : Bool). cond b (next g) state) (ne_eqb g.number 0 z)))
        ∙ call_long
