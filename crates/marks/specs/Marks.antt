-- Marks on a form: each position has the least start of a way that has just taken a byte there. At
-- a gap the marks say with which least start a part can end, and the next byte moves them. This is
-- the matcher of Fischer, Huch and Wilke ("A play on regular expressions"), with starts for its
-- bits and with assertions. Assumes nothing: these are definitions.
use Rattle.std.specs.Prelude.{Bool, cond, List, ℕ, ◌+◌, min, get_or, set}
use Rattle.meaning.specs.Form.{Form, eps, take, check, seq, alt, plus, opt, positions}
use Rattle.meaning.specs.Automaton.{null}

-- no start: more than every offset of a log
abbrev pub none : ℕ
none = 65535

-- a start, where b holds
unfoldable pub when : Bool → ℕ → ℕ
when b x = cond b x none

-- the world of the gap
module _ {C A : Type 0} (w : A → Bool) where
  -- the least start of a way that stands in the form, numbered from b on, and can end it at this
  -- gap
  unfoldable pub ends : Form C A → (b : ℕ) → List ℕ → ℕ
  ends eps b ms = none
  ends (take c) b ms = min (get_or ms b 0) none
  ends (check a) b ms = none
  ends (seq f g) b ms = min (when (null w g) (ends f b ms)) (ends g (b + positions f) ms)
  ends (alt f g) b ms = min (ends f b ms) (ends g (b + positions f) ms)
  ends (plus f) b ms = ends f b ms
  ends (opt f) b ms = ends f b ms

  -- the least start behind the form, where `come` is the least start before it
  unfoldable pub past : Form C A → (b come : ℕ) → List ℕ → ℕ
  past f b come ms = min (when (null w f) come) (ends f b ms)

  -- the marks when the next byte is taken: h says which sets have it
  module _ (h : C → Bool) where
    unfoldable pub moved : Form C A → (b come : ℕ) → List ℕ → List ℕ
    moved eps b come ms = ms
    moved (take c) b come ms = set ms b (when (h c) come)
    moved (check a) b come ms = ms
    moved (seq f g) b come ms = moved g (b + positions f) (past f b come ms) (moved f b come ms)
    moved (alt f g) b come ms = moved g (b + positions f) come (moved f b come ms)
    moved (plus f) b come ms = moved f b (min come (ends f b ms)) ms
    moved (opt f) b come ms = moved f b come ms
