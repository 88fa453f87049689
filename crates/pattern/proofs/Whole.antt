-- The whole reading: what the readers answered of the pattern, the two figures of its tree, and the
-- public answer. Assumes nothing.
use mathlib.Core.Path.{◌≡◌, refl, sym, ap, ◌∙◌}
use mathlib.Core.Bool.{true, false}
use mathlib.Core.List.{List, [], ◌++◌}
use Rattle.std.specs.Prelude.{Result, Ok, Err}
use Prim.Native.Nat.{ℕ, ◌+◌, ◌-◌, ◌≤◌, ◌<◌}
use native.Mathlib.Omega.{arith}
use borrow.Author.Tests.{lt-ltb, le-ltb}
use lib.ListN.{length, drop, replicate, length-replicate, replicate-append-replicate}
use lib.Seq.{sets, sets-eq, length-sets, drop_at}
use Rattle.refusals.specs.Refusal.{number_of}
use Rattle.refusals.specs.declared.Refusal.{Refusal}
use Rattle.refusals.specs.declared.Fault.{Fault}
use Rattle.tokens.specs.declared.Options.{Options}
use Rattle.meaning.specs.Count.{limit, saturating, nullable}
use Rattle.nodes.specs.Nodes.{Syntax, tree_at, width, lay}
use Rattle.pattern.specs.Walk.{tree, refused, closing, chosen, walk, begin}
use Rattle.pattern.specs.Read.{longest, judged, read_of, limited_read, room, answer_of, answered}
use Rattle.nodes.specs.Invariants.{Tidy}
use Rattle.pattern.specs.Invariants.{unwritten, SaidBranches}
use Rattle.pattern.specs.declared.items.Parser.{Parser}
use Rattle.nodes.proofs.Trees.{lay-length}
use Rattle.pattern.proofs.Steps.{group-closes, group_open}

pub too_long_lem : (s : List ℕ) (o : Options) → longest < length s → limited_read s o ≡ refused 5 0
unfolding limited_read
too_long_lem s o h = rw (lt-ltb longest (length s) h)

-- a refusal answers with the reason's number and place
pub refusal-answer : (s : List ℕ) (o : Options) (r : Refusal) (p : ℕ) → limited_read s o ≡ refused (number_of r) p → answered (Err (record { refusal = r; place = p })) ≡ answer_of (limited_read s o)
unfolding answer_of
refusal-answer s o r p e = rw e

-- zeros after zeros
zeros-left : (z : List ℕ) (n k : ℕ) → z ≡ replicate n 0 → k ≤ n → drop k z ≡ replicate (n - k) 0
zeros-left z n k e h =
    let x : ℕ = 0 in
    let q : n ≡ k + (n - k) = omega arith in
    let p : z ≡ replicate k x ++ replicate (n - k) x = e ∙ ap (λ (m : ℕ). replicate m x) q ∙ sym (replicate-append-replicate k (n - k) x) in
    rw p (drop_at (replicate k x) (replicate (n - k) x) k (length-replicate k x))

-- a tree written over zeros, from the front on
words-answer : (t : Syntax) (z b : List ℕ) → Tidy t → width t ≤ room → z ≡ replicate room 0 → b ≡ sets z 0 (lay 0 t) → b ≡ lay 0 t ++ replicate (room - width t) 0
words-answer t z b d h e s =
    let x : ℕ = 0 in
    let l : 0 + length (lay 0 t) ≡ width t = omega (arith, lay-length t 0 d) in
    let n : length z ≡ room = ap length e ∙ length-replicate room x in
    s ∙ sets-eq (lay 0 t) z 0 (omega arith) ∙ rw (l, zeros-left z room (width t) e h)

-- the parser before the first byte
abbrev pub ready : Options → Parser
ready o = record { at = 0; options = o; tree = unwritten }

-- the reading, by what the reader of the branches says
module _ (s : List ℕ) (o : Options) (q : Parser) (r : Result ℕ Fault) (short : length s ≤ longest) (B : SaidBranches s (ready o) q 0 r) where
  read_walk : limited_read s o ≡ judged (length s) (walk s 0 0 (begin o))
  unfolding limited_read read_of
  read_walk = rw (le-ltb longest (length s) short)

-- the reader of the branches refuses
module _ (s : List ℕ) (o : Options) (q : Parser) (f : Fault) (short : length s ≤ longest) (B : SaidBranches s (ready o) q 0 (Err f)) where
  pub whole-no : limited_read s o ≡ refused (number_of f.refusal) f.place
  unfolding judged
  whole-no = read_walk s o q (Err f) short B ∙ rw (B.says [] [] refl)

-- the branches were read, up to the node `root`
module _ (s : List ℕ) (o : Options) (q : Parser) (root : ℕ) (short : length s ≤ longest) (B : SaidBranches s (ready o) q 0 (Ok root)) where
  abbrev t : Syntax
  t = tree_at q.tree.words root

  -- writing keeps the number of words
  pub whole_room : room ≡ length q.tree.words
  whole_room =
      let x : ℕ = 0 in
      sym (ap length B.reads.words ∙ length-sets (replicate room x) 0 (lay 0 t) ∙ length-replicate room x)

  pub whole-left : q.at < length s → limited_read s o ≡ refused 12 q.at
  unfolding judged closing
  whole-left h = read_walk s o q (Ok root) short B ∙ rw (B.says [] [] refl ∙ group-closes s [] _ q.at h)

  module _ (all : length s ≤ q.at) where
    whole-tree : limited_read s o ≡ judged (length s) (tree t)
    unfolding chosen
    whole-tree = read_walk s o q (Ok root) short B ∙ ap (judged (length s)) (B.says [] [] refl ∙ group_open s [] t q.at all)

    pub whole-empty : nullable t ≡ true → limited_read s o ≡ refused 15 (length s)
    unfolding judged
    whole-empty e = whole-tree ∙ rw e

    module _ (some : nullable t ≡ false) where
      pub whole-many : limit < saturating t → limited_read s o ≡ refused 16 (length s)
      unfolding judged
      whole-many h = whole-tree ∙ rw (some, lt-ltb limit _ h)

      whole-read : saturating t ≤ limit → limited_read s o ≡ tree t
      unfolding judged
      whole-read h = whole-tree ∙ rw (some, le-ltb limit _ h)

      pub whole-answer : (k : ℕ) → k ≡ saturating t → k ≤ limit → answered (Ok (record { root = root; size = q.tree.n; positions = k; nodes = q.tree.words })) ≡ answer_of (limited_read s o)
      unfolding answer_of
      whole-answer k ek h =
          let X = B.reads in
          let en : q.tree.n ≡ width t = omega (arith, X.count) in
          let er : root ≡ width t - 1 = omega (arith, X.count, X.top) in
          let eb = words-answer t (replicate room 0) q.tree.words X.tidy (omega (arith, X.count, X.space, short)) refl X.words in
          rw (whole-read (omega arith)) (λ i. record { number = 0; place = 0; root = er i; size = en i; positions = ek i; nodes = eb i })
