-- What each return of a reader owes: one law for each return, over the parser before, p, and those
-- after the calls, q and u. The walk's steps are chained; the words are one run of stores after
-- another. Assumes nothing.
use mathlib.Core.Path.{◌≡◌, refl, sym, ap, subst, ◌∙◌}
use mathlib.Core.List.{List, [], ◌∷◌, ◌++◌}
use mathlib.Core.Logic.{◌⊎◌, inl, inr}
use Prim.Native.Nat.{ℕ, suc, ◌+◌, ◌*◌, ◌-◌, ◌≤◌, ◌<◌}
use native.Mathlib.Omega.{arith}
use native.Mathlib.Numerals.{add-one}
use borrow.Author.Tests.{eq-eqb, ne_eqb}
use lib.ListN.{length, get_or, drop, length-drop}
use lib.Seq.{sets, length-sets}
use Rattle.std.specs.Prelude.{Option, Some, None, Result, Ok, Err}
use Rattle.refusals.specs.Refusal.{number_of}
use Rattle.refusals.specs.declared.Refusal.{Refusal}
use Rattle.refusals.specs.declared.Refusal.TheVariants.{BadGroup, BadQuantifier, DeepGroup}
use Rattle.refusals.specs.declared.Fault.{Fault}
use Rattle.refusals.proofs.Laws.{number-above}
use Rattle.sets.proofs.Laws.{Words}
use Rattle.classes.specs.Class as classes
use Rattle.tokens.specs.declared.Options.{Options}
use Rattle.atoms.specs.declared.Atom.{Atom}
use Rattle.atoms.specs.declared.Atom.TheVariants.{Byte, OfKind, NotOfKind, Dot, NotNewline, Start, LastLine, End, Caret, Dollar, WordEdge, NoWordEdge}
use Rattle.tokens.specs.Lexeme.{Token}
use Rattle.tokens.specs.Lexeme.{Class, One, Open, Set, Note, Unclosed, Repeat, Bad}
use Rattle.tokens.specs.Lexeme.{Lexeme}
use Rattle.classes.specs.Class.{class_of}
use Rattle.classes.specs.Answer.{class}
use Rattle.atoms.specs.Number.{cap}
use Rattle.tokens.specs.Token.{lexeme_of, item_set}
use Rattle.atoms.proofs.Suffixes.{inside}
use Rattle.meaning.specs.Tree.{empty, item, assertion, then, or, repeat}
use Rattle.meaning.specs.Rule.{Assertion}
use Rattle.nodes.specs.Nodes.{Syntax, word, code_of, tree_at, width, lay, extra_of}
use Rattle.pattern.specs.Walk.{nothing, single, Frame, refused, chained, chosen, one, closing}
use Rattle.nodes.specs.Invariants.{Tidy}
use Rattle.pattern.specs.Invariants.{lent, pushed, pushed_item, Room, onward, told, state, from, group_ends, class_ends, Read-up, Reads, Said, room_from, SaysBranches, SaysSequence, SaysOne, SaysQuantified, SaidBranches, SaidSequence, SaidItem, SaidOne, SaidClass, SaidQuantified, assertion_for, in_code}
use Rattle.pattern.specs.declared.writer.Arena.{Arena}
use Rattle.pattern.specs.declared.items.Parser.{Parser}
use Rattle.nodes.specs.Node.{named, meant}
use Rattle.nodes.specs.declared.layout.Assertion as code
use Rattle.nodes.proofs.Nodes.{meant-named}
use Rattle.nodes.proofs.Trees.{laid-tree, both-laid, one-laid, number-extra, extra-number}
use Rattle.pattern.proofs.Sets.{words-item, Closed, class-closed}
use Rattle.pattern.proofs.Steps.{lex, At, at-token, Ends, Other, from_one, from-set, from-note, from-unclosed, from-open, from_deep, from-class, from-fault, from-repeat, from-repeat-fault, free_other, branch-bar, branch-last, group-closes, group_open, from_end}

-- ---- the parser with a part changed

abbrev pub moved : Parser → ℕ → Options → Parser
moved p at o = record { at = at; options = o; tree = p.tree }

abbrev pub with_tree : Parser → Arena → Parser
with_tree p b = record { at = p.at; options = p.options; tree = b }

abbrev pub fault_at : Refusal → ℕ → Fault
fault_at r place = record { refusal = r; place = place }

no-zero : (r : Refusal) → number_of r ≡ 0 → ⊥
no-zero r z = omega (arith, number-above r)

-- ---- making an answer's record

-- a tree that was read is the one of its node
module _ (P : Syntax → Type 0) (s : List ℕ) (a : Arena) (q : Parser) (lo room : ℕ) where
  said-yes : (t : Syntax) (root : ℕ) → length a.words ≡ lent → q.tree.n ≤ lent → Read-up s a q lo room t root → P t → Said P s a q lo room (Ok root)
  said-yes t root l h r k =
      let e : t ≡ tree_at q.tree.words root =
      sym (laid-tree t a.words q.tree.words a.n root (omega (arith, r.count, r.top)) (omega (arith, r.count)) (omega (arith, r.count)) r.tidy r.words) in
      record { says = subst P e k; reads = subst (λ (x : Syntax). Read-up s a q lo room x root) e r }

weaker : (s : List ℕ) (a : Arena) (q : Parser) (lo lo' room room' : ℕ) (r : Result ℕ Fault) → lo' ≤ lo → room ≤ room' → Reads s a q lo room r → Reads s a q lo' room' r
weaker s a q lo lo' room room' (Ok root) h k r =
    record { words = r.words; tidy = r.tidy; count = r.count; top = r.top; on = omega (arith, r.on); inside = r.inside; space = omega (arith, r.space) }
weaker s a q lo lo' room room' (Err f) h k r = tt

-- the words stay as many
same-long : (s : List ℕ) (a : Arena) (q : Parser) (lo room : ℕ) (t : Syntax) (root : ℕ) → Read-up s a q lo room t root → length a.words ≡ lent → length q.tree.words ≡ lent
same-long s a q lo room t root r l = ap length r.words ∙ length-sets a.words a.n (lay a.n t) ∙ l

-- what a node with two children asks, where n is its number
abbrev Joins : (g h n : ℕ) → Type 0
Joins g h n = (n < lent) × (g < n) × (h < n)

-- a node without children, at the first free word
module _ (P : Syntax → Type 0) (s : List ℕ) (p : Parser) (more : ℕ) (room : Room s p more) (some : 1 ≤ more) where
  leaf-said : (t : Syntax) (w : ℕ) → lay p.tree.n t ≡ w ∷ [] → width t ≡ 1 → Tidy t → P t
      → Said P s p.tree (with_tree p (pushed p.tree w)) p.at (room_from s p p.at more) (Ok p.tree.n)
  leaf-said t w l k d h =
      said-yes P s p.tree (with_tree p (pushed p.tree w)) p.at (room_from s p p.at more) t p.tree.n room.long (omega (arith, room.space))
      (record { words = rw l; tidy = d; count = omega arith; top = refl; on = omega arith; inside = room.inside; space = omega arith }) h

-- a node above two trees, of which the second was read after the first
module _ (s : List ℕ) (a : Arena) (q u : Parser) (g h : ℕ) (x y : Syntax) (lx rx ly ry : ℕ) (X : Read-up s a q lx rx x g) (Y : Read-up s q.tree u ly ry y h) where
  both-up : (op : ℕ) (t : Syntax) (lo room : ℕ)
      → lay a.n t ≡ (lay a.n x ++ lay (a.n + width x) y) ++ (word op (a.n + width x - 1) (a.n + width x + width y - 1) 0 ∷ [])
      → width t ≡ width x + width y + 1 → Tidy t → lo ≤ u.at → u.tree.n + 1 + 6 * (length s - u.at) ≤ room
      → Read-up s a (with_tree u (pushed u.tree (word op g h 0))) lo room t u.tree.n
  both-up op t lo room l k d o m =
      let p : a.n + width x - 1 ≡ g = omega (arith, X.count, X.top) in
      let q' : a.n + width x + width y - 1 ≡ h = omega (arith, X.count, Y.count, Y.top) in
      record {
        words = both-laid x y a.words q.tree.words u.tree.words a.n q.tree.n u.tree.n (word op g h 0) X.words Y.words X.count Y.count X.tidy Y.tidy ∙ ap (sets a.words a.n) (sym (rw (p, q') at l));
        tidy = d;
        count = omega (arith, X.count, Y.count);
        top = refl;
        on = o;
        inside = Y.inside;
        space = m;
      }

-- ---- a sequence

-- an option setting or a note, and the options after it
abbrev pub Passes : Token → Options → Type 0
Passes t i = (t ≡ Set i) ⊎ (t ≡ Note i)

module _ (s : List ℕ) (p : Parser) (d : ℕ) (room : Room s p 1) where
  module _ (l : Lexeme) (e : lexeme_of p.options (drop p.at s) ≡ l) where
    pub seq_end : (b : Arena) (root : ℕ) → Ends l.token → root ≡ p.tree.n → b ≡ pushed p.tree (word 0 0 0 0) → SaidSequence s p (with_tree p b) d (Ok root)
    unfolding width lay Tidy
    seq_end b root u er eb =
        rw (er, eb)
        (leaf-said (SaysSequence s p d p (Ok p.tree.n)) s p 1 room (omega arith) empty (word 0 0 0 0) refl refl tt
        (λ st al it z. from_end s p.at st al it p.options l.fault l.size l.token e u))

    pub seq-fault : (q : Parser) (r : Refusal) → l.token ≡ Bad → l.fault ≡ number_of r → SaidSequence s p q d (Err (fault_at r p.at))
    seq-fault q r t f = record {
      says = λ st al it z. from-fault s p.at st al it p.options l.fault l.size Bad (at-token s p.at p.options l Bad e t refl) (λ y. no-zero r (sym f ∙ y)) ∙ ap (λ (n : ℕ). refused n p.at) f;
      reads = tt;
    }

    pub seq-unclosed : (q : Parser) → l.token ≡ Unclosed → SaidSequence s p q d (Err (fault_at BadGroup (length s)))
    seq-unclosed q t = record {
      says = λ st al it z. from-unclosed s p.at st al it p.options l.fault l.size (at-token s p.at p.options l Unclosed e t refl);
      reads = tt;
    }

    -- a setting or a note stands here, and the branch goes on after it with the options i
    module _ (i : Options) where
      pass-over : Passes l.token i → (st : List Frame) (al it : List Syntax) → from s p.at (state st al it p.options nothing) ≡ from s (p.at + l.size) (state st al it i nothing)
      pass-over (inl t) st al it = from-set s p.at st al it p.options l.fault l.size i (at-token s p.at p.options l (Set i) e t refl)
      pass-over (inr t) st al it = from-note s p.at st al it p.options l.fault l.size i nothing (at-token s p.at p.options l (Note i) e t refl)

      pub seq-pass : (q : Parser) (r : Result ℕ Fault) → Passes l.token i → SaidSequence s (moved p (p.at + l.size) i) q d r → SaidSequence s p q d r
      seq-pass q r t S = record {
        says = λ st al it z. pass-over t st al it ∙ S.says st al it z;
        reads = weaker s p.tree q (p.at + l.size) p.at _ _ r (omega arith) (omega arith) S.reads;
      }

      pub seq-pass-inside : Passes l.token i → (1 ≤ l.size) × (p.at + l.size ≤ length s)
      seq-pass-inside (inl t) =
          let h = at-token s p.at p.options l (Set i) e t refl in
          (h.sound.some h.sound.right, omega (arith, h.sound.fits, h.inside))
      seq-pass-inside (inr t) =
          let h = at-token s p.at p.options l (Note i) e t refl in
          (h.sound.some h.sound.right, omega (arith, h.sound.fits, h.inside))

  module _ (q : Parser) where
    pub seq-item-no : (f : Fault) → SaidItem s p q d (Err f) → SaidSequence s p q d (Err f)
    seq-item-no f I = record { says = I.says; reads = tt }

    module _ (g : ℕ) (I : SaidItem s p q d (Ok g)) where
      pub seq-room : Room s q 1 × (p.at < q.at)
      seq-room =
          let X = I.reads in
          (record { inside = X.inside; space = omega (arith, X.space, X.on, X.inside, room.space); long = same-long s p.tree q _ _ _ g X room.long }, omega (arith, X.on))

      module _ (u : Parser) where
        pub seq-rest-no : (f : Fault) → SaidSequence s q u d (Err f) → SaidSequence s p u d (Err f)
        seq-rest-no f S = record { says = λ st al it z. I.says st al it z ∙ S.says st al (tree_at q.tree.words g ∷ it) z; reads = tt }

        module _ (h : ℕ) (S : SaidSequence s q u d (Ok h)) where
          pub seq-joins : Joins g h u.tree.n
          seq-joins =
              let X = I.reads in
              let Y = S.reads in
              (omega (arith, room.space, X.space, Y.space, X.on, X.inside), omega (arith, X.top, Y.count), omega (arith, Y.top))

          pub seq-both : (b : Arena) (root : ℕ) → root ≡ u.tree.n → b ≡ pushed u.tree (word 3 g h 0) → SaidSequence s p (with_tree u b) d (Ok root)
          unfolding chained width lay Tidy
          seq-both b root er eb =
              let x : Syntax = tree_at q.tree.words g in
              let y : Syntax = tree_at u.tree.words h in
              let X = I.reads in
              let Y = S.reads in
              rw (er, eb)
              (said-yes (SaysSequence s p d u (Ok u.tree.n)) s p.tree (with_tree u (pushed u.tree (word 3 g h 0))) _ _ (then x y) u.tree.n
              room.long (omega (arith, room.space, X.space, Y.space, X.on))
              (both-up s p.tree q u g h x y _ _ _ _ X Y 3 (then x y) _ _ refl refl (X.tidy, Y.tidy) (omega (arith, X.on, Y.on)) (omega (arith, X.space, Y.space, X.on, X.inside)))
              (λ st al it z. I.says st al it z ∙ S.says st al (x ∷ it) z))

-- ---- branches

module _ (s : List ℕ) (p : Parser) (d : ℕ) (room : Room s p 1) (q : Parser) where
  pub alt-first-no : (f : Fault) → SaidSequence s p q d (Err f) → SaidBranches s p q d (Err f)
  alt-first-no f S = record { says = λ st al z. S.says st al [] z; reads = tt }

  module _ (g : ℕ) (S : SaidSequence s p q d (Ok g)) where
    pub alt-last : (get_or s q.at 0 ≡ 124 → ⊥) → SaidBranches s p q d (Ok g)
    unfolding chained
    alt-last bar = record {
      says = λ st al z. S.says st al [] z ∙ branch-last s st al (tree_at q.tree.words g) q.options q.at bar;
      reads = S.reads;
    }

    module _ (bar : get_or s q.at 0 ≡ 124) where
      pub alt-inside : q.at < length s
      alt-inside = inside s q.at (λ z. omega arith)

      pub alt-room : Room s (moved q (q.at + 1) q.options) 1 × (p.at ≤ q.at)
      alt-room =
          let X = S.reads in
          let i = alt-inside in
          (record { inside = omega arith; space = omega (arith, X.space, X.on, room.space); long = same-long s p.tree q _ _ _ g X room.long }, X.on)

      over : (st : List Frame) (al : List Syntax) → length st ≡ d → from s p.at (state st al [] p.options nothing) ≡ from s (q.at + 1) (state st (tree_at q.tree.words g ∷ al) [] q.options nothing)
      unfolding chained
      over st al z = S.says st al [] z ∙ branch-bar s st al (tree_at q.tree.words g) q.options q.at bar

      pub alt-rest-no : (u : Parser) (f : Fault) → SaidBranches s (moved q (q.at + 1) q.options) u d (Err f) → SaidBranches s p u d (Err f)
      alt-rest-no u f B = record { says = λ st al z. over st al z ∙ B.says st (tree_at q.tree.words g ∷ al) z; reads = tt }

      module _ (u : Parser) (h : ℕ) (B : SaidBranches s (moved q (q.at + 1) q.options) u d (Ok h)) where
        pub alt-joins : Joins g h u.tree.n
        alt-joins =
            let X = S.reads in
            let Y = B.reads in
            let i = alt-inside in
            (omega (arith, room.space, X.space, Y.space, X.on), omega (arith, X.top, Y.count), omega (arith, Y.top))

        pub alt-both : (b : Arena) (root : ℕ) → root ≡ u.tree.n → b ≡ pushed u.tree (word 4 g h 0) → SaidBranches s p (with_tree u b) d (Ok root)
        unfolding chosen width lay Tidy
        alt-both b root er eb =
            let x : Syntax = tree_at q.tree.words g in
            let y : Syntax = tree_at u.tree.words h in
            let X = S.reads in
            let Y = B.reads in
            let i = alt-inside in
            rw (er, eb)
            (said-yes (SaysBranches s p d u (Ok u.tree.n)) s p.tree (with_tree u (pushed u.tree (word 4 g h 0))) _ _ (or x y) u.tree.n
            room.long (omega (arith, room.space, X.space, Y.space, X.on))
            (both-up s p.tree q u g h x y _ _ _ _ X Y 4 (or x y) _ _ refl refl (X.tidy, Y.tidy) (omega (arith, X.on, Y.on)) (omega (arith, X.space, Y.space, X.on, X.inside)))
            (λ st al z. over st al z ∙ B.says st (x ∷ al) z))

-- ---- an item

module _ (s : List ℕ) (p : Parser) (d : ℕ) (room : Room s p 0) (l : Lexeme) (here : lexeme_of p.options (drop p.at s) ≡ l) where
  -- a quantifier with nothing to repeat
  pub item-nothing : (q : Parser) (n j : ℕ) → l.token ≡ Repeat n j → SaidItem s p q d (Err (fault_at BadQuantifier p.at))
  item-nothing q n j t = record {
    says = λ st al it z. from-fault s p.at st al it p.options l.fault l.size (Repeat n j) (at-token s p.at p.options l (Repeat n j) here t refl) (λ y. omega arith);
    reads = tt;
  }

  -- past a token, with words for an item there
  past-room : (k : ℕ) → 1 ≤ k → p.at + k ≤ length s → Room s (moved p (p.at + k) p.options) 5
  past-room k h i = record { inside = i; space = omega (arith, room.space); long = room.long }

  module _ (x : Atom) (t : l.token ≡ One x) where
    one-at : At s p.at p.options (lex l.fault l.size (One x))
    one-at = at-token s p.at p.options l (One x) here t refl

    pub one-room : Room s (moved p (p.at + l.size) p.options) 5
    one-room = past-room l.size (one-at.sound.some one-at.sound.right) (omega (arith, one-at.sound.fits, one-at.inside))

    pub item-one : (q : Parser) (r : Result ℕ Fault) → SaidOne s (moved p (p.at + l.size) p.options) q x r → SaidItem s p q d r
    item-one q r S = record {
      says = λ st al it z. from_one s p.at st al it p.options l.fault l.size x one-at ∙ S.says st al it;
      reads = weaker s p.tree q (p.at + l.size) (p.at + 1) _ _ r (omega (arith, one-at.sound.some one-at.sound.right)) (omega (arith, one-at.sound.some one-at.sound.right)) S.reads;
    }

  module _ (t : l.token ≡ Class) where
    class-at : At s p.at p.options (lex l.fault l.size Class)
    class-at = at-token s p.at p.options l Class here t refl

    pub class-room : Room s (moved p (p.at + 1) p.options) 5
    class-room = past-room 1 (omega arith) (omega (arith, class-at.inside))

    pub item-class : (q : Parser) (r : Result ℕ Fault) → SaidClass s (moved p (p.at + 1) p.options) q r → SaidItem s p q d r
    item-class q r S = record {
      says = λ st al it z. from-class s p.at st al it p.options l.fault l.size class-at ∙ S.says st al it;
      reads = S.reads;
    }

  module _ (i : Options) (t : l.token ≡ Open i) where
    A : At s p.at p.options (lex l.fault l.size (Open i))
    A = at-token s p.at p.options l (Open i) here t refl

    pub open-room : Room s (moved p (p.at + l.size) i) 1 × (1 ≤ l.size)
    open-room =
        let k = A.sound.some A.sound.right in
        (record { inside = omega (arith, A.sound.fits, A.inside); space = omega (arith, room.space, A.sound.fits, A.inside); long = room.long }, k)

    pub item-deep : (q : Parser) → d ≡ 16 → SaidItem s p q d (Err (fault_at DeepGroup p.at))
    item-deep q e = record { says = λ st al it z. from_deep s p.at st al it p.options l.fault l.size i A (omega arith); reads = tt }

    module _ (shallow : d < 16) (q : Parser) where
      enter : (r : Result ℕ Fault) → SaidBranches s (moved p (p.at + l.size) i) q (d + 1) r → (st : List Frame) (al it : List Syntax) → length st ≡ d
          → from s p.at (state st al it p.options nothing) ≡ onward r (group_ends s (record { branches = al; items = it; options = p.options } ∷ st) (told q r) q.at)
      unfolding chosen
      enter r B st al it z =
          from-open s p.at st al it p.options l.fault l.size i A (omega arith)
          ∙ B.says (record { branches = al; items = it; options = p.options } ∷ st) [] (ap suc z ∙ sym (add-one d))

      pub item-inner-no : (f : Fault) → SaidBranches s (moved p (p.at + l.size) i) q (d + 1) (Err f) → SaidItem s p q d (Err f)
      item-inner-no f B = record { says = enter (Err f) B; reads = tt }

      module _ (g : ℕ) (B : SaidBranches s (moved p (p.at + l.size) i) q (d + 1) (Ok g)) where
        pub item-open : q.at ≡ length s → SaidItem s p q d (Err (fault_at BadGroup q.at))
        item-open e = record { says = λ st al it z. enter (Ok g) B st al it z ∙ group_open s _ _ q.at (omega arith); reads = tt }

        module _ (ne : q.at ≡ length s → ⊥) where
          lt : q.at < length s
          lt = omega (arith, B.reads.inside, ne)

          pub group-room : Room s (moved q (q.at + 1) p.options) 0 × (g + 1 ≡ q.tree.n)
          group-room =
              let X = B.reads in
              let k = A.sound.some A.sound.right in
              (record { inside = omega (arith, lt); space = omega (arith, X.space, X.on, room.space, lt); long = same-long s p.tree q _ _ _ g X room.long }, X.top)

          pub item-group : (u : Parser) (r : Result ℕ Fault) → SaidQuantified s (moved q (q.at + 1) p.options) u g r → SaidItem s p u d r
          unfolding closing
          item-group u r Q =
              let X = B.reads in
              let k = A.sound.some A.sound.right in
              let m = Q p.tree (p.at + 1) (room_from s p (p.at + 1) 5) (record {
                words = X.words;
                tidy = X.tidy;
                count = X.count;
                top = X.top;
                on = omega (arith, X.on);
                inside = omega (arith, lt);
                space = omega (arith, X.space, X.on, lt);
              }) in
              record {
                says = λ st al it z. enter (Ok g) B st al it z ∙ group-closes s _ (tree_at q.tree.words g) q.at lt ∙ m.says st al it;
                reads = m.reads;
              }

-- ---- the quantifier that may follow

module _ (s : List ℕ) (p : Parser) (root : ℕ) (room : Room s p 0) (l : Lexeme) (here : lexeme_of p.options (drop p.at s) ≡ l) where
  pub quantified-none : Other l.token → SaidQuantified s p p root (Ok root)
  quantified-none t = λ a lo r R. record {
    says = λ st al it. free_other s p.at st al (tree_at p.tree.words root ∷ it) p.options (rw here t);
    reads = R;
  }

  module _ (i : Options) (t : l.token ≡ Note i) where
    N-at : At s p.at p.options (lex l.fault l.size (Note i))
    N-at = at-token s p.at p.options l (Note i) here t refl

    pub note-inside : (1 ≤ l.size) × (p.at + l.size ≤ length s)
    note-inside = (N-at.sound.some N-at.sound.right, omega (arith, N-at.sound.fits, N-at.inside))

    pub note-room : Room s (moved p (p.at + l.size) i) 0
    note-room = let f = note-inside in record { inside = f.1; space = omega (arith, room.space); long = room.long }

    pub quantified-note : (q : Parser) (r : Result ℕ Fault) → SaidQuantified s (moved p (p.at + l.size) i) q root r → SaidQuantified s p q root r
    quantified-note q r Q = λ a lo m R.
        let f = note-inside in
        let k = Q a lo m (record {
          words = R.words;
          tidy = R.tidy;
          count = R.count;
          top = R.top;
          on = omega (arith, R.on);
          inside = f.1;
          space = omega (arith, R.space);
        }) in
        record {
          says = λ st al it. from-note s p.at st al (tree_at p.tree.words root ∷ it) p.options l.fault l.size i single N-at ∙ k.says st al it;
          reads = k.reads;
        }

  module _ (m j : ℕ) (t : l.token ≡ Repeat m j) where
    R-at : At s p.at p.options (lex l.fault l.size (Repeat m j))
    R-at = at-token s p.at p.options l (Repeat m j) here t refl

    pub quantified-fault : (r : Refusal) → l.fault ≡ number_of r → SaidQuantified s p p root (Err (fault_at r p.at))
    quantified-fault r f = λ a lo room' R. record {
      says = λ st al it. from-repeat-fault s p.at st al it p.options (tree_at p.tree.words root) m j l.fault l.size R-at (λ y. no-zero r (sym f ∙ y)) ∙ ap (λ (n : ℕ). refused n p.at) f;
      reads = tt;
    }

    pub quantified-bounds : (m < cap) × (j ≤ cap)
    quantified-bounds = (R-at.sound.right.0, R-at.sound.right.1)

    pub quantified-inside : l.fault ≡ 0 → (1 ≤ l.size) × (p.at + l.size ≤ length s)
    quantified-inside z = (R-at.sound.some z, omega (arith, R-at.sound.fits, R-at.inside))

    pub quantified-yes : (b : Arena) (k : ℕ) → l.fault ≡ 0 → k ≡ p.tree.n → b ≡ pushed p.tree (word 5 root m j) → SaidQuantified s p (with_tree (moved p (p.at + l.size) p.options) b) root (Ok k)
    unfolding width lay Tidy
    quantified-yes b k z ek eb =
        rw (ek, eb)
        (λ a lo r X.
        let x : Syntax = tree_at p.tree.words root in
        let f = quantified-inside z in
        let e : a.n + width x - 1 ≡ root = omega (arith, X.count, X.top) in
        let long : length a.words ≡ lent = sym (length-sets a.words a.n (lay a.n x)) ∙ sym (ap length X.words) ∙ room.long in
        let q : Parser = with_tree (moved p (p.at + l.size) p.options) (pushed p.tree (word 5 root m j)) in
        said-yes (SaysQuantified s p x q (Ok p.tree.n)) s a q lo r (repeat x m (extra_of j)) p.tree.n
        long (omega (arith, room.space, X.space))
        (record {
          words = rw (e, number-extra j) (one-laid x a.words p.tree.words a.n p.tree.n (word 5 root m j) X.words X.count X.tidy);
          tidy = (X.tidy, R-at.sound.right.0, extra-number j);
          count = omega (arith, X.count);
          top = refl;
          on = omega (arith, X.on);
          inside = f.1;
          space = omega (arith, X.space);
        })
        (λ st al it. from-repeat s p.at st al it p.options x m j l.fault l.size R-at z))

-- ---- an item with its set, and the quantifier that may follow

-- what an atom does: it stands for an assertion, or takes a byte
module _ (st : List Frame) (al it : List Syntax) (o : Options) where
  one-stands : (x : Atom) (y : Assertion) → assertion_for o x ≡ Some y → one (state st al it o nothing) x ≡ state st al (assertion y ∷ it) o nothing
  unfolding one
  one-stands (Byte b) y e = cc
  one-stands (OfKind i) y e = cc
  one-stands (NotOfKind i) y e = cc
  one-stands Dot y e = cc
  one-stands NotNewline y e = cc
  one-stands Start y e = cc
  one-stands LastLine y e = cc
  one-stands End y e = cc
  one-stands Caret y e = cc
  one-stands Dollar y e = cc
  one-stands WordEdge y e = cc
  one-stands NoWordEdge y e = cc

  one-takes : (x : Atom) → assertion_for o x ≡ None → one (state st al it o nothing) x ≡ state st al (item (item_set o x) ∷ it) o single
  unfolding one
  one-takes (Byte b) e = refl
  one-takes (OfKind i) e = refl
  one-takes (NotOfKind i) e = refl
  one-takes Dot e = refl
  one-takes NotNewline e = refl
  one-takes Start e = cc
  one-takes LastLine e = cc
  one-takes End e = cc
  one-takes Caret e = cc
  one-takes Dollar e = cc
  one-takes WordEdge e = cc
  one-takes NoWordEdge e = cc

-- an assertion, by its name in the code
pub in-code-some : (m : Option Assertion) (k : code.Assertion) → Some k ≡ in_code m → (y : Assertion) × (m ≡ Some y) × (meant k ≡ y)
in-code-some None k e = cc
in-code-some (Some y) k e = let h : k ≡ named y = cc in (y, refl, rw h (meant-named y))

pub in-code-none : (m : Option Assertion) → None ≡ in_code m → m ≡ None
in-code-none None e = refl
in-code-none (Some y) e = cc

module _ (s : List ℕ) (p : Parser) (room : Room s p 5) where
  -- what is left of the room after an item's words, at place k
  pub item_room : (k : ℕ) (o : Options) (bytes : List ℕ) (b : Arena) → p.at ≤ k → k ≤ length s → b ≡ pushed_item p.tree bytes → Room s (record { at = k; options = o; tree = b }) 0
  item_room k o bytes b h i e = rw e (record { inside = i; space = omega (arith, room.space); long = length-sets p.tree.words p.tree.n (bytes ++ (word 1 0 0 0 ∷ [])) ∙ room.long })

  -- the item is read up to place k
  module _ (k : ℕ) (bytes : List ℕ) (b : Arena) (root : ℕ) (u : Parser) (r : Result ℕ Fault) (h : p.at ≤ k) (i : k ≤ length s) (w : Words bytes) (er : root ≡ p.tree.n + 4) (eb : b ≡ pushed_item p.tree bytes) where
    q : Parser
    q = record { at = k; options = p.options; tree = pushed_item p.tree bytes }

    item-read : SaidQuantified s (record { at = k; options = p.options; tree = b }) u root r
        → Said (SaysQuantified s (record { at = k; options = p.options; tree = p.tree }) (item bytes) u r) s p.tree u p.at (room_from s p p.at 5) r
    unfolding width lay Tidy q
    item-read Q =
        let R : Read-up s p.tree q p.at (room_from s p p.at 5) (item bytes) (p.tree.n + 4) =
        record { words = refl; tidy = w; count = refl; top = omega arith; on = h; inside = i; space = omega arith } in
        let t : tree_at q.tree.words (p.tree.n + 4) ≡ item bytes = laid-tree (item bytes) p.tree.words q.tree.words p.tree.n (p.tree.n + 4) (omega arith) (omega (arith, room.space)) (omega (arith, room.space, room.long)) w refl in
        let Q' : SaidQuantified s q u (p.tree.n + 4) r = rw (er, eb) at Q in
        (rw t at Q') p.tree p.at (room_from s p p.at 5) R

  -- an atom that stands for the assertion y
  pub one-assertion : (x : Atom) (y : Assertion) → assertion_for p.options x ≡ Some y
      → (b : Arena) (root : ℕ) → root ≡ p.tree.n → b ≡ pushed p.tree (word 2 (code_of y) 0 0) → SaidOne s p (with_tree p b) x (Ok root)
  unfolding width lay Tidy
  one-assertion x y h b root er eb =
      rw (er, eb)
      (leaf-said (SaysOne s p x p (Ok p.tree.n)) s p 5 room (omega arith) (assertion y) (word 2 (code_of y) 0 0) refl refl tt
      (λ st al it. rw (one-stands st al it p.options x y h)))

  -- an atom that takes a byte
  pub one-item : (x : Atom) → assertion_for p.options x ≡ None → (bytes : List ℕ) (b : Arena) (root : ℕ) (u : Parser) (r : Result ℕ Fault) → bytes ≡ item_set p.options x → root ≡ p.tree.n + 4 → b ≡ pushed_item p.tree bytes
      → SaidQuantified s (with_tree p b) u root r → SaidOne s p u x r
  one-item x k bytes b root u r e er eb Q =
      let S = item-read p.at bytes b root u r (omega arith) room.inside (rw e (words-item p.options x)) er eb Q in
      record { says = λ st al it. rw (one-takes st al it p.options x k, ← e) (S.says st al it); reads = S.reads }

  pub class-fault : (q : Parser) (f : Fault) → class (Err f) ≡ class_of p.options.caseless (drop p.at s) p.at → SaidClass s p q (Err f)
  unfolding class_ends
  class-fault q f e = record { says = λ st al it. rw (← e, ne_eqb (number_of f.refusal) 0 (no-zero f.refusal)); reads = tt }

  module _ (c : classes.Class) (e : c ≡ class_of p.options.caseless (drop p.at s) p.at) where
    module _ (z : c.number ≡ 0) where
      closed-at : Closed (drop p.at s) p.at c
      closed-at = rw e (class-closed p.options.caseless (drop p.at s) p.at (rw e at z))

      pub class-inside : (p.at ≤ c.place) × (c.place ≤ length s)
      class-inside = (omega (arith, closed-at.on), omega (arith, closed-at.inside, length-drop p.at s, room.inside))

      pub class-item : (b : Arena) (root : ℕ) (u : Parser) (r : Result ℕ Fault) → root ≡ p.tree.n + 4 → b ≡ pushed_item p.tree c.set
          → SaidQuantified s (record { at = c.place; options = p.options; tree = b }) u root r → SaidClass s p u r
      unfolding class_ends
      class-item b root u r er eb Q =
          let S = item-read c.place c.set b root u r class-inside.0 class-inside.1 closed-at.words er eb Q in
          record { says = λ st al it. rw (← e, eq-eqb c.number 0 z) (S.says st al it); reads = S.reads }
