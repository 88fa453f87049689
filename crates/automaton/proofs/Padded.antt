-- The rows as they are handed out: those of the rule's positions moved to the front, and zeros. The
-- rows of the other positions hold nothing, so what stands behind is zeros already.
use mathlib.Core.Path.{◌≡◌, refl, sym, ap, ap₂, subst, ◌∙◌}
use mathlib.Core.Bool.{Bool, true, false, ◌||◌}
use mathlib.Core.List.{List, [], ◌∷◌, ◌++◌, append_assoc, append-nil}
use Prim.Native.Nat.{ℕ, zero, suc, ◌+◌, ◌*◌, ◌-◌, ◌/◌, ◌^◌, ◌≤◌, ◌<◌}
use native.Mathlib.Nat.{add-zero}
use native.Mathlib.Numerals.{add-one}
use native.Mathlib.Omega.{arith}
use borrow.Author.Tests.{le-leb, lt-leb}
use mir.Syntax.{w64}
use mir.Val.{Fits}
use lib.ListN.{length, get_or, take, drop, set, replicate, length-append, length-drop, length-replicate, get_or-replicate, replicate-append-replicate, take-append-drop, get_or-append}
use lib.Seq.{sets, sets-eq, set_at, take-suc, take-length, append_snoc, length-take-le, get_or-drop, get_or-take, drop-drop, drop_at, ext_get_or}
use Rattle.sets.specs.Set.{has, set_of, empty_set}
use Rattle.sets.proofs.Laws.{Words, words-set_of, by_members, set_of-ext, zero_word, empty-words}
use Rattle.meaning.specs.Form.{write, positions}
use Rattle.meaning.specs.Rule.{ByteSet}
use Rattle.meaning.specs.Automaton.{follow, items}
use Rattle.meaning.proofs.Logic.{false-T}
use Rattle.meaning.proofs.Computed.{follow-T, items-length}
use Rattle.meaning.proofs.Range.{follow-inside}
use Rattle.nodes.specs.Nodes.{Syntax}
use Rattle.automaton.specs.Parts.{four_words, flat, rows_of, padded, world_of, form_parts, no_parts, parts_of}
use Rattle.automaton.specs.declared.Parts.{Parts}
use Rattle.automaton.specs.declared.fragments.Fragment.{Fragment}
use Rattle.nodes.specs.Invariants.{Written}
use Rattle.automaton.specs.Invariants.{fragment_of, has_at, Built, Fresh}
use Rattle.automaton.proofs.Words.{four-at, four-ext}
use Rattle.automaton.proofs.Steps.{length-flat}

abbrev pub zeros : ℕ → List ℕ
zeros n = replicate n 0

length-zeros : (n : ℕ) → length (zeros n) ≡ n
length-zeros n = length-replicate n 0

append-zeros : (m n : ℕ) → zeros m ++ zeros n ≡ zeros (m + n)
append-zeros m n = replicate-append-replicate m n 0

-- ---- words moved one by one to the front, over zeros

abbrev pub moved_up : List ℕ → ℕ → List ℕ
moved_up x i = take i x ++ zeros (1024 - i)

pub moved_more : (x : List ℕ) (i : ℕ) → i < length x → i < 1024 → set (moved_up x i) i (get_or x i 0) ≡ moved_up x (i + 1)
moved_more x i h l =
    let e : 1024 - i ≡ suc (1024 - (i + 1)) = omega arith in
    ap (λ (k : ℕ). set (take i x ++ zeros k) i (get_or x i 0)) e
    ∙ set_at (take i x) 0 (zeros (1024 - (i + 1))) (get_or x i 0) i (length-take-le i x (omega arith))
    ∙ sym (append_snoc (take i x) (get_or x i 0) (zeros (1024 - (i + 1))))
    ∙ ap (λ (u : List ℕ). u ++ zeros (1024 - (i + 1))) (sym (take-suc x i 0 h) ∙ ap (λ (k : ℕ). take k x) (sym (add-one i)))

pub moved_all : (x : List ℕ) (i : ℕ) → i ≡ length x → moved_up x i ≡ padded x
unfolding padded
moved_all x i e = rw e (ap (λ (u : List ℕ). u ++ zeros (1024 - length x)) (take-length x))

-- zeros behind the rows are padding
padded-more : (y : List ℕ) (m : ℕ) → length y + m ≤ 1024 → padded (y ++ zeros m) ≡ padded y
unfolding padded
padded-more y m h =
    let n : length (y ++ zeros m) ≡ length y + m = length-append y (zeros m) ∙ ap (λ (k : ℕ). length y + k) (length-zeros m) in
    let e : m + (1024 - length (y ++ zeros m)) ≡ 1024 - length y = omega arith in
    append_assoc y (zeros m) (zeros (1024 - length (y ++ zeros m)))
    ∙ ap (λ (l : List ℕ). y ++ l) (append-zeros m (1024 - length (y ++ zeros m)) ∙ ap (λ (k : ℕ). zeros k) e)

-- ---- rows, one after the other

rows_split : (m n : ℕ) (g : ℕ → List ℕ) → rows_of (m + n) g ≡ rows_of m g ++ rows_of n (λ i. g (m + i))
unfolding rows_of
rows_split m zero g = ap (λ (k : ℕ). rows_of k g) (add-zero m) ∙ sym (append-nil (rows_of m g))
rows_split m (suc n) g =
    let e : m + suc n ≡ suc (m + n) = omega arith in
    ap (λ (k : ℕ). rows_of k g) e ∙ ap (λ (l : List ℕ). l ++ g (m + n)) (rows_split m n g)
    ∙ append_assoc (rows_of m g) (rows_of n (λ i. g (m + i))) (g (m + n))

rows-length : (n : ℕ) (g : ℕ → List ℕ) → ((i : ℕ) → length (g i) ≡ 4) → length (rows_of n g) ≡ n * 4
unfolding rows_of
rows-length zero g four = refl
rows-length (suc n) g four = omega (arith, length-append (rows_of n g) (g n), rows-length n g four, four n)

rows-zero : (n : ℕ) (g : ℕ → List ℕ) → ((i : ℕ) → i < n → g i ≡ 0 ∷ 0 ∷ 0 ∷ 0 ∷ []) → rows_of n g ≡ zeros (n * 4)
unfolding rows_of
rows-zero zero g e = refl
rows-zero (suc n) g e =
    let s : n * 4 + 4 ≡ suc n * 4 = omega arith in
    ap₂ (λ (x y : List ℕ). x ++ y) (rows-zero n g (λ i h. e i (omega arith))) (e n (omega arith))
    ∙ append-zeros (n * 4) 4 ∙ ap (λ (k : ℕ). zeros k) s

-- words that are the rows' words, four by four
rows_are : (n : ℕ) (x : List ℕ) (g : ℕ → List ℕ) → length x ≡ n * 4 → ((i : ℕ) → i < n → four_words (drop (i * 4) x) ≡ g i) → x ≡ rows_of n g
unfolding rows_of
rows_are zero x g l e = ext_get_or 0 x [] (omega arith) (λ i h. absurd (omega arith))
rows_are (suc n) x g l e =
    sym (take-append-drop (n * 4) x)
    ∙ ap₂ (λ (a b : List ℕ). a ++ b)
    (rows_are n (take (n * 4) x) g (length-take-le (n * 4) x (omega arith))
    (λ i h. four-ext (drop (i * 4) (take (n * 4) x)) (drop (i * 4) x)
    (λ j m. get_or-drop (i * 4) (take (n * 4) x) j 0 ∙ get_or-take (n * 4) x (i * 4 + j) 0 (omega arith) ∙ sym (get_or-drop (i * 4) x j 0))
    ∙ e i (omega arith)))
    (last-four ∙ e n (omega arith))
  where
    last-four : drop (n * 4) x ≡ four_words (drop (n * 4) x)
    last-four =
        let four : length (drop (n * 4) x) ≡ 4 = omega (arith, length-drop (n * 4) x) in
        ext_get_or 0 (drop (n * 4) x) (four_words (drop (n * 4) x)) four (λ i h. sym (four-at (drop (n * 4) x) i (omega arith)))

-- ---- nothing is there at first

has-zeros : (p q : ℕ) → p < 256 → q < 256 → has_at (zeros 1024) p q ≡ false
unfolding has_at
has-zeros p q h i =
    zero_word (four_words (drop (p * 4) (zeros 1024))) q
    (four-at (drop (p * 4) (zeros 1024)) (q / 64) (omega arith) ∙ get_or-drop (p * 4) (zeros 1024) (q / 64) 0
    ∙ get_or-replicate 1024 (p * 4 + q / 64) 0 0 (omega arith))

pub fresh-zeros : (b : ℕ) → Fresh (zeros 1024) (zeros 1024) b
fresh-zeros b = record { full = length-zeros 1024; wide = length-zeros 1024; clear = λ p q h i l. has-zeros p q h i }

-- ---- the byte sets

drop-zeros : (k n : ℕ) → k ≤ n → drop k (zeros n) ≡ zeros (n - k)
drop-zeros k n h =
    let e : n ≡ k + (n - k) = omega arith in
    ap (λ (m : ℕ). drop k (zeros m)) e ∙ ap (λ (l : List ℕ). drop k l) (sym (append-zeros k (n - k)))
    ∙ drop_at (zeros k) (zeros (n - k)) k (length-zeros k)

-- words that were written from k on
moved_back : (u : List ℕ) (k : ℕ) → k + length u ≤ 1024 → padded (drop k (sets (zeros 1024) k u)) ≡ padded u
moved_back u k h =
    let l : length (zeros 1024) ≡ 1024 = length-zeros 1024 in
    let rest : List ℕ = drop (k + length u) (zeros 1024) in
    ap (λ (x : List ℕ). padded (drop k x)) (sets-eq u (zeros 1024) k (omega arith) ∙ append_assoc (take k (zeros 1024)) u rest)
    ∙ ap padded (drop_at (take k (zeros 1024)) (u ++ rest) k (length-take-le k (zeros 1024) (omega arith))
    ∙ ap (λ (x : List ℕ). u ++ x) (drop-zeros (k + length u) 1024 h))
    ∙ padded-more u (1024 - (k + length u)) (omega arith)

takes_moved : (f : Written) (b : ℕ) (t : List ℕ) → b + positions f ≤ 256 → t ≡ sets (zeros 1024) (b * 4) (flat (items f)) → padded (drop (b * 4) t) ≡ padded (flat (items f))
takes_moved f b t h e =
    ap (λ (x : List ℕ). padded (drop (b * 4) x)) e ∙ moved_back (flat (items f)) (b * 4) (omega (arith, length-flat (items f), items-length f))

-- ---- the follow sets

module _ (world : ℕ) (f : Written) (b : ℕ) (room : b + positions f ≤ 256) (r out : List ℕ) (long : length r ≡ 1024)
    (members : (p q : ℕ) → p < 256 → q < 256 → has_at r p q ≡ follow (world_of world) f b p q) (moved : out ≡ padded (drop (b * 4) r))
    (fits : (i : ℕ) → Fits w64 (get_or out i 0)) where
  -- the follow set of the rule's position number i
  after : ℕ → List ℕ
  after i = set_of (follow (world_of world) f b (b + i))

  -- the rows from the base on
  own : List ℕ
  own = drop (b * 4) r

  own-length : length own ≡ (256 - b) * 4
  unfolding own
  own-length = omega (arith, length-drop (b * 4) r)

  small : (i : ℕ) → i < (256 - b) * 4 → get_or own i 0 < 2 ^ 64
  unfolding own padded
  small i h =
      subst (λ (w : ℕ). w < 2 ^ 64)
      (ap (λ (l : List ℕ). get_or l i 0) moved ∙ get_or-append own (zeros (1024 - length own)) 0 i (omega (arith, own-length)))
      (fits i).fits

  row : (i : ℕ) → i < 256 - b → four_words (drop (i * 4) own) ≡ after i
  unfolding after own has_at
  row i h =
      by_members (four_words (drop (i * 4) own)) bounded (follow (world_of world) f b (b + i))
      (λ q l. ap (λ (x : List ℕ). has (four_words x) q) there ∙ members (b + i) q (omega arith) l)
    where
      there : drop (i * 4) (drop (b * 4) r) ≡ drop ((b + i) * 4) r
      there = let e : b * 4 + i * 4 ≡ (b + i) * 4 = omega arith in drop-drop (i * 4) (b * 4) r ∙ ap (λ (k : ℕ). drop k r) e

      bounded : Words (four_words (drop (i * 4) own))
      bounded = record {
        four = refl;
        small = λ j l.
            subst (λ (w : ℕ). w < 2 ^ 64) (sym (four-at (drop (i * 4) own) j l ∙ get_or-drop (i * 4) own j 0)) (small (i * 4 + j) (omega arith));
      }

  behind : (i : ℕ) → i < 256 - b - positions f → after (positions f + i) ≡ 0 ∷ 0 ∷ 0 ∷ 0 ∷ []
  unfolding after empty_set
  behind i h =
      set_of-ext (follow (world_of world) f b (b + (positions f + i))) (λ q. false)
      (λ q l. false-T (follow (world_of world) f b (b + (positions f + i)) q)
      (λ t. omega (arith, follow-inside (world_of world) f b (b + (positions f + i)) q ((follow-T (world_of world) f b (b + (positions f + i)) q).0 t))))
      ∙ sym empty-words

  follow-moved : out ≡ padded (rows_of (positions f) (λ i. set_of (follow (world_of world) f b (b + i))))
  unfolding after own
  follow-moved =
      let n : ℕ = positions f in
      let m : ℕ = 256 - b - positions f in
      let e : 256 - b ≡ positions f + (256 - b - positions f) = omega arith in
      moved
      ∙ ap padded (rows_are (256 - b) own after own-length row ∙ ap (λ (k : ℕ). rows_of k after) e ∙ rows_split n m after
      ∙ ap (λ (l : List ℕ). rows_of n after ++ l) (rows-zero m (λ i. after (n + i)) behind))
      ∙ padded-more (rows_of n after) (m * 4) (omega (arith, rows-length n after (λ i. (words-set_of (follow (world_of world) f b (b + i))).four)))

-- ---- the parts

pub handed_out : {world : ℕ} {f : Written} {b : ℕ} {r t out bytes : List ℕ} {g : Fragment}
    → b + positions f ≤ 256 → Built world f b (zeros 1024) r (zeros 1024) t g
    → out ≡ padded (drop (b * 4) r) → ((i : ℕ) → Fits w64 (get_or out i 0)) → bytes ≡ padded (drop (b * 4) t)
    → record { fits = true; positions = g.size; first = g.first; last = g.last; follow = out; takes = bytes } ≡ form_parts f b world
unfolding form_parts fragment_of
handed_out {world} {f} {b} {r} {t} {out} room h i fits j =
    let members : (p q : ℕ) → p < 256 → q < 256 → has_at r p q ≡ follow (world_of world) f b p q =
    λ p q l m. h.follows (length-zeros 1024) p q l m ∙ ap (λ (v : Bool). v || follow (world_of world) f b p q) (has-zeros p q l m) in
    cc (
      ap (λ (x : Fragment). x.size) h.fragment,
      ap (λ (x : Fragment). x.first) h.fragment,
      ap (λ (x : Fragment). x.last) h.fragment,
      follow-moved world f b room r out (h.long ∙ length-zeros 1024) members i fits,
      j,
      takes_moved f b t room h.takes,
    )

pub parts_none : (t : Syntax) (b world : ℕ) → 256 < b + positions (write t) → no_parts ≡ parts_of t b world
unfolding parts_of
parts_none t b world h = rw (lt-leb (b + positions (write t)) 256 h)

pub parts_whole : (t : Syntax) (b world : ℕ) → b + positions (write t) ≤ 256 → form_parts (write t) b world ≡ parts_of t b world
unfolding parts_of
parts_whole t b world h = rw (le-leb (b + positions (write t)) 256 h)

-- ---- the rows of the parts, for callers

-- row i of rows that stand before z
row_of : (m i : ℕ) (g : ℕ → List ℕ) (z : List ℕ) → ((k : ℕ) → length (g k) ≡ 4) → four_words (drop (i * 4) (rows_of (i + (1 + m)) g ++ z)) ≡ four_words (g i)
unfolding rows_of
row_of m i g z four =
    let rest : List ℕ = rows_of m (λ k. g (i + (1 + k))) ++ z in
    let e : rows_of (i + (1 + m)) g ++ z ≡ rows_of i g ++ (g (i + 0) ++ rest) =
    ap (λ (l : List ℕ). l ++ z) (rows_split i (1 + m) g ∙ ap (λ (l : List ℕ). rows_of i g ++ l) (rows_split 1 m (λ k. g (i + k))))
    ∙ append_assoc (rows_of i g) (g (i + 0) ++ rows_of m (λ k. g (i + (1 + k)))) z
    ∙ ap (λ (l : List ℕ). rows_of i g ++ l) (append_assoc (g (i + 0)) (rows_of m (λ k. g (i + (1 + k)))) z) in
    ap (λ (l : List ℕ). four_words (drop (i * 4) l)) e
    ∙ ap four_words (drop_at (rows_of i g) (g (i + 0) ++ rest) (i * 4) (rows-length i g four))
    ∙ four-ext (g (i + 0) ++ rest) (g (i + 0)) (λ k h. get_or-append (g (i + 0)) rest 0 k (omega (arith, four (i + 0))))
    ∙ ap (λ (k : ℕ). four_words (g k)) (add-zero i)

flat-row : (cs : List ByteSet) (i : ℕ) (z : List ℕ) → i < length cs → four_words (drop (i * 4) (flat cs ++ z)) ≡ four_words (get_or cs i [])
unfolding flat
flat-row [] i z h = absurd (omega arith)
flat-row (c ∷ cs) zero z h = refl
flat-row (c ∷ cs) (suc i) z h =
    let e : suc i * 4 ≡ suc (suc (suc (suc (i * 4)))) = omega arith in
    ap (λ (k : ℕ). four_words (drop k (flat (c ∷ cs) ++ z))) e ∙ flat-row cs i z (omega arith)

module _ (t : Syntax) (b world i : ℕ) (fits : b + positions (write t) ≤ 256) (low : i < positions (write t)) where
  -- a row of sets of the rule's positions, as the parts have it
  set-row : (g : ℕ → List ℕ) → ((k : ℕ) → length (g k) ≡ 4) → four_words (drop (i * 4) (padded (rows_of (positions (write t)) g))) ≡ four_words (g i)
  unfolding padded
  set-row g four =
      let m : ℕ = positions (write t) - (i + 1) in
      let e : positions (write t) ≡ i + (1 + (positions (write t) - (i + 1))) = omega arith in
      ap (λ (n : ℕ). four_words (drop (i * 4) (padded (rows_of n g)))) e
      ∙ row_of m i g (zeros (1024 - length (rows_of (i + (1 + m)) g))) four

  pub follow-row : four_words (drop (i * 4) (parts_of t b world).follow) ≡ set_of (follow (world_of world) (write t) b (b + i))
  unfolding form_parts set_of
  follow-row =
      ap (λ (p : Parts). four_words (drop (i * 4) p.follow)) (sym (parts_whole t b world fits))
      ∙ set-row (λ k. set_of (follow (world_of world) (write t) b (b + k))) (λ k. refl)

  pub takes-row : four_words (drop (i * 4) (parts_of t b world).takes) ≡ four_words (get_or (items (write t)) i [])
  unfolding form_parts padded
  takes-row =
      ap (λ (p : Parts). four_words (drop (i * 4) p.takes)) (sym (parts_whole t b world fits))
      ∙ flat-row (items (write t)) i (zeros (1024 - length (flat (items (write t))))) (omega (arith, items-length (write t)))
