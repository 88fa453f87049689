-- Lists of calls on one table, of any kind of stream whose calls go by a machine: other calls
-- change nothing, so the bytes and the reports of a list of calls with an accepted closing are
-- those of the joined bytes in one go and of the closing after them, and the state at the end is
-- the one after those bytes, but for the closed mark. By one induction each over the list. Assumes
-- nothing.
use mathlib.Core.Path.{◌≡◌, refl, sym, subst, subst₂, ap, ap₂, ◌∙◌}
use mathlib.Core.Logic.{◌⊎◌, inl, inr}
use mathlib.Core.Bool.{true, false, true≢false}
use mathlib.Core.List.{List, [], ◌∷◌, ◌++◌, map, map-append, append-nil, append_assoc}
use Prim.Native.Nat.{ℕ, zero, suc, ◌+◌, ◌*◌, ◌-◌, ◌≤◌, ◌<◌}
use native.Mathlib.Omega.{arith}
use native.Mathlib.Decide.{ℕ_discrete}
use lib.ListN.{length, take, drop, length-take, take-append-drop, length-drop}
use lib.Seq.{get_or-take, get_or-drop, length-take-le}
use Rattle.table.specs.Layout.{rules_of}
use Rattle.table.specs.Automaton.{Automaton, automaton}
use Rattle.stream.specs.declared.Stream.{Stream}
use Rattle.stream.specs.Byte.{Machine, after, reports_by, state_after}
use Rattle.stream.specs.Valid.{stream_limit}
use Rattle.stream.specs.Calls.{shut}
use Rattle.stream.proofs.Machines.{after_front, reports-front, two-parts}
use Rattle.stream.proofs.Blocks.{blank, taken-after, closed_after}
use Rattle.meaning.specs.Ordered.{Report}
use Rattle.demands.specs.Kinds.{Given, Kind}
use Rattle.demands.specs.Chain.{table_after, number_of, Item, scan, close, other, Fit, bytes_of, reports_of, state_of, OthersRefused, Closes, AllFit, offering, Roomy, Bytes, Blocks}
use Rattle.demands.proofs.Others.{kept}

-- what the first k bytes of a block bring, as reports of the list
abbrev pub given_by : {S R : Type 0} → Machine S R → (R → Report) → S → List ℕ → ℕ → List Report
given_by m out s block k = map out (reports_by m s block k)

-- bytes in two parts bring what they bring in one
pub given-append : {S R : Type 0} (m : Machine S R) (out : R → Report) (s : S) (a b : List ℕ)
    → given_by m out s (a ++ b) (length (a ++ b)) ≡ given_by m out s a (length a) ++ given_by m out (after m s a (length a)) b (length b)
given-append m out s a b =
    ap (map out) (two-parts m s a b).reports ∙ map-append out (reports_by m s a (length a)) (reports_by m (after m s a (length a)) b (length b))

-- The calls of a kind on a table go by the machine m, whose reports are read by `out`; a closing
-- reports `final`, and leaves the state as `ended` has it.
pub record Lawful {S L C R : Type 0} (k : Kind S L C) (t : List ℕ) (m : Machine S R) (out : R → Report) (final : S → List R) (ended : S → S) : Type 0 where
  -- an accepted scan, and a refused one
  pub scan_open : (s : S) (c : C) → (k.scan t s c).number ≡ 0 → (k.stream s).closed ≡ false
  pub scan_taken : (s : S) (c : C) → (k.scan t s c).number ≡ 0 → (k.scan t s c).taken ≤ length (k.block c)
  pub scan_state : (s : S) (c : C) → (k.scan t s c).number ≡ 0 → (k.scan t s c).state ≡ after m s (k.block c) (k.scan t s c).taken
  pub scan_reports : (s : S) (c : C) → (k.scan t s c).number ≡ 0 → (k.scan t s c).reports ≡ given_by m out s (k.block c) (k.scan t s c).taken
  pub scan_limit : (s : S) (c : C) → (k.scan t s c).number ≡ 0 → (k.stream (k.scan t s c).state).taken ≤ stream_limit
  pub scan_refused : (s : S) (c : C) → ¬ ((k.scan t s c).number ≡ 0) → ((k.scan t s c).taken ≡ 0) × ((k.scan t s c).reports ≡ []) × ((k.scan t s c).state ≡ s)
  -- an accepted closing, and a refused one
  pub close_open : (s : S) (l : L) → (k.close t s l).number ≡ 0 → (k.stream s).closed ≡ false
  pub close_state : (s : S) (l : L) → (k.close t s l).number ≡ 0 → (k.close t s l).state ≡ ended s
  pub closed_reports : (s : S) (l : L) → (k.close t s l).number ≡ 0 → (k.close t s l).reports ≡ map out (final s)
  pub close_refused : (s : S) (l : L) → ¬ ((k.close t s l).number ≡ 0) → ((k.close t s l).reports ≡ []) × ((k.close t s l).state ≡ s)
  -- their streams, but for marks and held pairs
  pub stream_after : (s : S) (block : List ℕ) (n : ℕ) → blank (k.stream (after m s block n)) ≡ blank (state_after (automaton t) (k.stream s) block n)
  pub stream_ended : (s : S) → k.stream (ended s) ≡ shut (k.stream s)
  -- the same scan of other bytes
  pub offer_block : (log : List ℕ) (c : C) → k.block (k.offer log c) ≡ log
  pub offer_allowance : (log : List ℕ) (c : C) → k.allowance (k.offer log c) ≡ k.allowance c
  pub offer_slots : (log : List ℕ) (c : C) → k.slots (k.offer log c) ≡ k.slots c

-- ---- blocks of bytes

take-bytes : (block : List ℕ) (k : ℕ) → Bytes block → Bytes (take k block)
take-bytes block k h i lt = subst (λ (x : ℕ). x < 256) (sym (get_or-take k block i 0 (omega (arith, length-take k block)))) (h i (omega (arith, length-take k block)))

append-bytes : (a b : List ℕ) → Bytes a → Bytes b → Bytes (a ++ b)
append-bytes [] b ha hb i lt = hb i lt
append-bytes (x ∷ a) b ha hb zero lt = ha 0 (omega arith)
append-bytes (x ∷ a) b ha hb (suc i) lt = append-bytes a b (λ j l. ha (suc j) (omega arith)) hb i (omega arith)

module _ {S L C : Type 0} (k : Kind S L C) (t : List ℕ) where
  -- the joined bytes are bytes
  pub joined_bytes : (l : List (Item L C)) (s : S) → OthersRefused k t s l → Blocks k l → Bytes (bytes_of k t s l)
  unfolding bytes_of OthersRefused Blocks
  joined_bytes [] s h b = λ i lt. absurd (omega arith)
  joined_bytes (scan c ∷ l) s h b =
      append-bytes (take (k.scan t s c).taken (k.block c)) (bytes_of k t (k.scan t s c).state l)
      (take-bytes (k.block c) (k.scan t s c).taken b.0) (joined_bytes l (k.scan t s c).state h b.1)
  joined_bytes (close slots ∷ l) s h b = joined_bytes l (k.close t s slots).state h b
  joined_bytes (other o ∷ l) s h b =
      let same : table_after t o ≡ t = kept t o h.0 in
      subst (λ (u : List ℕ). Bytes (bytes_of k u s l)) (sym same) (joined_bytes l s (subst (λ (u : List ℕ). OthersRefused k u s l) same h.1) b)

  -- the other calls of a list, each asked on the same table
  unfoldable pub Refused : List (Item L C) → Type 0
  Refused [] = Unit {0}
  Refused (scan c ∷ l) = Refused l
  Refused (close slots ∷ l) = Refused l
  Refused (other o ∷ l) = (¬ (number_of t o ≡ 0)) × Refused l

  pub refused-others : (l : List (Item L C)) (s : S) → Refused l → OthersRefused k t s l
  unfolding Refused OthersRefused
  refused-others [] s h = tt
  refused-others (scan c ∷ l) s h = refused-others l (k.scan t s c).state h
  refused-others (close slots ∷ l) s h = refused-others l (k.close t s slots).state h
  refused-others (other o ∷ l) s h = (h.0, subst (λ (u : List ℕ). OthersRefused k u s l) (sym (kept t o h.0)) (refused-others l s h.1))

module _ {S L C R : Type 0} (k : Kind S L C) (t : List ℕ) (m : Machine S R) (out : R → Report) (final : S → List R) (ended : S → S) (law : Lawful k t m out final ended) where
  abbrev w : Automaton
  w = automaton t

  -- ---- what a call does to the closed mark

  shut-scan : (s : S) (c : C) → (k.stream s).closed ≡ true → ¬ ((k.scan t s c).number ≡ 0)
  shut-scan s c e h = true≢false (sym e ∙ law.scan_open s c h)

  shut-close : (s : S) (l : L) → (k.stream s).closed ≡ true → ¬ ((k.close t s l).number ≡ 0)
  shut-close s l e h = true≢false (sym e ∙ law.close_open s l h)

  is-shut : (s : S) → (k.stream (ended s)).closed ≡ true
  is-shut s = ap (λ (x : Stream). x.closed) (law.stream_ended s)

  still_open : (s : S) (block : List ℕ) (n : ℕ) → (k.stream s).closed ≡ false → (k.stream (after m s block n)).closed ≡ false
  still_open s block n e = ap (λ (x : Stream). x.closed) (law.stream_after s block n) ∙ closed_after w (k.stream s) block n ∙ e

  -- after the closing nothing more is taken and nothing reported, and the state stays
  pub record Silent (s : S) (l : List (Item L C)) : Type 0 where
    pub bytes : bytes_of k t s l ≡ []
    pub reports : reports_of k t s l ≡ []
    pub state : state_of k t s l ≡ s

  silent : (l : List (Item L C)) (s : S) → (k.stream s).closed ≡ true → OthersRefused k t s l → Silent s l
  unfolding bytes_of reports_of state_of OthersRefused
  silent [] s e h = record { bytes = refl; reports = refl; state = refl }
  silent (scan c ∷ l) s e h =
      let r = law.scan_refused s c (shut-scan s c e) in
      let ih = silent l s e (subst (λ (x : S). OthersRefused k t x l) r.2 h) in
      record {
        bytes = ap₂ (λ (n : ℕ) (x : S). take n (k.block c) ++ bytes_of k t x l) r.0 r.2 ∙ ih.bytes;
        reports = ap₂ (λ (n : List Report) (x : S). n ++ reports_of k t x l) r.1 r.2 ∙ ih.reports;
        state = ap (λ (x : S). state_of k t x l) r.2 ∙ ih.state;
      }
  silent (close slots ∷ l) s e h =
      let r = law.close_refused s slots (shut-close s slots e) in
      let ih = silent l s e (subst (λ (x : S). OthersRefused k t x l) r.1 h) in
      record {
        bytes = ap (λ (x : S). bytes_of k t x l) r.1 ∙ ih.bytes;
        reports = ap₂ (λ (n : List Report) (x : S). n ++ reports_of k t x l) r.0 r.1 ∙ ih.reports;
        state = ap (λ (x : S). state_of k t x l) r.1 ∙ ih.state;
      }
  silent (other o ∷ l) s e h =
      let same : table_after t o ≡ t = kept t o h.0 in
      let ih = silent l s e (subst (λ (u : List ℕ). OthersRefused k u s l) same h.1) in
      record {
        bytes = ap (λ (u : List ℕ). bytes_of k u s l) same ∙ ih.bytes;
        reports = ap (λ (u : List ℕ). reports_of k u s l) same ∙ ih.reports;
        state = ap (λ (u : List ℕ). state_of k u s l) same ∙ ih.state;
      }

  -- ---- the joined bytes in one go

  -- the first n bytes of a block are a block of their own
  module _ (s : S) (block : List ℕ) (n : ℕ) (le : n ≤ length block) where
    size : n ≡ length (take n block)
    size = sym (length-take-le n block le)

    cut : {A : Type 0} (f : List ℕ → ℕ → A) → ((a b : List ℕ) (i : ℕ) → i ≤ length a → f (a ++ b) i ≡ f a i) → f block n ≡ f (take n block) (length (take n block))
    cut f front =
        ap (λ (l : List ℕ). f l n) (sym (take-append-drop n block)) ∙ front (take n block) (drop n block) n (omega (arith, size)) ∙ ap (f (take n block)) size

    state-cut : after m s block n ≡ after m s (take n block) (length (take n block))
    state-cut = cut (after m s) (after_front m s)

    given-cut : given_by m out s block n ≡ given_by m out s (take n block) (length (take n block))
    given-cut = ap (map out) (cut (reports_by m s) (reports-front m s))

  -- the state after some bytes, and what they report
  abbrev pub reached : S → List ℕ → S
  reached s a = after m s a (length a)

  abbrev pub given : S → List ℕ → List Report
  given s a = given_by m out s a (length a)

  -- then the closing
  abbrev pub Goes : S → List ℕ → List Report → Type 0
  Goes s bytes reports = reports ≡ given s bytes ++ map out (final (reached s bytes))

  ends-here : (s : S) → Goes s [] (map out (final s))
  unfolding reports_by after
  ends-here s = refl

  -- first some bytes, then what goes on from the state after them
  parts : (s : S) (a b : List ℕ) (r : List Report) → Goes (reached s a) b r → Goes s (a ++ b) (given s a ++ r)
  parts s a b r h =
      ap (λ (x : List Report). given s a ++ x) h
      ∙ sym (append_assoc (given s a) (given (reached s a) b) (map out (final (reached (reached s a) b))))
      ∙ ap₂ (λ (x : List Report) (y : S). x ++ map out (final y)) (sym (given-append m out s a b)) (sym (two-parts m s a b).state)

  scan-goes : (s : S) (block : List ℕ) (n : ℕ) → n ≤ length block → (b : List ℕ) (r : List Report) → Goes (after m s block n) b r
      → Goes s (take n block ++ b) (given_by m out s block n ++ r)
  scan-goes s block n le b r h =
      subst (λ (x : List Report). Goes s (take n block ++ b) (x ++ r)) (sym (given-cut s block n le)) (parts s (take n block) b r (subst (λ (x : S). Goes x b r) (state-cut s block n le) h))

  pub chained : (l : List (Item L C)) (s : S) → (k.stream s).closed ≡ false → OthersRefused k t s l → Closes k t s l → Goes s (bytes_of k t s l) (reports_of k t s l)
  unfolding bytes_of reports_of OthersRefused Closes
  chained [] s e h shuts = absurd shuts
  chained (scan c ∷ l) s e h shuts = go (ℕ_discrete (k.scan t s c).number 0) (λ x. chained l x)
    where
      Rest : Type 0
      Rest = (x : S) → (k.stream x).closed ≡ false → OthersRefused k t x l → Closes k t x l → Goes x (bytes_of k t x l) (reports_of k t x l)

      n : ℕ
      n = (k.scan t s c).taken

      -- the goal, by what the call gives
      From : ℕ → List Report → S → Type 0
      From i r x = Goes s (take i (k.block c) ++ bytes_of k t x l) (r ++ reports_of k t x l)

      move : (i : ℕ) (r : List Report) (x : S) → (k.scan t s c).taken ≡ i → (k.scan t s c).reports ≡ r → (k.scan t s c).state ≡ x → From i r x
          → From (k.scan t s c).taken (k.scan t s c).reports (k.scan t s c).state
      move i r x p q u g = subst (λ (j : ℕ). From j (k.scan t s c).reports (k.scan t s c).state) (sym p) (subst₂ (From i) (sym q) (sym u) g)

      go : Dec ((k.scan t s c).number ≡ 0) → Rest → From (k.scan t s c).taken (k.scan t s c).reports (k.scan t s c).state
      go (yes ok) ih =
          let next : S = after m s (k.block c) (k.scan t s c).taken in
          let is : (k.scan t s c).state ≡ next = law.scan_state s c ok in
          move (k.scan t s c).taken (given_by m out s (k.block c) (k.scan t s c).taken) next refl (law.scan_reports s c ok) is
          (scan-goes s (k.block c) (k.scan t s c).taken (law.scan_taken s c ok) (bytes_of k t next l) (reports_of k t next l)
          (ih next (still_open s (k.block c) (k.scan t s c).taken e) (subst (λ (x : S). OthersRefused k t x l) is h) (subst (λ (x : S). Closes k t x l) is shuts)))
      go (no bad) ih =
          let r = law.scan_refused s c bad in
          move 0 [] s r.0 r.1 r.2 (ih s e (subst (λ (x : S). OthersRefused k t x l) r.2 h) (subst (λ (x : S). Closes k t x l) r.2 shuts))
  chained (close slots ∷ l) s e h shuts = go (ℕ_discrete (k.close t s slots).number 0) (λ x. chained l x) shuts
    where
      Rest : Type 0
      Rest = (x : S) → (k.stream x).closed ≡ false → OthersRefused k t x l → Closes k t x l → Goes x (bytes_of k t x l) (reports_of k t x l)

      From : List Report → S → Type 0
      From r x = Goes s (bytes_of k t x l) (r ++ reports_of k t x l)

      go : Dec ((k.close t s slots).number ≡ 0) → Rest → ((k.close t s slots).number ≡ 0) ⊎ Closes k t (k.close t s slots).state l
          → From (k.close t s slots).reports (k.close t s slots).state
      go (yes ok) ih c =
          let is : (k.close t s slots).state ≡ ended s = law.close_state s slots ok in
          let quiet = silent l (ended s) (is-shut s) (subst (λ (x : S). OthersRefused k t x l) is h) in
          subst₂ From (sym (law.closed_reports s slots ok)) (sym is)
          (subst₂ (λ (b : List ℕ) (r : List Report). Goes s b (map out (final s) ++ r)) (sym quiet.bytes) (sym quiet.reports) (append-nil (map out (final s)) ∙ ends-here s))
      go (no bad) ih (inl ok) = absurd (bad ok)
      go (no bad) ih (inr shuts) =
          let r = law.close_refused s slots bad in
          subst₂ From (sym r.0) (sym r.1) (ih s e (subst (λ (x : S). OthersRefused k t x l) r.1 h) (subst (λ (x : S). Closes k t x l) r.1 shuts))
  chained (other o ∷ l) s e h shuts =
      let same : table_after t o ≡ t = kept t o h.0 in
      subst (λ (u : List ℕ). Goes s (bytes_of k u s l) (reports_of k u s l)) (sym same)
      (chained l s e (subst (λ (u : List ℕ). OthersRefused k u s l) same h.1) (subst (λ (u : List ℕ). Closes k u s l) same shuts))

  -- ---- the state at the end

  -- the one after the bytes, or that one ended
  abbrev Ends : S → S → List ℕ → Type 0
  Ends s x bytes = (x ≡ reached s bytes) ⊎ (x ≡ ended (reached s bytes))

  scan-ends : (s x : S) (block : List ℕ) (n : ℕ) → n ≤ length block → (b : List ℕ) → Ends (after m s block n) x b → Ends s x (take n block ++ b)
  scan-ends s x block n le b h =
      subst (λ (y : S). (x ≡ y) ⊎ (x ≡ ended y)) (ap (λ (y : S). reached y b) (state-cut s block n le) ∙ sym (two-parts m s (take n block) b).state) h

  pub state_is : (l : List (Item L C)) (s : S) → (k.stream s).closed ≡ false → OthersRefused k t s l → Ends s (state_of k t s l) (bytes_of k t s l)
  unfolding state_of bytes_of OthersRefused after
  state_is [] s e h = inl refl
  state_is (scan c ∷ l) s e h = go (ℕ_discrete (k.scan t s c).number 0) (λ x. state_is l x)
    where
      From : ℕ → S → Type 0
      From i x = Ends s (state_of k t x l) (take i (k.block c) ++ bytes_of k t x l)

      go : Dec ((k.scan t s c).number ≡ 0) → ((x : S) → (k.stream x).closed ≡ false → OthersRefused k t x l → Ends x (state_of k t x l) (bytes_of k t x l))
          → From (k.scan t s c).taken (k.scan t s c).state
      go (yes ok) ih =
          let n : ℕ = (k.scan t s c).taken in
          let next : S = after m s (k.block c) n in
          let is : (k.scan t s c).state ≡ next = law.scan_state s c ok in
          subst (From n) (sym is)
          (scan-ends s (state_of k t next l) (k.block c) n (law.scan_taken s c ok) (bytes_of k t next l)
          (ih next (still_open s (k.block c) n e) (subst (λ (x : S). OthersRefused k t x l) is h)))
      go (no bad) ih =
          let r = law.scan_refused s c bad in
          subst₂ From (sym r.0) (sym r.2) (ih s e (subst (λ (x : S). OthersRefused k t x l) r.2 h))
  state_is (close slots ∷ l) s e h = go (ℕ_discrete (k.close t s slots).number 0) (λ x. state_is l x)
    where
      From : S → Type 0
      From x = Ends s (state_of k t x l) (bytes_of k t x l)

      go : Dec ((k.close t s slots).number ≡ 0) → ((x : S) → (k.stream x).closed ≡ false → OthersRefused k t x l → Ends x (state_of k t x l) (bytes_of k t x l)) → From (k.close t s slots).state
      go (yes ok) ih =
          let is : (k.close t s slots).state ≡ ended s = law.close_state s slots ok in
          let quiet = silent l (ended s) (is-shut s) (subst (λ (x : S). OthersRefused k t x l) is h) in
          subst From (sym is) (subst₂ (Ends s) (sym quiet.state) (sym quiet.bytes) (inr refl))
      go (no bad) ih =
          let r = law.close_refused s slots bad in
          subst From (sym r.1) (ih s e (subst (λ (x : S). OthersRefused k t x l) r.1 h))
  state_is (other o ∷ l) s e h =
      let same : table_after t o ≡ t = kept t o h.0 in
      subst (λ (u : List ℕ). Ends s (state_of k u s l) (bytes_of k u s l)) (sym same) (state_is l s e (subst (λ (u : List ℕ). OthersRefused k u s l) same h.1))

  -- what does not tell a closed state from an open one, and is no mark or held pair, is that of the
  -- stream after the bytes
  pub field_is : {A : Type 0} (f : Stream → A) → ((x : Stream) → f (shut x) ≡ f x) → ((x : Stream) → f x ≡ f (blank x)) → (l : List (Item L C)) (s : S) → (k.stream s).closed ≡ false → OthersRefused k t s l
      → f (k.stream (state_of k t s l)) ≡ f (state_after w (k.stream s) (bytes_of k t s l) (length (bytes_of k t s l)))
  field_is f open-or-shut blind l s e h = go (state_is l s e h)
    where
      same : f (k.stream (reached s (bytes_of k t s l))) ≡ f (state_after w (k.stream s) (bytes_of k t s l) (length (bytes_of k t s l)))
      same =
          blind (k.stream (reached s (bytes_of k t s l))) ∙ ap f (law.stream_after s (bytes_of k t s l) (length (bytes_of k t s l)))
          ∙ sym (blind (state_after w (k.stream s) (bytes_of k t s l) (length (bytes_of k t s l))))

      go : Ends s (state_of k t s l) (bytes_of k t s l) → f (k.stream (state_of k t s l)) ≡ f (state_after w (k.stream s) (bytes_of k t s l) (length (bytes_of k t s l)))
      go (inl x) = ap (λ (y : S). f (k.stream y)) x ∙ same
      go (inr x) =
          ap (λ (y : S). f (k.stream y)) x ∙ ap f (law.stream_ended (reached s (bytes_of k t s l))) ∙ open-or-shut (k.stream (reached s (bytes_of k t s l)))
          ∙ same

  -- The state's count of bytes is the number of bytes taken ..
  pub bytes_counted : (l : List (Item L C)) (s : S) → (k.stream s).closed ≡ false → OthersRefused k t s l → (k.stream (state_of k t s l)).taken ≡ (k.stream s).taken + length (bytes_of k t s l)
  bytes_counted l s e h = field_is (λ x. x.taken) (λ x. refl) (λ x. refl) l s e h ∙ taken-after w (k.stream s) (bytes_of k t s l) (length (bytes_of k t s l))

  -- .. and it is within the limit.
  pub within-limit : (l : List (Item L C)) (s : S) → (k.stream s).taken ≤ stream_limit → OthersRefused k t s l → (k.stream (state_of k t s l)).taken ≤ stream_limit
  unfolding state_of OthersRefused
  within-limit [] s le h = le
  within-limit (scan c ∷ l) s le h = within-limit l (k.scan t s c).state (go (ℕ_discrete (k.scan t s c).number 0)) h
    where
      go : Dec ((k.scan t s c).number ≡ 0) → (k.stream (k.scan t s c).state).taken ≤ stream_limit
      go (yes ok) = law.scan_limit s c ok
      go (no bad) = subst (λ (x : S). (k.stream x).taken ≤ stream_limit) (sym (law.scan_refused s c bad).2) le
  within-limit (close slots ∷ l) s le h = within-limit l (k.close t s slots).state (go (ℕ_discrete (k.close t s slots).number 0)) h
    where
      go : Dec ((k.close t s slots).number ≡ 0) → (k.stream (k.close t s slots).state).taken ≤ stream_limit
      go (yes ok) = subst (λ (x : S). (k.stream x).taken ≤ stream_limit) (sym (law.close_state s slots ok)) (subst (λ (x : Stream). x.taken ≤ stream_limit) (sym (law.stream_ended s)) le)
      go (no bad) = subst (λ (x : S). (k.stream x).taken ≤ stream_limit) (sym (law.close_refused s slots bad).1) le
  within-limit (other o ∷ l) s le h =
      let same : table_after t o ≡ t = kept t o h.0 in
      subst (λ (u : List ℕ). (k.stream (state_of k u s l)).taken ≤ stream_limit) (sym same) (within-limit l s le (subst (λ (u : List ℕ). OthersRefused k u s l) same h.1))

-- ---- states that fit the table

-- The calls keep a property of states by which a call is not refused with 1 or 18, and is accepted
-- if the stream is open, the block within the limit, and the space large enough; and an accepted
-- scan takes a byte.
pub record Serves {S L C : Type 0} (k : Kind S L C) (t : List ℕ) (Fits : S → Type 0) : Type 0 where
  pub scan_fit : (s : S) (c : C) → Fits s → Fit (k.scan t s c).number
  pub close_fit : (s : S) (l : L) → Fits s → Fit (k.close t s l).number
  pub scan_fits : (s : S) (c : C) → Fits s → Fits (k.scan t s c).state
  pub close_fits : (s : S) (l : L) → Fits s → Fits (k.close t s l).state
  pub scan_accepted : (s : S) (c : C) → Fits s → (k.stream s).closed ≡ false → (k.stream s).taken + length (k.block c) ≤ stream_limit
      → 2 * rules_of t ≤ k.space (k.slots c) → (k.scan t s c).number ≡ 0
  pub close_accepted : (s : S) (l : L) → Fits s → (k.stream s).closed ≡ false → 2 * rules_of t ≤ k.space l → (k.close t s l).number ≡ 0
  pub progress : (s : S) (c : C) → (k.scan t s c).number ≡ 0 → 257 ≤ k.allowance c → 0 < length (k.block c) → 0 < (k.scan t s c).taken

module _ {S L C : Type 0} (k : Kind S L C) (t : List ℕ) (Fits : S → Type 0) (serves : Serves k t Fits) where
  pub all_fit : (l : List (Item L C)) (s : S) → Fits s → OthersRefused k t s l → AllFit k t s l
  unfolding OthersRefused AllFit
  all_fit [] s fits h = tt
  all_fit (scan c ∷ l) s fits h = (serves.scan_fit s c fits, all_fit l (k.scan t s c).state (serves.scan_fits s c fits) h)
  all_fit (close slots ∷ l) s fits h = (serves.close_fit s slots fits, all_fit l (k.close t s slots).state (serves.close_fits s slots fits) h)
  all_fit (other o ∷ l) s fits h =
      let same : table_after t o ≡ t = kept t o h.0 in
      subst (λ (u : List ℕ). AllFit k u s l) (sym same) (all_fit l s fits (subst (λ (u : List ℕ). OthersRefused k u s l) same h.1))

-- ---- offering what was not taken again

module _ {S L C R : Type 0} (k : Kind S L C) (t : List ℕ) (m : Machine S R) (out : R → Report) (final : S → List R) (ended : S → S) (law : Lawful k t m out final ended)
    (Fits : S → Type 0) (serves : Serves k t Fits) where
  -- one scan that offers a log
  module _ (s : S) (fits : Fits s) (running : (k.stream s).closed ≡ false) (log : List ℕ) (limit : (k.stream s).taken + length log ≤ stream_limit)
      (turn : C) (paid : 257 ≤ k.allowance turn) (wide : 2 * rules_of t ≤ k.space (k.slots turn)) where
    abbrev offered-scan : C
    offered-scan = k.offer log turn

    abbrev r : Given S L
    r = k.scan t s offered-scan

    same_length : length (k.block offered-scan) ≡ length log
    same_length = ap length (law.offer_block log turn)

    ok : r.number ≡ 0
    ok = serves.scan_accepted s offered-scan fits running (omega (arith, same_length)) (subst (λ (l : L). 2 * rules_of t ≤ k.space l) (sym (law.offer_slots log turn)) wide)

    stream_is : blank (k.stream r.state) ≡ blank (state_after (automaton t) (k.stream s) (k.block offered-scan) r.taken)
    stream_is = ap (λ (y : S). blank (k.stream y)) (law.scan_state s offered-scan ok) ∙ law.stream_after s (k.block offered-scan) r.taken

    left : length (drop r.taken log) ≡ length log - r.taken
    left = length-drop r.taken log

    next-running : (k.stream r.state).closed ≡ false
    next-running = ap (λ (x : Stream). x.closed) stream_is ∙ closed_after (automaton t) (k.stream s) (k.block offered-scan) r.taken ∙ running

    next-limit : (k.stream r.state).taken + length (drop r.taken log) ≤ stream_limit
    next-limit =
        omega (arith, left, same_length, law.scan_taken s offered-scan ok, limit, ap (λ (x : Stream). x.taken) stream_is, taken-after (automaton t) (k.stream s) (k.block offered-scan) r.taken)

    next-bytes : Bytes log → Bytes (drop r.taken log)
    next-bytes small i lt = subst (λ (x : ℕ). x < 256) (sym (get_or-drop r.taken log i 0)) (small (r.taken + i) (omega (arith, left)))

    -- a byte is taken, if there is one
    fewer : (n : ℕ) → length log ≤ suc n → length (drop r.taken log) ≤ n
    fewer n short = go (ℕ_discrete (length log) 0)
      where
        go : Dec (length log ≡ 0) → length (drop r.taken log) ≤ n
        go (yes none) = omega (arith, left, none)
        go (no some) = omega (arith, left, short, serves.progress s offered-scan ok (omega (arith, law.offer_allowance log turn)) (omega (arith, same_length)))

  -- what holds of the calls that offer a log: all of it is taken, and the stream is closed
  pub record Offered (s : S) (log : List ℕ) (items : List (Item L C)) : Type 0 where
    pub bytes : bytes_of k t s items ≡ log
    pub closes : Closes k t s items
    pub others : OthersRefused k t s items
    pub blocks : Blocks k items

  pub offered : (turns : List C) (slots : L) → 2 * rules_of t ≤ k.space slots → Roomy k (2 * rules_of t) turns
      → (log : List ℕ) → Bytes log → length log ≤ length turns → (s : S) → Fits s → (k.stream s).closed ≡ false → (k.stream s).taken + length log ≤ stream_limit
      → Offered s log (offering k t s log turns slots)
  unfolding offering Roomy bytes_of Closes OthersRefused Blocks
  offered [] slots wide roomy [] small short s fits running limit = record {
    bytes = refl;
    closes = inl (serves.close_accepted s slots fits running wide);
    others = tt;
    blocks = tt;
  }
  offered [] slots wide roomy (x ∷ log) small short s fits running limit = absurd (omega (arith, short))
  offered (turn ∷ more) slots wide roomy log small short s fits running limit =
      let c : C = k.offer log turn in
      let n : ℕ = (k.scan t s c).taken in
      let x : S = (k.scan t s c).state in
      let rest : Offered x (drop n log) (offering k t x (drop n log) more slots) =
      offered more slots wide roomy.2 (drop n log) (next-bytes s fits running log limit turn roomy.0 roomy.1 small)
      (fewer s fits running log limit turn roomy.0 roomy.1 (length more) short) x (serves.scan_fits s c fits)
      (next-running s fits running log limit turn roomy.0 roomy.1) (next-limit s fits running log limit turn roomy.0 roomy.1) in
      record {
        bytes = ap₂ (λ (b l : List ℕ). take n b ++ l) (law.offer_block log turn) rest.bytes ∙ take-append-drop n log;
        closes = rest.closes;
        others = rest.others;
        blocks = (subst Bytes (sym (law.offer_block log turn)) small, rest.blocks);
      }
