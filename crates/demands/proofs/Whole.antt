-- A whole stream in one go: what its bytes and its closing report, with the moments and the starts,
-- is the one ordered list. Each moment reports its own pairs that stay, and every pair has its
-- moment. It is said of any machine that goes by the right tests, marks and starts at each moment.
-- Assumes nothing.
use mathlib.Core.Path.{◌≡◌, refl, sym, subst, subst₂, ap, ◌∙◌}
use mathlib.Core.Logic.{◌⊎◌, inl, inr, ◌↔◌}
use mathlib.Core.List.Memᴰ
use mathlib.Core.List.{List, [], ◌++◌, Memᴰ}
use Prim.Native.Nat.{ℕ, zero, suc, ◌-◌, ◌≤◌, ◌<◌}
use native.Mathlib.Omega.{arith}
use native.Mathlib.Decide.{ℕ_discrete, dec_le}
use lib.ListN.{length}
use Rattle.table.specs.Automaton.{Automaton}
use Rattle.meaning.specs.Rule.{Rule, ByteSet}
use Rattle.meaning.specs.Ordered.{closing_moment, Stays, StartIs, Entry, entry, Before, Rising, Owed, IsList}
use Rattle.meaning.proofs.Enumerated.{append-rising}
use Rattle.demands.proofs.Carried.{Carries}
use Rattle.demands.proofs.TwoRuns.{Told, two_runs, Turn, turn-out, turn_in, turn-rising}

-- all the reports of a stream with their moments: what a machine goes by at each byte, and at the
-- closing
module _ (w : Automaton) (at : ℕ → Told) where
  -- those of byte k
  abbrev pub byte_entries : ℕ → List Entry
  byte_entries k = two_runs w (suc k) k (suc k) (at k)

  unfoldable pub entries_of : ℕ → List Entry
  entries_of zero = []
  entries_of (suc k) = entries_of k ++ byte_entries k

  unfoldable pub closing_of : (n : ℕ) → Told → List Entry
  closing_of n last = two_runs w (suc n) (n - 1) n last

  unfoldable pub whole_of : (n : ℕ) → Told → List Entry
  whole_of n last = entries_of n ++ closing_of n last

  entries-in : (n k : ℕ) → k < n → (x : Entry) → Memᴰ x (byte_entries k) → Memᴰ x (entries_of n)
  unfolding entries_of
  entries-in zero k lt x m = absurd (omega arith)
  entries-in (suc n) k lt x m = elim (ℕ_discrete k n) [
    | yes e ↦ Memᴰ.append_right (entries_of n) (subst (λ (j : ℕ). Memᴰ x (byte_entries j)) e m)
    | no e ↦ Memᴰ.append_left (byte_entries n) (entries-in n k (omega arith) x m)
  ]

  entries-out : (n : ℕ) (x : Entry) → Memᴰ x (entries_of n) → (k : ℕ) × (k < n) × Memᴰ x (byte_entries k)
  unfolding entries_of
  entries-out zero x m = absurd (Memᴰ.not-nil m)
  entries-out (suc n) x m = elim (Memᴰ.append_cases (entries_of n) m) [
    | inl k ↦ (let r = entries-out n x k in (r.0, omega (arith, r.1), r.2))
    | inr k ↦ (n, omega arith, k)
  ]

module _ (w : Automaton) (rule : ℕ → Rule) (from : ℕ → ℕ) (tab : ℕ → ByteSet) (enc : Carries w rule from tab) (rules : List Rule)
    (listed : (r : Rule) → Memᴰ r rules ↔ ((a : ℕ) × (a < w.rules) × (r ≡ rule a))) (bytes : List ℕ)
    (at : ℕ → Told) (turn : (k : ℕ) → k < length bytes → Turn w rule from tab enc bytes (suc k) k (suc k) (at k))
    (last : Told) (close : Turn w rule from tab enc bytes (closing_moment bytes) (length bytes - 1) (length bytes) last) where
  abbrev n : ℕ
  n = length bytes

  abbrev entries : ℕ → List Entry
  entries = entries_of w at

  abbrev final : List Entry
  final = closing_of w at n last

  -- an entry of moment m: a rule, an offset, that the pair stays, and its start
  abbrev Of : ℕ → Entry → Type 0
  Of m x = (a : ℕ) × (a < w.rules) × ((c s : ℕ) × Stays bytes (rule a) m c × StartIs bytes (rule a) m c s × (x ≡ entry m c (w.id a) s))

  byte-out : (k : ℕ) → k < n → (e : Entry) → Memᴰ e (byte_entries w at k) → Of (suc k) e
  byte-out k lk = turn-out w rule from tab enc bytes (suc k) k (suc k) (at k) (turn k lk)

  closing-out : (e : Entry) → Memᴰ e final → Of (closing_moment bytes) e
  unfolding closing_of
  closing-out = turn-out w rule from tab enc bytes (closing_moment bytes) (n - 1) n last close

  closing-in : (a c s : ℕ) → a < w.rules → Stays bytes (rule a) (closing_moment bytes) c → StartIs bytes (rule a) (closing_moment bytes) c s
      → Memᴰ (entry (closing_moment bytes) c (w.id a) s) final
  unfolding closing_of
  closing-in = turn_in w rule from tab enc bytes (closing_moment bytes) (n - 1) n last close

  closing-rising : Rising final
  unfolding closing_of
  closing-rising = turn-rising w rule from tab enc bytes (closing_moment bytes) (n - 1) n last close

  -- an earlier moment stands before a later one
  by-moment : (j m : ℕ) → j < m → (x y : Entry) → Of j x → Of m y → Before x y
  by-moment j m lt x y p q = subst₂ Before (sym p.2.4) (sym q.2.4) (inl lt)

  entries-rising : (k : ℕ) → k ≤ n → Rising (entries k)
  unfolding entries_of Rising
  entries-rising zero le = tt
  entries-rising (suc k) le =
      append-rising (entries k) (byte_entries w at k) (entries-rising k (omega arith)) (turn-rising w rule from tab enc bytes (suc k) k (suc k) (at k) (turn k le)) (λ x y a b.
      let p = entries-out w at k x a in
      by-moment (suc p.0) (suc k) (omega (arith, p.1)) x y (byte-out p.0 (omega (arith, p.1)) x p.2) (byte-out k le y b))

  -- The whole is the ordered list.
  pub whole : IsList rules bytes (whole_of w at (length bytes) last)
  unfolding whole_of
  whole = record {
    rising = append-rising (entries n) final (entries-rising n (omega arith)) closing-rising (λ x y a b.
        let p = entries-out w at n x a in
        by-moment (suc p.0) (closing_moment bytes) (omega (arith, p.1)) x y (byte-out p.0 p.1 x p.2) (closing-out y b));
    exactly = λ x. (λ m. owed x (Memᴰ.append_cases (entries n) m), λ h. found x h);
  }
    where
      owe : (m : ℕ) (x : Entry) → Of m x → Owed rules bytes x
      owe m x p =
          subst (Owed rules bytes) (sym p.2.4) (rule p.0, (listed (rule p.0)).1 (p.0, p.1, refl), sym (enc.id_is p.0 p.1), p.2.2, p.2.3)

      owed : (x : Entry) → Memᴰ x (entries n) ⊎ Memᴰ x final → Owed rules bytes x
      owed x (inl m) = let p = entries-out w at n x m in owe (suc p.0) x (byte-out p.0 p.1 x p.2)
      owed x (inr m) = owe (closing_moment bytes) x (closing-out x m)

      found : (x : Entry) → Owed rules bytes x → Memᴰ x (entries n ++ final)
      found (entry m e i s) h =
          let l = (listed h.0).0 h.1 in
          let st : Stays bytes (rule l.0) m e = subst (λ (r : Rule). Stays bytes r m e) l.2 h.3 in
          let start : StartIs bytes (rule l.0) m e s = subst (λ (r : Rule). StartIs bytes r m e s) l.2 h.4 in
          let is : w.id l.0 ≡ i = enc.id_is l.0 l.1 ∙ ap (λ (r : Rule). r.id) (sym l.2) ∙ h.2 in
          subst (λ (i : ℕ). Memᴰ (entry m e i s) (entries n ++ final)) is (there l.0 l.1 m st start (dec_le m n))
        where
          there : (a : ℕ) → a < w.rules → (m : ℕ) → Stays bytes (rule a) m e → StartIs bytes (rule a) m e s → Dec (m ≤ n) → Memᴰ (entry m e (w.id a) s) (entries n ++ final)
          there a lt zero st start d = absurd (omega (arith, st.falls.from_last, st.falls.settled.earlier))
          there a lt (suc k) st start (yes le) =
              Memᴰ.append_left final (entries-in w at n k le (entry (suc k) e (w.id a) s)
              (turn_in w rule from tab enc bytes (suc k) k (suc k) (at k) (turn k le) a e s lt st start))
          there a lt (suc k) st start (no gt) =
              let q : suc k ≡ closing_moment bytes = omega (arith, st.falls.by_closing) in
              subst (λ (m : ℕ). Memᴰ (entry m e (w.id a) s) (entries n ++ final)) (sym q)
              (Memᴰ.append_right (entries n)
              (closing-in a e s lt (subst (λ (m : ℕ). Stays bytes (rule a) m e) q st) (subst (λ (m : ℕ). StartIs bytes (rule a) m e s) q start)))
