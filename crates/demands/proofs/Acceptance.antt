-- An addition is accepted exactly when none of the reasons to refuse it holds: what rules proves of
-- the answer (`accepts`) and what the pattern crate proves of the reading (`reads-if`), put
-- together, reason by reason. Assumes nothing.
use mathlib.Core.Path.{◌≡◌, refl, sym, ap, ◌∙◌}
use mathlib.Core.Logic.{◌↔◌}
use mathlib.Core.Bool.{Bool, true, false, true≢false, ◌||◌}
use mathlib.Core.List.{List, [], ◌∷◌, Memᴰ}
use Prim.Native.Nat.{ℕ, ◌+◌, ◌≤◌, ◌<◌}
use native.Mathlib.Decide.{ℕ_discrete, dec_lt, dec_le}
use native.Mathlib.Omega.{arith}
use lib.Bits.{bit_and}
use lib.Dec.{eqb, ltb}
use lib.ListN.{length}
use borrow.Author.Tests.{eq-eqb, eqb-true, lt-ltb, le-ltb}
use Rattle.table.specs.Layout.{max_rules, max_positions}
use Rattle.table.specs.Table.{known_flags}
use Rattle.meaning.specs.Form.{write, positions}
use Rattle.nodes.specs.Nodes.{Syntax}
use Rattle.pattern.specs.Walk.{Read, tree, refused}
use Rattle.pattern.specs.Read.{longest, options_of}
use Rattle.pattern.proofs.Accepted.{reads-if}
use Rattle.pattern.specs.Windows.{empty_window}
use Rattle.rules.specs.Add.{Addition, reading_of, single_start}
use Rattle.rules.specs.Additions.{Accepted, used, taken, next_answer}
use Rattle.rules.proofs.Additions.{Accepts, accepts}
use Rattle.demands.specs.Demands.{Refusal, unknown_flag, start_with_single, id_there, all_there, too_long, window_is_empty, in_pattern, no_room}

-- a rule that has the id is in the list exactly if the id is taken
taken-by : (rs : List Accepted) (id : ℕ) → taken rs id ≡ true → (r : Accepted) × Memᴰ r rs × (r.id ≡ id)
unfolding taken
taken-by [] id e = absurd (true≢false (sym e))
taken-by (r ∷ rs) id e = go (eqb r.id id) refl e (λ f. taken-by rs id f)
  where
    go : (b : Bool) → eqb r.id id ≡ b → (b || taken rs id) ≡ true → (taken rs id ≡ true → (r : Accepted) × Memᴰ r rs × (r.id ≡ id))
        → (x : Accepted) × Memᴰ x (r ∷ rs) × (x.id ≡ id)
    go true f e later = (r, Memᴰ.head refl, eqb-true r.id id f)
    go false f e later = let l = later e in (l.0, Memᴰ.tail l.1, l.2)

taken_at : (rs : List Accepted) (id : ℕ) (r : Accepted) → Memᴰ r rs → r.id ≡ id → taken rs id ≡ true
unfolding taken
taken_at [] id r m e = elim m [ ]
taken_at (x ∷ rs) id r (Memᴰ.head h) e =
    ap (λ (b : Bool). b || taken rs id) (eq-eqb x.id id (ap (λ (y : Accepted). y.id) (sym h) ∙ e))
taken_at (x ∷ rs) id r (Memᴰ.tail m) e = go (eqb x.id id) (taken_at rs id r m e)
  where
    go : (b : Bool) → taken rs id ≡ true → (b || taken rs id) ≡ true
    go true f = refl
    go false f = f

module _ (rs : List Accepted) (a : Addition) where
  -- one tree only is read
  one-tree : (x y : Syntax) → tree x ≡ tree y → x ≡ y
  one-tree x y e = ap (λ (r : Read). elim r [ tree z ↦ z | refused i j ↦ x ]) e

  not-empty : Accepts rs a → a.windows.largest_end < a.windows.smallest_end → ⊥
  unfolding empty_window
  not-empty c h = true≢false (sym (lt-ltb a.windows.largest_end a.windows.smallest_end h) ∙ c.open_window)

  ordered : ¬ Refusal rs a → empty_window a.windows ≡ false
  unfolding empty_window
  ordered none = go (dec_lt a.windows.largest_end a.windows.smallest_end)
    where
      go : Dec (a.windows.largest_end < a.windows.smallest_end) → ltb a.windows.largest_end a.windows.smallest_end ≡ false
      go (yes l) = absurd (none (window_is_empty l))
      go (no n) = le-ltb a.windows.largest_end a.windows.smallest_end (omega arith)

  none_left : Accepts rs a → ¬ Refusal rs a
  none_left c (unknown_flag h) = h c.known
  none_left c (start_with_single e) = true≢false (sym e ∙ c.not_both)
  none_left c (id_there r m e) = true≢false (sym (taken_at rs a.id r m e) ∙ c.free)
  none_left c (all_there h) = omega (arith, c.few)
  none_left c (too_long h) = omega (arith, c.short)
  none_left c (window_is_empty h) = not-empty c h
  none_left c (in_pattern n p r) = (reads-if a.pattern (options_of a.flags)).0 (c.read, c.reading) n p r
  none_left c (no_room x e h) =
      let same : positions (write c.read) ≡ positions (write x) = ap (λ (t : Syntax). positions (write t)) (one-tree c.read x (sym c.reading ∙ e)) in
      omega (arith, c.room)

  let-in : ¬ Refusal rs a → Accepts rs a
  let-in none =
      let x = (reads-if a.pattern (options_of a.flags)).1 (λ n p r. none (in_pattern n p r)) in
      record {
        known = known (ℕ_discrete (bit_and a.flags known_flags) a.flags);
        not_both = apart (single_start a.flags) refl;
        free = free (taken rs a.id) refl;
        few = few (dec_lt (length rs) max_rules);
        short = short (dec_le (length a.pattern) longest);
        open_window = ordered none;
        read = x.0;
        reading = x.1;
        room = room x.0 x.1 (dec_le (used rs + positions (write x.0)) max_positions);
      }
    where
      known : Dec (bit_and a.flags known_flags ≡ a.flags) → bit_and a.flags known_flags ≡ a.flags
      known (yes e) = e
      known (no n) = absurd (none (unknown_flag n))

      apart : (b : Bool) → single_start a.flags ≡ b → b ≡ false
      apart true e = absurd (none (start_with_single e))
      apart false e = refl

      free : (b : Bool) → taken rs a.id ≡ b → b ≡ false
      free true e = let t = taken-by rs a.id e in absurd (none (id_there t.0 t.1 t.2))
      free false e = refl

      few : Dec (length rs < max_rules) → length rs < max_rules
      few (yes l) = l
      few (no n) = absurd (none (all_there (omega arith)))

      short : Dec (length a.pattern ≤ longest) → length a.pattern ≤ longest
      short (yes l) = l
      short (no n) = absurd (none (too_long (omega arith)))

      room : (x : Syntax) → reading_of a ≡ tree x → Dec (used rs + positions (write x) ≤ max_positions) → used rs + positions (write x) ≤ max_positions
      room x e (yes l) = l
      room x e (no n) = absurd (none (no_room x e (omega arith)))

  pub accepted-if : ((next_answer rs a).number ≡ 0) ↔ (¬ Refusal rs a)
  accepted-if = (λ h. none_left ((accepts rs a).0 h), λ none. (accepts rs a).1 (let-in none))
