-- A build, part after part: the records, zeros, the rows, zeros, and the header.
use mathlib.Core.Path.{◌≡◌, refl, sym, ap, ◌∙◌, subst}
use mathlib.Core.Bool.{true, false, cond}
use mathlib.Core.List.{List, [], ◌∷◌}
use Prim.Native.Nat.{ℕ, ◌+◌, ◌-◌, ◌*◌, ◌<◌, ◌≤◌}
use native.Mathlib.Nat.{le_refl}
use native.Mathlib.Decide.{dec_lt}
use native.Mathlib.Omega.{arith}
use lib.ListN.{length, get_or, get_or-eq_default}
use borrow.Author.Tests.{lt-ltb, le-ltb}
use Rattle.table.specs.Layout.{from_to}
use Rattle.table.specs.Table.{is_table}
use Rattle.table.specs.Automaton.{Automaton, automaton}
use Rattle.table.specs.Invariants.{over, copied}
use Rattle.table.proofs.Over.{Written, written-block, over-ext, over-is, over-in, over_below, over-above, over-join, get_d_over, length_over}
use Rattle.second.specs.Layout.{second_words, second_format, max_entries}
use Rattle.kinds.specs.declared.Side.{Side}
use Rattle.kinds.specs.declared.Side.TheVariants.{Other, Word, Newline}
use Rattle.second.specs.declared.Key.{Key}
use Rattle.second.specs.Entries.{entries, resting_word, second_word}
use Rattle.second.specs.Second.{build_number, second, built}
use Rattle.second.specs.Invariants.{resting_in, Recorded}
use Rattle.second.proofs.Words.{written_in}
use Rattle.second.proofs.Found.{found-few}
use Rattle.second.proofs.Gathered.{records-past, rows-past, header_is, resting-in}

-- two parts may be written in either order
over-swap : (lo hi lo' hi' : ℕ) (g h : ℕ → ℕ) (t : List ℕ) → hi ≤ lo' → over lo' hi' h (over lo hi g t) ≡ over lo hi g (over lo' hi' h t)
over-swap lo hi lo' hi' g h t a =
    over-is lo hi g (over lo' hi' h t) (over lo' hi' h (over lo hi g t))
    (length_over lo' hi' h (over lo hi g t) ∙ length_over lo hi g t ∙ sym (length_over lo' hi' h t))
    (λ w b c l. over_below lo' hi' h (over lo hi g t) w (omega arith) ∙ over-in lo hi g t w b c (omega (arith, length_over lo' hi' h t)))
    (λ w b. same w (over_below lo hi g t w b) (dec_lt w (length t)))
    (λ w b. same w (over-above lo hi g t w b) (dec_lt w (length t)))
  where
    same : (w : ℕ) → get_or (over lo hi g t) w 0 ≡ get_or t w 0 → Dec (w < length t) → get_or (over lo' hi' h (over lo hi g t)) w 0 ≡ get_or (over lo' hi' h t) w 0
    same w e (yes l) =
        get_d_over lo' hi' h (over lo hi g t) w (omega (arith, length_over lo hi g t))
        ∙ ap (λ (x : ℕ). cond (from_to lo' hi' w) (h w) x) e ∙ sym (get_d_over lo' hi' h t w l)
    same w e (no l) =
        get_or-eq_default (over lo' hi' h (over lo hi g t)) 0 (omega (arith, length_over lo' hi' h (over lo hi g t), length_over lo hi g t))
        ∙ sym (get_or-eq_default (over lo' hi' h t) 0 (omega (arith, length_over lo' hi' h t)))

module _ (w : Automaton) (c : List ℕ) (long : second_words ≤ length c) (count : ℕ) (is : count ≡ length (entries w)) (s₁ : List ℕ)
    (gathered : s₁ ≡ over 16 (16 + length (entries w) * 16) (second_word w (entries w)) c) where
  abbrev es : List Key
  es = entries w

  abbrev g : ℕ → ℕ
  g = second_word w es

  pub some : count ≤ max_entries
  some = omega (arith, is, (found-few w (max_entries * 256)).1)

  first : Written 16 (16 + count * 16) g c s₁
  first = record { is = gathered ∙ ap (λ (n : ℕ). over 16 (16 + n * 16) g c) (sym is); long = ap length gathered ∙ length_over 16 (16 + length es * 16) g c }

  pub first-long : length s₁ ≡ length c
  first-long = first.long

  module _ (s₂ : List ℕ) (cleared : s₂ ≡ over (16 + count * 16) 4096 (λ i. 0) s₁) where
    next : Written 16 4096 g c s₂
    next =
        subst (λ (l : List ℕ). Written 16 4096 g c l) (sym cleared)
        (written-block first (omega arith) (omega (arith, some)) (λ i a b l. records-past w i (omega (arith, is)) b))

    pub next-long : length s₂ ≡ length c
    next-long = next.long

    pub recorded : Recorded w s₂
    unfolding Recorded
    recorded i a b = written_in next i a (omega (arith, is, some)) (omega (arith, is, some))

    module _ (s₃ : List ℕ) (filled : s₃ ≡ over 4096 (4096 + count * 256) g s₂) where
      third : Written 16 (4096 + count * 256) g c s₃
      third = subst (λ (l : List ℕ). Written 16 (4096 + count * 256) g c l) (sym filled) (written-block next (omega arith) (omega arith) (λ i a b l. refl))

      pub third-long : length s₃ ≡ length c
      third-long = third.long

      module _ (s₄ : List ℕ) (cleared-too : s₄ ≡ over (4096 + count * 256) second_words (λ i. 0) s₃) where
        last : Written 16 second_words g c s₄
        last =
            subst (λ (l : List ℕ). Written 16 second_words g c l) (sym cleared-too)
            (written-block third (omega arith) (omega (arith, some)) (λ i a b l. rows-past w i (omega (arith, is))))

        pub last-long : length s₄ ≡ length c
        last-long = last.long

        still : Recorded w s₄
        unfolding Recorded
        still i a b = written_in last i a (omega (arith, is, some)) (omega (arith, is, some))

        pub laid-all : (rules positions other word newline : ℕ) → rules ≡ w.rules → positions ≡ w.positions
            → other ≡ resting_in s₄ count Other → word ≡ resting_in s₄ count Word → newline ≡ resting_in s₄ count Newline → (s₅ : List ℕ)
            → s₅ ≡ copied 0 16 (second_format ∷ rules ∷ positions ∷ count ∷ other ∷ word ∷ newline ∷ 0 ∷ 0 ∷ 0 ∷ 0 ∷ 0 ∷ 0 ∷ 0 ∷ 0 ∷ 0 ∷ []) s₄ → s₅ ≡ over 0 second_words g c
        laid-all rules positions other word newline a b u v y s₅ e =
            let row : List ℕ = second_format ∷ rules ∷ positions ∷ count ∷ other ∷ word ∷ newline ∷ 0 ∷ 0 ∷ 0 ∷ 0 ∷ 0 ∷ 0 ∷ 0 ∷ 0 ∷ 0 ∷ [] in
            e
            ∙ over-ext 0 16 (λ i. get_or row (i - 0) 0) g s₄
            (λ i p q l.
            let same : i - 0 ≡ i = omega arith in
            ap (λ (n : ℕ). get_or row n 0) same ∙ header_is w i q rules positions count other word newline a b is (u ∙ rest Other) (v ∙ rest Word) (y ∙ rest Newline))
            ∙ ap (over 0 16 g) last.is
            ∙ sym (over-swap 0 16 16 second_words g g c (le_refl 16))
            ∙ over-join 0 16 second_words g c (omega arith) (omega arith)
          where
            rest : (side : Side) → resting_in s₄ count side ≡ resting_word w es side
            rest = resting-in w s₄ count is still

-- ---- the call

module _ (t c : List ℕ) where
  pub no_table : is_table t ≡ false → (1 ≡ build_number t c) × (c ≡ built t c)
  unfolding build_number built
  no_table e = (sym (rw e), sym (rw e))

  pub too_short : is_table t ≡ true → length c < second_words → (29 ≡ build_number t c) × (c ≡ built t c)
  unfolding build_number built
  too_short e h = (sym (rw (e, lt-ltb (length c) second_words h)), sym (rw (e, lt-ltb (length c) second_words h)))

  pub all-built : is_table t ≡ true → second_words ≤ length c → (s : List ℕ) → s ≡ over 0 second_words (second_word (automaton t) (entries (automaton t))) c → (0 ≡ build_number t c) × (s ≡ built t c)
  unfolding build_number built second
  all-built e h s f = (sym (rw (e, le-ltb (length c) second_words h)), f ∙ sym (rw (e, le-ltb (length c) second_words h)))
