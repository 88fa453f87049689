-- `second::test::named_by` meets its contract: the record's words, joined.
use mathlib.Core.Path.{sym, ap, ap₂, ◌∙◌}
use Prim.Native.Nat.{ℕ, ◌+◌}
use native.Mathlib.Nat.{add-zero}
use lib.Bits.{bit_or}
use lib.Dec.{eqb}
use lib.ListN.{get_or}
use Rattle.sets.specs.Set.{union_of, size_of}
use Rattle.kinds.specs.declared.Side.TheVariants.{Word, Newline}
use Rattle.kinds.specs.Side.{side_word}
use Rattle.second.specs.Layout.{record_at, entry_pending, entry_own, entry_late, entry_busy}
use Rattle.second.specs.Invariants.{named_by}
use Rattle.second.proofs.test.named_by.Goals as goal

pub returns : goal.returns
unfolding named_by side_word
returns c =
    let c₀ = c.args.second.now in
    let e = c.args.e in
    let other = ap (λ (j : ℕ). get_or c₀ j 0) (sym (add-zero (record_at e + 11))) in
    λ i. record {
      set = (c.union-set.ensures ∙ ap₂ union_of c.words_at-live.ensures c.words_at-held.ensures) i;
      rules = bit_or (bit_or (entry_pending c₀ e) (entry_own c₀ e)) (bit_or (bit_or (other i) (entry_late c₀ e Word)) (entry_late c₀ e Newline));
      counted = eqb (entry_busy c₀ e) ((c.size.ensures ∙ ap size_of c.words_at-live.ensures) i);
    }
