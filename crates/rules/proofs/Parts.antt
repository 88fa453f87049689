-- What the parts of a rule say: the words of the builder's sets, read back as the sets of the
-- written-out form. The builder's laws give the rows as four words (`follow-row`, `takes-row`);
-- here they are read by their members.
use mathlib.Core.Path.{◌≡◌, refl, sym, ap, ◌∙◌}
use mathlib.Core.List.{List, []}
use Prim.Native.Nat.{ℕ, ◌+◌, ◌*◌, ◌/◌, ◌%◌, ◌≤◌, ◌<◌}
use lib.ListN.{get_or, drop}
use lib.Seq.{get_or-drop}
use Rattle.sets.specs.Set.{on, has}
use Rattle.sets.proofs.Laws.{has-set_of}
use Rattle.table.specs.Layout.{row_has}
use Rattle.table.proofs.Rows.{row-member}
use Rattle.meaning.specs.Form.{Form, write, positions}
use Rattle.meaning.specs.Count.{limit}
use Rattle.meaning.specs.Rule.{Assertion, ByteSet}
use Rattle.meaning.specs.Automaton.{first, last, follow, items}
use Rattle.nodes.specs.Nodes.{Syntax}
use Rattle.automaton.specs.Parts.{four_words, world_of, form_parts, parts_of}
use Rattle.automaton.specs.declared.Parts.{Parts}
use Rattle.automaton.proofs.Words.{has-four}
use Rattle.automaton.proofs.Padded.{parts_whole, follow-row, takes-row}

-- ---- the sets and the count

module _ (f : Form ByteSet Assertion) (b world : ℕ) where
  pub parts-positions : (form_parts f b world).positions ≡ positions f
  unfolding form_parts
  parts-positions = refl

  pub parts_first : (q : ℕ) → q < 256 → has (form_parts f b world).first q ≡ first (world_of world) f b q
  unfolding form_parts
  parts_first = has-set_of (first (world_of world) f b)

  pub parts_last : (q : ℕ) → q < 256 → has (form_parts f b world).last q ≡ last (world_of world) f b q
  unfolding form_parts
  parts_last = has-set_of (last (world_of world) f b)

-- ---- the rows

row-four : (l : List ℕ) (at q : ℕ) → q < 256 → row_has l at q ≡ has (four_words (drop at l)) q
unfolding has
row-four l at q h =
    row-member l at q h ∙ sym (has-four (drop at l) q h ∙ ap (λ (x : ℕ). on x (q % 64)) (get_or-drop at l (q / 64) 0))

module _ (t : Syntax) (b world : ℕ) (fits : b + positions (write t) ≤ limit) where
  -- row i of the follow sets
  pub parts-follow : (i q : ℕ) → i < positions (write t) → q < 256 → row_has (form_parts (write t) b world).follow (i * 4) q ≡ follow (world_of world) (write t) b (b + i) q
  parts-follow i q h l =
      ap (λ (p : Parts). row_has p.follow (i * 4) q) (parts_whole t b world fits) ∙ row-four (parts_of t b world).follow (i * 4) q l
      ∙ ap (λ (s : List ℕ). has s q) (follow-row t b world i fits h) ∙ has-set_of (follow (world_of world) (write t) b (b + i)) q l

  -- row i of the byte sets
  pub parts-takes : (i x : ℕ) → i < positions (write t) → x < 256 → row_has (form_parts (write t) b world).takes (i * 4) x ≡ has (get_or (items (write t)) i []) x
  parts-takes i x h l =
      ap (λ (p : Parts). row_has p.takes (i * 4) x) (parts_whole t b world fits) ∙ row-four (parts_of t b world).takes (i * 4) x l
      ∙ ap (λ (s : List ℕ). has s x) (takes-row t b world i fits h) ∙ has-four (get_or (items (write t)) i []) x l

  -- the parts of a tree have as many positions as it
  pub sized-parts : (parts_of t b world).positions ≡ positions (write t)
  sized-parts = ap (λ (p : Parts). p.positions) (sym (parts_whole t b world fits)) ∙ parts-positions (write t) b world

  pub sized : (p : Parts) → p ≡ parts_of t b world → p.positions ≡ positions (write t)
  sized p e = ap (λ (p : Parts). p.positions) e ∙ sized-parts
