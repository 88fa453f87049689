-- An item's set is copied as a part of the words, and its word is pushed after it: one run of
-- stores.
use mathlib.Core.Path.{◌≡◌, sym, ap, ◌∙◌}
use mathlib.Core.List.{List, [], ◌∷◌, ◌++◌}
use Prim.Native.Nat.{ℕ, ◌+◌, ◌-◌, ◌≤◌}
use native.Mathlib.Omega.{arith}
use borrow.Rule.Slice.PartMut.{put_mid}
use Rattle.std.proofs.Common.{append_assoc}
use lib.ListN.{length, take, drop, set}
use lib.Seq.{sets, sets-eq, drop-drop}
use Rattle.nodes.specs.Nodes.{word}
use Rattle.nodes.proofs.Base.{sets-append}
use Rattle.pattern.proofs.writer.Arena.push_item.Goals as goal

copied : (a r bytes : List ℕ) (n w : ℕ) → n + 4 ≤ length a → length bytes ≡ 4 → r ≡ bytes → set (put_mid n (n + 4 - n) a r) (n + 4) w ≡ sets a n (bytes ++ (w ∷ []))
copied a r bytes n w h l e =
    let size : n + 4 - n ≡ 4 = omega arith in
    let part : put_mid n (n + 4 - n) a r ≡ sets a n bytes =
    rw (e, size, drop-drop 4 n a) (sym (sets-eq bytes a n (omega (arith, l)) ∙ ap (λ (k : ℕ). take n a ++ bytes ++ drop (n + k) a) l ∙ append_assoc (take n a) bytes (drop (n + 4) a))) in
    ap (λ (x : List ℕ). set x (n + 4) w) part ∙ sym (sets-append bytes (w ∷ []) a n ∙ rw l)

pub returns-clause-words : goal.returns-clause-words
returns-clause-words c =
    let x = c.args in
    let a = x.self.now in
    let e = copied a.words c.copy_from_slice.new.self x.bytes a.n (word 1 0 0 0) (omega arith) (omega arith) c.copy_from_slice.ensures.after in
    let m : a.n + 4 + 1 ≡ a.n + 5 = omega arith in
    c.push.ensures.words ∙ (λ i. record { words = e i; n = m i })
