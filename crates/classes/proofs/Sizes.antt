-- How many bytes a class member or a range takes: never more than there are, so that no place runs
-- past the pattern's end, and at least one unless it is faulty, so that whoever goes on after it
-- comes nearer to the end. By cases on what the definitions ask.
use mathlib.Core.Path.{◌≡◌, sym}
use mathlib.Core.Bool.{Bool, true, false, not, ◌||◌, and-eq-true_iff, true≢false}
use mathlib.Core.List.{List, [], ◌∷◌}
use Prim.Native.Nat.{ℕ, ◌+◌, ◌≤◌, ◌<◌}
use native.Mathlib.Omega.{arith}
use borrow.Author.Tests.{ltb-true}
use lib.Dec.{eqb, ltb}
use lib.ListN.{length, get_or, drop, length-drop}
use Rattle.atoms.specs.Quote.{gap_of}
use Rattle.atoms.proofs.Suffixes.{inside}
use Rattle.atoms.proofs.Raws.{raw-besides}
use Rattle.atoms.proofs.Sizes.{pick, byte-within, Stands, sound, unsound, escape-stands}
use Rattle.classes.specs.Name.{Name, names, begins, name_among, name_of}
use Rattle.classes.specs.Class.{bracket_of, member_of, joint_of, as_member, spelled_at, member_at}
use Rattle.classes.specs.Class.{Member}

-- a text that the bytes begin with has no more bytes than they
pub begins-fits : (text v : List ℕ) → begins text v ≡ true → length text ≤ length v
unfolding begins
begins-fits [] v e = omega arith
begins-fits (b ∷ text) [] e = absurd (true≢false (sym e))
begins-fits (b ∷ text) (c ∷ v) e = omega (arith, begins-fits text v ((and-eq-true_iff (eqb b c) (begins text v)).0 e).1)

module _ (caseless negated : Bool) (lead : ℕ) (l : 2 ≤ lead) (v : List ℕ) where
  among-stands : (ns : List Name) → Stands (lead + length v) (name_among ns caseless negated lead v)
  unfolding name_among
  among-stands [] = unsound (lead + length v) 13 2 (omega arith)
  among-stands (n ∷ ns) =
      let all = lead + length v in
      pick (Stands all) (begins n.text v)
      (λ e. sound all (lead + length n.text) _ (omega arith) (omega (arith, begins-fits n.text v e)))
      (among-stands ns)

module _ (caseless : Bool) where
  pub name-stands : (v : List ℕ) → Stands (2 + length v) (name_of caseless v)
  unfolding name_of
  name-stands v =
      pick (Stands (2 + length v)) (eqb (get_or v 0 0) 94)
      (λ e.
      let more : 2 + length v ≡ 3 + length (drop 1 v) = omega (arith, byte-within v 0 93 e, length-drop 1 v) in
      rw more (among-stands caseless true 3 (omega arith) (drop 1 v) names))
      (among-stands caseless false 2 (omega arith) v names)

  bracket-stands : (v : List ℕ) → Stands (1 + length v) (bracket_of caseless v)
  unfolding bracket_of
  bracket-stands v =
      let n = 1 + length v in
      let c = get_or v 0 0 in
      pick (Stands n) (eqb c 58)
      (λ e.
      let more : n ≡ 2 + length (drop 1 v) = omega (arith, byte-within v 0 57 e, length-drop 1 v) in
      rw more (name-stands (drop 1 v)))
      (pick (Stands n) (eqb c 46 || eqb c 61) (λ e. unsound n 13 2 (omega (arith, other e)))
      (sound n 1 _ (omega arith) (omega arith)))
    where
      other : (eqb (get_or v 0 0) 46 || eqb (get_or v 0 0) 61) ≡ true → 0 < length v
      other e = inside v 0 (λ z. true≢false (sym (rw z at e)))

  pub member-stands : (quoted : Bool) (v : List ℕ) → Stands (length v) (member_of caseless quoted v)
  unfolding member_of
  member-stands quoted [] = unsound 0 5 0 (omega arith)
  member-stands quoted (c ∷ v) =
      let n = length (c ∷ v) in
      let more : n ≡ 1 + length v = omega arith in
      let byte = sound n 1 _ (omega arith) (omega arith) in
      pick (Stands n) quoted (λ e. byte)
      (pick (Stands n) (eqb c 92) (λ e. rw more (escape-stands true v))
      (pick (Stands n) (eqb c 91) (λ e. rw more (bracket-stands v))
      byte))

-- what joins two members has a byte at least, and one follows it
pub joint-within : (quoted : Bool) (v : List ℕ) → (joint_of quoted v).is ≡ true → (joint_of quoted v).size < length v
unfolding joint_of
joint-within quoted v e =
    let g = gap_of quoted v in
    let h = gap_of false (drop (g.size + 1) v) in
    let n = g.size + (1 + h.size) in
    let hyphen = ((and-eq-true_iff (not g.quoted) _).0 e).1 in
    let more = ((and-eq-true_iff (eqb (get_or v g.size 0) 45) _).0 hyphen).1 in
    ltb-true n (length v) ((and-eq-true_iff (ltb n (length v)) _).0 more).0

joint-some : (quoted : Bool) (v : List ℕ) → 1 ≤ (joint_of quoted v).size
unfolding joint_of
joint-some quoted v = omega arith

-- a member or range that stands within n bytes
pub record Spans (n : ℕ) (m : Member) : Type 0 where
  pub fits : m.size ≤ n
  pub takes : m.fault ≡ 0 → 1 ≤ m.size

spelled-spans : (caseless quoted : Bool) (v : List ℕ) → Spans (length v) (spelled_at caseless quoted v)
unfolding spelled_at
spelled-spans caseless quoted v =
    let m = member_of caseless quoted v in
    let j = joint_of quoted (drop m.size v) in
    let one : Spans (length v) (as_member quoted m) =
    record { fits = (member-stands caseless quoted v).fits; takes = (member-stands caseless quoted v).takes } in
    let some = joint-some quoted (drop m.size v) in
    pick (Spans (length v)) (eqb m.fault 6) (λ e. one)
    (pick (Spans (length v)) j.is
    (λ e.
    record {
      fits =
          omega (
            arith,
            joint-within quoted (drop m.size v) e,
            length-drop m.size v,
            (member-stands caseless j.quoted (drop (m.size + j.size) v)).fits,
            length-drop (m.size + j.size) v,
          );
      takes = λ z. omega (arith, some);
    })
    one)

pub member-spans : (caseless quoted : Bool) (v : List ℕ) → Spans (length v) (member_at caseless quoted v)
unfolding member_at
member-spans caseless quoted v =
    let m = spelled_at caseless quoted v in
    let spans = spelled-spans caseless quoted v in
    record { fits = spans.fits; takes = λ e. spans.takes (raw-besides m.fault m.size v e) }
