-- Class members, as the functions read them. Each law says a definition of specs/Class.antt at the
-- bytes from a place on by what the code has in hand there. Bytes of a member that was read are
-- skipped, so the members from one place on are those from the next member's place on.
use mathlib.Core.Path.{◌≡◌, refl, sym, ap, ap₂, ◌∙◌}
use mathlib.Core.Bool.{Bool, true, false, cond, not, ◌&&◌, ◌||◌}
use mathlib.Core.List.{List, [], ◌∷◌}
use Prim.Native.Nat.{ℕ, zero, suc, pred, ◌+◌, ◌-◌, ◌≤◌, ◌<◌}
use native.Mathlib.Decide.{dec_lt}
use native.Mathlib.Omega.{arith}
use borrow.Author.Tests.{eq-eqb, ne_eqb}
use lib.Dec.{eqb, ltb}
use lib.ListN.{length, get_or, drop, length-drop, drop_of_length-le}
use lib.Seq.{get_or-drop, drop-drop}
use Rattle.sets.specs.Set.{empty_set}
use Rattle.std.specs.Prelude.{Option, Some, None, Result, Ok, Err}
use Rattle.std.specs.Result.{result_err, is_ok}
use Rattle.std.proofs.lemmas.Result.{IfOk-at_ok}
use Rattle.refusals.specs.declared.Refusal.{Refusal}
use Rattle.refusals.specs.Refusal.{number_of, code_of}
use Rattle.refusals.proofs.Laws.{number-above}
use Rattle.atoms.specs.declared as declaredPart
use Rattle.atoms.specs.Answer.{fault, part, atom_of}
use Rattle.atoms.proofs.Raws.{raw-besides}
use Rattle.classes.specs.declared as declared
use Rattle.classes.specs.Invariants.{Told, joint, joins}
use Rattle.std.proofs.lemmas.Option.{cond_some, none-some}
use Rattle.atoms.specs.Raw.{with_raw}
use Rattle.atoms.specs.Escape.{good, bad, escape_of}
use Rattle.atoms.specs.Quote.{is_mark, opens_quote, gap_of}
use Rattle.classes.specs.Name.{name_of}
use Rattle.classes.specs.Class.{bracket_of, member_of, is_type, byte_of, range_fault, joint_of, as_member, as_range, spelled_at, member_at}
use Rattle.classes.specs.Class.{joined, refused_class, closed_class, settled, members_of, class_of}
use Rattle.atoms.specs.declared.Atom.TheVariants.{Byte}
use Rattle.atoms.specs.Escape.{Part}
use Rattle.atoms.specs.declared.Gap.{Gap}
use Rattle.classes.specs.Class.{Joint}
use Rattle.classes.specs.Class.{Member}
use Rattle.atoms.proofs.Suffixes.{front, first}
use Rattle.atoms.proofs.Gaps.{mark-inside}
use Rattle.classes.proofs.Sizes.{member-stands, joint-within, Spans, member-spans}

-- a fault, as the functions hand it on
pub err-fault : {T : Type 0} (r : Result T Refusal) → fault (result_err r) ≡ code_of r
err-fault (Ok x) = refl
err-fault (Err e) = refl

pub ok-fault : {T : Type 0} (r : Result T Refusal) → is_ok r ≡ eqb (code_of r) 0
ok-fault (Ok x) = refl
ok-fault (Err e) = sym (ne_eqb (number_of e) 0 (λ z. omega (arith, number-above e)))

-- the ends m and n of a range: whether they are types, and their bytes
pub range-fault-is : (m n : Part) (t u : Bool) (x y : ℕ) → t ≡ is_type m.atom → u ≡ is_type n.atom → x ≡ byte_of m.atom → y ≡ byte_of n.atom
    → range_fault m n ≡ cond (t || u) 9 (cond (eqb m.fault 0 && (eqb n.fault 0 && ltb y x)) 9 0)
unfolding range_fault
range-fault-is m n t u x y et eu ex ey = rw (← et, ← eu, ← ex, ← ey)

-- the same of the code's ends
pub range-fault-told : (m n : declaredPart.Part.Part Refusal) (t u a b : Bool) (x y : ℕ)
    → t ≡ is_type (atom_of m.atom) → u ≡ is_type (atom_of n.atom) → x ≡ byte_of (atom_of m.atom) → y ≡ byte_of (atom_of n.atom)
    → a ≡ is_ok m.atom → b ≡ is_ok n.atom
    → range_fault (part m) (part n) ≡ cond (t || u) 9 (cond (a && (b && ltb y x)) 9 0)
range-fault-told m n t u a b x y et eu ex ey ea eb =
    range-fault-is (part m) (part n) t u x y et eu ex ey ∙ rw (ea, eb, ok-fault m.atom, ok-fault n.atom) refl

-- what joins two members, as the code has it
module _ (quoted : Bool) (v : List ℕ) where
  pub joined-some : (j : declared.Joint.Joint) → Some j ≡ joins (joint_of quoted v) → joint j ≡ joint_of quoted v
  joined-some j e =
      let f = cond_some (joint_of quoted v).is (record { size = (joint_of quoted v).size; quoted = (joint_of quoted v).quoted }) j (sym e) in
      let size : j.size ≡ (joint_of quoted v).size = ap (λ (x : declared.Joint.Joint). x.size) (sym f.1) in
      let still : j.quoted ≡ (joint_of quoted v).quoted = ap (λ (x : declared.Joint.Joint). x.quoted) (sym f.1) in
      λ i. record { is = (sym f.0) i; size = size i; quoted = still i }

  pub joined-none : None ≡ joins (joint_of quoted v) → (joint_of quoted v).is ≡ false
  joined-none e = go (joint_of quoted v) e
    where
      go : (j : Joint) → None ≡ joins j → j.is ≡ false
      go j e = by j.is (record { size = j.size; quoted = j.quoted }) e
        where
          by : (t : Bool) (x : declared.Joint.Joint) → None ≡ cond t (Some x) None → t ≡ false
          by true x e = absurd (none-some x e)
          by false x e = refl

module _ (s : List ℕ) (at : ℕ) where
  -- what joins two members, told by the marks before and after its hyphen and the bytes p and q
  -- that follow them
  pub joint-is : (quoted : Bool) (g h : Gap) (p q : ℕ) → g ≡ gap_of quoted (drop at s) → h ≡ gap_of false (drop (at + g.size + 1) s)
      → p ≡ get_or s (at + g.size) 0 → q ≡ get_or s (at + (g.size + (1 + h.size))) 0
      → joint_of quoted (drop at s)
      ≡ record {
        is = not g.quoted && (eqb p 45 && (ltb (g.size + (1 + h.size)) (length s - at) && (h.quoted || not (eqb q 93))));
        size = g.size + (1 + h.size);
        quoted = h.quoted;
      }
  unfolding joint_of
  joint-is quoted g h p q eg eh ep eq =
      let further : at + (g.size + 1) ≡ at + g.size + 1 = omega arith in
      rw (
        ← eg,
        drop-drop (g.size + 1) at s,
        further,
        ← eh,
        get_or-drop at s g.size 0,
        get_or-drop at s (g.size + (1 + h.size)) 0,
        length-drop at s,
        ← ep,
        ← eq,
      )

  -- the same, as the code gives it by its test t
  pub joint-told : (quoted : Bool) (g h : Gap) (p q : ℕ) (t : Bool) → g ≡ gap_of quoted (drop at s) → h ≡ gap_of false (drop (at + g.size + 1) s)
      → p ≡ get_or s (at + g.size) 0 → q ≡ get_or s (at + (g.size + (1 + h.size))) 0
      → (not g.quoted && (eqb p 45 && (ltb (g.size + (1 + h.size)) (length s - at) && (h.quoted || not (eqb q 93))))) ≡ t
      → cond t (Some (record { size = g.size + (1 + h.size); quoted = h.quoted })) None ≡ joins (joint_of quoted (drop at s))
  joint-told quoted g h p q t eg eh ep eq et =
      ap (λ (b : Bool). joins (record { is = b; size = g.size + (1 + h.size); quoted = h.quoted })) (sym et)
      ∙ ap joins (sym (joint-is quoted g h p q eg eh ep eq))

  -- the byte c after a `[`
  pub bracket-is : (caseless : Bool) (c : ℕ) → c ≡ get_or s at 0
      → bracket_of caseless (drop at s)
      ≡ cond (eqb c 58) (name_of caseless (drop (at + 1) s)) (cond (eqb c 46 || eqb c 61) (bad 14 2) (good 1 (Byte 91)))
  unfolding bracket_of
  bracket-is caseless c e = rw (first s at, ← e, drop-drop 1 at s)

  module _ (caseless quoted : Bool) where
    pub member-end : length s ≤ at → member_of caseless quoted (drop at s) ≡ bad 6 0
    unfolding member_of
    member-end h = rw (drop_of_length-le s h)

    pub member_is : at < length s
        → member_of caseless quoted (drop at s)
        ≡ cond quoted (good 1 (Byte (get_or s at 0)))
        (cond (eqb (get_or s at 0) 92) (escape_of true (drop (at + 1) s))
        (cond (eqb (get_or s at 0) 91) (bracket_of caseless (drop (at + 1) s))
        (good 1 (Byte (get_or s at 0)))))
    unfolding member_of
    member_is h = rw (front s at h)

    -- the member m at the place, which stands in the pattern
    module _ (m : Part) (e : m ≡ member_of caseless quoted (drop at s)) where
      pub part-fits : m.size ≤ length s - at
      part-fits = omega (arith, ap (λ (p : Part). p.size) e, (member-stands caseless quoted (drop at s)).fits, length-drop at s)

      pub part-inside : (m.fault ≡ 6 → ⊥) → at + m.size ≤ length s
      part-inside f = go (dec_lt at (length s))
        where
          go : Dec (at < length s) → at + m.size ≤ length s
          go (yes l) = omega (arith, part-fits)
          go (no l) = absurd (f (ap (λ (p : Part). p.fault) (e ∙ member-end (omega arith))))

      -- where a range is made, its second end follows in the pattern
      pub joint-inside : (j : Joint) → (m.fault ≡ 6 → ⊥) → j ≡ joint_of quoted (drop (at + m.size) s) → j.is ≡ true → at + m.size + j.size < length s
      joint-inside j f ej t =
          let is : (joint_of quoted (drop (at + m.size) s)).is ≡ true = ap (λ (x : Joint). x.is) (sym ej) ∙ t in
          let size : j.size ≡ (joint_of quoted (drop (at + m.size) s)).size = ap (λ (x : Joint). x.size) ej in
          omega (arith, part-inside f, joint-within quoted (drop (at + m.size) s) is, length-drop (at + m.size) s)

      -- what joins m to another member
      pub spelled-at-is : (j : Joint) → j ≡ joint_of quoted (drop (at + m.size) s)
          → spelled_at caseless quoted (drop at s)
          ≡ cond (eqb m.fault 6) (as_member quoted m)
          (cond j.is (as_range m j (member_of caseless j.quoted (drop (at + m.size + j.size) s))) (as_member quoted m))
      unfolding spelled_at
      spelled-at-is j ej =
          let further : at + (m.size + j.size) ≡ at + m.size + j.size = omega arith in
          rw (← e, drop-drop m.size at s, ← ej, drop-drop (m.size + j.size) at s, further)

    -- the member or range at the place: a member alone, or with another as a range
    module _ (m : Part) (e : m ≡ member_of caseless quoted (drop at s)) where
      pub spelled-alone : eqb m.fault 6 ≡ true → spelled_at caseless quoted (drop at s) ≡ as_member quoted m
      spelled-alone f = spelled-at-is m e (joint_of quoted (drop (at + m.size) s)) refl ∙ rw f refl

      module _ (j : Joint) (ej : j ≡ joint_of quoted (drop (at + m.size) s)) (f : eqb m.fault 6 ≡ false) where
        pub spelled-single : j.is ≡ false → spelled_at caseless quoted (drop at s) ≡ as_member quoted m
        spelled-single i = spelled-at-is m e j ej ∙ rw (f, i) refl

        pub spelled-range : j.is ≡ true → (n : Part) → n ≡ member_of caseless j.quoted (drop (at + m.size + j.size) s)
            → spelled_at caseless quoted (drop at s) ≡ as_range m j n
        spelled-range i n en = spelled-at-is m e j ej ∙ rw (f, i, ← en) refl

    -- the member or range r at the place, and its fault o with that of a raw byte
    module _ (r : declared.Member.Member) (t : Told r (spelled_at caseless quoted (drop at s))) (o : Option Refusal)
        (eo : fault o ≡ with_raw (code_of r.ends) r.size (drop at s)) where
      raw_is : fault o ≡ (member_at caseless quoted (drop at s)).fault
      unfolding member_at
      raw_is = eo ∙ ap₂ (λ (f k : ℕ). with_raw f k (drop at s)) t.fault t.size

      pub member-sound : o ≡ None → Told r (member_at caseless quoted (drop at s))
      unfolding member_at
      member-sound e =
          let none : with_raw (code_of r.ends) r.size (drop at s) ≡ 0 = sym eo ∙ ap fault e in
          let was : code_of r.ends ≡ 0 = raw-besides (code_of r.ends) r.size (drop at s) none in
          record { fault = was ∙ (ap fault (sym e) ∙ raw_is); size = t.size; quoted = t.quoted; ends = t.ends }

      pub member-raw : (x : Refusal) → o ≡ Some x
          → Told (record { size = r.size; ends = Err x; quoted = r.quoted }) (member_at caseless quoted (drop at s))
      unfolding member_at
      member-raw x e = record { fault = ap fault (sym e) ∙ raw_is; size = t.size; quoted = t.quoted; ends = tt }

    -- a member or range that is not faulty takes a byte at least, and stands in the pattern
    pub member-advances : (m : Member) → at < length s → m ≡ member_at caseless quoted (drop at s) → m.fault ≡ 0
        → (1 ≤ m.size) × (at + m.size ≤ length s)
    member-advances m h e f =
        let spans : Spans (length (drop at s)) m = rw e (member-spans caseless quoted (drop at s)) in
        (spans.takes f, omega (arith, spans.fits, length-drop at s))

module _ (caseless negated : Bool) where
  -- bytes that are skipped: the members are those from the place after them on
  skipped : (start quoted : Bool) (set : List ℕ) (k : ℕ) (v : List ℕ) (at : ℕ) → k ≤ length v
      → members_of caseless negated start quoted set k v at ≡ members_of caseless negated start quoted set 0 (drop k v) (at + k)
  unfolding members_of
  skipped start quoted set zero v at h = let same : at + 0 ≡ at = omega arith in rw same
  skipped start quoted set (suc k) [] at h = absurd (omega arith)
  skipped start quoted set (suc k) (c ∷ v) at h =
      let same : at + 1 + k ≡ at + suc k = omega arith in
      rw same at (skipped start quoted set k v (at + 1) (omega arith))

  module _ (start quoted : Bool) (set : List ℕ) (s : List ℕ) (at : ℕ) where
    pub members-end : length s ≤ at → members_of caseless negated start quoted set 0 (drop at s) at ≡ refused_class 8 at
    unfolding members_of
    members-end h = rw (drop_of_length-le s h)

    pub members-mark : is_mark quoted (get_or s at 0) (get_or s (at + 1) 0) ≡ true
        → members_of caseless negated start quoted set 0 (drop at s) at
        ≡ members_of caseless negated start (opens_quote (get_or s (at + 1) 0)) set 0 (drop (at + 2) s) (at + 2)
    unfolding members_of
    members-mark k =
        let two : at + 2 ≤ length s = mark-inside s at quoted k in
        let same : at + 1 + 1 ≡ at + 2 = omega arith in
        rw (front s at (omega arith), first s (at + 1), k)
        (skipped start (opens_quote (get_or s (at + 1) 0)) set 1 (drop (at + 1) s) (at + 1) (omega (arith, length-drop (at + 1) s))
        ∙ rw (drop-drop 1 (at + 1) s, same))

    -- where no mark stands
    module _ (h : at < length s) (k : is_mark quoted (get_or s at 0) (get_or s (at + 1) 0) ≡ false) where
      pub members-close : (eqb (get_or s at 0) 93 && not (start || quoted)) ≡ true
          → members_of caseless negated start quoted set 0 (drop at s) at ≡ closed_class (at + 1) (settled caseless negated set)
      unfolding members_of
      members-close t = rw (front s at h, first s (at + 1), k, t)

      -- the member m at the place
      module _ (m : Member) (t : (eqb (get_or s at 0) 93 && not (start || quoted)) ≡ false) (e : m ≡ member_at caseless quoted (drop at s)) where
        here : m ≡ member_at caseless quoted (get_or s at 0 ∷ drop (at + 1) s)
        here = e ∙ ap (member_at caseless quoted) (front s at h)

        pub members-fault : (m.fault ≡ 0 → ⊥) → members_of caseless negated start quoted set 0 (drop at s) at ≡ refused_class m.fault at
        unfolding members_of
        members-fault f = rw (front s at h, first s (at + 1), k, t, ← here, ne_eqb _ _ f)

        pub members-more : m.fault ≡ 0
            → members_of caseless negated start quoted set 0 (drop at s) at
            ≡ members_of caseless negated false m.quoted (joined set m.low m.high) 0 (drop (at + m.size) s) (at + m.size)
        unfolding members_of
        members-more f =
            let some = member-advances s at caseless quoted m h e f in
            let fits : pred m.size ≤ length (drop (at + 1) s) = omega (arith, some.0, some.1, length-drop (at + 1) s) in
            let same : at + 1 + pred m.size ≡ at + m.size = omega arith in
            rw (front s at h, first s (at + 1), k, t, ← here, eq-eqb _ _ f)
            (skipped false m.quoted (joined set m.low m.high) (pred m.size) (drop (at + 1) s) (at + 1) fits
            ∙ rw (drop-drop (pred m.size) (at + 1) s, same))

-- a member of the code, told by its ends
module _ (s : List ℕ) (at : ℕ) (caseless quoted : Bool) (r : declared.Member.Member) (t : Told r (member_at caseless quoted (drop at s))) (h : at < length s) where
  module _ (x : Refusal) (e : r.ends ≡ Err x) where
    pub told-number : (member_at caseless quoted (drop at s)).fault ≡ number_of x
    told-number = sym t.fault ∙ ap (λ (y : Result declared.Ends.Ends Refusal). code_of y) e

    pub told-faulty : (member_at caseless quoted (drop at s)).fault ≡ 0 → ⊥
    told-faulty z = omega (arith, told-number, number-above x)

    module _ (negated start : Bool) (set : List ℕ) (k : is_mark quoted (get_or s at 0) (get_or s (at + 1) 0) ≡ false)
        (c : (eqb (get_or s at 0) 93 && not (start || quoted)) ≡ false) where
      pub told-refused : members_of caseless negated start quoted set 0 (drop at s) at ≡ refused_class (number_of x) at
      told-refused =
          members-fault caseless negated start quoted set s at h k (member_at caseless quoted (drop at s)) c refl told-faulty
          ∙ ap (λ (f : ℕ). refused_class f at) told-number

  module _ (x : declared.Ends.Ends) (e : r.ends ≡ Ok x) where
    pub told-sound : (member_at caseless quoted (drop at s)).fault ≡ 0
    told-sound = sym t.fault ∙ ap (λ (y : Result declared.Ends.Ends Refusal). code_of y) e

    pub told-ends : (x.low ≡ (member_at caseless quoted (drop at s)).low) × (x.high ≡ (member_at caseless quoted (drop at s)).high)
    told-ends = IfOk-at_ok (λ (y : declared.Ends.Ends). (y.low ≡ (member_at caseless quoted (drop at s)).low) × (y.high ≡ (member_at caseless quoted (drop at s)).high)) e t.ends

    pub told-advances : (1 ≤ r.size) × (at + r.size ≤ length s)
    told-advances =
        let a = member-advances s at caseless quoted (member_at caseless quoted (drop at s)) h refl told-sound in
        (omega (arith, a.0, t.size), omega (arith, a.1, t.size))

    module _ (negated start : Bool) (set : List ℕ) (k : is_mark quoted (get_or s at 0) (get_or s (at + 1) 0) ≡ false)
        (c : (eqb (get_or s at 0) 93 && not (start || quoted)) ≡ false) where
      pub told-more : members_of caseless negated start quoted set 0 (drop at s) at
          ≡ members_of caseless negated false r.quoted (joined set x.low x.high) 0 (drop (at + r.size) s) (at + r.size)
      told-more =
          members-more caseless negated start quoted set s at h k (member_at caseless quoted (drop at s)) c refl told-sound
          ∙ rw (← t.quoted, ← t.size, ← told-ends.0, ← told-ends.1) refl

-- the marks g at the front of a class, and the byte p after them
pub class-is : (caseless : Bool) (s : List ℕ) (at : ℕ) (g : Gap) (p : ℕ) → g ≡ gap_of false (drop at s) → p ≡ get_or s (at + g.size) 0
    → class_of caseless (drop at s) at
    ≡ cond (eqb p 94 && not g.quoted) (members_of caseless true true false empty_set 0 (drop (at + g.size + 1) s) (at + g.size + 1))
    (members_of caseless false true false empty_set 0 (drop at s) at)
unfolding class_of
class-is caseless s at g p eg ep =
    let further : at + (g.size + 1) ≡ at + g.size + 1 = omega arith in
    rw (← eg, get_or-drop at s g.size 0, ← ep, drop-drop (g.size + 1) at s, further)
