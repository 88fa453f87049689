-- What callers need of the types' sets and of case. What is said of every byte is one test,
-- computed over all 256 of them; what is said of sets follows member by member.
use mathlib.Core.Path.{◌≡◌, refl, sym, ap, ap₂, ◌∙◌}
use mathlib.Core.Bool.{Bool, true, false, not, ◌||◌, or_self, or_comm}
use mathlib.Core.List.{List}
use Prim.Native.Nat.{ℕ, ◌<◌}
use borrow.Author.Tests.{ltb-true}
use lib.Dec.{eqb, ltb}
use Rattle.sets.specs.Set.{has, set_of, any, as_one}
use Rattle.sets.proofs.Laws.{has-set_of, set_of-ext}
use Rattle.kinds.specs.Kind.{is_digit, is_lower, is_upper, is_word, is_space, is_horizontal, is_vertical, is_alpha, is_alnum, is_ascii, is_blank, is_cntrl, is_graph, is_print, is_punct, is_xdigit, is_kind, is_not_kind}
use Rattle.kinds.specs.Case.{other_case, case_closed, uncased}
use Rattle.kinds.specs.declared.Kind.{Kind}
use Rattle.kinds.specs.declared.Kind.TheVariants.{Digit, Word, Space, Horizontal, Vertical, Alpha, Lower, Upper, Alnum, Ascii, Blank, Cntrl, Graph, Print, Punct, Xdigit}
use Rattle.kinds.proofs.Bytes.{every_byte, bytes-agree}
pub use Rattle.kinds.proofs.Bits.{predicate, meets, meets-kinds, meets-kind}

-- ---- members

pub has-kind : (k : Kind) (q : ℕ) → q < 256 → has (set_of (is_kind k)) q ≡ is_kind k q
has-kind k q l = has-set_of (is_kind k) q l

pub has-not-kind : (k : Kind) (q : ℕ) → q < 256 → has (set_of (is_not_kind k)) q ≡ not (is_kind k q)
has-not-kind k q l = has-set_of (is_not_kind k) q l

pub has-closed : (s : List ℕ) (q : ℕ) → q < 256 → has (case_closed s) q ≡ (has s q || has s (other_case q))
unfolding case_closed
has-closed s q l = has-set_of (λ q. has s q || has s (other_case q)) q l

-- ---- the other case of a byte

pub other_byte : (b : ℕ) → b < 256 → other_case b < 256
unfolding any other_case is_lower is_upper
other_byte b l = ltb-true (other_case b) 256 (every_byte (λ b. ltb (other_case b) 256) refl b l)

pub other-twice : (b : ℕ) → b < 256 → other_case (other_case b) ≡ b
unfolding any other_case is_lower is_upper
other-twice b l = bytes-agree (λ b. other_case (other_case b)) (λ b. b) refl b l

-- a kind, as caseless reads it, does not tell the cases of a letter apart
none_apart : (k : Kind) → any 256 (λ b. not (eqb (as_one (is_kind (uncased k) (other_case b))) (as_one (is_kind (uncased k) b)))) ≡ false
unfolding any other_case is_digit is_lower is_upper is_word is_space is_horizontal is_vertical is_alpha is_alnum is_ascii is_blank is_cntrl is_graph is_print is_punct is_xdigit
none_apart Digit = refl
none_apart Word = refl
none_apart Space = refl
none_apart Horizontal = refl
none_apart Vertical = refl
none_apart Alpha = refl
none_apart Lower = refl
none_apart Upper = refl
none_apart Alnum = refl
none_apart Ascii = refl
none_apart Blank = refl
none_apart Cntrl = refl
none_apart Graph = refl
none_apart Print = refl
none_apart Punct = refl
none_apart Xdigit = refl

as_one_lem : (t : Bool) → eqb (as_one t) 1 ≡ t
as_one_lem true = refl
as_one_lem false = refl

pub other-kind : (k : Kind) (b : ℕ) → b < 256 → is_kind (uncased k) (other_case b) ≡ is_kind (uncased k) b
other-kind k b l =
    sym (as_one_lem (is_kind (uncased k) (other_case b)))
    ∙ ap (λ (x : ℕ). eqb x 1) (bytes-agree (λ b. as_one (is_kind (uncased k) (other_case b))) (λ b. as_one (is_kind (uncased k) b)) (none_apart k) b l)
    ∙ as_one_lem (is_kind (uncased k) b)

-- ---- sets closed under case

-- a set that does not tell the cases apart stays as it is
pub closed-already : (f : ℕ → Bool) → ((q : ℕ) → q < 256 → f (other_case q) ≡ f q) → case_closed (set_of f) ≡ set_of f
unfolding case_closed
closed-already f e =
    set_of-ext (λ q. has (set_of f) q || has (set_of f) (other_case q)) f
    (λ q l. ap₂ ◌||◌ (has-set_of f q l) (has-set_of f (other_case q) (other_byte q l) ∙ e q l) ∙ or_self (f q))

pub closed-kind : (k : Kind) → case_closed (set_of (is_kind (uncased k))) ≡ set_of (is_kind (uncased k))
closed-kind k = closed-already (is_kind (uncased k)) (other-kind k)

pub closed-not-kind : (k : Kind) → case_closed (set_of (is_not_kind (uncased k))) ≡ set_of (is_not_kind (uncased k))
closed-not-kind k = closed-already (is_not_kind (uncased k)) (λ q l. ap not (other-kind k q l))

pub closed-twice : (s : List ℕ) → case_closed (case_closed s) ≡ case_closed s
unfolding case_closed
closed-twice s =
    closed-already (λ q. has s q || has s (other_case q))
    (λ q l. ap (λ (x : ℕ). has s (other_case q) || has s x) (other-twice q l) ∙ or_comm (has s (other_case q)) (has s q))
