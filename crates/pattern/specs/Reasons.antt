-- Why a pattern is refused: the rows of the table "When the watcher says no" from 6 to 16, and 23,
-- each as a predicate of its own: on the bytes of one token and what stands before it, on the
-- finished tree, or on the pattern's end. Taken over from the reading: where the tokens and members
-- stand, each after one that is not refused (`Stands`, `InClass`), whether a quote is open there
-- and what its marks are, what stands before a token (the open groups, and what a quantifier would
-- repeat), which token it is, how many bytes a token, a member or a range takes, what a member
-- stands for, which hyphen joins two members, which braces are a quantifier, the table of names,
-- digits and their value, and the finished tree. Said anew: everything that makes one of them
-- faulty. The theorems are `decided` and `accepted` of proofs/Accepted.antt. Assumes nothing: these
-- are definitions.
use Rattle.std.specs.Prelude.{◌≡◌, Bool, true, false, cond, not, ◌&&◌, ◌||◌, List, [], ◌∷◌, ℕ, suc, ◌+◌, ◌≤◌, ◌<◌, T, eqb, leb, ltb, length, get_or, drop, take}
use Rattle.kinds.specs.Kind.{within, is_alnum}
use Rattle.tokens.specs.declared.Options.{Options}
use Rattle.atoms.specs.Escape.{Part}
use Rattle.atoms.specs.declared.Gap.{Gap}
use Rattle.classes.specs.Class.{Joint}
use Rattle.tokens.specs.Lexeme.{Token}
use Rattle.tokens.specs.Lexeme.{Finish, Bar, Close, Class, One, Open, Set, Note, Unclosed, Repeat, Bad}
use Rattle.atoms.specs.Number.{some, blanks, digits, value_from}
use Rattle.atoms.specs.Quote.{is_mark, opens_quote, gap_of}
use Rattle.classes.specs.Name.{Name, names, begins as begins_with}
use Rattle.classes.specs.Class.{member_of, is_type, byte_of, joint_of, spelled_at, member_at}
use Rattle.tokens.specs.Quantifier.{form_of}
use Rattle.tokens.specs.Token.{spelled_of, lexeme_of}
use Rattle.meaning.specs.Form.{write, positions}
use Rattle.meaning.specs.Count.{limit, MatchesEmpty}
use Rattle.nodes.specs.Nodes.{Syntax}
use Rattle.pattern.specs.Walk.{Target, nothing, single, repeated, State, go, group_of, deepest, next, begin}

-- ---- numbers between braces: v is the pattern after the opening brace or after the comma

-- "spaces and tabs after `{`, before `}` and around the comma" are skipped
abbrev pub bare : List ℕ → List ℕ
bare v = drop (blanks v) v

-- the digits of the number at the front, and what follows them
abbrev pub number : ℕ → List ℕ → List ℕ
number base v = digits base (bare v)

unfoldable pub beyond : ℕ → List ℕ → List ℕ
beyond base v = bare (drop (length (number base v)) (bare v))

-- ---- escapes: v is the pattern after the `\`

-- "digits and brace": v is the pattern after the opening brace. "Spaces alone make no number."
abbrev pub braced : ℕ → List ℕ → Bool
braced base v = some (number base v) && eqb (get_or (beyond base v) 0 0) 125

-- 6: "`\` at the end; `\c` not followed by a byte 32 to 126; `\x{` or `\o` without digits and
-- brace"
unfoldable pub cut_short : List ℕ → Bool
cut_short v =
    not (some v)
    || ((eqb (get_or v 0 0) 99 && not (within 32 126 (get_or v 1 0)))
    || ((eqb (get_or v 0 0) 120 && (eqb (get_or v 1 0) 123 && not (braced 16 (drop 2 v))))
    || (eqb (get_or v 0 0) 111 && not (eqb (get_or v 1 0) 123 && braced 8 (drop 2 v)))))

-- 7: "a number escape over 255"
abbrev pub over255 : ℕ → List ℕ → Bool
over255 base v = braced base v && ltb 255 (value_from base 0 (number base v))

unfoldable pub too_large : List ℕ → Bool
too_large v =
    eqb (get_or v 1 0) 123 && ((eqb (get_or v 0 0) 120 && over255 16 (drop 2 v)) || (eqb (get_or v 0 0) 111 && over255 8 (drop 2 v)))

-- the letters and digits that mean something after a `\`: x o 0 c, a e f n r t, d w s h v and their
-- capitals, by where they stand b or N A Z z b B, and the marks of quotes, Q E
abbrev pub letters : Bool → List ℕ
letters true = 120 ∷ 111 ∷ 48 ∷ 99 ∷ 97 ∷ 101 ∷ 102 ∷ 110 ∷ 114 ∷ 116 ∷ 100 ∷ 119 ∷ 115 ∷ 104 ∷ 118 ∷ 68 ∷ 87 ∷ 83 ∷ 72 ∷ 86 ∷ 98 ∷ 81 ∷ 69 ∷ []
letters false = 120 ∷ 111 ∷ 48 ∷ 99 ∷ 97 ∷ 101 ∷ 102 ∷ 110 ∷ 114 ∷ 116 ∷ 100 ∷ 119 ∷ 115 ∷ 104 ∷ 118 ∷ 68 ∷ 87 ∷ 83 ∷ 72 ∷ 86 ∷ 78 ∷ 65 ∷ 90 ∷ 122 ∷ 98 ∷ 66 ∷ 81 ∷ 69 ∷ []

abbrev pub among : ℕ → List ℕ → Bool
among c [] = false
among c (k ∷ ks) = cond (eqb c k) true (among c ks)

-- 14: "any other letter or digit escape"; "`\N`, `\A`, `\z` in a class"; "add `\Z` with the same
-- meaning (14 in a class)"; it lets through "`\b` and, outside a class, `\B`"
unfoldable pub unknown : (inside : Bool) → List ℕ → Bool
unknown inside v = is_alnum (get_or v 0 0) && not (among (get_or v 0 0) (letters inside))

-- ---- openings: v is the pattern after the `(`

-- the letters and hyphens of an option setting: "Options `i` and `s`", and "option `m`"
unfoldable pub option_bytes : List ℕ → List ℕ
option_bytes [] = []
option_bytes (c ∷ v) = cond (eqb c 105 || (eqb c 115 || (eqb c 109 || eqb c 45))) (c ∷ option_bytes v) []

unfoldable pub hyphens : List ℕ → ℕ
hyphens [] = 0
hyphens (c ∷ v) = cond (eqb c 45) (suc (hyphens v)) (hyphens v)

-- "at least one letter, at most one hyphen", and `)` or `:`
abbrev pub setting : List ℕ → Bool
setting v =
    leb (hyphens (option_bytes v)) 1
    && (ltb (hyphens (option_bytes v)) (length (option_bytes v)) && (eqb (get_or v (length (option_bytes v)) 0) 41 || eqb (get_or v (length (option_bytes v)) 0) 58))

-- 14: "any other `(?`; `(*`"; `(?#` begins a comment
unfoldable pub bad_opening : List ℕ → Bool
bad_opening v = eqb (get_or v 0 0) 42 || (eqb (get_or v 0 0) 63 && not (eqb (get_or v 1 0) 58 || (eqb (get_or v 1 0) 35 || setting (drop 1 v))))

-- 12: "An open comment": `(?#` with no `)` after it
unfoldable pub open_comment : List ℕ → Bool
open_comment v = eqb (get_or v 0 0) 63 && (eqb (get_or v 1 0) 35 && not (among 41 (drop 2 v)))

-- ---- quantifiers: v is the pattern from the quantifier on

-- the number in decimal digits at the front, 0 where there are none; and what follows it and one
-- byte more
abbrev pub decimal_of : List ℕ → ℕ
decimal_of v = value_from 10 0 (number 10 v)

unfoldable pub second : List ℕ → List ℕ
second v = drop 1 (beyond 10 v)

-- 11: "lower repeat above upper, or a number above 65,535": v is the pattern after the brace of
-- `{n}`, `{n,}`, `{n,m}` or `{,m}`. `{n}` has no second number and `{n,}` no upper one; the lower
-- one of `{,m}` is 0.
unfoldable pub bad_bounds : List ℕ → Bool
bad_bounds v =
    ltb 65535 (decimal_of v)
    || (not (eqb (get_or (beyond 10 v) 0 0) 125) && (some (number 10 (second v)) && (ltb 65535 (decimal_of (second v)) || ltb (decimal_of (second v)) (decimal_of v))))

-- ---- one token outside a class: v is the pattern from its first byte on

-- In a quote a byte stands for itself, so that no row on the bytes of a token or of a member holds
-- there, but for 23.
abbrev pub plainly : (quoted row : Bool) → Bool
plainly quoted row = not quoted && row

unfoldable pub row6 : List ℕ → Bool
row6 v = eqb (get_or v 0 0) 92 && cut_short (drop 1 v)

unfoldable pub row7 : List ℕ → Bool
row7 v = eqb (get_or v 0 0) 92 && too_large (drop 1 v)

unfoldable pub row11 : List ℕ → Bool
row11 v = (form_of v).is && (eqb (get_or v 0 0) 123 && bad_bounds (drop 1 v))

-- 12 of an opening: an open comment
unfoldable pub row12 : List ℕ → Bool
row12 v = eqb (get_or v 0 0) 40 && open_comment (drop 1 v)

-- 14 besides: "possessive `+`"
unfoldable pub row14 : List ℕ → Bool
row14 v =
    (eqb (get_or v 0 0) 92 && unknown false (drop 1 v))
    || ((eqb (get_or v 0 0) 40 && bad_opening (drop 1 v)) || ((form_of v).is && eqb (get_or v (form_of v).size 0) 43))

-- 10: "quantifier at the start of a pattern, group or branch, or after an assertion, an option
-- setting or another quantifier". What stands before is the walk's: `nothing` at a start, after an
-- assertion and after a setting, `repeated` after a quantifier, `single` after an item or a group.
-- "A quantifier after a comment applies to the item before, and is 10 if that has one already, a
-- `?` or `+` too."
abbrev pub row10 : Target → Token → Bool
row10 t Finish = false
row10 t Bar = false
row10 t Close = false
row10 t Class = false
row10 t (One a) = false
row10 t (Open o) = false
row10 t (Set o) = false
row10 t (Note o) = false
row10 t Unclosed = false
row10 nothing (Repeat least extra) = true
row10 single (Repeat least extra) = false
row10 repeated (Repeat least extra) = true
row10 t Bad = false

-- ---- one member of a class, or one range: v is the pattern from its first byte on, in a quote or
-- not

-- what joins the member at the front to a second end, if it does; and the second end
abbrev pub joint_at : (caseless quoted : Bool) → List ℕ → Joint
joint_at caseless quoted v = joint_of quoted (drop (member_of caseless quoted v).size v)

abbrev pub far_end : (caseless quoted : Bool) → List ℕ → List ℕ
far_end caseless quoted v = drop ((member_of caseless quoted v).size + (joint_at caseless quoted v).size) v

-- a row of a member, or of one end of a range
abbrev pub of_end : (List ℕ → Bool) → (caseless quoted : Bool) → List ℕ → Bool
of_end row caseless quoted v =
    let j : Joint = joint_at caseless quoted v in
    plainly quoted (row v) || (j.is && plainly j.quoted (row (far_end caseless quoted v)))

-- one of these names stands at the front
unfoldable pub is_named : List Name → List ℕ → Bool
is_named [] v = false
is_named (n ∷ ns) v = begins_with n.text v || is_named ns v

-- "An unknown name, `[.` and `[=` stay 14": v is the pattern after a `[` in a class. A name stands
-- after `[:`, or after `[:^`, and `:]` after it.
unfoldable pub unknown_name : List ℕ → Bool
unknown_name v =
    cond (eqb (get_or v 0 0) 58) (not (is_named names (cond (eqb (get_or v 1 0) 94) (drop 2 v) (drop 1 v)))) (eqb (get_or v 0 0) 46 || eqb (get_or v 0 0) 61)

-- 14 of a member, of an escape or of what `[` begins in a class
unfoldable pub member_row14 : List ℕ → Bool
member_row14 v = (eqb (get_or v 0 0) 92 && unknown true (drop 1 v)) || (eqb (get_or v 0 0) 91 && unknown_name (drop 1 v))

-- an end that is faulty by itself, so that it stands for no byte
abbrev pub faulty_end : Bool → List ℕ → Bool
faulty_end quoted v = plainly quoted (row6 v) || (plainly quoted (row7 v) || plainly quoted (member_row14 v))

-- 9: "range falling, or with a type such as `\d` at either end"; "a known name at either end of a
-- range is 9"
unfoldable pub row9 : (caseless quoted : Bool) → List ℕ → Bool
row9 caseless quoted v =
    let j : Joint = joint_at caseless quoted v in
    let w : List ℕ = far_end caseless quoted v in
    let m : Part = member_of caseless quoted v in
    let n : Part = member_of caseless j.quoted w in
    j.is && (is_type m.atom || is_type n.atom || (not (faulty_end quoted v) && (not (faulty_end j.quoted w) && ltb (byte_of n.atom) (byte_of m.atom))))

-- ---- raw control bytes

-- a raw byte below 32, or 127, is among these bytes
unfoldable pub raw_among : List ℕ → Bool
raw_among [] = false
raw_among (b ∷ v) = ltb b 32 || (eqb b 127 || raw_among v)

-- 23: "A raw byte below 32, or 127, anywhere in a pattern, quotes and comments too, is refused with
-- 23, as a fault of the token it lies in". The token or member takes the first `size` bytes of v.
unfoldable pub row23 : (size : ℕ) → List ℕ → Bool
row23 size v = raw_among (take size v)

-- ---- where tokens stand

-- A token, or the pattern's end, stands at place `at` with m before it: the first at 0, and each
-- next one after a token that is not refused.
pub data Stands (s : List ℕ) (o : Options) : ℕ → State → Type 0 where
  begins : Stands s o 0 (begin o)
  onward : (at k : ℕ) (m n : State) → Stands s o at m → at < length s → next at (drop at s) m ≡ go k n → Stands s o (at + 1 + k) n

-- where the members of a class begin: "`[^..]`". Quotes' marks before the `^` are "as not there".
abbrev pub members_at : List ℕ → ℕ → ℕ
members_at s at =
    let g : Gap = gap_of false (drop at s) in
    cond (eqb (get_or (drop at s) g.size 0) 94 && not g.quoted) (at + (g.size + 1)) at

-- a quote's mark stands at a place
abbrev pub mark_at : List ℕ → ℕ → (quoted : Bool) → Bool
mark_at s at quoted = is_mark quoted (get_or s at 0) (get_or s (at + 1) 0)

-- "A `]` first (or after `^`) is literal", and so is one in a quote
abbrev pub closes : List ℕ → ℕ → (is_first quoted : Bool) → Bool
closes s at is_first quoted = eqb (get_or s at 0) 93 && not (is_first || quoted)

-- A member, a range, a quote's mark, the closing bracket or the pattern's end stands at a place of
-- the class whose `[` is before `from`, the first member or a later one, in a quote or not.
pub data InClass (s : List ℕ) (caseless : Bool) (from : ℕ) : (at : ℕ) (is_first quoted : Bool) → Type 0 where
  begins : InClass s caseless from (members_at s from) true false
  mark : (at : ℕ) (is_first quoted : Bool)
      → InClass s caseless from at is_first quoted → mark_at s at quoted ≡ true
      → InClass s caseless from (at + 2) is_first (opens_quote (get_or s (at + 1) 0))
  onward : (at : ℕ) (is_first quoted : Bool)
      → InClass s caseless from at is_first quoted → at < length s → mark_at s at quoted ≡ false → closes s at is_first quoted ≡ false
      → (member_at caseless quoted (drop at s)).fault ≡ 0
      → InClass s caseless from (at + (member_at caseless quoted (drop at s)).size) false (member_at caseless quoted (drop at s)).quoted

-- the token at a place, and a class that begins at a place
abbrev pub token_at : List ℕ → ℕ → State → Token
token_at s at m = (lexeme_of m.options (drop at s)).token

pub record ClassAt (s : List ℕ) (o : Options) (caseless : Bool) (at : ℕ) : Type 0 where
  pub state : State
  pub stands : Stands s o at state
  pub token : token_at s at state ≡ Class
  pub case : state.options.caseless ≡ caseless

-- a raw byte is in the token at a place
abbrev pub raw_token : List ℕ → ℕ → State → Bool
raw_token s at m = row23 (spelled_of m.options (drop at s)).size (drop at s)

-- a member or a range of a class, at a place
pub record MemberAt (s : List ℕ) (o : Options) (caseless quoted : Bool) (at : ℕ) : Type 0 where
  pub bracket : ℕ
  pub is_first : Bool
  pub class : ClassAt s o caseless bracket
  pub stands : InClass s caseless (bracket + 1) at is_first quoted
  pub inside : at < length s
  pub unmarked : mark_at s at quoted ≡ false
  pub member : closes s at is_first quoted ≡ false

-- the tree t is finished: the walk stands at the pattern's end and no group is open
pub record Finished (s : List ℕ) (o : Options) (t : Syntax) : Type 0 where
  pub place : ℕ
  pub state : State
  pub stands : Stands s o place state
  pub end : length s ≤ place
  pub closed : state.stack ≡ []
  pub tree : t ≡ group_of state

-- ---- the reasons, each with its number and place: "The place is the token's first byte. Faults
-- known only at the end (8, 12 for an open group, 15, 16, ..) have the pattern's length as place";
-- "An open comment is 12 at the pattern's length", so it comes after 23, a fault of the comment's
-- own

pub data Reason (s : List ℕ) (o : Options) : (number place : ℕ) → Type 0 where
  escape_cut : (at : ℕ) (m : State) → Stands s o at m → T (plainly m.options.quoted (row6 (drop at s))) → Reason s o 6 at
  member_cut : (at : ℕ) (caseless quoted : Bool) → MemberAt s o caseless quoted at → T (of_end row6 caseless quoted (drop at s)) → Reason s o 6 at
  escape_large : (at : ℕ) (m : State) → Stands s o at m → T (plainly m.options.quoted (row7 (drop at s))) → Reason s o 7 at
  member_large : (at : ℕ) (caseless quoted : Bool) → MemberAt s o caseless quoted at → T (of_end row7 caseless quoted (drop at s)) → Reason s o 7 at
  -- "class not closed"
  class_open : (at bracket : ℕ) (caseless is_first quoted : Bool)
      → ClassAt s o caseless bracket → InClass s caseless (bracket + 1) at is_first quoted → length s ≤ at → Reason s o 8 (length s)
  bad_range : (at : ℕ) (caseless quoted : Bool) → MemberAt s o caseless quoted at → T (row9 caseless quoted (drop at s)) → Reason s o 9 at
  nothing_repeated : (at : ℕ) (m : State) → Stands s o at m → T (row10 m.target (token_at s at m)) → Reason s o 10 at
  bounds_are_bad : (at : ℕ) (m : State) → Stands s o at m → T (plainly m.options.quoted (row11 (drop at s))) → Reason s o 11 at
  -- "group not closed, or `)` without one"
  group_open : (at : ℕ) (m : State) → Stands s o at m → length s ≤ at → 0 < length m.stack → Reason s o 12 (length s)
  no_group : (at : ℕ) (m : State) → Stands s o at m → token_at s at m ≡ Close → m.stack ≡ [] → Reason s o 12 at
  comment_open : (at : ℕ) (m : State) → Stands s o at m → T (plainly m.options.quoted (row12 (drop at s))) → raw_token s at m ≡ false → Reason s o 12 (length s)
  -- "a 17th group open (only `(`, `(?:` and option groups count)"
  too_deep : (at : ℕ) (m : State) (inside : Options) → Stands s o at m → token_at s at m ≡ Open inside → deepest ≤ length m.stack → Reason s o 13 at
  unsupported : (at : ℕ) (m : State) → Stands s o at m → T (plainly m.options.quoted (row14 (drop at s))) → Reason s o 14 at
  member_unsupported : (at : ℕ) (caseless quoted : Bool) → MemberAt s o caseless quoted at → T (of_end member_row14 caseless quoted (drop at s)) → Reason s o 14 at
  raw_byte : (at : ℕ) (m : State) → Stands s o at m → T (raw_token s at m) → Reason s o 23 at
  member_raw : (at : ℕ) (caseless quoted : Bool)
      → MemberAt s o caseless quoted at → T (row23 (spelled_at caseless quoted (drop at s)).size (drop at s)) → Reason s o 23 at
  -- "the rule could match no bytes, were all its assertions true"
  matches_nothing : (t : Syntax) → Finished s o t → MatchesEmpty t → Reason s o 15 (length s)
  -- "over 256 positions in this rule"
  too_many : (t : Syntax) → Finished s o t → limit < positions (write t) → Reason s o 16 (length s)

-- "the first faulty token decides, the lower number first within it": a reason with this number and
-- place is there, and every reason that is there has this place and no lower number. (Tokens stand
-- up to the first faulty one, so no other place has a reason.)
pub record Decides (s : List ℕ) (o : Options) (number place : ℕ) : Type 0 where
  pub reason : Reason s o number place
  pub lowest : (n p : ℕ) → Reason s o n p → (number ≤ n) × (p ≡ place)
