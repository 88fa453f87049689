-- Patterns with the answers they must have, with bytes that their items must take or leave, and
-- with the assertions that they must have. The theorems are `none-wrong`, `none-strange` and
-- `none-misread` of proofs/Cases.antt. Assumes nothing: these are definitions.
use Rattle.std.specs.Prelude.{Bool, true, false, cond, not, ◌&&◌, List, [], ◌∷◌, ◌++◌, ℕ, eqb, ltb, length, get_or, replicate}
use Prim.Native.String.{String}
use Rattle.sets.specs.Set.{has}
use Rattle.classes.specs.Name.{bytes}
use Rattle.meaning.specs.Tree.{empty, item, assertion, then, or, repeat}
use Rattle.meaning.specs.Rule.{Assertion, at_start, at_last_line, at_end, line_start, line_end, word_edge, no_word_edge, ByteSet}
use Rattle.nodes.specs.Nodes.{Syntax, code_of}
use Rattle.pattern.specs.Walk.{Read, tree, refused}
use Rattle.pattern.specs.Read.{options_of, read_of, limited_read}

-- ---- answers

-- a pattern under flags, 1 caseless, 2 dot matches all and 4 line mode, with the number and place
-- of its refusal, or 0 and 0 where it is accepted
pub record Case : Type 0 where
  pub flags : ℕ
  pub pattern : List ℕ
  pub number : ℕ
  pub place : ℕ

-- a reading has this number and place
unfoldable pub gives : Read → ℕ → ℕ → Bool
gives (tree t) number place = eqb 0 number && eqb 0 place
gives (refused n p) number place = eqb n number && eqb p place

-- the pattern of a case reads as the case says
unfoldable pub right : Case → Bool
right c = gives (limited_read c.pattern (options_of c.flags)) c.number c.place

-- the cases that do not
unfoldable pub wrong : List Case → List Case
wrong [] = []
wrong (c ∷ l) = cond (right c) (wrong l) (c ∷ wrong l)

abbrev row : ℕ → String → ℕ → ℕ → Case
row flags text n at = record { flags = flags; pattern = bytes text; number = n; place = at }

-- so many times `a`, and bytes before and after them
abbrev long : String → ℕ → String → ℕ → ℕ → Case
long front k back n at = record { flags = 0; pattern = bytes front ++ (replicate k 97 ++ bytes back); number = n; place = at }

unfoldable pub cases : List Case
cases =
    -- the rules' own, of "Logs to try"
    row 0 "foo.*bar" 0 0
    ∷ row 0 "ab+" 0 0
    ∷ row 0 "(a(?i)b|c)" 0 0
    ∷ row 0 "{,}" 0 0
    ∷ row 0 "aX{,4}" 0 0
    ∷ row 0 "a\\z" 0 0
    ∷ row 0 "a|a\\z" 0 0
    ∷ row 0 "^a" 0 0
    ∷ row 0 "[]a]" 0 0
    ∷ row 0 "a$" 0 0
    ∷ row 0 "a{256}" 0 0
    ∷ row 0 "(ab){128}" 0 0
    ∷ row 0 "a{257}" 16 6
    ∷ row 0 "a{200}" 0 0
    ∷ row 0 "a{56}" 0 0
    ∷ row 0 "[z-a]" 9 1
    ∷ row 0 "a*+" 14 1
    ∷ row 0 "a)" 12 1
    ∷ row 0 "(a" 12 2
    ∷ row 0 "\\x{100}" 7 0
    ∷ row 0 "X{,4}" 15 5
    ∷ row 0 "" 15 0
    ∷ row 0 "((((((((((((((((a))))))))))))))))" 0 0
    ∷ row 0 "(((((((((((((((((a)))))))))))))))))" 13 16
    -- "Raise .. the pattern to 1,024 bytes": 256 positions, and 257 at the pattern's length; 1,024
    -- bytes and 1,025; a place beyond 255
    ∷ long "" 256 "" 0 0
    ∷ long "" 257 "" 16 257
    ∷ long "" 1024 "" 16 1024
    ∷ long "" 1025 "" 5 0
    ∷ long "(?#" 1019 ")a" 0 0
    ∷ long "[" 1022 "]" 0 0
    ∷ long "[" 1023 "]" 5 0
    ∷ long "[" 999 "z-a]" 9 1000
    -- "Add flag 4 and option `m`": settings and groups, and what is none
    ∷ row 0 "(?m)a" 0 0
    ∷ row 0 "(?-m)a" 0 0
    ∷ row 0 "(?mm)a" 0 0
    ∷ row 0 "(?m-m)a" 0 0
    ∷ row 0 "(?mi-s)a" 0 0
    ∷ row 0 "(?m:^a$)" 0 0
    ∷ row 0 "(?im-s)" 15 7
    ∷ row 0 "(?m)*a" 10 4
    ∷ row 0 "(?m" 14 0
    ∷ row 0 "(?m-" 14 0
    ∷ row 0 "(?m--s)a" 14 0
    ∷ row 0 "(?mx)a" 14 0
    ∷ row 0 "(?M)a" 14 0
    ∷ row 0 "(?m:" 12 4
    ∷ row 4 "^a$" 0 0
    ∷ row 4 "^$" 15 2
    ∷ row 4 "a$*" 10 2
    ∷ row 4 "(?-m)^a" 0 0
    -- "Add `\b` and `\B`": assertions outside a class; "Inside, `\b` is 8", and `\B` stays 14
    ∷ row 0 "a\\B" 0 0
    ∷ row 0 "\\ba" 0 0
    ∷ row 0 "a(?:\\b|\\B)" 0 0
    ∷ row 0 "ba\\b|a\\B" 0 0
    ∷ row 0 "(\\b)*a" 0 0
    ∷ row 0 "\\b{,}" 0 0
    ∷ row 0 "\\b" 15 2
    ∷ row 0 "\\B" 15 2
    ∷ row 0 "a|\\b" 15 4
    ∷ row 0 "\\b*" 10 2
    ∷ row 0 "a\\b?" 10 3
    ∷ row 0 "a\\B{2}" 10 3
    ∷ row 0 "a\\b(?#x)+" 10 8
    ∷ row 0 "[\\b-a]" 0 0
    ∷ row 0 "[a-\\b]" 9 1
    ∷ row 0 "[\\B]" 14 1
    ∷ row 0 "[a-\\B]" 14 1
    -- the corners of escapes, classes, quantifiers, groups and options
    ∷ row 0 "\\" 6 0
    ∷ row 0 "a\\" 6 1
    ∷ row 0 "[\\" 6 1
    ∷ row 0 "[a-\\" 6 1
    ∷ row 0 "\\c\u{1f}" 6 0
    ∷ row 0 "\\c\u{7f}" 6 0
    ∷ row 0 "\\o1" 6 0
    ∷ row 0 "\\o{8}" 6 0
    ∷ row 0 "\\08" 0 0
    ∷ row 0 "\\0777" 0 0
    ∷ row 0 "[a-\\x{100}]" 7 1
    ∷ row 0 "[\\d-" 8 4
    ∷ row 0 "[\\d-\\" 6 1
    ∷ row 0 "[\\y-a]" 14 1
    ∷ row 0 "[[:-\\d]" 9 1
    ∷ row 0 "[[." 14 1
    ∷ row 0 "[a-" 8 3
    ∷ row 0 "[z-a" 9 1
    ∷ row 0 "[a-c--+]" 9 4
    ∷ row 0 "[--\\d]" 9 1
    ∷ row 0 "(a[b" 8 4
    ∷ row 0 "a{2,1}?" 11 1
    ∷ row 0 "a{3,2}+" 11 1
    ∷ row 0 "a*+?" 14 1
    ∷ row 0 "a**" 10 2
    ∷ row 0 "a{0}" 15 4
    ∷ row 0 "a{65535}" 16 8
    ∷ row 0 "(?i-s:a)" 0 0
    ∷ row 0 "(?i--s)" 14 0
    ∷ row 0 "(?^i)" 14 0
    ∷ row 0 "(?i" 14 0
    ∷ row 0 "(*" 14 0
    ∷ row 0 "(a(?i)b|c)d" 0 0
    ∷ row 1 "[^a]" 0 0
    ∷ row 0 "a" 0 0
    ∷ row 0 "b" 0 0
    ∷ row 0 "\\c" 6 0
    ∷ row 0 "\\c\n" 6 0
    ∷ row 0 "\\c\u{80}" 6 0
    ∷ row 0 "\\x{}" 6 0
    ∷ row 0 "\\x{g}" 6 0
    ∷ row 0 "\\x{100" 6 0
    ∷ row 0 "\\o" 6 0
    ∷ row 0 "\\o{}" 6 0
    ∷ row 0 "\\o{400}" 7 0
    ∷ row 0 "a\\x{fffffffffffffffffffff}" 7 1
    ∷ row 0 "[\\x{100}]" 7 1
    ∷ row 0 "[a\\x{100}]" 7 2
    ∷ row 0 "[\\N-\\x{100}]" 7 1
    ∷ row 0 "[\\N-\\d]" 9 1
    ∷ row 0 "[\\N-a]" 14 1
    ∷ row 0 "[z-\\N]" 14 1
    ∷ row 0 "[a-[:digit:]]" 9 1
    ∷ row 0 "[[:digit:]-a]" 9 1
    ∷ row 0 "[\\d-[:x:]]" 9 1
    ∷ row 0 "[^[:x:]]" 14 2
    ∷ row 0 "[][:x:]]" 14 2
    ∷ row 0 "[]" 8 2
    ∷ row 0 "[^]" 8 3
    ∷ row 0 "[a-\\x{]" 6 1
    ∷ row 0 "[\\]" 8 3
    ∷ row 0 "[b-a]" 9 1
    ∷ row 0 "[\\d-a]" 9 1
    ∷ row 0 "[\\d-\\w]" 9 1
    ∷ row 0 "*" 10 0
    ∷ row 0 "{,4}" 10 0
    ∷ row 0 "{2,1}" 10 0
    ∷ row 0 "*+" 10 0
    ∷ row 0 "(*a)" 14 0
    ∷ row 0 "^*" 10 1
    ∷ row 0 "\\z{2}" 10 2
    ∷ row 0 "a(?i)*" 10 5
    ∷ row 0 "(?i)*" 10 4
    ∷ row 0 "(?i:*a)" 10 4
    ∷ row 0 "a*?*" 10 3
    ∷ row 0 "a*??" 10 3
    ∷ row 0 "a??+" 10 3
    ∷ row 0 "a{2}{3}" 10 4
    ∷ row 0 "a{2}\\E?" 10 6
    ∷ row 0 "a{257}(?#" 12 9
    ∷ row 0 "[[:digit:]-\\x{100}]" 7 1
    ∷ row 0 "[[\\E:digit:]]" 0 0
    ∷ row 0 "[[:di\\Egit:]]" 14 1
    ∷ row 0 "[[:x:]-\\d]" 14 1
    ∷ row 0 "[\\Q\\E^a]" 0 0
    ∷ row 0 "[^\\Q\\E]a]" 0 0
    ∷ row 0 "[a\\Q\\E-z]" 0 0
    ∷ row 0 "[a-\\Q\\E]" 0 0
    ∷ row 0 "[\\d-\\Q" 8 6
    ∷ row 0 "[a-\\Q]" 9 1
    ∷ row 0 "a{2}*" 10 4
    ∷ row 0 "a+*" 10 2
    ∷ row 0 "^*+" 10 1
    ∷ row 0 "a*{2}+" 10 2
    ∷ row 0 "a{3,2}" 11 1
    ∷ row 0 "a{65536}" 11 1
    ∷ row 0 "a{0,65536}" 11 1
    ∷ row 0 "a{65536,}" 11 1
    ∷ row 0 "a{,65536}" 11 1
    ∷ row 0 ")" 12 0
    ∷ row 0 "a|)" 12 2
    ∷ row 0 "(a))" 12 3
    ∷ row 0 "(?:" 12 3
    ∷ row 0 "(?i:a" 12 5
    ∷ row 0 "(a{257}" 12 7
    ∷ row 0 "([a" 8 3
    ∷ row 0 "(((((((((((((((((?=a" 14 16
    ∷ row 0 "(((((((((((((((((*a" 14 16
    ∷ row 0 "(((((((((((((((((" 13 16
    ∷ row 0 "(((((((((((((((((?i)(" 13 20
    ∷ row 0 "a\\b" 0 0
    ∷ row 0 "\\Z" 15 2
    ∷ row 0 "\\G" 14 0
    ∷ row 0 "\\E" 15 2
    ∷ row 0 "\\u" 14 0
    ∷ row 0 "[\\A]" 14 1
    ∷ row 0 "[\\N]" 14 1
    ∷ row 0 "[\\1]" 14 1
    ∷ row 0 "(?" 14 0
    ∷ row 0 "(?-)" 14 0
    ∷ row 0 "(?m)" 15 4
    ∷ row 0 "(?im)" 15 5
    ∷ row 0 "(?#a)" 15 5
    ∷ row 0 "(?P<n>a)" 14 0
    ∷ row 0 "a(*" 14 1
    ∷ row 0 "a++" 14 1
    ∷ row 0 "a{2}+" 14 1
    ∷ row 0 "(a)*+" 14 3
    ∷ row 0 "[a]++" 14 3
    ∷ row 0 "$" 15 1
    ∷ row 0 "\\A\\z" 15 4
    ∷ row 0 "a?" 15 2
    ∷ row 0 "a*" 15 2
    ∷ row 0 "()" 15 2
    ∷ row 0 "(?i)" 15 4
    ∷ row 0 "^a*$" 15 4
    ∷ row 0 "(a{257})?" 15 9
    ∷ row 0 "(){5}" 15 5
    ∷ row 0 "a{,0}" 15 5
    ∷ row 0 "a{16}{16}" 10 5
    ∷ row 0 "(a{16}){17}" 16 11
    ∷ row 0 "((a{100}){100}){100}" 16 20
    ∷ row 0 "((((a{65535}){65535}){65535}){65535}){65535}" 16 44
    ∷ row 0 "a{255,256}" 0 0
    ∷ row 0 "((^){65535}){65535}a" 0 0
    ∷ row 0 "ba{0}c" 0 0
    ∷ row 0 "(a?){2}b" 0 0
    ∷ row 0 "(a|b?){3}c" 0 0
    ∷ row 0 "a{0,}b" 0 0
    ∷ row 0 "a{2,}b" 0 0
    ∷ row 0 "a{1,}" 0 0
    ∷ row 0 "(a+)+b" 0 0
    ∷ row 0 "(a*){2,}b" 0 0
    ∷ row 0 "(a|^)+b" 0 0
    ∷ row 0 "a(a|$)+" 0 0
    ∷ row 0 "a\\zb|c" 0 0
    ∷ row 0 "(a|b$)c?" 0 0
    ∷ row 0 "a(b|$)" 0 0
    ∷ row 0 "(ab|b)$" 0 0
    ∷ row 0 "\\A^a" 0 0
    ∷ row 0 "a|b$" 0 0
    ∷ row 0 "[^]-a]" 0 0
    ∷ row 0 "[^-a]" 0 0
    ∷ row 0 "[--a]" 0 0
    ∷ row 0 "[---]" 0 0
    ∷ row 0 "[+--]" 0 0
    ∷ row 0 "[a-c-\\d]" 0 0
    ∷ row 0 "[\\d-]" 0 0
    ∷ row 0 "[\\--a]" 0 0
    ∷ row 0 "[W-\\]46]" 0 0
    ∷ row 0 "[W-]46]" 0 0
    ∷ row 0 "[\\]-a]" 0 0
    ∷ row 0 "[:a]" 0 0
    ∷ row 0 "[\\b]" 0 0
    ∷ row 0 "[^\\d]" 0 0
    ∷ row 0 "[^\\D]" 0 0
    ∷ row 0 "[^\\d\\D]" 0 0
    ∷ row 0 "[\\d\\D]" 0 0
    ∷ row 1 "\\x41" 0 0
    ∷ row 0 "\\c?" 0 0
    ∷ row 0 "\\c@" 0 0
    ∷ row 0 "\\c " 0 0
    ∷ row 0 "\\c~" 0 0
    ∷ row 0 "[\\c]]" 0 0
    ∷ row 0 "\\x" 0 0
    ∷ row 0 "\\x4g" 0 0
    ∷ row 0 "\\x{0000000000000000000041}" 0 0
    ∷ row 0 "\\0" 0 0
    ∷ row 2 "\\N" 0 0
    ∷ row 2 "." 0 0
    ∷ row 0 "\\h" 0 0
    ∷ row 0 "\\v" 0 0
    ∷ row 0 "\\w" 0 0
    ∷ row 1 "é" 0 0
    ∷ row 0 "\\\n" 23 0
    ∷ row 0 "\0a" 23 0
    ∷ row 0 "a(?i)b(?-i)c" 0 0
    ∷ row 1 "(?is-i)a." 0 0
    ∷ row 0 "(?i-)a" 0 0
    ∷ row 1 "(?-i)a" 0 0
    ∷ row 1 "(?-i:a)a" 0 0
    ∷ row 0 "(?:a(?i)b)c" 0 0
    ∷ row 0 "(?i)(?-i:a)a" 0 0
    ∷ row 0 "(a|(?i)b|c)d" 0 0
    ∷ row 0 "a{}" 0 0
    ∷ row 0 "a{2" 0 0
    ∷ row 0 "a{2," 0 0
    ∷ row 0 "a{2,3" 0 0
    ∷ row 0 "a{1,2,3}" 0 0
    ∷ row 0 "{{2}" 0 0
    ∷ row 0 "]}" 0 0
    ∷ row 0 "a{,2}b" 0 0
    ∷ row 0 "a{02}" 0 0
    ∷ row 0 "a{0000000000000000000000002}" 0 0
    ∷ row 0 "\\N{" 0 0
    ∷ row 0 "a{2}?" 0 0
    ∷ row 0 "(|a)b" 0 0
    ∷ row 0 "()a" 0 0
    ∷ row 0 "(()|)+a" 0 0
    ∷ row 0 "a|ab|abc" 0 0
    ∷ row 2 "a.*b" 0 0
    ∷ row 0 "(a|ab)(c|bcd)" 0 0
    ∷ row 0 "[^\\x00-\\xff]|a" 0 0
    ∷ row 0 "\\x5d" 0 0
    ∷ row 0 "a#b c" 0 0
    ∷ row 0 "\r\n" 23 0
    ∷ row 0 "ÿ+" 0 0
    ∷ row 0 "ab$" 0 0
    ∷ row 0 "b|c" 0 0
    -- "`[[:digit:]]` and `[[:^space:]]`"; "An unknown name, `[.` and `[=` stay 14"
    ∷ row 0 "[[:alpha:]]" 0 0
    ∷ row 0 "[[:^space:]]" 0 0
    ∷ row 0 "x[[:digit:]]+" 0 0
    ∷ row 0 "[^[:^word:]_]" 0 0
    ∷ row 0 "[:alpha:]" 0 0
    ∷ row 0 "[[:Alpha:]]" 14 1
    ∷ row 0 "[[:^^digit:]]" 14 1
    ∷ row 0 "[[:<:]]" 14 1
    ∷ row 0 "[[:alpha" 14 1
    ∷ row 0 "[[:alpha:" 14 1
    ∷ row 0 "[[:alpha]]" 14 1
    ∷ row 0 "[[:alph:]]" 14 1
    ∷ row 0 "[[:alphas:]]" 14 1
    ∷ row 0 "[[: alpha:]]" 14 1
    ∷ row 0 "[[:]]" 14 1
    ∷ row 0 "[[::]]" 14 1
    ∷ row 0 "[[:^:]]" 14 1
    ∷ row 0 "[[.a.]]" 14 1
    ∷ row 0 "[[=a=]]" 14 1
    ∷ row 0 "[a[:b]" 14 2
    ∷ row 0 "[[:digit:][:x:]]" 14 10
    ∷ row 0 "[[:digit:]" 8 10
    -- "a known name at either end of a range is 9"
    ∷ row 0 "[a-[:^digit:]]" 9 1
    ∷ row 0 "[[:^digit:]-a]" 9 1
    ∷ row 0 "[[:digit:]-[:alpha:]]" 9 1
    ∷ row 0 "[[:digit:]-[:x:]]" 9 1
    ∷ row 0 "[a-c-[:digit:]]" 0 0
    ∷ row 0 "[[:digit:]-]" 0 0
    ∷ row 0 "[-[:digit:]]" 0 0
    ∷ row 0 "[a-[:x:]]" 14 1
    ∷ row 0 "[a-[.x.]]" 14 1
    -- "`\Q..\E` inside and outside classes": a quote without an end goes to the pattern's end; a
    -- quantifier after one repeats its last byte
    ∷ row 0 "\\Qa" 0 0
    ∷ row 0 "\\Q*" 0 0
    ∷ row 0 "\\Qa(b" 0 0
    ∷ row 0 "\\Q)\\E" 0 0
    ∷ row 0 "\\Q\\\\E" 0 0
    ∷ row 0 "\\Q\\Qa" 0 0
    ∷ row 0 "\\Qa\\" 0 0
    ∷ row 0 "\\Q\\x{\\E" 0 0
    ∷ row 0 "\\Q(?#\\Ea" 0 0
    ∷ row 0 "(\\Q)\\E)a" 0 0
    ∷ row 0 "\\Qab\\E*" 0 0
    ∷ row 0 "\\x\\E41" 0 0
    ∷ row 0 "\\c\\E" 0 0
    ∷ row 0 "a{2\\E}" 0 0
    ∷ row 0 "\\Qab\\E{255}" 0 0
    ∷ row 0 "\\Qab\\E{256}" 16 11
    ∷ row 0 "(\\Qa)" 12 5
    ∷ row 0 "\\Qa\\E)" 12 5
    ∷ row 0 "\\Qa\\E**" 10 6
    ∷ row 0 "\\Q)\\E\\y" 14 5
    ∷ row 0 "(?i\\E)" 14 0
    -- "An empty quote and a lone `\E` count as comments, in a class as not there."
    ∷ row 0 "\\Q" 15 2
    ∷ row 0 "\\Q\\E" 15 4
    ∷ row 0 "a\\E" 0 0
    ∷ row 0 "a\\E{2}" 0 0
    ∷ row 0 "a\\Q\\E{,}" 0 0
    ∷ row 0 "a\\Q\\E{257}" 16 10
    ∷ row 0 "(a)\\E{257}" 16 10
    ∷ row 0 "a\\E{3,2}" 11 3
    ∷ row 0 "[\\E^a]" 0 0
    ∷ row 0 "[\\Q\\E]a]" 0 0
    ∷ row 0 "[^\\E]a]" 0 0
    ∷ row 0 "[a-\\E]" 0 0
    ∷ row 0 "[a\\E-z]" 0 0
    ∷ row 0 "[\\d-\\E]" 0 0
    ∷ row 0 "[\\d\\E-a]" 9 1
    ∷ row 0 "[a-\\E-z]" 9 1
    ∷ row 0 "[\\E]" 8 4
    ∷ row 0 "[\\E" 8 3
    -- in a class a quoted `^`, `-`, `]` or `[:` is a member, and a quoted member may be the end of
    -- a range
    ∷ row 0 "[\\Qa]\\E]" 0 0
    ∷ row 0 "[\\Q^\\Ea]" 0 0
    ∷ row 0 "[\\Qz-a\\E]" 0 0
    ∷ row 0 "[z\\Q-\\Ea]" 0 0
    ∷ row 0 "[\\Q[:x:]\\E]" 0 0
    ∷ row 0 "[\\Q\\\\E]" 0 0
    ∷ row 0 "[\\Qa\\E-z]" 0 0
    ∷ row 0 "[a-\\Qz\\E]" 0 0
    ∷ row 0 "[Z-\\Q]\\E]" 0 0
    ∷ row 0 "[\\Q]" 8 4
    ∷ row 0 "[\\Qa" 8 4
    ∷ row 0 "[\\Q" 8 3
    ∷ row 0 "[\\Qz\\E-a]" 9 3
    ∷ row 0 "[z-\\Qa\\E]" 9 1
    ∷ row 0 "[a-\\Q]\\E]" 9 1
    -- "`(?#..)`": a comment ends at the first `)`; "An open comment is 12 at the pattern's length,
    -- after any token's fault."
    ∷ row 0 "(?#x)a" 0 0
    ∷ row 0 "(?#\\Q)a" 0 0
    ∷ row 0 "(?#a(?#b)c" 0 0
    ∷ row 0 "((((((((((((((((a(?#)))))))))))))))))" 0 0
    ∷ row 0 "(?#\\)" 15 5
    ∷ row 0 "(?#(a)" 15 6
    ∷ row 0 "(?#" 12 3
    ∷ row 0 "a(?#x" 12 5
    ∷ row 0 "((?#a" 12 5
    ∷ row 0 "(?#\\" 12 4
    ∷ row 0 "(?#x)a(?#" 12 9
    ∷ row 0 "\\Qa\\E(?#" 12 8
    ∷ row 0 "a**(?#" 10 2
    ∷ row 0 "[a(?#" 8 5
    ∷ row 0 "[z-a](?#" 9 1
    ∷ row 0 "a)(?#" 12 1
    -- "A quantifier after a comment applies to the item before, and is 10 if that has one already,
    -- a `?` or `+` too."
    ∷ row 0 "a(?#x)*" 15 7
    ∷ row 0 "a(?#x)+" 0 0
    ∷ row 0 "a(?#x)(?#y)*b" 0 0
    ∷ row 0 "a\\E\\E*b" 0 0
    ∷ row 0 "(a)(?#){2}" 0 0
    ∷ row 0 "[a](?#)?b" 0 0
    ∷ row 0 "a(?#){256}" 0 0
    ∷ row 0 "a(?#){257}" 16 10
    ∷ row 0 "a(?#x)*+" 14 6
    ∷ row 0 "a(?#x){3,2}" 11 6
    ∷ row 0 "a*(?#x)?" 10 7
    ∷ row 0 "a*\\E+" 10 4
    ∷ row 0 "a*\\Q\\E{2}" 10 6
    ∷ row 0 "a*?(?#x)+" 10 8
    ∷ row 0 "a*(?#\\)?" 10 7
    ∷ row 0 "(?#x)*" 10 5
    ∷ row 0 "^\\E*" 10 3
    ∷ row 0 "(?i)(?#)*" 10 8
    ∷ row 0 "(\\Q\\E*" 10 5
    ∷ row 0 "(\\E?:a)" 10 3
    ∷ row 0 "\\E*" 10 2
    ∷ row 0 "a|\\E*" 10 4
    ∷ row 0 "$(?#){2}" 10 5
    ∷ row 0 "a(?i)(?#)*" 10 9
    -- "PCRE also lets `$` hold just before a newline that is the last byte. Mend it, and add `\Z`
    -- with the same meaning (14 in a class); `\z` stays."
    ∷ row 0 "a\\Z" 0 0
    ∷ row 0 "(?:a\\Z)+" 0 0
    ∷ row 0 "(\\Z)*a" 0 0
    ∷ row 0 "a\\Z\\n" 0 0
    ∷ row 0 "a$\\n" 0 0
    ∷ row 0 "a$\\Z\\z" 0 0
    ∷ row 0 "^\\Z" 15 3
    ∷ row 0 "\\Z|a" 15 4
    ∷ row 0 "\\Z*" 10 2
    ∷ row 0 "a\\Z{2}" 10 3
    ∷ row 0 "a\\Z++" 10 3
    ∷ row 0 "a\\Z(?#x)*" 10 8
    ∷ row 0 "a$*" 10 2
    ∷ row 0 "a\\z?" 10 3
    ∷ row 0 "[\\Z]" 14 1
    ∷ row 0 "[\\Z-a]" 14 1
    ∷ row 0 "[a-\\Z]" 14 1
    ∷ row 0 "[\\Z-\\d]" 9 1
    ∷ row 0 "[\\z]" 14 1
    ∷ row 0 "[$]" 0 0
    ∷ row 0 "\\Q\\Z\\E" 0 0
    ∷ row 0 "[\\Q\\Z\\E]" 0 0
    -- "spaces and tabs after `{`, before `}` and around the comma", in quantifiers
    ∷ row 0 "a{ 2}" 0 0
    ∷ row 0 "a{2 }" 0 0
    ∷ row 0 "a{2, 3}" 0 0
    ∷ row 0 "a{2, }" 0 0
    ∷ row 0 "a{ 257 }" 16 8
    ∷ row 0 "a{ 257 , }" 16 10
    ∷ row 0 "a{ , 2 }" 15 8
    ∷ row 0 "a{3 ,2}" 11 1
    ∷ row 0 "a{\t3\t,\t2\t}" 11 1
    ∷ row 0 "a{ 65536 }" 11 1
    ∷ row 0 "a{ 2 }+" 14 1
    ∷ row 0 "a{ 2 }?" 0 0
    ∷ row 0 "a{ 2 }*" 10 6
    ∷ row 0 "{ 2 }" 10 0
    ∷ row 0 "{2, }" 10 0
    ∷ row 0 "{ ,2}" 10 0
    ∷ row 0 "{\t2}" 10 0
    -- "Spaces alone make no number: `{ , }` stays literal", and so do blanks within one
    ∷ row 0 "{ , }" 0 0
    ∷ row 0 "{ }" 0 0
    ∷ row 0 "{\t,}" 23 1
    ∷ row 0 "{2 3}" 0 0
    ∷ row 0 "a{2 3}" 0 0
    ∷ row 0 "{2 ,3 4}" 0 0
    ∷ row 0 "{ 2" 0 0
    ∷ row 0 "{ 2 , 3" 0 0
    -- no other white space is skipped, nor a comment
    ∷ row 0 "{\n2}" 23 1
    ∷ row 0 "{\u{b}2}" 23 1
    ∷ row 0 "{2\r}" 23 2
    ∷ row 0 "{2,\u{a0}3}" 0 0
    ∷ row 0 "{(?#)2}" 0 0
    ∷ row 0 "{\\E2}" 0 0
    ∷ row 0 "{2\\Q\\E}" 0 0
    -- "`\x{..}` and `\o{..}` all change with it"
    ∷ row 0 "\\x{ 41 }" 0 0
    ∷ row 0 "\\o{\t101 }" 23 0
    ∷ row 0 "\\x{ 100 }" 7 0
    ∷ row 0 "\\o{ 400\t}" 7 0
    ∷ row 0 "[a\\x{ 100 }]" 7 2
    ∷ row 0 "[\\x{ 62 }-\\x{61 }]" 9 1
    ∷ row 0 "\\x{4 1}" 6 0
    ∷ row 0 "\\x{ }" 6 0
    ∷ row 0 "\\o{\t}" 6 0
    ∷ row 0 "\\o{ 8 }" 6 0
    ∷ row 0 "\\x{ 41 " 6 0
    ∷ row 0 "\\x{ \\E41}" 6 0
    ∷ row 0 "[\\x{ }]" 6 1
    -- "A raw byte below 32, or 127, anywhere in a pattern, .. is refused with 23"; written as an
    -- escape, or above these, it is not
    ∷ row 0 "a\tb" 23 1
    ∷ row 0 "a\r" 23 1
    ∷ row 0 "\u{1f}" 23 0
    ∷ row 0 "a\u{7f}" 23 1
    ∷ row 0 " " 0 0
    ∷ row 0 "~" 0 0
    ∷ row 0 "\u{80}" 0 0
    ∷ row 0 "\\t" 0 0
    ∷ row 0 "\\x09" 0 0
    ∷ row 0 "\\x7f" 0 0
    ∷ row 0 "\\cI" 0 0
    ∷ row 0 "[\\t\\x0d]" 0 0
    -- "as a fault of the token it lies in and at that token's first byte": escapes, members and
    -- ranges of a class, openings
    ∷ row 0 "a\\\t" 23 1
    ∷ row 0 "\\x\t" 23 2
    ∷ row 0 "\\x4\t" 23 3
    ∷ row 0 "[\t]" 23 1
    ∷ row 0 "[^\t]" 23 2
    ∷ row 0 "[]\t]" 23 2
    ∷ row 0 "[a\\\t]" 23 2
    ∷ row 0 "[\t-a]" 23 1
    ∷ row 0 "[\\\t-a]" 23 1
    ∷ row 0 "[a-\u{7f}]" 23 1
    ∷ row 0 "[a-z\u{7f}]" 23 4
    ∷ row 0 "[[:alpha:]\t]" 23 10
    ∷ row 0 "(\t)" 23 1
    ∷ row 0 "(?:\t)" 23 3
    ∷ row 0 "(?i:\t)" 23 4
    ∷ row 0 "\\E\t" 23 2
    -- so of a complete form between braces, "Raw tabs are skipped too and are then 23"; of what is
    -- none, the tab is a token itself
    ∷ row 0 "a{\t2}" 23 1
    ∷ row 0 "a{2\t}?" 23 1
    ∷ row 0 "a{2,\t3}" 23 1
    ∷ row 0 "a{\t,2}" 23 1
    ∷ row 0 "\\N{2\t}" 23 2
    ∷ row 0 "\\x{4\t}" 23 0
    ∷ row 0 "[\\x{\t41}]" 23 1
    ∷ row 0 "[\\x{41\t}-z]" 23 1
    ∷ row 0 "[A-\\x{\t7a}]" 23 1
    ∷ row 0 "a{2\t" 23 3
    ∷ row 0 "a{2\t3}" 23 3
    ∷ row 0 "\\N{x\t}" 23 4
    -- "A comment is one token; in a quote each byte is one."
    ∷ row 0 "a(?#x\ty)b" 23 1
    ∷ row 0 "a(?#\t)*" 23 1
    ∷ row 0 "(?#\t)*" 23 0
    ∷ row 0 "a*(?#\t)?" 23 2
    ∷ row 0 "a(?#x)\t" 23 6
    ∷ row 0 "(?#\u{7f})a" 23 0
    ∷ row 0 "\\Qa\tb\\E" 23 3
    ∷ row 0 "\\Q\r" 23 2
    ∷ row 0 "\\Q\\\t\\E" 23 3
    ∷ row 0 "[\\Qa\t\\E]" 23 4
    ∷ row 0 "[\\Q\t\\E-a]" 23 3
    ∷ row 0 "[\\Q\t-\\Ea]" 23 3
    ∷ row 0 "\\Qa\\E\t" 23 5
    -- "Within that token 23 comes after the lower numbers", and the first faulty token decides
    ∷ row 0 "\\c\t" 6 0
    ∷ row 0 "\\o\t" 6 0
    ∷ row 0 "\\x{\t" 6 0
    ∷ row 0 "\\x{4\t1}" 6 0
    ∷ row 0 "\\x{\t100}" 7 0
    ∷ row 0 "^{2\t}" 10 1
    ∷ row 0 "a*{\t2}" 10 2
    ∷ row 0 "a{2,\t1}+" 11 1
    ∷ row 0 "a{\t2}+" 14 1
    ∷ row 0 "[a-\t]" 9 1
    ∷ row 0 "[\\d-\t]" 9 1
    ∷ row 0 "[a-\\Q\t\\E]" 9 1
    ∷ row 0 "[\t-\\d]" 9 1
    ∷ row 0 "[\t-\\q]" 14 1
    ∷ row 0 "[\t-\\x{100}]" 7 1
    ∷ row 0 "[z-\\x{41\t}]" 9 1
    ∷ row 0 "[[:al\tpha:]]" 14 1
    ∷ row 0 "(?i\t)" 14 0
    ∷ row 0 "(?\t)" 14 0
    ∷ row 0 "(*\t" 14 0
    ∷ row 0 "*\t" 10 0
    ∷ row 0 "a{2,1}\t" 11 1
    ∷ row 0 "a)\t" 12 1
    ∷ row 0 "\\q\t" 14 0
    ∷ row 0 "\t\\q" 23 0
    ∷ row 0 "\t**" 23 0
    -- so it comes before the faults known only at the end
    ∷ row 0 "[a\t" 23 2
    ∷ row 0 "[\\\t" 23 1
    ∷ row 0 "[a-\t" 9 1
    ∷ row 0 "(\t" 23 1
    ∷ row 0 "a(?#\t" 23 1
    ∷ row 0 "\t?" 23 0
    ∷ row 0 "\t{257}" 23 0
    -- longer ones, each with several of these in it
    ∷ row 1 "(A)||a$" 15 7
    ∷ row 1 "(aAc{1,}?)*\\z|a$" 15 16
    ∷ row 1 "cb[B]*$" 0 0
    ∷ row 0 "b{2,}((c{1}?|1?){2,2}.BB)|\\z[^]\\077c]Bc{1,3}$" 0 0
    ∷ row 0 "bc|b\\z" 0 0
    ∷ row 3 "\u{80}[^a]{,0}b^" 0 0
    ∷ row 3 "<\u{85}~|b\\z" 0 0
    ∷ row 3 "|.$" 15 3
    ∷ row 0 "bA|.$" 0 0
    ∷ row 0 "(b*)?((?i)\\ (?:|b|$}(?i:ab){2,2}){,3}.){3}|\\D|b\\z" 0 0
    ∷ row 2 "À*Aa*(A(?:c{3}|&{,2}a./{,3}))|b\\z" 0 0
    ∷ row 3 "[-\u{a0}]?" 15 5
    ∷ row 0 "[\\o{141}^-b]|zA{2,}" 0 0
    ∷ row 3 "A\0" 23 1
    ∷ row 3 ".|(?s:(?i-))B|A*?\u{a0}$" 0 0
    ∷ row 1 "c[^\\W]{2,}A|a|b\\z" 0 0
    ∷ row 2 "[[:[a-z--9](*$" 14 1
    ∷ row 2 "[\\N-\\d](?i)$" 9 1
    ∷ row 0 "1+|.$" 0 0
    ∷ row 1 "c[^\u{80}-ÿ^-b\\x7g]ZB" 0 0
    ∷ row 1 "a.|b\\z" 0 0
    ∷ row 1 ";+[.]A" 0 0
    ∷ row 1 "(*F)\\A(?i|b\\z" 14 0
    ∷ row 1 "\0aB{2,}|b\\z" 23 0
    ∷ row 0 "A{0,2}[^^-S]{0,}?|cbbc" 9 8
    ∷ row 0 "a++\\o{7}.$" 14 1
    ∷ row 0 "[0c].a{2,2\t" 23 10
    ∷ row 2 "(?i:[z-a]*[[:" 9 5
    ∷ row 0 "\\[\\N-\\d]{,3}|a$" 0 0
    ∷ row 0 "?AaA\\x{4}$" 10 0
    ∷ row 0 "c([^0-9])Aa*" 0 0
    ∷ row 2 "\\N{,2B$|Aa([\u{a0}]{1}){2}(B|c)+?$" 0 0
    ∷ row 0 "\\8(?-)" 14 0
    ∷ row 0 "B|\\v?cB{2,}\\x7g|." 0 0
    ∷ row 0 "Ab[]\\^]|$B" 0 0
    ∷ row 0 "((?is:(AcA{0,2})(?i:B??cBb+)|a)+);|^a{0,}a{1}?[\u{a0}]-a\\f]{1}" 0 0
    ∷ row 3 "0[a\\].0]" 0 0
    ∷ row 2 "c{,0}\\zc|\\]{1,3}.\\.[-B\\n-aZ-b]{0,2}|$[--^]" 0 0
    ∷ row 0 "[A\\^\\o{12}]" 0 0
    ∷ row 0 "c|(?:BBbA|A\\(?iD){99999999999}" 11 17
    ∷ row 1 ".\\e|accA" 0 0
    ∷ row 2 "((?s:_\u{80}{,2}bb|AA9)(B?c@a).{,3}(?-i)$" 12 36
    ∷ row 1 "{,}|[\\b\\o{400}[\\r]b" 7 7
    ∷ row 0 "B\\z" 0 0
    ∷ row 0 "(?i)b*`" 0 0
    ∷ row 0 "aA(?is-i:A{2,}?bz[a-b\\d0]|(.{1,3}))a|b\\z" 0 0
    ∷ row 0 "a|A{2,}#|a$" 0 0
    ∷ row 1 "{2(cC|B)b|.$" 0 0
    ∷ row 3 "Bc|cc{,0}(?:[^A-C]b)(?:A[a^B]{1,02}(?i-)A)|b\\z" 0 0
    ∷ row 1 "a.{2 }.|$A[^0]" 0 0
    ∷ row 0 "a*b(?-i)b$" 0 0
    ∷ row 0 "[-\\b-]" 0 0
    ∷ row 3 "[ÿc\\^]{0,\\0}?\u{85}." 0 0
    ∷ row 0 "Ab" 0 0
    ∷ row 1 "{,2}{2}\\B[|b\\z" 10 0
    ∷ row 1 "_[]-\n\\.\n].\t.{1}" 9 2
    ∷ row 1 "\\?|a$" 0 0
    ∷ row 0 "[)\\\n-]b$" 23 2
    ∷ row 1 "Bab+?|a$" 0 0
    ∷ row 3 "\\.(?i-)|\\Da|(?:b\\o{12}b{,0}b+|A*)ÿ(?-s:1\t{0}?\\o{377})?" 23 40
    ∷ row 0 "\\aAA\\z" 0 0
    ∷ row 0 "\0|b|A[-]cc|a$" 23 0
    ∷ row 0 "b{^0,2}" 0 0
    ∷ row 2 "|$B\\^+||a$" 15 10
    ∷ row 0 ".{0}?A$" 0 0
    ∷ row 1 "Ba[\u{80}-]$" 0 0
    ∷ row 0 "Bc(?i-)[]-]|a(\\z(?-is)([-A0-90](?:A?c)|\\a?|[^0-]\\]{2,2}?)|}.)|c" 0 0
    ∷ row 0 "Aa+{1,3}$" 10 3
    ∷ row 3 "ÿ?bB" 0 0
    ∷ row 0 "a9{2,}(?-is)" 0 0
    ∷ row 2 "\\c\\{,2}a{0,0}?\0|(?ii:c|(b[^]-]|b)a[B\\n-aa-b])*A[^\\b\\t]|\\^" 23 14
    ∷ row 3 "c{3}()a|BAA{1}|1Z{0,}([^\u{a0}Bÿ]^.+.)b??" 0 0
    ∷ row 0 "\\\\{,0}A(?:.(A{3}A){0,2}.??.|B)\\z" 0 0
    ∷ row 3 "|\na[c]{2,}|.?A[^-]*B$" 23 1
    ∷ row 0 "bA" 0 0
    ∷ row 1 "[\\x{100}-\\q]a)[\\A]\n" 7 1
    ∷ row 0 "(Bc+A{1,3}|BA)" 0 0
    ∷ row 3 "<n>A+c{0,0}.|[a-b]b$" 0 0
    ∷ row 1 "[]^]*|(?is-i:A{0,0})+(?:\\w\u{7f}{3}ca{03})'{1,02}" 23 26
    ∷ row 1 "[^-\u{80}$.].A\\w*|(?-s){2A|.$" 0 0
    ∷ row 0 "c |.c|.$" 0 0
    ∷ row 0 "B$" 0 0
    ∷ row 0 ".\u{7f}|A{1,02}bc" 23 1
    ∷ row 0 "$[^\u{80}a\\w]a|cB" 0 0
    ∷ row 1 "(?i-:\\08A??}+)$|b[-\\s.$-]\\o{000101}a{0}|b\\z" 0 0
    ∷ row 2 "c{03}?.(?ii)a??|b|[^]\u{a0}\\b-\\r-](?ii:A+|a|){,3}A\\^" 0 0
    ∷ row 0 "$c{1}$" 0 0
    ∷ row 0 ".b|^\\V+" 0 0
    ∷ row 0 "\r" 23 0
    ∷ row 2 "B?b{2,}ba{,2}|[^]$^\u{80}][^\\taA-C]*" 0 0
    ∷ row 1 "B*(a[]-a]b){03}c[b]{,3}|.$" 0 0
    ∷ row 0 "\\N[\\b\\/]|b{,}\\Nb+" 0 0
    ∷ row 0 "[^-]ca.{2}?|b\\z" 0 0
    ∷ row 0 "B{2 }%{2}|{1, 2}(){,3}\\z" 10 10
    ∷ row 0 ".+b\\z" 0 0
    ∷ row 3 "a|a$" 0 0
    ∷ row 0 "(?:\\N{1,}A|a){1}?\\ÿ($b{2,2}\\c@{1}|B)\\v*" 0 0
    ∷ row 1 "A[\u{80}-ÿ]{03}|.$" 0 0
    ∷ row 0 "A\\o{141}B|a" 0 0
    ∷ row 0 ">.{03}?B[\\\\ÿc]|\\+|([^\\_a-a\\*]*|aB)z\\w\\z" 0 0
    ∷ row 0 "[\u{80}-];{1}b\\A|a$" 0 0
    ∷ row 0 ".|B(?-is)a" 0 0
    ∷ row 0 "(|.+\\zA(?:(b|Ab)|ÿ)).c$" 0 0
    ∷ row 3 "Bbb" 0 0
    ∷ row 3 "A{0,0}B|\\]b{,2}b{b,)2}?À|(?i-s:[+--]B[]-a-b\\bB]a|b)[$]b{2}?c|b\\z" 12 19
    ∷ row 0 "[\\.-]AA{,3}.|.$" 0 0
    ∷ row 0 "Bc{1,02}b" 0 0
    ∷ row 2 ".(?s)|c{0,0}?(?is-i)" 15 20
    ∷ row 3 "B|.$" 0 0
    ∷ row 2 "B|\\.{2,{2|a$" 0 0
    ∷ row 0 "[\\b]\\c$" 0 0
    ∷ row 2 "a{1,}\\.{b|(?is-i:(?:$a(a>|\t))AB)\\\\?.$" 23 26
    ∷ row 0 "[-\\s]|B[.\\-^]?{a}\\z" 0 0
    ∷ row 1 "[0.\\x00-\\x1f]$" 0 0
    ∷ row 1 "ZZB\\z" 0 0
    ∷ row 3 "[^]B]{1,3}" 0 0
    ∷ row 2 "[^-]{,3}?[ÿ-c]{3}?.*|(?:B).C?|b\\z" 9 10
    ∷ row 2 "\\\\|.$" 0 0
    ∷ row 0 "(?:Bb|[^\\a\n-]*_.(?-i:b{0,0}\\z\\N{2,2}))\u{85}|[^]-ÿa-c-.-]B|[-].{1}Bc*" 23 10
    ∷ row 0 "(b|)[[ÿ-]{2,2}[Z-b--a]|[^0-9]\\x4|B" 0 0
    ∷ row 3 "\\\\z" 0 0
    ∷ row 0 "\\\\*\\z.{3}[^a-c-0-9]|[\\n-aÿA-C]\\z9[^\u{80}]" 0 0
    ∷ row 1 "a[\\cA\\n-a]" 0 0
    ∷ row 0 "\\o[^][]](?is-i)a|b\\z" 6 0
    ∷ row 0 "(?:$|[^\\o{0}](c|cb)$a{1,3})aa{,2}" 0 0
    ∷ row 3 "[^-\\-]{2,}?" 0 0
    ∷ row 3 ":$" 0 0
    ∷ row 0 "bB([0-9][$-]{2}b{2,2}|$(b.){1,02};c)c{03}$" 0 0
    ∷ row 0 "[0-]" 0 0
    ∷ row 0 " C\\z$" 0 0
    ∷ row 1 "$A(?:\\x0a{3}b*)a|bA{2,}?_|ac\\A[\u{80}-ÿ\u{a0}a-a]" 0 0
    ∷ row 0 "(\\o{141}.{3}\\0141c*|}\\cMC){,[3}?B|.$" 8 36
    ∷ row 0 ".|A" 0 0
    ∷ row 0 "A*[-[-a](?:.|a|\\N)|a$" 0 0
    ∷ row 0 "A{03}|\\x{00000000000061}(\n?-is:a+|Aa+|[^0-9\u{80}-ÿ^]\\Aa){0,2}" 23 25
    ∷ row 1 "ca(?:[0ÿ\\.]|c\\rb)" 0 0
    ∷ row 1 "AB\\z" 0 0
    ∷ row 0 "c[a-a0\\b]|.(?:b)" 0 0
    ∷ row 0 "B|{,0}cB{0,}?\\z" 10 2
    ∷ row 0 "(\\x{00000000000061}{3}$|aa.|(?is:B)){0}\\S{1,}B\\w|\\o{0}{2}|a$" 0 0
    ∷ row 1 "aÀ{2}?B{0}c" 0 0
    ∷ row 1 "a|:*?~\u{85}{,2}" 0 0
    ∷ row 1 "(?:B.c)_(?-i)|{2,1,}\\c_|a$" 0 0
    ∷ row 0 ".(.[-\\.\\e]{0,2}[^]\\-]){3}{2,1,}\\z" 0 0
    ∷ row 2 "]{03}|a$" 0 0
    ∷ row 1 "\\o{8}[a-\\|a$" 6 0
    ∷ row 0 " (?:\\DB)|a$" 0 0
    ∷ row 0 "(?:\\\\{2,}A\\z){2}\\v{3}?ac|[^a-a\u{80}](?s-i:\\zB).(?-is)" 0 0
    ∷ row 0 "(c,(>Ac{3}?b{2}|B{0}))" 0 0
    ∷ row 0 "\u{a0}\\-{1}\\z|$(a){2,2}?|a$" 0 0
    ∷ row 2 "\\^\n{0,}z$" 23 2
    ∷ row 2 "A[!-~]cA|[B-]\\0141\\H.\\z" 0 0
    ∷ row 2 "az|.|c*?b." 0 0
    ∷ row 0 "\\o{141}{1,}A{03}?(?:[^cb\\_]?a|\\^a{2}\\A})\u{85}\\z" 0 0
    ∷ row 0 "\0" 23 0
    ∷ row 0 "a{2,2}|a$" 0 0
    ∷ row 2 "\\t*?|((a{0,[\\x{100}-\\q]}){,2}b|B[^|a)|a$" 7 12
    ∷ row 1 ".b{,3}" 0 0
    ∷ row 1 ".\\z" 0 0
    ∷ row 1 "b\\|{0,0}9" 0 0
    ∷ row 2 "(A(?:||)?((aaB||0+AaA)(?s-i:{)A|.))|A\\^\\d{2,2}()|ac|a$" 0 0
    ∷ row 1 "a(?i-:À)" 0 0
    ∷ row 0 "B|((B*b{2}(){,2}\\d||\\Ac{,0}){,3}.{,0}(?i-:c)){03}[+---]BB|.$" 0 0
    ∷ row 0 "(?is:.{2,}.\\z|B(cZ[][])?_{2,}B){,3}(?s-i:cc.){2,2}b{0}B|a$" 0 0
    ∷ row 1 "(.a|\\^(c$|\\o{0})+)[^[]a{1,3}\0\\z" 23 28
    ∷ row 1 "B|(b)^bA{03}?|a{,}|.$" 0 0
    ∷ row 3 "B(?:0??)((?s-i)a|\\|b)|[][]B{2}?." 0 0
    ∷ row 0 "ABA+|bA[-[]+?|.$" 0 0
    ∷ row 0 "(?is-i:A){1,}?Ab|a$" 0 0
    ∷ row 2 "(?is-i:b|A{1,}a-{1}|a\\zB)" 0 0
    ∷ row 0 ".{0}B|a$" 0 0
    ∷ row 1 "a|a$" 0 0
    ∷ row 0 "cb{03}(?:\\ _{2,}?)B|b\\z" 0 0
    ∷ row 1 "{,}$" 0 0
    ∷ row 2 "((?s:B{3}bc{1,3})(B)(?-is:ÿ{,2}A|)\\+)+?(ac?)c|b\\z" 0 0
    ∷ row 1 "(?is-i:(Acb|(a@{03}?b|A09)[[$])??(?is-i)=)\\x61[-a-a]*|a$" 0 0
    ∷ row 0 "\\x{100\\K{65535}$" 6 0
    ∷ row 0 "B{(\\D<B|c*)" 0 0
    ∷ row 3 "\0(?is)Aa|ab[0!-~\\W]" 23 0
    ∷ row 2 "\\x{85}(?-s:([$\\$-](?ii))|\\cM(B=AA){2,2}?B|)|bbaB|c\\z" 0 0
    ∷ row 0 "($)?A|b\\z" 0 0
    ∷ row 0 "c|.$" 0 0
    ∷ row 0 "A|(?:bA+)\\za.|a$" 0 0
    ∷ row 0 "bAa*|.$" 0 0
    ∷ row 1 "[\\cM+--]c+(?i:(?is-i:A{2,}){,2}b??a?[^\u{a0}--a\\V]aB{2,2}?){1}?\\z" 9 38
    ∷ row 2 "(?ii)[][\\\\+--](?-is)B{0,2}|AAa{0}?;|[-]\\c^?$a{,3}" 0 0
    ∷ row 2 "|(?i:\\x7g{[\\q]0,}\\A)cb{1,3}[a-[:digit:]]\\z" 14 11
    ∷ row 0 ".\0*|.$" 23 1
    ∷ row 0 "{2 }a{1}?\\o{12}\\z" 10 0
    ∷ row 0 "{0,65536}b\\o{8}(?)$" 10 0
    ∷ row 3 "[\\d-\\x{100}]\\z" 7 1
    ∷ row 2 "b.|a$" 0 0
    ∷ row 0 "B.{0,0$" 0 0
    ∷ row 2 "(?-i:B\\_A{0,})" 0 0
    ∷ row 3 ".cBa\\z" 0 0
    ∷ row 0 "cc{,0}(?-is:[^\\o{141}.Z-b]{0,}\\z([^\\^] |cb)\\W|bab)*b|\\-c??" 0 0
    ∷ row 3 "(\\o{\\z[a$|b\\z" 6 1
    ∷ row 2 "\\o{141}|B|b\\z" 0 0
    ∷ row 3 "%(?-s)(?:(\\x{41})b)[^-]" 0 0
    ∷ row 3 "{,}cB(?-i:.{,2}bb){13}?||a{3[\\A]} {2B?$" 14 29
    ∷ row 0 ".|b\\z" 0 0
    ∷ row 0 "(?iB-a]??" 14 0
    ∷ row 0 "(?is-i:\\\\)%{2,1,}$" 0 0
    ∷ row 1 "(c)c\\z" 0 0
    ∷ row 3 "\\A(?i-s)a" 0 0
    ∷ row 2 "\\G[a-z--9]a)" 14 0
    ∷ row 1 "\\o{0}{2}?|b\\z" 0 0
    ∷ row 0 "\\za{,0}A{,0}\\s{2,2}?|c?c{1,02}A{1,}b|.$" 0 0
    ∷ row 3 ".AAb{03}|a$" 0 0
    ∷ row 1 "{1, 2}(cAa[a^b]){2}|A|\\z.*`A*\\z" 10 0
    ∷ row 1 "a" 0 0
    ∷ row 0 "c.." 0 0
    ∷ row 1 "(|A\\hB){2,}(0[\\x00-\\x1f]|\\o{0}{2,2}(?:A{1,}À*{2,1,})b)A$" 0 0
    ∷ row 3 "A\\w|cb.$" 0 0
    ∷ row 3 "\\za{0}?(?:B(?:b(?-i)(?:B;|Ba)^){1,}c*?)\\z" 0 0
    ∷ row 0 "%|C[\\H+--{1,3}?\\o{0}.|c?*\\]{1,}&." 8 33
    ∷ row 3 ".{0,2}?a|À{1,}?a{0,0}?|(?:|B[]\\h]\0{03}){1,}(?s).a\\z" 23 33
    ∷ row 0 ".{2" 0 0
    ∷ row 0 "ac[^\\W]{,3}b{10}|^c{03}$" 0 0
    ∷ row 0 "Ab|Ac+([\\S]?(^)ac)|A+$(?s)|a$" 0 0
    ∷ row 0 ".+A[-Z-bA\\.][[-aa-\\x63]{1,3}|a$" 0 0
    ∷ row 0 "\\.bb*|a$" 0 0
    ∷ row 1 "b{3}[\\b-\\r\\01]" 0 0
    ∷ row 3 "a(|(?:c\\-{1,3}(?ii:aBa|Ba+{2 })|a)\\$À){1,3}\\z" 10 26
    ∷ row 0 "(|.{,3}.)BA|c|(?-i)A{2,}?A{,0}b" 0 0
    ∷ row 2 "c{2}cc|([\\b$]{1}a+){2,2}c{1,02}|b\\z" 0 0
    ∷ row 0 "cb$" 0 0
    ∷ row 3 ".c[^]]\\o{000101}$" 0 0
    ∷ row 3 "a{0,2}^\\A" 15 9
    ∷ row 0 "[A-]" 0 0
    ∷ row 0 "(?i+[\\x{100}-\\q]b|.$" 14 0
    ∷ row 0 "..a{1,3}?$$" 0 0
    ∷ row 3 ".B|a$" 0 0
    ∷ row 2 "[0^]ac|...{1,}|.$" 0 0
    ∷ row 3 "AB|a$" 0 0
    ∷ row 0 "[^-].|b\\z" 0 0
    ∷ row 1 "aBc(?:(?ii)[^]a\\cA]|B*bc{,3}?){1}\\z" 0 0
    ∷ row 0 "(>)ab|\\A|B\\040{,3}\\z" 15 20
    ∷ row 3 "]?\"$" 0 0
    ∷ row 0 "ab.|C|.$" 0 0
    ∷ row 2 "(?-s)cA{2,}|~|b|a$" 0 0
    ∷ row 0 "B{2,2}?A{1,3}?|.$" 0 0
    ∷ []

-- ---- what the items take

-- the sets of a tree's items from left to right, of a repeat those of one copy
unfoldable pub items_of : Syntax → List ByteSet
items_of empty = []
items_of (item c) = c ∷ []
items_of (assertion a) = []
items_of (then x y) = items_of x ++ items_of y
items_of (or x y) = items_of x ++ items_of y
items_of (repeat x n j) = items_of x

-- an accepted pattern under flags, one of its items by its number from 0 on, a byte, and whether
-- the item takes it
pub record Taking : Type 0 where
  pub flags : ℕ
  pub pattern : List ℕ
  pub number : ℕ
  pub byte : ℕ
  pub taken : Bool

-- a reading has a tree with that item, which takes the byte or leaves it as is said
unfoldable pub agrees : Read → Taking → Bool
agrees (tree t) c =
    let taken : Bool = has (get_or (items_of t) c.number []) c.byte in
    ltb c.number (length (items_of t)) && cond c.taken taken (not taken)
agrees (refused n p) c = false

-- those whose pattern does not read so
unfoldable pub strange : List Taking → List Taking
strange [] = []
strange (c ∷ l) = cond (agrees (read_of c.pattern (options_of c.flags)) c) (strange l) (c ∷ strange l)

abbrev takes : ℕ → String → ℕ → ℕ → Taking
takes flags text k b = record { flags = flags; pattern = bytes text; number = k; byte = b; taken = true }

abbrev leaves : ℕ → String → ℕ → ℕ → Taking
leaves flags text k b = record { flags = flags; pattern = bytes text; number = k; byte = b; taken = false }

unfoldable pub takings : List Taking
takings =
    -- "`\a` 7, `\e` 27, `\f` 12, `\n` 10, `\r` 13, `\t` 9"
    takes 0 "\\a" 0 7
    ∷ leaves 0 "\\a" 0 8
    ∷ takes 0 "\\e" 0 27
    ∷ takes 0 "\\f" 0 12
    ∷ takes 0 "\\n" 0 10
    ∷ takes 0 "\\r" 0 13
    ∷ takes 0 "\\t" 0 9
    -- numbers, and `\c`: "raised to upper case, its 64 bit flipped"
    ∷ takes 0 "\\x" 0 0
    ∷ takes 0 "\\x4g" 0 4
    ∷ takes 0 "\\x4g" 1 103
    ∷ takes 0 "\\0777" 0 63
    ∷ takes 0 "\\0777" 1 55
    ∷ takes 0 "\\o{101}" 0 65
    ∷ takes 0 "\\ca" 0 1
    ∷ takes 0 "\\c?" 0 127
    ∷ takes 0 "\\c{" 0 59
    -- "`.` is any byte but 10, or any byte under dot-all. `\N` is any byte but 10 always."
    ∷ leaves 0 "." 0 10
    ∷ takes 0 "." 0 255
    ∷ takes 2 "." 0 10
    ∷ leaves 2 "\\N" 0 10
    ∷ leaves 4 "." 0 10
    ∷ leaves 0 "(?m)." 0 10
    ∷ takes 0 "(?sm)." 0 10
    ∷ takes 0 "(?s-m)." 0 10
    -- "Capitals are complements."
    ∷ takes 0 "\\d" 0 57
    ∷ leaves 0 "\\d" 0 58
    ∷ leaves 0 "\\D" 0 57
    ∷ takes 0 "\\w" 0 95
    ∷ leaves 0 "\\H" 0 160
    ∷ takes 0 "\\v" 0 133
    -- a range has all between its ends, and no more; hyphens
    ∷ takes 0 "[a-c]" 0 97
    ∷ takes 0 "[a-c]" 0 98
    ∷ takes 0 "[a-c]" 0 99
    ∷ leaves 0 "[a-c]" 0 100
    ∷ leaves 0 "[a-c]" 0 45
    ∷ takes 0 "[a-c-e]" 0 45
    ∷ leaves 0 "[a-c-e]" 0 100
    ∷ takes 0 "[a-c--e]" 0 70
    ∷ takes 0 "[]-a]" 0 94
    ∷ takes 0 "[a-]" 0 45
    ∷ takes 0 "[\\b]" 0 8
    ∷ takes 0 "[\\c]]" 0 29
    -- "Caseless adds the other case of each member before negation."
    ∷ takes 1 "a" 0 65
    ∷ takes 1 "\\x41" 0 97
    ∷ leaves 1 "[^a]" 0 65
    ∷ leaves 1 "[^a]" 0 97
    ∷ takes 1 "[^a]" 0 98
    ∷ takes 1 "[a-c]" 0 66
    ∷ leaves 1 "é" 0 201
    -- "A setting lasts to the end of its group, later branches included."
    ∷ leaves 0 "(a(?i)b|c)d" 0 65
    ∷ takes 0 "(a(?i)b|c)d" 1 66
    ∷ takes 0 "(a(?i)b|c)d" 2 67
    ∷ leaves 0 "(a(?i)b|c)d" 3 68
    ∷ leaves 1 "(?-i:a)b" 0 65
    ∷ takes 1 "(?-i:a)b" 1 66
    ∷ leaves 0 "(?is-i)a." 0 65
    ∷ takes 0 "(?is-i)a." 1 10
    -- "all fourteen PCRE2 names .., plain and negated, with the ASCII meaning"
    ∷ takes 0 "[[:alpha:]]" 0 65
    ∷ takes 0 "[[:alpha:]]" 0 122
    ∷ leaves 0 "[[:alpha:]]" 0 48
    ∷ leaves 0 "[[:alpha:]]" 0 95
    ∷ leaves 0 "[[:alpha:]]" 0 200
    ∷ leaves 0 "[[:^alpha:]]" 0 65
    ∷ takes 0 "[[:^alpha:]]" 0 48
    ∷ takes 0 "[[:lower:]]" 0 97
    ∷ leaves 0 "[[:lower:]]" 0 65
    ∷ leaves 0 "[[:^lower:]]" 0 97
    ∷ takes 0 "[[:^lower:]]" 0 65
    ∷ takes 0 "[[:upper:]]" 0 90
    ∷ leaves 0 "[[:upper:]]" 0 122
    ∷ leaves 0 "[[:^upper:]]" 0 90
    ∷ takes 0 "[[:^upper:]]" 0 122
    ∷ takes 0 "[[:alnum:]]" 0 48
    ∷ takes 0 "[[:alnum:]]" 0 97
    ∷ leaves 0 "[[:alnum:]]" 0 95
    ∷ leaves 0 "[[:^alnum:]]" 0 48
    ∷ takes 0 "[[:^alnum:]]" 0 95
    ∷ takes 0 "[[:ascii:]]" 0 0
    ∷ takes 0 "[[:ascii:]]" 0 127
    ∷ leaves 0 "[[:ascii:]]" 0 128
    ∷ leaves 0 "[[:^ascii:]]" 0 0
    ∷ takes 0 "[[:^ascii:]]" 0 128
    ∷ takes 0 "[[:blank:]]" 0 9
    ∷ takes 0 "[[:blank:]]" 0 32
    ∷ leaves 0 "[[:blank:]]" 0 10
    ∷ leaves 0 "[[:^blank:]]" 0 9
    ∷ takes 0 "[[:^blank:]]" 0 10
    ∷ takes 0 "[[:cntrl:]]" 0 0
    ∷ takes 0 "[[:cntrl:]]" 0 31
    ∷ takes 0 "[[:cntrl:]]" 0 127
    ∷ leaves 0 "[[:cntrl:]]" 0 32
    ∷ leaves 0 "[[:^cntrl:]]" 0 0
    ∷ takes 0 "[[:^cntrl:]]" 0 32
    ∷ takes 0 "[[:digit:]]" 0 57
    ∷ leaves 0 "[[:digit:]]" 0 58
    ∷ leaves 0 "[[:^digit:]]" 0 57
    ∷ takes 0 "[[:^digit:]]" 0 58
    ∷ takes 0 "[[:graph:]]" 0 33
    ∷ takes 0 "[[:graph:]]" 0 126
    ∷ leaves 0 "[[:graph:]]" 0 32
    ∷ leaves 0 "[[:^graph:]]" 0 33
    ∷ takes 0 "[[:^graph:]]" 0 32
    ∷ takes 0 "[[:print:]]" 0 32
    ∷ takes 0 "[[:print:]]" 0 126
    ∷ leaves 0 "[[:print:]]" 0 31
    ∷ leaves 0 "[[:print:]]" 0 127
    ∷ leaves 0 "[[:^print:]]" 0 32
    ∷ takes 0 "[[:^print:]]" 0 31
    ∷ takes 0 "[[:punct:]]" 0 33
    ∷ takes 0 "[[:punct:]]" 0 64
    ∷ takes 0 "[[:punct:]]" 0 95
    ∷ takes 0 "[[:punct:]]" 0 126
    ∷ leaves 0 "[[:punct:]]" 0 97
    ∷ leaves 0 "[[:punct:]]" 0 48
    ∷ leaves 0 "[[:punct:]]" 0 32
    ∷ leaves 0 "[[:^punct:]]" 0 33
    ∷ takes 0 "[[:^punct:]]" 0 97
    ∷ takes 0 "[[:space:]]" 0 9
    ∷ takes 0 "[[:space:]]" 0 11
    ∷ takes 0 "[[:space:]]" 0 13
    ∷ takes 0 "[[:space:]]" 0 32
    ∷ leaves 0 "[[:space:]]" 0 8
    ∷ leaves 0 "[[:space:]]" 0 133
    ∷ leaves 0 "[[:^space:]]" 0 9
    ∷ takes 0 "[[:^space:]]" 0 8
    ∷ takes 0 "[[:word:]]" 0 95
    ∷ takes 0 "[[:word:]]" 0 48
    ∷ leaves 0 "[[:word:]]" 0 45
    ∷ leaves 0 "[[:^word:]]" 0 95
    ∷ takes 0 "[[:^word:]]" 0 45
    ∷ takes 0 "[[:xdigit:]]" 0 70
    ∷ takes 0 "[[:xdigit:]]" 0 102
    ∷ leaves 0 "[[:xdigit:]]" 0 71
    ∷ leaves 0 "[[:^xdigit:]]" 0 70
    ∷ takes 0 "[[:^xdigit:]]" 0 71
    -- "Under caseless, upper and lower read as alpha before their own negation."
    ∷ takes 1 "[[:upper:]]" 0 97
    ∷ takes 1 "[[:lower:]]" 0 65
    ∷ leaves 1 "[[:upper:]]" 0 48
    ∷ leaves 1 "[[:^upper:]]" 0 65
    ∷ leaves 1 "[[:^upper:]]" 0 97
    ∷ takes 1 "[[:^upper:]]" 0 48
    ∷ leaves 0 "(?i)[[:^lower:]]" 0 90
    ∷ takes 1 "[^[:^lower:]]" 0 65
    ∷ leaves 1 "[^[:^lower:]]" 0 48
    ∷ leaves 1 "[[:^digit:]]" 0 48
    -- quotes outside a class
    ∷ takes 0 "\\Q.\\E" 0 46
    ∷ leaves 0 "\\Q.\\E" 0 97
    ∷ takes 0 "\\Qa*" 1 42
    ∷ takes 0 "\\Q\\\\E" 0 92
    ∷ takes 0 "\\Q\\Qa" 1 81
    ∷ takes 1 "\\Qa" 0 65
    ∷ takes 0 "a\\Q\\E{,}" 1 123
    ∷ takes 0 "\\x\\E41" 0 0
    ∷ takes 0 "\\x\\E41" 1 52
    ∷ takes 0 "\\c\\E" 1 69
    -- and inside one
    ∷ leaves 0 "[\\E^a]" 0 97
    ∷ takes 0 "[\\E^a]" 0 98
    ∷ takes 0 "[\\Q\\E]a]" 0 93
    ∷ leaves 0 "[\\Q\\E^a]" 0 97
    ∷ takes 0 "[a-\\Q\\E]" 0 45
    ∷ takes 0 "[a-\\Q\\Ez]" 0 98
    ∷ leaves 0 "[^\\E]a]" 0 93
    ∷ takes 0 "[a-\\E]" 0 45
    ∷ takes 0 "[a\\E-z]" 0 98
    ∷ takes 0 "[\\Q^\\Ea]" 0 94
    ∷ takes 0 "[\\Q^\\Ea]" 0 97
    ∷ takes 0 "[\\Qa]\\E]" 0 93
    ∷ takes 0 "[\\Qz-a\\E]" 0 45
    ∷ leaves 0 "[\\Qa-z\\E]" 0 98
    ∷ leaves 0 "[a\\Q-\\Ez]" 0 98
    ∷ takes 0 "[\\Qa\\E-z]" 0 98
    ∷ takes 0 "[a-\\Qz\\E]" 0 98
    ∷ takes 0 "[Z-\\Q]\\E]" 0 91
    ∷ leaves 0 "[\\Q\\d\\E]" 0 48
    ∷ takes 0 "[\\Q\\d\\E]" 0 92
    ∷ takes 0 "[\\Q[:digit:]\\E]" 0 91
    ∷ leaves 0 "[\\Q[:digit:]\\E]" 0 48
    ∷ takes 1 "[\\Qa\\E]" 0 65
    ∷ takes 0 "[\\d-\\E]" 0 45
    -- "spaces and tabs after `{`, before `}` and around the comma" are no items of a complete form
    ∷ takes 0 "\\x{ 41 }" 0 65
    ∷ leaves 0 "\\x{ 41 }" 0 32
    ∷ takes 0 "\\o{ 101 }" 0 65
    ∷ takes 0 "[\\x{ 41 }]" 0 65
    ∷ leaves 0 "[\\x{ 41 }]" 0 32
    ∷ takes 0 "a{ 2 }b" 1 98
    ∷ takes 0 "a{2, 3}b" 1 98
    ∷ takes 0 "a{2 , }b" 1 98
    ∷ takes 0 "{ , }" 1 32
    ∷ takes 0 "a{2 3}b" 1 123
    ∷ takes 0 "a{2 3}b" 6 98
    ∷ []

-- ---- assertions

-- the assertions of a tree from left to right, of a repeat those of one copy
unfoldable pub assertions_of : Syntax → List Assertion
assertions_of empty = []
assertions_of (item c) = []
assertions_of (assertion a) = a ∷ []
assertions_of (then x y) = assertions_of x ++ assertions_of y
assertions_of (or x y) = assertions_of x ++ assertions_of y
assertions_of (repeat x n j) = assertions_of x

-- an accepted pattern under flags, and the assertions that its tree has
pub record Asserting : Type 0 where
  pub flags : ℕ
  pub pattern : List ℕ
  pub assertions : List Assertion

unfoldable pub same : List Assertion → List Assertion → Bool
same [] [] = true
same [] (y ∷ ys) = false
same (x ∷ xs) [] = false
same (x ∷ xs) (y ∷ ys) = eqb (code_of x) (code_of y) && same xs ys

-- a reading has a tree with these assertions
unfoldable pub asserts : Read → List Assertion → Bool
asserts (tree t) l = same (assertions_of t) l
asserts (refused n p) l = false

-- those whose pattern does not read so
unfoldable pub misread : List Asserting → List Asserting
misread [] = []
misread (c ∷ l) = cond (asserts (read_of c.pattern (options_of c.flags)) c.assertions) (misread l) (c ∷ misread l)

abbrev has_all : ℕ → String → List Assertion → Asserting
has_all flags text l = record { flags = flags; pattern = bytes text; assertions = l }

unfoldable pub assertings : List Asserting
assertings =
    has_all 0 "^a$" (at_start ∷ at_last_line ∷ [])
    ∷ has_all 0 "\\Aa\\Z|a\\z" (at_start ∷ at_last_line ∷ at_end ∷ [])
    -- `^` and `$` go by "flag 4 and option `m`", by neither of the other two; `\A`, `\Z` and `\z`
    -- by none
    ∷ has_all 4 "^a$" (line_start ∷ line_end ∷ [])
    ∷ has_all 3 "^a$" (at_start ∷ at_last_line ∷ [])
    ∷ has_all 0 "(?m)^a$" (line_start ∷ line_end ∷ [])
    ∷ has_all 0 "(?is)^a$" (at_start ∷ at_last_line ∷ [])
    ∷ has_all 4 "(?i-s)^a$" (line_start ∷ line_end ∷ [])
    ∷ has_all 4 "\\Aa\\Z|a\\z" (at_start ∷ at_last_line ∷ at_end ∷ [])
    -- "applied left to right", to what stands after; "A setting lasts to the end of its group,
    -- later branches included."
    ∷ has_all 0 "(?m-m)^a" (at_start ∷ [])
    ∷ has_all 4 "^(?-m)^a$" (line_start ∷ at_start ∷ at_last_line ∷ [])
    ∷ has_all 0 "^(?m)^a" (at_start ∷ line_start ∷ [])
    ∷ has_all 0 "(?m:^)^a$" (line_start ∷ at_start ∷ at_last_line ∷ [])
    ∷ has_all 4 "(?-m:^)^a" (at_start ∷ line_start ∷ [])
    ∷ has_all 0 "(a(?m)^|$)^b" (line_start ∷ line_end ∷ at_start ∷ [])
    ∷ has_all 0 "(?m)\\Q^$\\E^" (line_start ∷ [])
    ∷ has_all 4 "(?#^)[$\\b]\\$" []
    -- "Add `\b` and `\B`"
    ∷ has_all 0 "\\ba\\B" (word_edge ∷ no_word_edge ∷ [])
    ∷ has_all 4 "a(?:\\b|\\B)$" (word_edge ∷ no_word_edge ∷ line_end ∷ [])
    ∷ []
