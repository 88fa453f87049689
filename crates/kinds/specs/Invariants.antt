-- What the private functions promise one another. No public contract cites it.
use Rattle.std.specs.Prelude.{◌≡◌, List, ℕ, ◌+◌, ◌*◌, ◌/◌, ◌<◌, get_or}
use Rattle.sets.specs.Set.{word_of}
use Rattle.kinds.specs.Kind.{is_word, kinds_of}
use Rattle.kinds.specs.declared.Kind.{Kind}
use Rattle.kinds.specs.declared.Kind.TheVariants.{Digit, Word, Space, Horizontal, Vertical, Alpha, Lower, Upper, Alnum, Ascii, Blank, Cntrl, Graph, Print, Punct, Xdigit}

-- the table's rule: entry b is the kinds of byte b
unfoldable pub Ruled : List ℕ → Type 0
Ruled t = (b : ℕ) → b < 256 → get_or t b 0 ≡ kinds_of b

-- the bit of a kind: its place in the list of kinds
abbrev pub bit_of : Kind → ℕ
bit_of Digit = 1
bit_of Word = 2
bit_of Space = 4
bit_of Horizontal = 8
bit_of Vertical = 16
bit_of Lower = 32
bit_of Upper = 64
bit_of Alpha = 128
bit_of Alnum = 256
bit_of Ascii = 512
bit_of Blank = 1024
bit_of Cntrl = 2048
bit_of Graph = 4096
bit_of Print = 8192
bit_of Punct = 16384
bit_of Xdigit = 32768

-- the word bytes among the 64 bytes of which b is one, as a word
unfoldable pub word_digits : ℕ → ℕ
word_digits b = word_of 64 (λ k. is_word (b / 64 * 64 + k))
