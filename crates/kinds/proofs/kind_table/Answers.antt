-- `kinds::kind_table` meets its contract: the test of `ruled` is computed over the whole table, and
-- the law carries it to each entry.
use mathlib.Core.Path.{refl}
use Rattle.sets.specs.Set.{any}
use Rattle.kinds.specs.Kind.{is_digit, is_lower, is_upper, is_word, is_space, is_horizontal, is_vertical, is_alpha, is_alnum, is_ascii, is_blank, is_cntrl, is_graph, is_print, is_punct, is_xdigit, bits_of, kinds_of}
use Rattle.kinds.proofs.Bytes.{ruled}
use Rattle.kinds.proofs.kind_table.Goals as goal

pub returns : goal.returns
unfolding any is_digit is_lower is_upper is_word is_space is_horizontal is_vertical is_alpha is_alnum is_ascii is_blank is_cntrl is_graph is_print is_punct is_xdigit bits_of kinds_of
returns c = ruled _ refl
