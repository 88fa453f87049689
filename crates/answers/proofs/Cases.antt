-- The cases come out as they must: the checker reads every pattern by the definitions. Assumes
-- nothing.
use mathlib.Core.Path.{◌≡◌, refl}
use mathlib.Core.List.{[]}
use Rattle.sets.specs.Set.{on, has, word_of, set_of, empty_set, full_set, inserted, inserted_range, union_of, complement_of}
use Rattle.kinds.specs.Kind.{is_digit, is_lower, is_upper, is_word, is_space, is_horizontal, is_vertical, is_alpha, is_alnum, is_ascii, is_blank, is_cntrl, is_graph, is_print, is_punct, is_xdigit}
use Rattle.kinds.specs.Case.{other_case, case_closed}
use Rattle.atoms.specs.Number.{digit_of, digits, value_from, blanks, numeral_of}
use Rattle.atoms.specs.Escape.{braced_of, short_of, flipped64, raised, control_of, type_of, named_of, placed_of, hex_of, octal_of, escape_of}
use Rattle.atoms.specs.Fault.{lower}
use Rattle.atoms.specs.Raw.{any_raw, with_raw}
use Rattle.atoms.specs.Quote.{is_mark, gap_of}
use Rattle.classes.specs.Name.{bytes, names, begins, named, name_among, name_of}
use Rattle.classes.specs.Class.{bracket_of, member_of, range_fault, joint_of, spelled_at, member_at, joined, settled, members_of, class_of}
use Rattle.tokens.specs.Option.{letters_of, before_close, comment_of, opening_of}
use Rattle.tokens.specs.Quantifier.{bounded, open_ended, braces_of, form_of, marked, quantifier_of}
use Rattle.tokens.specs.Token.{escaped, unquoted_of, spelled_of, lexeme_of, item_set}
use Rattle.meaning.specs.Count.{copied, capped, saturating, nullable}
use Rattle.pattern.specs.Walk.{chained, chosen, one, repeating, closing, opening, act, next, finish, walk}
use Rattle.pattern.specs.Read.{judged, read_of, limited_read, options_of}
use Rattle.answers.specs.Cases.{gives, right, wrong, cases, items_of, agrees, strange, takings, assertions_of, same, asserts, misread, assertings}

pub none-wrong : wrong cases ≡ []
unfolding is_digit is_lower is_upper is_blank other_case digit_of digits value_from blanks numeral_of braced_of short_of flipped64 raised control_of type_of named_of placed_of hex_of octal_of is_alpha is_alnum escape_of lower is_mark gap_of names begins named name_among name_of bracket_of member_of range_fault joint_of member_at members_of class_of letters_of before_close comment_of opening_of bounded open_ended braces_of form_of marked quantifier_of escaped unquoted_of lexeme_of copied capped saturating nullable chained chosen one repeating closing opening act next finish walk judged read_of limited_read options_of bytes gives right wrong cases is_cntrl any_raw with_raw spelled_at spelled_of
none-wrong = refl

pub none-strange : strange takings ≡ []
unfolding on has word_of set_of empty_set full_set inserted inserted_range union_of complement_of is_digit is_lower is_upper is_word is_space is_horizontal is_vertical is_alpha is_ascii is_blank is_cntrl is_graph is_print is_punct is_xdigit other_case case_closed digit_of digits value_from blanks numeral_of braced_of short_of flipped64 raised control_of type_of named_of placed_of hex_of octal_of is_alnum escape_of lower is_mark gap_of names begins named name_among name_of bracket_of member_of range_fault joint_of member_at joined settled members_of class_of letters_of before_close comment_of opening_of bounded open_ended braces_of form_of marked quantifier_of escaped unquoted_of lexeme_of item_set copied capped saturating nullable chained chosen one repeating closing opening act next finish walk judged read_of options_of bytes items_of agrees strange takings any_raw with_raw spelled_at spelled_of
none-strange = refl

pub none-misread : misread assertings ≡ []
unfolding is_digit is_lower is_upper is_blank other_case digit_of digits value_from blanks numeral_of braced_of short_of flipped64 raised control_of type_of named_of placed_of hex_of octal_of is_alpha is_alnum escape_of lower is_mark gap_of names begins named name_among name_of bracket_of member_of range_fault joint_of member_at members_of class_of letters_of before_close comment_of opening_of bounded open_ended braces_of form_of marked quantifier_of escaped unquoted_of lexeme_of copied capped saturating nullable chained chosen one repeating closing opening act next finish walk judged read_of options_of bytes assertions_of same asserts misread assertings is_cntrl any_raw with_raw spelled_at spelled_of
none-misread = refl
