-- Filters as they stand in a text, by computation.
use Rattle.std.specs.Prelude.{Some, None}
use mathlib.Core.Path.{◌≡◌, refl}
use mathlib.Core.List.{List, [], ◌∷◌}
use Prim.Native.Nat.{ℕ}
use Prim.Native.Char.{code}
use Prim.Native.String.{String, [] as []ˢ, ◌∷◌ as ◌∷ˢ◌}
use lib.IntN.{pos, negsuc}
use Rattle.wire.specs.Bytes.{same_bytes, is_hex}
use Rattle.utf8.specs.Utf8.{is_utf8, utf8_from, lead_of}
use Rattle.json_tree.specs.Grammar.{in_class, run, past, one_at, token_at, word_at, literal_at, digits_at, int_at, frac_at, exp_at}
use Rattle.json_tree.specs.Grammar.{number_at, hex_at, escaped_at, char_at, chars_up_to, chars_at, string_at, scalar_at}
use Rattle.json_tree.specs.Tree.{items_at, tree_at}
use Rattle.numeral.specs.Whole.{is_digit, all_digits, value_from, is_natural, natural_of, negative_of, whole_of, is_within}
use Rattle.numeral.specs.Whole.{whole_answer}
use Rattle.spell.specs.Spell as spell
use Rattle.spell.specs.Spell.{char_of, chars_from, char_bytes, chars_bytes, decode, is_refused, refuses}
use Rattle.rows.specs.Strings.{spelled_at, refused_in}
use Rattle.shape.specs.Shape.{any_item, all_items, count_items, name_at, no_name_twice, filter_member, is_filter, is_condition}
use Rattle.shape.specs.Rows.{wrong_small, wrong_time, wrong_hex, wrong_list, filter_number, filter_hex, wrong_filter, filter_counts}
use Rattle.message.specs.Lists.{next_of, up_to, elements_from}
use Rattle.message.specs.Parts as parts
use Rattle.message.specs.Parts.{members_at, filter_at}
use Rattle.message.specs.Lent.{wrong_number, value2, value4, value5, filter2, filter4, filter5, filter6, filter7}
use Rattle.message.specs.Lent.{filter8, filter_row}
use Rattle.event.specs.Lent.{strings_of}
use Rattle.query.specs.Filter.{filter_of}
use Rattle.query.specs.Answer.{filter_parts_at, filters_meant, lowest_of, filters_row}
use Rattle.query.specs.Claims.{everything}

-- a text of ASCII characters
abbrev text : String → List ℕ
text []ˢ = []
text (c ∷ˢ s) = code c ∷ text s

abbrev two : List ℕ
two = text "{\"kinds\":[1,40],\"#t\":[\"x\"],\"since\":-5,\"limit\":0},{}]"

pub two_filters : filters_meant two 0 ≡ record {
  ids = None;
  authors = None;
  kinds = Some (pos 1 ∷ pos 40 ∷ []);
  since = Some (negsuc 4);
  until = None;
  limit = Some (pos 0);
  conditions = record { letter = 116; members = (120 ∷ []) ∷ [] } ∷ [];
} ∷ everything ∷ []
unfolding in_class run past one_at token_at word_at literal_at digits_at int_at frac_at exp_at number_at hex_at escaped_at char_at chars_up_to chars_at string_at scalar_at items_at tree_at is_digit all_digits value_from is_natural natural_of negative_of whole_of whole_answer char_of chars_from char_bytes chars_bytes decode spell.any same_bytes spelled_at name_at next_of up_to elements_from parts.filter_parts_of members_at filter_at strings_of filter_of filters_meant parts.member_of is_within is_condition
two_filters = refl

-- the other names; strings decoded
pub one_filter : filters_meant (text "{\"until\":7,\"authors\":[\"b\"],\"ids\":[\"a\",\"\\u0062\"]}]") 0 ≡ record {
  ids = Some ((97 ∷ []) ∷ (98 ∷ []) ∷ []);
  authors = Some ((98 ∷ []) ∷ []);
  kinds = None;
  since = None;
  until = Some (pos 7);
  limit = None;
  conditions = [];
} ∷ []
unfolding in_class run past one_at token_at word_at literal_at digits_at int_at frac_at exp_at number_at hex_at escaped_at char_at chars_up_to chars_at string_at scalar_at items_at tree_at is_digit all_digits value_from is_natural natural_of negative_of whole_of whole_answer char_of chars_from char_bytes chars_bytes decode spell.any same_bytes spelled_at name_at next_of up_to elements_from parts.filter_parts_of members_at filter_at strings_of filter_of filters_meant parts.member_of is_within is_condition spell.unicode_of spell.is_pair spell.four_at spell.four spell.hex_val spell.utf8_of
one_filter = refl

-- ---- lent as parts: 0 of these two; 8 of none and of {} five times, though six are lent; a number's row is lower; hex in
-- #e and #p (02, Wish 1), which an object lent for its conditions may spell in any way, and in no other letter
abbrev lent : List ℕ → ℕ → ℕ
lent m n = filters_row m (filter_parts_at m 0) n

pub rows :
    (lent two 2 ≡ 0)
    × (lent two 0 ≡ 8)
    × (lent (text "{},{},{},{},{},{}]") 5 ≡ 8)
    × (lent (text "{},{},{\"limit\":-0},{},{}]") 5 ≡ 6)
    × (lent (text "{},{},{\"limit\":-0},{},{}]") 2 ≡ 0)
    × (lent (text "{\"#e\":[\"x\"]}]") 1 ≡ 7)
    × (lent (text "{\"#\\u0070\":[\"x\"]}]") 1 ≡ 7)
    × (lent (text "{\"#E\":[\"x\"]}]") 1 ≡ 0)
unfolding in_class run past one_at token_at word_at literal_at digits_at int_at frac_at exp_at number_at hex_at escaped_at char_at chars_up_to chars_at string_at scalar_at items_at tree_at is_utf8 utf8_from lead_of is_digit all_digits value_from is_natural natural_of negative_of whole_of whole_answer is_within char_of chars_from char_bytes chars_bytes decode spell.any is_refused refuses spell.short_of spell.unicode_of spell.is_pair spell.four_at spell.four spell.hex_val spell.utf8_of spell.all spell.is_hex_of is_hex same_bytes spelled_at refused_in any_item all_items count_items name_at no_name_twice is_filter is_condition filter_counts next_of up_to elements_from parts.member_of parts.filter_parts_of members_at filter_at wrong_number value2 value4 value5 filter2 filter4 filter5 filter6 filter7 filter8 filter_row lowest_of filters_row filter_member wrong_small filter_number wrong_time wrong_hex filter_hex wrong_list wrong_filter
rows = (refl, refl, refl, refl, refl, refl, refl, refl)
