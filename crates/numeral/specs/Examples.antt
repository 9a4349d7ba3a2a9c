-- Worked values.
use Rattle.std.specs.Prelude.{◌≡◌, refl, [], pos, negsuc}
use Rattle.wire.specs.Ascii.{ascii}
use Rattle.wire.specs.Bytes.{those}
use Rattle.numeral.specs.Decimal.{digits_in, digits, decimal}
use Rattle.numeral.specs.Whole.{malformed, whole, is_digit, all_digits, value_from, is_natural, natural_of, negative_of}
use Rattle.numeral.specs.Whole.{whole_of, is_within, whole_answer}
use Rattle.numeral.specs.declared.Whole.TheVariants.{Value, Large}

-- -7200, 0 and 9007199254740991
decimal_minus : decimal (negsuc 7199) ≡ ascii "-7200"
unfolding decimal digits digits_in
decimal_minus = refl

decimal_0 : decimal (pos 0) ≡ ascii "0"
unfolding decimal digits digits_in
decimal_0 = refl

decimal_widest : decimal (pos 9007199254740991) ≡ ascii "9007199254740991"
unfolding decimal digits digits_in
decimal_widest = refl

-- the digits, of 256 bytes, and their numbers
digit_bytes : those is_digit 256 ≡ ascii "0123456789"
unfolding is_digit
digit_bytes = refl

whole_digits : whole_of (ascii "1023456789") ≡ whole (pos 1023456789)
unfolding whole_of natural_of is_natural all_digits is_digit value_from
whole_digits = refl

whole_0 : whole_of (ascii "0") ≡ whole (pos 0)
unfolding whole_of natural_of is_natural value_from
whole_0 = refl

-- -7200, -0, 01, 1e3, - and nothing
whole_minus : whole_of (ascii "-7200") ≡ whole (negsuc 7199)
unfolding whole_of negative_of is_natural all_digits is_digit value_from
whole_minus = refl

whole_minus_0 : whole_of (ascii "-0") ≡ malformed
unfolding whole_of negative_of is_natural all_digits is_digit value_from
whole_minus_0 = refl

whole_01 : whole_of (ascii "01") ≡ malformed
unfolding whole_of natural_of is_natural all_digits is_digit value_from
whole_01 = refl

whole_1e3 : whole_of (ascii "1e3") ≡ malformed
unfolding whole_of natural_of is_natural all_digits is_digit value_from
whole_1e3 = refl

whole_sign : whole_of (ascii "-") ≡ malformed
unfolding whole_of negative_of is_natural
whole_sign = refl

whole_none : whole_of [] ≡ malformed
unfolding whole_of
whole_none = refl

-- the two ends of the widest range
answer_least : whole_answer (whole (negsuc 9007199254740990)) ≡ Value (negsuc 9007199254740990)
unfolding whole_answer is_within
answer_least = refl

answer_below : whole_answer (whole (negsuc 9007199254740991)) ≡ Large
unfolding whole_answer is_within
answer_below = refl

answer_most : whole_answer (whole (pos 9007199254740991)) ≡ Value (pos 9007199254740991)
unfolding whole_answer is_within
answer_most = refl

answer_above : whole_answer (whole (pos 9007199254740992)) ≡ Large
unfolding whole_answer is_within
answer_above = refl
