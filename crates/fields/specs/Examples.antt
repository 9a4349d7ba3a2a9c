-- Worked values.
use Rattle.std.specs.Prelude.{◌≡◌, refl, true, false, [], ◌∷◌, pos, negsuc, Some, None}
use Rattle.wire.specs.Field.{signed}
use Rattle.numeral.specs.Decimal.{digits, digits_in}
use Rattle.numeral.specs.Whole.{is_digit}
use Rattle.fields.specs.Line.{space_in, rest_of_line, fields_from, field_of}
use Rattle.fields.specs.Number.{grown_by, natural_field, complement_of, integer_of, is_absent}
use Rattle.fields.specs.Refusal.{refusal_field}

-- "L 12  7": a letter, 12, an empty field, 7, and nothing past it
fields : (field_of (76 ∷ 32 ∷ 49 ∷ 50 ∷ 32 ∷ 32 ∷ 55 ∷ []) 1 ≡ 49 ∷ 50 ∷ []) ×
    (field_of (76 ∷ 32 ∷ 49 ∷ 50 ∷ 32 ∷ 32 ∷ 55 ∷ []) 2 ≡ []) ×
    (field_of (76 ∷ 32 ∷ 49 ∷ 50 ∷ 32 ∷ 32 ∷ 55 ∷ []) 3 ≡ 55 ∷ []) ×
    (field_of (76 ∷ 32 ∷ 49 ∷ 50 ∷ 32 ∷ 32 ∷ 55 ∷ []) 4 ≡ [])
unfolding field_of fields_from rest_of_line space_in
fields = (refl, refl, refl, refl)

-- -12, 2^64 - 1, and 2^64, whose last digit is one too many
integers : (integer_of (45 ∷ 49 ∷ 50 ∷ []) ≡ negsuc 11) × (integer_of (49 ∷ 50 ∷ []) ≡ pos 12) × (integer_of [] ≡ pos 0)
unfolding integer_of signed complement_of natural_field grown_by is_digit
integers = (refl, refl, refl)

border : (grown_by 1844674407370955161 53 ≡ 18446744073709551615) × (grown_by 1844674407370955161 54 ≡ 0)
unfolding grown_by is_digit
border = (refl, refl)

absent : (is_absent [] ≡ true) × (is_absent (120 ∷ []) ≡ true) × (is_absent (48 ∷ []) ≡ false)
unfolding is_absent
absent = (refl, refl, refl)

-- "6@57", and "10", which has no offset
refusals : (refusal_field (record { row = 6; offset = Some 57 }) ≡ 54 ∷ 64 ∷ 53 ∷ 55 ∷ []) ×
    (refusal_field (record { row = 10; offset = None }) ≡ 49 ∷ 48 ∷ [])
unfolding digits digits_in
refusals = (refl, refl)
