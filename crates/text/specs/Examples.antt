-- Worked tables of the text's bytes and escapes, of kinds, and of d: each computed, so that a slip in a definition
-- shows.
use Rattle.std.specs.Prelude.{◌≡◌, refl, not, [], ◌∷◌, map, eqb}
use Rattle.wire.specs.Ascii.{ascii}
use Rattle.wire.specs.Bytes.{those}
use Rattle.wire.specs.Escape.{letter_of}
use Rattle.utf8.specs.Utf8.{is_utf8, utf8_from, lead_of}
use Rattle.text.specs.Read.{none, got, escaped_byte, is_raw, body_from, string_at}
use Rattle.text.specs.Kinds.{class_of, d_of}
use Rattle.text.specs.declared.Class.TheVariants.{Regular, Replaceable, Ephemeral, Addressable}

-- ---- of 256 bytes: those that never stand as they are
never_raw : those (λ b. not (is_raw b)) 256
    ≡ 0x08 ∷ 0x09 ∷ 0x0a ∷ 0x0c ∷ 0x0d ∷ 0x22 ∷ 0x5c ∷ []
unfolding is_raw letter_of
never_raw = refl

-- ---- after a backslash: " \ b f n r t, and what they stand for
letters : those (λ c. not (eqb (escaped_byte c) 0)) 256 ≡ 34 ∷ 92 ∷ 98 ∷ 102 ∷ 110 ∷ 114 ∷ 116 ∷ []
unfolding escaped_byte
letters = refl

stand_for : map escaped_byte (34 ∷ 92 ∷ 98 ∷ 102 ∷ 110 ∷ 114 ∷ 116 ∷ []) ≡ 0x22 ∷ 0x5c ∷ 0x08 ∷ 0x0c ∷ 0x0a ∷ 0x0d ∷ 0x09
    ∷ []
unfolding escaped_byte
stand_for = refl

-- the string of ,"\\\"n"] at 1 is \"n and ends before the bracket; "\/", "\u0041", "\u0001" and a raw 09 are no
-- spellings of the text; / and 7F stand as they are, and so do 00 and 1F; an end is no 00
strings :
    (string_at (ascii ",\"\\\\\\\"n\"]") 1 ≡ got (ascii "\\\"n") 8)
    × (string_at (ascii "\"\\/\"") 0 ≡ none)
    × (string_at (ascii "\"\\u0041\"") 0 ≡ none)
    × (string_at (34 ∷ 9 ∷ 34 ∷ []) 0 ≡ none)
    × (string_at (ascii "\"\\u0001\"") 0 ≡ none)
    × (string_at (34 ∷ 47 ∷ 127 ∷ 34 ∷ []) 0 ≡ got (47 ∷ 127 ∷ []) 4)
    × (string_at (34 ∷ 0x00 ∷ 0x1f ∷ 34 ∷ []) 0 ≡ got (0x00 ∷ 0x1f ∷ []) 4)
    × (string_at (34 ∷ 0x00 ∷ []) 0 ≡ none)
unfolding string_at body_from escaped_byte is_raw letter_of is_utf8 utf8_from lead_of
strings = (refl, refl, refl, refl, refl, refl, refl, refl)

-- ---- both sides of each border of the kinds
kinds : map class_of (0 ∷ 1 ∷ 2 ∷ 3 ∷ 4 ∷ 999 ∷ 1000 ∷ 9999 ∷ [])
    ≡ Replaceable ∷ Regular ∷ Regular ∷ Replaceable ∷ Regular ∷ Regular ∷ Regular ∷ Regular ∷ []
unfolding class_of
kinds = refl

high_kinds : map class_of (10000 ∷ 19999 ∷ 20000 ∷ 29999 ∷ 30000 ∷ 39999 ∷ 40000 ∷ 65535 ∷ [])
    ≡ Replaceable ∷ Replaceable ∷ Ephemeral ∷ Ephemeral ∷ Addressable ∷ Addressable ∷ Regular ∷ Regular ∷ []
unfolding class_of
high_kinds = refl

-- ---- d: of the first tag named d, although a later one has more; not of D, dd or an empty name; the second string,
-- not the third
named :
    (d_of ((ascii "x" ∷ ascii "1" ∷ []) ∷ (ascii "d" ∷ ascii "2" ∷ ascii "3" ∷ []) ∷ (ascii "d" ∷ ascii "4" ∷ []) ∷ []) ≡
    ascii "2")
    × (d_of ((ascii "d" ∷ []) ∷ (ascii "d" ∷ ascii "2" ∷ []) ∷ []) ≡ [])
    × (d_of ((ascii "D" ∷ ascii "1" ∷ []) ∷ (ascii "dd" ∷ ascii "2" ∷ []) ∷ ([] ∷ ascii "3" ∷ []) ∷ []) ≡ [])
unfolding d_of
named = (refl, refl, refl)
