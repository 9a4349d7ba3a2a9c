-- Worked cases: the escapes of RFC 8259 section 7, its pair of surrogates, row 4, hex, the count of characters, and
-- tables of the bytes that the definitions tell apart.
use Rattle.std.specs.Prelude.{true, false, not, ◌≡◌, refl, [], ◌∷◌, ltb, eqb}
use Rattle.wire.specs.Ascii.{ascii}
use Rattle.wire.specs.Bytes.{same_bytes, is_hex, those}
use Rattle.spell.specs.Spell.{hex_val, unhex, four, four_at, short_of, is_pair, pair_of, unicode_of, char_of, chars_from}
use Rattle.spell.specs.Spell.{utf8_of, char_bytes, chars_bytes, decode, is_surrogate, is_refused, any, refuses, points}
use Rattle.spell.specs.Spell.{character_count, all, is_hex_of}
use Rattle.wire.specs.Escape.{letter_of, esc_one, escape}

-- \" \\ \/ \b \f \n \r \t
short :
    (decode (ascii "\\\"") ≡ ascii "\"")
    × (decode (ascii "\\\\") ≡ ascii "\\")
    × (decode (ascii "\\/") ≡ ascii "/")
    × (decode (ascii "\\b") ≡ 0x08 ∷ [])
    × (decode (ascii "\\f") ≡ 0x0c ∷ [])
    × (decode (ascii "\\n") ≡ 0x0a ∷ [])
    × (decode (ascii "\\r") ≡ 0x0d ∷ [])
    × (decode (ascii "\\t") ≡ 0x09 ∷ [])
unfolding decode chars_bytes chars_from char_of unicode_of is_pair pair_of four_at four hex_val short_of char_bytes utf8_of
short = (refl, refl, refl, refl, refl, refl, refl, refl)

-- \u0061, \u00E9, \u20ac, the pair \uD834\uDD1E, and \u0000 between two letters
long :
    (decode (ascii "\\u0061") ≡ ascii "a")
    × (decode (ascii "\\u00E9") ≡ 0xc3 ∷ 0xa9 ∷ [])
    × (decode (ascii "\\u20ac") ≡ 0xe2 ∷ 0x82 ∷ 0xac ∷ [])
    × (decode (ascii "\\uD834\\uDD1E") ≡ 0xf0 ∷ 0x9d ∷ 0x84 ∷ 0x9e ∷ [])
    × (decode (ascii "a\\u0000b") ≡ 0x61 ∷ 0x00 ∷ 0x62 ∷ [])
unfolding decode chars_bytes chars_from char_of unicode_of is_pair pair_of four_at four hex_val short_of char_bytes utf8_of
long = (refl, refl, refl, refl, refl)

-- \u0000, \u001f, \u0008, \n\u000d, which 02, Wish 3, lets pass; unpaired surrogates: high, low, high and a letter, high and \u0061, low and high;
-- the pair; ab
row4 :
    (refuses (ascii "\\u0000") ≡ false)
    × (refuses (ascii "\\u001f") ≡ false)
    × (refuses (ascii "\\u0008") ≡ false)
    × (refuses (ascii "\\n\\u000d") ≡ false)
    × (refuses (ascii "\\uD834") ≡ true)
    × (refuses (ascii "\\uDD1E") ≡ true)
    × (refuses (ascii "\\uD834a") ≡ true)
    × (refuses (ascii "\\uD834\\u0061") ≡ true)
    × (refuses (ascii "\\uDD1E\\uD834") ≡ true)
    × (refuses (ascii "\\uD834\\uDD1E") ≡ false)
    × (refuses (ascii "ab") ≡ false)
unfolding refuses any is_refused chars_from char_of unicode_of is_pair pair_of four_at four hex_val short_of
row4 = (refl, refl, refl, refl, refl, refl, refl, refl, refl, refl, refl)

-- \u0061 is hex, \u0041 is not; 9f, 9F, 9fa and 9 as two characters; none
hex :
    (is_hex_of 1 (ascii "\\u0061") ≡ true)
    × (is_hex_of 1 (ascii "\\u0041") ≡ false)
    × (is_hex_of 2 (ascii "9f") ≡ true)
    × (is_hex_of 2 (ascii "9F") ≡ false)
    × (is_hex_of 2 (ascii "9fa") ≡ false)
    × (is_hex_of 2 (ascii "9") ≡ false)
    × (is_hex_of 0 [] ≡ true)
unfolding is_hex_of all is_hex decode chars_bytes chars_from char_of unicode_of is_pair pair_of four_at four hex_val short_of
    char_bytes utf8_of
hex = (refl, refl, refl, refl, refl, refl, refl)

-- an escape counts one, and so does what it stands for
counts :
    (character_count (ascii "\\u00E9") ≡ 1)
    × (character_count (0xc3 ∷ 0xa9 ∷ []) ≡ 1)
    × (character_count (ascii "\\uD834\\uDD1Ea") ≡ 2)
    × (character_count (0xf0 ∷ 0x9d ∷ 0x84 ∷ 0x9e ∷ 0x61 ∷ []) ≡ 2)
unfolding character_count points decode chars_bytes chars_from char_of unicode_of is_pair pair_of four_at four hex_val short_of
    char_bytes utf8_of
counts = (refl, refl, refl, refl)

-- d and \u0064, a\/b and a/b; a and aa
alike :
    (same_bytes (decode (ascii "d")) (decode (ascii "\\u0064")) ≡ true)
    × (same_bytes (decode (ascii "a\\/b")) (decode (ascii "a/b")) ≡ true)
    × (same_bytes (decode (ascii "a")) (decode (ascii "aa")) ≡ false)
unfolding same_bytes decode chars_bytes chars_from char_of unicode_of is_pair pair_of four_at four hex_val short_of char_bytes
    utf8_of
alike = (refl, refl, refl)

-- the seven escapes, and all else verbatim
written :
    (escape (0x74 ∷ 0x0a ∷ 0x31 ∷ []) ≡ ascii "t\\n1")
    × (escape (ascii "a\"b") ≡ ascii "a\\\"b")
    × (escape (0x5c ∷ 0x0d ∷ 0x09 ∷ 0x08 ∷ 0x0c ∷ 0x2f ∷ 0xe9 ∷ []) ≡ 0x5c ∷ 0x5c ∷ 0x5c ∷ 0x72 ∷ 0x5c ∷ 0x74 ∷ 0x5c ∷
    0x62 ∷ 0x5c ∷ 0x66 ∷ 0x2f ∷ 0xe9 ∷ [])
unfolding escape esc_one letter_of
written = (refl, refl, refl)

-- of 256 bytes: those that stand for another after a backslash, the digits that are not 0
bytes :
    (those (λ y. not (eqb (short_of y) y)) 256 ≡ 0x62 ∷ 0x66 ∷ 0x6e ∷ 0x72 ∷ 0x74 ∷ [])
    × (those (λ x. ltb 0 (hex_val x)) 256
    ≡ 0x31 ∷ 0x32 ∷ 0x33 ∷ 0x34 ∷ 0x35 ∷ 0x36 ∷ 0x37 ∷ 0x38 ∷ 0x39 ∷ 0x41 ∷ 0x42 ∷ 0x43 ∷ 0x44 ∷ 0x45 ∷ 0x46 ∷ 0x61 ∷
    0x62 ∷ 0x63 ∷ 0x64 ∷ 0x65 ∷ 0x66 ∷ [])
unfolding short_of hex_val
bytes = (refl, refl)

-- both cases of the digits by their number, 0123456789abcdefABCDEF in pairs; a digit too many; bytes that are no digits
pairs :
    (unhex (ascii "0123456789abcdef")
    ≡ 0x01 ∷ 0x23 ∷ 0x45 ∷ 0x67 ∷ 0x89 ∷ 0xab ∷ 0xcd ∷ 0xef ∷ [])
    × (unhex (ascii "ABCDEF7") ≡ 0xab ∷ 0xcd ∷ 0xef ∷ [])
    × (unhex (ascii "g1f/") ≡ 0x01 ∷ 0xf0 ∷ [])
unfolding unhex hex_val
pairs = (refl, refl, refl)

-- the borders of surrogates, of high and low ones in a pair, and of the numbers that pairs stand for
surrogates :
    (is_surrogate 0xd7ff ≡ false)
    × (is_surrogate 0xd800 ≡ true)
    × (is_surrogate 0xdfff ≡ true)
    × (is_surrogate 0xe000 ≡ false)
    × (is_pair 0xd7ff 0x5c 0x75 0xdc00 ≡ false)
    × (is_pair 0xd800 0x5c 0x75 0xdbff ≡ false)
    × (is_pair 0xd800 0x5c 0x75 0xdc00 ≡ true)
    × (is_pair 0xdbff 0x5c 0x75 0xdfff ≡ true)
    × (is_pair 0xdbff 0x5c 0x75 0xe000 ≡ false)
    × (is_pair 0xdc00 0x5c 0x75 0xdc00 ≡ false)
    × (pair_of 0xd800 0xdc00 ≡ 0x10000)
    × (pair_of 0xd800 0xdfff ≡ 0x103ff)
    × (pair_of 0xdbff 0xdfff ≡ 0x10ffff)
unfolding is_pair pair_of
surrogates = (refl, refl, refl, refl, refl, refl, refl, refl, refl, refl, refl, refl, refl)

-- RFC 3629 section 3, the first and the last number of each row of its table
octets :
    (utf8_of 0x7f ≡ 0x7f ∷ [])
    × (utf8_of 0x80 ≡ 0xc2 ∷ 0x80 ∷ [])
    × (utf8_of 0x7ff ≡ 0xdf ∷ 0xbf ∷ [])
    × (utf8_of 0x800 ≡ 0xe0 ∷ 0xa0 ∷ 0x80 ∷ [])
    × (utf8_of 0xffff ≡ 0xef ∷ 0xbf ∷ 0xbf ∷ [])
    × (utf8_of 0x10000 ≡ 0xf0 ∷ 0x90 ∷ 0x80 ∷ 0x80 ∷ [])
    × (utf8_of 0x10ffff ≡ 0xf4 ∷ 0x8f ∷ 0xbf ∷ 0xbf ∷ [])
unfolding utf8_of
octets = (refl, refl, refl, refl, refl, refl, refl)
