-- Texts, and what the definitions say of them, by computation.
use Rattle.std.specs.Prelude.{◌≡◌, refl, List, [], ◌∷◌, ◌++◌, Bool, true, false, cond, not, ℕ, zero, suc, Some, None}
use Prim.Native.Char.{code}
use Prim.Native.String.{String, [] as none_left, ◌∷◌ as ◌then◌}
use Rattle.json_tree.specs.declared.Class.TheVariants.{Space, Digit, Plain, Hex, Short, Exponent, Sign}
use Rattle.json_tree.specs.Grammar.{is_unescaped, in_class, run, past, one_at, token_at, word_at, literal_at, digits_at}
use Rattle.json_tree.specs.Grammar.{int_at, frac_at}
use Rattle.json_tree.specs.Grammar.{exp_at, number_at, hex_at, escaped_at, char_at, chars_up_to, chars_at, string_at}
use Rattle.json_tree.specs.Grammar.{is_spelling, scalar_at}
use Rattle.json_tree.specs.Tree.{word, num, str, arr, obj, nil, item, got, items_at, tree_at, root, is_text}
use Rattle.wire.specs.Bytes.{Bytes}

-- the bytes of a text of ASCII characters
abbrev bytes : String → Bytes
bytes none_left = []
bytes (c then s) = code c ∷ bytes s

abbrev Is : String → Type 0
Is t = is_text (bytes t) ≡ true

abbrev Not : String → Type 0
Not t = is_text (bytes t) ≡ false

-- RFC 8259, section 13, and an object made of parts of its first example
section_13 : (Is "\"Hello world!\"") × (Is "42") × (Is "true") ×
    (Is "{\n \"Width\": 800,\n \"IDs\": [116, 943],\n \"Animated\" : false\n }\n")
unfolding in_class run past one_at token_at word_at literal_at digits_at int_at frac_at exp_at number_at hex_at escaped_at char_at
    chars_up_to chars_at string_at scalar_at items_at tree_at
section_13 = (refl, refl, refl, refl)

-- 01, row 3: eight open at once, and nine
eight : (Is "[[[[[[[[]]]]]]]]") × (Is "[{\"\":[{\"\":[{\"\":[{}]}]}]}]") × (Not "[[[[[[[[[]]]]]]]]]") ×
    (Not "[{\"\":[{\"\":[{\"\":[{\"\":{}}]}]}]}]")
unfolding in_class run past one_at token_at word_at literal_at digits_at int_at frac_at exp_at number_at hex_at escaped_at char_at
    chars_up_to chars_at string_at scalar_at items_at tree_at
eight = (refl, refl, refl, refl)

-- section 7: each escape; a letter that is none, a short code, a control character as it is, a quotation mark too few
strings : (Is "\"\\\" \\\\ \\/ \\b \\f \\n \\r \\t \\u00e9 \\uD834\"") × (Not "\"\\x\"") × (Not "\"\\u00e\"") ×
    (Not "\"\t\"") × (Not "\"a") × (Not "'a'")
unfolding in_class run past one_at token_at word_at literal_at digits_at int_at frac_at exp_at number_at hex_at escaped_at char_at
    chars_up_to chars_at string_at scalar_at items_at tree_at
strings = (refl, refl, refl, refl, refl, refl)

-- section 6
numbers : (Is "-0") × (Is "10.50e-3") × (Is "1E+2") × (Not "01") × (Not "-") × (Not "1.") × (Not ".5") × (Not "+1") ×
    (Not "1e")
unfolding in_class run past one_at token_at word_at literal_at digits_at int_at frac_at exp_at number_at hex_at escaped_at char_at
    chars_up_to chars_at string_at scalar_at items_at tree_at
numbers = (refl, refl, refl, refl, refl, refl, refl, refl, refl)

-- sections 2 to 5
texts : (Is " null ") × (Not "") × (Not " ") × (Not "nul") × (Not "true false") × (Not "[1,]") × (Not "[1 2]") ×
    (Not "[1}") × (Not "{\"a\":1,}") × (Not "{\"a\",1}") × (Not "{a:1}")
unfolding in_class run past one_at token_at word_at literal_at digits_at int_at frac_at exp_at number_at hex_at escaped_at char_at
    chars_up_to chars_at string_at scalar_at items_at tree_at
texts = (refl, refl, refl, refl, refl, refl, refl, refl, refl, refl, refl)

-- a tree: an item's place, its value's place, and places as start and length
tree : root (bytes " {\"a\": [1,\"b\"], \"\":null}") ≡ got
    (obj (item 2 7 (arr (item 8 8 (num 8 1) (item 10 10 (str 11 1) nil))) (item 16 19 (word 19 4) nil))) 24
unfolding in_class run past one_at token_at word_at literal_at digits_at int_at frac_at exp_at number_at hex_at escaped_at char_at
    chars_up_to chars_at string_at scalar_at items_at tree_at
tree = refl

-- what may stand between quotation marks
spellings : (is_spelling (bytes "") ≡ true) × (is_spelling (bytes "a\\n\\\"") ≡ true) ×
    (is_spelling (bytes "a\"") ≡ false) × (is_spelling (bytes "\\") ≡ false)
unfolding in_class run past one_at token_at word_at hex_at escaped_at char_at chars_up_to chars_at
spellings = (refl, refl, refl, refl)

-- 02, Wish 3: 00, 01 and 1F may stand raw in what is lent, 09 and 0A may not, and none of them in a text
raw_spellings : (is_spelling (0x00 ∷ 0x01 ∷ 0x1F ∷ []) ≡ true) × (is_spelling (0x09 ∷ []) ≡ false) ×
    (is_spelling (0x0A ∷ []) ≡ false) × (is_text (0x22 ∷ 0x01 ∷ 0x22 ∷ []) ≡ false) ×
    (is_text (0x22 ∷ 0x00 ∷ 0x22 ∷ []) ≡ false) × (is_text (0x01 ∷ 0x31 ∷ []) ≡ false)
unfolding in_class run past one_at token_at word_at literal_at digits_at int_at frac_at exp_at number_at hex_at escaped_at char_at
    chars_up_to chars_at string_at scalar_at items_at tree_at
raw_spellings = (refl, refl, refl, refl, refl, refl)

-- and the end of a text is no U+0000: "ab without its second quotation mark, and with 00 in it
text_ends : (string_at (bytes "\"ab") 0 ≡ None) × (string_at (0x22 ∷ 0x00 ∷ []) 0 ≡ None) ×
    (string_at (0x22 ∷ 0x00 ∷ 0x22 ∷ []) 0 ≡ Some 3)
unfolding in_class one_at hex_at escaped_at char_at chars_up_to chars_at string_at
text_ends = (refl, refl, refl)

-- the bytes of each terminal, of 256; of unescaped, those that it has not, and what a string that is lent has not
abbrev those_of : (ℕ → Bool) → ℕ → List ℕ
those_of f zero = []
those_of f (suc n) = those_of f n ++ cond (f n) (n ∷ []) []

terminals :
    (those_of (in_class Space) 256 ≡ 0x09 ∷ 0x0A ∷ 0x0D ∷ 0x20 ∷ [])
    × (those_of (in_class Digit) 256 ≡ 0x30 ∷ 0x31 ∷ 0x32 ∷ 0x33 ∷ 0x34 ∷ 0x35 ∷ 0x36 ∷ 0x37 ∷ 0x38 ∷ 0x39 ∷ [])
    × (those_of (in_class Hex) 256
    ≡ 0x30 ∷ 0x31 ∷ 0x32 ∷ 0x33 ∷ 0x34 ∷ 0x35 ∷ 0x36 ∷ 0x37 ∷ 0x38 ∷ 0x39 ∷ 0x41 ∷ 0x42 ∷ 0x43 ∷ 0x44 ∷ 0x45 ∷ 0x46 ∷
    0x61 ∷ 0x62 ∷ 0x63 ∷ 0x64 ∷ 0x65 ∷ 0x66 ∷ [])
    × (those_of (in_class Short) 256 ≡ 0x22 ∷ 0x2F ∷ 0x5C ∷ 0x62 ∷ 0x66 ∷ 0x6E ∷ 0x72 ∷ 0x74 ∷ [])
    × (those_of (in_class Exponent) 256 ≡ 0x45 ∷ 0x65 ∷ [])
    × (those_of (in_class Sign) 256 ≡ 0x2B ∷ 0x2D ∷ [])
    × (those_of (λ b. not (is_unescaped b)) 256
    ≡ 0x00 ∷ 0x01 ∷ 0x02 ∷ 0x03 ∷ 0x04 ∷ 0x05 ∷ 0x06 ∷ 0x07 ∷ 0x08 ∷ 0x09 ∷ 0x0A ∷ 0x0B ∷ 0x0C ∷ 0x0D ∷ 0x0E ∷ 0x0F ∷
    0x10 ∷ 0x11 ∷ 0x12 ∷ 0x13 ∷ 0x14 ∷ 0x15 ∷ 0x16 ∷ 0x17 ∷ 0x18 ∷ 0x19 ∷ 0x1A ∷ 0x1B ∷ 0x1C ∷ 0x1D ∷ 0x1E ∷ 0x1F ∷
    0x22 ∷ 0x5C ∷ [])
    × (those_of (λ b. not (in_class Plain b)) 256 ≡ 0x08 ∷ 0x09 ∷ 0x0A ∷ 0x0C ∷ 0x0D ∷ 0x22 ∷ 0x5C ∷ [])
unfolding in_class
terminals = (refl, refl, refl, refl, refl, refl, refl, refl)
