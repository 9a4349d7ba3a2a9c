-- A string as it is spelled between its quotes (RFC 8259 section 7), and what it decodes to: the bytes of its UTF-8.
-- Every list of bytes decodes to something; what is no RFC spelling is refused elsewhere.
use Rattle.std.specs.Prelude.{Bool, true, false, cond, not, ◌&&◌, ◌||◌, List, [], ◌∷◌, ◌++◌, ℕ, zero, suc, pred, ◌+◌, ◌-◌, ◌*◌, ◌/◌, ◌%◌, ltb, leb, eqb, get_or, length}
use Rattle.wire.specs.Bytes.{Bytes, is_hex}
use Rattle.spell.specs.declared.Char.{Char}

-- the number of a hex digit: 0-9, A-F, a-f; 0 of any other byte
unfoldable pub hex_val : ℕ → ℕ
hex_val x =
    cond (ltb x 0x30) 0
    (cond (leb x 0x39) (x - 0x30)
    (cond (ltb x 0x41) 0
    (cond (leb x 0x46) (x - 0x41 + 10)
    (cond (ltb x 0x61) 0
    (cond (leb x 0x66) (x - 0x61 + 10) 0)))))

-- the bytes that pairs of hex digits stand for; a last digit without its pair stands for nothing
unfoldable pub unhex : Bytes → Bytes
unhex [] = []
unhex (x ∷ []) = []
unhex (x ∷ y ∷ l) = (hex_val x * 16 + hex_val y) ∷ unhex l

-- the number of four hex digits
unfoldable pub four : (a b c d : ℕ) → ℕ
four a b c d = hex_val a * 4096 + hex_val b * 256 + hex_val c * 16 + hex_val d

-- of those from k on; past the end stands 0
unfoldable pub four_at : Bytes → ℕ → ℕ
four_at l k = four (get_or l k 0) (get_or l (k + 1) 0) (get_or l (k + 2) 0) (get_or l (k + 3) 0)

-- the character of a backslash and y, which is no u: b, f, n, r and t, and any other byte is itself
unfoldable pub short_of : ℕ → ℕ
short_of y =
    cond (eqb y 0x62) 0x8 (cond (eqb y 0x66) 0xc
    (cond (eqb y 0x6e) 0xa (cond (eqb y 0x72) 0xd (cond (eqb y 0x74) 0x9 y))))

-- a pair of surrogates: u is high, the bytes x and y are \u, and v is low
unfoldable pub is_pair : (u x y v : ℕ) → Bool
is_pair u x y v = (leb 0xd800 u && leb u 0xdbff) && (eqb x 0x5c && (eqb y 0x75 && (leb 0xdc00 v && leb v 0xdfff)))

unfoldable pub pair_of : ℕ → ℕ → ℕ
pair_of u v = 0x10000 + (u - 0xd800) * 0x400 + (v - 0xdc00)

-- \u and the digits of u, after which stand the bytes x and y and the digits of v
unfoldable pub unicode_of : (u x y v : ℕ) → Char
unicode_of u x y v =
    cond (is_pair u x y v) (record { code = pair_of u v; raw = false; width = 12 })
    (record { code = u; raw = false; width = 6 })

-- the character that a spelling begins with
unfoldable pub char_of : Bytes → Char
char_of l =
    cond (eqb (get_or l 0 0) 0x5c)
    (cond (eqb (get_or l 1 0) 0x75)
    (unicode_of (four_at l 2) (get_or l 6 0) (get_or l 7 0) (four_at l 8))
    (record { code = short_of (get_or l 1 0); raw = true; width = 2 }))
    (record { code = get_or l 0 0; raw = true; width = 1 })

-- the characters, where k bytes of the list belong to the character before it
unfoldable pub chars_from : ℕ → Bytes → List Char
chars_from k [] = []
chars_from zero (x ∷ l) = char_of (x ∷ l) ∷ chars_from (pred (char_of (x ∷ l)).width) l
chars_from (suc k) (x ∷ l) = chars_from k l

abbrev pub chars : Bytes → List Char
chars l = chars_from 0 l

-- RFC 3629 section 3: the octets of a code point. A surrogate has the pattern of its range
unfoldable pub utf8_of : ℕ → Bytes
utf8_of n =
    cond (ltb n 0x80) (n ∷ [])
    (cond (ltb n 0x800) ((0xc0 + n / 0x40) ∷ (0x80 + n % 0x40) ∷ [])
    (cond (ltb n 0x10000) ((0xe0 + n / 0x1000) ∷ (0x80 + n / 0x40 % 0x40) ∷ (0x80 + n % 0x40) ∷ [])
    ((0xf0 + n / 0x40000) ∷ (0x80 + n / 0x1000 % 0x40) ∷ (0x80 + n / 0x40 % 0x40) ∷ (0x80 + n % 0x40) ∷ [])))

unfoldable pub char_bytes : Char → Bytes
char_bytes c = cond c.raw (c.code ∷ []) (utf8_of c.code)

unfoldable pub chars_bytes : List Char → Bytes
chars_bytes [] = []
chars_bytes (c ∷ cs) = char_bytes c ++ chars_bytes cs

-- what a spelling decodes to
unfoldable pub decode : Bytes → Bytes
decode l = chars_bytes (chars l)

-- row 4 of 01, as 02, Wish 3, amends it: an unpaired surrogate
abbrev pub is_surrogate : ℕ → Bool
is_surrogate n = leb 0xd800 n && leb n 0xdfff

unfoldable pub is_refused : Char → Bool
is_refused c = is_surrogate c.code

unfoldable pub any : (Char → Bool) → List Char → Bool
any f [] = false
any f (c ∷ cs) = f c || any f cs

unfoldable pub refuses : Bytes → Bool
refuses l = any is_refused (chars l)

-- UTF8-tail of RFC 3629 section 4
abbrev pub is_tail : ℕ → Bool
is_tail x = leb 0x80 x && leb x 0xbf

-- how many characters (code points) UTF-8 holds: its octets that are no tails
unfoldable pub points : Bytes → ℕ
points [] = 0
points (x ∷ s) = cond (is_tail x) (points s) (suc (points s))

unfoldable pub character_count : Bytes → ℕ
character_count l = points (decode l)

unfoldable pub all : (ℕ → Bool) → Bytes → Bool
all f [] = true
all f (x ∷ s) = f x && all f s

-- a spelling decodes to n characters of lower-case hex
unfoldable pub is_hex_of : ℕ → Bytes → Bool
is_hex_of n l = eqb (length (decode l)) n && all is_hex (decode l)

-- for laws: a byte that is no backslash
unfoldable pub not_slash : ℕ → Bool
not_slash x = not (eqb x 0x5c)
