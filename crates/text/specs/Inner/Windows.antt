-- UTF-8 told by windows of four octets, as the code tests it: x comes after c, b and a. That it is the test of RFC 3629
-- is proved in proofs/Windows.
use Rattle.std.specs.Prelude.{Bool, not, ◌&&◌, ◌||◌, ℕ, eqb, ltb, leb}

-- a tail has to come: after the first octet of a character, the second of three or the third of four
unfoldable pub wants_tail : (c b a : ℕ) → Bool
wants_tail c b a = (leb 0xc2 a || leb 0xe0 b) || leb 0xf0 c

-- a tail that may not come after this first octet: E0 wants A0-BF, ED 80-9F, F0 90-BF, F4 80-8F
unfoldable pub is_narrow : ℕ → ℕ → Bool
is_narrow a x =
    (eqb a 0xe0 && ltb x 0xa0) || ((eqb a 0xed && ltb 0x9f x) ||
    ((eqb a 0xf0 && ltb x 0x90) || (eqb a 0xf4 && ltb 0x8f x)))

-- no tail where one is wanted, or neither ASCII nor a first octet where none is
unfoldable pub is_wrong : (c b a x : ℕ) → Bool
is_wrong c b a x =
    ((wants_tail c b a && (ltb x 0x80 || ltb 0xbf x)) ||
    (not (wants_tail c b a) && ((leb 0x80 x && leb x 0xc1) || leb 0xf5 x))) || is_narrow a x
