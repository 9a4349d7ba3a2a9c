-- The number that a field spells: digits, or a minus and digits. It is below 2^64, or within the 64 bits of a signed
-- one.
use Rattle.std.specs.Prelude.{Bool, true, cond, ◌&&◌, List, [], ◌∷◌, ℕ, ◌+◌, ◌-◌, ◌*◌, ◌^◌, eqb, ltb, ℤ, length, drop, get_or}
use Rattle.wire.specs.Field.{signed}
use Rattle.numeral.specs.Whole.{is_digit}
use Rattle.fields.specs.Line.{field_of}

-- a digit more; what is no digit, and one too many, begins anew with 0
unfoldable pub grown_by : ℕ → ℕ → ℕ
grown_by v b = cond (is_digit b && ltb (v * 10 + (b - 48)) (2 ^ 64)) (v * 10 + (b - 48)) 0

-- the number that bytes spell; v is what those before them spell
unfoldable pub natural_field : ℕ → List ℕ → ℕ
natural_field v [] = v
natural_field v (b ∷ l) = natural_field (grown_by v b) l

-- minus v, at 64 bits
unfoldable pub complement_of : ℕ → ℕ
complement_of v = cond (eqb v 0) 0 (2 ^ 64 - v)

unfoldable pub integer_of : List ℕ → ℤ
integer_of p = cond (eqb (get_or p 0 0) 45) (signed (complement_of (natural_field 0 (drop 1 p)))) (signed (natural_field 0 p))

-- a field that is empty or begins with x: what may be absent is
unfoldable pub is_absent : List ℕ → Bool
is_absent p = cond (eqb (length p) 0) true (eqb (get_or p 0 0) 120)

-- the number in field k
unfoldable pub count_field : List ℕ → ℕ → ℕ
count_field l k = natural_field 0 (field_of l k)
