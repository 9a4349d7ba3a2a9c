-- 01, "The text that is hashed": numbers are shortest decimal.
use Rattle.std.specs.Prelude.{true, false, [], ◌∷◌, ◌++◌, ℕ, zero, suc, ◌+◌, ◌/◌, ◌%◌, ltb, ℤ, pos, negsuc}
use Rattle.wire.specs.Bytes.{Bytes}

-- the digits of n, where n is below f: those of n / 10, then the last
unfoldable pub digits_in : ℕ → ℕ → Bytes
digits_in zero n = []
digits_in (suc f) n = elim (ltb n 10) [ true ↦ (48 + n) ∷ [] | false ↦ digits_in f (n / 10) ++ ((48 + n % 10) ∷ []) ]

unfoldable pub digits : ℕ → Bytes
digits n = digits_in (suc n) n

unfoldable pub decimal : ℤ → Bytes
decimal (pos n) = digits n
decimal (negsuc n) = 45 ∷ digits (suc n)
