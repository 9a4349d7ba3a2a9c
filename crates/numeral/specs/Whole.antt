-- 01, "Numbers": an optional minus and digits, no needless leading zero, no fraction or exponent, not -0.
use Rattle.std.specs.Prelude.{Bool, true, false, cond, not, ◌&&◌, [], ◌∷◌, ℕ, ◌+◌, ◌-◌, ◌*◌, leb, eqb, ℤ, pos, neg_ℤ}
use Rattle.std.specs.Int.Signed.{lt_z}
use Rattle.wire.specs.Limits.{widest}
use Rattle.numeral.specs.declared.Whole.{Whole}
use Rattle.numeral.specs.declared.Whole.TheVariants.{Value, Large, Malformed}
use Rattle.wire.specs.Bytes.{Bytes}

unfoldable pub is_digit : ℕ → Bool
is_digit x = leb 48 x && leb x 57

unfoldable pub all_digits : Bytes → Bool
all_digits [] = true
all_digits (x ∷ l) = is_digit x && all_digits l

-- the number that digits spell; v is what those before them spell
unfoldable pub value_from : ℕ → Bytes → ℕ
value_from v [] = v
value_from v (x ∷ l) = value_from (v * 10 + (x - 48)) l

abbrev pub value_of : Bytes → ℕ
value_of l = value_from 0 l

abbrev pub is_empty : Bytes → Bool
is_empty [] = true
is_empty (x ∷ l) = false

-- at least one digit, and a first 0 only alone
unfoldable pub is_natural : Bytes → Bool
is_natural [] = false
is_natural (x ∷ l) = cond (eqb x 48) (is_empty l) (all_digits (x ∷ l))

pub data Spelled : Type 0 where
  malformed : Spelled
  whole : ℤ → Spelled

unfoldable pub natural_of : Bytes → Spelled
natural_of l = cond (is_natural l) (whole (pos (value_of l))) malformed

-- what stands after a minus: not 0
unfoldable pub negative_of : Bytes → Spelled
negative_of l = cond (is_natural l) (cond (eqb (value_of l) 0) malformed (whole (neg_ℤ (pos (value_of l))))) malformed

unfoldable pub whole_of : Bytes → Spelled
whole_of [] = malformed
whole_of (x ∷ l) = cond (eqb x 45) (negative_of l) (natural_of (x ∷ l))

unfoldable pub is_within : (x : Whole) (lo hi : ℤ) → Bool
is_within (Value z) lo hi = not (lt_z z lo) && not (lt_z hi z)
is_within Large lo hi = false
is_within Malformed lo hi = false

unfoldable pub whole_answer : Spelled → Whole
whole_answer malformed = Malformed
whole_answer (whole z) = cond (is_within (Value z) (neg_ℤ (pos widest)) (pos widest)) (Value z) Large
