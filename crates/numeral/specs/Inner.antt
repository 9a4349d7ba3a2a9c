-- What the functions that read digits hand on: the number, cut off above the widest.
use Rattle.std.specs.Prelude.{cond, Option, Some, None, ℕ, suc, min, eqb, ltb, pos, neg_ℤ}
use Rattle.wire.specs.Limits.{widest}
use Rattle.numeral.specs.Whole.{all_digits, value_from, value_of, is_natural}
use Rattle.numeral.specs.declared.Whole.{Whole}
use Rattle.numeral.specs.declared.Whole.TheVariants.{Value, Large, Malformed}
use Rattle.wire.specs.Bytes.{Bytes}

-- the first number that is too large
abbrev pub above_widest : ℕ
above_widest = suc widest

unfoldable pub digits_sum : ℕ → Bytes → Option ℕ
digits_sum v l = cond (all_digits l) (Some (min (value_from v l) above_widest)) None

unfoldable pub natural_sum : Bytes → Option ℕ
natural_sum l = cond (is_natural l) (Some (min (value_of l) above_widest)) None

unfoldable pub above_of : Option ℕ → Whole
above_of (Some v) = cond (ltb widest v) Large (Value (pos v))
above_of None = Malformed

unfoldable pub below_of : Option ℕ → Whole
below_of (Some v) = cond (eqb v 0) Malformed (cond (ltb widest v) Large (Value (neg_ℤ (pos v))))
below_of None = Malformed
