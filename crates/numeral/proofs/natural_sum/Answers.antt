-- A law for each arm.
use mathlib.Core.Path.{◌∙◌}
use Rattle.std.proofs.lemmas.Bool.Decides.{nat_tests}
use native.Mathlib.Omega.{arith}
use Rattle.numeral.proofs.Ways.{natural_none, natural_zeros, natural_rest}
use Rattle.numeral.proofs.natural_sum.Goals as goal
use Rattle.numeral.proofs.natural_sum.Goals.{in_default-via-then-p-lt2, in_default-via-else-p-lt2+in_default-1}

pub returns-in-empty : goal.returns-in-empty
returns-in-empty c = natural_none _ c.in-empty.len_below

pub returns-in-48 : goal.returns-in-48
returns-in-48 c = natural_zeros _ c.in-48.len_at_least (omega arith)

pub returns-in_default : goal.returns-in_default
returns-in_default c = c.digits_sum.ensures ∙ elim c.in_default.branch [
  | in_default-via-then-p-lt2 w ↦ natural_rest _ (grind (arith, nat_tests)) (λ e. grind (arith, nat_tests))
  | in_default-via-else-p-lt2+in_default-1 w ↦ natural_rest _ (grind (arith, nat_tests)) (λ e. grind (arith, nat_tests))
]
