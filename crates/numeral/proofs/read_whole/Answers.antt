-- A law for each arm.
use mathlib.Core.Path.{ap, ◌∙◌}
use Rattle.std.proofs.lemmas.Bool.Decides.{nat_tests}
use native.Mathlib.Omega.{arith}
use Rattle.std.proofs.lemmas.List.{take_rest}
use Rattle.numeral.specs.Inner.{natural_sum}
use Rattle.numeral.proofs.Ways.{whole_minus, whole_plain}
use Rattle.numeral.proofs.read_whole.Goals as goal
use Rattle.numeral.proofs.read_whole.Goals.{in_default-via-then-p-lt1, in_default-via-else-p-lt1+in_default-1}

pub returns-in-45 : goal.returns-in-45
returns-in-45 c = whole_minus c.args.p.now _ _ (omega arith) (c.natural_sum.ensures ∙ ap natural_sum (take_rest c.args.p.now 1)) c.below.ensures

pub returns-in_default : goal.returns-in_default
returns-in_default c = elim c.in_default.branch [
  | in_default-via-then-p-lt1 w ↦ whole_plain _ _ _ (λ e. grind (arith, nat_tests)) c.natural_sum-in_default.ensures c.above.ensures
  | in_default-via-else-p-lt1+in_default-1 w ↦ whole_plain _ _ _ (λ e. grind (arith, nat_tests)) c.natural_sum-in_default.ensures c.above.ensures
]
