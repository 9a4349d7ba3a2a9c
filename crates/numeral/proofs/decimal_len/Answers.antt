-- The digits, and one for a minus.
use mathlib.Core.Path.{ap}
use native.Mathlib.Omega.{arith}
use lib.ListN.{length}
use Rattle.numeral.proofs.Digits.{digits_20}
use Rattle.numeral.proofs.Ways.{decimal_below, decimal_above}
use Rattle.numeral.proofs.decimal_len.Goals as goal

pub returns-then-x-lt0 : goal.returns-then-x-lt0
returns-then-x-lt0 c =
    let h = ap length (decimal_below c.args.x c.well_formed.0 _ c.unsigned_abs.ensures.value c.if-x-lt0.true) in
    omega arith

pub returns-else-x-lt0 : goal.returns-else-x-lt0
returns-else-x-lt0 c =
    let h = ap length (decimal_above c.args.x c.well_formed.0 _ c.unsigned_abs.ensures.value c.if-x-lt0.false) in
    omega arith

pub overflow_add-result : goal.overflow_add-result
overflow_add-result c = omega (arith, digits_20 c.unsigned_abs.result (omega arith))
