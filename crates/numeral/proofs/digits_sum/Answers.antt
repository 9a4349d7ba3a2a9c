use mathlib.Core.Path.{refl}
use native.Mathlib.Omega.{arith}
use Rattle.numeral.proofs.Ways.{seen_end_lem, seen_low, seen_high, seen_more}
use Rattle.numeral.proofs.digits_sum.Goals as goal

pub grow-v-requires : goal.grow-v-requires
grow-v-requires c = (omega (arith, c.loop-x.invariant.is), omega arith, omega arith)

pub loop-x-preserved : goal.loop-x-preserved
loop-x-preserved c = seen_more c.loop-x.invariant c.loop-x-test.true (omega arith) (omega arith) _ c.grow-v.ensures

pub loop-x-init : goal.loop-x-init
loop-x-init c = record { sum = 0; is = refl; same = refl }

pub returns-in_default : goal.returns-in_default
returns-in_default c = seen_low c.loop-x.invariant c.loop-x-test.true (omega arith)

pub returns-in_default-2 : goal.returns-in_default-2
returns-in_default-2 c = seen_high c.loop-x.invariant c.loop-x-test.true (omega arith)

pub returns : goal.returns
returns c = seen_end_lem c.loop-x.invariant c.loop-x-test.false
