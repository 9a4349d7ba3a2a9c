use native.Mathlib.Omega.{arith}
use Rattle.numeral.proofs.Digits.{digits_length, one_length}
use Rattle.numeral.proofs.natural_len.Goals as goal

pub loop-v-preserved : goal.loop-v-preserved
loop-v-preserved c = (omega (arith, digits_length c.loop-v.v c.loop-v-test.true), omega arith)

pub returns : goal.returns
returns c = omega (arith, one_length c.loop-v.v c.loop-v-test.false)
