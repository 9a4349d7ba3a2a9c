-- The tests in the order of the definition; a number of the range is its own cast.
use Rattle.wire.proofs.Laws.{tests}
use Rattle.numeral.specs.Inner.{above_of}
use Rattle.numeral.proofs.Ways.{plain}
use Rattle.numeral.proofs.above.Goals as goal

pub returns-in-Some : goal.returns-in-Some
unfolding above_of
returns-in-Some c = rw (c.in-Some.is, plain _ c.if-v-le-WIDEST.true) (search tests)

pub returns-in-Some-2 : goal.returns-in-Some-2
unfolding above_of
returns-in-Some-2 c = rw c.in-Some.is (search tests)

pub returns-in-None : goal.returns-in-None
unfolding above_of
returns-in-None c = rw c.in-None.is
