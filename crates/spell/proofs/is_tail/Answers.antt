-- The two sides of the first test.
use Rattle.wire.proofs.Laws.{tests}
use Rattle.spell.proofs.is_tail.Goals as goal

pub returns-then-x-ge128 : goal.returns-then-x-ge128
returns-then-x-ge128 c = search tests

pub returns-else-x-ge128 : goal.returns-else-x-ge128
returns-else-x-ge128 c = search tests
