-- The two sides of the first `&&`.
use Rattle.wire.proofs.Laws.{tests}
use Rattle.spell.proofs.is_surrogate.Goals as goal

pub returns-then-n-ge55296 : goal.returns-then-n-ge55296
returns-then-n-ge55296 c = search tests

pub returns-else-n-ge55296 : goal.returns-else-n-ge55296
returns-else-n-ge55296 c = search tests
