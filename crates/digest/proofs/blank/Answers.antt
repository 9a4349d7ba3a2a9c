use Rattle.std.proofs.Common.{arith}
use Rattle.digest.proofs.Laws.{blanked}
use Rattle.digest.proofs.blank.Goals as goal

pub returns : goal.returns
returns c = blanked _ _ _ 64 (omega arith) (omega arith) (c.fill.ensures.after (λ y e. e))
