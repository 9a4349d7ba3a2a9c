-- A byte that fits is stored, and past the end nothing is.
use Rattle.wire.proofs.Laws.{puts_one, puts_out}
use Rattle.wire.proofs.put_byte.Goals as goal

pub returns-then-at-out : goal.returns-then-at-out
returns-then-at-out c = puts_one _ _ _ c.if-at-out.true

pub returns : goal.returns
returns c = puts_out _ _ _ c.if-at-out.false
