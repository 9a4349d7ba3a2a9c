-- Nothing, or an @ and then the digits.
use Rattle.wire.proofs.Laws.{puts_then}
use Rattle.fields.proofs.put_offset.Goals as goal

pub returns-in-Some : goal.returns-in-Some
returns-in-Some c = rw c.in-Some.is (puts_then c.put-a.ensures c.put_natural.ensures)
