-- The gap, then the field.
use Rattle.wire.proofs.Laws.{puts_then}
use Rattle.fields.proofs.put_number.Goals as goal

pub returns : goal.returns
returns c = puts_then c.put_gap-a.ensures c.put_natural.ensures
