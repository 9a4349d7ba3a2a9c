-- The gap and the row, then the offset.
use mathlib.Core.List.{append_assoc}
use Rattle.wire.proofs.Laws.{puts_then}
use Rattle.fields.proofs.put_refusal.Goals as goal

pub returns : goal.returns
returns c = rw (← append_assoc) (puts_then c.put_number-a.ensures c.put_offset.ensures)
