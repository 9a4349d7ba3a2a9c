-- One put after another.
use Rattle.wire.proofs.Laws.{puts_then}
use Rattle.slots.proofs.header.put_fresh.Goals as goal

pub returns : goal.returns
returns c = puts_then
    (puts_then (puts_then (puts_then c.put_le-a.ensures c.put_le-b.ensures)
    c.put_le-c.ensures) c.put_le-d.ensures)
    c.put_zeros.ensures
