-- The text moved the writer on, or there was none.
use Rattle.slot_replies.proofs.Lines.{line_stays, line_ended}
use Rattle.slot_replies.proofs.put_line.Goals as goal

pub returns-then-n-at : goal.returns-then-n-at
returns-then-n-at c = line_stays _ _ c.put_slot-n.ensures c.if-n-at.true

pub returns : goal.returns
returns c = line_ended _ _ c.put_slot-n.ensures c.if-n-at.false c.put.ensures
