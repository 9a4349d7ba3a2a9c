-- Nothing at the start, a space elsewhere.
use Rattle.fields.proofs.Fields.{gap_none, gap_some}
use Rattle.fields.proofs.put_gap.Goals as goal

pub returns-then-at-eq0 : goal.returns-then-at-eq0
returns-then-at-eq0 c = gap_none _ _ c.if-at-eq0.true

pub returns-else-at-eq0 : goal.returns-else-at-eq0
returns-else-at-eq0 c = rw (gap_some _ c.if-at-eq0.false) c.put_byte.ensures
