-- The table, and what stands behind it.
use Rattle.responses.proofs.Lines.{row_length, rest_length}
use Rattle.responses.proofs.row_len.Goals as goal

pub returns-then-row-lt13 : goal.returns-then-row-lt13
returns-then-row-lt13 c = row_length _ c.if-row-lt13.true

pub returns : goal.returns
returns c = rest_length _ c.if-row-lt13.false
