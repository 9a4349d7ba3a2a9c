-- The row's text, and the offset.
use Rattle.responses.proofs.Lines.{reason_sum}
use Rattle.responses.proofs.reason_len.Goals as goal

pub returns : goal.returns
returns c = reason_sum c.args.x c.row_len.ensures c.offset_len.ensures
