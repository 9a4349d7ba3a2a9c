-- Two pieces.
use Rattle.responses.proofs.Lines.{reason_put}
use Rattle.responses.proofs.put_reason.Goals as goal

pub returns : goal.returns
returns c = reason_put c.args.x c.put_row-a.ensures c.put_offset.ensures
