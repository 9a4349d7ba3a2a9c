-- Five puts in a row.
use Rattle.responses.proofs.Lines.{closed_put}
use Rattle.responses.proofs.put_closed.Goals as goal

pub returns : goal.returns
returns c = closed_put _ _ c.put-b.ensures c.put_part-c.ensures c.put-d.ensures c.put_reason-e.ensures c.put.ensures
