-- Five puts in a row.
use Rattle.responses.proofs.Lines.{ok_put}
use Rattle.responses.proofs.put_ok.Goals as goal

pub returns : goal.returns
returns c = ok_put _ _ c.put-b.ensures c.put_part-c.ensures c.put-d.ensures c.put_verdict-e.ensures c.put.ensures
