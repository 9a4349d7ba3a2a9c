-- Three puts in a row.
use Rattle.responses.proofs.Lines.{eose_put}
use Rattle.responses.proofs.put_eose.Goals as goal

pub returns : goal.returns
returns c = eose_put _ c.put-b.ensures c.put_part-c.ensures c.put.ensures
