-- Three puts in a row.
use Rattle.responses.proofs.Lines.{notice_put}
use Rattle.responses.proofs.put_notice.Goals as goal

pub returns : goal.returns
returns c = notice_put _ c.put-b.ensures c.put_reason-c.ensures c.put.ensures
