-- A writer for each kind of reply.
use Rattle.replies.proofs.Written.{same_put}
use Rattle.replies.proofs.put_reply.Goals as goal

pub returns-in-Ok : goal.returns-in-Ok
returns-in-Ok c = same_put _ _ c.in-Ok.is c.put_ok.ensures

pub returns-in-Event : goal.returns-in-Event
returns-in-Event c = same_put _ _ c.in-Event.is c.put_event.ensures

pub returns-in-Eose : goal.returns-in-Eose
returns-in-Eose c = same_put _ _ c.in-Eose.is c.put_eose.ensures

pub returns-in-Closed : goal.returns-in-Closed
returns-in-Closed c = same_put _ _ c.in-Closed.is c.put_closed.ensures

pub returns-in-Notice : goal.returns-in-Notice
returns-in-Notice c = same_put _ _ c.in-Notice.is c.put_notice.ensures
