-- By what it names.
use Rattle.responses.proofs.Lines.{id_put, sub_put, none_put}
use Rattle.responses.proofs.put_refusal.Goals as goal

pub returns-in-Id : goal.returns-in-Id
returns-in-Id c = id_put _ _ _ c.in-Id.is c.put_ok.ensures

pub returns-in-Subscription : goal.returns-in-Subscription
returns-in-Subscription c = sub_put _ _ _ c.in-Subscription.is c.put_closed.ensures

pub returns-in-Nothing : goal.returns-in-Nothing
returns-in-Nothing c = none_put _ _ c.in-Nothing.is c.put_notice.ensures
