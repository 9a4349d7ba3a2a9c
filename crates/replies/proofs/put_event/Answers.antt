-- Three puts in a row.
use Rattle.replies.proofs.Written.{event_put}
use Rattle.replies.proofs.put_event.Goals as goal

pub returns : goal.returns
returns c =
    let a = c.args in
    event_put a.b.now a.sub a.p c.put_front-a.ensures c.put_middle-c.ensures
    c.put_back.ensures
