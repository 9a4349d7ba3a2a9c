-- Five puts in a row.
use Rattle.replies.proofs.Written.{closed_put}
use Rattle.replies.proofs.put_closed.Goals as goal

pub returns : goal.returns
returns c =
    let a = c.args in
    closed_put a.b.now a.sub a.reason c.put-a.ensures c.put_part-c.ensures
    c.put-d.ensures c.put_part-e.ensures c.put.ensures
