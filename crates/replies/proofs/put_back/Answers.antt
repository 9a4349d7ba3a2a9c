-- Five puts in a row.
use Rattle.replies.proofs.Written.{back_put}
use Rattle.replies.proofs.put_back.Goals as goal

pub returns : goal.returns
returns c =
    let a = c.args in
    back_put a.b.now a.p a.sig c.put-a.ensures c.put_part-c.ensures
    c.put-d.ensures c.put_part-e.ensures c.put.ensures
