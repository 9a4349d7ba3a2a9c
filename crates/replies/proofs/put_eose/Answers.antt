-- Three puts in a row.
use Rattle.replies.proofs.Written.{eose_put}
use Rattle.replies.proofs.put_eose.Goals as goal

pub returns : goal.returns
returns c =
    let a = c.args in
    eose_put a.b.now a.sub c.put-a.ensures c.put_part-c.ensures c.put.ensures
