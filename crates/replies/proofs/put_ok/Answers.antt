-- Seven puts in a row.
use Rattle.replies.proofs.Written.{ok_put}
use Rattle.replies.proofs.put_ok.Goals as goal

pub returns : goal.returns
returns c =
    let a = c.args in
    ok_put a.b.now a.id a.accepted a.reason c.put-a.ensures c.put_part-c.ensures
    c.put-d.ensures c.put_truth-e.ensures
    c.put-f.ensures c.put_part-g.ensures c.put.ensures
