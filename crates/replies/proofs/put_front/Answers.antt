-- Six puts in a row.
use Rattle.replies.proofs.Written.{front_put}
use Rattle.replies.proofs.put_front.Goals as goal

pub returns : goal.returns
returns c =
    let a = c.args in
    front_put a.b.now a.sub a.id a.p c.put-a.ensures c.put_part-c.ensures
    c.put-d.ensures c.put_part-e.ensures c.put-f.ensures
    c.put_part.ensures
