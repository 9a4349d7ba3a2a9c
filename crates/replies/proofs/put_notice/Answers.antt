-- Three puts in a row.
use Rattle.replies.proofs.Written.{notice_put}
use Rattle.replies.proofs.put_notice.Goals as goal

pub returns : goal.returns
returns c =
    let a = c.args in
    notice_put a.b.now a.reason c.put-a.ensures c.put_part-c.ensures c.put.ensures
