-- Three puts in a row.
use Rattle.slot_replies.proofs.Pieces.{back_put}
use Rattle.slot_replies.proofs.put_back.Goals as goal

pub returns : goal.returns
returns c = back_put _ c.put-a.ensures c.put_hex-b.ensures
    c.put.ensures
