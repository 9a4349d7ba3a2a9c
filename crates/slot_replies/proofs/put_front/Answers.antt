-- Four puts in a row.
use Rattle.slot_replies.proofs.Pieces.{front_put}
use Rattle.slot_replies.proofs.put_front.Goals as goal

pub returns : goal.returns
returns c = front_put _ _ c.put-a.ensures c.put_json-b.ensures c.put-c.ensures
    c.put_hex.ensures
