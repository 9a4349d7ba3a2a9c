-- Six puts in a row.
use Rattle.slot_replies.proofs.Pieces.{numbers_put}
use Rattle.slot_replies.proofs.put_numbers.Goals as goal

pub returns : goal.returns
returns c = numbers_put _ _ c.requires c.well_formed.1.1.1.0.1.1.0.1 c.piece.ensures c.put-a.ensures
    c.put-b.ensures c.put-c.ensures c.put_decimal-d.ensures
    c.put-e.ensures c.put_natural.ensures
