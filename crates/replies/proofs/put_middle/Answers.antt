-- Six puts in a row.
use Rattle.replies.proofs.Written.{middle_put}
use Rattle.replies.proofs.put_middle.Goals as goal

pub returns : goal.returns
returns c = middle_put _ _ c.well_formed.1.1.1.0.1.1.1.0.1 c.well_formed.1.1.1.0.1.1.1.1.0.1
    c.kind_of-kind.ensures c.put-a.ensures c.put_decimal-c.ensures
    c.put-d.ensures c.put_natural-e.ensures c.put-f.ensures
    c.put_tags.ensures
