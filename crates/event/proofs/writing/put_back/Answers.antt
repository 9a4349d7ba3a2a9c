-- Four puts in a row.
use Rattle.event.proofs.Text.{back_put}
use Rattle.event.proofs.writing.put_back.Goals as goal

pub returns : goal.returns
returns c = back_put _ _ c.piece.ensures c.put_tags_from-a.ensures c.put-c.ensures c.put_quoted-d.ensures c.put.ensures
