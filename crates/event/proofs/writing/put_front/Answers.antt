-- Seven puts in a row.
use borrow.Author.Rules.{rules}
use Rattle.event.proofs.Text.{front_put}
use Rattle.event.proofs.writing.put_front.Goals as goal

pub shape_of-out : goal.shape_of-out
shape_of-out c = search rules

pub returns : goal.returns
returns c = front_put _ _ (search rules) (search rules) c.piece.ensures c.kind_of.ensures c.put-a.ensures c.put_decoded-c.ensures c.put-d.ensures c.put_decimal-e.ensures c.put-f.ensures c.put_natural-g.ensures c.put.ensures
