-- The quote alone, or three puts in a row.
use Rattle.responses.proofs.Lines.{absent_put, offset_put}
use Rattle.responses.proofs.put_offset.Goals as goal

pub returns-in-None : goal.returns-in-None
returns-in-None c = absent_put c.in-None.is c.put.ensures

pub returns-in-Some : goal.returns-in-Some
returns-in-Some c = offset_put _ c.in-Some.is c.put-a.ensures c.put_natural-b.ensures c.put-in-Some.ensures
