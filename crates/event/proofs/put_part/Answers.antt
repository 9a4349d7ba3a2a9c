-- The very part.
use Rattle.event.proofs.put_part.Goals as goal

pub returns : goal.returns
returns c = rw c.piece.ensures at c.put_json.ensures
