-- The length of the very part.
use Rattle.event.proofs.part_len.Goals as goal

pub returns : goal.returns
returns c = rw c.piece.ensures at c.string_len.ensures
