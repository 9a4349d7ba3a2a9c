-- The parts of the members that `find` found are those of the object in the text's tree (`event_is`).
use Rattle.message.proofs.Found.{event_is}
use Rattle.message.proofs.values.event_at.Goals as goal

pub returns : goal.returns
returns c = simp (c.span_in.ensures, c.body_in.ensures, c.span_in-2.ensures) (event_is _ _ _ c.find-m.ensures)
