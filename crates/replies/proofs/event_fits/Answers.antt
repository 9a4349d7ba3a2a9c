-- The length of tested parts.
use Rattle.replies.proofs.Written.{event_room}
use Rattle.replies.proofs.event_fits.Goals as goal

pub returns : goal.returns
returns c = event_room _ _ _ c.requires c.well_formed.1.1.1.0.1 c.json_len.ensures c.part_len.ensures
    c.has_room.ensures
