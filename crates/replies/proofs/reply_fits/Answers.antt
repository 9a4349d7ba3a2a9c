-- The length of each kind of reply.
use mathlib.Core.Path.{sym}
use Rattle.replies.proofs.Written.{same_row, same_room, ok_room, eose_room, closed_room, notice_room}
use Rattle.replies.proofs.reply_fits.Goals as goal

pub event_fits-requires : goal.event_fits-requires
event_fits-requires c = sym (same_row _ _ (sym c.in-Event.is) (sym c.requires))

pub returns-in-Ok : goal.returns-in-Ok
returns-in-Ok c = ok_room c.args.b.now c.well_formed.1.1.0.1 _ _ _ c.in-Ok.is c.part_len.ensures
    c.part_len-in-Ok.ensures c.truth_len.ensures.0 c.has_room.ensures

pub returns-in-Event : goal.returns-in-Event
returns-in-Event c = same_room _ _ c.in-Event.is c.event_fits.ensures

pub returns-in-Eose : goal.returns-in-Eose
returns-in-Eose c = eose_room c.args.b.now c.well_formed.1.1.0.1 _ c.in-Eose.is c.part_len-in-Eose.ensures c.has_room-in-Eose.ensures

pub returns-in-Closed : goal.returns-in-Closed
returns-in-Closed c = closed_room c.args.b.now c.well_formed.1.1.0.1 _ _ c.in-Closed.is
    c.part_len-in-Closed.ensures c.part_len-in-Closed-2.ensures c.has_room-in-Closed.ensures

pub returns-in-Notice : goal.returns-in-Notice
returns-in-Notice c = notice_room c.args.b.now c.well_formed.1.1.0.1 _ c.in-Notice.is c.part_len-in-Notice.ensures c.has_room-in-Notice.ensures
