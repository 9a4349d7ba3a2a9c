-- By what it names.
use Rattle.responses.proofs.Lines.{id_room, sub_room, none_room}
use Rattle.responses.proofs.refusal_fits.Goals as goal

pub returns-in-Id : goal.returns-in-Id
returns-in-Id c = id_room c.args.m.now _ c.reason_len-k.ensures c.well_formed.1.1.0.1 _ c.in-Id.is c.part_len.ensures c.has_room.ensures

pub returns-in-Subscription : goal.returns-in-Subscription
returns-in-Subscription c = sub_room c.args.m.now _ c.reason_len-k.ensures c.well_formed.1.1.0.1 _ c.in-Subscription.is c.part_len-in-Subscription.ensures c.has_room-in-Subscription.ensures

pub returns-in-Nothing : goal.returns-in-Nothing
returns-in-Nothing c = none_room c.args.m.now _ c.reason_len-k.ensures c.well_formed.1.1.0.1 c.in-Nothing.is c.has_room-in-Nothing.ensures
