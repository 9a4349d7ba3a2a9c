-- By what was made of the message.
use Rattle.offers.proofs.Takes.{new_event, event_taken, refused_taken}
use Rattle.offers.proofs.take.Goals as goal

pub offer_slot-a-requires : goal.offer_slot-a-requires
offer_slot-a-requires c =
    let a = c.args in
    new_event a.table.now a.m.now c.make_event.ensures c.in-Ok.is

pub returns-in-Ok : goal.returns-in-Ok
returns-in-Ok c =
    let a = c.args in
    let both = event_taken a.table.now a.m.now c.make_event.ensures c.in-Ok.is (c.offer_slot-a.ensures.value, c.offer_slot-a.ensures.table_after) in
    record { value = both.0; result_value = both.1.0; table_after = both.1.1 }

pub returns-in-Err : goal.returns-in-Err
returns-in-Err c =
    let a = c.args in
    let both = refused_taken a.table.now a.m.now c.make_event.ensures c.in-Err.is c.untaken.ensures in
    record { value = both.0; result_value = both.1.0; table_after = both.1.1 }
