-- A law for each way out.
use Rattle.slot_replies.proofs.Answers.{id-refused, not-shown, slot-sent, no_room_lem}
use Rattle.slot_replies.proofs.slot_event.Goals as goal

pub returns-then-row-ne0 : goal.returns-then-row-ne0
returns-then-row-ne0 c = let both = id-refused _ _ _ _ _ c.subscription_row-row.ensures c.if-row-ne0.true in record { value = both.0; result_value = both.1.0; out_after = both.1.1 }

pub returns-then-later-ne0 : goal.returns-then-later-ne0
returns-then-later-ne0 c =
    let both = not-shown _ _ _ _ _ c.subscription_row-row.ensures c.if-row-ne0.false
    c.shown_row-later.ensures c.if-later-ne0.true in record { value = both.0; result_value = both.1.0; out_after = both.1.1 }

pub returns-then-slot_fits : goal.returns-then-slot_fits
returns-then-slot_fits c = let a = c.args in let both = slot-sent a.table.now a.slot a.m.now a.sub a.out.now c.subscription_row-row.ensures c.if-row-ne0.false c.shown_row-later.ensures c.if-later-ne0.false c.slot-s.ensures c.piece-id.ensures c.slot_fits.ensures c.if-slot_fits.true c.put_slot.ensures in record { value = both.0; result_value = both.1.0; out_after = both.1.1 }

pub returns : goal.returns
returns c = let a = c.args in let both = no_room_lem a.table.now a.slot a.m.now a.sub a.out.now c.subscription_row-row.ensures c.if-row-ne0.false c.shown_row-later.ensures c.if-later-ne0.false c.slot-s.ensures c.piece-id.ensures c.slot_fits.ensures c.if-slot_fits.false in record { value = both.0; result_value = both.1.0; out_after = both.1.1 }
