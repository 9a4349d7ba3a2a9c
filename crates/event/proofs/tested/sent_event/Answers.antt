-- The row, or the parts beside the length.
use Rattle.event.proofs.Sent.{event_wrote, event_refused}
use Rattle.event.proofs.tested.sent_event.Goals as goal

pub returns-in-Ok : goal.returns-in-Ok
returns-in-Ok c = let both = event_wrote c.args.m.now c.args.out.now c.args.p (let k = c.rest_text.ensures in (k.value, (k.result_value, k.out_after))) c.in-Ok.is in record { value = both.0; result_value = both.1.0; out_after = both.1.1 }

pub returns-in-Err : goal.returns-in-Err
returns-in-Err c = let both = event_refused c.args.m.now c.args.out.now c.args.p (let k = c.rest_text.ensures in (k.value, (k.result_value, k.out_after))) c.in-Err.is c.plain_refusal.ensures in record { value = both.0; result_value = both.1.0; out_after = both.1.1 }

pub rest_text-requires : goal.rest_text-requires
rest_text-requires c = c.requires
