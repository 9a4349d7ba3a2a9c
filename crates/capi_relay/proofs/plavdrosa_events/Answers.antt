-- Both answers by one law, `said_sent`, for the row and the lent numbers; `out` is as `events` left it.
use Rattle.capi_relay.proofs.Laws.{said_sent}
use Rattle.capi_relay.proofs.plavdrosa_events.Goals as goal

pub returns-in-Ok : goal.returns-in-Ok
returns-in-Ok c =
    let x = c.events.ensures in
    let s = said_sent _ _ _ _ _ _ _ x.value x.result_value c.in-Ok.is in
    record { value = s.0; out_after = x.out_after; written_after = s.1.0; sent_after = s.1.1 }

pub returns-in-Err : goal.returns-in-Err
returns-in-Err c =
    let x = c.events.ensures in
    let s = said_sent _ _ _ _ _ _ _ x.value x.result_value c.in-Err.is in
    record { value = s.0; out_after = x.out_after; written_after = s.1.0; sent_after = s.1.1 }
