-- Both answers by one law, `said_turn`, for the row and the lent numbers; the buffers are as `turn` left them.
use Rattle.capi_relay.proofs.Laws.{said_turn}
use Rattle.capi_relay.proofs.plavdrosa_turn.Goals as goal

pub returns-in-Ok : goal.returns-in-Ok
returns-in-Ok c =
    let x = c.turn.ensures in
    let s = said_turn _ _ _ _ _ _ _ _ x.value x.result_value c.in-Ok.is in
    record {
      value = s.0;
      table_after = x.table_after;
      line_after = x.line_after;
      kept_after = s.1.0;
      out_after = x.out_after;
      used_after = s.1.1.0;
      written_after = s.1.1.1;
    }

pub returns-in-Err : goal.returns-in-Err
returns-in-Err c =
    let x = c.turn.ensures in
    let s = said_turn _ _ _ _ _ _ _ _ x.value x.result_value c.in-Err.is in
    record {
      value = s.0;
      table_after = x.table_after;
      line_after = x.line_after;
      kept_after = s.1.0;
      out_after = x.out_after;
      used_after = s.1.1.0;
      written_after = s.1.1.1;
    }
