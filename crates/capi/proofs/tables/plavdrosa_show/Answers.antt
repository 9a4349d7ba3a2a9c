-- A place and a refusal by one law, `said_place`: what `shown_at` promises is told as a row and two lent numbers.
use Rattle.capi.proofs.Table.{said_place}
use Rattle.capi.proofs.tables.plavdrosa_show.Goals as goal

pub returns-in-Ok : goal.returns-in-Ok
returns-in-Ok c = let both = said_place _ _ _ _ c.shown_at.ensures.value c.shown_at.ensures.result_value c.in-Ok.is in record { value = both.0; place_after = both.1.0; len_after = both.1.1 }

pub returns-in-Err : goal.returns-in-Err
returns-in-Err c = let both = said_place _ _ _ _ c.shown_at.ensures.value c.shown_at.ensures.result_value c.in-Err.is in record { value = both.0; place_after = both.1.0; len_after = both.1.1 }
