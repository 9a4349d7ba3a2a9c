-- A count and a refusal by one law, `said_list`: `answer` got the filters that the numbers give.
use Rattle.capi.proofs.Query.{said_list}
use Rattle.capi.proofs.filters.plavdrosa_list.Goals as goal

pub returns-in-Ok : goal.returns-in-Ok
returns-in-Ok c = let both = said_list _ _ _ _ _ c.filters_from-fs.ensures c.number_in-n.ensures c.answer.ensures.value c.answer.ensures.row_after c.in-Ok.is in record { value = both.0; row_after = both.1.0; count_after = both.1.1 }

pub returns-in-Err : goal.returns-in-Err
returns-in-Err c = let both = said_list _ _ _ _ _ c.filters_from-fs.ensures c.number_in-n.ensures c.answer.ensures.value c.answer.ensures.row_after c.in-Err.is in record { value = both.0; row_after = both.1.0; count_after = both.1.1 }
