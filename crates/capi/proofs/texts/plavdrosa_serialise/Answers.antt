-- A length and a refusal by one law, `said_length`: `serialise` got the body that the numbers give.
use Rattle.capi.proofs.Laws.{body_of_lem, said_length}
use Rattle.capi.proofs.texts.plavdrosa_serialise.Goals as goal

pub returns-in-Ok : goal.returns-in-Ok
returns-in-Ok c = let both = said_length _ _ _ (body_of_lem _ c.event_from-p.ensures) c.serialise.ensures.value c.serialise.ensures.out_after _ c.in-Ok.is in record { value = both.0; out_after = both.1.0; len_after = both.1.1 }

pub returns-in-Err : goal.returns-in-Err
returns-in-Err c = let both = said_length _ _ _ (body_of_lem _ c.event_from-p.ensures) c.serialise.ensures.value c.serialise.ensures.out_after _ c.in-Err.is in record { value = both.0; out_after = both.1.0; len_after = both.1.1 }
