-- What `offer_parts` promises holds of the parts that the numbers give, as `event_from` gave just these.
use Rattle.capi.proofs.Table.{offered_as}
use Rattle.capi.proofs.tables.plavdrosa_offer_parts.Goals as goal

pub returns : goal.returns
returns c = let both = offered_as _ _ c.event_from-p.ensures c.offered_number.ensures c.offer_parts.ensures.value c.offer_parts.ensures.table_after in record { value = both.0; table_after = both.1 }
