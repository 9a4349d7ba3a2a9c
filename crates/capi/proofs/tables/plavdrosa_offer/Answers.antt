-- The number and the offset of the answer that `offer_message` promises; the table is as that call left it.
use Rattle.capi.proofs.Table.{offered_told}
use Rattle.capi.proofs.tables.plavdrosa_offer.Goals as goal

pub returns : goal.returns
returns c =
    let w = offered_told _ c.offer_message-x.ensures.value c.offered_number.ensures c.put_offered.ensures in
    record { value = w.0; table_after = c.offer_message-x.ensures.table_after; offset_after = w.1 }
