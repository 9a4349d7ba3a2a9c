-- The row and the offset of what `message_refusal` answers.
use Rattle.capi.proofs.Laws.{row_told_lem}
use Rattle.capi.proofs.messages.plavdrosa_message_row.Goals as goal

pub returns : goal.returns
returns c = let both = row_told_lem _ _ c.message_refusal-r.ensures c.put_offset.ensures in record { value = both.0; offset_after = both.1 }
