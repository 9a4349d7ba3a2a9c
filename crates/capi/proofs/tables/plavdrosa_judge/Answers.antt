-- The number and the offset of the answer that `judge_message` promises.
use Rattle.capi.proofs.Table.{offered_told}
use Rattle.capi.proofs.tables.plavdrosa_judge.Goals as goal

pub returns : goal.returns
returns c = let both = offered_told _ c.judge_message-x.ensures.value c.offered_number.ensures c.put_offered.ensures in record { value = both.0; offset_after = both.1 }
