-- Each arm is a clause of `offered_offset`.
use Rattle.capi.proofs.Table.{offset_told}
use Rattle.capi.proofs.tables.put_offered.Goals as goal

pub returns-in-Err : goal.returns-in-Err
returns-in-Err c = offset_told _ c.in-Err.is c.put_offset.ensures
