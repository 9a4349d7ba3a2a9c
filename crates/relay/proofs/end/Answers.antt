-- What was written lies in the output.
use Rattle.relay.proofs.Turns.{finish_room}
use Rattle.relay.proofs.end.Goals as goal

pub write-requires : goal.write-requires
write-requires g c = let f = c.finish.ensures in finish_room _ _ _ _ (f.value, (f.result_value, (f.table_after, f.out_after))) c.in-Ok.is
