-- `finish` promises the answer and the buffers; `told` makes a row and a length of the answer.
use mathlib.Core.Path.{◌∙◌}
use Rattle.capi_relay.proofs.Laws.{length_as}
use Rattle.capi_relay.proofs.plavdrosa_finish.Goals as goal

pub returns : goal.returns
returns c =
    let t = c.told.ensures in
    let x = c.finish-x.ensures in
    record { value = t.value ∙ x.result_value; table_after = x.table_after; out_after = x.out_after; written_after = length_as _ t.written_after x.value }
