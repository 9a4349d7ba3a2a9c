-- n was tested to be at most the room's length, so the slice that is the table has n bytes.
use mathlib.Core.Path.{sym}
use lib.Seq.{length-take-le}
use native.Mathlib.Omega.{arith}
use Rattle.table_cases.proofs.put_call.Goals as goal

pub slice_bounds-put_answer-end-2 : goal.slice_bounds-put_answer-end-2
slice_bounds-put_answer-end-2 c = sym (length-take-le _ _ (omega arith))
