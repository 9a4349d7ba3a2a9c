-- n was tested to be at most 4096, the buffer's length, so the slice of its first n bytes has n.
use mathlib.Core.Path.{sym}
use native.Mathlib.Omega.{arith}
use lib.Seq.{length-take-le}
use Rattle.event_cases.proofs.put_text.Goals as goal

pub slice_bounds-put-end-then-n-le4096 : goal.slice_bounds-put-end-then-n-le4096
slice_bounds-put-end-then-n-le4096 c = sym (length-take-le _ _ (omega arith))
