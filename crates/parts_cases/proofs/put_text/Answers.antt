-- The room was tested to be at most 4200, the buffer's length, so the slice has that many bytes.
use mathlib.Core.Path.{sym}
use lib.Seq.{length-take-le}
use native.Mathlib.Omega.{arith}
use Rattle.parts_cases.proofs.put_text.Goals as goal

pub slice_bounds-put_into-end : goal.slice_bounds-put_into-end
slice_bounds-put_into-end c = sym (length-take-le _ _ (omega arith))
