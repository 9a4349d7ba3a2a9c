-- n was tested to be at most the length of b, so the slice of its first n bytes has n.
use mathlib.Core.Path.{sym}
use lib.Seq.{length-take-le}
use native.Mathlib.Omega.{arith}
use Rattle.parts_cases.proofs.put_newer.Goals as goal

pub slice_bounds-newer-end : goal.slice_bounds-newer-end
slice_bounds-newer-end c = sym (length-take-le _ _ (omega arith))
