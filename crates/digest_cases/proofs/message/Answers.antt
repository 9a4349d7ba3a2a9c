-- `end` lies within the line, so the slice has `end` bytes; the count is bounded as `unhex` promises, or 0.
use mathlib.Core.Path.{sym}
use native.Mathlib.Omega.{arith}
use lib.Seq.{length-take-le}
use Rattle.digest_cases.proofs.message.Goals as goal

pub slice_bounds-unhex-end : goal.slice_bounds-unhex-end
slice_bounds-unhex-end c = sym (length-take-le _ _ (omega arith))
