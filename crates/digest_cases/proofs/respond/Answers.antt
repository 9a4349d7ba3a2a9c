-- `message` promises an n within the buffer, so each slice of its first n bytes has n.
use mathlib.Core.Path.{sym}
use native.Mathlib.Omega.{arith}
use lib.Seq.{length-take-le}
use Rattle.digest_cases.proofs.respond.Goals as goal

pub slice_bounds-update-end : goal.slice_bounds-update-end
slice_bounds-update-end g c = sym (length-take-le _ _ (omega arith))

pub slice_bounds-pieces-end : goal.slice_bounds-pieces-end
slice_bounds-pieces-end g c = sym (length-take-le _ _ (omega arith))
