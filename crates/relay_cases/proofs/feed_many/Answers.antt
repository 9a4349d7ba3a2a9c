use lib.Seq.{length-take-le}
use mathlib.Core.Path.{sym}
use native.Mathlib.Omega.{arith}
use Rattle.relay_cases.proofs.feed_many.Goals as goal

pub slice_bounds-feed_all-end : goal.slice_bounds-feed_all-end
slice_bounds-feed_all-end g c = sym (length-take-le _ _ (omega arith))
