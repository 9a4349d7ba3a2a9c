-- The invariant: what was found or stands in the rest is what stands in the whole.
use mathlib.Core.Path.{◌≡◌}
use mathlib.Core.Bool.{◌||◌}
use lib.ListN.{drop}
use Rattle.wire.specs.Bytes.{has_control}
use Rattle.wire.proofs.has_control.Given as goal

abbrev pub invariant-loop-b : goal.invariant-loop-b
invariant-loop-b l = (l.found || has_control (drop l.b-index l.s)) ≡ has_control l.s
