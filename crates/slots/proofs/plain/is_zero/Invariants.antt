-- The invariant: the bytes so far are zero exactly where x is, and the rest decides.
use mathlib.Core.Path.{◌≡◌}
use mathlib.Core.Bool.{◌&&◌}
use lib.Dec.{eqb}
use lib.ListN.{drop}
use Rattle.table.specs.Sound.{is_zero}
use Rattle.slots.proofs.plain.is_zero.Given as goal

abbrev pub invariant-loop-b : goal.invariant-loop-b
invariant-loop-b l = is_zero l.s ≡ (eqb 0 l.x && is_zero (drop l.b-index l.s))
