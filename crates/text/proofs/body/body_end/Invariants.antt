-- The end seen from here is the end seen from the start.
use mathlib.Core.Path.{◌≡◌}
use mathlib.Core.Bool.{false}
use Prim.Native.Nat.{◌-◌, ◌<◌}
use lib.ListN.{length, drop}
use Rattle.text.specs.Read.{body_from}
use Rattle.text.specs.Inner.Parts.{got_end}
use Rattle.text.proofs.body.body_end.Given as goal

abbrev pub invariant-loop-i : goal.invariant-loop-i
invariant-loop-i l = (l.run < 16) × (got_end (body_from false l.at (drop l.at l.s)) ≡ got_end (body_from false l.i (drop l.i l.s)))

abbrev pub decreases-loop-i : goal.decreases-loop-i
decreases-loop-i l = length l.s - l.i
