-- The invariant: the buffers keep their lengths. The measure: the lines that are left.
use mathlib.Core.Path.{◌≡◌}
use lib.ListN.{length}
use Rattle.parts_cases.proofs.main.Given as goal

abbrev pub invariant-loop-l : goal.invariant-loop-l
invariant-loop-l l = (length l.line ≡ 65536) × (length l.chunk ≡ 65536)

abbrev pub decreases-loop-l : goal.decreases-loop-l
decreases-loop-l l = l.l.left
