-- The invariant: the buffers keep their lengths. The measure: `rest`, which a turn lessens by a size that is not 0.
use lib.ListN.{length}
use mathlib.Core.Path.{◌≡◌}
use Rattle.relay_cases.proofs.feed_many.Given as goal

abbrev pub invariant-loop-rest : goal.invariant-loop-rest
invariant-loop-rest g l = (length l.table ≡ length l.initial.table) × (length l.line ≡ length l.initial.line) × (length l.out ≡ length l.initial.out)

abbrev pub decreases-loop-rest : goal.decreases-loop-rest
decreases-loop-rest g l = l.rest
