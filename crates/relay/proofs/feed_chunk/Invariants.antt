-- The invariant: the buffers stay ready. The measure: what is left of the chunk, and whether something waits.
use mathlib.Core.Path.{◌≡◌}
use lib.ListN.{length}
use Rattle.relay.specs.Inner.{Ready, Stands, waiting_from}
use Rattle.relay.proofs.feed_chunk.Given as goal

abbrev pub invariant-loop-p : goal.invariant-loop-p
invariant-loop-p g l = Ready l.table l.line l.out × Stands l.chunk l.out l.p × (length l.table ≡ length l.initial.table) × (length l.line ≡ length l.initial.line) × (length l.out ≡ length l.initial.out)

abbrev pub decreases-loop-p : goal.decreases-loop-p
decreases-loop-p g l = waiting_from l.chunk l.p
