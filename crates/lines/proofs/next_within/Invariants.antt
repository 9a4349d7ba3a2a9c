-- The invariant: the line lies in its buffer and has no 0A in it, and no more lines are left than before. The measure:
-- the lines that are left.
use Prim.Native.Nat.{◌≤◌}
use lib.ListN.{length}
use mathlib.Core.Path.{◌≡◌}
use Rattle.lines.specs.Line.{NoEnd}
use Rattle.lines.proofs.next_within.Given as goal

abbrev pub invariant-loop-l : goal.invariant-loop-l
invariant-loop-l g l = (l.input.failed ≡ l.fn.input.failed) × (l.output.failed ≡ l.fn.output.failed) × (l.l.left ≤ l.initial.l.left) × (length l.line ≡ length l.initial.line) × (length l.chunk ≡ length l.initial.chunk) × (l.l.n ≤ length l.initial.line) × NoEnd l.line l.l.n

abbrev pub decreases-loop-l : goal.decreases-loop-l
decreases-loop-l g l = l.l.left
