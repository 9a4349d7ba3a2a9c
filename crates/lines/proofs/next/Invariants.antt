-- The invariant: no read failed, the line lies in its buffer and has no 0A in it.
use Prim.Native.Nat.{◌≤◌}
use lib.ListN.{length}
use mathlib.Core.Path.{◌≡◌}
use Rattle.lines.specs.Line.{NoEnd}
use Rattle.lines.proofs.next.Given as goal

abbrev pub invariant-loop-turn : goal.invariant-loop-turn
invariant-loop-turn g l = (l.input.failed ≡ l.fn.input.failed) × (length l.line ≡ length l.initial.line) × (length l.chunk ≡ length l.initial.chunk) × (l.n ≤ length l.initial.line) × NoEnd l.line l.n
