-- The invariant: the digits counted and those of v are one more than the whole.
use mathlib.Core.Path.{◌≡◌}
use Prim.Native.Nat.{◌+◌, ◌≤◌}
use lib.ListN.{length}
use Rattle.numeral.specs.Decimal.{digits}
use Rattle.numeral.proofs.natural_len.Given as goal

abbrev pub invariant-loop-v : goal.invariant-loop-v
invariant-loop-v l = (l.k + length (digits l.v) ≡ length (digits l.n) + 1) × (l.k + l.v ≤ l.n + 1)

abbrev pub decreases-loop-v : goal.decreases-loop-v
decreases-loop-v l = l.v
