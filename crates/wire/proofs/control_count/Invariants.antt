-- The invariant: what is counted and what stands in the rest make the whole.
use mathlib.Core.Path.{◌≡◌}
use Prim.Native.Nat.{◌+◌, ◌≤◌}
use lib.ListN.{drop}
use Rattle.wire.specs.Escape.{control_count}
use Rattle.wire.proofs.control_count.Given as goal

abbrev pub invariant-loop-b : goal.invariant-loop-b
invariant-loop-b l = (l.n + control_count (drop l.b-index l.s) ≡ control_count l.s) × (l.n ≤ l.b-index)
