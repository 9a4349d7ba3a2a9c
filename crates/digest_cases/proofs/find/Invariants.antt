-- The invariant: i lies between `at` and the line's end.
use Prim.Native.Nat.{◌≤◌}
use lib.ListN.{length}
use Rattle.digest_cases.proofs.find.Given as goal

abbrev pub invariant-loop-i : goal.invariant-loop-i
invariant-loop-i l = (l.at ≤ l.i) × (l.i ≤ length l.line)
