-- The invariant: the output keeps its length.
use lib.ListN.{length}
use mathlib.Core.Path.{◌≡◌}
use Rattle.digest_cases.proofs.unhex.Given as goal

abbrev pub invariant-loop-i : goal.invariant-loop-i
invariant-loop-i l = length l.out ≡ length l.initial.out
