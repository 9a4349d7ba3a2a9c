-- The invariant: the output has 65 bytes.
use lib.ListN.{length}
use mathlib.Core.Path.{◌≡◌}
use Rattle.digest_cases.proofs.show.Given as goal

abbrev pub invariant-loop-i : goal.invariant-loop-i
invariant-loop-i g l = length l.out ≡ 65
