-- The invariant: v stays below 10,009, so that nothing overflows.
use Prim.Native.Nat.{◌<◌}
use Rattle.digest_cases.proofs.number.Given as goal

abbrev pub invariant-loop-d : goal.invariant-loop-d
invariant-loop-d l = l.v < 10009
