-- The invariant: i lies within the line and f.at within the message.
use Prim.Native.Nat.{◌≤◌}
use lib.ListN.{length}
use Rattle.digest_cases.proofs.pieces.Given as goal

abbrev pub invariant-loop : goal.invariant-loop
invariant-loop l = (l.i ≤ length l.line) × (l.f.at ≤ length l.m)
