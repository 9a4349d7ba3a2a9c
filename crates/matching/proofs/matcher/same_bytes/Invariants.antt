-- The invariant: what was seen and the rest decide.
use mathlib.Core.Path.{◌≡◌}
use mathlib.Core.Bool.{◌&&◌}
use Prim.Native.Nat.{◌≤◌}
use lib.ListN.{length, drop}
use Rattle.wire.specs.Bytes.{same_bytes}
use Rattle.matching.proofs.matcher.same_bytes.Given as goal

abbrev pub invariant-loop-i : goal.invariant-loop-i
invariant-loop-i l = (l.i ≤ length l.p) × (length l.p ≡ length l.q) × (same_bytes l.p l.q ≡ (l.same && same_bytes (drop l.i l.p) (drop l.i l.q)))
