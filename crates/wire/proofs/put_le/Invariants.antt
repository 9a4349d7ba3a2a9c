-- The invariant: the bytes that are left give the whole.
use mathlib.Core.Path.{◌≡◌}
use Prim.Native.Nat.{◌-◌}
use Rattle.wire.specs.Field.{le_bytes}
use Rattle.wire.specs.Put.{put}
use Rattle.wire.proofs.put_le.Given as goal

abbrev pub invariant-loop-b : goal.invariant-loop-b
invariant-loop-b l = put l.b-items l.b-index (le_bytes (l.m - l.b-index) l.x) ≡ put l.initial.b-items 0 (le_bytes l.m l.v)
