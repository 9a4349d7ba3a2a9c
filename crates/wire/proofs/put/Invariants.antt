-- The invariant: what is left to put gives the whole.
use mathlib.Core.Path.{◌≡◌}
use Prim.Native.Nat.{◌+◌, ◌-◌, ◌≤◌, min}
use lib.ListN.{length, drop}
use Rattle.wire.specs.Put.{put}
use Rattle.wire.proofs.put.Given as goal

abbrev pub invariant-loop-i : goal.invariant-loop-i
invariant-loop-i l = (l.m ≡ min (length l.part) (length l.initial.out - l.at)) × (l.at ≤ length l.initial.out) × (length l.out ≡ length l.initial.out) × (put l.out (l.at + l.i) (drop l.i l.part) ≡ put l.initial.out l.at l.part)
