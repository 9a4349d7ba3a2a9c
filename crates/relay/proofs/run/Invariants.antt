-- The invariant: the buffers stay ready.
use mathlib.Core.Path.{◌≡◌}
use Prim.Native.Nat.{◌≤◌, ◌-◌}
use lib.ListN.{length}
use Rattle.relay.specs.Inner.{Ready}
use Rattle.relay.proofs.run.Given as goal

abbrev pub invariant-loop : goal.invariant-loop
invariant-loop g l = Ready l.table l.line l.out × (length l.table ≡ length l.initial.table) × (length l.line ≡ length l.initial.line)
    × (length l.chunk ≡ length l.initial.chunk) × (length l.out ≡ length l.initial.out)
