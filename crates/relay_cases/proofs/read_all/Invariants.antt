-- The invariant: the buffers keep their lengths.
use Prim.Native.Nat.{◌≤◌, ◌-◌}
use lib.ListN.{length}
use mathlib.Core.Path.{◌≡◌}
use Rattle.relay_cases.proofs.read_all.Given as goal

abbrev pub invariant-loop : goal.invariant-loop
invariant-loop g l = (length l.table ≡ length l.initial.table) × (length l.line ≡ length l.initial.line) × (length l.out ≡ length l.initial.out) × (length l.given ≡ length l.initial.given) × (length l.chunk ≡ length l.initial.chunk)
