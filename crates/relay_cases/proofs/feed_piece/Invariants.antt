-- The invariant: `at` is at most the piece's length, and the buffers keep theirs.
use Prim.Native.Nat.{◌≤◌, ◌-◌}
use lib.ListN.{length}
use mathlib.Core.Path.{◌≡◌}
use Rattle.relay_cases.proofs.feed_piece.Given as goal

abbrev pub invariant-loop : goal.invariant-loop
invariant-loop g l = (l.at ≤ length l.piece) × (length l.table ≡ length l.initial.table) × (length l.line ≡ length l.initial.line) × (length l.out ≡ length l.initial.out)
