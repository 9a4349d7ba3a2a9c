-- The invariant: what is counted and what is left make the whole, and each byte gives at most two.
use mathlib.Core.Path.{◌≡◌}
use Prim.Native.Nat.{◌+◌, ◌*◌, ◌≤◌}
use lib.ListN.{length, drop}
use Rattle.wire.specs.Escape.{escape}
use Rattle.wire.proofs.escaped_len.Given as goal

abbrev pub invariant-loop-b : goal.invariant-loop-b
invariant-loop-b l = (l.n + length (escape (drop l.b-index l.part)) ≡ length (escape l.part)) × (l.n ≤ 2 * l.b-index)
