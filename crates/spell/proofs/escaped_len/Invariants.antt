-- The invariant: the bytes counted and those left to escape are all.
use mathlib.Core.Path.{◌≡◌}
use Prim.Native.Nat.{◌+◌}
use lib.ListN.{length}
use Rattle.wire.specs.Escape.{escape}
use Rattle.spell.specs.Spell.{decode}
use Rattle.spell.specs.Inner.{left_of, Within}
use Rattle.spell.proofs.escaped_len.Given as goal

abbrev pub invariant-loop-i : goal.invariant-loop-i
invariant-loop-i l = (l.n + length (escape (left_of l.p l.i l.k)) ≡ length (escape (decode l.p))) × Within l.p l.i l.k

abbrev pub decreases-loop-i : goal.decreases-loop-i
decreases-loop-i l = length (left_of l.p l.i l.k)
