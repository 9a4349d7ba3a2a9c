-- The invariant: the bytes passed are escaped to themselves.
use Prim.Native.Nat.{◌-◌}
use lib.ListN.{length}
use Rattle.spell.specs.Inner.{Same}
use Rattle.spell.proofs.steps.past_same.Given as goal

abbrev pub invariant-loop-n : goal.invariant-loop-n
invariant-loop-n l = Same l.p l.i l.n

abbrev pub decreases-loop-n : goal.decreases-loop-n
decreases-loop-n l = length l.p - l.n
