-- The invariant: the answer is the same seen from here on.
use mathlib.Core.Path.{◌≡◌}
use Prim.Native.Nat.{◌-◌}
use lib.ListN.{length, drop}
use Rattle.spell.specs.Spell.{refuses, any, is_refused, chars}
use Rattle.spell.proofs.refused.Given as goal

abbrev pub invariant-loop-i : goal.invariant-loop-i
invariant-loop-i l = refuses l.p ≡ any is_refused (chars (drop l.i l.p))

abbrev pub decreases-loop-i : goal.decreases-loop-i
decreases-loop-i l = length l.p - l.i
