-- The run from i on ends where the run from `at` on ends.
use mathlib.Core.Path.{◌≡◌}
use Prim.Native.Nat.{◌-◌}
use lib.ListN.{length}
use Rattle.json_tree.specs.Grammar.{past}
use Rattle.json_tree.proofs.classes.skip.Given as goal

abbrev pub invariant-loop-class : goal.invariant-loop-class
invariant-loop-class l = past l.class l.s l.i ≡ past l.class l.s l.at

abbrev pub decreases-loop-class : goal.decreases-loop-class
decreases-loop-class l = length l.s - l.i
