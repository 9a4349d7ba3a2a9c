-- A turn of the loop is a character, and the characters from i on end where those from `at` on end.
use mathlib.Core.Path.{◌≡◌}
use Prim.Native.Nat.{◌-◌}
use lib.ListN.{length}
use Rattle.json_tree.specs.Grammar.{chars_at}
use Rattle.json_tree.proofs.leaves.chars.Given as goal

abbrev pub invariant-loop-i : goal.invariant-loop-i
invariant-loop-i l = chars_at l.s l.i ≡ chars_at l.s l.at

abbrev pub decreases-loop-i : goal.decreases-loop-i
decreases-loop-i l = length l.s - l.i
