-- The rows of the items from i on, after what was tallied before, are those of the whole value. The cycle's measure is
-- the depth.
use Rattle.std.proofs.Common.{length, ◌-◌, ◌≡◌}
use Rattle.json_tree.specs.Tree.{items_at, tree_at}
use Rattle.shape.specs.Inner.{judged_of}
use Rattle.shape.proofs.Walks.{judged_items}
use Rattle.shape.proofs.+judge.Given as goal

abbrev pub decreases-judge : goal.decreases-judge
decreases-judge l = l.d

abbrev pub invariant-loop-k : goal.invariant-loop-k
invariant-loop-k l = judged_items l.s l.named l.inner l.k l.a (items_at (tree_at l.s (l.d - 1)) l.s l.named (length l.s - l.k) l.i) ≡ judged_of l.s l.form l.at (tree_at l.s l.d l.at)
