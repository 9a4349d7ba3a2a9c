-- The items from i on, of which at most as many are left as the loop has turns, end where the value does. The cycle's
-- measure is the depth.
use mathlib.Core.Path.{◌≡◌}
use Prim.Native.Nat.{◌-◌, ◌≤◌}
use lib.ListN.{length}
use Rattle.json_tree.specs.Tree.{end_of, items_at, tree_at}
use Rattle.json_tree.proofs.Trees.{end_items}
use Rattle.json_tree.proofs.+value.Given as goal

abbrev pub invariant-loop : goal.invariant-loop
invariant-loop l = (l.counter ≤ length l.s) × (end_items (items_at (tree_at l.s (l.d - 1)) l.s l.named (length l.s - l.counter) l.i) ≡ end_of (tree_at l.s l.d l.at))

abbrev pub decreases-value : goal.decreases-value
decreases-value l = l.d
