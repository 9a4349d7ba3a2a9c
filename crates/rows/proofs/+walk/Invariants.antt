-- The items from i on, of which at most length s - _turn are left, come with what was refused by then to what the value
-- comes to with what was refused before. The cycle's measure is the depth.
use mathlib.Core.Path.{◌≡◌}
use Prim.Native.Nat.{◌-◌}
use lib.ListN.{length}
use Rattle.json_tree.specs.Tree.{items_at, tree_at}
use Rattle.rows.specs.Inner.{seen_of, seen_after}
use Rattle.rows.proofs.Laws.{seen_items}
use Rattle.rows.proofs.+walk.Given as goal

abbrev pub invariant-loop-turn : goal.invariant-loop-turn
invariant-loop-turn l = seen_items l.s l.named l.refused (items_at (tree_at l.s (l.d - 1)) l.s l.named (length l.s - l._turn) l.i) ≡ seen_after l.initial.refused (seen_of l.s (tree_at l.s l.d l.at))

abbrev pub decreases-walk : goal.decreases-walk
decreases-walk l = l.d
