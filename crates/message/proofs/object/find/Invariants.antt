-- The fold from i on, from what was found so far, is the fold over all members.
use mathlib.Core.Path.{◌≡◌}
use mathlib.Core.Bool.{true}
use Prim.Native.Nat.{◌-◌}
use lib.ListN.{length}
use Rattle.json_tree.specs.Tree.{items_at, tree_at}
use Rattle.json_tree.proofs.Trees.{fold_got}
use Rattle.message.specs.Lists.{open_within}
use Rattle.message.specs.Parts.{members_at}
use Rattle.message.specs.Inner.{no_members, found_in}
use Rattle.message.proofs.Found.{by}
use Rattle.message.proofs.object.find.Given as goal

abbrev pub invariant-loop-k : goal.invariant-loop-k
invariant-loop-k l = fold_got (by l.s l.event) no_members l.a (items_at (tree_at l.s open_within) l.s true (length l.s - l._k) l.i) ≡ found_in l.s l.event (members_at l.s l.at)
