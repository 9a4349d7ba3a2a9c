-- A turn of the loop is a byte of w.
use mathlib.Core.Path.{◌≡◌}
use Prim.Native.Nat.{◌≤◌}
use lib.ListN.{length, drop}
use Rattle.json_tree.specs.Grammar.{word_at}
use Rattle.json_tree.proofs.classes.word.Given as goal

abbrev pub invariant-loop-b : goal.invariant-loop-b
invariant-loop-b l = (l.b-index ≤ length l.w) × (word_at l.s (drop l.b-index l.w) l.i ≡ word_at l.s l.w l.at)
