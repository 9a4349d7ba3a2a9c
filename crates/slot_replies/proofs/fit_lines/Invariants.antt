-- The invariant: the answer is what the lines that are left give of the room that is left.
use mathlib.Core.Path.{◌≡◌}
use Prim.Native.Nat.{◌-◌}
use lib.ListN.{length, drop}
use Rattle.slot_replies.specs.Inner.{sizes, fitted_in}
use Rattle.slot_replies.proofs.fit_lines.Given as goal

abbrev pub invariant-loop-i : goal.invariant-loop-i
invariant-loop-i l = fitted_in 0 l.room (sizes l.table l.n l.ks) ≡ fitted_in l.i l.left (sizes l.table l.n (drop l.i l.ks))
