-- The invariant: those that are held of the rest are counted behind the i before them.
use mathlib.Core.Path.{◌≡◌}
use Prim.Native.Nat.{◌+◌, ◌-◌}
use lib.ListN.{length, drop}
use Rattle.slot_replies.specs.Inner.{held_len}
use Rattle.slot_replies.proofs.held_len.Given as goal

abbrev pub invariant-loop-i : goal.invariant-loop-i
invariant-loop-i l = held_len l.table l.ks ≡ l.i + held_len l.table (drop l.i l.ks)
