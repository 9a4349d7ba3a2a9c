-- The invariant: no slot between i and j is alike, so the rest decides.
use mathlib.Core.Path.{◌≡◌}
use Prim.Native.Nat.{◌+◌, ◌-◌}
use Rattle.law.specs.Lists.{any}
use Rattle.table.specs.Layout.{slot_at}
use Rattle.slots.specs.Slots.{clash, slots_from}
use Rattle.slots.proofs.twice.again.Given as goal

abbrev pub invariant-loop-j : goal.invariant-loop-j
invariant-loop-j l = any (clash (slot_at l.table l.i)) (slots_from l.table (l.i + 1) (l.c - (l.i + 1))) ≡ any (clash (slot_at l.table l.i)) (slots_from l.table l.j (l.c - l.j))
