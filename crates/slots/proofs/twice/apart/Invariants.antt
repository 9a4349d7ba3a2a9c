-- The invariant: no slot from i on is alike to a later one, and all from i on have fallen into their buckets.
use mathlib.Core.Path.{◌≡◌}
use mathlib.Core.Bool.{true}
use Prim.Native.Nat.{◌-◌}
use Rattle.table.specs.Sound.{none_twice}
use Rattle.slots.specs.Slots.{clash, slots_from}
use Rattle.slots.specs.Marks.{Marked, Noted}
use Rattle.slots.proofs.twice.apart.Given as goal

abbrev pub invariant-loop-i : goal.invariant-loop-i
invariant-loop-i l = Marked l.table l.c l.ids l.keys × Noted l.ids l.keys l.i l.c l.seen × (none_twice clash (slots_from l.table l.i (l.c - l.i)) ≡ true)
