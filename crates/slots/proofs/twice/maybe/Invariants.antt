-- The invariant: while nothing hit, the numbers so far differ.
use mathlib.Core.Path.{◌≡◌}
use mathlib.Core.Bool.{false}
use Rattle.slots.specs.Marks.{Unlike}
use Rattle.slots.proofs.twice.maybe.Given as goal

abbrev pub invariant-loop-j : goal.invariant-loop-j
invariant-loop-j l = l.hit ≡ false → Unlike l.ids l.keys l.i l.j
