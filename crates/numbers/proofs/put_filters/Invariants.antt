-- The invariant: whoever puts the filters that are left has put all.
use Prim.Native.Nat.{◌-◌}
use lib.ListN.{take, drop}
use Rattle.wire.proofs.Laws.{Rest}
use Rattle.numbers.specs.Numbers.{parts_numbers}
use Rattle.numbers.proofs.put_filters.Given as goal

abbrev pub invariant-loop-i : goal.invariant-loop-i
invariant-loop-i l = Rest l.initial.out l.at (parts_numbers (take l.n l.fs)) l.out l.o (parts_numbers (take (l.n - l.i) (drop l.i l.fs)))
