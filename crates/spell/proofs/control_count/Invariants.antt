-- The invariant: those counted and those left are all.
use mathlib.Core.Path.{◌≡◌}
use Prim.Native.Nat.{◌+◌}
use Rattle.wire.specs.Escape.{control_count}
use Rattle.spell.specs.Spell.{decode}
use Rattle.spell.specs.Inner.{bytes_left}
use Rattle.spell.proofs.control_count.Given as goal

abbrev pub invariant-loop-b : goal.invariant-loop-b
invariant-loop-b l = l.n + control_count (bytes_left l.b-iterator) ≡ control_count (decode l.p)
