-- The invariant: the characters counted and those left are all.
use mathlib.Core.Path.{◌≡◌}
use Prim.Native.Nat.{◌+◌}
use Rattle.spell.specs.Spell.{decode, points}
use Rattle.spell.specs.Inner.{bytes_left}
use Rattle.spell.proofs.characters.Given as goal

abbrev pub invariant-loop-b : goal.invariant-loop-b
invariant-loop-b l = l.n + points (bytes_left l.b-iterator) ≡ points (decode l.p)
