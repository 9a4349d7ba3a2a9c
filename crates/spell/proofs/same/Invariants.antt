-- The invariant: the answer is the same for what is left of both.
use mathlib.Core.Path.{◌≡◌}
use Rattle.wire.specs.Bytes.{same_bytes}
use Rattle.spell.specs.Spell.{decode}
use Rattle.spell.specs.Inner.{bytes_left, Stands}
use Rattle.spell.proofs.same.Given as goal

abbrev pub invariant-loop-b : goal.invariant-loop-b
invariant-loop-b l = (same_bytes (decode l.p) (decode l.q) ≡ same_bytes (bytes_left l.left) (bytes_left l.b-iterator)) × Stands l.left
