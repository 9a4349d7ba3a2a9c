-- The sum of what the four calls say.
use native.Mathlib.Omega.{arith}
use Rattle.spell.specs.Spell.{four}
use Rattle.spell.proofs.escapes.hex4.Goals as goal

pub returns : goal.returns
unfolding four
returns c = record { value = cc; upper_bound = omega arith }
