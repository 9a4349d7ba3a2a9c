-- What the calls say, in a row.
use native.Mathlib.Omega.{arith}
use Rattle.spell.specs.Spell.{four_at}
use Rattle.spell.proofs.escapes.hex_at.Goals as goal

pub returns : goal.returns
unfolding four_at
returns c = record { value = cc; upper_bound = omega arith }
