-- The definition's formula.
use native.Mathlib.Omega.{arith}
use Rattle.spell.specs.Spell.{pair_of}
use mathlib.Core.Path.{refl}
use Rattle.spell.proofs.escapes.pair_code.Goals as goal

pub returns : goal.returns
unfolding pair_of
returns c = record { value = refl; upper_bound = omega arith }
