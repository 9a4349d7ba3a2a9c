-- The definition's tests.
use mathlib.Core.Path.{refl}
use Rattle.text.specs.Inner.Windows.{wants_tail}
use Rattle.text.proofs.octets.wants_tail.Goals as goal

pub returns : goal.returns
unfolding wants_tail
returns c = refl
