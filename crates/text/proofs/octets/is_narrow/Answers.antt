-- The definition's tests.
use mathlib.Core.Path.{refl}
use Rattle.text.specs.Inner.Windows.{is_narrow}
use Rattle.text.proofs.octets.is_narrow.Goals as goal

pub returns : goal.returns
unfolding is_narrow
returns c = refl
