-- The definition's tests.
use mathlib.Core.Path.{refl}
use Rattle.wire.specs.Bytes.{is_hex}
use Rattle.wire.proofs.is_hex_digit.Goals as goal

pub returns : goal.returns
unfolding is_hex
returns c = refl
