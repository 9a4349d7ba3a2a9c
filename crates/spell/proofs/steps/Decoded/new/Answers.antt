-- All that a spelling decodes to is left before its first character.
use mathlib.Core.Path.{refl}
use Rattle.spell.specs.Inner.{left_of, bytes_left}
use Rattle.spell.proofs.Chars.{begin, decode_few}
use Rattle.spell.proofs.steps.Decoded.new.Goals as goal

pub returns-clause-bytes : goal.returns-clause-bytes
unfolding bytes_left left_of
returns-clause-bytes c = refl

pub returns-clause-stands : goal.returns-clause-stands
returns-clause-stands c = begin _ 0 0

pub returns-clause-few : goal.returns-clause-few
unfolding bytes_left left_of
returns-clause-few c = decode_few _
