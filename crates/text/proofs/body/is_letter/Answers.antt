-- A test for each letter of the definition.
use Rattle.text.proofs.Ways.{letter_is}
use Rattle.text.proofs.body.is_letter.Goals as goal

pub returns : goal.returns
returns c = letter_is _
