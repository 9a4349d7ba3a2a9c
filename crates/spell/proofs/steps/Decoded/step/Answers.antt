-- What advance says.
use Rattle.spell.specs.Inner.{bytes_left}
use Rattle.spell.proofs.steps.Decoded.step.Goals as goal

pub returns-clause-byte : goal.returns-clause-byte
unfolding bytes_left
returns-clause-byte c = c.advance-x.ensures.left
