-- What past_same passes, whatever is taken of its first character.
use Rattle.spell.specs.Inner.{bytes_left}
use Rattle.spell.proofs.steps.Decoded.pass_same.Goals as goal

pub returns-clause-bytes : goal.returns-clause-bytes
unfolding bytes_left
returns-clause-bytes c = c.past_same-to.ensures.is c.args.self.now.taken c.requires
