-- The definition.
use Rattle.spell.specs.Spell.{is_refused}
use Rattle.spell.proofs.is_refused.Goals as goal

pub returns : goal.returns
unfolding is_refused
returns c = c.is_surrogate.ensures
