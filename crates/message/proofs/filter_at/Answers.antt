-- The parts of the members that `find` found are those of the object in the text's tree (`filter_is`).
use mathlib.Core.Path.{◌∙◌}
use Rattle.message.proofs.Found.{filter_is}
use Rattle.message.proofs.filter_at.Goals as goal

pub returns : goal.returns
returns c = c.filter_of.ensures ∙ filter_is _ _ _ c.find.ensures
