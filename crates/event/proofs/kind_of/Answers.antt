-- Below zero is 0, and otherwise the number itself.
use mathlib.Core.Path.{◌∙◌}
use Rattle.event.proofs.Strings.{natural_or}
use Rattle.event.proofs.kind_of.Goals as goal

pub returns : goal.returns
returns c = c.unwrap_or.ensures ∙ natural_or c.args.kind c.ranges.kind _ c.try_from.ensures
