-- The row has the kind exactly if it is among the numbers.
use mathlib.Core.Path.{◌∙◌}
use Rattle.matching.proofs.matcher.Ways.{kinds_any}
use Rattle.matching.proofs.matcher.has.Goals as goal

pub returns : goal.returns
returns c = c.contains.ensures.value ∙ kinds_any c.args.row.now c.args.k
