-- The order of slices.
use mathlib.Core.Path.{◌∙◌}
use Rattle.event.specs.Order.{is_lower}
use Rattle.event.proofs.Order.{lower_lists}
use Rattle.event.proofs.is_lower.Goals as goal

pub returns : goal.returns
unfolding is_lower
returns c = c.lt.ensures ∙ lower_lists c.args.p.now c.args.q.now
