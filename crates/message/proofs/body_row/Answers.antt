-- `body_rank` promises the lowest rank of the fields, and `told` gives its row, or 0 for no row.
use mathlib.Core.Path.{◌∙◌}
use Rattle.message.specs.Lent.{body_row}
use Rattle.message.proofs.Ranks.{told_is}
use Rattle.message.proofs.body_row.Goals as goal

pub returns : goal.returns
unfolding body_row
returns c = c.told.ensures ∙ told_is c.body_rank.ensures
