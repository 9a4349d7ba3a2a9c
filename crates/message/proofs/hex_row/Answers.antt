-- `hex_rank` promises the lowest rank of the part, and `told` gives its row, or 0 for no row.
use mathlib.Core.Path.{◌∙◌}
use Rattle.message.specs.Lent.{hex_row}
use Rattle.message.proofs.Ranks.{told_is}
use Rattle.message.proofs.hex_row.Goals as goal

pub returns : goal.returns
unfolding hex_row
returns c = c.told.ensures ∙ told_is c.hex_rank.ensures
