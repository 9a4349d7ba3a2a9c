-- The row that `value_row` promises, with 9 in place of 0, where no row holds (`value_rank`).
use Rattle.message.proofs.Ranks.{value_rank}
use Rattle.message.proofs.lent.value_rank.Goals as goal

pub returns : goal.returns
returns c = value_rank _ _ _ c.value_row.ensures c.ranked.ensures
